use Rattle.std.proofs.Common.{set, ap, ◌∙◌}
use Rattle.tree_model.specs.State.{is_writer}
use Rattle.tree_model.specs.Tree.{once_committed}
use Rattle.tree_model.specs.of_file_effects.Works.{committed}
use Rattle.tree_tables.proofs.RowLists.{changed-at, change_first-nowhere}
use Rattle.tree_tables.proofs.instances.Instances.commit.Goals as goal

pub returns-in-Some : goal.returns-in-Some
returns-in-Some c =
    ap (λ pages. set c.self.inside.items.items c.in-Some.place (record (c.index_mut-instance.result.now) { work = record (committed c.args.stamp c.index_mut-instance.result.now.work) { changed = pages } })) c.clear.ensures
    ∙ changed-at (is_writer c.args.file c.args.site) (once_committed c.args.stamp) c.index_mut-instance.result.now c.args.self.now c.self.inside.items.items c.as_slice.result.now c.in-Some.place
    c.self.view_is c.as_slice.ensures.value c.in-Some.ensures.place c.index_mut-instance.ensures.value

pub returns-in_default : goal.returns-in_default
returns-in_default c =
    change_first-nowhere (is_writer c.args.file c.args.site) (once_committed c.args.stamp) c.args.self.now c.self.inside.items.items c.as_slice.result.now c.self.view_is c.as_slice.ensures.value c.in_default.ensures.place
