use Rattle.std.proofs.Common.{ap, ◌∙◌, Some}
use Rattle.std.specs.List.{find, position_from}
use Rattle.tree_model.specs.Working.{is_target}
use Rattle.tree_tables.proofs.RowLists.{find-at, find-nowhere}
use Rattle.tree_tables.proofs.instances.Instances.target.Goals as goal

pub returns-in-Some : goal.returns-in-Some
returns-in-Some c =
    ap (λ x. Some x) c.index.ensures
    ∙ find-at (is_target c.args.call c.args.ino) c.self.inside.items.items c.in-Some.place c.index.result.now
    (c.in-Some.ensures.place ∙ ap (position_from (is_target c.args.call c.args.ino) 0) c.as_slice.ensures.value)
    ∙ ap (find (is_target c.args.call c.args.ino)) c.self.view_is

pub returns-in-None : goal.returns-in-None
returns-in-None c =
    find-nowhere (is_target c.args.call c.args.ino) c.self.inside.items.items
    (c.in-None.ensures.place ∙ ap (position_from (is_target c.args.call c.args.ino) 0) c.as_slice.ensures.value)
    ∙ ap (find (is_target c.args.call c.args.ino)) c.self.view_is
