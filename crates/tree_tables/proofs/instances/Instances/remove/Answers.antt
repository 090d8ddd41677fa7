use Rattle.std.proofs.Common.{◌∙◌}
use Rattle.tree_model.specs.State.{is_named}
use Rattle.tree_tables.proofs.RowLists.{without_first-at, without_first-nowhere}
use Rattle.tree_tables.proofs.instances.Instances.remove.Goals as goal

pub returns-in-Some : goal.returns-in-Some
returns-in-Some c =
    c.remove.ensures.items
    ∙ without_first-at (is_named c.args.inst) c.args.self.now c.self.inside.items.items c.as_slice.result.now c.in-Some.place
    c.self.view_is c.as_slice.ensures.value c.in-Some.ensures.place

pub returns-in_default : goal.returns-in_default
returns-in_default c =
    without_first-nowhere (is_named c.args.inst) c.args.self.now c.self.inside.items.items c.as_slice.result.now
    c.self.view_is c.as_slice.ensures.value c.in_default.ensures.place
