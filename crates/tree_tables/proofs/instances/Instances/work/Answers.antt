use Rattle.tree_model.specs.State.{is_named}
use Rattle.tree_tables.specs.Worked.{worked}
use Rattle.tree_tables.proofs.RowLists.{changed-at, change_first-nowhere}
use Rattle.tree_tables.proofs.instances.Instances.work.Goals as goal

pub returns-in-Some : goal.returns-in-Some
returns-in-Some c =
    changed-at (is_named c.args.inst) (worked c.args.work) c.index_mut-instance.result.now c.args.self.now c.self.inside.items.items c.as_slice.result.now c.in-Some.place
    c.self.view_is c.as_slice.ensures.value c.in-Some.ensures.place c.index_mut-instance.ensures.value

pub returns-in_default : goal.returns-in_default
returns-in_default c =
    change_first-nowhere (is_named c.args.inst) (worked c.args.work) c.args.self.now c.self.inside.items.items c.as_slice.result.now c.self.view_is c.as_slice.ensures.value c.in_default.ensures.place
