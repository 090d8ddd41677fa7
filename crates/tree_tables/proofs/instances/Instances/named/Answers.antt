use Rattle.std.proofs.Common.{ap, ◌∙◌, Some}
use Rattle.std.specs.List.{find, position_from}
use Rattle.tree_model.specs.State.{is_named}
use Rattle.tree_tables.proofs.RowLists.{find-at, find-nowhere}
use Rattle.tree_tables.proofs.instances.Instances.named.Goals as goal

pub returns-in-Some : goal.returns-in-Some
returns-in-Some c =
    ap (λ x. Some x) c.index.ensures
    ∙ find-at (is_named c.args.inst) c.self.inside.items.items c.in-Some.place c.index.result.now
    (c.in-Some.ensures.place ∙ ap (position_from (is_named c.args.inst) 0) c.as_slice.ensures.value)
    ∙ ap (find (is_named c.args.inst)) c.self.view_is

pub returns-in-None : goal.returns-in-None
returns-in-None c =
    find-nowhere (is_named c.args.inst) c.self.inside.items.items
    (c.in-None.ensures.place ∙ ap (position_from (is_named c.args.inst) 0) c.as_slice.ensures.value)
    ∙ ap (find (is_named c.args.inst)) c.self.view_is
