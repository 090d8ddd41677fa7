use Rattle.std.proofs.Common.{ap, ◌∙◌, ◌≤◌, Some, List, length, filter, subst}
use Rattle.std.specs.List.{find, position_from}
use Rattle.past_laws.specs.of_promises.Past.{Instance, is_named}
use Rattle.tree_tables.proofs.RowLists.{find-at, find-nowhere}
use Rattle.audit_instances.proofs.instances.Instances.named.Goals as goal

pub returns-in-Some-clause-found : goal.returns-in-Some-clause-found
returns-in-Some-clause-found c =
    ap (λ x. Some x) c.index.ensures
    ∙ find-at (is_named c.args.inst) c.self.inside.items.items c.in-Some.place c.index.result.now
    (c.in-Some.ensures.place ∙ ap (position_from (is_named c.args.inst) 0) c.as_slice.ensures.value)
    ∙ ap (find (is_named c.args.inst)) c.self.view_is

pub returns-in-Some-clause-one : goal.returns-in-Some-clause-one
returns-in-Some-clause-one c = subst (λ (xs : List Instance). length (filter (is_named c.args.inst) xs) ≤ 1) c.self.view_is (c.self.invariant c.args.inst)

pub returns-in-None-clause-one : goal.returns-in-None-clause-one
returns-in-None-clause-one c = subst (λ (xs : List Instance). length (filter (is_named c.args.inst) xs) ≤ 1) c.self.view_is (c.self.invariant c.args.inst)

pub returns-in-None-clause-found : goal.returns-in-None-clause-found
returns-in-None-clause-found c =
    find-nowhere (is_named c.args.inst) c.self.inside.items.items
    (c.in-None.ensures.place ∙ ap (position_from (is_named c.args.inst) 0) c.as_slice.ensures.value)
    ∙ ap (find (is_named c.args.inst)) c.self.view_is
