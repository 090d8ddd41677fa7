use Rattle.std.proofs.Common.{ap, ◌∙◌, Some}
use Rattle.std.specs.List.{find, position_from}
use Rattle.std.specs.Option.{option_map}
use Rattle.past_laws.specs.of_promises.Past.{Instance, is_named}
use Rattle.tree_tables.proofs.RowLists.{find-at, find-nowhere}
use Rattle.audit_instances.specs.Rows.{no_work, with_work}
use Rattle.audit_instances.proofs.Own.{changed_there, changed_nowhere, own_kept}
use Rattle.audit_instances.proofs.instances.Instances.take_work.Goals as goal

pub invariant_of-self : goal.invariant_of-self
invariant_of-self c =
    own_kept c.args.inst c.index_mut-row.result.now c.take_work.new.self c.self.inside.items.items c.as_slice.result.now c.in-Some.place
    c.as_slice.ensures.value c.in-Some.ensures.place c.index_mut-row.ensures.value c.take_work.ensures.kept c.self.invariant

pub invariant_of-self-in-Some : goal.invariant_of-self-in-Some
invariant_of-self-in-Some c =
    own_kept c.args.inst c.index_mut-row.result.now c.take_work.new.self c.self.inside.items.items c.as_slice.result.now c.in-Some.place
    c.as_slice.ensures.value c.in-Some.ensures.place c.index_mut-row.ensures.value c.take_work.ensures.kept c.self.invariant

pub returns-in_ok-work-in-Some-clause-work : goal.returns-in_ok-work-in-Some-clause-work
returns-in_ok-work-in-Some-clause-work c =
    ap (λ w. Some w) c.in_ok-work-in-Some.ensures.work
    ∙ (ap (λ (x : Instance). Some x.work) c.index_mut-row.ensures.value
    ∙ (ap (option_map (λ (x : Instance). x.work)) (find-at (is_named c.args.inst) c.self.inside.items.items c.in-Some.place c.index_mut-row.result.now
    (c.in-Some.ensures.place ∙ ap (position_from (is_named c.args.inst) 0) c.as_slice.ensures.value))
    ∙ ap (λ xs. option_map (λ (x : Instance). x.work) (find (is_named c.args.inst) xs)) c.self.view_is))

pub returns-in_ok-work-in-Some-clause-left : goal.returns-in_ok-work-in-Some-clause-left
returns-in_ok-work-in-Some-clause-left c =
    changed_there c.args.inst (with_work no_work) c.index_mut-row.result.now c.take_work.new.self c.args.self.now c.self.inside.items.items c.as_slice.result.now c.in-Some.place
    c.self.view_is c.as_slice.ensures.value c.in-Some.ensures.place c.index_mut-row.ensures.value c.in_ok-work-in-Some.ensures.left c.self.invariant

pub returns-in-None-clause-work : goal.returns-in-None-clause-work
returns-in-None-clause-work c =
    ap (option_map (λ (x : Instance). x.work)) (find-nowhere (is_named c.args.inst) c.self.inside.items.items
    (c.in-None.ensures.place ∙ ap (position_from (is_named c.args.inst) 0) c.as_slice.ensures.value)
    ∙ ap (find (is_named c.args.inst)) c.self.view_is)

pub returns-in-None-clause-left : goal.returns-in-None-clause-left
returns-in-None-clause-left c =
    changed_nowhere c.args.inst (with_work no_work) c.args.self.now c.self.inside.items.items c.as_slice.result.now c.self.view_is c.as_slice.ensures.value c.in-None.ensures.place c.self.invariant
