use Rattle.audit_instances.specs.Rows.{held_again}
use Rattle.audit_instances.proofs.Own.{changed_there, changed_nowhere, own_kept}
use Rattle.audit_instances.proofs.instances.Instances.hold_again.Goals as goal

pub invariant_of-self : goal.invariant_of-self
invariant_of-self c =
    own_kept c.args.inst c.index_mut-row.result.now c.hold_again.new.self c.self.inside.items.items c.as_slice.result.now c.in-Some.place
    c.as_slice.ensures.value c.in-Some.ensures.place c.index_mut-row.ensures.value c.hold_again.ensures.kept c.self.invariant

pub invariant_of-self-in-Some : goal.invariant_of-self-in-Some
invariant_of-self-in-Some c =
    own_kept c.args.inst c.index_mut-row.result.now c.hold_again.new.self c.self.inside.items.items c.as_slice.result.now c.in-Some.place
    c.as_slice.ensures.value c.in-Some.ensures.place c.index_mut-row.ensures.value c.hold_again.ensures.kept c.self.invariant

pub returns-in_ok-hold_again-in-Some : goal.returns-in_ok-hold_again-in-Some
returns-in_ok-hold_again-in-Some c =
    changed_there c.args.inst held_again c.index_mut-row.result.now c.hold_again.new.self c.args.self.now c.self.inside.items.items c.as_slice.result.now c.in-Some.place
    c.self.view_is c.as_slice.ensures.value c.in-Some.ensures.place c.index_mut-row.ensures.value c.in_ok-hold_again-in-Some.ensures.ok c.self.invariant

pub returns-in-None : goal.returns-in-None
returns-in-None c =
    changed_nowhere c.args.inst held_again c.args.self.now c.self.inside.items.items c.as_slice.result.now c.self.view_is c.as_slice.ensures.value c.in-None.ensures.place c.self.invariant
