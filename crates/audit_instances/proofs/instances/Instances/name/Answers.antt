use Rattle.std.proofs.Common.{refl}
use Rattle.audit_instances.specs.Rows.{once_named}
use Rattle.audit_instances.proofs.Own.{changed_there, changed_nowhere, own_there}
use Rattle.audit_instances.proofs.instances.Instances.name.Goals as goal

pub invariant_of-self : goal.invariant_of-self
invariant_of-self c =
    own_there c.args.inst once_named (λ x. refl) c.index_mut-row.result.now c.name.new.self c.self.inside.items.items c.as_slice.result.now c.in-Some.place
    c.as_slice.ensures.value c.in-Some.ensures.place c.index_mut-row.ensures.value c.name.ensures c.self.invariant

pub returns-in-Some : goal.returns-in-Some
returns-in-Some c =
    changed_there c.args.inst once_named c.index_mut-row.result.now c.name.new.self c.args.self.now c.self.inside.items.items c.as_slice.result.now c.in-Some.place
    c.self.view_is c.as_slice.ensures.value c.in-Some.ensures.place c.index_mut-row.ensures.value c.name.ensures c.self.invariant

pub returns-in_default : goal.returns-in_default
returns-in_default c =
    changed_nowhere c.args.inst once_named c.args.self.now c.self.inside.items.items c.as_slice.result.now c.self.view_is c.as_slice.ensures.value c.in_default.ensures.place c.self.invariant
