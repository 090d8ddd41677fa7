use Rattle.std.proofs.Common.{refl}
use Rattle.audit_instances.specs.Rows.{with_work}
use Rattle.audit_instances.proofs.Own.{changed_there, changed_nowhere, own_there}
use Rattle.audit_instances.proofs.instances.Instances.put_work.Goals as goal

pub invariant_of-self : goal.invariant_of-self
invariant_of-self c =
    own_there c.args.inst (with_work c.args.work) (λ x. refl) c.index_mut-row.result.now c.put_work.new.self c.self.inside.items.items c.as_slice.result.now c.in-Some.place
    c.as_slice.ensures.value c.in-Some.ensures.place c.index_mut-row.ensures.value c.put_work.ensures c.self.invariant

pub returns-in-Some : goal.returns-in-Some
returns-in-Some c =
    changed_there c.args.inst (with_work c.args.work) c.index_mut-row.result.now c.put_work.new.self c.args.self.now c.self.inside.items.items c.as_slice.result.now c.in-Some.place
    c.self.view_is c.as_slice.ensures.value c.in-Some.ensures.place c.index_mut-row.ensures.value c.put_work.ensures c.self.invariant

pub returns-in_default : goal.returns-in_default
returns-in_default c =
    changed_nowhere c.args.inst (with_work c.args.work) c.args.self.now c.self.inside.items.items c.as_slice.result.now c.self.view_is c.as_slice.ensures.value c.in_default.ensures.place c.self.invariant
