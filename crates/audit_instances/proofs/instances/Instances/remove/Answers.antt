use Rattle.past_laws.specs.of_promises.Past.{is_named}
use Rattle.audit_instances.proofs.Own.{gone_there, gone_nowhere, own_without}
use Rattle.audit_instances.proofs.instances.Instances.remove.Goals as goal

pub invariant_of-self : goal.invariant_of-self
invariant_of-self c =
    own_without (is_named c.args.inst) c.self.inside.items.items c.remove.new.self.items
    (gone_there c.args.inst c.self.inside.items.items c.self.inside.items.items c.as_slice.result.now c.remove.new.self.items c.in-Some.place
    (λ i. c.self.inside.items.items) c.as_slice.ensures.value c.in-Some.ensures.place c.remove.ensures.items c.self.invariant) c.self.invariant

pub returns-in-Some : goal.returns-in-Some
returns-in-Some c =
    gone_there c.args.inst c.args.self.now c.self.inside.items.items c.as_slice.result.now c.remove.new.self.items c.in-Some.place
    c.self.view_is c.as_slice.ensures.value c.in-Some.ensures.place c.remove.ensures.items c.self.invariant

pub returns-in_default : goal.returns-in_default
returns-in_default c =
    gone_nowhere c.args.inst c.args.self.now c.self.inside.items.items c.as_slice.result.now c.self.view_is c.as_slice.ensures.value c.in_default.ensures.place c.self.invariant
