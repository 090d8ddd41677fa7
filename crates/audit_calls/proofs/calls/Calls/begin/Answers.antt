use Rattle.audit_calls.proofs.calls.Calls.begin.Goals as goal

pub invariant_of-self : goal.invariant_of-self
invariant_of-self c = c.push_to.ensures.index c.self.invariant c.requires
