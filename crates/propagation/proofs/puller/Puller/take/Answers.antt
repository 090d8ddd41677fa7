use Rattle.std.proofs.Common.{sym, subst, List}
use Rattle.role_steps.specs.declared.pulls.Pull.{Pull}
use Rattle.propagation.specs.Sized.{AreSized}
use Rattle.propagation.proofs.Sizes.{sized_removed, sized_found}
use Rattle.propagation.proofs.puller.Puller.take.Goals as goal

pub invariant_of-self : goal.invariant_of-self
invariant_of-self c = subst (λ (ps : List Pull). AreSized ps) (sym c.remove.ensures.left) (sized_removed c.file_key.result c.self.inside.pulls c.self.invariant)

pub returns-clause-sized : goal.returns-clause-sized
returns-clause-sized c = sized_found c.remove.result c.file_key.result c.self.inside.pulls c.self.invariant c.remove.ensures.removed
