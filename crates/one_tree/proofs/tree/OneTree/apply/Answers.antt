use Rattle.one_tree.proofs.Leading.{leads}
use Rattle.one_tree.proofs.tree.OneTree.apply.Goals as goal

pub returns-clause-fold : goal.returns-clause-fold
returns-clause-fold c =
    λ config epoch group before line tree versions given. leads c.args.h.now c.args.self.now c.step.new.self c.args.r.now c.in_ok-told.told c.in_ok-told.ensures.applied c.in_ok-told.ensures.next
    config epoch group before line tree versions given
