use Rattle.std.proofs.Common.{sym, subst}
use Rattle.role_steps.specs.declared.pulls.Pull.{Pull}
use Rattle.propagation.specs.Sized.{IsSized}
use Rattle.propagation.proofs.Sizes.{sized_at}
use Rattle.propagation.proofs.puller.repeat_pulls.Goals as goal

pub send_next-requires : goal.send_next-requires
send_next-requires c = subst (λ (p : Pull). IsSized p) (sym c.pull-item.is) (sized_at c.args.pulls.now c.loop-pull.pull-index c.pull-item.result c.loop-pull-test.true c.requires)
