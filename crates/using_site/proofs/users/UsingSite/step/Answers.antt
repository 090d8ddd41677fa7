use Rattle.waiting_calls.specs.Called.{called}
use Rattle.using_site.proofs.users.UsingSite.step.Goals as goal

pub returns-in-Open-clause-step : goal.returns-in-Open-clause-step
returns-in-Open-clause-step c = λ a all. rw c.in-Open.is (rw c.opening_of.ensures at (c.open.ensures.step c.args.frame.now (called c.args.caller.now a) all))

pub returns-in-OpenToMend-clause-step : goal.returns-in-OpenToMend-clause-step
returns-in-OpenToMend-clause-step c = λ a all. rw c.in-OpenToMend.is (c.open-in-OpenToMend.ensures.step c.args.frame.now (called c.args.caller.now a) all)

pub returns-in-Make-clause-step : goal.returns-in-Make-clause-step
returns-in-Make-clause-step c = λ a all. rw c.in-Make.is (rw c.made_for-set.ensures at (c.open-in-Make.ensures.step c.args.frame.now (called c.args.caller.now a) all))

pub returns-in-Do-clause-step : goal.returns-in-Do-clause-step
returns-in-Do-clause-step c = λ a all. rw c.in-Do.is (c.operate.ensures.step c.args.frame.now a all)
