use Rattle.std.proofs.Common.{◌≡◌, drop}
use Rattle.role_steps.specs.Pulling.{ascend_from}
use Rattle.propagation.proofs.pulling.ascend_from.Given as goal

abbrev pub invariant-loop-page : goal.invariant-loop-page
invariant-loop-page l = ascend_from l.least (drop l.page-index l.pages) ≡ ascend_from l.first l.pages
