use Rattle.std.proofs.Common.{◌≡◌, ◌++◌, drop}
use Rattle.role_steps.specs.Pulling.{pull_repeats}
use Rattle.propagation.proofs.puller.repeat_pulls.Given as goal

abbrev pub invariant-loop-pull : goal.invariant-loop-pull
invariant-loop-pull l = record {
  packets : l.out.packets ++ pull_repeats l.frame (drop l.pull-index l.pulls) ≡ l.fn.out.packets ++ pull_repeats l.frame l.pulls;
  records : l.out.records ≡ l.fn.out.records;
}
