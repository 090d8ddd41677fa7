use Rattle.std.proofs.Common.{◌≡◌, drop}
use Rattle.tree_steps.specs.Answers.{busy_among}
use Rattle.tree_steps.proofs.opening.busy.Given as goal

abbrev pub invariant-loop-instance : goal.invariant-loop-instance
invariant-loop-instance l = busy_among l.mode l.file l.instances ≡ busy_among l.mode l.file (drop l.instance-index l.instances)
