use Rattle.std.proofs.Common.{◌≡◌, ◌+◌, drop}
use Rattle.epoch_rules.specs.of_role_steps.Epochs.{candidates}
use Rattle.partition_protocol.specs.Promising.{promises_from}
use Rattle.partition_protocol.proofs.chosen.candidates.Given as goal

abbrev pub invariant-loop-place : goal.invariant-loop-place
invariant-loop-place l = l.chosen ≡ candidates l.me (promises_from (l.place + 1) (drop l.place l.promises))
