use Rattle.std.proofs.Common.{◌≡◌, ◌+◌, drop}
use Rattle.epoch_rules.specs.of_role_steps.Epochs.{met_by_all}
use Rattle.partition_protocol.specs.Promising.{promises_from}
use Rattle.partition_protocol.proofs.chosen.fully_connected.Given as goal

abbrev pub invariant-loop-place : goal.invariant-loop-place
invariant-loop-place l = met_by_all l.left (promises_from (l.place + 1) (drop l.place l.promises)) ≡ met_by_all l.fn.set (promises_from 1 l.promises)
