use Rattle.std.proofs.Common.{◌≡◌, drop, filter}
use Rattle.epoch_rules.specs.of_role_steps.Views.{all_sites}
use Rattle.partition_protocol.specs.Promising.{is_missing}
use Rattle.partition_protocol.proofs.passed.has_all.Given as goal

abbrev pub invariant-loop-place : goal.invariant-loop-place
invariant-loop-place l = filter (is_missing l.polled l.promises) (drop l.place all_sites) ≡ filter (is_missing l.polled l.promises) all_sites
