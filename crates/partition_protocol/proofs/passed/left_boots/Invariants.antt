use Rattle.std.proofs.Common.{◌≡◌, ◌<◌, ◌+◌, ℕ, get_or, length}
use Rattle.locus_ids.specs.Sizes.{sites_max}
use Rattle.epoch_rules.specs.of_role_steps.Epochs.{left_boot}
use Rattle.partition_protocol.proofs.passed.left_boots.Given as goal

abbrev pub invariant-loop-place : goal.invariant-loop-place
invariant-loop-place l = record {
  whole : length l.boot ≡ sites_max;
  made : (k : ℕ) → k < l.place → get_or l.boot k 0 ≡ left_boot l.links l.polled (k + 1);
}
