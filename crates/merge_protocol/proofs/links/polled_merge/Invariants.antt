use Rattle.std.proofs.Common.{◌≡◌, ◌<◌, ◌+◌, ℕ, get_or, length}
use Rattle.locus_ids.specs.Sizes.{sites_max}
use Rattle.role_steps.specs.Epochs.{merge_boot}
use Rattle.merge_protocol.proofs.links.polled_merge.Given as goal

abbrev pub invariant-loop-place : goal.invariant-loop-place
invariant-loop-place l = record {
  whole : length l.boot ≡ sites_max;
  made : (k : ℕ) → k < l.place → get_or l.boot k 0 ≡ merge_boot l.me l.links (k + 1);
}
