use Rattle.std.proofs.Common.{◌≡◌, ◌<◌, ◌+◌, ℕ, get_or, length}
use Rattle.locus_ids.specs.Sizes.{sites_max}
use Rattle.partition_protocol.specs.Promising.{member_boot_of}
use Rattle.partition_protocol.proofs.chosen.member_boots.Given as goal

abbrev pub invariant-loop-place : goal.invariant-loop-place
invariant-loop-place l = record {
  whole : length l.boots ≡ sites_max;
  made : (k : ℕ) → k < l.place → get_or l.boots k 0 ≡ member_boot_of l.polled l.me l.boot l.set (k + 1);
}
