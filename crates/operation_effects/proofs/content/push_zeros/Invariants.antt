use Rattle.std.proofs.Common.{◌≡◌, ◌≤◌, ◌+◌, ◌++◌, ◌-◌, length, replicate}
use Rattle.locus_ids.specs.Sizes.{page_bytes}
use Rattle.operation_effects.proofs.content.push_zeros.Given as goal

abbrev pub invariant-loop-left : goal.invariant-loop-left
invariant-loop-left l = record {
  all : l.items.items ++ replicate l.left 0 ≡ l.fn.items.items ++ replicate l.count 0;
  long : length l.items.items + l.left ≤ length l.fn.items.items + l.count;
  zeros : l.zeros ≡ replicate page_bytes 0;
}

abbrev pub decreases-loop-left : goal.decreases-loop-left
decreases-loop-left l = l.left - page_bytes
