use Rattle.std.proofs.Common.{◌≡◌, ◌≤◌, ◌+◌, take}
use Rattle.locus_ids.specs.Sizes.{directory_bytes_max}
use Rattle.dir_format.specs.Effects.{size_of}
use Rattle.dir_operations.proofs.size.is_too_long.Given as goal

abbrev pub invariant-loop-entry : goal.invariant-loop-entry
invariant-loop-entry l = record {
  sum : l.size ≡ size_of (take l.entry-index l.entries) + l.more;
  few : l.size ≤ directory_bytes_max;
}
