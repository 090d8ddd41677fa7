use Rattle.std.proofs.Common.{◌≡◌, ◌≤◌, drop}
use Rattle.locus_ids.specs.Sizes.{inodes_max}
use Rattle.wire_fields.specs.Components.{is_small_from}
use Rattle.wire_parts.proofs.components.is_small_number.Given as goal

-- what is still to be read decides
abbrev pub invariant-loop-i : goal.invariant-loop-i
invariant-loop-i l = record {
  same : is_small_from 0 l.digits ≡ is_small_from l.number (drop l.i l.digits);
  small : l.number ≤ inodes_max;
}
