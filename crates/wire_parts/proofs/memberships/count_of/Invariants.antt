use Rattle.std.proofs.Common.{◌≡◌, ◌≤◌, ◌+◌, length, drop}
use Rattle.wire_fields.specs.Memberships.{entries_from}
use Rattle.wire_parts.proofs.memberships.count_of.Given as goal

-- those counted and those still to be counted are all
abbrev pub invariant-loop-i : goal.invariant-loop-i
invariant-loop-i l = record {
  all : l.count + length (entries_from (l.i + 1) (drop l.i l.boot)) ≡ length (entries_from 1 l.boot);
  few : l.count ≤ l.i;
}
