use Rattle.std.proofs.Common.{◌≡◌, ◌+◌, ◌++◌, drop}
use Rattle.wire_fields.specs.Memberships.{entries_from, spelled_entries}
use Rattle.wire_parts.proofs.memberships.put_entries.Given as goal

-- those written and those still to be written are all
abbrev pub invariant-loop-i : goal.invariant-loop-i
invariant-loop-i l = l.out ++ spelled_entries (entries_from (l.i + 1) (drop l.i l.boot)) ≡ l.initial.out ++ spelled_entries (entries_from 1 l.boot)
