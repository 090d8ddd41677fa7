use Rattle.std.proofs.Common.{◌≡◌, ◌≤◌, length, reverse, take}
use Rattle.std.specs.List.{find}
use Rattle.audit_calls.specs.Uses.{is_use}
use Rattle.audit_calls.proofs.uses.newest.Given as goal

abbrev pub invariant-loop-left : goal.invariant-loop-left
invariant-loop-left l = record { within : l.left ≤ length l.rows; same : find (is_use l.sought) (reverse (take l.left l.rows)) ≡ find (is_use l.sought) (reverse l.rows) }

abbrev pub decreases-loop-left : goal.decreases-loop-left
decreases-loop-left l = l.left
