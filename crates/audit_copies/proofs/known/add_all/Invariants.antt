use Rattle.std.proofs.Common.{◌≡◌, ◌++◌, take}
use Rattle.audit_copies.proofs.known.add_all.Given as goal

abbrev pub invariant-loop-row : goal.invariant-loop-row
invariant-loop-row l = l.made ≡ l.initial.made ++ take l.row-index l.rows
