use Rattle.std.proofs.Common.{◌≡◌, drop}
use Rattle.role_steps.specs.Tables.{row}
use Rattle.keyed_tables.proofs.short.find_first.Given as goal

abbrev pub invariant-loop-i : goal.invariant-loop-i
invariant-loop-i g l = row g.T.Keyed.key l.key (drop l.i l.rows) ≡ row g.T.Keyed.key l.key l.rows
