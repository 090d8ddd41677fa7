use Rattle.keyed_tables.specs.Rising.{BelowTo}
use Rattle.keyed_tables.proofs.short.place_first.Given as goal

abbrev pub invariant-loop-i : goal.invariant-loop-i
invariant-loop-i g l = BelowTo g.T.Keyed.key l.key l.i l.rows
