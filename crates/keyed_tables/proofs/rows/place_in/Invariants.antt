use Rattle.std.proofs.Common.{◌-◌}
use Rattle.keyed_tables.specs.Rising.{Within}
use Rattle.keyed_tables.proofs.rows.place_in.Given as goal

abbrev pub invariant-loop-low : goal.invariant-loop-low
invariant-loop-low g l = Within g.T.Keyed.key l.key l.rows l.low l.high

abbrev pub decreases-loop-low : goal.decreases-loop-low
decreases-loop-low g l = l.high - l.low
