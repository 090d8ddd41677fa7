use Rattle.std.proofs.Common.{◌≡◌, drop, take, ◌++◌}
use Rattle.version_vector.specs.Counters.{joined}
use Rattle.version_vector.proofs.vector.join_into.Given as goal

-- what is done, and the join of the rest
abbrev pub invariant-loop-i : goal.invariant-loop-i
invariant-loop-i l = take l.i l.a ++ joined (drop l.i l.a) (drop l.i l.b) ≡ joined l.fn.a l.b
