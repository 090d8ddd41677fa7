use Rattle.std.proofs.Common.{◌≡◌, drop}
use Rattle.version_vector.specs.Counters.{all_le}
use Rattle.version_vector.proofs.vector.all_le.Given as goal

-- the rest decides
abbrev pub invariant-loop-i : goal.invariant-loop-i
invariant-loop-i l = all_le (drop l.i l.a) (drop l.i l.b) ≡ all_le l.a l.b
