use Rattle.std.proofs.Common.{◌≡◌, ◌*◌, ◌-◌, drop, length}
use Rattle.version_vector.specs.Counters.{all_le}
use Rattle.dir_format.specs.Contents.{counters}
use Rattle.site_mends.proofs.scanning.is_at_most.Given as goal

-- the rest decides
abbrev pub invariant-loop-i : goal.invariant-loop-i
invariant-loop-i l = all_le (drop l.i l.parts) (counters (length l.parts - l.i) (drop (4 * l.i) l.seen)) ≡ all_le l.parts (counters (length l.parts) l.seen)
