use Rattle.std.proofs.Common.{◌≡◌, true, length}
use Rattle.site_mends.specs.Scanning.{are_past}
use Rattle.site_mends.proofs.scanning.are_surely_past.Given as goal

abbrev pub invariant-loop-behind : goal.invariant-loop-behind
invariant-loop-behind l = are_past l.kept l.rest ≡ true → are_past l.kept l.content ≡ true

abbrev pub decreases-loop-behind : goal.decreases-loop-behind
decreases-loop-behind l = length l.rest
