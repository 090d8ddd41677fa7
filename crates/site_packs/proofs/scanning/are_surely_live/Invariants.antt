use Rattle.std.proofs.Common.{◌≡◌, true, length}
use Rattle.site_packs.specs.Live.{is_all_live}
use Rattle.site_packs.proofs.scanning.are_surely_live.Given as goal

abbrev pub invariant-loop-behind : goal.invariant-loop-behind
invariant-loop-behind l = is_all_live l.rest ≡ true → is_all_live l.content ≡ true

abbrev pub decreases-loop-behind : goal.decreases-loop-behind
decreases-loop-behind l = length l.rest
