use Rattle.std.proofs.Common.{◌≡◌, drop}
use Rattle.new_contents.specs.Laid.{place_from}
use Rattle.new_contents.proofs.laid_pages.place_of.Given as goal

abbrev pub invariant-loop-i : goal.invariant-loop-i
invariant-loop-i l = place_from 0 l.numbers l.page ≡ place_from l.i (drop l.i l.numbers) l.page
