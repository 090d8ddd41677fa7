use Rattle.std.proofs.Common.{length}
use Rattle.shadow_pages.proofs.Steps.{Placed}
use Rattle.shadow_pages.proofs.place.place.Given as goal

abbrev pub decreases-loop-page : goal.decreases-loop-page
decreases-loop-page l = length l.made.items

abbrev pub invariant-loop-page : goal.invariant-loop-page
invariant-loop-page l = Placed l.initial.pages.items l.initial.made.items l.first l.pages.items l.made.items
