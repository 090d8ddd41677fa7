use Rattle.std.proofs.Common.{◌≡◌, take}
use Rattle.propagation.proofs.pulling.listed.Given as goal

abbrev pub invariant-loop-page : goal.invariant-loop-page
invariant-loop-page l = l.list ≡ take l.page-index l.pages
