use Rattle.std.proofs.Common.{◌≡◌, ◌++◌, drop}
use Rattle.site_parts.proofs.mending.brought.Given as goal

abbrev pub invariant-loop-content : goal.invariant-loop-content
invariant-loop-content l = l.made ++ drop l.content-index l.contents ≡ l.contents
