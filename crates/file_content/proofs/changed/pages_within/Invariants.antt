use Rattle.std.proofs.Common.{◌≡◌, take}
use Rattle.file_content.specs.Pages.{pages_within}
use Rattle.file_content.proofs.changed.pages_within.Given as goal

abbrev pub invariant-loop-page : goal.invariant-loop-page
invariant-loop-page l = l.made ≡ pages_within l.size (take l.page-index l.changed)
