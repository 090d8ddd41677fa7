use Rattle.std.proofs.Common.{◌≡◌, take}
use Rattle.file_content.proofs.changed.copied.Given as goal

abbrev pub invariant-loop-page : goal.invariant-loop-page
invariant-loop-page l = l.made ≡ take l.page-index l.pages
