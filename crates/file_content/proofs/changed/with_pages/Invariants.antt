use Rattle.std.proofs.Common.{◌≡◌, drop}
use Rattle.file_content.specs.Pages.{with_pages}
use Rattle.file_content.proofs.changed.with_pages.Given as goal

abbrev pub invariant-loop-page : goal.invariant-loop-page
invariant-loop-page l = with_pages (drop l.page-index l.pages) l.made ≡ with_pages l.pages l.changed
