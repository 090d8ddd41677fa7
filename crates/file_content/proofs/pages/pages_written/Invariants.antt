use Rattle.std.proofs.Common.{◌≡◌, ◌++◌, ◌-◌}
use Rattle.file_content.specs.Pages.{pages_from}
use Rattle.file_content.proofs.pages.pages_written.Given as goal

abbrev pub invariant-loop-page : goal.invariant-loop-page
invariant-loop-page l = l.made ++ pages_from l.page (l.end - l.page) ≡ pages_from l.first (l.end - l.first)
