use Rattle.std.proofs.Common.{◌≡◌, ◌++◌, ◌-◌}
use Rattle.file_content.specs.Pages.{pages_from}
use Rattle.storage_site.proofs.deltas.all_pages.Given as goal

abbrev pub invariant-loop-page : goal.invariant-loop-page
invariant-loop-page l = l.pages ++ pages_from l.page (l.count - l.page) ≡ pages_from 0 l.count
