use Rattle.std.proofs.Common.{◌≡◌, ◌++◌, ◌-◌, filter}
use Rattle.file_content.specs.Pages.{pages_from}
use Rattle.storage_site.specs.Wanting.{is_written}
use Rattle.storage_site.proofs.deltas.written_in.Given as goal

abbrev pub invariant-loop-page : goal.invariant-loop-page
invariant-loop-page l = l.pages ++ filter (is_written l.steps) (pages_from l.page (l.count - l.page)) ≡ filter (is_written l.steps) (pages_from 0 l.count)
