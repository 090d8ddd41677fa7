use Rattle.std.proofs.Common.{◌≡◌, ◌-◌}
use Rattle.std.specs.List.{list_all}
use Rattle.file_content.specs.Pages.{has_page, pages_from}
use Rattle.propagation.proofs.pulling.have_new.Given as goal

abbrev pub invariant-loop-page : goal.invariant-loop-page
invariant-loop-page l = list_all (has_page l.pages) (pages_from l.page (l.count - l.page)) ≡ list_all (has_page l.pages) (pages_from l.own (l.count - l.own))
