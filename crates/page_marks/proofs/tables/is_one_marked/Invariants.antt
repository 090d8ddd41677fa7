use Rattle.std.proofs.Common.{◌≡◌, ◌-◌}
use Rattle.std.specs.List.{list_any}
use Rattle.file_content.specs.Pages.{pages_from}
use Rattle.new_contents.specs.Marked.{is_marked}
use Rattle.page_marks.proofs.tables.is_one_marked.Given as goal

abbrev pub invariant-loop-page : goal.invariant-loop-page
invariant-loop-page l = list_any (is_marked l.marks) (pages_from l.page (l.stop - l.page)) ≡ list_any (is_marked l.marks) (pages_from l.first (l.stop - l.first))
