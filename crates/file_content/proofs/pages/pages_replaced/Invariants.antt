use Rattle.std.proofs.Common.{◌≡◌, ◌++◌, ◌-◌, filter, length}
use Rattle.file_content.specs.Pages.{is_replaced, pages_from, pages_of, pages_replaced}
use Rattle.file_content.proofs.pages.pages_replaced.Given as goal

abbrev pub invariant-loop-page : goal.invariant-loop-page
invariant-loop-page l = l.made ++ filter (is_replaced l.old l.new) (pages_from l.page (pages_of (length l.new) - l.page)) ≡ pages_replaced l.old l.new
