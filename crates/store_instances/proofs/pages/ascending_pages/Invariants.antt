use Rattle.std.proofs.Common.{◌≡◌, ◌≤◌, drop, length}
use Rattle.file_content.specs.Pages.{ascending}
use Rattle.store_instances.proofs.pages.ascending_pages.Given as goal

-- those that are left are put in front of what came so far
abbrev pub invariant-loop-left : goal.invariant-loop-left
invariant-loop-left l = record {
  few : l.left ≤ length l.pages;
  all : l.list ≡ ascending (drop l.left l.pages);
}

abbrev pub decreases-loop-left : goal.decreases-loop-left
decreases-loop-left l = l.left
