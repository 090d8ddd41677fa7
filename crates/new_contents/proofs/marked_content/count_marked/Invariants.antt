use Rattle.std.proofs.Common.{◌≡◌, ◌≤◌, ◌+◌}
use Rattle.shadow_pages.specs.Working.{count_below}
use Rattle.new_contents.specs.Marked.{is_marked}
use Rattle.new_contents.proofs.marked_content.count_marked.Given as goal

abbrev pub invariant-loop-i : goal.invariant-loop-i
invariant-loop-i l = (count_below (is_marked l.marks) l.fn.row.first + l.count ≡ count_below (is_marked l.marks) l.i) × (l.count ≤ l.i)
