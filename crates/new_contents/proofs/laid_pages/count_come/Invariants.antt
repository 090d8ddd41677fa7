use Rattle.std.proofs.Common.{◌≡◌, ◌≤◌, ◌+◌}
use Rattle.shadow_pages.specs.Working.{count_below}
use Rattle.new_contents.specs.Laid.{has_come}
use Rattle.new_contents.proofs.laid_pages.count_come.Given as goal

abbrev pub invariant-loop-i : goal.invariant-loop-i
invariant-loop-i l = (count_below (has_come l.numbers) l.fn.row.first + l.count ≡ count_below (has_come l.numbers) l.i) × (l.count ≤ l.i)
