use Rattle.std.proofs.Common.{◌≡◌, ◌+◌, ◌<◌, ◌≤◌, ℕ, false}
use Rattle.new_contents.specs.Marked.{is_marked}
use Rattle.new_contents.proofs.marked_content.end_of_marked.Given as goal

abbrev pub invariant-loop-i : goal.invariant-loop-i
invariant-loop-i l = (k : ℕ) → l.first + l.end ≤ k + l.i → k < l.end → is_marked l.marks k ≡ false
