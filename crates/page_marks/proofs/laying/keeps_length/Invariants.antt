use Rattle.std.proofs.Common.{◌≡◌, ◌≤◌, ◌<◌, ℕ, false}
use Rattle.new_contents.specs.Marked.{is_marked}
use Rattle.role_steps.specs.Pulling.{bytes_in}
use Rattle.page_marks.proofs.laying.keeps_length.Given as goal

abbrev pub invariant-loop-page : goal.invariant-loop-page
invariant-loop-page l = (k : ℕ) → k < l.page → is_marked l.marks k ≡ false → bytes_in l.size k ≤ bytes_in l.own k
