use Rattle.std.proofs.Common.{◌≡◌, ◌<◌, ℕ, length, get_or}
use Rattle.role_steps.specs.Pulling.{bytes_in}
use Rattle.page_marks.proofs.laying.are_pages_of.Given as goal

abbrev pub invariant-loop-place : goal.invariant-loop-place
invariant-loop-place l = (k : ℕ) → k < l.place → bytes_in (length l.came.bytes.now) k ≡ bytes_in l.came.size (get_or l.came.numbers.now k 0)
