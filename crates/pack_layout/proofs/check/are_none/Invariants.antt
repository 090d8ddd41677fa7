use Rattle.std.proofs.Common.{◌≡◌, ℕ, ◌<◌, ◌≤◌, get_or}
use Rattle.pack_layout.proofs.check.are_none.Given as goal

abbrev pub invariant-loop-i : goal.invariant-loop-i
invariant-loop-i l = (i : ℕ) → l.n ≤ i → i < l.i → get_or l.numbers i 0 ≡ 65535
