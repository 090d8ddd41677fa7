use Rattle.std.proofs.Common.{◌≡◌, ℕ, ◌<◌, get_or}
use Rattle.pack_layout.proofs.check.are_zeros.Given as goal

abbrev pub invariant-loop-counter : goal.invariant-loop-counter
invariant-loop-counter l = (i : ℕ) → i < l.counter-index → get_or l.counters i 0 ≡ 0
