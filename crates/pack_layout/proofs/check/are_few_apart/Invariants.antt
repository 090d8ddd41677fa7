use Rattle.std.proofs.Common.{◌≡◌, ℕ, ◌<◌, get_or}
use Rattle.pack_layout.proofs.check.are_few_apart.Given as goal

-- the numbers so far are different ones below the limit
abbrev pub invariant-loop-i : goal.invariant-loop-i
invariant-loop-i l = ((i : ℕ) → i < l.i → get_or l.numbers i 0 < l.limit) × ((i j : ℕ) → i < j → j < l.i → get_or l.numbers i 0 ≡ get_or l.numbers j 0 → ⊥)
