use Rattle.std.proofs.Common.{◌≡◌, ℕ, ◌<◌, get_or}
use Rattle.pack_layout.proofs.check.is_among.Given as goal

-- none so far is this number
abbrev pub invariant-loop-i : goal.invariant-loop-i
invariant-loop-i l = (i : ℕ) → i < l.i → get_or l.numbers i 0 ≡ l.number → ⊥
