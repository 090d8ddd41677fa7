use Rattle.std.proofs.Common.{◌≡◌, ℕ, ◌<◌, get_or, true, false, length}
use Rattle.locus_ids.specs.Sizes.{pack_pages}
use Rattle.pack_layout.proofs.check.are_marked_apart.Given as goal

-- the numbers so far are different ones below the limit, and just these are marked
abbrev pub invariant-loop-i : goal.invariant-loop-i
invariant-loop-i l = (length l.marks ≡ pack_pages) × ((i : ℕ) → i < l.i → get_or l.numbers i 0 < l.limit) × ((i j : ℕ) → i < j → j < l.i → get_or l.numbers i 0 ≡ get_or l.numbers j 0 → ⊥)
    × ((i : ℕ) → i < l.i → get_or l.marks (get_or l.numbers i 0) false ≡ true) × ((p : ℕ) → get_or l.marks p false ≡ true → (i : ℕ) × (i < l.i) × (get_or l.numbers i 0 ≡ p))
