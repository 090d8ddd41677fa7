use Rattle.std.proofs.Common.{◌≡◌, ℕ, ◌<◌, ◌≤◌, false, replicate, get_or, refl, sym, ◌∙◌, arith, ⊎_elim}
use Rattle.std.proofs.lemmas.Bool.{cases_lt, true≢false}
use Rattle.std.proofs.lemmas.List.{get_or-replicate, get_or_past, length-replicate}
use Rattle.locus_ids.specs.Sizes.{pack_pages}
use Rattle.pack_layout.proofs.check.are_marked_apart.Goals as goal

-- nothing is marked at first
unmarked : (p : ℕ) → get_or (replicate pack_pages false) p false ≡ false
unmarked p = ⊎_elim
    (λ (below : p < pack_pages). get_or-replicate pack_pages p false false below)
    (λ (past : pack_pages ≤ p). get_or_past (replicate pack_pages false) p false (omega (arith, length-replicate pack_pages false)))
    (cases_lt p pack_pages)

pub loop-i-init : goal.loop-i-init
loop-i-init c = (refl, (λ i lt. absurd (omega arith)), (λ i j lt below. absurd (omega arith)), (λ i lt. absurd (omega arith)), (λ p is. absurd (true≢false (sym is ∙ unmarked p))))
