-- Two lists of brought versions, one by one.
use Rattle.std.proofs.Common.{◌≡◌, suc, Bool, true, false, ◌&&◌, List, [], ◌∷◌, length, refl, ap, ◌∙◌}
use Rattle.locus_ids.specs.declared.ids.Brought.{Brought}
use Rattle.tree_model.specs.Same.{same_all, same_brought}

-- lists of different lengths aren't the same
pub unequal : (a b : List Brought) → (length a ≡ length b → ⊥) → same_all a b ≡ false
unequal [] [] h = absurd (h refl)
unequal [] (b ∷ bs) h = refl
unequal (a ∷ as_after) [] h = refl
unequal (a ∷ as_after) (b ∷ bs) h = ap (λ x. same_brought a b && x) (unequal as_after bs (λ e. h (ap suc e))) ∙ no (same_brought a b)
  where
    no : (x : Bool) → (x && false) ≡ false
    no true = refl
    no false = refl
