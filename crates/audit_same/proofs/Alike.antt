-- Two lists, one by one.
use Rattle.std.proofs.Common.{◌≡◌, suc, Bool, true, false, ◌&&◌, List, [], ◌∷◌, length, refl, ap, ◌∙◌}
use Rattle.promises.specs.Same.{same_list}

-- lists of different lengths aren't the same
pub unequal : {X : Type 0} (same : X → X → Bool) (a b : List X) → (length a ≡ length b → ⊥) → same_list same a b ≡ false
unequal same [] [] h = absurd (h refl)
unequal same [] (b ∷ bs) h = refl
unequal same (a ∷ as_after) [] h = refl
unequal same (a ∷ as_after) (b ∷ bs) h = ap (λ x. same a b && x) (unequal same as_after bs (λ e. h (ap suc e))) ∙ no (same a b)
  where
    no : (x : Bool) → (x && false) ≡ false
    no true = refl
    no false = refl
