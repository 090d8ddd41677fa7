-- Three words that stand in their places.
use Rattle.std.proofs.Common.{◌≡◌, ◌≤◌, ℕ, List, [], ◌∷◌, Some, length, arith}
use Rattle.std.specs.Prelude.{slice_get}

-- three words that are found are all
pub three_words : (words : List (List ℕ)) (a b c : List ℕ) → slice_get words 0 ≡ Some a → slice_get words 1 ≡ Some b → slice_get words 2 ≡ Some c
    → length words ≤ 3 → a ∷ b ∷ c ∷ [] ≡ words
three_words [] a b c e f g few = cc
three_words (x ∷ []) a b c e f g few = cc
three_words (x ∷ y ∷ []) a b c e f g few = cc
three_words (x ∷ y ∷ z ∷ []) a b c e f g few = cc
three_words (x ∷ y ∷ z ∷ w ∷ rest) a b c e f g few = absurd (omega arith)
