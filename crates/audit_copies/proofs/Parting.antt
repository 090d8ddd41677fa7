-- A slice of all that is left of a list.
use Rattle.std.proofs.Common.{◌≡◌, ℕ, zero, suc, ◌≤◌, List, [], ◌∷◌, length, take, drop, ◌-◌, refl, ap, arith}
use Rattle.std.proofs.lemmas.List.{length-drop}
use Rattle.past_laws.specs.of_promises.Past.{Copy}

take_all : (xs : List Copy) (n : ℕ) → length xs ≤ n → take n xs ≡ xs
take_all [] zero h = refl
take_all [] (suc n) h = refl
take_all (x ∷ xs) zero h = absurd (omega (arith, h))
take_all (x ∷ xs) (suc n) h = ap (λ ys. x ∷ ys) (take_all xs n (omega (arith, h)))

pub take_rest : (xs : List Copy) (k : ℕ) → take (length xs - k) (drop k xs) ≡ drop k xs
take_rest xs k = take_all (drop k xs) (length xs - k) (omega (arith, length-drop k xs))
