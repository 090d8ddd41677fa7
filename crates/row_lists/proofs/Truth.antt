-- Small facts of truth and of numbers that the lists here rest on.
use Rattle.std.proofs.Common.{◌≡◌, ◌≤◌, true, false, List, [], ◌∷◌, length, refl, arith}

pub false_true : {A : Type 0} → false ≡ true → A
false_true e = absurd (cc)

pub true_false : {A : Type 0} → true ≡ false → A
true_false e = absurd (cc)

-- a list of at most one that begins ends there
pub alone : {X : Type 0} (x : X) (xs : List X) → length (x ∷ xs) ≤ 1 → xs ≡ []
alone x [] h = refl
alone x (y ∷ xs) h = absurd (omega (arith, h))

pub fewer : {X : Type 0} (x : X) (xs : List X) → length (x ∷ xs) ≤ 1 → length xs ≤ 1
fewer x xs h = omega (arith, h)
