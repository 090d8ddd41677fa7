-- The last of a list, and what stands before it, by their places.
use Rattle.std.proofs.Common.{◌≡◌, ℕ, suc, ◌-◌, ◌<◌, List, [], ◌∷◌, length, take, get_or, refl, ap, arith}
use Rattle.trace_book.specs.Names.{but_last, last_of}

pub take_front : {X : Type 0} (xs : List X) → take (length xs - 1) xs ≡ but_last xs
take_front [] = refl
take_front (x ∷ []) = refl
take_front (x ∷ y ∷ ys) =
    let e : length (x ∷ y ∷ ys) - 1 ≡ suc (length (y ∷ ys) - 1) = omega arith in
    rw e (ap (λ zs. x ∷ zs) (take_front (y ∷ ys)))

pub last_at : (xs : List (List ℕ)) (d : List ℕ) → 0 < length xs → get_or xs (length xs - 1) d ≡ last_of xs
last_at [] d l = absurd (omega arith)
last_at (x ∷ []) d l = refl
last_at (x ∷ y ∷ ys) d l =
    let e : length (x ∷ y ∷ ys) - 1 ≡ suc (length (y ∷ ys) - 1) = omega arith in
    rw e (last_at (y ∷ ys) d (omega arith))
