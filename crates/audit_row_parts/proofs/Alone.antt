-- The only one of a list that passes, by the place of the first.
use Rattle.std.proofs.Common.{◌≡◌, ℕ, zero, suc, ◌+◌, ◌-◌, ◌≤◌, Bool, true, false, List, [], ◌∷◌, length, get_or, drop, Option, None, Some, refl, sym, ap, ◌∙◌, ⊎_elim, arith}
use Rattle.std.specs.Prelude.{filter, take}
use Rattle.std.specs.Option.{is_some}
use Rattle.std.specs.List.{position_from}
use Rattle.std.proofs.lemmas.Bool.{cases_Bool}
use Rattle.plain_facts.proofs.Options.{none_some, some_none, some_same}
use Rattle.audit_row_parts.specs.Parts.{only_of}

not_below : {X : Type 0} (p : X → Bool) (xs : List X) (n k : ℕ) → position_from p n xs ≡ Some k → n ≤ k
not_below p [] n k e = absurd (none_some k e)
not_below p (x ∷ xs) n k e =
    ⊎_elim (λ (t : p x ≡ true). let same : n ≡ k = some_same n k (rw t at e) in omega (arith, same))
    (λ (f : p x ≡ false). let more : n + 1 ≤ k = not_below p xs (n + 1) k (rw f at e) in omega (arith, more))
    (cases_Bool (p x))

-- those that pass are the first of them, and those after it
passing_from : {X : Type 0} (p : X → Bool) (xs : List X) (n i : ℕ) (d : X) → position_from p n xs ≡ Some (n + i) → filter p xs ≡ get_or xs i d ∷ filter p (drop (suc i) xs)
passing_from p [] n i d e = absurd (none_some (n + i) e)
passing_from p (x ∷ xs) n zero d e =
    ⊎_elim (λ (t : p x ≡ true). rw t refl)
    (λ (f : p x ≡ false). let more : n + 1 ≤ n + 0 = not_below p xs (n + 1) (n + 0) (rw f at e) in absurd (omega (arith, more)))
    (cases_Bool (p x))
passing_from p (x ∷ xs) n (suc i) d e =
    ⊎_elim (λ (t : p x ≡ true). let same : n ≡ n + suc i = some_same n (n + suc i) (rw t at e) in absurd (omega (arith, same)))
    (λ (f : p x ≡ false). let next : n + suc i ≡ (n + 1) + i = omega arith in
    rw f (passing_from p xs (n + 1) i d ((rw f at e) ∙ ap (λ k. Some k) next)))
    (cases_Bool (p x))

none_passes : {X : Type 0} (p : X → Bool) (xs : List X) (n : ℕ) → position_from p n xs ≡ None → filter p xs ≡ []
none_passes p [] n e = refl
none_passes p (x ∷ xs) n e =
    ⊎_elim (λ (t : p x ≡ true). absurd (some_none n (rw t at e)))
    (λ (f : p x ≡ false). rw f (none_passes p xs (n + 1) (rw f at e)))
    (cases_Bool (p x))

-- none passes
pub only_none : {X : Type 0} (p : X → Bool) (xs : List X) → None ≡ position_from p 0 xs → None ≡ only_of (filter p xs)
only_none p xs e = sym (ap only_of (none_passes p xs 0 (sym e)))

-- the first passes, and none after it
pub only_one : {X : Type 0} (p : X → Bool) (xs rest : List X) (i : ℕ) (d : X) → Some i ≡ position_from p 0 xs → rest ≡ drop (suc i) xs → None ≡ position_from p 0 rest
    → Some (get_or xs i d) ≡ only_of (filter p xs)
only_one p xs rest i d e is none =
    let same : 0 + i ≡ i = omega arith in
    sym (ap only_of (passing_from p xs 0 i d (sym e ∙ ap (λ k. Some k) (sym same)) ∙ ap (λ ys. get_or xs i d ∷ ys) (ap (filter p) (sym is) ∙ none_passes p rest 0 (sym none))))

-- the first passes, and another after it
pub only_several : {X : Type 0} (p : X → Bool) (xs rest : List X) (i j : ℕ) (d : X) → Some i ≡ position_from p 0 xs → rest ≡ drop (suc i) xs → Some j ≡ position_from p 0 rest
    → None ≡ only_of (filter p xs)
only_several p xs rest i j d e is more =
    let same : 0 + i ≡ i = omega arith in
    let again : 0 + j ≡ j = omega arith in
    sym (ap only_of (passing_from p xs 0 i d (sym e ∙ ap (λ k. Some k) (sym same))
    ∙ ap (λ ys. get_or xs i d ∷ ys) (ap (filter p) (sym is) ∙ passing_from p rest 0 j d (sym more ∙ ap (λ k. Some k) (sym again)))))

take_none : {X : Type 0} (n : ℕ) → take {A = X} n [] ≡ []
take_none zero = refl
take_none (suc n) = refl

take_all : {X : Type 0} (xs : List X) → take (length xs) xs ≡ xs
take_all [] = refl
take_all (x ∷ xs) = ap (λ ys. x ∷ ys) (take_all xs)

-- what is left of a list from a place on, as a slice takes it
pub from_place : {X : Type 0} (xs : List X) (k : ℕ) → take (length xs - k) (drop k xs) ≡ drop k xs
from_place [] zero = refl
from_place [] (suc k) = take_none (0 - suc k)
from_place (x ∷ xs) zero = let all : length (x ∷ xs) - 0 ≡ length (x ∷ xs) = omega arith in ap (λ n. take n (x ∷ xs)) all ∙ take_all (x ∷ xs)
from_place (x ∷ xs) (suc k) = let less : suc (length xs) - suc k ≡ length xs - k = omega arith in ap (λ n. take n (drop k xs)) less ∙ from_place xs k

after : {X : Type 0} (xs : List X) (i : ℕ) → take (length xs - (i + 1)) (drop (i + 1) xs) ≡ drop (suc i) xs
after xs i = let next : i + 1 ≡ suc i = omega arith in from_place xs (i + 1) ∙ ap (λ n. drop n xs) next

-- The same of what a table shows and a slice lends, where a second is sought after the first.

pub alone_none : {X : Type 0} (p : X → Bool) (slice table : List X) → slice ≡ table → None ≡ position_from p 0 slice → None ≡ only_of (filter p table)
alone_none p slice table lent e = only_none p slice e ∙ ap (λ xs. only_of (filter p xs)) lent

pub alone_several : {X : Type 0} (p : X → Bool) (slice table : List X) (i : ℕ) (second : Option ℕ) → slice ≡ table → Some i ≡ position_from p 0 slice
    → second ≡ position_from p 0 (take (length slice - (i + 1)) (drop (i + 1) slice)) → true ≡ is_some second → None ≡ only_of (filter p table)
alone_several p slice table i None lent e f t = cc
alone_several p [] table i (Some j) lent e f t = absurd (some_none i e)
alone_several p (x ∷ xs) table i (Some j) lent e f t =
    only_several p (x ∷ xs) _ i j x e (after (x ∷ xs) i) f ∙ ap (λ ys. only_of (filter p ys)) lent

pub alone_one : {X : Type 0} (p : X → Bool) (slice table : List X) (i : ℕ) (x : X) (second : Option ℕ) → slice ≡ table → Some i ≡ position_from p 0 slice → x ≡ get_or slice i x
    → second ≡ position_from p 0 (take (length slice - (i + 1)) (drop (i + 1) slice)) → false ≡ is_some second → Some x ≡ only_of (filter p table)
alone_one p slice table i x (Some j) lent e is f t = cc
alone_one p slice table i x None lent e is f t =
    ap (λ y. Some y) is ∙ only_one p slice _ i x e (after slice i) f ∙ ap (λ xs. only_of (filter p xs)) lent
