-- Tables: what is found after a row was put in place.
use Rattle.std.proofs.Common.{◌≡◌, ◌≢◌, ℕ, ◌==◌, nat_lt, Bool, true, false, List, [], ◌∷◌, Option, Some, None, refl, sym, ◌∙◌, arith}
use Rattle.std.proofs.lemmas.Bool.Decides.{nat_tests}
use Rattle.plain_facts.proofs.Numbers.{equal_self}
use Rattle.role_steps.specs.Tables.{row, with_row}

other_key : (a b t : ℕ) → (a == b) ≡ true → (b == t) ≡ false → (a == t) ≡ false
other_key a b t e h = grind (arith, nat_tests)

-- a row whose key isn't asked is passed over, one whose key is asked is found
pub passed_row : {A : Type 0} (x : A) (rest : Option A) (b : Bool) → b ≡ false → ◌≡◌ {A = Option A} (elim b [ true ↦ Some x | false ↦ rest ]) rest
passed_row x rest true e = absurd (cc)
passed_row x rest false e = refl

pub found_row : {A : Type 0} (x : A) (rest : Option A) (b : Bool) → b ≡ true → ◌≡◌ {A = Option A} (elim b [ true ↦ Some x | false ↦ rest ]) (Some x)
found_row x rest true e = refl
found_row x rest false e = absurd (cc)

same_tail : {A : Type 0} (y : A) (a b : Option A) (t : Bool) → a ≡ b → ◌≡◌ {A = Option A} (elim t [ true ↦ Some y | false ↦ a ]) (elim t [ true ↦ Some y | false ↦ b ])
same_tail y a b true e = refl
same_tail y a b false e = e

-- any other key finds what it found before
pub row_other : {A : Type 0} (key : A → ℕ) (x : A) (t : ℕ) (xs : List A) → (key x == t) ≡ false → row key t (with_row key x xs) ≡ row key t xs
row_other key x t [] h = passed_row x None (key x == t) h
row_other key x t (y ∷ ys) h =
    elim (nat_lt (key y) (key x)) as (λ b. row key t (elim b [ true ↦ y ∷ with_row key x ys | false ↦ elim (key y == key x) [ true ↦ x ∷ ys | false ↦ x ∷ y ∷ ys ] ]) ≡ row key t (y ∷ ys)) [
      | true ↦ same_tail y (row key t (with_row key x ys)) (row key t ys) (key y == t) (row_other key x t ys h)
      | false ↦ (elim (key y == key x) as (λ b. (key y == key x) ≡ b → row key t (elim b [ true ↦ x ∷ ys | false ↦ x ∷ y ∷ ys ]) ≡ row key t (y ∷ ys)) [
        | true ↦ λ e. passed_row x (row key t ys) (key x == t) h ∙ sym (passed_row y (row key t ys) (key y == t) (other_key (key y) (key x) t e h))
        | false ↦ λ e. passed_row x (row key t (y ∷ ys)) (key x == t) h
      ]) refl
    ]

less_differs : (a b : ℕ) → nat_lt a b ≡ true → (a == b) ≡ false
less_differs a b e = grind (arith, nat_tests)

-- its own key finds the row
pub row_same : {A : Type 0} (key : A → ℕ) (x : A) (xs : List A) → row key (key x) (with_row key x xs) ≡ Some x
row_same key x [] = found_row x None (key x == key x) (equal_self (key x))
row_same key x (y ∷ ys) =
    (elim (nat_lt (key y) (key x)) as (λ b. nat_lt (key y) (key x) ≡ b → row key (key x) (elim b [ true ↦ y ∷ with_row key x ys | false ↦ elim (key y == key x) [ true ↦ x ∷ ys | false ↦ x ∷ y ∷ ys ] ]) ≡ Some x) [
      | true ↦ λ e. passed_row y (row key (key x) (with_row key x ys)) (key y == key x) (less_differs (key y) (key x) e) ∙ row_same key x ys
      | false ↦ λ e. elim (key y == key x) as (λ b. row key (key x) (elim b [ true ↦ x ∷ ys | false ↦ x ∷ y ∷ ys ]) ≡ Some x) [
        | true ↦ found_row x (row key (key x) ys) (key x == key x) (equal_self (key x))
        | false ↦ found_row x (row key (key x) (y ∷ ys)) (key x == key x) (equal_self (key x))
      ]
    ]) refl
