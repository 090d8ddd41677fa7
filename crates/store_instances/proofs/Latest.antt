-- A table in the order in which its rows came, after a row was put.
use Rattle.std.proofs.Common.{◌≡◌, ℕ, ◌+◌, ◌==◌, Bool, true, false, List, [], ◌∷◌, ◌++◌, Option, Some, None, refl, sym, ap, ◌∙◌, arith}
use Rattle.std.proofs.lemmas.Bool.Decides.{nat_tests}
use Rattle.role_steps.proofs.of_plain_facts.Numbers.{equal_self}
use Rattle.role_steps.proofs.of_plain_facts.Options.{some_same}
use Rattle.role_steps.specs.Tables.{row, with_latest}
use Rattle.role_steps.proofs.Rows.{found_row, passed_row}

pub nothing_more : {A : Type 0} (xs : List A) → xs ≡ xs ++ []
nothing_more [] = refl
nothing_more (x ∷ xs) = ap (λ ys. x ∷ ys) (nothing_more xs)

pub in_turn : {A : Type 0} (xs : List A) (x y : A) → (xs ++ x ∷ []) ++ y ∷ [] ≡ xs ++ (x ∷ y ∷ [])
in_turn [] x y = refl
in_turn (z ∷ zs) x y = ap (λ ys. z ∷ ys) (in_turn zs x y)

-- its own key finds the row
pub latest_row : {A : Type 0} (key : A → ℕ) (x : A) (xs : List A) → row key (key x) (with_latest key x xs) ≡ Some x
latest_row key x [] = found_row x None (key x == key x) (equal_self (key x))
latest_row key x (y ∷ ys) = (elim (key y == key x) as (λ b. (key y == key x) ≡ b → row key (key x) (elim b [ true ↦ x ∷ ys | false ↦ y ∷ with_latest key x ys ]) ≡ Some x) [
  | true ↦ λ e. found_row x (row key (key x) ys) (key x == key x) (equal_self (key x))
  | false ↦ λ e. passed_row y (row key (key x) (with_latest key x ys)) (key y == key x) e ∙ latest_row key x ys
]) refl

-- a row that stands is put in its own place
pub latest_same : {A : Type 0} (key : A → ℕ) (x : A) (xs : List A) → row key (key x) xs ≡ Some x → with_latest key x xs ≡ xs
latest_same key x [] h = absurd cc
latest_same {A = A} key x (y ∷ ys) h = (elim (key y == key x) as (λ b. ◌≡◌ {A = Option A} (elim b [ true ↦ Some y | false ↦ row key (key x) ys ]) (Some x) → ◌≡◌ {A = List A} (elim b [ true ↦ x ∷ ys | false ↦ y ∷ with_latest key x ys ]) (y ∷ ys)) [
  | true ↦ λ f. ap (λ z. z ∷ ys) (sym (some_same y x f))
  | false ↦ λ f. ap (λ zs. y ∷ zs) (latest_same key x ys f)
]) h

-- of two rows of one key the later one stands
pub latest_twice : {A : Type 0} (key : A → ℕ) (a b : A) (xs : List A) → key a ≡ key b → with_latest key b (with_latest key a xs) ≡ with_latest key b xs
latest_twice {A = A} key a b [] e = at_once (key a == key b) (alike (key a) (key b) e) where
  alike : (m n : ℕ) → m ≡ n → (m == n) ≡ true
  alike m n h = grind (arith, nat_tests)

  at_once : (t : Bool) → t ≡ true → ◌≡◌ {A = List A} (elim t [ true ↦ b ∷ [] | false ↦ a ∷ (b ∷ []) ]) (b ∷ [])
  at_once true h = refl
  at_once false h = absurd cc
latest_twice {A = A} key a b (y ∷ ys) e =
    (elim (key y == key a) as (λ t. (key y == key a) ≡ t → with_latest key b (elim t [ true ↦ a ∷ ys | false ↦ y ∷ with_latest key a ys ]) ≡ with_latest key b (y ∷ ys)) [
      | true ↦ λ f. taken (key a == key b) (key y == key b) (alike (key a) (key b) e) (alike (key y) (key b) (numbers (key y) (key a) f ∙ e))
      | false ↦ λ f. passed (latest_twice key a b ys e) (key y == key b) (other (key y) (key a) (key b) f e)
    ]) refl where
      alike : (m n : ℕ) → m ≡ n → (m == n) ≡ true
      alike m n h = grind (arith, nat_tests)

      numbers : (m n : ℕ) → (m == n) ≡ true → m ≡ n
      numbers m n h = grind (arith, nat_tests)

      other : (k m n : ℕ) → (k == m) ≡ false → m ≡ n → (k == n) ≡ false
      other k m n h g = grind (arith, nat_tests)

      taken : (t u : Bool) → t ≡ true → u ≡ true → ◌≡◌ {A = List A} (elim t [ true ↦ b ∷ ys | false ↦ a ∷ with_latest key b ys ]) (elim u [ true ↦ b ∷ ys | false ↦ y ∷ with_latest key b ys ])
      taken true true h g = refl
      taken true false h g = absurd cc
      taken false u h g = absurd cc

      passed : with_latest key b (with_latest key a ys) ≡ with_latest key b ys → (t : Bool) → t ≡ false → ◌≡◌ {A = List A} (elim t [ true ↦ b ∷ with_latest key a ys | false ↦ y ∷ with_latest key b (with_latest key a ys) ]) (elim t [ true ↦ b ∷ ys | false ↦ y ∷ with_latest key b ys ])
      passed rest true h = absurd cc
      passed rest false h = ap (λ zs. y ∷ zs) rest
