-- A table is a list of rows in a fixed order, each with a key. It is read and changed by these functions alone.
use Rattle.std.specs.Prelude.{ℕ, ◌+◌, ◌==◌, nat_lt, Bool, true, false, List, [], ◌∷◌, Option, Some, None}

-- the row with this key
abbrev pub row : {A : Type 0} → (A → ℕ) → ℕ → List A → Option A
row key k [] = None
row key k (x ∷ xs) = elim (key x == k) [
  | true ↦ Some x
  | false ↦ row key k xs
]

-- a table in ascending order of its keys, with this row in place of the one with its key, or at its place
abbrev pub with_row : {A : Type 0} → (A → ℕ) → A → List A → List A
with_row key x [] = x ∷ []
with_row key x (y ∷ ys) = elim (nat_lt (key y) (key x)) [
  | true ↦ y ∷ with_row key x ys
  | false ↦ elim (key y == key x) [
    | true ↦ x ∷ ys
    | false ↦ x ∷ y ∷ ys
  ]
]

-- a table in the order in which its rows came, with this row in place of the one with its key, or as the last one
abbrev pub with_latest : {A : Type 0} → (A → ℕ) → A → List A → List A
with_latest key x [] = x ∷ []
with_latest key x (y ∷ ys) = elim (key y == key x) [
  | true ↦ x ∷ ys
  | false ↦ y ∷ with_latest key x ys
]

-- the table without the row of this key
abbrev pub without_row : {A : Type 0} → (A → ℕ) → ℕ → List A → List A
without_row key k [] = []
without_row key k (x ∷ xs) = elim (key x == k) [
  | true ↦ xs
  | false ↦ x ∷ without_row key k xs
]

-- the first element that passes
abbrev pub first_that : {A : Type 0} → (A → Bool) → List A → Option A
first_that test [] = None
first_that test (x ∷ xs) = elim (test x) [
  | true ↦ Some x
  | false ↦ first_that test xs
]

-- the sum of a measure
abbrev pub total : {A : Type 0} → (A → ℕ) → List A → ℕ
total measure [] = 0
total measure (x ∷ xs) = measure x + total measure xs

-- a list in order, with x after all that x doesn't stand before
abbrev pub put_before : {A : Type 0} → (A → A → Bool) → A → List A → List A
put_before before x [] = x ∷ []
put_before before x (y ∷ ys) = elim (before x y) [
  | true ↦ x ∷ y ∷ ys
  | false ↦ y ∷ put_before before x ys
]

-- the elements in order, equal ones as they stood
abbrev pub sorted_onto : {A : Type 0} → (A → A → Bool) → List A → List A → List A
sorted_onto before done [] = done
sorted_onto before done (x ∷ xs) = sorted_onto before (put_before before x done) xs

abbrev pub sorted : {A : Type 0} → (A → A → Bool) → List A → List A
sorted before xs = sorted_onto before [] xs
