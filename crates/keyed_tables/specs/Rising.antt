-- A table's rows ascend by their keys.
use Rattle.std.specs.Prelude.{ℕ, ◌≡◌, ◌<◌, ◌≤◌, List, [], ◌∷◌, length, Some, slice_get}

-- each row's key is above k
abbrev pub Above : {A : Type 0} → (A → ℕ) → ℕ → List A → Type 0
Above key k [] = Unit {0}
Above key k (x ∷ xs) = (k < key x) × Above key k xs

-- each row's key is above that of the row before it
abbrev pub Rising : {A : Type 0} → (A → ℕ) → List A → Type 0
Rising key [] = Unit {0}
Rising key (x ∷ xs) = Above key (key x) xs × Rising key xs

-- what a search for k keeps: rows before low have a smaller key, and rows from high on a greater one
pub record Within {A : Type 0} (key : A → ℕ) (k : ℕ) (xs : List A) (low high : ℕ) : Type 0 where
  pub order : low ≤ high
  pub bound : high ≤ length xs
  pub before : (i : ℕ) (a : A) → slice_get xs i ≡ Some a → i < low → key a < k
  pub after : (i : ℕ) (a : A) → slice_get xs i ≡ Some a → high ≤ i → k < key a

-- the rows before place i have keys below k
abbrev pub BelowTo : {A : Type 0} → (A → ℕ) → ℕ → ℕ → List A → Type 0
BelowTo {A = A} key k i xs = (j : ℕ) (a : A) → slice_get xs j ≡ Some a → j < i → key a < k
