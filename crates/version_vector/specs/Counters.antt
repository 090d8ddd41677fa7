-- Vectors of counters as lists of numbers. A counter past the end of a list is 0.
use Rattle.std.specs.Prelude.{◌≡◌, ℕ, zero, suc, ◌≤◌, max, Bool, true, ◌&&◌, nat_le, cond, List, [], ◌∷◌, slice_index}
use Rattle.version_vector.specs.declared.vector.Ordering4.{Ordering4}
use Rattle.version_vector.specs.declared.vector.Ordering4.TheVariants.{Same, Below, Above, Beside}

-- the counter at a place
abbrev pub part : List ℕ → ℕ → ℕ
part v i = slice_index v i

-- each counter is at most the other's
pub record AllLe (a b : List ℕ) : Type 0 where
  pub each : (i : ℕ) → part a i ≤ part b i

-- the same as a test
abbrev pub all_le : List ℕ → List ℕ → Bool
all_le [] b = true
all_le (x ∷ a) [] = nat_le x 0 && all_le a []
all_le (x ∷ a) (y ∷ b) = nat_le x y && all_le a b

-- how two vectors stand to each other
abbrev pub order_of : List ℕ → List ℕ → Ordering4
order_of a b = cond (all_le a b) (cond (all_le b a) Same Below) (cond (all_le b a) Above Beside)

-- what an answer says
abbrev pub Compares : List ℕ → List ℕ → Ordering4 → Type 0
Compares a b Same = a ≡ b
Compares a b Below = AllLe a b × (AllLe b a → ⊥)
Compares a b Above = AllLe b a × (AllLe a b → ⊥)
Compares a b Beside = (AllLe a b → ⊥) × (AllLe b a → ⊥)

-- counter by counter the greater
abbrev pub joined : List ℕ → List ℕ → List ℕ
joined [] b = b
joined (x ∷ a) [] = x ∷ a
joined (x ∷ a) (y ∷ b) = max x y ∷ joined a b

-- one counter raised by one
abbrev pub raised : List ℕ → ℕ → List ℕ
raised [] zero = 1 ∷ []
raised [] (suc i) = 0 ∷ raised [] i
raised (x ∷ v) zero = suc x ∷ v
raised (x ∷ v) (suc i) = x ∷ raised v i
