-- A list of versions in order is split by each version.
use Rattle.std.proofs.Common.{◌≡◌, ℕ, zero, suc, ◌<◌, ◌≤◌, Bool, true, false, List, [], ◌∷◌, length, get_or, arith}
use Rattle.std.specs.List.{list_all}
use Rattle.std.specs.List.Sorted.{IsPartitionedBy, IsPartitionPoint}
use Rattle.past_laws.specs.of_promises.Past.{Copy}
use Rattle.past_laws.specs.of_promises.After.{is_copy_below}
use Rattle.past_laws.specs.Agreement.{ascends}
use Rattle.past_laws.proofs.Names.{both_parts}
use Rattle.past_laws.proofs.TreesSorted.{copies}
use Rattle.audit_copies.specs.Below.{IsSplit}

-- what all pass, the one at a place passes
pub all_at : {X : Type 0} (p : X → Bool) (xs : List X) (i : ℕ) (d : X) → i < length xs → list_all p xs ≡ true → p (get_or xs i d) ≡ true
all_at p [] i d l h = absurd (omega (arith, l))
all_at p (x ∷ xs) zero d l h = (both_parts (p x) (list_all p xs) h).0
all_at p (x ∷ xs) (suc i) d l h = all_at p xs i d (omega (arith, l)) (both_parts (p x) (list_all p xs) h).1

-- a test that what is below one that passes passes too
parted : (p : Copy → Bool) → ((a b : Copy) → is_copy_below a b ≡ true → p b ≡ true → p a ≡ true) → (xs : List Copy) → ascends is_copy_below xs ≡ true → IsPartitionedBy p xs
parted p down [] up i j d le l h = absurd (omega (arith, l))
parted p down (x ∷ xs) up zero zero d le l h = h
parted p down (x ∷ xs) up zero (suc j) d le l h =
    let parts : (list_all (is_copy_below x) xs ≡ true) × (ascends is_copy_below xs ≡ true) = both_parts (list_all (is_copy_below x) xs) (ascends is_copy_below xs) up in
    down x (get_or xs j d) (all_at (is_copy_below x) xs j d (omega (arith, l)) parts.0) h
parted p down (x ∷ xs) up (suc i) zero d le l h = absurd (omega (arith, le))
parted p down (x ∷ xs) up (suc i) (suc j) d le l h =
    parted p down xs (both_parts (list_all (is_copy_below x) xs) (ascends is_copy_below xs) up).1 i j d (omega (arith, le)) (omega (arith, l)) h

pub split_by : (p : Copy → Bool) → ((a b : Copy) → is_copy_below a b ≡ true → p b ≡ true → p a ≡ true) → (xs : List Copy) (k : ℕ) → k ≤ length xs
    → (IsPartitionedBy p xs → IsPartitionPoint (λ y. p y ≡ true) (λ y. p y ≡ false) xs k) → ascends is_copy_below xs ≡ true → IsSplit p xs k
split_by p down xs k l point up =
    let two = point (parted p down xs up) in
    record { within = l; first = λ i d h. two.0 i d (omega arith) h; other = λ i d h m. two.1 i d h m }

pub splits : (v : Copy) (xs : List Copy) (k : ℕ) → k ≤ length xs
    → (IsPartitionedBy (λ w. is_copy_below w v) xs → IsPartitionPoint (λ y. is_copy_below y v ≡ true) (λ y. is_copy_below y v ≡ false) xs k) → ascends is_copy_below xs ≡ true
    → IsSplit (λ w. is_copy_below w v) xs k
splits v xs k l point up = split_by (λ w. is_copy_below w v) (λ a b h m. copies.through a b v h m) xs k l point up
