-- The data pages and the tables that the copies of a pack name.
use Rattle.std.proofs.Common.{◌≡◌, ℕ, zero, suc, ◌+◌, ◌<◌, ◌≤◌, List, [], ◌∷◌, ◌++◌, length, take, set, get_or, Option, None, ap, arith, length-append}
use Rattle.std.specs.List.{flat_map}
use Rattle.pack_slots.specs.declared.inode_copy.InodeCopy.{InodeCopy}
use Rattle.pack_slots.specs.Copies.{times}
use Rattle.pack_slots.proofs.PageTimes.{times-append}

-- what copies name: their pages or their tables
module _ (names : Option InodeCopy → List ℕ) (nothing : names None ≡ []) where
  pub named_part : (p : ℕ) (copies : List (Option InodeCopy)) (i : ℕ) → times p (names (get_or copies i None)) ≤ times p (flat_map names copies)
  named_part p [] i = let e = ap (times p) nothing in omega arith
  named_part p (copy ∷ copies) zero = omega (arith, times-append p (names copy) (flat_map names copies))
  named_part p (copy ∷ copies) (suc i) = omega (arith, times-append p (names copy) (flat_map names copies), named_part p copies i)

  -- that of two inodes
  pub named_two : (p : ℕ) (copies : List (Option InodeCopy)) (i j : ℕ) → i < j → times p (names (get_or copies i None)) + times p (names (get_or copies j None)) ≤ times p (flat_map names copies)
  named_two p [] i j lt = let e = ap (times p) nothing in omega arith
  named_two p (copy ∷ copies) zero zero lt = absurd (omega arith)
  named_two p (copy ∷ copies) zero (suc j) lt = omega (arith, times-append p (names copy) (flat_map names copies), named_part p copies j)
  named_two p (copy ∷ copies) (suc i) zero lt = absurd (omega arith)
  named_two p (copy ∷ copies) (suc i) (suc j) lt = omega (arith, times-append p (names copy) (flat_map names copies), named_two p copies i j (omega arith))

  -- after one copy is another
  pub named-set : (p : ℕ) (copies : List (Option InodeCopy)) (i : ℕ) (made : Option InodeCopy) → i < length copies
      → times p (flat_map names (set copies i made)) + times p (names (get_or copies i None)) ≡ times p (flat_map names copies) + times p (names made)
  named-set p [] i made lt = absurd (omega arith)
  named-set p (copy ∷ copies) zero made lt = omega (arith, times-append p (names copy) (flat_map names copies), times-append p (names made) (flat_map names copies))
  named-set p (copy ∷ copies) (suc i) made lt = omega (arith, times-append p (names copy) (flat_map names copies), times-append p (names copy) (flat_map names (set copies i made)), named-set p copies i made (omega arith))

  pub length-named_set : (copies : List (Option InodeCopy)) (i : ℕ) (made : Option InodeCopy) → i < length copies
      → length (flat_map names (set copies i made)) + length (names (get_or copies i None)) ≡ length (flat_map names copies) + length (names made)
  length-named_set [] i made lt = absurd (omega arith)
  length-named_set (copy ∷ copies) zero made lt = omega (arith, length-append (names copy) (flat_map names copies), length-append (names made) (flat_map names copies))
  length-named_set (copy ∷ copies) (suc i) made lt = omega (arith, length-append (names copy) (flat_map names copies), length-append (names copy) (flat_map names (set copies i made)), length-named_set copies i made (omega arith))

-- each of these is below n
abbrev pub AreBelow : ℕ → List ℕ → Type 0
AreBelow n [] = Unit {0}
AreBelow n (x ∷ xs) = (x < n) × AreBelow n xs

pub below-append : (n : ℕ) (xs ys : List ℕ) → AreBelow n xs → AreBelow n ys → AreBelow n (xs ++ ys)
below-append n [] ys a b = b
below-append n (x ∷ xs) ys a b = (a.0, below-append n xs ys a.1 b)

pub below_take : (n m : ℕ) (xs : List ℕ) → ((i : ℕ) → i < m → get_or xs i 0 < n) → AreBelow n (take m xs)
below_take n zero xs h = tt
below_take n (suc m) [] h = tt
below_take n (suc m) (x ∷ xs) h = (h 0 (omega arith), below_take n m xs (λ i lt. h (suc i) (omega arith)))
