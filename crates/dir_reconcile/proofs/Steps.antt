-- One step of a join.
use Rattle.std.proofs.Common.{◌≡◌, ℕ, ◌+◌, ◌≤◌, List, [], ◌∷◌, ◌++◌, length, drop, refl, sym, ap, ◌∙◌, append_assoc}
use Rattle.std.proofs.lemmas.List.{drop_all, append-nil}
use Rattle.std.specs.declared.cmp.Ordering.{Ordering}
use Rattle.std.specs.declared.cmp.Ordering.TheVariants.{Less, Equal, Greater}
use Rattle.dir_format.specs.declared.entry.Entry.{Entry}
use Rattle.dir_format.specs.Entries.{entry_cmp}
use Rattle.dir_reconcile.specs.Joins.{joined_entry, joined_dirs}

module _ (x y : Entry) (xs ys : List Entry) where
  -- what the join of two lists is, by how their first entries stand
  abbrev pub joined_so : Ordering → List Entry
  joined_so o = elim o [
    | Less ↦ x ∷ joined_dirs xs (y ∷ ys)
    | Equal ↦ joined_entry x y ∷ joined_dirs xs ys
    | Greater ↦ y ∷ joined_dirs (x ∷ xs) ys
  ]

  pub joined_is : (o : Ordering) → entry_cmp x y ≡ o → joined_dirs (x ∷ xs) (y ∷ ys) ≡ joined_so o
  joined_is o e = ap joined_so e

pub nothing_joined : (xs : List Entry) → joined_dirs xs [] ≡ xs
nothing_joined [] = refl
nothing_joined (x ∷ xs) = ap (λ (l : List Entry). x ∷ l) (nothing_joined xs)

module _ (xs ys : List Entry) (i j : ℕ) where
  pub first_over : (out total : List Entry) → length xs ≤ i → out ++ joined_dirs (drop i xs) (drop j ys) ≡ total → (out ++ drop i xs) ++ drop j ys ≡ total
  first_over out total le h =
      let none : drop i xs ≡ [] = drop_all i xs le in
      append_assoc out (drop i xs) (drop j ys) ∙ ap (λ (l : List Entry). out ++ (l ++ drop j ys)) none ∙ sym (ap (λ (l : List Entry). out ++ joined_dirs l (drop j ys)) none) ∙ h

  pub second_over : (out total : List Entry) → length ys ≤ j → out ++ joined_dirs (drop i xs) (drop j ys) ≡ total → (out ++ drop i xs) ++ drop j ys ≡ total
  second_over out total le h =
      let none : drop j ys ≡ [] = drop_all j ys le in
      ap (λ (l : List Entry). (out ++ drop i xs) ++ l) none ∙ append-nil (out ++ drop i xs)
      ∙ ap (λ (l : List Entry). out ++ l) (sym (nothing_joined (drop i xs))) ∙ sym (ap (λ (l : List Entry). out ++ joined_dirs (drop i xs) l) none) ∙ h
