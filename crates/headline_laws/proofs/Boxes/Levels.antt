-- How far the entries of a name have come in a directory: the greatest of their counts.
use Rattle.std.proofs.Common.{◌≡◌, ℕ, ◌≤◌, max, Bool, true, false, cond, List, [], ◌∷◌, refl, sym, ap, subst, arith}
use Rattle.std.proofs.lemmas.Bool.Decides.{nat_tests}
use Rattle.std.proofs.lemmas.Slice.Eq.{bytes_eq-Decides}
use Rattle.std.specs.List.{AllByRecursion}
use Rattle.std.specs.Ordering.{nat_cmp}
use Rattle.std.specs.Str.{bytes_eq}
use Rattle.std.specs.declared.cmp.Ordering.{Ordering}
use Rattle.std.specs.declared.cmp.Ordering.TheVariants.{Less, Equal, Greater}
use Rattle.plain_facts.proofs.Tests.{same_truth}
use Rattle.dir_format.specs.declared.entry.Entry.{Entry}
use Rattle.dir_format.specs.Entries.{entry_cmp, placed, with_entry}
use Rattle.dir_reconcile.specs.Joins.{joined_by, joined_dirs, joined_entry}
use Rattle.dir_reconcile.proofs.JoinLaws.{same_name}
use Rattle.dir_reconcile.proofs.Steps.{joined_so}

-- what the entry adds to the level of a name
abbrev pub share : Entry → List ℕ → ℕ
share d name = cond (bytes_eq d.name name) d.count 0

abbrev pub level : List Entry → List ℕ → ℕ
level [] name = 0
level (d ∷ ds) name = max (share d name) (level ds name)

-- ---- joins ----

share_by : (x y : Entry) (name : List ℕ) (o : Ordering) → nat_cmp x.count y.count ≡ o → entry_cmp x y ≡ Equal → share (joined_by o x y) name ≡ max (share x name) (share y name)
share_by x y name o is same = over (bytes_eq x.name name) refl o is
  where
    also : (b : Bool) → bytes_eq x.name name ≡ b → bytes_eq y.name name ≡ b
    also b e = subst (λ (n : List ℕ). bytes_eq n name ≡ b) (same_name x y same) e

    over : (b : Bool) → bytes_eq x.name name ≡ b → (p : Ordering) → nat_cmp x.count y.count ≡ p → share (joined_by p x y) name ≡ max (share x name) (share y name)
    over true e Less k = rw (e, also true e) (grind (arith, nat_tests))
    over true e Equal k = rw (e, also true e) (grind (arith, nat_tests))
    over true e Greater k = rw (e, also true e) (grind (arith, nat_tests))
    over false e Less k = rw (e, also false e) refl
    over false e Equal k = rw (e, also false e) refl
    over false e Greater k = rw (e, also false e) refl

module _ (name : List ℕ) where
  level_so : (x y : Entry) (xs ys : List Entry) (o : Ordering) → entry_cmp x y ≡ o → ((zs : List Entry) → level (joined_dirs xs zs) name ≡ max (level xs name) (level zs name)) → level (joined_dirs (x ∷ xs) ys) name ≡ max (level (x ∷ xs) name) (level ys name) →
      level (joined_so x y xs ys o) name ≡ max (level (x ∷ xs) name) (level (y ∷ ys) name)
  level_so x y xs ys Less e others rest = let k : level (joined_dirs xs (y ∷ ys)) name ≡ max (level xs name) (level (y ∷ ys) name) = others (y ∷ ys) in omega arith
  level_so x y xs ys Equal e others rest = let k : level (joined_dirs xs ys) name ≡ max (level xs name) (level ys name) = others ys in let j : share (joined_entry x y) name ≡ max (share x name) (share y name) = share_by x y name (nat_cmp x.count y.count) refl e in omega arith
  level_so x y xs ys Greater e others rest = omega arith

  level_from : (x : Entry) (xs ys : List Entry) → ((zs : List Entry) → level (joined_dirs xs zs) name ≡ max (level xs name) (level zs name)) → level (joined_dirs (x ∷ xs) ys) name ≡ max (level (x ∷ xs) name) (level ys name)
  level_from x xs [] others = let k : level (joined_dirs xs []) name ≡ max (level xs name) 0 = others [] in omega arith
  level_from x xs (y ∷ ys) others = level_so x y xs ys (entry_cmp x y) refl others (level_from x xs ys others)

  -- in a join it is the greater one
  pub level_joined : (xs ys : List Entry) → level (joined_dirs xs ys) name ≡ max (level xs name) (level ys name)
  level_joined [] ys = omega arith
  level_joined (x ∷ xs) ys = level_from x xs ys (λ zs. level_joined xs zs)

-- ---- an entry in its place ----

-- what the entry takes the place of has come no further
abbrev pub IsAbove : Entry → List Entry → Type 0
IsAbove d ds = AllByRecursion (λ (e : Entry). entry_cmp d e ≡ Equal → e.count ≤ d.count) ds

again : (m : ℕ) → max 0 m ≡ max 0 (max 0 m)
again m = omega arith

pub from_zero : (m : ℕ) → max 0 m ≡ m
from_zero m = omega arith

wide : (a b m : ℕ) → b ≤ a → max a m ≡ max a (max b m)
wide a b m h = omega arith

module _ (name : List ℕ) (d : Entry) where
  placed_level : (e : Entry) (es : List Entry) (o : Ordering) → entry_cmp d e ≡ o → (o ≡ Equal → e.count ≤ d.count) → level (with_entry d es) name ≡ max (share d name) (level es name) →
      level (placed o d e es (with_entry d es)) name ≡ max (share d name) (level (e ∷ es) name)
  placed_level e es Less is above rest = refl
  placed_level e es Equal is above rest = over (bytes_eq d.name name) refl
    where
      also : (b : Bool) → bytes_eq d.name name ≡ b → bytes_eq e.name name ≡ b
      also b k = subst (λ (n : List ℕ). bytes_eq n name ≡ b) (same_name d e is) k

      below : e.count ≤ d.count
      below = above refl

      over : (b : Bool) → bytes_eq d.name name ≡ b → max (share d name) (level es name) ≡ max (share d name) (max (share e name) (level es name))
      over true k = rw (k, also true k) (wide d.count e.count (level es name) below)
      over false k = rw (k, also false k) (again (level es name))
  placed_level e es Greater is above rest = omega arith

  pub level_with : (ds : List Entry) → IsAbove d ds → level (with_entry d ds) name ≡ max (share d name) (level ds name)
  level_with [] above = refl
  level_with (e ∷ es) above = placed_level e es (entry_cmp d e) refl above.0 (level_with es above.1)

-- ---- which entries there are ----

pub share_own : (d : Entry) → share d d.name ≡ d.count
share_own d = ap (λ (b : Bool). cond b d.count 0) ((bytes_eq-Decides d.name d.name).1 refl)

-- an entry of another name changes nothing
module _ (name : List ℕ) (d : Entry) (apart : bytes_eq d.name name ≡ false) where
  other_placed : (e : Entry) (es : List Entry) (o : Ordering) → entry_cmp d e ≡ o → level (with_entry d es) name ≡ level es name → level (placed o d e es (with_entry d es)) name ≡ level (e ∷ es) name
  other_placed e es Less is rest = rw apart (from_zero (level (e ∷ es) name))
  other_placed e es Equal is rest = rw (apart, subst (λ (n : List ℕ). bytes_eq n name ≡ false) (same_name d e is) apart) refl
  other_placed e es Greater is rest = omega arith

  pub level_other : (ds : List Entry) → level (with_entry d ds) name ≡ level ds name
  level_other [] = rw apart refl
  level_other (e ∷ es) = other_placed e es (entry_cmp d e) refl (level_other es)

pub share_named : (e : Entry) (name : List ℕ) → e.name ≡ name → share e name ≡ e.count
share_named e name is = ap (λ (b : Bool). cond b e.count 0) ((bytes_eq-Decides e.name name).1 is)

-- where none of its name has come anywhere, it is above all
pub none_above : (d : Entry) (ds : List Entry) → level ds d.name ≡ 0 → IsAbove d ds
none_above d [] z = tt
none_above d (e ∷ es) z = ((λ is. low (share_named e d.name (sym (same_name d e is)))), none_above d es (omega (arith, z)))
  where
    low : share e d.name ≡ e.count → e.count ≤ d.count
    low k = omega (arith, z, k)

pub bytes_back : (a b : List ℕ) → bytes_eq a b ≡ bytes_eq b a
bytes_back a b = same_truth (bytes_eq a b) (bytes_eq b a) (λ e. (bytes_eq-Decides b a).1 (sym ((bytes_eq-Decides a b).0 e))) (λ e. (bytes_eq-Decides a b).1 (sym ((bytes_eq-Decides b a).0 e)))
