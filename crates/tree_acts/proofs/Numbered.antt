-- A rescue asks only for versions of inodes that a directory can have.
use Rattle.std.proofs.Common.{◌≡◌, ℕ, ◌==◌, length, Bool, true, false, not, ◌&&◌, ◌||◌, cond, List, [], ◌∷◌, refl, sym, ap, ◌∙◌, ⊎_elim, arith}
use Rattle.std.specs.declared.cmp.Ordering.{Ordering}
use Rattle.std.specs.declared.cmp.Ordering.TheVariants.{Less, Equal, Greater}
use Rattle.std.specs.Prelude.{filter, map}
use Rattle.std.specs.Ordering.{nat_cmp}
use Rattle.std.specs.List.{AllByRecursion, list_all, list_any}
use Rattle.std.proofs.lemmas.Bool.{cases_Bool}
use Rattle.dir_format.specs.declared.entry.Entry.{Entry}
use Rattle.dir_format.specs.Contents.{entries_from, entries_of, is_dir, is_entry}
use Rattle.dir_format.specs.Entries.{entry_cmp, is_live}
use Rattle.dir_format.specs.Grammar.{dir_bytes}
use Rattle.dir_reconcile.specs.declared.kept.KeptVector.{KeptVector}
use Rattle.dir_reconcile.specs.Joins.{joined_by, joined_dirs, joined_entry, joined_from}
use Rattle.dir_reconcile.specs.Rescues.{all_seen, chosen, entry_after_rescue, has_live, is_that, is_to_rescue, is_unseen, rescued, revived}
use Rattle.role_steps.specs.OperationEffects.{joined_contents}
use Rattle.std.specs.Str.{bytes_eq}
use Rattle.role_steps.proofs.of_plain_facts.Numbers.{equal}
use Rattle.role_steps.proofs.of_plain_facts.Tests.{and_first, and_second}
use Rattle.tree_acts.specs.Acting.{has_number, is_number}

abbrev pub AreNumbered : List Entry → Type 0
AreNumbered ds = AllByRecursion (λ d. is_number d.ino ≡ true) ds

-- Vectors of other inodes don't matter.

other_number : (ino : ℕ) (k : KeptVector) → is_number ino ≡ true → has_number k ≡ false → (k.ino == ino) ≡ false
other_number ino k yes_it no_it =
    ⊎_elim (λ (t : (k.ino == ino) ≡ true). absurd (let same : is_number k.ino ≡ true = ap is_number (equal k.ino ino t) ∙ yes_it in let g : true ≡ false = sym same ∙ no_it in cc))
    (λ (f : (k.ino == ino) ≡ false). f)
    (cases_Bool (k.ino == ino))

unseen_alike : (ino : ℕ) (seen : List ℕ) (ks : List KeptVector) → is_number ino ≡ true → list_any (is_unseen ino seen) (filter has_number ks) ≡ list_any (is_unseen ino seen) ks
unseen_alike ino seen [] it = refl
unseen_alike ino seen (k ∷ ks) it =
    ⊎_elim (λ (t : has_number k ≡ true). rw t (ap (λ b. is_unseen ino seen k || b) (unseen_alike ino seen ks it)))
    (λ (f : has_number k ≡ false). rw f (rw (other_number ino k it f) (unseen_alike ino seen ks it)))
    (cases_Bool (has_number k))

rescue_alike : (ds : List Entry) (ks : List KeptVector) (d : Entry) → is_number d.ino ≡ true → is_to_rescue ds (filter has_number ks) d ≡ is_to_rescue ds ks d
rescue_alike ds ks d it = ap (λ (b : Bool). not (is_live d) && ((not (has_live d.ino ds) && b) && is_that (chosen d.ino ds) d)) (unseen_alike d.ino (all_seen d.ino ds) ks it)

after_alike : (ds : List Entry) (ks : List KeptVector) (es : List Entry) → AreNumbered es → map (entry_after_rescue ds (filter has_number ks)) es ≡ map (entry_after_rescue ds ks) es
after_alike ds ks [] all = refl
after_alike ds ks (e ∷ es) all =
    ap (λ (b : Bool). cond b (revived e) e ∷ map (entry_after_rescue ds (filter has_number ks)) es) (rescue_alike ds ks e all.0)
    ∙ ap (λ (fs : List Entry). entry_after_rescue ds ks e ∷ fs) (after_alike ds ks es all.1)

-- The inodes of joins of directories.

joined_one : (o : Ordering) (a b : Entry) → is_number a.ino ≡ true → is_number b.ino ≡ true → is_number (joined_by o a b).ino ≡ true
joined_one Less a b pa pb = pb
joined_one Equal a b pa pb = pa
joined_one Greater a b pa pb = pa

numbered_from : (a : Entry) (others : List Entry → List Entry) → is_number a.ino ≡ true → ((bs : List Entry) → AreNumbered bs → AreNumbered (others bs)) → (bs : List Entry) → AreNumbered bs → AreNumbered (joined_from a others bs)
numbered_from a others pa rest [] all = (pa, rest [] all)
numbered_from a others pa rest (b ∷ bs) all = by_order (entry_cmp a b) (numbered_from a others pa rest bs all.1)
  where
    by_order : (o : Ordering) → AreNumbered (joined_from a others bs) → AreNumbered (elim o [
      | Less ↦ a ∷ others (b ∷ bs)
      | Equal ↦ joined_entry a b ∷ others bs
      | Greater ↦ b ∷ joined_from a others bs
    ])
    by_order Less more = (pa, rest (b ∷ bs) all)
    by_order Equal more = (joined_one (nat_cmp a.count b.count) a b pa all.0, rest bs all.1)
    by_order Greater more = (all.0, more)

numbered_join : (ds es : List Entry) → AreNumbered ds → AreNumbered es → AreNumbered (joined_dirs ds es)
numbered_join [] es a b = b
numbered_join (d ∷ ds) es a b = numbered_from d (joined_dirs ds) a.0 (λ bs all. numbered_join ds bs a.1 all) es b

numbered_entry : (d : Entry) → is_entry d ≡ true → is_number d.ino ≡ true
numbered_entry d h = and_first (is_number d.ino) _ (and_second _ _ h)

numbered_entries : (ds : List Entry) → list_all is_entry ds ≡ true → AreNumbered ds
numbered_entries [] h = tt
numbered_entries (d ∷ ds) h = (numbered_entry d (and_first (is_entry d) (list_all is_entry ds) h), numbered_entries ds (and_second (is_entry d) (list_all is_entry ds) h))

numbered_dir : (bytes : List ℕ) (ds : List Entry) (b : Bool) → (bytes_eq (dir_bytes ds) bytes && is_dir ds) ≡ b → AreNumbered (cond b ds [])
numbered_dir bytes ds true h = numbered_entries ds (and_first (list_all is_entry ds) _ (and_second (bytes_eq (dir_bytes ds) bytes) (is_dir ds) h))
numbered_dir bytes ds false h = tt

numbered_content : (c : List ℕ) → AreNumbered (entries_of c)
numbered_content c = numbered_dir c (entries_from (length c) c) _ refl

numbered_contents : (cs : List (List ℕ)) → AreNumbered (joined_contents cs)
numbered_contents [] = tt
numbered_contents (c ∷ cs) = numbered_join (entries_of c) (joined_contents cs) (numbered_content c) (numbered_contents cs)

-- the rescue of the join is the same without the vectors of inodes that no directory has
pub rescued_alike : (cs : List (List ℕ)) (ks : List KeptVector) → rescued (joined_contents cs) (filter has_number ks) ≡ rescued (joined_contents cs) ks
rescued_alike cs ks = after_alike (joined_contents cs) ks (joined_contents cs) (numbered_contents cs)
