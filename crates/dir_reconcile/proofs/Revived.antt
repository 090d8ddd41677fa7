-- A rescued directory is a directory.
use Rattle.std.proofs.Common.{◌≡◌, ℕ, suc, ◌^◌, ◌<◌, ◌%◌, ◌==◌, Bool, true, false, not, ◌&&◌, cond, List, [], ◌∷◌, map, refl, sym, ◌∙◌, arith}
use Rattle.std.proofs.lemmas.Bool.Decides.{nat_tests}
use Rattle.std.specs.List.{AllByRecursion}
use Rattle.std.specs.declared.cmp.Ordering.TheVariants.{Less}
use Rattle.dir_format.specs.declared.entry.Entry.{Entry}
use Rattle.dir_format.specs.Entries.{entry_cmp, is_live, IsEntry, IsDir, Ascends, OneKind}
use Rattle.dir_format.proofs.Tests.{both, not_true}
use Rattle.dir_format.proofs.Following.{vector_of_nothing}
use Rattle.dir_reconcile.specs.declared.kept.KeptVector.{KeptVector}
use Rattle.dir_reconcile.specs.Rescues.{revived, is_to_rescue, entry_after_rescue, rescued, wants_rescue, is_that, chosen}

even : (n : ℕ) → ((n % 2) == 1) ≡ false → n < 2 ^ 32 → suc n < 2 ^ 32
even n h k = grind (arith, nat_tests)

-- a removed entry made live
fits : (d : Entry) → IsEntry d → is_live d ≡ false → IsEntry (revived d)
fits d h removed = record {
  name = h.name;
  ino = h.ino;
  count = (omega arith, even d.count removed h.count.1);
  seen = vector_of_nothing;
  live = λ _. refl;
}

fits_by : (b : Bool) (d : Entry) → IsEntry d → (b ≡ true → is_live d ≡ false) → IsEntry (cond b (revived d) d)
fits_by true d h removed = fits d h (removed refl)
fits_by false d h removed = h

-- it has the place and the kind that it had
left_by : (b : Bool) (d e : Entry) → entry_cmp (cond b (revived d) d) e ≡ entry_cmp d e
left_by true d e = refl
left_by false d e = refl

right_by : (b : Bool) (d e : Entry) → entry_cmp d (cond b (revived e) e) ≡ entry_cmp d e
right_by true d e = refl
right_by false d e = refl

ino_by : (b : Bool) (d : Entry) → (cond b (revived d) d).ino ≡ d.ino
ino_by true d = refl
ino_by false d = refl

kind_by : (b : Bool) (d : Entry) → (cond b (revived d) d).kind ≡ d.kind
kind_by true d = refl
kind_by false d = refl

module _ (ds : List Entry) (kept : List KeptVector) where
  removed_one : (d : Entry) → is_to_rescue ds kept d ≡ true → is_live d ≡ false
  removed_one d h = not_true (is_live d) (both (not (is_live d)) (wants_rescue ds kept d.ino && is_that (chosen d.ino ds) d) h).0

  all_fit : (xs : List Entry) → AllByRecursion IsEntry xs → AllByRecursion IsEntry (map (entry_after_rescue ds kept) xs)
  all_fit [] h = tt
  all_fit (x ∷ xs) h = (fits_by (is_to_rescue ds kept x) x h.0 (removed_one x), all_fit xs h.1)

  all_after : (x : Entry) (xs : List Entry) → AllByRecursion (λ e. entry_cmp x e ≡ Less) xs → AllByRecursion (λ e. entry_cmp (entry_after_rescue ds kept x) e ≡ Less) (map (entry_after_rescue ds kept) xs)
  all_after x [] h = tt
  all_after x (e ∷ xs) h = (left_by (is_to_rescue ds kept x) x (entry_after_rescue ds kept e) ∙ right_by (is_to_rescue ds kept e) x e ∙ h.0, all_after x xs h.1)

  in_order : (xs : List Entry) → Ascends xs → Ascends (map (entry_after_rescue ds kept) xs)
  in_order [] h = tt
  in_order (x ∷ xs) h = (all_after x xs h.0, in_order xs h.1)

  all_alike : (x : Entry) (xs : List Entry) → AllByRecursion (λ e. e.ino ≡ x.ino → e.kind ≡ x.kind) xs
      → AllByRecursion (λ e. e.ino ≡ (entry_after_rescue ds kept x).ino → e.kind ≡ (entry_after_rescue ds kept x).kind) (map (entry_after_rescue ds kept) xs)
  all_alike x [] h = tt
  all_alike x (e ∷ xs) h = (
    (λ same. kind_by (is_to_rescue ds kept e) e ∙ h.0 (sym (ino_by (is_to_rescue ds kept e) e) ∙ same ∙ ino_by (is_to_rescue ds kept x) x) ∙ sym (kind_by (is_to_rescue ds kept x) x)),
    all_alike x xs h.1,
  )

  alike : (xs : List Entry) → OneKind xs → OneKind (map (entry_after_rescue ds kept) xs)
  alike [] h = tt
  alike (x ∷ xs) h = (all_alike x xs h.0, alike xs h.1)

pub dir_rescued : (ds : List Entry) (kept : List KeptVector) → IsDir ds → IsDir (rescued ds kept)
dir_rescued ds kept h = record { entries = all_fit ds kept ds h.entries; order = in_order ds kept ds h.order; kinds = alike ds kept ds h.kinds }
