-- Which numbers are free.
use Rattle.std.proofs.Common.{◌≡◌, ℕ, zero, suc, ◌+◌, ◌-◌, ◌*◌, ◌≤◌, ◌<◌, Bool, true, false, cond, List, [], ◌∷◌, ◌++◌, Option, None, Some, refl, sym, ap, ◌∙◌, arith}
use Rattle.std.specs.Prelude.{is_some, ◌==◌, ◌||◌, ◌&&◌}
use Rattle.std.specs.List.{list_any}
use Rattle.std.specs.Option.{option_map}
use Rattle.std.proofs.lemmas.Bool.Decides.{nat_tests}
use Rattle.locus_ids.specs.Sizes.{inodes_max, inode_span}
use Rattle.pack_layout.specs.Layout.{area_at}
use Rattle.pack_slots.specs.of_inode_switch.View.{Version, view}
use Rattle.inode_pack.specs.Pack.{PackState}
use Rattle.wire_messages.specs.declared.body.ReportedCopy.{ReportedCopy}
use Rattle.role_steps.specs.Tables.{row}
use Rattle.role_steps.specs.Views.{Store}
use Rattle.role_steps.specs.Storage.{copy_key, reported, is_held, is_used, is_making, next_ino}
use Rattle.role_steps.specs.declared.copies.FileCopy.{FileCopy}
use Rattle.site_packs.specs.Copies.{with_version, copies_from, copies_in, copies_behind, copies_on}
use Rattle.site_packs.specs.Packs.{PacksState, pack_in, slot_held, slot_reported, ArePacks, AreShown, AreMaking, groups_of, is_taken, free_ino}
use Rattle.site_packs.proofs.Fields.{ino_of}
use Rattle.site_packs.proofs.Reports.{head_is}

-- each inode's number is a small one
abbrev AreSmall : List FileCopy → Type 0
AreSmall [] = Unit {0}
AreSmall (x ∷ xs) = (x.file.ino < inode_span) × AreSmall xs

small_with : (group ino : ℕ) (o : Option Version) (xs : List FileCopy) → ino < inode_span → AreSmall xs → AreSmall (with_version group ino o xs)
small_with group ino None xs lt rest = rest
small_with group ino (Some v) xs lt rest = let e = ino_of group ino v in (omega arith, rest)

small_from : (group : ℕ) (held : ℕ → Option Version) (ino left : ℕ) → ino + left ≤ inode_span → AreSmall (copies_from group held ino left)
small_from group held ino zero le = tt
small_from group held ino (suc left) le = small_with group ino (held ino) (copies_from group held (ino + 1) left) (omega arith) (small_from group held (ino + 1) left (omega arith))

small_both : (xs ys : List FileCopy) → AreSmall xs → AreSmall ys → AreSmall (xs ++ ys)
small_both [] ys one two = two
small_both (x ∷ xs) ys one two = (one.0, small_both xs ys one.1 two)

small_in : (base group : ℕ) (image : List ℕ) → AreSmall (copies_in base group image)
unfolding copies_in
small_in base group image = small_from group (view image base) 1 inodes_max (omega arith)

small_behind : (nth : ℕ) (groups image : List ℕ) → AreSmall (copies_behind nth groups image)
small_behind nth [] image = tt
small_behind nth (group ∷ groups) image = small_both (copies_in (area_at nth) group image) (copies_behind (nth + 1) groups image) (small_in (area_at nth) group image) (small_behind (nth + 1) groups image)

key_same : (a b g i : ℕ) → b < inode_span → i < inode_span → ((a == g) && (b == i)) ≡ (a * inode_span + b == g * inode_span + i)
key_same a b g i lt less = grind (arith, nat_tests)

-- a number is held where its row is found
any_row : (group ino : ℕ) (xs : List FileCopy) → ino < inode_span → AreSmall xs → list_any (is_held group ino) xs ≡ is_some (row copy_key (group * inode_span + ino) xs)
any_row group ino [] lt small = refl
any_row group ino (x ∷ xs) lt small =
    let same = key_same x.file.group x.file.ino group ino small.0 lt in
    let rest : list_any (is_held group ino) xs ≡ is_some (row copy_key (group * inode_span + ino) xs) = any_row group ino xs lt small.1 in
    let first : list_any (is_held group ino) (x ∷ xs) ≡ ((copy_key x == group * inode_span + ino) || list_any (is_held group ino) xs) = ap (λ (b : Bool). b || list_any (is_held group ino) xs) same in
    let then : ((copy_key x == group * inode_span + ino) || list_any (is_held group ino) xs) ≡ is_some (row copy_key (group * inode_span + ino) (x ∷ xs)) = (elim (copy_key x == group * inode_span + ino) as (λ b. (b || list_any (is_held group ino) xs) ≡ is_some (elim b [ true ↦ Some x | false ↦ row copy_key (group * inode_span + ino) xs ])) [
      | true ↦ refl
      | false ↦ rest
    ]) in
    first ∙ then

some_map : {A B : Type 0} (f : A → B) (o : Option A) → is_some (option_map f o) ≡ is_some o
some_map f None = refl
some_map f (Some x) = refl

cond_or : (a b : Bool) → cond a true b ≡ (a || b)
cond_or true b = refl
cond_or false b = refl

module _ (p : PacksState) (group : ℕ) (making image : List ℕ) (s : Store) (are : ArePacks 0 0 p.site p.packs) (shown : AreShown p.packs image) (same : s.copies ≡ copies_on (groups_of p) image) (makes : AreMaking group making s) where
  taken_is : (ino : ℕ) → ino < inode_span → is_used s group ino ≡ is_taken p.packs group making ino
  taken_is ino lt =
      let held : list_any (is_held group ino) s.copies ≡ is_some (slot_held (pack_in group p.packs) ino) =
      ap (λ (xs : List FileCopy). list_any (is_held group ino) xs) same
      ∙ any_row group ino (copies_on (groups_of p) image) lt (small_behind 0 (groups_of p) image)
      ∙ sym (some_map reported (row copy_key (group * inode_span + ino) (copies_on (groups_of p) image)))
      ∙ ap (λ (o : Option ReportedCopy). is_some o) (head_is p image (record { group = group; ino = ino }) are shown lt)
      ∙ some_map (slot_reported ino) (slot_held (pack_in group p.packs) ino) in
      cond_or (list_any (is_held group ino) s.copies) (list_any (is_making group ino) s.instances)
      ∙ (λ i. held i || makes ino i)

  pub free_is : (ino left : ℕ) → ino + left ≤ inode_span → free_ino p.packs group making ino left ≡ next_ino s group ino left
  free_is ino zero le = refl
  free_is ino (suc left) le =
      let one = taken_is ino (omega arith) in
      let rest = free_is (ino + 1) left (omega arith) in
      (λ i. elim (sym one i) [ true ↦ rest i | false ↦ Some ino ])

-- ---- the search ----

pub next_free : (packs : List PackState) (group : ℕ) (making : List ℕ) (ino left : ℕ) → 1 ≤ left → is_taken packs group making ino ≡ true → free_ino packs group making ino left ≡ free_ino packs group making (ino + 1) (left - 1)
next_free packs group making ino zero le taken = absurd (omega arith)
next_free packs group making ino (suc left) le taken =
    let e : left ≡ suc left - 1 = omega arith in
    (λ i. elim (taken i) [ true ↦ free_ino packs group making (ino + 1) left | false ↦ Some ino ]) ∙ ap (λ (n : ℕ). free_ino packs group making (ino + 1) n) e

pub this_free : (packs : List PackState) (group : ℕ) (making : List ℕ) (ino left : ℕ) → 1 ≤ left → is_taken packs group making ino ≡ false → free_ino packs group making ino left ≡ Some ino
this_free packs group making ino zero le taken = absurd (omega arith)
this_free packs group making ino (suc left) le taken = (λ i. elim (taken i) [ true ↦ free_ino packs group making (ino + 1) left | false ↦ Some ino ])
