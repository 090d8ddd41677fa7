-- What slots say of the copies of a site, as it is reported.
use Rattle.std.proofs.Common.{◌≡◌, ◌≢◌, ◌⊎◌, inl, inr, ⊎_elim, ℕ, zero, suc, ◌+◌, ◌*◌, ◌≤◌, ◌<◌, Bool, true, false, cond, List, [], ◌∷◌, ◌++◌, length, take, get_or, Option, None, Some, refl, sym, ap, subst, ◌∙◌, arith, length-append, length-take}
use Rattle.std.specs.Prelude.{map, slice_get, ◌==◌, IfSome}
use Rattle.std.specs.Option.{option_map}
use Rattle.std.proofs.lemmas.Bool.{cases_lt, eqb-true, eq-eqb, false≢true}
use Rattle.std.proofs.lemmas.Bool.Decides.{nat_tests}
use Rattle.std.proofs.lemmas.List.{get_or_past, append-nil}
use Rattle.locus_ids.specs.Sizes.{inodes_max, inode_span}
use Rattle.locus_ids.specs.declared.ids.FileId.{FileId}
use Rattle.file_content.specs.Pages.{pages_of}
use Rattle.pack_layout.specs.Layout.{area_at}
use Rattle.pack_layout.specs.declared.slot.Slot.{Slot}
use Rattle.pack_slots.specs.of_inode_switch.View.{Version, view}
use Rattle.pack_slots.specs.declared.inode_copy.InodeCopy.{InodeCopy}
use Rattle.inode_pack.specs.Pack.{PackState, Shows}
use Rattle.pack_slots.specs.Copies.{AreCopies, IsCopy, copy_of, numbers_in, pages_in, named_pages}
use Rattle.wire_messages.specs.declared.body.ReportedCopy.{ReportedCopy}
use Rattle.role_steps.specs.Tables.{row, total}
use Rattle.role_steps.specs.Storage.{copy_key, copy_pages, reported, report_of}
use Rattle.role_steps.specs.declared.copies.FileCopy.{FileCopy}
use Rattle.site_packs.specs.Copies.{copy_in, with_version, copies_from, copies_in, copies_behind}
use Rattle.site_packs.specs.Packs.{PacksState, pack_group, pack_in, slot_in, slot_held, slot_reported, slots_reported, slots_from, pack_reported, ArePacks, AreShown, copy_at}
use Rattle.site_packs.proofs.Fields.{group_of, content_of_copy}
use Rattle.site_packs.proofs.Seen.{held_none, held_some, reported_here}
use Rattle.site_packs.proofs.Behind.{PackHere, pack_here, pack_row, pack_no_row, found_in, behind_found, pack_place}

-- ---- the pack of a group ----

pub record PackFound (home group : ℕ) (packs : List PackState) (image : List ℕ) (pack : PackState) : Type 0 where
  pub at : ℕ
  pub is : slice_get packs at ≡ Some pack
  pub own : pack.group ≡ group
  pub here : PackHere 0 0 home at pack
  pub shows : Shows pack image

shown_at : (at : ℕ) (packs : List PackState) (pack : PackState) (image : List ℕ) → AreShown packs image → slice_get packs at ≡ Some pack → Shows pack image
shown_at at [] pack image shown is = absurd (let e : None ≡ Some pack = is in cc)
shown_at zero (one ∷ packs) pack image shown is = let e : one ≡ pack = (let f : Some one ≡ Some pack = is in cc) in subst (λ (p : PackState). Shows p image) e shown.0
shown_at (suc at) (one ∷ packs) pack image shown is = shown_at at packs pack image shown.1 is

pub found_pack : (home group : ℕ) (packs : List PackState) (image : List ℕ) (pack : PackState) → ArePacks 0 0 home packs → AreShown packs image → pack_in group packs ≡ Some pack → PackFound home group packs image pack
found_pack home group packs image pack are shown is =
    let place = pack_place group packs pack is in
    record { at = place.0; is = place.1; own = place.2; here = pack_here 0 0 home place.0 packs pack are place.1; shows = shown_at place.0 packs pack image shown place.1 }

-- a number of an inode, or none
inode_or_none : (ino : ℕ) → ((1 ≤ ino) × (ino ≤ inodes_max)) ⊎ ((ino ≡ 0) ⊎ (inodes_max + 1 ≤ ino))
inode_or_none zero = inr (inl refl)
inode_or_none (suc i) = ⊎_elim (λ (lt : suc i < inodes_max + 1). inl (omega arith, omega arith)) (λ (le : inodes_max + 1 ≤ suc i). inr (inr le)) (cases_lt (suc i) (inodes_max + 1))

no_copy : (copies : List (Option InodeCopy)) (ino : ℕ) → length copies ≡ inodes_max → (ino ≡ 0) ⊎ (inodes_max + 1 ≤ ino) → copy_of copies ino ≡ None
no_copy copies zero long out = refl
no_copy copies (suc i) long out = get_or_past copies i None (⊎_elim (λ (e : suc i ≡ 0). absurd (omega arith)) (λ (le : inodes_max + 1 ≤ suc i). omega arith) out)

own_head : (pack : PackState) (ino : ℕ) (image : List ℕ) → AreCopies pack.copies → Shows pack image → option_map reported (row copy_key (pack.group * inode_span + ino) (copies_in pack.base pack.group image)) ≡ option_map (slot_reported ino) (slot_in (copy_of pack.copies ino))
own_head pack ino image are shows = ⊎_elim
    (λ (is : (1 ≤ ino) × (ino ≤ inodes_max)). ap (λ (o : Option FileCopy). option_map reported o) (pack_row pack.base pack.group ino image is.0 is.1) ∙ reported_here pack pack.group ino image are shows is.0 is.1)
    (λ (out : (ino ≡ 0) ⊎ (inodes_max + 1 ≤ ino)).
    ap (λ (o : Option FileCopy). option_map reported o) (pack_no_row pack.base pack.group (pack.group * inode_span + ino) image (⊎_elim (λ (e : ino ≡ 0). inl (omega arith)) (λ (le : inodes_max + 1 ≤ ino). inr (omega arith)) out))
    ∙ sym (ap (λ (o : Option InodeCopy). option_map (slot_reported ino) (slot_in o)) (no_copy pack.copies ino are.count out)))
    (inode_or_none ino)

found_head : (home group ino : ℕ) (packs : List PackState) (image : List ℕ) (o : Option PackState) → ArePacks 0 0 home packs → AreShown packs image → pack_in group packs ≡ o → option_map reported (found_in group ino image o) ≡ option_map (slot_reported ino) (slot_held o ino)
found_head home group ino packs image None are shown is = refl
found_head home group ino packs image (Some pack) are shown is =
    let f = found_pack home group packs image pack are shown is in
    ap (λ (g : ℕ). option_map reported (row copy_key (g * inode_span + ino) (copies_in pack.base pack.group image))) (sym f.own) ∙ own_head pack ino image f.here.copies f.shows

-- what the slot of a file says is what its copy is
pub head_is : (p : PacksState) (image : List ℕ) (file : FileId) → ArePacks 0 0 p.site p.packs → AreShown p.packs image → file.ino < inode_span
    → option_map reported (copy_at p image file) ≡ option_map (slot_reported file.ino) (slot_held (pack_in file.group p.packs) file.ino)
head_is p image file are shown fits =
    ap (λ (o : Option FileCopy). option_map reported o) (behind_found 0 0 p.site file.group file.ino p.packs image are fits)
    ∙ found_head p.site file.group file.ino p.packs image (pack_in file.group p.packs) are shown refl

-- ---- room ----

total_append : (measure : FileCopy → ℕ) (xs ys : List FileCopy) → total measure (xs ++ ys) ≡ total measure xs + total measure ys
total_append measure [] ys = omega arith
total_append measure (x ∷ xs) ys = let rest = total_append measure xs ys in omega arith

total_with : (group of ino : ℕ) (o : Option Version) (xs : List FileCopy) → total (copy_pages of) (with_version group ino o xs) ≡ total (copy_pages of) (with_version group ino o []) + total (copy_pages of) xs
total_with group of ino None xs = omega arith
total_with group of ino (Some v) xs = omega arith

no_pages : (group of ino : ℕ) (o : Option Version) → group ≢ of → total (copy_pages of) (with_version group ino o []) ≡ 0
no_pages group of ino None apart = refl
no_pages group of ino (Some v) apart =
    let e : ((copy_in group ino v).file.group == of) ≡ false = (let g = group_of group ino v in grind (arith, nat_tests)) in
    let m = ap (λ (b : Bool). cond b (pages_of (length (copy_in group ino v).content)) 0) e in
    omega arith

others_total : (group of : ℕ) (held : ℕ → Option Version) (ino left : ℕ) → group ≢ of → total (copy_pages of) (copies_from group held ino left) ≡ 0
others_total group of held ino zero apart = refl
others_total group of held ino (suc left) apart =
    let one = no_pages group of ino (held ino) apart in
    let rest = others_total group of held (ino + 1) left apart in
    let all = total_with group of ino (held ino) (copies_from group held (ino + 1) left) in
    omega arith

named_total : (group : ℕ) (held : ℕ → Option Version) (copies : List (Option InodeCopy)) (ino left : ℕ) → length copies ≡ left
    → ((j : ℕ) → j < left → length (pages_in (get_or copies j None)) ≡ total (copy_pages group) (with_version group (ino + j) (held (ino + j)) [])) → length (named_pages copies) ≡ total (copy_pages group) (copies_from group held ino left)
named_total group held [] ino zero long each = refl
named_total group held [] ino (suc left) long each = absurd (omega arith)
named_total group held (c ∷ copies) ino zero long each = absurd (omega arith)
named_total group held (c ∷ copies) ino (suc left) long each =
    let same : ino + 0 ≡ ino = omega arith in
    let one : length (pages_in c) ≡ total (copy_pages group) (with_version group ino (held ino) []) = each 0 (omega arith) ∙ ap (λ (i : ℕ). total (copy_pages group) (with_version group i (held i) [])) same in
    let rest = named_total group held copies (ino + 1) left (omega arith) (λ j lt. each (suc j) (omega arith) ∙ ap (λ (i : ℕ). total (copy_pages group) (with_version group i (held i) [])) (let e : ino + suc j ≡ ino + 1 + j = omega arith in e)) in
    let all = total_with group group ino (held ino) (copies_from group held (ino + 1) left) in
    omega (arith, length-append (pages_in c) (named_pages copies))

own_pages : (pack : PackState) (ino : ℕ) (image : List ℕ) (o : Option InodeCopy) → AreCopies pack.copies → Shows pack image → 1 ≤ ino → ino ≤ inodes_max → copy_of pack.copies ino ≡ o
    → length (pages_in o) ≡ total (copy_pages pack.group) (with_version pack.group ino (view image pack.base ino) [])
own_pages pack ino image None are shows low high is = sym (ap (λ (o : Option Version). total (copy_pages pack.group) (with_version pack.group ino o [])) (held_none pack ino image are shows low high is))
own_pages pack ino image (Some copy) are shows low high is =
    let held = held_some pack ino image copy are shows low high is in
    let own = subst (λ (p : Option InodeCopy). IfSome p (λ one. IsCopy ino one)) is (are.own ino) in
    let small = own.slot.size in
    let count = own.pages.count in
    let size = held.size in
    let x = copy_in pack.group ino held.version in
    let e : (x.file.group == pack.group) ≡ true = eq-eqb x.file.group pack.group (group_of pack.group ino held.version) in
    let m = ap (λ (b : Bool). cond b (pages_of (length x.content)) 0) e in
    let n = ap (λ (l : List ℕ). pages_of (length l)) (content_of_copy pack.group ino held.version) in
    let k = ap pages_of size in
    let all : length (take (pages_of copy.slot.size) (numbers_in copy)) ≡ pages_of copy.slot.size = omega (arith, length-take (pages_of copy.slot.size) (numbers_in copy)) in
    all ∙ sym k ∙ sym n ∙ (let z : pages_of (length x.content) ≡ cond (x.file.group == pack.group) (pages_of (length x.content)) 0 + 0 = omega arith in z) ∙ ap (λ (o : Option Version). total (copy_pages pack.group) (with_version pack.group ino o [])) (sym held.seen)

own_total : (pack : PackState) (image : List ℕ) → AreCopies pack.copies → Shows pack image → length (named_pages pack.copies) ≡ total (copy_pages pack.group) (copies_in pack.base pack.group image)
unfolding copies_in
own_total pack image are shows = named_total pack.group (view image pack.base) pack.copies 1 inodes_max are.count (λ j lt.
    let e : suc j ≡ 1 + j = omega arith in
    own_pages pack (suc j) image (copy_of pack.copies (suc j)) are shows (omega arith) (omega arith) refl
    ∙ ap (λ (i : ℕ). total (copy_pages pack.group) (with_version pack.group i (view image pack.base i) [])) e)

other_total : (base group of : ℕ) (image : List ℕ) → group ≢ of → total (copy_pages of) (copies_in base group image) ≡ 0
unfolding copies_in
other_total base group of image apart = others_total group of (view image base) 1 inodes_max apart

-- the pages that the copies of the group's pack have
abbrev pub pages_named : Option PackState → ℕ
pages_named None = 0
pages_named (Some pack) = length (named_pages pack.copies)

later_total : (nth least site group : ℕ) (packs : List PackState) (image : List ℕ) → ArePacks nth least site packs → group < least → total (copy_pages group) (copies_behind nth (map pack_group packs) image) ≡ 0
later_total nth least site group [] image are lt = refl
later_total nth least site group (pack ∷ packs) image are lt =
    let low = are.0.low in
    let one = other_total (area_at nth) pack.group group image (λ e. omega arith) in
    let rest = later_total (nth + 1) (pack.group + 1) site group packs image are.1 (omega arith) in
    let all = total_append (copy_pages group) (copies_in (area_at nth) pack.group image) (copies_behind (nth + 1) (map pack_group packs) image) in
    omega arith

pub pages_total : (nth least site group : ℕ) (packs : List PackState) (image : List ℕ) → ArePacks nth least site packs → AreShown packs image → total (copy_pages group) (copies_behind nth (map pack_group packs) image) ≡ pages_named (pack_in group packs)
pages_total nth least site group [] image are shown = refl
pages_total nth least site group (pack ∷ packs) image are shown =
    let all = total_append (copy_pages group) (copies_in (area_at nth) pack.group image) (copies_behind (nth + 1) (map pack_group packs) image) in
    (elim (pack.group == group) as (λ b. (pack.group == group) ≡ b → total (copy_pages group) (copies_in (area_at nth) pack.group image ++ copies_behind (nth + 1) (map pack_group packs) image) ≡ pages_named (elim b [ true ↦ Some pack | false ↦ pack_in group packs ])) [
      | true ↦ λ e.
          let same : pack.group ≡ group = eqb-true pack.group group e in
          let own = own_total pack image are.0.copies shown.0 in
          let here : total (copy_pages group) (copies_in (area_at nth) pack.group image) ≡ length (named_pages pack.copies) =
          (λ i. total (copy_pages (sym same i)) (copies_in (sym are.0.base i) pack.group image)) ∙ sym own in
          let rest = later_total (nth + 1) (pack.group + 1) site group packs image are.1 (omega arith) in
          omega arith
      | false ↦ λ e.
          let apart : pack.group ≢ group = λ f. false≢true (sym e ∙ eq-eqb pack.group group f) in
          let one = other_total (area_at nth) pack.group group image apart in
          let rest = pages_total (nth + 1) (pack.group + 1) site group packs image are.1 shown.1 in
          omega arith
    ]) refl

-- ---- reports ----

report_append : (group : ℕ) (xs ys : List FileCopy) → report_of group (xs ++ ys) ≡ report_of group xs ++ report_of group ys
report_append group [] ys = refl
report_append group (x ∷ xs) ys =
    let rest = report_append group xs ys in
    elim (x.file.group == group) as (λ b. cond b (reported x ∷ report_of group (xs ++ ys)) (report_of group (xs ++ ys)) ≡ cond b (reported x ∷ report_of group xs) (report_of group xs) ++ report_of group ys) [
      | true ↦ ap (λ (l : List ReportedCopy). reported x ∷ l) rest
      | false ↦ rest
    ]

report_other : (group of ino : ℕ) (o : Option Version) (xs : List FileCopy) → group ≢ of → report_of of (with_version group ino o xs) ≡ report_of of xs
report_other group of ino None xs apart = refl
report_other group of ino (Some v) xs apart =
    let e : ((copy_in group ino v).file.group == of) ≡ false = (let g = group_of group ino v in grind (arith, nat_tests)) in
    ap (λ (b : Bool). cond b (reported (copy_in group ino v) ∷ report_of of xs) (report_of of xs)) e

reports_other : (group of : ℕ) (held : ℕ → Option Version) (ino left : ℕ) → group ≢ of → report_of of (copies_from group held ino left) ≡ []
reports_other group of held ino zero apart = refl
reports_other group of held ino (suc left) apart = report_other group of ino (held ino) (copies_from group held (ino + 1) left) apart ∙ reports_other group of held (ino + 1) left apart

report_own : (group ino : ℕ) (o : Option Version) (s : Option Slot) (xs : List FileCopy) → option_map reported (option_map (copy_in group ino) o) ≡ option_map (slot_reported ino) s → report_of group (with_version group ino o xs) ≡ slots_reported ino s ++ report_of group xs
report_own group ino None None xs is = refl
report_own group ino None (Some s) xs is = absurd (let e : None ≡ Some (slot_reported ino s) = is in cc)
report_own group ino (Some v) None xs is = absurd (let e : Some (reported (copy_in group ino v)) ≡ None = is in cc)
report_own group ino (Some v) (Some s) xs is =
    let e : ((copy_in group ino v).file.group == group) ≡ true = eq-eqb (copy_in group ino v).file.group group (group_of group ino v) in
    let same : reported (copy_in group ino v) ≡ slot_reported ino s = (let f : Some (reported (copy_in group ino v)) ≡ Some (slot_reported ino s) = is in cc) in
    ap (λ (b : Bool). cond b (reported (copy_in group ino v) ∷ report_of group xs) (report_of group xs)) e ∙ ap (λ (r : ReportedCopy). r ∷ report_of group xs) same

reports_own : (group : ℕ) (held : ℕ → Option Version) (copies : List (Option InodeCopy)) (ino left : ℕ) → length copies ≡ left
    → ((j : ℕ) → j < left → option_map reported (option_map (copy_in group (ino + j)) (held (ino + j))) ≡ option_map (slot_reported (ino + j)) (slot_in (get_or copies j None))) → report_of group (copies_from group held ino left) ≡ slots_from ino copies
reports_own group held [] ino zero long each = refl
reports_own group held [] ino (suc left) long each = absurd (omega arith)
reports_own group held (c ∷ copies) ino zero long each = absurd (omega arith)
reports_own group held (c ∷ copies) ino (suc left) long each =
    let same : ino + 0 ≡ ino = omega arith in
    let one : option_map reported (option_map (copy_in group ino) (held ino)) ≡ option_map (slot_reported ino) (slot_in c) = subst (λ (i : ℕ). option_map reported (option_map (copy_in group i) (held i)) ≡ option_map (slot_reported i) (slot_in c)) same (each 0 (omega arith)) in
    let rest = reports_own group held copies (ino + 1) left (omega arith) (λ j lt. subst (λ (i : ℕ). option_map reported (option_map (copy_in group i) (held i)) ≡ option_map (slot_reported i) (slot_in (get_or copies j None))) (let e : ino + suc j ≡ ino + 1 + j = omega arith in e) (each (suc j) (omega arith))) in
    report_own group ino (held ino) (slot_in c) (copies_from group held (ino + 1) left) one ∙ ap (λ (l : List ReportedCopy). slots_reported ino (slot_in c) ++ l) rest

own_report : (pack : PackState) (image : List ℕ) → AreCopies pack.copies → Shows pack image → report_of pack.group (copies_in pack.base pack.group image) ≡ slots_from 1 pack.copies
unfolding copies_in
own_report pack image are shows = reports_own pack.group (view image pack.base) pack.copies 1 inodes_max are.count (λ j lt.
    let e : suc j ≡ 1 + j = omega arith in
    subst (λ (i : ℕ). option_map reported (option_map (copy_in pack.group i) (view image pack.base i)) ≡ option_map (slot_reported i) (slot_in (get_or pack.copies j None))) e
    (reported_here pack pack.group (suc j) image are shows (omega arith) (omega arith)))

other_report : (base group of : ℕ) (image : List ℕ) → group ≢ of → report_of of (copies_in base group image) ≡ []
unfolding copies_in
other_report base group of image apart = reports_other group of (view image base) 1 inodes_max apart

later_report : (nth least site group : ℕ) (packs : List PackState) (image : List ℕ) → ArePacks nth least site packs → group < least → report_of group (copies_behind nth (map pack_group packs) image) ≡ []
later_report nth least site group [] image are lt = refl
later_report nth least site group (pack ∷ packs) image are lt =
    let low = are.0.low in
    let one = other_report (area_at nth) pack.group group image (λ e. omega arith) in
    let rest = later_report (nth + 1) (pack.group + 1) site group packs image are.1 (omega arith) in
    report_append group (copies_in (area_at nth) pack.group image) (copies_behind (nth + 1) (map pack_group packs) image) ∙ (λ i. one i ++ rest i)

-- what the slots of the group's pack say is its report
pub report_is : (nth least site group : ℕ) (packs : List PackState) (image : List ℕ) → ArePacks nth least site packs → AreShown packs image → report_of group (copies_behind nth (map pack_group packs) image) ≡ pack_reported (pack_in group packs)
report_is nth least site group [] image are shown = refl
report_is nth least site group (pack ∷ packs) image are shown =
    report_append group (copies_in (area_at nth) pack.group image) (copies_behind (nth + 1) (map pack_group packs) image)
    ∙ (elim (pack.group == group) as (λ b. (pack.group == group) ≡ b → report_of group (copies_in (area_at nth) pack.group image) ++ report_of group (copies_behind (nth + 1) (map pack_group packs) image) ≡ pack_reported (elim b [ true ↦ Some pack | false ↦ pack_in group packs ])) [
      | true ↦ λ e.
          let same : pack.group ≡ group = eqb-true pack.group group e in
          let own = own_report pack image are.0.copies shown.0 in
          let here : report_of group (copies_in (area_at nth) pack.group image) ≡ slots_from 1 pack.copies = (λ i. report_of (sym same i) (copies_in (sym are.0.base i) pack.group image)) ∙ own in
          let rest = later_report (nth + 1) (pack.group + 1) site group packs image are.1 (omega arith) in
          (λ i. here i ++ rest i) ∙ append-nil (slots_from 1 pack.copies)
      | false ↦ λ e.
          let apart : pack.group ≢ group = λ f. false≢true (sym e ∙ eq-eqb pack.group group f) in
          let one = other_report (area_at nth) pack.group group image apart in
          let rest = report_is (nth + 1) (pack.group + 1) site group packs image are.1 shown.1 in
          (λ i. one i ++ rest i)
    ]) refl
