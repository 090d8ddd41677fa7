-- A pack that is found in an image is sound there.
use Rattle.std.proofs.Common.{◌≡◌, ℕ, zero, suc, ◌+◌, ◌<◌, ◌≤◌, Bool, List, [], take, get_or, Option, None, Some, refl, sym, ap, subst, ◌∙◌, arith}
use Rattle.std.specs.Prelude.{IfSome}
use Rattle.locus_ids.specs.Sizes.{inodes_max}
use Rattle.pack_layout.specs.of_file_content.Pages.{pages_of, tables_of}
use Rattle.pack_layout.specs.Layout.{slot_at}
use Rattle.inode_switch.specs.View.{size, table, page}
use Rattle.inode_switch.proofs.SlotBytes.{says}
use Rattle.inode_switch.proofs.TableBytes.{page_named}
use Rattle.std.specs.List.{flat_map}
use Rattle.pack_slots.specs.declared.inode_copy.InodeCopy.{InodeCopy}
use Rattle.pack_slots.specs.Copies.{copy_of, numbers_in, pages_in, tables_in, named_pages, named_tables, times, IsCopy, AreCopies, IsPackOf}
use Rattle.pack_slots.specs.Slots.{IsFound, IsRecovered, counting_place}
use Rattle.pack_slots.specs.Mounting.{Names, IsShared, NamesTable, IsSharedTable, IsSound}
use Rattle.pack_slots.proofs.Counting.{found_counts}
use Rattle.pack_slots.proofs.Finding.{found_good}
use Rattle.pack_slots.proofs.PageTimes.{named_here}
use Rattle.pack_slots.proofs.NamedPages.{named_two}
use Rattle.pack_slots.proofs.Numbers.{first_numbers}

-- each inode's copy is found in its slots, alone or beside one that loses
abbrev pub AllFound : ℕ → List ℕ → List (Option InodeCopy) → Type 0
AllFound base image copies = (ino : ℕ) → 1 ≤ ino → ino ≤ inodes_max → (loses : Bool) × IsFound base ino image (copy_of copies ino) loses

-- where the slot of an inode stands that counts
same_place : (base ino place : ℕ) (image : List ℕ) (copy : InodeCopy) → IsRecovered base ino image (Some copy) → counting_place base ino image ≡ Some place → place ≡ slot_at base ino copy.half
same_place base ino place image copy counts is = let e : Some place ≡ Some (slot_at base ino copy.half) = sym is ∙ counts.place in cc

-- a page that the counting slot names is one of the copy, and so is a table
pages_named : (base ino number : ℕ) (image : List ℕ) (o : Option InodeCopy) → IfSome o (λ copy. IsCopy ino copy) → IsRecovered base ino image o → Names base ino number image → 1 ≤ times number (pages_in o)
pages_named base ino number image None own counts names = absurd (let e : None ≡ Some names.place = sym counts ∙ names.counts in cc)
pages_named base ino number image (Some copy) own counts names =
    let same = same_place base ino names.place image copy counts names.counts in
    let s = says image (slot_at base ino copy.half) copy.slot counts.bytes own.slot in
    let small = own.slot.size in
    let long = own.pages.count in
    let e : size image names.place ≡ copy.slot.size = ap (size image) same ∙ s.size in
    let lt : names.i < pages_of copy.slot.size = subst (λ (n : ℕ). names.i < pages_of n) e names.inside in
    let here : get_or (numbers_in copy) names.i 0 ≡ number = sym (page_named image base (slot_at base ino copy.half) copy.slot (numbers_in copy) own.slot s counts.tables own.pages (first_numbers copy own.slot) names.i lt) ∙ ap (λ (at : ℕ). page image base at names.i) (sym same) ∙ names.is in
    let some = named_here (numbers_in copy) names.i (pages_of copy.slot.size) lt (omega arith) in
    let f = ap (λ (p : ℕ). times p (take (pages_of copy.slot.size) (numbers_in copy))) here in
    omega arith

tables_named : (base ino number : ℕ) (image : List ℕ) (o : Option InodeCopy) → IfSome o (λ copy. IsCopy ino copy) → IsRecovered base ino image o → NamesTable base ino number image → 1 ≤ times number (tables_in o)
tables_named base ino number image None own counts names = absurd (let e : None ≡ Some names.place = sym counts ∙ names.counts in cc)
tables_named base ino number image (Some copy) own counts names =
    let same = same_place base ino names.place image copy counts names.counts in
    let s = says image (slot_at base ino copy.half) copy.slot counts.bytes own.slot in
    let small = own.slot.size in
    let long = own.slot.tables.count in
    let e : size image names.place ≡ copy.slot.size = ap (size image) same ∙ s.size in
    let lt : names.k < tables_of (pages_of copy.slot.size) = subst (λ (n : ℕ). names.k < tables_of (pages_of n)) e names.inside in
    let here : get_or copy.slot.tables names.k 0 ≡ number = sym (s.tables names.k (omega arith)) ∙ ap (λ (at : ℕ). table image at names.k) (sym same) ∙ names.is in
    let some = named_here copy.slot.tables names.k (tables_of (pages_of copy.slot.size)) lt (omega arith) in
    let f = ap (λ (p : ℕ). times p (take (tables_of (pages_of copy.slot.size)) copy.slot.tables)) here in
    omega arith

two_of : (names : Option InodeCopy → List ℕ) → names None ≡ [] → (copies : List (Option InodeCopy)) (one other p : ℕ) → 1 ≤ one → one < other → times p (names (copy_of copies one)) + times p (names (copy_of copies other)) ≤ times p (flat_map names copies)
two_of names nothing copies zero other p low lt = absurd (omega arith)
two_of names nothing copies (suc i) zero p low lt = absurd (omega arith)
two_of names nothing copies (suc i) (suc j) p low lt = named_two names nothing p copies i j (omega arith)

-- what is named once isn't shared
module _ (base number : ℕ) (image : List ℕ) (copies : List (Option InodeCopy)) (own : (ino : ℕ) → IfSome (copy_of copies ino) (λ copy. IsCopy ino copy)) (found : AllFound base image copies) where
  recovered : (ino : ℕ) → 1 ≤ ino → ino ≤ inodes_max → IsRecovered base ino image (copy_of copies ino)
  recovered ino low high = let f = found ino low high in found_counts base ino image (copy_of copies ino) f.0 f.1

  pub not_shared : times number (named_pages copies) ≤ 1 → IsShared base number image → ⊥
  not_shared once shared =
      let low = shared.low in
      let apart = shared.apart in
      let high = shared.high in
      let a = pages_named base shared.one number image (copy_of copies shared.one) (own shared.one) (recovered shared.one low (omega arith)) shared.first in
      let b = pages_named base shared.other number image (copy_of copies shared.other) (own shared.other) (recovered shared.other (omega arith) high) shared.second in
      let all = two_of pages_in refl copies shared.one shared.other number low apart in
      absurd (omega arith)

  pub not_shared_table : times number (named_tables copies) ≤ 1 → IsSharedTable base number image → ⊥
  not_shared_table once shared =
      let low = shared.low in
      let apart = shared.apart in
      let high = shared.high in
      let a = tables_named base shared.one number image (copy_of copies shared.one) (own shared.one) (recovered shared.one low (omega arith)) shared.first in
      let b = tables_named base shared.other number image (copy_of copies shared.other) (own shared.other) (recovered shared.other (omega arith) high) shared.second in
      let all = two_of tables_in refl copies shared.one shared.other number low apart in
      absurd (omega arith)

pub found_sound : (base group site : ℕ) (image : List ℕ) (copies : List (Option InodeCopy)) → AreCopies copies → IsPackOf base group site image → AllFound base image copies → IsSound base group site image
found_sound base group site image copies are named found = record {
  named = named;
  inodes = λ ino low high. let f = found ino low high in found_good base ino image (copy_of copies ino) f.0 f.1;
  tables = λ number. not_shared_table base number image copies are.own found (are.tables number);
  pages = λ number. not_shared base number image copies are.own found (are.apart number);
}
