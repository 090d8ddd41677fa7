-- What a mount finds in slots and in tables is what it found in the slots, with what it read in the tables.
use Rattle.std.proofs.Common.{◌≡◌, ℕ, zero, suc, ◌+◌, ◌-◌, ◌≤◌, ◌<◌, Bool, true, false, List, ◌++◌, length, take, drop, get_or, refl, sym, ◌∙◌, ap, subst, arith, ⊎_elim}
use Rattle.std.specs.Prelude.{Option, None, Some, Result, Ok, Err, IfErr, IsErrAnd}
use Rattle.std.proofs.lemmas.Bool.{cases_lt}
use Rattle.std.proofs.lemmas.List.{ext_get_or, get_or_past}
use Rattle.std.proofs.Math.Seq.{take-append_seam}
use Rattle.locus_ids.specs.Sizes.{inodes_max, page_bytes}
use Rattle.disk_model.specs.Images.{bytes_at}
use Rattle.pack_layout.specs.declared.slot.Slot.{Slot}
use Rattle.pack_layout.specs.of_file_content.Pages.{pages_of, tables_of}
use Rattle.pack_layout.specs.Layout.{slot_at, table_at, table_bytes, numbers_of, numbers_under, NamePages}
use Rattle.inode_switch.proofs.SlotBytes.{says}
use Rattle.pack_slots.specs.declared.inode_copy.InodeCopy.{InodeCopy}
use Rattle.pack_slots.specs.Copies.{copy_of, IsSlotOf, IsCopy, IsPackOf}
use Rattle.pack_slots.specs.Slots.{HasMore, IsGoodInode, IsSlotFound, IsFound}
use Rattle.pack_slots.specs.declared.mount_fault.MountFault.{MountFault}
use Rattle.pack_slots.specs.declared.mount_fault.MountFault.TheVariants.{Disk, NotAPack, BadSlot, SharedTable, SharedPage, NoMemory}
use Rattle.pack_slots.specs.Mounting.{IsCause, IsPassing, IsLeastBad}
use Rattle.pack_slots.specs.Losing.{AreSlotsFound, AreFound, is_losing}
use Rattle.pack_slots.specs.Tables.{IsReadIn, AreRead, IsBadIn, IsFirstBad, IsTableFault}
use Rattle.pack_slots.proofs.Counting.{slot_counts, copy_bytes}
use Rattle.pack_slots.proofs.Finding.{found_good}
use Rattle.pack_slots.proofs.SlotsRead.{IsSoFar}

pub err_keeps : {T : Type 0} (P : MountFault → Type 0) (result : Result T MountFault) (fault : MountFault) → IsErrAnd result (λ e. e ≡ fault) → P fault → IfErr result P
err_keeps P (Ok x) fault is p = tt
err_keeps P (Err e) fault is p = subst P (sym is) p

-- a fault that says nothing of the image
pub passing_fault : (base : ℕ) (image : List ℕ) (before after : List (Option InodeCopy)) (fault : MountFault) → IsPassing fault → IsTableFault base image before after fault
passing_fault base image before after Disk is = tt
passing_fault base image before after NotAPack is = is
passing_fault base image before after (BadSlot ino) is = absurd is
passing_fault base image before after (SharedTable number) is = is
passing_fault base image before after (SharedPage number) is = is
passing_fault base image before after NoMemory is = tt

own_read : (base ino : ℕ) (image : List ℕ) (copy : InodeCopy) (more : List ℕ) → IsSlotOf ino copy → HasMore base copy.slot more image → IsCopy ino (record { half = copy.half; slot = copy.slot; more = more })
own_read base ino image copy more own has = record { slot = own.slot; own = own.own; pages = has.pages }

read_found : (base ino : ℕ) (image : List ℕ) (copy after : Option InodeCopy) (loses : Bool) → IsSlotFound base ino image copy loses → IsReadIn base image copy after → IsFound base ino image after loses
read_found base ino image None after loses found read = subst (λ (o : Option InodeCopy). IsFound base ino image o loses) (sym read) (record { says = found.says; own = tt; tables = tt })
read_found base ino image (Some copy) after false found read = subst (λ (o : Option InodeCopy). IsFound base ino image o false) (sym read.is)
    (record { says = record { bytes = found.says.bytes; other = found.says.other }; own = own_read base ino image copy read.more found.own read.has; tables = read.has.tables })
read_found base ino image (Some copy) after true found read = subst (λ (o : Option InodeCopy). IsFound base ino image o true) (sym read.is)
    (record { says = record { bytes = found.says.bytes; beside = found.says.beside; other = found.says.other; next = found.says.next }; own = own_read base ino image copy read.more found.own read.has; tables = read.has.tables })

pub all_read : (base n : ℕ) (image : List ℕ) (before after : List (Option InodeCopy)) (losing : List Bool) → AreSlotsFound base n image before losing → AreRead base image n before after → AreFound base n image after losing
all_read base n image before after losing found read zero low high = absurd (omega arith)
all_read base n image before after losing found read (suc i) low high =
    read_found base (suc i) image (copy_of before (suc i)) (copy_of after (suc i)) (is_losing losing (suc i)) (found (suc i) low high) (read i (omega (arith, high)))

-- tables of one slot are those of another that says the same of them
same_more : (base : ℕ) (image : List ℕ) (one other : Slot) (more : List ℕ) → one.size ≡ other.size → one.pages ≡ other.pages → one.tables ≡ other.tables → HasMore base one more image → HasMore base other more image
same_more base image one other more size pages tables has = record {
  tables = λ k lt.
      ap (λ (l : List ℕ). bytes_at image (table_at base (get_or l k 0)) page_bytes) (sym tables)
      ∙ has.tables k (subst (λ (n : ℕ). k < tables_of (pages_of n)) (sym size) lt)
      ∙ ap (λ (l : List ℕ). table_bytes (numbers_under (numbers_of l more) k)) pages;
  pages = subst (λ (n : ℕ). NamePages (pages_of n) (numbers_of other.pages more)) size (subst (λ (l : List ℕ). NamePages (pages_of one.size) (numbers_of l more)) pages has.pages);
}

-- an inode of bad tables isn't good
bad_tables : (base ino : ℕ) (image : List ℕ) (copy : Option InodeCopy) (loses : Bool) → IsSlotFound base ino image copy loses → IsBadIn base image copy → IsGoodInode base ino image → ⊥
bad_tables base ino image None loses found bad good = bad
bad_tables base ino image (Some copy) loses found bad good =
    let at = slot_at base ino copy.half in
    let has = good.tables at (slot_counts base ino image (Some copy) loses found) in
    let mine = says image at copy.slot (copy_bytes base ino image copy loses found) found.own.slot in
    let its = says image at has.slot has.bytes has.is in
    let pages = ext_get_or 0 has.slot.pages copy.slot.pages (has.is.pages.count ∙ sym found.own.slot.pages.count) (λ i lt. let le : i < 60 = omega (arith, lt, has.is.pages.count) in sym (its.pages i le) ∙ mine.pages i le) in
    let tables = ext_get_or 0 has.slot.tables copy.slot.tables (has.is.tables.count ∙ sym found.own.slot.tables.count) (λ k lt. let le : k < 2 = omega (arith, lt, has.is.tables.count) in sym (its.tables k le) ∙ mine.tables k le) in
    bad has.more (same_more base image has.slot copy.slot has.more (sym its.size ∙ mine.size) pages tables has.has)

least_tables : (base n i : ℕ) (image : List ℕ) (before after : List (Option InodeCopy)) (losing : List Bool) → n ≤ inodes_max → i < n → AreSlotsFound base n image before losing → IsFirstBad base image i before after → IsLeastBad base (suc i) image
least_tables base n i image before after losing few lt found first = record {
  low = omega arith;
  high = omega (arith, few, lt);
  bad = bad_tables base (suc i) image (copy_of before (suc i)) (is_losing losing (suc i)) (found (suc i) (omega arith) (omega (arith, lt))) first.bad;
  below = λ lower low less. found_good base lower image (copy_of after lower) (is_losing losing lower)
      (all_read base i image before after losing (λ ino from to. found ino from (omega (arith, to, lt))) first.read lower low (omega (arith, less)));
}

-- no tables are bad where there is no copy
is_some : (base : ℕ) (image : List ℕ) (copy : Option InodeCopy) → copy ≡ None → IsBadIn base image copy → ⊥
is_some base image copy is bad = subst (λ (o : Option InodeCopy). IsBadIn base image o) is bad

-- the first bad tables are those of the first bad inode
pub bad_table : (base i : ℕ) (image : List ℕ) (bad : Option ℕ) (before after : List (Option InodeCopy)) (losing : List Bool) → length before ≡ inodes_max → IsSoFar base inodes_max image bad before losing → IsFirstBad base image i before after → IsLeastBad base (i + 1) image
bad_table base i image None before after losing count so first = ⊎_elim
    (λ (lt : i < inodes_max). let e : suc i ≡ i + 1 = omega arith in subst (λ (ino : ℕ). IsLeastBad base ino image) e (least_tables base inodes_max i image before after losing (omega arith) lt (so.0 refl) first))
    (λ (le : inodes_max ≤ i). absurd (is_some base image (get_or before i None) (get_or_past before i None (omega (arith, count, le))) first.bad))
    (cases_lt i inodes_max)
bad_table base i image (Some least) before after losing count so first =
    let s = so.1 least refl in
    ⊎_elim
    (λ (lt : suc i < least).
    let e : suc i ≡ i + 1 = omega arith in
    subst (λ (ino : ℕ). IsLeastBad base ino image) e (least_tables base (least - 1) i image before after losing (omega (arith, s.1)) (omega (arith, lt)) s.3 first))
    (λ (le : least ≤ suc i). absurd (is_some base image (copy_of before (suc i)) (s.4 (suc i) le) first.bad))
    (cases_lt (suc i) least)

-- and where all tables are good it is that of the first bad slot
pub bad_slots : (base first : ℕ) (image : List ℕ) (before after : List (Option InodeCopy)) (losing : List Bool) → IsSoFar base inodes_max image (Some first) before losing → AreRead base image inodes_max before after → IsLeastBad base first image
bad_slots base first image before after losing so read =
    let s = so.1 first refl in
    record {
      low = s.0;
      high = s.1;
      bad = s.2;
      below = λ lower low less. found_good base lower image (copy_of after lower) (is_losing losing lower)
          (all_read base (first - 1) image before after losing s.3 (λ i lt. read i (omega (arith, lt, s.1))) lower low (omega (arith, less)));
    }

-- what the code keeps once the tables of its list are read
pub kept_all : (n : ℕ) (after slice items : List (Option InodeCopy)) → length slice ≡ n → length after ≡ length slice → take n (after ++ drop (length after) items) ≡ after
kept_all n after slice items long same = ap (λ (k : ℕ). take k (after ++ drop (length after) items)) (sym (same ∙ long)) ∙ take-append_seam after (drop (length after) items)

-- a pack whose slots and tables were read, from disks that read alike
module _ (base : ℕ) (seen one two : List ℕ) (bad : Option ℕ) (items slice after : List (Option InodeCopy)) (losing : List Bool) (first : one ≡ seen) (second : two ≡ one) (value : slice ≡ items) (count : length items ≡ inodes_max) (so : IsSoFar base inodes_max one bad items losing) where
  pub so_seen : IsSoFar base inodes_max seen bad items losing
  so_seen = subst (λ (l : List ℕ). IsSoFar base inodes_max l bad items losing) first so

  -- the tables are the cause
  pub table_cause : {T : Type 0} (group site : ℕ) (result : Result T MountFault) (fault : MountFault) → IsPackOf base group site seen → IsErrAnd result (λ e. e ≡ fault) → IsTableFault base two slice after fault → IfErr result (λ e. IsCause base group site seen e)
  table_cause group site result fault named is wrong =
      err_keeps (λ e. IsCause base group site seen e) result fault is (cause fault (subst (λ (l : List (Option InodeCopy)). IsTableFault base seen l after fault) value (subst (λ (l : List ℕ). IsTableFault base l slice after fault) (second ∙ first) wrong)))
    where
      cause : (f : MountFault) → IsTableFault base seen items after f → IsCause base group site seen f
      cause Disk w = tt
      cause NotAPack w = absurd w
      cause (BadSlot ino) w = (named, subst (λ (k : ℕ). IsLeastBad base k seen) (sym w.1) (bad_table base w.0 seen bad items after losing count so_seen w.2))
      cause (SharedTable number) w = absurd w
      cause (SharedPage number) w = absurd w
      cause NoMemory w = tt

  module _ (read : AreRead base two (length slice) slice after) where
    pub read_seen : AreRead base seen inodes_max items after
    read_seen = subst (λ (n : ℕ). AreRead base seen n items after) count (subst (λ (l : List (Option InodeCopy)). AreRead base seen (length l) l after) value (subst (λ (l : List ℕ). AreRead base l (length slice) slice after) (second ∙ first) read))

    -- a slot is
    pub slot_cause : (ino : ℕ) → bad ≡ Some ino → IsLeastBad base ino seen
    slot_cause ino is = bad_slots base ino seen items after losing (subst (λ (o : Option ℕ). IsSoFar base inodes_max seen o items losing) is so_seen) read_seen

    -- or each inode's copy is found
    pub found_seen : bad ≡ None → AreFound base inodes_max seen after losing
    found_seen none = all_read base inodes_max seen items after losing (so_seen.0 none) read_seen
