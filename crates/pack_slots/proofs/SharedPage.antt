-- A page that is counted twice is shared, and so is a table.
use Rattle.std.proofs.Common.{◌≡◌, ℕ, suc, ◌≤◌, ◌<◌, Bool, List, length, take, get_or, sym, ◌∙◌, subst, arith, ⊎_elim, length-take}
use Rattle.std.specs.Prelude.{Option, None, Some, IfSome, sum}
use Rattle.std.proofs.lemmas.Bool.{cases_lt}
use Rattle.std.proofs.lemmas.List.{get_or-take}
use Rattle.std.proofs.lemmas.List.Sums.{sum_by-le}
use Rattle.std.proofs.lemmas.List.Elements.{All-from_get_or}
use Rattle.locus_ids.specs.Sizes.{inodes_max, pack_pages}
use Rattle.pack_layout.specs.of_file_content.Pages.{pages_of, tables_of}
use Rattle.pack_layout.specs.Layout.{slot_at}
use Rattle.inode_switch.proofs.SlotBytes.{says}
use Rattle.inode_switch.proofs.TableBytes.{page_named}
use Rattle.pack_slots.specs.declared.inode_copy.InodeCopy.{InodeCopy}
use Rattle.pack_slots.specs.Copies.{copy_of, numbers_in, pages_in, tables_in, named_pages, named_tables, times, IsCopy, IsPackOf, AreCopies}
use Rattle.pack_slots.specs.Slots.{IsFound}
use Rattle.pack_slots.specs.Mounting.{Names, IsShared, NamesTable, IsSharedTable, IsSound, IsLeastShared, IsLeastSharedTable}
use Rattle.pack_slots.specs.Losing.{AreFound, AreSlots, is_losing}
use Rattle.pack_slots.proofs.Counting.{found_counts}
use Rattle.pack_slots.proofs.Finding.{found_good, found_own, own_slots}
use Rattle.pack_slots.proofs.SoundPack.{AllFound, not_shared, not_shared_table, found_sound}
use Rattle.pack_slots.proofs.Numbers.{first_numbers}
use Rattle.pack_slots.proofs.Times.{place_of, two_of, times_beyond, pages_once, tables_once, named_pages_below}

-- a page of a copy is named by its inode, and so is a table
page_of_copy : (base ino number : ℕ) (image : List ℕ) (copy : Option InodeCopy) (loses : Bool) → IsFound base ino image copy loses → 1 ≤ times number (pages_in copy) → Names base ino number image
page_of_copy base ino number image None loses found some = absurd (omega arith)
page_of_copy base ino number image (Some copy) loses found some =
    let counts = found_counts base ino image (Some copy) loses found in
    let slot = found.own.slot in
    let s = says image (slot_at base ino copy.half) copy.slot counts.bytes slot in
    let n = pages_of copy.slot.size in
    let at = place_of number (take n (numbers_in copy)) some in
    let long = length-take n (numbers_in copy) in
    let inside = at.1 in
    let small = slot.size in
    let lt : at.0 < n = omega arith in
    record {
      place = slot_at base ino copy.half;
      counts = counts.place;
      i = at.0;
      inside = subst (λ (m : ℕ). at.0 < pages_of m) (sym s.size) lt;
      is = page_named image base (slot_at base ino copy.half) copy.slot (numbers_in copy) slot s counts.tables found.own.pages (first_numbers copy slot) at.0 lt ∙ sym (get_or-take n (numbers_in copy) at.0 0 lt) ∙ at.2;
    }

table_of_copy : (base ino number : ℕ) (image : List ℕ) (copy : Option InodeCopy) (loses : Bool) → IsFound base ino image copy loses → 1 ≤ times number (tables_in copy) → NamesTable base ino number image
table_of_copy base ino number image None loses found some = absurd (omega arith)
table_of_copy base ino number image (Some copy) loses found some =
    let counts = found_counts base ino image (Some copy) loses found in
    let slot = found.own.slot in
    let s = says image (slot_at base ino copy.half) copy.slot counts.bytes slot in
    let n = tables_of (pages_of copy.slot.size) in
    let at = place_of number (take n copy.slot.tables) some in
    let long = length-take n copy.slot.tables in
    let inside = at.1 in
    let small = slot.size in
    let lt : at.0 < n = omega arith in
    record {
      place = slot_at base ino copy.half;
      counts = counts.place;
      k = at.0;
      inside = subst (λ (m : ℕ). at.0 < tables_of (pages_of m)) (sym s.size) lt;
      is = s.tables at.0 (omega arith) ∙ sym (get_or-take n copy.slot.tables at.0 0 lt) ∙ at.2;
    }

module _ (base : ℕ) (image : List ℕ) (copies : List (Option InodeCopy)) (losing : List Bool) (count : length copies ≡ inodes_max) (found : AreFound base inodes_max image copies losing) where
  abbrev own : (ino : ℕ) → IfSome (copy_of copies ino) (λ copy. IsCopy ino copy)
  own = found_own base image copies losing count found

  abbrev slots : AreSlots copies
  slots = own_slots copies own

  abbrev all : AllFound base image copies
  all ino low high = (is_losing losing ino, found ino low high)

  pub shared_by_two : (number : ℕ) → 1 < times number (named_pages copies) → IsShared base number image
  shared_by_two number two =
      let t = two_of pages_in number copies (λ i. pages_once number (get_or copies i None) (slots i)) two in
      let apart = t.apart in
      let inside = t.inside in
      record {
        one = suc t.one;
        other = suc t.other;
        low = omega arith;
        apart = omega arith;
        high = omega arith;
        first = page_of_copy base (suc t.one) number image (copy_of copies (suc t.one)) (is_losing losing (suc t.one)) (found (suc t.one) (omega arith) (omega arith)) t.first;
        second = page_of_copy base (suc t.other) number image (copy_of copies (suc t.other)) (is_losing losing (suc t.other)) (found (suc t.other) (omega arith) (omega arith)) t.second;
      }

  table_by_two : (number : ℕ) → 1 < times number (named_tables copies) → IsSharedTable base number image
  table_by_two number two =
      let t = two_of tables_in number copies (λ i. tables_once number (get_or copies i None) (slots i)) two in
      let apart = t.apart in
      let inside = t.inside in
      record {
        one = suc t.one;
        other = suc t.other;
        low = omega arith;
        apart = omega arith;
        high = omega arith;
        first = table_of_copy base (suc t.one) number image (copy_of copies (suc t.one)) (is_losing losing (suc t.one)) (found (suc t.one) (omega arith) (omega arith)) t.first;
        second = table_of_copy base (suc t.other) number image (copy_of copies (suc t.other)) (is_losing losing (suc t.other)) (found (suc t.other) (omega arith) (omega arith)) t.second;
      }

  -- the least table that is named twice is the least shared one
  pub least_table : (number : ℕ) → 1 < times number (named_tables copies) → ((lower : ℕ) → lower < number → times lower (named_tables copies) ≤ 1) → IsLeastSharedTable base number image
  least_table number two below = record {
    inodes = λ ino low high. found_good base ino image (copy_of copies ino) (is_losing losing ino) (found ino low high);
    shared = table_by_two number two;
    below = λ lower less. not_shared_table base lower image copies own all (below lower less);
  }

  module _ (tables : (table : ℕ) → times table (named_tables copies) ≤ 1) (uses : List ℕ) (long : length uses ≡ pack_pages) (each : (page : ℕ) → page < pack_pages → get_or uses page 0 ≡ times page (named_pages copies)) where
    apart : ((page : ℕ) → page < pack_pages → get_or uses page 0 ≤ 1) → (page : ℕ) → times page (named_pages copies) ≤ 1
    apart once page = ⊎_elim
        (λ (lt : page < pack_pages). omega (arith, each page lt, once page lt))
        (λ (le : pack_pages ≤ page). omega (arith, times_beyond page pack_pages (named_pages copies) (named_pages_below copies slots) le))
        (cases_lt page pack_pages)

    pub are_copies : ((page : ℕ) → page < pack_pages → get_or uses page 0 ≤ 1) → AreCopies copies
    are_copies once = record { count = count; own = own; apart = apart once; tables = tables }

    pub total_fits : ((page : ℕ) → page < pack_pages → get_or uses page 0 ≤ 1) → sum uses ≡ length (named_pages copies) → length (named_pages copies) ≤ pack_pages
    total_fits once whole = omega (arith, sum_by-le (λ x. x) 1 uses (All-from_get_or (λ (x : ℕ). x ≤ 1) uses 0 (λ i lt. once i (omega arith))), whole)

    -- and the least page that is counted twice is the least shared one
    pub least_shared : (number : ℕ) → number < pack_pages → 1 < get_or uses number 0 → ((lower : ℕ) → lower < number → get_or uses lower 0 ≤ 1) → IsLeastShared base number image
    least_shared number lt two below = record {
      inodes = λ ino low high. found_good base ino image (copy_of copies ino) (is_losing losing ino) (found ino low high);
      tables = λ table. not_shared_table base table image copies own all (tables table);
      shared = shared_by_two number (omega (arith, each number lt, two));
      below = λ lower less. not_shared base lower image copies own all (omega (arith, each lower (omega arith), below lower less));
    }

    pub sound : (group site : ℕ) → IsPackOf base group site image → ((page : ℕ) → page < pack_pages → get_or uses page 0 ≤ 1) → IsSound base group site image
    sound group site named once = found_sound base group site image copies (are_copies once) named all
