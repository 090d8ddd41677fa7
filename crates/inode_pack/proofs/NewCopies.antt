-- The copies of a pack after a commit, and how often each data page is named then.
use Rattle.std.proofs.Common.{◌≡◌, ◌≢◌, ◌⊎◌, ℕ, zero, suc, ◌+◌, ◌-◌, ◌^◌, ◌<◌, ◌≤◌, Bool, true, false, inl, inr, ⊎_elim, List, [], length, take, set, get_or, Option, None, Some, refl, sym, ap, subst, ◌∙◌, arith, length-set}
use Rattle.std.specs.Prelude.{◌==◌, IfSome}
use Rattle.std.specs.List.{flat_map}
use Rattle.std.proofs.lemmas.Bool.{cases_eq, cases_Bool, eqb-true}
use Rattle.std.proofs.lemmas.List.{get_or-set_same, get_or-set_other, get_or_default}
use Rattle.locus_ids.specs.Sizes.{inodes_max, content_pages_max, content_tables_max, pack_pages, pack_tables}
use Rattle.new_contents.proofs.of_shadow_pages.Counts.{count_below_same}
use Rattle.file_content.specs.Pages.{pages_of, tables_of}
use Rattle.pack_layout.specs.Layout.{NameApart, NamePages}
use Rattle.new_contents.specs.of_shadow_pages.Working.{Working, count_below}
use Rattle.pack_slots.specs.declared.inode_copy.InodeCopy.{InodeCopy}
use Rattle.inode_pack.specs.Pack.{PackState, number_in}
use Rattle.pack_slots.specs.Copies.{numbers_in, copy_of, pages_in, tables_in, named_pages, named_tables, times, IsCopy, AreCopies, AreUses}
use Rattle.new_contents.specs.Changed.{is_changed}
use Rattle.inode_pack.specs.Committing.{is_free, is_table_over, table_in, Takes, TakesPages}
use Rattle.pack_slots.proofs.Finding.{own_slots}
use Rattle.pack_slots.proofs.PageTimes.{times_take, times_own, times_other, named_here}
use Rattle.pack_slots.proofs.NamedPages.{named_part, named-set, length-named_set, AreBelow}
use Rattle.pack_slots.proofs.Times.{named_pages_below}
use Rattle.inode_pack.proofs.FreeCounts.{unnamed}
use Rattle.inode_pack.proofs.Setup.{Setup, copy_is, kept_number}
use Rattle.inode_pack.proofs.WrittenTables.{kept_table}

-- different pages are among themselves once at most
pub times_distinct : (p : ℕ) (xs : List ℕ) (n m : ℕ) → n ≤ length xs → m ≤ n → ((i j : ℕ) → i < j → j < n → get_or xs i 0 ≢ get_or xs j 0)
    → (times p (take m xs) ≡ 0) ⊎ ((j : ℕ) × (j < m) × (get_or xs j 0 ≡ p) × (times p (take m xs) ≡ 1))
times_distinct p xs n zero le most apart = inl refl
times_distinct p xs n (suc m) le most apart =
    let e : m + 1 ≡ suc m = omega arith in
    let more = ap (λ (k : ℕ). times p (take k xs)) (sym e) ∙ times_take p xs m (omega arith) in
    ⊎_elim
    (λ (here : get_or xs m 0 ≡ p). ⊎_elim
    (λ (none : times p (take m xs) ≡ 0). inr (m, omega arith, here, (let own = times_own p (get_or xs m 0) here in omega arith)))
    (λ (some : (j : ℕ) × (j < m) × (get_or xs j 0 ≡ p) × (times p (take m xs) ≡ 1)). absurd (apart some.0 m some.1 (omega arith) (some.2 ∙ sym here)))
    (times_distinct p xs n m le (omega arith) apart))
    (λ (other : get_or xs m 0 ≢ p).
    let none = times_other p (get_or xs m 0) other in
    ⊎_elim
    (λ (no : times p (take m xs) ≡ 0). inl (omega arith))
    (λ (some : (j : ℕ) × (j < m) × (get_or xs j 0 ≡ p) × (times p (take m xs) ≡ 1)). let h = some.3 in let l = some.1 in inr (some.0, omega arith, some.2, omega arith))
    (times_distinct p xs n m le (omega arith) apart))
    (cases_eq (get_or xs m 0) p)

-- the copy of an inode after one was set
pub own_copy : (copies : List (Option InodeCopy)) (ino : ℕ) (made : Option InodeCopy) → 1 ≤ ino → ino ≤ length copies → copy_of (set copies (ino - 1) made) ino ≡ made
own_copy copies zero made low high = absurd (omega arith)
own_copy copies (suc i) made low high =
    let e : suc i - 1 ≡ i = omega arith in
    ap (λ (k : ℕ). get_or (set copies k made) i None) e ∙ get_or-set_same copies i made None (omega arith)

pub other_copy : (copies : List (Option InodeCopy)) (ino other : ℕ) (made : Option InodeCopy) → 1 ≤ ino → other ≢ ino → copy_of (set copies (ino - 1) made) other ≡ copy_of copies other
other_copy copies ino zero made low ne = refl
other_copy copies ino (suc i) made low ne = get_or-set_other copies (ino - 1) i made None (λ e. ne (omega arith))

held_at : (copies : List (Option InodeCopy)) (ino : ℕ) → 1 ≤ ino → get_or copies (ino - 1) None ≡ copy_of copies ino
held_at copies zero low = absurd (omega arith)
held_at copies (suc i) low = let e : suc i - 1 ≡ i = omega arith in ap (λ (k : ℕ). get_or copies k None) e

-- the data pages that copies don't name
pub free_pages : (copies : List (Option InodeCopy)) (n : ℕ) → n ≡ pack_pages → AreCopies copies → count_below (λ p. times p (named_pages copies) == 0) n + length (named_pages copies) ≡ n
free_pages copies n e are = unnamed n (named_pages copies) (subst (λ (m : ℕ). AreBelow m (named_pages copies)) (sym e) (named_pages_below copies (own_slots copies are.own))) are.apart

-- what one copy has and the other doesn't
module _ (names : Option InodeCopy → List ℕ) (nothing : names None ≡ []) (copies : List (Option InodeCopy)) (ino : ℕ) where
  -- what one inode's copy names
  pub part_of : (p : ℕ) → times p (names (copy_of copies ino)) ≤ times p (flat_map names copies)
  part_of p = part ino where
    part : (i : ℕ) → times p (names (copy_of copies i)) ≤ times p (flat_map names copies)
    part zero = let e = ap (times p) nothing in omega arith
    part (suc i) = named_part names nothing p copies i

  module _ (made : Option InodeCopy) (low : 1 ≤ ino) (high : ino ≤ length copies) where
    pub times_set : (p : ℕ) → times p (flat_map names (set copies (ino - 1) made)) + times p (names (copy_of copies ino)) ≡ times p (flat_map names copies) + times p (names made)
    times_set p = subst (λ (o : Option InodeCopy). times p (flat_map names (set copies (ino - 1) made)) + times p (names o) ≡ times p (flat_map names copies) + times p (names made)) (held_at copies ino low) (named-set names nothing p copies (ino - 1) made (omega arith))

    pub length_set : length (flat_map names (set copies (ino - 1) made)) + length (names (copy_of copies ino)) ≡ length (flat_map names copies) + length (names made)
    length_set = subst (λ (o : Option InodeCopy). length (flat_map names (set copies (ino - 1) made)) + length (names o) ≡ length (flat_map names copies) + length (names made)) (held_at copies ino low) (length-named_set names nothing copies (ino - 1) made (omega arith))

    -- where the new copy names what the old one did, or what nothing names, each number is named once
    pub once_after : (most limit n : ℕ) (stood : ℕ → ℕ) (changed : ℕ → Bool) (numbers : List ℕ) → names made ≡ take n numbers → NameApart most limit n numbers → n ≤ most → Takes most limit n (λ number. times number (flat_map names copies) == 0) stood changed numbers
        → ((i : ℕ) → i < n → changed i ≡ false → 1 ≤ times (stood i) (names (copy_of copies ino))) → ((p : ℕ) → times p (flat_map names copies) ≤ 1) → (p : ℕ) → times p (flat_map names (set copies (ino - 1) made)) ≤ 1
    once_after most limit n stood changed numbers is apart few takes kept before p =
        let after = times_set p in
        let once = before p in
        let old = part_of p in
        let e = ap (times p) is in
        let long = apart.count in
        ⊎_elim
        (λ (none : times p (take n numbers) ≡ 0). omega arith)
        (λ (some : (j : ℕ) × (j < n) × (get_or numbers j 0 ≡ p) × (times p (take n numbers) ≡ 1)).
        let one = some.3 in
        let at = some.2 in
        ⊎_elim
        (λ (yes : changed some.0 ≡ true). let free = eqb-true (times (get_or numbers some.0 0) (flat_map names copies)) 0 (takes.free some.0 some.1 yes) in let f = ap (λ (q : ℕ). times q (flat_map names copies)) at in omega arith)
        (λ (no : changed some.0 ≡ false). let own = kept some.0 some.1 no in let f = ap (λ (q : ℕ). times q (names (copy_of copies ino))) (sym (takes.stays some.0 some.1 no) ∙ at) in omega arith)
        (cases_Bool (changed some.0)))
        (times_distinct p numbers n n (omega arith) (omega arith) apart.distinct)

module _ (pack : PackState) (ino : ℕ) (w : Working) (made : InodeCopy) (s : Setup pack ino w made) where
  abbrev copies : List (Option InodeCopy)
  copies = set pack.copies (ino - 1) (Some made)

  in_copies : ino ≤ length pack.copies
  in_copies = let count = s.are.count in let high = s.high in omega arith

  -- a page that stays is one of the copy so far, and so is a table
  kept_times : (j : ℕ) → j < pages_of w.size → is_changed w j ≡ false → 1 ≤ times (number_in (copy_of pack.copies ino) j) (pages_in (copy_of pack.copies ino))
  kept_times j lt unchanged =
      let k = kept_number pack.copies ino w s.are s.rests j lt unchanged in
      let copy = k.0 in
      let c = copy_is pack.copies ino copy s.are k.1 in
      let small = c.slot.size in
      let long = c.pages.count in
      let here = named_here (numbers_in copy) j (pages_of copy.slot.size) k.2 (omega arith) in
      let own : 1 ≤ times (get_or (numbers_in copy) j 0) (pages_in (Some copy)) = omega arith in
      subst (λ (o : Option InodeCopy). 1 ≤ times (number_in o j) (pages_in o)) (sym k.1) own

  kept_table_times : (j : ℕ) → j < tables_of (pages_of w.size) → is_table_over (copy_of pack.copies ino) w j ≡ false → 1 ≤ times (table_in (copy_of pack.copies ino) j) (tables_in (copy_of pack.copies ino))
  kept_table_times j lt stays =
      let k = kept_table (copy_of pack.copies ino) w j lt stays in
      let copy = k.copy in
      let c = copy_is pack.copies ino copy s.are k.held in
      let small = c.slot.size in
      let long = c.slot.tables.count in
      let here = named_here copy.slot.tables j (tables_of (pages_of copy.slot.size)) k.inside (omega arith) in
      let own : 1 ≤ times (get_or copy.slot.tables j 0) (tables_in (Some copy)) = omega arith in
      subst (λ (o : Option InodeCopy). 1 ≤ times (table_in o j) (tables_in o)) (sym k.held) own

  once : (p : ℕ) → times p (named_pages copies) ≤ 1
  once =
      let names = subst (λ (n : ℕ). NamePages (pages_of n) (numbers_in made)) s.size s.names in
      let is = ap (λ (n : ℕ). take (pages_of n) (numbers_in made)) s.size in
      let e = s.size in let small = s.slot.size in
      once_after pages_in refl pack.copies ino (Some made) s.low in_copies content_pages_max pack_pages (pages_of w.size) (number_in (copy_of pack.copies ino)) (is_changed w) (numbers_in made) is names (omega arith) s.takes kept_times s.are.apart

  tables_once : (t : ℕ) → times t (named_tables copies) ≤ 1
  tables_once =
      let names = subst (λ (n : ℕ). NameApart content_tables_max pack_tables (tables_of (pages_of n)) made.slot.tables) s.size s.slot.tables in
      let is = ap (λ (n : ℕ). take (tables_of (pages_of n)) made.slot.tables) s.size in
      let e = s.size in let small = s.slot.size in
      once_after tables_in refl pack.copies ino (Some made) s.low in_copies content_tables_max pack_tables (tables_of (pages_of w.size)) (table_in (copy_of pack.copies ino)) (is_table_over (copy_of pack.copies ino) w) made.slot.tables is names (omega arith) s.tables kept_table_times s.are.tables

  pub copies_after : AreCopies copies
  copies_after = record {
    count = length-set pack.copies (ino - 1) (Some made) ∙ s.are.count;
    own = λ other. ⊎_elim
        (λ (e : other ≡ ino).
        let own : IfSome (Some made) (λ copy. IsCopy ino copy) = record { slot = s.slot; own = s.own; pages = s.names } in
        let count = s.are.count in
        let high = s.high in
        subst (λ (i : ℕ). IfSome (copy_of copies i) (λ copy. IsCopy i copy)) (sym e) (subst (λ (o : Option InodeCopy). IfSome o (λ copy. IsCopy ino copy)) (sym (own_copy pack.copies ino (Some made) s.low (omega arith))) own))
        (λ (ne : other ≢ ino). subst (λ (o : Option InodeCopy). IfSome o (λ copy. IsCopy other copy)) (sym (other_copy pack.copies ino other (Some made) s.low ne)) (s.are.own other))
        (cases_eq other ino);
    apart = once;
    tables = tables_once;
  }

-- a number of an inode as it was got
pub low_of : (got ino : ℕ) → got ≡ ino → 1 ≤ got → 1 ≤ ino
low_of got ino e low = omega arith

pub high_of : (got ino : ℕ) → got ≡ ino → got ≤ inodes_max → ino ≤ inodes_max
high_of got ino e high = omega arith

-- the copy of an inode, and how the data pages are named
module _ (copies : List (Option InodeCopy)) (uses : List ℕ) (free : ℕ) (are : AreCopies copies) (used : AreUses copies uses free) where
  pub copy_at : (ino k : ℕ) (o : Option InodeCopy) → 1 ≤ ino → ino ≤ inodes_max → k ≡ ino → o ≡ get_or copies (k - 1) o → o ≡ copy_of copies ino
  copy_at ino k o low high e at =
      let count = are.count in
      at ∙ ap (λ (j : ℕ). get_or copies (j - 1) o) e ∙ get_or_default copies (ino - 1) o None (omega arith) ∙ held_at copies ino low

  -- the table of names says which pages are free
  pub free_alike : (p : ℕ) → p < pack_pages → (get_or uses p 0 == 0) ≡ (times p (named_pages copies) == 0)
  free_alike p lt = ap (λ (n : ℕ). n == 0) (used.each p lt)

  pub room_for : (needed : ℕ) → needed ≤ free → needed ≤ count_below (λ p. get_or uses p 0 == 0) (length uses)
  room_for needed le =
      let same = count_below_same (λ p. get_or uses p 0 == 0) (λ p. times p (named_pages copies) == 0) (length uses) (λ p lt. let c = used.count in free_alike p (omega arith)) in
      let all = free_pages copies (length uses) used.count are in
      let count = used.count in
      let f = used.rest in
      omega arith

  -- with another copy in its place
  module _ (ino : ℕ) (made : InodeCopy) (low : 1 ≤ ino) (high : ino ≤ inodes_max) (next : AreCopies (set copies (ino - 1) (Some made))) where
    in_list : ino ≤ length copies
    in_list = let count = are.count in omega arith

    pub made_copy : IsCopy ino made
    made_copy = subst (λ (o : Option InodeCopy). IfSome o (λ copy. IsCopy ino copy)) (own_copy copies ino (Some made) low in_list) (next.own ino)

    few_next : length (named_pages (set copies (ino - 1) (Some made))) ≤ pack_pages
    few_next = let all = free_pages (set copies (ino - 1) (Some made)) (length uses) used.count next in let count = used.count in omega arith

    pub enough : (old new : ℕ) → old ≡ length (pages_in (copy_of copies ino)) → new ≡ length (pages_in (Some made)) → new ≤ free + old
    enough old new e f = let l = length_set pages_in refl copies ino (Some made) low in_list in let few = few_next in let g = used.rest in omega arith

    pub named_once : (p : ℕ) → p < pack_pages → get_or uses p 0 + times p (pages_in (Some made)) < 2 ^ 32
    named_once p lt =
        let before = are.apart p in
        let one = times_set pages_in refl copies ino (Some made) low in_list p in
        let after = next.apart p in
        let u = used.each p lt in
        let old = part_of pages_in refl copies ino p in
        omega arith

    pub released_once : (p : ℕ) → p < pack_pages → times p (pages_in (copy_of copies ino)) ≤ get_or uses p 0
    released_once p lt = let u = used.each p lt in let old = part_of pages_in refl copies ino p in omega arith

    pub uses_next : (after : List ℕ) (old new left : ℕ) → length after ≡ pack_pages → ((p : ℕ) → p < pack_pages → get_or after p 0 + times p (pages_in (copy_of copies ino)) ≡ get_or uses p 0 + times p (pages_in (Some made)))
        → old ≡ length (pages_in (copy_of copies ino)) → new ≡ length (pages_in (Some made)) → left ≡ free + old - new → AreUses (set copies (ino - 1) (Some made)) after left
    uses_next after old new left long named e f r = record {
      count = long;
      each = λ p lt. (let one = times_set pages_in refl copies ino (Some made) low in_list p in let u = used.each p lt in let n = named p lt in omega arith);
      rest = (let l = length_set pages_in refl copies ino (Some made) low in_list in let few = few_next in let g = used.rest in omega arith);
    }

-- The table of names and the copies say the same of which pages are free.
pub takes_alike : (copies : List (Option InodeCopy)) (uses : List ℕ) (free ino : ℕ) (o : Option InodeCopy) (w : Working) (numbers : List ℕ)
    → AreCopies copies → AreUses copies uses free → o ≡ copy_of copies ino → TakesPages (λ p. get_or uses p 0 == 0) o w numbers → TakesPages (is_free copies) (copy_of copies ino) w numbers
takes_alike copies uses free ino o w numbers are used e t =
    let own : TakesPages (is_free copies) o w numbers = record {
      stays = t.stays;
      inside = t.inside;
      free = λ i lt changed. sym (free_alike copies uses free are used (get_or numbers i 0) (t.inside i lt changed)) ∙ t.free i lt changed;
      ascend = t.ascend;
      least = λ i page lt changed less unused. (let small = t.inside i lt changed in t.least i page lt changed less (free_alike copies uses free are used page (omega arith) ∙ unused));
      rest = t.rest;
    } in
    subst (λ (c : Option InodeCopy). TakesPages (is_free copies) c w numbers) e own
