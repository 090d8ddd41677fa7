-- What a commit knows of the pack and of the copy that it makes.
use Rattle.std.proofs.Common.{◌≡◌, ◌≢◌, ℕ, zero, suc, ◌-◌, ◌*◌, ◌/◌, ◌<◌, ◌≤◌, Bool, true, false, ⊎_elim, List, [], ◌++◌, length, replicate, get_or, Option, None, Some, refl, sym, ap, subst, ◌∙◌, arith}
use Rattle.std.specs.Prelude.{◌==◌, is_some, IfSome, min}
use Rattle.std.specs.List.{flat_map}
use Rattle.std.proofs.lemmas.Bool.{cases_Bool, eqb-true, true≢false}
use Rattle.std.proofs.lemmas.List.{get_or_append_left}
use Rattle.locus_ids.specs.Sizes.{inodes_max, page_bytes, content_pages_max, slot_pages, table_pages, content_tables_max, pack_pages, pack_tables, set_span}
use Rattle.pack_layout.specs.declared.slot.Slot.{Slot}
use Rattle.file_content.specs.Pages.{pages_of, tables_of}
use Rattle.pack_layout.specs.Layout.{IsSlot, NameApart, NamePages, none}
use Rattle.new_contents.specs.of_shadow_pages.Working.{Working, page_at as shadow_page}
use Rattle.pack_slots.specs.declared.inode_copy.InodeCopy.{InodeCopy}
use Rattle.stored_versions.specs.declared.new_version.NewVersion.{NewVersion}
use Rattle.inode_pack.specs.Pack.{PackState, number_in}
use Rattle.pack_slots.specs.Copies.{numbers_in, copy_of, pages_in, tables_in, named_pages, named_tables, times, IsCopy, AreCopies}
use Rattle.new_contents.specs.Changed.{is_changed}
use Rattle.inode_pack.specs.Committing.{RestsOn, size_of, is_free, is_free_table, is_table_over, table_in, Takes, TakesPages, TakesTables, Makes, next_half, next_turn}
use Rattle.stored_versions.specs.Versions.{IsVersion}
use Rattle.inode_pack.specs.PagePieces.{AreWhole}
use Rattle.pack_slots.proofs.PageTimes.{named_here}
use Rattle.pack_slots.proofs.NamedPages.{named_part}
use Rattle.inode_pack.proofs.WrittenTables.{kept_table}

pub record Setup (pack : PackState) (ino : ℕ) (w : Working) (made : InodeCopy) : Type 0 where
  pub are : AreCopies pack.copies
  pub low : 1 ≤ ino
  pub high : ino ≤ inodes_max
  pub slot : IsSlot made.slot
  pub names : NamePages (pages_of made.slot.size) (numbers_in made)
  pub own : made.slot.ino ≡ ino
  pub size : made.slot.size ≡ w.size
  pub place : made.half ≡ next_half (copy_of pack.copies ino)
  pub turn : made.slot.turn ≡ next_turn (copy_of pack.copies ino)
  pub takes : TakesPages (is_free pack.copies) (copy_of pack.copies ino) w (numbers_in made)
  pub tables : TakesTables (is_free_table pack.copies) (copy_of pack.copies ino) w made.slot.tables
  pub rests : RestsOn (size_of (copy_of pack.copies ino)) w
  pub whole : AreWhole w (pages_of w.size)

pub none_of : {A : Type 0} → (o : Option A) → is_some o ≡ false → o ≡ None
none_of None is = refl
none_of (Some x) is = absurd (true≢false is)

-- a copy that the pack has
pub copy_is : (copies : List (Option InodeCopy)) (ino : ℕ) (copy : InodeCopy) → AreCopies copies → copy_of copies ino ≡ Some copy → IsCopy ino copy
copy_is copies ino copy are held = subst (λ (o : Option InodeCopy). IfSome o (λ one. IsCopy ino one)) held (are.own ino)

-- what it names is named
pub copy_names : (names : Option InodeCopy → List ℕ) → names None ≡ [] → (copies : List (Option InodeCopy)) (ino p : ℕ) (copy : InodeCopy) → copy_of copies ino ≡ Some copy → times p (names (Some copy)) ≤ times p (flat_map names copies)
copy_names names nothing copies zero p copy held = absurd (let h : None ≡ Some copy = held in cc)
copy_names names nothing copies (suc j) p copy held = let part = named_part names nothing p copies j in let e = ap (λ (o : Option InodeCopy). times p (names o)) held in omega arith

pub page_named : (copies : List (Option InodeCopy)) (ino i : ℕ) (copy : InodeCopy) → AreCopies copies → copy_of copies ino ≡ Some copy → i < pages_of copy.slot.size → 1 ≤ times (get_or (numbers_in copy) i 0) (named_pages copies)
page_named copies ino i copy are held lt =
    let is = copy_is copies ino copy are held in
    let few = is.slot.size in
    let count = is.pages.count in
    let here = named_here (numbers_in copy) i (pages_of copy.slot.size) lt (omega arith) in
    let all = copy_names pages_in refl copies ino (get_or (numbers_in copy) i 0) copy held in
    omega arith

pub table_named : (copies : List (Option InodeCopy)) (ino k : ℕ) (copy : InodeCopy) → AreCopies copies → copy_of copies ino ≡ Some copy → k < tables_of (pages_of copy.slot.size) → 1 ≤ times (get_or copy.slot.tables k 0) (named_tables copies)
table_named copies ino k copy are held lt =
    let is = copy_is copies ino copy are held in
    let few = is.slot.size in
    let count = is.slot.tables.count in
    let here = named_here copy.slot.tables k (tables_of (pages_of copy.slot.size)) lt (omega arith) in
    let all = copy_names tables_in refl copies ino (get_or copy.slot.tables k 0) copy held in
    omega arith

-- a place below the size of a copy's content is one of a copy
pub held_page : (o : Option InodeCopy) (i : ℕ) → page_bytes * i < size_of o → (copy : InodeCopy) × (o ≡ Some copy) × (i < pages_of copy.slot.size)
held_page None i lt = absurd (omega arith)
held_page (Some copy) i lt = (copy, refl, omega arith)

-- an unchanged page of a new content is one of the copy's
pub kept_page : (o : Option InodeCopy) (w : Working) (i : ℕ) → RestsOn (size_of o) w → i < pages_of w.size → is_changed w i ≡ false → (copy : InodeCopy) × (o ≡ Some copy) × (i < pages_of copy.slot.size)
kept_page o w i rests lt unchanged =
    let e : page_bytes * i / page_bytes ≡ i = omega arith in
    let none = none_of (shadow_page w.pages i) unchanged in
    held_page o i (rests (page_bytes * i) (omega arith) (ap (λ (n : ℕ). shadow_page w.pages n) e ∙ none))

-- Blocks that stay where they stood, or take numbers that nothing names, are apart where those that stay are.
module _ (most limit n : ℕ) (named : List ℕ) (stood : ℕ → ℕ) (changed : ℕ → Bool) (numbers : List ℕ) (takes : Takes most limit n (λ number. times number named == 0) stood changed numbers)
    (kept : (i : ℕ) → i < n → changed i ≡ false → (stood i < limit) × (1 ≤ times (stood i) named)) (differ : (i j : ℕ) → i < j → j < n → changed i ≡ false → changed j ≡ false → stood i ≢ stood j) where
  taken_unnamed : (i : ℕ) → i < n → changed i ≡ true → times (get_or numbers i 0) named ≡ 0
  taken_unnamed i lt is = eqb-true (times (get_or numbers i 0) named) 0 (takes.free i lt is)

  kept_named : (i : ℕ) → i < n → changed i ≡ false → 1 ≤ times (get_or numbers i 0) named
  kept_named i lt stays = subst (λ (p : ℕ). 1 ≤ times p named) (sym (takes.stays i lt stays)) (kept i lt stays).1

  taken_inside : (i : ℕ) → i < n → get_or numbers i 0 < limit
  taken_inside i lt = ⊎_elim
      (λ (is : changed i ≡ true). takes.inside i lt is)
      (λ (no : changed i ≡ false). subst (λ (p : ℕ). p < limit) (sym (takes.stays i lt no)) (kept i lt no).0)
      (cases_Bool (changed i))

  taken_distinct : (i j : ℕ) → i < j → j < n → get_or numbers i 0 ≢ get_or numbers j 0
  taken_distinct i j lt less e =
      let f = ap (λ (p : ℕ). times p named) e in
      let before : i < n = omega arith in
      ⊎_elim
      (λ (a : changed i ≡ true). ⊎_elim
      (λ (b : changed j ≡ true). let h = takes.ascend i j lt less a b in absurd (omega arith))
      (λ (b : changed j ≡ false). let h = taken_unnamed i before a in let g = kept_named j less b in absurd (omega arith))
      (cases_Bool (changed j)))
      (λ (a : changed i ≡ false). ⊎_elim
      (λ (b : changed j ≡ true). let h = taken_unnamed j less b in let g = kept_named i before a in absurd (omega arith))
      (λ (b : changed j ≡ false). absurd (differ i j lt less a b (sym (takes.stays i before a) ∙ e ∙ takes.stays j less b)))
      (cases_Bool (changed j)))
      (cases_Bool (changed i))

  pub taken_apart : length numbers ≡ most → NameApart most limit n numbers
  taken_apart long = record { count = long; inside = taken_inside; distinct = taken_distinct; rest = takes.rest }

module _ (copies : List (Option InodeCopy)) (ino : ℕ) (w : Working) (are : AreCopies copies) where
  -- a page that stays keeps its number
  pub kept_number : RestsOn (size_of (copy_of copies ino)) w → (i : ℕ) → i < pages_of w.size → is_changed w i ≡ false → (copy : InodeCopy) × (copy_of copies ino ≡ Some copy) × (i < pages_of copy.slot.size) × (number_in (copy_of copies ino) i ≡ get_or (numbers_in copy) i 0)
  kept_number rests i lt unchanged =
      let k = kept_page (copy_of copies ino) w i rests lt unchanged in
      (k.0, k.1, k.2, ap (λ (o : Option InodeCopy). number_in o i) k.1)

  one_copy : (a b : InodeCopy) → copy_of copies ino ≡ Some a → copy_of copies ino ≡ Some b → a ≡ b
  one_copy a b e f = let h : Some a ≡ Some b = sym e ∙ f in cc

  pub names_pages : (numbers : List ℕ) → RestsOn (size_of (copy_of copies ino)) w → TakesPages (is_free copies) (copy_of copies ino) w numbers → length numbers ≡ content_pages_max → NamePages (pages_of w.size) numbers
  names_pages numbers rests takes long = taken_apart content_pages_max pack_pages (pages_of w.size) (named_pages copies) (number_in (copy_of copies ino)) (is_changed w) numbers takes
      (λ i lt no.
      let k = kept_number rests i lt no in
      let is = copy_is copies ino k.0 are k.1 in
      (subst (λ (p : ℕ). p < pack_pages) (sym k.3) (is.pages.inside i k.2), subst (λ (p : ℕ). 1 ≤ times p (named_pages copies)) (sym k.3) (page_named copies ino i k.0 are k.1 k.2)))
      (λ i j lt less a b e.
      let before : i < pages_of w.size = omega arith in
      let k = kept_number rests i before a in
      let l = kept_number rests j less b in
      let is = copy_is copies ino l.0 are l.1 in
      is.pages.distinct i j lt l.2 (ap (λ (c : InodeCopy). get_or (numbers_in c) i 0) (sym (one_copy k.0 l.0 k.1 l.1)) ∙ sym k.3 ∙ e ∙ l.3))
      long

  names_tables : (tables : List ℕ) → TakesTables (is_free_table copies) (copy_of copies ino) w tables → length tables ≡ content_tables_max → NameApart content_tables_max pack_tables (tables_of (pages_of w.size)) tables
  names_tables tables takes long = taken_apart content_tables_max pack_tables (tables_of (pages_of w.size)) (named_tables copies) (table_in (copy_of copies ino)) (is_table_over (copy_of copies ino) w) tables takes
      (λ i lt no.
      let k = kept_table (copy_of copies ino) w i lt no in
      let is = copy_is copies ino k.copy are k.held in
      let at = ap (λ (o : Option InodeCopy). table_in o i) k.held in
      (subst (λ (p : ℕ). p < pack_tables) (sym at) (is.slot.tables.inside i k.inside), subst (λ (p : ℕ). 1 ≤ times p (named_tables copies)) (sym at) (table_named copies ino i k.copy are k.held k.inside)))
      (λ i j lt less a b e.
      let before : i < tables_of (pages_of w.size) = omega arith in
      let k = kept_table (copy_of copies ino) w i before a in
      let l = kept_table (copy_of copies ino) w j less b in
      let is = copy_is copies ino l.copy are l.held in
      is.slot.tables.distinct i j lt l.inside
      (ap (λ (c : InodeCopy). get_or c.slot.tables i 0) (sym (one_copy k.copy l.copy k.held l.held)) ∙ sym (ap (λ (o : Option InodeCopy). table_in o i) k.held) ∙ e ∙ ap (λ (o : Option InodeCopy). table_in o j) l.held))
      long

-- how many numbers the new copy has room for
abbrev pub HasRoom : InodeCopy → Type 0
HasRoom made = (length (numbers_in made) ≡ content_pages_max) × (length made.slot.pages ≡ slot_pages) × (length made.slot.tables ≡ content_tables_max)

-- the first numbers are those of the slot
first_number : (made : InodeCopy) → length made.slot.pages ≡ slot_pages → (i : ℕ) → i < slot_pages → get_or (numbers_in made) i 0 ≡ get_or made.slot.pages i 0
first_number made long i lt = get_or_append_left made.slot.pages (made.more ++ replicate (content_tables_max * table_pages - length made.more) none) 0 i (omega arith)

slot_names : (n : ℕ) (made : InodeCopy) → HasRoom made → NamePages n (numbers_in made) → NameApart slot_pages pack_pages (min n slot_pages) made.slot.pages
slot_names n made room names =
    let long = room.1 in
    let here : (i : ℕ) → i < slot_pages → get_or (numbers_in made) i 0 ≡ get_or made.slot.pages i 0 = λ i lt. first_number made long i lt in
    record {
      count = room.1;
      inside = λ i lt. subst (λ (p : ℕ). p < pack_pages) (here i (omega arith)) (names.inside i (omega arith));
      distinct = λ i j lt less e. names.distinct i j lt (omega arith) (here i (omega arith) ∙ e ∙ sym (here j (omega arith)));
      rest = λ i le lt. sym (here i lt) ∙ names.rest i (omega arith) (omega arith);
    }

-- the turns go round
next_small : (o : Option InodeCopy) → next_turn o ≤ 2
next_small None = omega arith
next_small (Some copy) = omega arith

pub set_up : (pack : PackState) (ino : ℕ) (version : NewVersion) (w : Working) (made : InodeCopy)
    → 1 ≤ ino → ino ≤ inodes_max → AreCopies pack.copies → IsVersion version w.size → version.set.0 < set_span → RestsOn (size_of (copy_of pack.copies ino)) w → AreWhole w (pages_of w.size) → HasRoom made
    → Makes (is_free pack.copies) (is_free_table pack.copies) (copy_of pack.copies ino) ino version w made → Setup pack ino w made
set_up pack ino version w made low high are is fits rests whole room makes =
    let says = makes.says in
    let size : made.slot.size ≡ w.size = ap (λ (s : Slot). s.size) says in
    let names = names_pages pack.copies ino w are (numbers_in made) rests makes.takes room.0 in
    let slot : Slot = record { turn = next_turn (copy_of pack.copies ino); kind = version.kind; ino = ino; set = version.set; size = w.size; stamp = version.stamp; vector = version.vector; pages = made.slot.pages; tables = made.slot.tables } in
    let good : IsSlot slot = record {
      turn = next_small (copy_of pack.copies ino);
      low = low;
      high = high;
      some = is.some;
      sites = fits;
      size = is.most;
      stamp = is.named;
      vector = is.agrees;
      pages = slot_names (pages_of w.size) made room names;
      tables = names_tables pack.copies ino w are made.slot.tables makes.tables room.2;
    } in
    record {
      are = are;
      low = low;
      high = high;
      slot = subst IsSlot (sym says) good;
      names = subst (λ (n : ℕ). NamePages (pages_of n) (numbers_in made)) (sym size) names;
      own = ap (λ (s : Slot). s.ino) says;
      size = size;
      place = makes.place;
      turn = ap (λ (s : Slot). s.turn) says;
      takes = makes.takes;
      tables = makes.tables;
      rests = rests;
      whole = whole;
    }
