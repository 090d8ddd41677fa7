-- What a commit writes may replace the inode's version.
use Rattle.std.proofs.Common.{◌≡◌, ◌≢◌, ◌⊎◌, ℕ, zero, suc, ◌+◌, ◌*◌, ◌%◌, ◌<◌, ◌≤◌, Bool, true, false, ◌||◌, inl, inr, ⊎_elim, List, [], ◌∷◌, ◌++◌, length, drop, replicate, get_or, Option, None, Some, refl, sym, ap, subst, ◌∙◌, arith, length-append, length-take, length-drop}
use Rattle.std.specs.Prelude.{is_some}
use Rattle.std.specs.Int.{w16, w32, to_be_bytes}
use Rattle.std.specs.List.{All, flat_map}
use Rattle.std.proofs.lemmas.Bool.{cases_lt, cases_eq, cases_Bool, eqb-true, true≢false}
use Rattle.std.proofs.lemmas.Bool.Decides.{nat_tests}
use Rattle.std.proofs.lemmas.List.{same_lists, get_or-take, get_or-drop, get_or_default}
use Rattle.std.proofs.lemmas.List.Elements.{All-append, All-nil, All-cons}
use Rattle.locus_ids.specs.Sizes.{inodes_max, page_bytes, content_tables_max, pack_pages, pack_tables}
use Rattle.disk_model.specs.Images.{overwritten, bytes_at, is_within, Torn}
use Rattle.pack_layout.specs.declared.slot.Slot.{Slot}
use Rattle.file_content.specs.Pages.{pages_of, tables_of}
use Rattle.pack_layout.specs.declared.half.Half.{Half}
use Rattle.pack_layout.specs.declared.half.Half.TheVariants.{First}
use Rattle.pack_layout.specs.Layout.{area_length, slot_at, tables_at, table_at, page_at, slot_bytes, table_bytes, numbers_under, NamePages, IsSlot, other_half}
use Rattle.pack_layout.proofs.Halves.{half_most, cases_half}
use Rattle.new_contents.specs.of_shadow_pages.Working.{Working, page_at as shadow_page}
use Rattle.gate_switch.specs.Switch.{Piece}
use Rattle.gate_switch.specs.Switch.{touches, written}
use Rattle.inode_switch.specs.Slots.{Holds, Says, HoldsTables}
use Rattle.inode_switch.specs.View.{is_open, turn, size, page}
use Rattle.inode_switch.specs.Replace.{MayReplace, made_bytes}
use Rattle.gate_switch.proofs.Pieces.{put_outside, put_gate, length-overwritten, written-append, torn_overwritten, torn_written}
use Rattle.inode_switch.proofs.SlotBytes.{says}
use Rattle.inode_switch.proofs.TableBytes.{page_named as number_read}
use Rattle.inode_switch.proofs.Views.{size_by}
use Rattle.pack_slots.proofs.Numbers.{first_numbers}
use Rattle.pack_slots.specs.declared.inode_copy.InodeCopy.{InodeCopy}
use Rattle.inode_pack.specs.Pack.{PackState, number_in, Shows}
use Rattle.pack_slots.specs.Copies.{numbers_in, copy_of, named_pages, times, ShowsCopy, named_tables, ShowsTables}
use Rattle.new_contents.specs.Changed.{is_changed}
use Rattle.inode_pack.specs.Committing.{tables_over, is_table_over, table_in, next_half, next_turn}
use Rattle.inode_pack.specs.PagePieces.{page_pieces, table_pieces}
use Rattle.gate_switch.proofs.Tearing.{put_inside, same_bytes, bytes_are}
use Rattle.inode_pack.proofs.Placing.{is_outside, touches_none, spared_pages, long_written, within_pages, written_page}
use Rattle.inode_pack.proofs.Setup.{Setup, copy_is, page_named, table_named}
use Rattle.inode_pack.proofs.TablePlacing.{IsTable, IsBeside, table_long, spared_tables, within_tables, long_tables, beside_tables, placed_table}
use Rattle.inode_pack.proofs.WrittenTables.{over_are, over_has, kept_table, same_under}

length-flat : (f : ℕ → List ℕ) (n : ℕ) → ((x : ℕ) → length (f x) ≡ n) → (xs : List ℕ) → length (flat_map f xs) ≡ n * length xs
length-flat f n each [] = omega arith
length-flat f n each (x ∷ xs) = omega (arith, length-append (f x) (flat_map f xs), each x, length-flat f n each xs)

pub length-slot : (s : Slot) → IsSlot s → length (slot_bytes s) ≡ 512
length-slot s is =
    let counters = length-flat (to_be_bytes w32) 4 (λ x. refl) s.vector in
    let numbers = length-flat (to_be_bytes w16) 2 (λ x. refl) s.pages in
    let v = is.vector.count in
    let p = is.pages.count in
    let tables = length-flat (to_be_bytes w16) 2 (λ x. refl) s.tables in
    let t = is.tables.count in
    omega (
      arith,
      length-append (flat_map (to_be_bytes w32) s.vector) (flat_map (to_be_bytes w16) s.pages ++ (flat_map (to_be_bytes w16) s.tables ++ replicate 308 0)),
      length-append (flat_map (to_be_bytes w16) s.pages) (flat_map (to_be_bytes w16) s.tables ++ replicate 308 0),
      length-append (flat_map (to_be_bytes w16) s.tables) (replicate 308 0),
    )

-- an open slot is that of a copy
pub open_of : (base i : ℕ) (half : Half) (old : List ℕ) (o : Option InodeCopy) → ShowsCopy base i old o → is_open old (slot_at base i half) ≡ true
    → (copy : InodeCopy) × (o ≡ Some copy) × (copy.half ≡ half) × Holds old (slot_at base i half) copy.slot
open_of base i half old None shows is = absurd (true≢false (sym is ∙ shows.0 half))
open_of base i half old (Some copy) shows is = ⊎_elim
    (λ (e : half ≡ copy.half). (copy, refl, sym e, subst (λ (one : Half). Holds old (slot_at base i one) copy.slot) (sym e) shows.0.bytes))
    (λ (e : half ≡ other_half copy.half). absurd (true≢false (sym is ∙ ap (λ (one : Half). is_open old (slot_at base i one)) e ∙ shows.0.other)))
    (cases_half half copy.half)

-- the slot that is written is closed
shut_of : (base i : ℕ) (old : List ℕ) (o : Option InodeCopy) → ShowsCopy base i old o → is_open old (slot_at base i (next_half o)) ≡ false
shut_of base i old None shows = shows.0 First
shut_of base i old (Some copy) shows = shows.0.other

within_area : (base at n k : ℕ) → base ≤ at → at + n ≤ base + 5309440 → is_within base 5309440 k ≡ false → is_within at n k ≡ false
within_area base at n k low high out = grind (arith, nat_tests)

-- a slot's first byte, and a byte of another slot, is none of those behind the gate of this one
pub apart_slots : (base i : ℕ) (one : Half) (ino : ℕ) (half : Half) (k : ℕ) → k < 512 → 1 ≤ i → 1 ≤ ino → (k ≡ 0) ⊎ (slot_at base i one ≢ slot_at base ino half) → is_within (slot_at base ino half + 1) 511 (slot_at base i one + k) ≡ false
apart_slots base i one ino half k lt low low' h = is_outside (slot_at base ino half + 1) 511 (slot_at base i one + k) (⊎_elim
    (λ (less : slot_at base i one + k < slot_at base ino half + 1). inl less)
    (λ (ge : slot_at base ino half + 1 ≤ slot_at base i one + k). inr (⊎_elim
    (λ (e : k ≡ 0). omega arith)
    (λ (ne : slot_at base i one ≢ slot_at base ino half). omega arith)
    h))
    (cases_lt (slot_at base i one + k) (slot_at base ino half + 1)))

module _ (pack : PackState) (ino : ℕ) (w : Working) (made : InodeCopy) (s : Setup pack ino w made) where
  abbrev gate : ℕ
  gate = slot_at pack.base ino made.half

  abbrev count : ℕ
  count = pages_of w.size

  abbrev pages : List Piece
  pages = page_pieces pack.base (numbers_in made) w (pages_of w.size)

  -- the tables that are written
  abbrev ks : List ℕ
  ks = tables_over (copy_of pack.copies ino) w

  abbrev tables : List Piece
  tables = table_pieces pack.base made (tables_over (copy_of pack.copies ino) w)

  abbrev blocks : List Piece
  blocks = pages ++ tables

  abbrev body : Piece
  body = record { at = slot_at pack.base ino made.half + 1; bytes = drop 1 (slot_bytes made.slot) }

  -- what is written before the gate opens
  abbrev pub pieces : List Piece
  pieces = blocks ++ body ∷ []

  names : NamePages (pages_of w.size) (numbers_in made)
  names = subst (λ (n : ℕ). NamePages (pages_of n) (numbers_in made)) s.size s.names

  inside : (i : ℕ) → i < pages_of w.size → get_or (numbers_in made) i 0 < pack_pages
  inside = names.inside

  few_tables : tables_of (pages_of w.size) ≤ content_tables_max
  few_tables = let e = s.size in let small = s.slot.size in omega arith

  -- they are tables of the area that no copy names
  are_tables : All (IsTable pack.base made) (tables_over (copy_of pack.copies ino) w)
  are_tables = λ i d lt.
      let over = over_are (copy_of pack.copies ino) w i d lt in
      let few = few_tables in
      let inside = over.0 in
      (omega arith, s.tables.inside (get_or (tables_over (copy_of pack.copies ino) w) i d) over.0 over.1)

  are_free : All (λ k. times (get_or made.slot.tables k 0) (named_tables pack.copies) ≡ 0) (tables_over (copy_of pack.copies ino) w)
  are_free = λ i d lt.
      let over = over_are (copy_of pack.copies ino) w i d lt in
      let k = get_or (tables_over (copy_of pack.copies ino) w) i d in
      eqb-true (times (get_or made.slot.tables k 0) (named_tables pack.copies)) 0 (s.tables.free k over.0 over.1)

  pub number_below : (i : ℕ) → i < pages_of w.size → get_or (numbers_in made) i 0 < pack_pages
  number_below = inside

  long_body : length body.bytes ≡ 511
  long_body = let long = length-slot made.slot s.slot in omega (arith, length-drop 1 (slot_bytes made.slot))

  spared_body : (k : ℕ) → is_within (gate + 1) 511 k ≡ false → touches (body ∷ []) k ≡ false
  spared_body k out = ap (λ (b : Bool). b || false) (subst (λ (n : ℕ). is_within (gate + 1) n k ≡ false) (sym long_body) out)

  -- a place before the tables, or behind them
  before_tables : (k : ℕ) → k < pack.base + tables_at → All (IsBeside pack.base made k) (tables_over (copy_of pack.copies ino) w)
  before_tables k lt = λ i d less. is_outside (table_at pack.base (get_or made.slot.tables (get_or (tables_over (copy_of pack.copies ino) w) i d) 0)) 1024 k (inl (omega arith))

  behind_tables : (k : ℕ) → pack.base + 2163712 ≤ k → All (IsBeside pack.base made k) (tables_over (copy_of pack.copies ino) w)
  behind_tables k le = λ i d less. is_outside (table_at pack.base (get_or made.slot.tables (get_or (tables_over (copy_of pack.copies ino) w) i d) 0)) 1024 k (inr (let few = (are_tables i d less).1 in omega arith))

  apart_tables : (p q k : ℕ) → k < 1024 → p ≢ q → is_within (table_at pack.base q) 1024 (table_at pack.base p + k) ≡ false
  apart_tables p q k lt ne = is_outside (table_at pack.base q) 1024 (table_at pack.base p + k)
      (⊎_elim (λ (less : p < q). inl (omega arith)) (λ (ge : q ≤ p). inr (omega arith)) (cases_lt p q))

  -- a place in a table that is named
  in_named : (t k : ℕ) → k < 1024 → 1 ≤ times t (named_tables pack.copies) → All (IsBeside pack.base made (table_at pack.base t + k)) (tables_over (copy_of pack.copies ino) w)
  in_named t k lt named = λ i d less.
      let number = get_or made.slot.tables (get_or (tables_over (copy_of pack.copies ino) w) i d) 0 in
      let none = are_free i d less in
      apart_tables t number k lt (λ e. let f = ap (λ (q : ℕ). times q (named_tables pack.copies)) e in absurd (omega arith))

  -- a place among the slots, or in a page that is named
  pub spared_slot : (k : ℕ) → k < pack.base + tables_at → is_within (gate + 1) 511 k ≡ false → touches pieces k ≡ false
  spared_slot k lt out = touches_none blocks (body ∷ []) k
      (touches_none pages tables k (spared_pages pack.base (numbers_in made) w count s.whole inside count k (omega arith) (λ i page less is. is_outside (page_at pack.base (get_or (numbers_in made) i 0)) page_bytes k (inl (omega arith))))
      (spared_tables pack.base made s.names.count ks k are_tables (before_tables k lt)))
      (spared_body k out)

  -- a place outside the area
  out_of_area : (k : ℕ) → is_within pack.base 5309440 k ≡ false → All (IsBeside pack.base made k) (tables_over (copy_of pack.copies ino) w)
  out_of_area k out = λ i d less. within_area pack.base (table_at pack.base (get_or made.slot.tables (get_or (tables_over (copy_of pack.copies ino) w) i d) 0)) 1024 k (omega arith) (let few = (are_tables i d less).1 in omega arith) out

  -- in a table that is named
  pub spared_table : (t k : ℕ) → t < pack_tables → k < 1024 → 1 ≤ times t (named_tables pack.copies) → touches pieces (table_at pack.base t + k) ≡ false
  spared_table t k few lt named = touches_none blocks (body ∷ []) (table_at pack.base t + k)
      (touches_none pages tables (table_at pack.base t + k)
      (spared_pages pack.base (numbers_in made) w count s.whole inside count (table_at pack.base t + k) (omega arith) (λ i page less is. is_outside (page_at pack.base (get_or (numbers_in made) i 0)) page_bytes (table_at pack.base t + k) (inl (omega arith))))
      (spared_tables pack.base made s.names.count ks (table_at pack.base t + k) are_tables (in_named t k lt named)))
      (spared_body (table_at pack.base t + k) (let high = s.high in let low = s.low in let most = half_most made.half in is_outside (gate + 1) 511 (table_at pack.base t + k) (inr (omega arith))))

  changed_of : (i : ℕ) (page : List ℕ) → shadow_page w.pages i ≡ Some page → is_changed w i ≡ true
  changed_of i page is = ap (λ (o : Option (List ℕ)). is_some o) is

  pub spared_named : (p k : ℕ) → k < page_bytes → 1 ≤ times p (named_pages pack.copies) → touches pieces (page_at pack.base p + k) ≡ false
  spared_named p k lt named = touches_none blocks (body ∷ []) (page_at pack.base p + k)
      (touches_none pages tables (page_at pack.base p + k) (spared_pages pack.base (numbers_in made) w count s.whole inside count (page_at pack.base p + k) (omega arith) (λ i page less is.
      let free = eqb-true (times (get_or (numbers_in made) i 0) (named_pages pack.copies)) 0 (s.takes.free i less (changed_of i page is)) in
      is_outside (page_at pack.base (get_or (numbers_in made) i 0)) page_bytes (page_at pack.base p + k)
      (beside p (get_or (numbers_in made) i 0) k lt (λ e. let f = ap (λ (q : ℕ). times q (named_pages pack.copies)) e in absurd (omega arith)))))
      (spared_tables pack.base made s.names.count ks (page_at pack.base p + k) are_tables (behind_tables (page_at pack.base p + k) (omega arith))))
      (spared_body (page_at pack.base p + k) (let high = s.high in let low = s.low in let most = half_most made.half in is_outside (gate + 1) 511 (page_at pack.base p + k) (inr (omega arith))))
    where
      beside : (p q k : ℕ) → k < page_bytes → p ≢ q → (page_at pack.base p + k < page_at pack.base q) ⊎ (page_at pack.base q + page_bytes ≤ page_at pack.base p + k)
      beside p q k lt ne = ⊎_elim (λ (less : p < q). inl (omega arith)) (λ (ge : q ≤ p). inr (omega arith)) (cases_lt p q)

  module _ (old : List ℕ) (shows : Shows pack old) where
    own_shows : ShowsCopy pack.base ino old (copy_of pack.copies ino)
    own_shows = shows.copies ino s.low s.high

    pub shut : is_open old gate ≡ false
    shut = ap (λ (half : Half). is_open old (slot_at pack.base ino half)) s.place ∙ shut_of pack.base ino old (copy_of pack.copies ino) own_shows

    pub open_copy : (i : ℕ) (half : Half) → 1 ≤ i → i ≤ inodes_max → is_open old (slot_at pack.base i half) ≡ true
        → (copy : InodeCopy) × (copy_of pack.copies i ≡ Some copy) × (copy.half ≡ half) × Holds old (slot_at pack.base i half) copy.slot
    open_copy i half low high is = open_of pack.base i half old (copy_of pack.copies i) (shows.copies i low high) is

    shown_tables : (i : ℕ) (copy : InodeCopy) → 1 ≤ i → i ≤ inodes_max → copy_of pack.copies i ≡ Some copy → HoldsTables old pack.base copy.slot (numbers_in copy)
    shown_tables i copy low high held = subst (λ (o : Option InodeCopy). ShowsTables pack.base old o) held (shows.copies i low high).1

    -- the view reads the page numbers of a copy
    pub copy_numbers : (i : ℕ) (half : Half) (copy : InodeCopy) → 1 ≤ i → i ≤ inodes_max → copy_of pack.copies i ≡ Some copy → Holds old (slot_at pack.base i half) copy.slot → (n : ℕ) → n < pages_of copy.slot.size
        → page old pack.base (slot_at pack.base i half) n ≡ get_or (numbers_in copy) n 0
    copy_numbers i half copy low high held holds n lt =
        let c = copy_is pack.copies i copy s.are held in
        number_read old pack.base (slot_at pack.base i half) copy.slot (numbers_in copy) c.slot (says old (slot_at pack.base i half) copy.slot holds c.slot) (shown_tables i copy low high held) c.pages (first_numbers copy c.slot) n lt

    pub copy_says : (i : ℕ) (half : Half) (copy : InodeCopy) → copy_of pack.copies i ≡ Some copy → Holds old (slot_at pack.base i half) copy.slot → Says old (slot_at pack.base i half) copy.slot
    copy_says i half copy held holds = says old (slot_at pack.base i half) copy.slot holds (copy_is pack.copies i copy s.are held).slot

    -- the bytes once the pieces are written
    abbrev before : List ℕ
    before = written old blocks

    long_pages : length (written old pages) ≡ length old
    long_pages = long_written pack.base (numbers_in made) w count s.whole inside old shows.area count (omega arith)

    blocks_are : written old blocks ≡ written (written old pages) tables
    blocks_are = written-append old pages tables

    long_before : length before ≡ length old
    long_before = ap length blocks_are ∙ long_tables pack.base made s.names.count ks (written old pages) (let area = shows.area in let long = long_pages in omega arith) are_tables ∙ long_pages

    body_fits : gate + 1 + length body.bytes ≤ length before
    body_fits = let long = long_body in let all = long_before in let area = shows.area in let high = s.high in let low = s.low in let p = half_most made.half in omega arith

    whole_is : written old pieces ≡ overwritten before body.at body.bytes
    whole_is = written-append old blocks (body ∷ [])

    pub long_pieces : length (written old pieces) ≡ length old
    long_pieces = ap length whole_is ∙ length-overwritten before body.at body.bytes body_fits ∙ long_before

    -- behind the gate stands the slot
    body_byte : (k : ℕ) → k < 511 → get_or (written old pieces) (gate + 1 + k) 0 ≡ get_or (slot_bytes made.slot) (1 + k) 0
    body_byte k lt =
        let long = long_body in
        ap (λ (l : List ℕ). get_or l (gate + 1 + k) 0) whole_is
        ∙ put_inside before body.at body.bytes k body_fits (omega arith)
        ∙ get_or-drop 1 (slot_bytes made.slot) k 0

    abbrev new : List ℕ
    new = made_bytes pack.base ino made.half pieces old

    gate_fits : gate + 1 ≤ length (written old pieces)
    gate_fits = let long = long_body in let fits = body_fits in let a = long_before in let b = long_pieces in omega arith

    pub gate_torn : Torn gate 1 (written old pieces) new
    gate_torn = torn_overwritten (written old pieces) gate (165 ∷ []) gate_fits

    slot_byte : (k : ℕ) → k < 512 → get_or new (gate + k) 0 ≡ get_or (slot_bytes made.slot) k 0
    slot_byte zero lt = let e : gate + 0 ≡ gate = omega arith in ap (λ (n : ℕ). get_or new n 0) e ∙ put_gate (written old pieces) gate 165 gate_fits
    slot_byte (suc k) lt =
        let e : gate + suc k ≡ gate + 1 + k = omega arith in
        let f : 1 + k ≡ suc k = omega arith in
        ap (λ (n : ℕ). get_or new n 0) e
        ∙ gate_torn.outside (gate + 1 + k) (is_outside gate 1 (gate + 1 + k) (inr (omega arith)))
        ∙ body_byte k (omega arith) ∙ ap (λ (n : ℕ). get_or (slot_bytes made.slot) n 0) f

    long_new : length new ≡ length old
    long_new = gate_torn.long ∙ long_pieces

    -- once the gate is open, the new slot stands there
    pub new_holds : Holds new gate made.slot
    new_holds =
        let long = length-slot made.slot s.slot in
        let all = long_new in
        let fits = body_fits in
        let l = long_body in
        let b = long_before in
        let count : length (bytes_at new gate 512) ≡ length (slot_bytes made.slot) = omega (arith, length-take 512 (drop gate new), length-drop gate new) in
        same_lists (bytes_at new gate 512) (slot_bytes made.slot) count (λ k d lt.
        let below : k < 512 = omega (arith, count) in
        get_or_default (bytes_at new gate 512) k d 0 lt ∙ get_or-take 512 (drop gate new) k 0 below ∙ get_or-drop gate new k 0 ∙ slot_byte k below ∙ get_or_default (slot_bytes made.slot) k 0 d (omega arith))

    pub new_says : Says new gate made.slot
    new_says = says new gate made.slot new_holds s.slot

    byte_before : (k : ℕ) → 1 ≤ k → get_or (written old pieces) (gate + k) 0 ≡ get_or new (gate + k) 0
    byte_before k le = sym (gate_torn.outside (gate + k) (is_outside gate 1 (gate + k) (inr (omega arith))))

    size_before : size (written old pieces) gate ≡ made.slot.size
    size_before = size_by gate new (written old pieces) (λ k low lt. byte_before k low) ∙ new_says.size

    turn_before : turn (written old pieces) gate ≡ made.slot.turn
    turn_before = byte_before 1 (omega arith) ∙ new_says.turn

    pub may_replace : MayReplace pack.base ino made.half pieces old
    may_replace = record {
      area = shows.area;
      within = All-append (λ (piece : Piece). piece.at + length piece.bytes ≤ length old) blocks (body ∷ [])
          (All-append (λ (piece : Piece). piece.at + length piece.bytes ≤ length old) pages tables (within_pages pack.base (numbers_in made) w count s.whole inside old shows.area count (omega arith)) (within_tables pack.base made s.names.count ks (length old) shows.area are_tables))
          (All-cons (λ (piece : Piece). piece.at + length piece.bytes ≤ length old) body [] (let fits = body_fits in let b = long_before in omega arith) (All-nil (λ (piece : Piece). piece.at + length piece.bytes ≤ length old)));
      inside = λ k out. touches_none blocks (body ∷ []) k
          (touches_none pages tables k (spared_pages pack.base (numbers_in made) w count s.whole inside count k (omega arith) (λ i page less is. let number = inside i less in within_area pack.base (page_at pack.base (get_or (numbers_in made) i 0)) page_bytes k (omega arith) (omega arith) out)) (spared_tables pack.base made s.names.count ks k are_tables (out_of_area k out)))
          (spared_body k (let high = s.high in let low = s.low in let p = half_most made.half in within_area pack.base (gate + 1) 511 k (omega arith) (omega arith) out));
      low = s.low;
      high = s.high;
      shut = shut;
      gates = λ i half low high.
          let e : slot_at pack.base i half + 0 ≡ slot_at pack.base i half = omega arith in
          let most = half_most half in
          subst (λ (k : ℕ). touches pieces k ≡ false) e (spared_slot (slot_at pack.base i half + 0) (omega arith) (apart_slots pack.base i half ino made.half 0 (omega arith) low s.low (inl refl)));
      spares = λ i half low high is.
          let o = open_copy i half low high is in
          let t = copy_says i half o.0 o.1 o.3 in
          let most = half_most half in
          let c = copy_is pack.copies i o.0 s.are o.1 in
          let small = c.slot.size in
          let e = t.size in
          let apart : slot_at pack.base i half ≢ gate = (λ same. true≢false (sym is ∙ ap (λ (k : ℕ). is_open old k) same ∙ shut)) in
          record {
            few = omega arith;
            bytes = λ k lt. spared_slot (slot_at pack.base i half + k) (omega arith) (apart_slots pack.base i half ino made.half k lt low s.low (inr apart));
            tables = λ x k lt in_table.
                let below : x < tables_of (pages_of o.0.slot.size) = subst (λ (m : ℕ). x < tables_of (pages_of m)) e lt in
                subst (λ (q : ℕ). touches pieces (table_at pack.base q + k) ≡ false) (sym (t.tables x (omega arith))) (spared_table (get_or o.0.slot.tables x 0) k (c.slot.tables.inside x below) in_table (table_named pack.copies i x o.0 s.are o.1 below));
            pages = λ n k lt in_page.
                let below : n < pages_of o.0.slot.size = subst (λ (m : ℕ). n < pages_of m) e lt in
                subst (λ (p : ℕ). touches pieces (page_at pack.base p + k) ≡ false) (sym (copy_numbers i half o.0 low high o.1 o.3 n below)) (spared_named (get_or (numbers_in o.0) n 0) k in_page (page_named pack.copies i n o.0 s.are o.1 below));
          };
      few = (let e = size_before in let small = s.slot.size in omega arith);
      next = λ is.
          let p = half_most made.half in
          let o = open_copy ino (other_half made.half) s.low s.high is in
          let t = copy_says ino (other_half made.half) o.0 o.1 o.3 in
          let c = copy_is pack.copies ino o.0 s.are o.1 in
          let small = c.slot.turn in
          let e = t.turn in
          (omega arith, turn_before ∙ s.turn ∙ ap next_turn o.1 ∙ ap (λ (n : ℕ). (n + 1) % 3) (sym e));
    }

    -- the data pages are those that the pieces leave
    gate_spares : (p k : ℕ) → get_or new (page_at pack.base p + k) 0 ≡ get_or (written old pieces) (page_at pack.base p + k) 0
    gate_spares p k = let high = s.high in let low = s.low in let q = half_most made.half in gate_torn.outside (page_at pack.base p + k) (is_outside gate 1 (page_at pack.base p + k) (inr (omega arith)))

    -- a page that is named stays
    pub kept_byte : (p k : ℕ) → k < page_bytes → 1 ≤ times p (named_pages pack.copies) → get_or new (page_at pack.base p + k) 0 ≡ get_or old (page_at pack.base p + k) 0
    kept_byte p k lt named = gate_spares p k ∙ (torn_written pieces old may_replace.within).outside (page_at pack.base p + k) (spared_named p k lt named)

    -- a changed one has its new bytes
    pub changed_byte : (i k : ℕ) (page : List ℕ) → i < pages_of w.size → shadow_page w.pages i ≡ Some page → k < page_bytes → get_or new (page_at pack.base (get_or (numbers_in made) i 0) + k) 0 ≡ get_or page k 0
    changed_byte i k page lt is small =
        let at = page_at pack.base (get_or (numbers_in made) i 0) + k in
        let high = s.high in let low = s.low in let q = half_most made.half in let long = long_body in
        gate_spares (get_or (numbers_in made) i 0) k
        ∙ ap (λ (l : List ℕ). get_or l at 0) whole_is
        ∙ put_outside body.at before body.bytes at body_fits (is_outside body.at (length body.bytes) at (inr (omega arith)))
        ∙ ap (λ (l : List ℕ). get_or l at 0) blocks_are
        ∙ beside_tables pack.base made s.names.count ks (written old pages) at (let area = shows.area in let p = long_pages in omega arith) are_tables (behind_tables at (omega arith))
        ∙ written_page pack.base (numbers_in made) w count s.whole inside old shows.area names.distinct count i k page (omega arith) lt is small

    pub new_area : pack.base + area_length ≤ length new
    new_area = let long = long_new in let area = shows.area in omega arith

    -- a byte outside the slot's gate and what stands behind it is that which the pages and the tables leave
    block_byte : (at : ℕ) → is_within gate 1 at ≡ false → is_within (gate + 1) 511 at ≡ false → get_or new at 0 ≡ get_or (written (written old pages) tables) at 0
    block_byte at out beside =
        gate_torn.outside at out ∙ ap (λ (l : List ℕ). get_or l at 0) whole_is
        ∙ put_outside body.at before body.bytes at body_fits (subst (λ (n : ℕ). is_within (gate + 1) n at ≡ false) (sym long_body) beside)
        ∙ ap (λ (l : List ℕ). get_or l at 0) blocks_are

    -- a table that is written has its bytes
    table_byte : (k j : ℕ) → k < tables_of (pages_of w.size) → is_table_over (copy_of pack.copies ino) w k ≡ true → j < 1024
        → get_or new (table_at pack.base (get_or made.slot.tables k 0) + j) 0 ≡ get_or (table_bytes (numbers_under (numbers_in made) k)) j 0
    table_byte k j lt is small =
        let at = table_at pack.base (get_or made.slot.tables k 0) + j in
        let high = s.high in let low = s.low in let q = half_most made.half in let few = few_tables in
        let below : k < content_tables_max = omega arith in
        block_byte at (is_outside gate 1 at (inr (omega arith))) (is_outside (gate + 1) 511 at (inr (omega arith)))
        ∙ placed_table pack.base made s.names.count k j below small ks (written old pages) (let area = shows.area in let p = long_pages in omega arith) are_tables
        (λ i d less.
        let m = get_or (tables_over (copy_of pack.copies ino) w) i d in
        let over = over_are (copy_of pack.copies ino) w i d less in
        ⊎_elim
        (λ (e : m ≡ k). inl e)
        (λ (ne : m ≢ k). inr (apart_tables (get_or made.slot.tables k 0) (get_or made.slot.tables m 0) j small (other_table k m lt over.0 ne)))
        (cases_eq m k))
        (inr (over_has (copy_of pack.copies ino) w k below is))
      where
        other_table : (x y : ℕ) → x < tables_of (pages_of w.size) → y < tables_of (pages_of w.size) → y ≢ x → get_or made.slot.tables x 0 ≢ get_or made.slot.tables y 0
        other_table x y low high ne e = ⊎_elim
            (λ (less : x < y). s.slot.tables.distinct x y less (subst (λ (n : ℕ). y < tables_of (pages_of n)) (sym s.size) high) e)
            (λ (ge : y ≤ x). s.slot.tables.distinct y x (omega arith) (subst (λ (n : ℕ). x < tables_of (pages_of n)) (sym s.size) low) (sym e))
            (cases_lt x y)

    -- the new slot has its tables: those that are written, and those that stay with the same numbers
    pub new_tables : HoldsTables new pack.base made.slot (numbers_in made)
    new_tables k less =
        let lt : k < tables_of (pages_of w.size) = subst (λ (n : ℕ). k < tables_of (pages_of n)) s.size less in
        let at = table_at pack.base (get_or made.slot.tables k 0) in
        let few = few_tables in
        let below : k < content_tables_max = omega arith in
        ⊎_elim
        (λ (is : is_table_over (copy_of pack.copies ino) w k ≡ true).
        let long = table_long pack.base made s.names.count k below in
        let all = long_new in
        let area = shows.area in
        let number = s.slot.tables.inside k less in
        ap (λ (n : ℕ). bytes_at new at n) (sym long)
        ∙ bytes_are new (table_bytes (numbers_under (numbers_in made) k)) at (omega arith) (λ j small. table_byte k j lt is (omega arith)))
        (λ (no : is_table_over (copy_of pack.copies ino) w k ≡ false).
        let o = kept_table (copy_of pack.copies ino) w k lt no in
        let c = copy_is pack.copies ino o.copy s.are o.held in
        let e : get_or made.slot.tables k 0 ≡ get_or o.copy.slot.tables k 0 = s.tables.stays k lt no ∙ ap (λ (x : Option InodeCopy). table_in x k) o.held in
        let there = table_at pack.base (get_or o.copy.slot.tables k 0) in
        ap (λ (n : ℕ). bytes_at new (table_at pack.base n) 1024) e
        ∙ same_bytes old new there 1024 long_new (λ j small. kept_table_byte (get_or o.copy.slot.tables k 0) j small (c.slot.tables.inside k o.inside) (table_named pack.copies ino k o.copy s.are o.held o.inside))
        ∙ shown_tables ino o.copy s.low s.high o.held k o.inside
        ∙ ap table_bytes (same_under k (pages_of o.copy.slot.size) (pages_of w.size) (numbers_in o.copy) (numbers_in made) below o.under c.pages.count s.names.count
        (λ i old_page new_page under. sym (s.takes.stays i new_page (o.unchanged i new_page under) ∙ ap (λ (x : Option InodeCopy). number_in x i) o.held))
        c.pages.rest names.rest))
        (cases_Bool (is_table_over (copy_of pack.copies ino) w k))
      where
        kept_table_byte : (t j : ℕ) → j < 1024 → t < pack_tables → 1 ≤ times t (named_tables pack.copies) → get_or new (table_at pack.base t + j) 0 ≡ get_or old (table_at pack.base t + j) 0
        kept_table_byte t j small few named =
            let high = s.high in let low = s.low in let q = half_most made.half in
            gate_torn.outside (table_at pack.base t + j) (is_outside gate 1 (table_at pack.base t + j) (inr (omega arith)))
            ∙ (torn_written pieces old may_replace.within).outside (table_at pack.base t + j) (spared_table t j few small named)

    -- so the view reads the page numbers of the new copy
    pub new_numbers : (n : ℕ) → n < pages_of made.slot.size → page new pack.base gate n ≡ get_or (numbers_in made) n 0
    new_numbers = number_read new pack.base gate made.slot (numbers_in made) s.slot new_says new_tables s.names (first_numbers made s.slot)
