-- The page numbers that stand in the tables of a slot.
use Rattle.std.proofs.Common.{◌≡◌, ◌≢◌, ℕ, ◌+◌, ◌-◌, ◌*◌, ◌%◌, ◌^◌, ◌≤◌, ◌<◌, List, [], ◌++◌, length, take, take_all, drop, min, get_or, replicate, sym, ◌∙◌, ap, subst, arith, ⊎_elim, length-take, length-drop, append_assoc}
use Rattle.std.proofs.lemmas.Bool.{cases_lt}
use Rattle.std.proofs.lemmas.List.{take-append-le, get_or_append_left, get_or-append_right, get_or-take, get_or-drop, get_or-replicate, length-replicate, take-take, take-append-drop, drop-take, drop-drop, ext_get_or}
use Rattle.std.proofs.lemmas.Slice.{take-put_mid, take-put_mid_below, drop-put_mid}
use Rattle.std.proofs.Math.Seq.{drop-append_seam}
use borrow.Rule.Slice.PartMut.{put_mid, same_len_mid}
use Rattle.locus_ids.specs.Sizes.{page_bytes, content_pages_max, slot_pages, table_pages, content_tables_max, pack_pages}
use Rattle.disk_model.specs.Images.{bytes_at}
use Rattle.pack_layout.specs.declared.slot.Slot.{Slot}
use Rattle.pack_layout.specs.of_file_content.Pages.{pages_of, table_of, tables_of}
use Rattle.pack_layout.specs.Layout.{table_at, table_bytes, numbers_of, numbers_under, NameApart, NamePages, IsSlot, none}
use Rattle.inode_switch.specs.Slots.{HoldsTables}
use Rattle.inode_switch.proofs.TableBytes.{table_number}
use Rattle.pack_slots.specs.Slots.{HasMore}
use Rattle.pack_slots.proofs.Numbers.{few_named, rest_of}

-- numbers with the same bytes are the same
same_number : (xs ys : List ℕ) (i : ℕ) → i < length xs → i < length ys → get_or xs i 0 < 2 ^ 16 → get_or ys i 0 < 2 ^ 16 → table_bytes xs ≡ table_bytes ys → get_or xs i 0 ≡ get_or ys i 0
same_number xs ys i one two fits also same =
    sym (table_number xs i one fits) ∙ ap (λ (b : List ℕ). get_or b (2 * i) 0 * 256 + get_or b (2 * i + 1) 0) same ∙ table_number ys i two also

-- the number of a page under its table
at_table : (xs : List ℕ) (i : ℕ) → slot_pages ≤ i → get_or (numbers_under xs (table_of i)) ((i - slot_pages) % table_pages) 0 ≡ get_or xs i 0
at_table xs i above =
    let t = table_of i in
    let r = (i - slot_pages) % table_pages in
    let here : slot_pages + table_pages * table_of i + (i - slot_pages) % table_pages ≡ i = omega (arith, above) in
    get_or-take table_pages (drop (slot_pages + table_pages * t) xs) r 0 (omega arith) ∙ get_or-drop (slot_pages + table_pages * t) xs r 0 ∙ ap (λ (m : ℕ). get_or xs m 0) here

long_under : (xs : List ℕ) (table : ℕ) → length xs ≡ content_pages_max → table < content_tables_max → length (numbers_under xs table) ≡ table_pages
long_under xs table count lt = omega (arith, length-take table_pages (drop (slot_pages + table_pages * table) xs), length-drop (slot_pages + table_pages * table) xs, count, lt)

small : (n : ℕ) (numbers : List ℕ) → NamePages n numbers → (i : ℕ) → i < content_pages_max → get_or numbers i 0 < 2 ^ 16
small n numbers names i lt = ⊎_elim
    (λ (below : i < n). omega (arith, names.inside i below))
    (λ (above : n ≤ i). omega (arith, names.rest i above lt))
    (cases_lt i n)

pub drop_further : (a b : ℕ) (xs ys : List ℕ) → a ≤ b → drop a xs ≡ drop a ys → drop b xs ≡ drop b ys
drop_further a b xs ys le same =
    let e : a + (b - a) ≡ b = omega (arith, le) in
    ap (λ (n : ℕ). drop n xs) (sym e) ∙ sym (drop-drop (b - a) a xs) ∙ ap (drop (b - a)) same ∙ drop-drop (b - a) a ys ∙ ap (λ (n : ℕ). drop n ys) e

-- the numbers with one table more
module _ (k w : ℕ) (numbers part : List ℕ) where
  abbrev place : ℕ
  place = slot_pages + table_pages * k

  abbrev pub with_table : List ℕ
  with_table = put_mid (slot_pages + table_pages * k) w numbers part

  module _ (few : k < content_tables_max) (wide : w ≡ table_pages) (count : length numbers ≡ content_pages_max) (long : length part ≡ table_pages) where
    pub long_with : length with_table ≡ content_pages_max
    long_with = same_len_mid place w numbers part (omega (arith, length-take w (drop place numbers), length-drop place numbers, few, wide, count, long)) ∙ count

    pub first_with : take slot_pages with_table ≡ take slot_pages numbers
    first_with = take-put_mid_below place w numbers part slot_pages (omega arith) (omega (arith, few, count))

    pub under_before : (table : ℕ) → table < k → numbers_under with_table table ≡ numbers_under numbers table
    under_before table lt =
        let m = slot_pages + table_pages * table in
        sym (drop-take m table_pages with_table) ∙ ap (drop m) (take-put_mid_below place w numbers part (m + table_pages) (omega (arith, lt)) (omega (arith, few, count))) ∙ drop-take m table_pages numbers

    pub under_here : numbers_under with_table k ≡ part
    under_here =
        let start : length (take place numbers) ≡ place = omega (arith, length-take place numbers, few, count) in
        sym (drop-take place table_pages with_table) ∙ ap (drop place) (take-put_mid place w numbers part (place + table_pages) (omega (arith, long)) (omega (arith, few, count)))
        ∙ ap (λ (n : ℕ). drop n (take place numbers ++ part)) (sym start) ∙ drop-append_seam (take place numbers) part

    pub rest_with : drop (slot_pages + table_pages * (k + 1)) with_table ≡ drop (slot_pages + table_pages * (k + 1)) numbers
    rest_with = drop-put_mid place w numbers part (slot_pages + table_pages * (k + 1)) (omega (arith, wide)) (omega (arith, few, count)) (long ∙ sym wide)

-- a slot that names all pages of its content has nothing in tables
pub no_more : (base : ℕ) (image : List ℕ) (slot : Slot) → IsSlot slot → pages_of slot.size ≤ slot_pages → HasMore base slot [] image
no_more base image slot is few =
    let all : min (pages_of slot.size) slot_pages ≡ pages_of slot.size = omega (arith, few) in
    record {
      tables = λ k lt. absurd (omega (arith, lt, few));
      pages = few_named (pages_of slot.size) slot.pages few (subst (λ (n : ℕ). NameApart slot_pages pack_pages n slot.pages) all is.pages);
    }

-- the tables that are read are those of the slot
pub tables_read : (base : ℕ) (image : List ℕ) (slot : Slot) (numbers : List ℕ) → IsSlot slot
    → ((k : ℕ) → k < length (take (tables_of (pages_of slot.size)) slot.tables) → bytes_at image (table_at base (get_or (take (tables_of (pages_of slot.size)) slot.tables) k 0)) page_bytes ≡ table_bytes (numbers_under numbers k)) → HoldsTables image base slot numbers
tables_read base image slot numbers is read k lt =
    let n = tables_of (pages_of slot.size) in
    let size = is.size in
    ap (λ (t : ℕ). bytes_at image (table_at base t) page_bytes) (sym (get_or-take n slot.tables k 0 lt)) ∙ read k (omega (arith, lt, length-take n slot.tables, is.tables.count, size))

-- before a table is read there is nothing behind the numbers of the slot
module _ (numbers first pages : List ℕ) (is : first ≡ pages) (long : length pages ≡ slot_pages) where
  abbrev pub begun : List ℕ
  begun = first ++ drop slot_pages (replicate content_pages_max none)

  begins : length first ≡ slot_pages
  begins = ap length is ∙ long

  pub first_read : take slot_pages numbers ≡ take slot_pages begun → take slot_pages numbers ≡ pages
  first_read same =
      let le : slot_pages ≤ length first = omega (arith, begins) in
      let all : length first ≤ slot_pages = omega (arith, begins) in
      same ∙ take-append-le slot_pages first (drop slot_pages (replicate content_pages_max none)) le ∙ take_all slot_pages first all ∙ is

  pub none_read : (m : ℕ) → drop m numbers ≡ drop m begun → (i : ℕ) → slot_pages ≤ i → m ≤ i → i < content_pages_max → get_or numbers i 0 ≡ none
  none_read m same i above le lt =
      let e : m + (i - m) ≡ i = omega (arith, le) in
      let f : slot_pages + (i - slot_pages) ≡ i = omega (arith, above) in
      let rest = replicate content_pages_max none in
      ap (λ (k : ℕ). get_or numbers k 0) (sym e) ∙ sym (get_or-drop m numbers (i - m) 0) ∙ ap (λ (l : List ℕ). get_or l (i - m) 0) same ∙ get_or-drop m begun (i - m) 0 ∙ ap (λ (k : ℕ). get_or begun k 0) e
      ∙ get_or-append_right first (drop slot_pages rest) slot_pages i 0 begins above ∙ get_or-drop slot_pages rest (i - slot_pages) 0 ∙ ap (λ (k : ℕ). get_or rest k 0) f ∙ get_or-replicate content_pages_max i none 0 lt

-- numbers as they were read: those of a slot, behind them those of its tables, and none behind these
module _ (base : ℕ) (image : List ℕ) (slot : Slot) (numbers : List ℕ) (is : IsSlot slot) (long : length numbers ≡ content_pages_max) (first : take slot_pages numbers ≡ slot.pages) (fits : (i : ℕ) → get_or numbers i 0 < 2 ^ 16)
    (read : HoldsTables image base slot numbers) (rest : (i : ℕ) → slot_pages + table_pages * tables_of (pages_of slot.size) ≤ i → i < content_pages_max → get_or numbers i 0 ≡ none) where
  abbrev pages : ℕ
  pages = pages_of slot.size

  -- they are what any numbers are that the tables have
  module _ (more : List ℕ) (has : HasMore base slot more image) where
    abbrev all : List ℕ
    all = numbers_of slot.pages more

    under : (i : ℕ) → slot_pages ≤ i → i < slot_pages + table_pages * tables_of (pages_of slot.size) → i < content_pages_max → get_or numbers i 0 ≡ get_or all i 0
    under i above below lt =
        let t = table_of i in
        let inside : table_of i < tables_of (pages_of slot.size) = omega (arith, above, below) in
        let few : table_of i < content_tables_max = omega (arith, above, lt) in
        let r = (i - slot_pages) % table_pages in
        let one = at_table numbers i above in
        let two = at_table all i above in
        sym one
        ∙ same_number (numbers_under numbers t) (numbers_under all t) r (omega (arith, long_under numbers t long few)) (omega (arith, long_under all t has.pages.count few))
        (subst (λ (n : ℕ). n < 2 ^ 16) (sym one) (fits i)) (subst (λ (n : ℕ). n < 2 ^ 16) (sym two) (small pages all has.pages i lt)) (sym (read t inside) ∙ has.tables t inside)
        ∙ two

    same_numbers : (i : ℕ) → i < content_pages_max → get_or numbers i 0 ≡ get_or all i 0
    same_numbers i lt = ⊎_elim
        (λ (near : i < slot_pages).
        sym (get_or-take slot_pages numbers i 0 near) ∙ ap (λ (l : List ℕ). get_or l i 0) first ∙ sym (get_or_append_left slot.pages (more ++ rest_of more) 0 i (omega (arith, is.pages.count, near))))
        (λ (far : slot_pages ≤ i). ⊎_elim
        (λ (below : i < slot_pages + table_pages * tables_of (pages_of slot.size)). under i far below lt)
        (λ (beyond : slot_pages + table_pages * tables_of (pages_of slot.size) ≤ i). rest i beyond lt ∙ sym (has.pages.rest i (omega (arith, beyond)) lt))
        (cases_lt i (slot_pages + table_pages * tables_of (pages_of slot.size))))
        (cases_lt i slot_pages)

  abbrev pub AreApart : Type 0
  AreApart = ((i : ℕ) → i < pages → get_or numbers i 0 < pack_pages) × ((i j : ℕ) → i < j → j < pages → get_or numbers i 0 ≢ get_or numbers j 0)

  abbrev pub AreNone : Type 0
  AreNone = (i : ℕ) → pages ≤ i → i < length numbers → get_or numbers i 0 ≡ none

  -- so the tables have none where these aren't different pages
  pub bad_apart : (AreApart → ⊥) → (more : List ℕ) → HasMore base slot more image → ⊥
  bad_apart never more has =
      let size = is.size in
      let same = same_numbers more has in
      never (
        λ i lt. subst (λ (n : ℕ). n < pack_pages) (sym (same i (omega (arith, size, lt)))) (has.pages.inside i lt),
        λ i j lt below e. has.pages.distinct i j lt below (sym (same i (omega (arith, size, lt, below))) ∙ e ∙ same j (omega (arith, size, below))),
      )

  pub bad_rest : (AreNone → ⊥) → (more : List ℕ) → HasMore base slot more image → ⊥
  bad_rest never more has = never (λ i le lt. same_numbers more has i (omega (arith, lt, long)) ∙ has.pages.rest i le (omega (arith, lt, long)))

  -- and else these
  pub has_more : slot_pages ≤ pages → AreApart → AreNone → HasMore base slot (drop slot_pages (take pages numbers)) image
  has_more many apart nothing =
      let size = is.size in
      let more = drop slot_pages (take pages numbers) in
      let count : length more ≡ pages - slot_pages = omega (arith, length-drop slot_pages (take pages numbers), length-take pages numbers, long, size) in
      let begin : slot.pages ++ more ≡ take pages numbers = ap (λ (l : List ℕ). l ++ more) (sym (take-take slot_pages pages numbers many ∙ first)) ∙ take-append-drop slot_pages (take pages numbers) in
      let m = content_tables_max * table_pages - length more in
      let behind : rest_of more ≡ drop pages numbers = ext_get_or 0 (rest_of more) (drop pages numbers) (omega (arith, length-replicate m none, length-drop pages numbers, long, count, size, many))
      (λ i lt. let fewer : i < m = omega (arith, lt, length-replicate m none) in
      get_or-replicate m i none 0 fewer ∙ sym (nothing (pages + i) (omega arith) (omega (arith, fewer, count, long, size, many))) ∙ sym (get_or-drop pages numbers i 0)) in
      let whole : numbers_of slot.pages more ≡ numbers = sym (append_assoc slot.pages more (rest_of more)) ∙ (λ j. begin j ++ behind j) ∙ take-append-drop pages numbers in
      record {
        tables = subst (λ (l : List ℕ). HoldsTables image base slot l) (sym whole) read;
        pages = subst (λ (l : List ℕ). NamePages (pages_of slot.size) l) (sym whole) (record { count = long; inside = apart.0; distinct = apart.1; rest = λ i le lt. nothing i le (omega (arith, lt, long)) });
      }
