-- What the view reads where the bytes of a slot stand.
use Rattle.std.proofs.Common.{◌≡◌, ℕ, zero, suc, ◌+◌, ◌-◌, ◌*◌, ◌^◌, ◌≤◌, ◌<◌, List, [], ◌∷◌, ◌++◌, length, drop, get_or, min, replicate, refl, inl, inr, sym, ◌∙◌, ap, arith}
use Rattle.std.specs.Prelude.{◌==◌}
use Rattle.std.specs.List.{flat_map}
use Rattle.std.specs.Int.{w16, w32, to_be_bytes, byte_at}
use Rattle.std.proofs.lemmas.List.{get_or-take, get_or-drop, get_or-append_right}
use Rattle.std.proofs.lemmas.Bool.{cases_lt}
use Rattle.locus_ids.specs.Sizes.{slot_pages, content_tables_max, pack_pages, pack_tables}
use Rattle.pack_layout.specs.declared.slot.Slot.{Slot}
use Rattle.pack_layout.specs.of_file_content.Pages.{pages_of, tables_of}
use Rattle.pack_layout.specs.Layout.{layout, kind_number, slot_bytes, IsSlot, NameApart}
use Rattle.pack_layout.specs.SlotFields.{number, fields_in}
use Rattle.pack_layout.proofs.SlotFields.{two_bytes, four_bytes, fields_back}
use Rattle.inode_switch.specs.View.{size, table}
use Rattle.inode_switch.specs.Slots.{Holds, Says}

length-counters : (xs : List ℕ) → length (flat_map (to_be_bytes w32) xs) ≡ 4 * length xs
length-counters [] = refl
length-counters (x ∷ xs) = let more = length-counters xs in omega arith

pub length-numbers : (xs : List ℕ) → length (flat_map (to_be_bytes w16) xs) ≡ 2 * length xs
length-numbers [] = refl
length-numbers (x ∷ xs) = let more = length-numbers xs in omega arith

-- the two bytes of a number in a row of them
pub high_byte : (xs rest : List ℕ) (i : ℕ) → i < length xs → get_or (flat_map (to_be_bytes w16) xs ++ rest) (2 * i) 0 ≡ byte_at 1 (get_or xs i 0)
high_byte [] rest i lt = absurd (omega arith)
high_byte (x ∷ xs) rest zero lt = refl
high_byte (x ∷ xs) rest (suc i) lt =
    let e : 2 * suc i ≡ suc (suc (2 * i)) = omega arith in
    ap (λ (n : ℕ). get_or (flat_map (to_be_bytes w16) (x ∷ xs) ++ rest) n 0) e ∙ high_byte xs rest i (omega arith)

pub low_byte : (xs rest : List ℕ) (i : ℕ) → i < length xs → get_or (flat_map (to_be_bytes w16) xs ++ rest) (2 * i + 1) 0 ≡ byte_at 0 (get_or xs i 0)
low_byte [] rest i lt = absurd (omega arith)
low_byte (x ∷ xs) rest zero lt = refl
low_byte (x ∷ xs) rest (suc i) lt =
    let e : 2 * suc i + 1 ≡ suc (suc (2 * i + 1)) = omega arith in
    ap (λ (n : ℕ). get_or (flat_map (to_be_bytes w16) (x ∷ xs) ++ rest) n 0) e ∙ low_byte xs rest i (omega arith)

-- the first 16 bytes of a slot; the counters, the page numbers and zeros stand behind them
abbrev front : Slot → List ℕ
front s = 165 ∷ s.turn ∷ kind_number s.kind ∷ (to_be_bytes w16 s.ino ++ (to_be_bytes w16 s.set.0 ++ (to_be_bytes w32 s.size ++ (s.stamp.site ∷ to_be_bytes w32 s.stamp.n))))

abbrev counters : Slot → List ℕ
counters s = flat_map (to_be_bytes w32) s.vector

abbrev tables : Slot → List ℕ
tables s = flat_map (to_be_bytes w16) s.tables ++ replicate layout.rest_length 0

abbrev numbers : Slot → List ℕ
numbers s = flat_map (to_be_bytes w16) s.pages ++ tables s

length-of_counters : (s : Slot) → IsSlot s → length (counters s) ≡ 64
length-of_counters s is = let c = is.vector.count in let e = length-counters s.vector in omega arith

-- a byte of a page number
number_byte : (s : Slot) (i k : ℕ) → IsSlot s → k ≤ 1 → get_or (slot_bytes s) (80 + 2 * i + k) 0 ≡ get_or (numbers s) (2 * i + k) 0
number_byte s i k is le =
    get_or-append_right (front s) (counters s ++ numbers s) 16 (80 + 2 * i + k) 0 refl (omega arith)
    ∙ get_or-append_right (counters s) (numbers s) 64 (80 + 2 * i + k - 16) 0 (length-of_counters s is) (omega arith)
    ∙ ap (λ (n : ℕ). get_or (numbers s) n 0) (let e : 80 + 2 * i + k - 16 - 64 ≡ 2 * i + k = omega arith in e)

number_fits : (most limit n i : ℕ) (pages : List ℕ) → limit ≤ 65536 → NameApart most limit n pages → i < most → get_or pages i 0 < 2 ^ 16
number_fits most limit n i pages low p lt = elim (cases_lt i n) [
  | inl few ↦ omega (arith, low, p.inside i few)
  | inr le ↦ omega (arith, p.rest i le lt)
]

module _ (image : List ℕ) (at : ℕ) (s : Slot) (holds : Holds image at s) (is : IsSlot s) where
  byte_of : (k : ℕ) → k < layout.slot_length → get_or image (at + k) 0 ≡ get_or (slot_bytes s) k 0
  byte_of k lt = sym (get_or-drop at image k 0) ∙ sym (get_or-take layout.slot_length (drop at image) k 0 lt) ∙ ap (λ (l : List ℕ). get_or l k 0) holds

  -- a number that stands there
  pair_is : (k : ℕ) (n : ℕ) → k + 1 < layout.slot_length → get_or (slot_bytes s) k 0 ≡ byte_at 1 n → get_or (slot_bytes s) (k + 1) 0 ≡ byte_at 0 n → n < 2 ^ 16 → number image (at + k) ≡ n
  pair_is k n lt high low fits =
      let e : at + (k + 1) ≡ at + k + 1 = omega arith in
      let h = byte_of k (omega arith) ∙ high in
      let l = ap (λ (m : ℕ). get_or image m 0) (sym e) ∙ byte_of (k + 1) lt ∙ low in
      (λ j. h j * 256 + l j) ∙ two_bytes n fits

  page_is : (i : ℕ) → i < slot_pages → number image (at + 80 + 2 * i) ≡ get_or s.pages i 0
  page_is i lt =
      let few = is.pages.count in
      let e : at + (80 + 2 * i) ≡ at + 80 + 2 * i = omega arith in
      let f : 80 + 2 * i + 0 ≡ 80 + 2 * i = omega arith in
      let n : 2 * i + 0 ≡ 2 * i = omega arith in
      let high = ap (λ (k : ℕ). get_or (slot_bytes s) k 0) (sym f) ∙ number_byte s i 0 is (omega arith) ∙ ap (λ (k : ℕ). get_or (numbers s) k 0) n ∙ high_byte s.pages (tables s) i (omega arith) in
      let low = number_byte s i 1 is (omega arith) ∙ low_byte s.pages (tables s) i (omega arith) in
      ap (λ (m : ℕ). number image m) (sym e) ∙ pair_is (80 + 2 * i) (get_or s.pages i 0) (omega arith) high low (number_fits slot_pages pack_pages (min (pages_of s.size) slot_pages) i s.pages (omega arith) is.pages lt)

  -- a byte of the number of a table
  table_byte : (k j : ℕ) → k < content_tables_max → j ≤ 1 → get_or (slot_bytes s) (200 + 2 * k + j) 0 ≡ get_or (tables s) (2 * k + j) 0
  table_byte k j lt le =
      let e : 200 + 2 * k + j ≡ 80 + 2 * (60 + k) + j = omega arith in
      let f : 2 * (60 + k) + j - 120 ≡ 2 * k + j = omega arith in
      let few = is.pages.count in
      let long = length-numbers s.pages in
      ap (λ (m : ℕ). get_or (slot_bytes s) m 0) e ∙ number_byte s (60 + k) j is le
      ∙ get_or-append_right (flat_map (to_be_bytes w16) s.pages) (tables s) 120 (2 * (60 + k) + j) 0 (omega (arith, few, long)) (omega arith)
      ∙ ap (λ (m : ℕ). get_or (tables s) m 0) f

  table_is : (k : ℕ) → k < content_tables_max → table image at k ≡ get_or s.tables k 0
  table_is k lt =
      let few = is.tables.count in
      let e : at + (200 + 2 * k) ≡ at + 200 + 2 * k = omega arith in
      let f : 200 + 2 * k + 0 ≡ 200 + 2 * k = omega arith in
      let n : 2 * k + 0 ≡ 2 * k = omega arith in
      let high = ap (λ (m : ℕ). get_or (slot_bytes s) m 0) (sym f) ∙ table_byte k 0 lt (omega arith) ∙ ap (λ (m : ℕ). get_or (tables s) m 0) n ∙ high_byte s.tables (replicate layout.rest_length 0) k (omega (arith, few)) in
      let low = table_byte k 1 lt (omega arith) ∙ low_byte s.tables (replicate layout.rest_length 0) k (omega (arith, few)) in
      ap (λ (m : ℕ). number image m) (sym e) ∙ pair_is (200 + 2 * k) (get_or s.tables k 0) (omega arith) high low (number_fits content_tables_max pack_tables (tables_of (pages_of s.size)) k s.tables (omega arith) is.tables lt)

  -- a byte behind another
  byte_behind : (k j : ℕ) → k + j < layout.slot_length → get_or image (at + k + j) 0 ≡ get_or (slot_bytes s) (k + j) 0
  byte_behind k j lt = let e : at + k + j ≡ at + (k + j) = omega arith in ap (λ (m : ℕ). get_or image m 0) e ∙ byte_of (k + j) lt

  size_is : size image at ≡ s.size
  size_is =
      let first = byte_of 7 (omega arith) in
      let second = byte_behind 7 1 (omega arith) in
      let third = byte_behind 7 2 (omega arith) in
      let fourth = byte_behind 7 3 (omega arith) in
      (λ j. ((first j * 256 + second j) * 256 + third j) * 256 + fourth j) ∙ four_bytes s.size (omega (arith, is.size))

  -- where the bytes of a slot stand, the view reads that slot
  pub says : Says image at s
  says = record {
    open_gate = ap (λ (n : ℕ). n == 165) (ap (λ (k : ℕ). get_or image k 0) (let e : at ≡ at + 0 = omega arith in e) ∙ byte_of 0 (omega arith));
    turn = byte_of 1 (omega arith);
    size = size_is;
    fields = ap fields_in holds ∙ fields_back s is;
    pages = page_is;
    tables = table_is;
  }
