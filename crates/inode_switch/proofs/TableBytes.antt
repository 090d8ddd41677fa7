-- What the view reads where the bytes of a slot and of its tables stand.
use Rattle.std.proofs.Common.{◌≡◌, ℕ, ◌+◌, ◌-◌, ◌*◌, ◌%◌, ◌^◌, ◌≤◌, ◌<◌, List, [], ◌++◌, length, drop, get_or, sym, ◌∙◌, ap, subst, arith, ⊎_elim, length-take, length-drop}
use Rattle.std.specs.List.{flat_map}
use Rattle.std.specs.Int.{w16, to_be_bytes}
use Rattle.std.proofs.lemmas.Bool.{cases_lt}
use Rattle.std.proofs.lemmas.List.{get_or-take, get_or-drop, append-nil}
use Rattle.locus_ids.specs.Sizes.{slot_pages, table_pages, content_tables_max}
use Rattle.pack_layout.specs.declared.slot.Slot.{Slot}
use Rattle.pack_layout.specs.of_file_content.Pages.{pages_of, table_of, tables_of}
use Rattle.pack_layout.specs.Layout.{table_at, table_bytes, numbers_under, NamePages, IsSlot}
use Rattle.pack_layout.specs.SlotFields.{number}
use Rattle.inode_switch.specs.View.{page}
use Rattle.inode_switch.specs.Slots.{Says, HoldsTables}
use Rattle.pack_layout.proofs.SlotFields.{two_bytes}
use Rattle.inode_switch.proofs.Views.{in_slot, in_table}
use Rattle.inode_switch.proofs.SlotBytes.{high_byte, low_byte}

-- a number in the bytes of a table
pub table_number : (xs : List ℕ) (i : ℕ) → i < length xs → get_or xs i 0 < 2 ^ 16 → get_or (table_bytes xs) (2 * i) 0 * 256 + get_or (table_bytes xs) (2 * i + 1) 0 ≡ get_or xs i 0
table_number xs i lt fits =
    let whole : flat_map (to_be_bytes w16) xs ++ [] ≡ flat_map (to_be_bytes w16) xs = append-nil (flat_map (to_be_bytes w16) xs) in
    let high = ap (λ (b : List ℕ). get_or b (2 * i) 0) (sym whole) ∙ high_byte xs [] i lt in
    let low = ap (λ (b : List ℕ). get_or b (2 * i + 1) 0) (sym whole) ∙ low_byte xs [] i lt in
    (λ j. high j * 256 + low j) ∙ two_bytes (get_or xs i 0) fits

module _ (image : List ℕ) (base at : ℕ) (s : Slot) (numbers : List ℕ) (is : IsSlot s) (says : Says image at s) (holds : HoldsTables image base s numbers)
    (names : NamePages (pages_of s.size) numbers) (first : (i : ℕ) → i < slot_pages → get_or numbers i 0 ≡ get_or s.pages i 0) where
  under : (i : ℕ) → i < pages_of s.size → slot_pages ≤ i → page image base at i ≡ get_or numbers i 0
  under i lt above =
      let t = table_of i in
      let r = (i - slot_pages) % table_pages in
      let small = is.size in
      let few : table_of i < content_tables_max = omega (arith, small, lt) in
      let inside : table_of i < tables_of (pages_of s.size) = omega (arith, lt, above) in
      let xs = numbers_under numbers t in
      let place = table_at base (get_or s.tables t 0) in
      let count = names.count in
      let here : slot_pages + table_pages * table_of i + (i - slot_pages) % table_pages ≡ i = omega (arith, above) in
      let long : (i - slot_pages) % table_pages < length xs = omega (arith, length-take table_pages (drop (slot_pages + table_pages * t) numbers), length-drop (slot_pages + table_pages * t) numbers, count, small, lt, above) in
      let value : get_or xs r 0 ≡ get_or numbers i 0 = get_or-take table_pages (drop (slot_pages + table_pages * t) numbers) r 0 (omega arith) ∙ get_or-drop (slot_pages + table_pages * t) numbers r 0 ∙ ap (λ (m : ℕ). get_or numbers m 0) here in
      let fits : get_or xs r 0 < 2 ^ 16 = subst (λ (n : ℕ). n < 2 ^ 16) (sym value) (omega (arith, names.inside i lt)) in
      let byte : (k : ℕ) → k < 1024 → get_or image (place + k) 0 ≡ get_or (table_bytes xs) k 0 = λ k below. sym (get_or-drop place image k 0) ∙ sym (get_or-take 1024 (drop place image) k 0 below) ∙ ap (λ (l : List ℕ). get_or l k 0) (holds t inside) in
      let e : place + (2 * r + 1) ≡ place + 2 * r + 1 = omega arith in
      let high = byte (2 * r) (omega arith) in
      let low = ap (λ (m : ℕ). get_or image m 0) (sym e) ∙ byte (2 * r + 1) (omega arith) in
      ap (λ (m : ℕ). number image m) (in_table image base at i above ∙ ap (λ (n : ℕ). table_at base n + 2 * r) (says.tables t few))
      ∙ (λ j. high j * 256 + low j) ∙ table_number xs r long fits ∙ value

  -- the view reads the numbers of the content's pages
  pub page_named : (i : ℕ) → i < pages_of s.size → page image base at i ≡ get_or numbers i 0
  page_named i lt = ⊎_elim
      (λ (below : i < slot_pages). ap (λ (m : ℕ). number image m) (in_slot image base at i below) ∙ says.pages i below ∙ sym (first i below))
      (λ (above : slot_pages ≤ i). under i lt above)
      (cases_lt i slot_pages)
