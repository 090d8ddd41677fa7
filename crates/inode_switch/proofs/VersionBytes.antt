-- The bytes of a version's content stand in its data pages.
use Rattle.std.proofs.Common.{◌≡◌, ℕ, zero, suc, ◌+◌, ◌-◌, ◌*◌, ◌/◌, ◌%◌, ◌≤◌, ◌<◌, List, length, drop, get_or, refl, sym, ◌∙◌, ap, subst, arith, ⊎_elim, length-append, length-take, length-drop}
use Rattle.std.proofs.lemmas.Bool.{cases_lt}
use Rattle.std.proofs.lemmas.List.{get_or-take, get_or-drop, get_or_append_left, get_or-append_right}
use Rattle.locus_ids.specs.Sizes.{page_bytes, content_pages_max}
use Rattle.disk_model.specs.Images.{bytes_at}
use Rattle.pack_layout.specs.declared.slot.Slot.{Slot}
use Rattle.pack_layout.specs.of_file_content.Pages.{pages_of}
use Rattle.pack_layout.specs.Layout.{area_length, page_at, NamePages, IsSlot}
use Rattle.inode_switch.specs.Slots.{Says}
use Rattle.inode_switch.specs.View.{size, page, bytes_of, version}

module _ (image : List ℕ) (base at : ℕ) where
  abbrev chunk : ℕ → List ℕ
  chunk i = bytes_at image (page_at base (page image base at i)) page_bytes

  length-rows : (n : ℕ) → ((i : ℕ) → i < n → length (chunk i) ≡ page_bytes) → length (bytes_of image base at n) ≡ page_bytes * n
  length-rows zero whole = refl
  length-rows (suc n) whole =
      let rest = length-rows n (λ i lt. whole i (omega arith)) in
      omega (arith, length-append (bytes_of image base at n) (chunk n), rest, whole n (omega arith))

  byte_in_row : (n i k : ℕ) → ((j : ℕ) → j < n → length (chunk j) ≡ page_bytes) → i < n → k < page_bytes → get_or (bytes_of image base at n) (page_bytes * i + k) 0 ≡ get_or (chunk i) k 0
  byte_in_row zero i k whole lt small = absurd (omega arith)
  byte_in_row (suc n) i k whole lt small =
      let few : (j : ℕ) → j < n → length (chunk j) ≡ page_bytes = λ j below. whole j (omega arith) in
      let long = length-rows n few in
      ⊎_elim
      (λ (below : i < n). get_or_append_left (bytes_of image base at n) (chunk n) 0 (page_bytes * i + k) (omega (arith, long)) ∙ byte_in_row n i k few below small)
      (λ (above : n ≤ i).
      let same : i ≡ n = omega arith in
      let rest : page_bytes * i + k - page_bytes * n ≡ k = omega arith in
      get_or-append_right (bytes_of image base at n) (chunk n) (page_bytes * n) (page_bytes * i + k) 0 long (omega arith)
      ∙ ap (λ (m : ℕ). get_or (chunk n) m 0) rest ∙ ap (λ (m : ℕ). get_or (chunk m) k 0) (sym same))
      (cases_lt i n)

  -- the view reads these numbers of the content's pages
  module _ (s : Slot) (numbers : List ℕ) (is : IsSlot s) (says : Says image at s) (names : NamePages (pages_of s.size) numbers) (named : (i : ℕ) → i < pages_of s.size → page image base at i ≡ get_or numbers i 0)
      (area : base + area_length ≤ length image) where
    few_pages : pages_of s.size ≤ content_pages_max
    few_pages = let small = is.size in omega arith

    whole : (j : ℕ) → j < pages_of (size image at) → length (chunk j) ≡ page_bytes
    whole j lt =
        let e = says.size in
        let below : j < pages_of s.size = subst (λ (m : ℕ). j < pages_of m) e lt in
        let number = names.inside j below in
        let f = named j below in
        omega (arith, length-take page_bytes (drop (page_at base (page image base at j)) image), length-drop (page_at base (page image base at j)) image)

    pub content_length : length (version image base at).content ≡ s.size
    content_length =
        let long = length-rows (pages_of (size image at)) whole in
        let e = says.size in
        omega (arith, length-take (size image at) (bytes_of image base at (pages_of (size image at))))

    -- byte k stands in page k / 1024
    pub content_byte : (k : ℕ) → k < s.size → get_or (version image base at).content k 0 ≡ get_or image (page_at base (get_or numbers (k / page_bytes) 0) + k % page_bytes) 0
    content_byte k lt =
        let i = k / page_bytes in
        let r = k % page_bytes in
        let parts : k ≡ page_bytes * (k / page_bytes) + k % page_bytes = omega arith in
        let e = says.size in
        let few = few_pages in
        let below : i < pages_of (size image at) = omega arith in
        get_or-take (size image at) (bytes_of image base at (pages_of (size image at))) k 0 (omega arith)
        ∙ ap (λ (m : ℕ). get_or (bytes_of image base at (pages_of (size image at))) m 0) parts
        ∙ byte_in_row (pages_of (size image at)) i r whole below (omega arith)
        ∙ get_or-take page_bytes (drop (page_at base (page image base at i)) image) r 0 (omega arith)
        ∙ get_or-drop (page_at base (page image base at i)) image r 0
        ∙ ap (λ (p : ℕ). get_or image (page_at base p + r) 0) (named i (omega arith))
