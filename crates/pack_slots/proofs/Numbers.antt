-- The page numbers of a copy: those of its slot, and behind them those of its tables.
use Rattle.std.proofs.Common.{◌≡◌, ℕ, ◌+◌, ◌-◌, ◌*◌, ◌≤◌, ◌<◌, ◌⊎◌, inl, inr, List, [], ◌++◌, length, take, drop, take_all, get_or, replicate, refl, sym, ◌∙◌, ap, arith, ⊎_elim, length-append, length-take}
use Rattle.std.proofs.lemmas.Bool.{cases_lt}
use Rattle.std.proofs.lemmas.List.{get_or_append_left, get_or-append_right, get_or-replicate, length-replicate, take-append-le, take-take, drop-take, drop-drop, drop-replicate, drop_all}
use borrow.Rule.Slice.PartMut.{put_mid}
use Rattle.std.proofs.Math.Seq.{drop-append_seam}
use Rattle.locus_ids.specs.Sizes.{content_pages_max, slot_pages, table_pages, content_tables_max, pack_pages}
use Rattle.pack_layout.specs.of_file_content.Pages.{pages_of}
use Rattle.pack_layout.specs.Layout.{NameApart, NamePages, IsSlot, none, numbers_of}
use Rattle.pack_slots.specs.declared.inode_copy.InodeCopy.{InodeCopy}
use Rattle.pack_slots.specs.Copies.{numbers_in}

abbrev pub rest_of : List ℕ → List ℕ
rest_of more = replicate (content_tables_max * table_pages - length more) none

pub first_numbers : (copy : InodeCopy) → IsSlot copy.slot → (i : ℕ) → i < slot_pages → get_or (numbers_in copy) i 0 ≡ get_or copy.slot.pages i 0
first_numbers copy is i lt = let few = is.pages.count in get_or_append_left copy.slot.pages (copy.more ++ rest_of copy.more) 0 i (omega arith)

-- where a slot names all pages of its content
pub few_named : (n : ℕ) (pages : List ℕ) → n ≤ slot_pages → NameApart slot_pages pack_pages n pages → NamePages n (numbers_of pages [])
few_named n pages few are =
    let long = are.count in
    let here : (i : ℕ) → i < slot_pages → get_or (numbers_of pages []) i 0 ≡ get_or pages i 0 = λ i lt. get_or_append_left pages (rest_of []) 0 i (omega arith) in
    record {
      count = omega (arith, length-append pages (rest_of []), length-replicate (content_tables_max * table_pages) none);
      inside = λ i lt. let e = here i (omega arith) in let f = are.inside i lt in omega arith;
      distinct = λ i j lt below same. are.distinct i j lt below (let e = here i (omega arith) in let f = here j (omega arith) in omega arith);
      rest = λ i le lt. ⊎_elim
          (λ (near : i < slot_pages). here i near ∙ are.rest i le near)
          (λ (far : slot_pages ≤ i). get_or-append_right pages (rest_of []) slot_pages i 0 long far ∙ get_or-replicate (content_tables_max * table_pages) (i - slot_pages) none 0 (omega arith))
          (cases_lt i slot_pages);
    }

-- the first n numbers, as far as a slot has room, and those behind
pub first_part : (n k : ℕ) (pages ys : List ℕ) → length pages ≡ slot_pages → k ≤ n → k ≤ slot_pages → (n ≤ k) ⊎ (slot_pages ≤ k) → take k pages ≡ take slot_pages (take n (pages ++ ys))
first_part n k pages ys long le few (inl all) =
    let same : n ≡ k = omega arith in
    let one = take-append-le n pages ys (omega arith) in
    let short = length-take n pages in
    sym (ap (take slot_pages) one ∙ take_all slot_pages (take n pages) (omega arith) ∙ ap (λ (m : ℕ). take m pages) same)
first_part n k pages ys long le few (inr full) =
    let same : slot_pages ≡ k = omega arith in
    sym (take-take slot_pages n (pages ++ ys) (omega arith) ∙ take-append-le slot_pages pages ys (omega arith) ∙ ap (λ (m : ℕ). take m pages) same)

pub rest_part : (k : ℕ) (pages more zs : List ℕ) → length pages ≡ slot_pages → k ≤ length more → take k more ≡ drop slot_pages (take (slot_pages + k) (pages ++ (more ++ zs)))
rest_part k pages more zs long le =
    sym (drop-take slot_pages k (pages ++ (more ++ zs)) ∙ ap (take k) (ap (λ (m : ℕ). drop m (pages ++ (more ++ zs))) (sym long) ∙ drop-append_seam pages (more ++ zs)) ∙ take-append-le k more zs le)

-- the tables have as many numbers as are named there
pub long_enough : (n : ℕ) (pages more : List ℕ) → length pages ≡ slot_pages → n ≤ content_pages_max → NamePages n (numbers_of pages more) → n - slot_pages ≤ length more
long_enough n pages more long few names = ⊎_elim
    (λ (lt : length more < n - slot_pages).
    let i = slot_pages + length more in
    let zero : slot_pages + length more - slot_pages - length more ≡ 0 = omega arith in
    let is : get_or (numbers_of pages more) i 0 ≡ none = get_or-append_right pages (more ++ rest_of more) slot_pages i 0 long (omega arith) ∙ get_or-append_right more (rest_of more) (length more) (i - slot_pages) 0 refl (omega arith)
    ∙ ap (λ (k : ℕ). get_or (rest_of more) k 0) zero ∙ get_or-replicate (content_tables_max * table_pages - length more) 0 none 0 (omega arith) in
    let small = names.inside i (omega arith) in
    absurd (omega arith))
    (λ (le : n - slot_pages ≤ length more). le)
    (cases_lt (length more) (n - slot_pages))

-- the pages that the tables of a copy name
pub more_part : (copy : InodeCopy) → IsSlot copy.slot → NamePages (pages_of copy.slot.size) (numbers_in copy) → take (pages_of copy.slot.size - slot_pages) copy.more ≡ drop slot_pages (take (pages_of copy.slot.size) (numbers_in copy))
more_part copy is names =
    let n = pages_of copy.slot.size in
    let size = is.size in
    let k = n - slot_pages in
    let pages = copy.slot.pages in ⊎_elim
    (λ (few : n < slot_pages).
    let none : n - slot_pages ≡ 0 = omega (arith, few) in
    ap (λ (m : ℕ). take m copy.more) none ∙ sym (drop_all slot_pages (take n (numbers_in copy)) (omega (arith, length-take n (numbers_in copy), few))))
    (λ (many : slot_pages ≤ n).
    let all : slot_pages + (n - slot_pages) ≡ n = omega (arith, many) in
    rest_part k pages copy.more (rest_of copy.more) is.pages.count (long_enough n pages copy.more is.pages.count (omega (arith, size)) names) ∙ ap (λ (m : ℕ). drop slot_pages (take m (numbers_in copy))) all)
    (cases_lt n slot_pages)

-- the numbers of the slot and of its tables are written over numbers that name nothing
pub numbers_made : (pages more first behind : List ℕ) (w : ℕ) → length first ≡ slot_pages → first ≡ pages → behind ≡ more → w ≡ length more → slot_pages + length more ≤ content_pages_max
    → put_mid slot_pages w (first ++ drop slot_pages (replicate content_pages_max none)) behind ≡ numbers_of pages more
numbers_made pages more first behind w long one two wide fits =
    let rest = replicate content_pages_max none in
    let le : slot_pages ≤ length first = omega (arith, long) in
    let all : length first ≤ slot_pages = omega (arith, long) in
    let start : take slot_pages (first ++ drop slot_pages rest) ≡ pages = take-append-le slot_pages first (drop slot_pages rest) le ∙ take_all slot_pages first all ∙ one in
    let seam : drop slot_pages (first ++ drop slot_pages rest) ≡ drop slot_pages rest = ap (λ (n : ℕ). drop n (first ++ drop slot_pages rest)) (sym long) ∙ drop-append_seam first (drop slot_pages rest) in
    let count : content_pages_max - (slot_pages + w) ≡ content_tables_max * table_pages - length more = omega (arith, wide, fits) in
    let end : drop w (drop slot_pages (first ++ drop slot_pages rest)) ≡ rest_of more =
    ap (drop w) seam ∙ drop-drop w slot_pages rest ∙ drop-replicate (slot_pages + w) content_pages_max none ∙ ap (λ (n : ℕ). replicate n none) count in
    (λ j. start j ++ (two j ++ end j))
