-- The page numbers of a copy, as its slot and its tables have them.
use Rattle.std.proofs.Common.{◌≡◌, ℕ, ◌+◌, ◌-◌, ◌*◌, ◌<◌, ◌≤◌, List, [], ◌∷◌, ◌++◌, set, suc, length, replicate, get_or, refl, sym, ap, ◌∙◌, arith, ⊎_elim, length-append, length-take}
use Rattle.std.specs.Prelude.{Option, None, Some}
use Rattle.std.proofs.lemmas.Bool.{cases_lt}
use Rattle.std.proofs.lemmas.List.{append_assoc, set-append_right, get_or_append_left, get_or-append_right, get_or-replicate, length-replicate}
use Rattle.std.proofs.Math.Seq.{set-append_seam}
use Rattle.locus_ids.specs.Sizes.{content_pages_max, slot_pages, table_pages, content_tables_max, pack_pages}
use Rattle.file_content.specs.Pages.{pages_of}
use Rattle.pack_layout.specs.Layout.{none, numbers_of, NamePages, IsSlot}
use Rattle.pack_slots.specs.declared.inode_copy.InodeCopy.{InodeCopy}
use Rattle.pack_slots.specs.Copies.{numbers_in, pages_in, times}
use Rattle.pack_slots.specs.Losing.{IsSlotApart}
use Rattle.pack_slots.proofs.PageTimes.{times_first}
use Rattle.inode_pack.specs.Rows.{SameButFor, numbers_so_far}

-- those of its tables are no more than a content may have
pub few_more : (copy : InodeCopy) → IsSlot copy.slot → NamePages (pages_of copy.slot.size) (numbers_in copy) → slot_pages + length copy.more ≤ content_pages_max
few_more copy slot names =
    let rest = replicate (content_tables_max * table_pages - length copy.more) none in
    omega (
      arith,
      slot.pages.count,
      names.count,
      length-append copy.slot.pages (copy.more ++ rest),
      length-append copy.more rest,
      length-replicate (content_tables_max * table_pages - length copy.more) none,
    )

-- behind the numbers of its slot stand those of its tables, and then none
module _ (copy : InodeCopy) (wide : length copy.slot.pages ≡ slot_pages) where
  abbrev behind_more : List ℕ
  behind_more = replicate (content_tables_max * table_pages - length copy.more) none

  pub front_number : (i : ℕ) → i < slot_pages → get_or (numbers_in copy) i 0 ≡ get_or copy.slot.pages i 0
  front_number i lt = get_or_append_left copy.slot.pages (copy.more ++ behind_more) 0 i (omega (arith, wide))

  pub tail_number : (i : ℕ) → slot_pages ≤ i → i - slot_pages < length copy.more → get_or (numbers_in copy) i 0 ≡ get_or copy.more (i - slot_pages) 0
  tail_number i le lt = get_or-append_right copy.slot.pages (copy.more ++ behind_more) slot_pages i 0 wide le ∙ get_or_append_left copy.more behind_more 0 (i - slot_pages) lt

  pub tail_none : (i : ℕ) → slot_pages ≤ i → length copy.more ≤ i - slot_pages → i < content_pages_max → get_or (numbers_in copy) i 0 ≡ none
  tail_none i le past lt =
      get_or-append_right copy.slot.pages (copy.more ++ behind_more) slot_pages i 0 wide le ∙ get_or-append_right copy.more behind_more (length copy.more) (i - slot_pages) 0 refl past
      ∙ get_or-replicate (content_tables_max * table_pages - length copy.more) (i - slot_pages - length copy.more) none 0 (omega arith)

-- past its content it names no data page
pub all_named : (copy : InodeCopy) (p : ℕ) → NamePages (pages_of copy.slot.size) (numbers_in copy) → p < pack_pages → times p (numbers_in copy) ≡ times p (pages_in (Some copy))
all_named copy p names small = let long = names.count in times_first p (numbers_in copy) (pages_of copy.slot.size) small (λ i le lt. names.rest i le (omega arith))

pub none_named : (p : ℕ) → p < pack_pages → times p (replicate content_pages_max none) ≡ 0
none_named p small = times_first p (replicate content_pages_max none) 0 small (λ i le lt. get_or-replicate content_pages_max i none 0 (omega (arith, lt, length-replicate content_pages_max none)))

-- those of an inode that may have a copy
pub so_far_long : (o : Option InodeCopy) → ((one : InodeCopy) → o ≡ Some one → IsSlotApart one) → length (numbers_so_far o) ≡ content_pages_max
so_far_long None are = length-replicate content_pages_max none
so_far_long (Some one) are = (are one refl).1.count

pub so_far_named : (o : Option InodeCopy) (p : ℕ) → ((one : InodeCopy) → o ≡ Some one → IsSlotApart one) → p < pack_pages → times p (numbers_so_far o) ≡ times p (pages_in o)
so_far_named None p are small = none_named p small
so_far_named (Some one) p are small = all_named one p (are one refl).1 small

pub so_far_same : (o : Option InodeCopy) (first stop : ℕ) (made : List ℕ) → ((one : InodeCopy) → o ≡ Some one → SameButFor first stop (numbers_in one) made) → (o ≡ None → SameButFor first stop (replicate content_pages_max none) made) → SameButFor first stop (numbers_so_far o) made
so_far_same None first stop made some nothing = nothing refl
so_far_same (Some one) first stop made some nothing = some one refl

pub pages_long : (copy : InodeCopy) → IsSlot copy.slot → NamePages (pages_of copy.slot.size) (numbers_in copy) → length (pages_in (Some copy)) ≡ pages_of copy.slot.size
pages_long copy slot names = let small = slot.size in let long = names.count in omega (arith, length-take (pages_of copy.slot.size) (numbers_in copy))

-- the numbers in two parts
pub parts_long : (first more : List ℕ) → length first ≡ slot_pages → slot_pages + length more ≤ content_pages_max → length (numbers_of first more) ≡ content_pages_max
parts_long first more wide fits =
    let rest = replicate (content_tables_max * table_pages - length more) none in
    omega (arith, wide, fits, length-append first (more ++ rest), length-append more rest, length-replicate (content_tables_max * table_pages - length more) none)

-- none is named so far
pub parts_none : (k : ℕ) → k < content_pages_max → get_or (numbers_of (replicate slot_pages none) []) k 0 ≡ none
parts_none k lt =
    let front = replicate slot_pages none in
    let rest = replicate (content_tables_max * table_pages) none in
    ⊎_elim
    (λ (less : k < slot_pages). get_or_append_left front rest 0 k (omega (arith, less, length-replicate slot_pages none)) ∙ get_or-replicate slot_pages k none 0 less)
    (λ (ge : slot_pages ≤ k). get_or-append_right front rest slot_pages k 0 (length-replicate slot_pages none) ge ∙ get_or-replicate (content_tables_max * table_pages) (k - slot_pages) none 0 (omega arith))
    (cases_lt k slot_pages)

-- one more of those of the tables
pub parts_more : (first more : List ℕ) (page number : ℕ) → length first ≡ slot_pages → slot_pages ≤ page → length more ≡ page - slot_pages → page < content_pages_max
    → numbers_of first (more ++ number ∷ []) ≡ set (numbers_of first more) page number
parts_more first more page number wide le long lt =
    let left = content_tables_max * table_pages - length (more ++ number ∷ []) in
    let one : content_tables_max * table_pages - length more ≡ suc left = omega (arith, long, le, lt, length-append more (number ∷ [])) in
    let at : page - slot_pages ≡ length more = omega (arith, long) in
    sym (
    ap (λ (k : ℕ). set (first ++ (more ++ replicate k none)) page number) one
    ∙ set-append_right first (more ++ none ∷ replicate left none) slot_pages page number wide le
    ∙ ap (λ (k : ℕ). first ++ set (more ++ none ∷ replicate left none) k number) at
    ∙ ap (λ (l : List ℕ). first ++ l) (set-append_seam more none (replicate left none) number ∙ sym (append_assoc more (number ∷ []) (replicate left none)))
    )
