use Rattle.std.proofs.Common.{◌≡◌, ◌≤◌, ◌<◌, ◌+◌, ◌-◌, ℕ, List, length, take, drop, get_or, sym, ◌∙◌, ap, subst, arith, length-take, length-drop}
use Rattle.std.specs.Prelude.{Option, Some, IfSome}
use Rattle.std.proofs.lemmas.List.{get_or-take, get_or-drop}
use Rattle.locus_ids.specs.Sizes.{slot_pages, pack_pages}
use Rattle.pack_layout.specs.of_file_content.Pages.{pages_of}
use Rattle.pack_slots.specs.declared.inode_copy.InodeCopy.{InodeCopy}
use Rattle.pack_slots.specs.Copies.{pages_in, numbers_in}
use Rattle.pack_slots.specs.Losing.{IsSlotApart}
use Rattle.pack_slots.proofs.Numbers.{long_enough, more_part}
use Rattle.pack_slots.proofs.uses.more_pages.Goals as goal

enough : (copy : InodeCopy) → IsSlotApart copy → pages_of copy.slot.size - slot_pages ≤ length copy.more
enough copy is =
    let small = is.0.size in
    long_enough (pages_of copy.slot.size) copy.slot.pages copy.more is.0.pages.count (omega arith) is.1

pub slice_bounds-result-length : goal.slice_bounds-result-length
slice_bounds-result-length c =
    let copy = c.in-Some.copy in
    let is = subst (λ (o : Option InodeCopy). IfSome o IsSlotApart) c.in-Some.is c.requires in
    omega (arith, length-take (c.max.result - 60) c.as_slice.result.now, enough copy is, c.max.ensures, ap length c.as_slice.ensures)

-- those of a copy, cut to the pages that are named
cut : (copy : InodeCopy) (max : ℕ) (all : List ℕ) → IsSlotApart copy → max - slot_pages ≡ pages_of copy.slot.size - slot_pages → all ≡ copy.more → take (max - slot_pages) all ≡ drop slot_pages (pages_in (Some copy))
cut copy max all is most are = (λ j. take (most j) (are j)) ∙ more_part copy is.0 is.1

pub returns-in-Some-clause-pages : goal.returns-in-Some-clause-pages
returns-in-Some-clause-pages c =
    let copy = c.in-Some.copy in
    let is = subst (λ (o : Option InodeCopy). IfSome o IsSlotApart) c.in-Some.is c.requires in
    cut copy c.max.result c.as_slice.result.now is (omega (arith, c.max.ensures)) c.as_slice.ensures ∙ sym (ap (λ (o : Option InodeCopy). drop slot_pages (pages_in o)) c.in-Some.is)

pub returns-in-Some-clause-inside : goal.returns-in-Some-clause-inside
returns-in-Some-clause-inside c i lt =
    let copy = c.in-Some.copy in
    let is = subst (λ (o : Option InodeCopy). IfSome o IsSlotApart) c.in-Some.is c.requires in
    let n = pages_of copy.slot.size in
    let numbers = numbers_in copy in
    let all = cut copy c.max.result c.as_slice.result.now is (omega (arith, c.max.ensures)) c.as_slice.ensures in
    let below : slot_pages + i < n = omega (arith, lt, ap length all, length-drop slot_pages (take n numbers), length-take n numbers) in
    let here = ap (λ (l : List ℕ). get_or l i 0) all ∙ get_or-drop slot_pages (take n numbers) i 0 ∙ get_or-take n numbers (slot_pages + i) 0 below in
    subst (λ (k : ℕ). k < pack_pages) (sym here) (is.1.inside (slot_pages + i) below)
