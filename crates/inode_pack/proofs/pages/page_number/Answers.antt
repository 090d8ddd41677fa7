use Rattle.std.proofs.Common.{◌≡◌, ◌-◌, ◌<◌, ◌≤◌, ◌∙◌, ℕ, ⊎_elim, length, get_or, sym, ap, arith}
use Rattle.std.specs.Prelude.{None, Some}
use Rattle.std.specs.List.{slice_get}
use Rattle.std.proofs.lemmas.Bool.{cases_lt}
use Rattle.std.proofs.lemmas.Option.{slice_get_within, slice_get-get_or, get_or_from_slice_get}
use Rattle.locus_ids.specs.Sizes.{slot_pages}
use Rattle.pack_slots.specs.Copies.{numbers_in}
use Rattle.inode_pack.proofs.PageLists.{front_number, tail_number, tail_none}
use Rattle.inode_pack.proofs.pages.page_number.Goals as goal

pub returns-then-page-lt-SLOT_PAGES : goal.returns-then-page-lt-SLOT_PAGES
returns-then-page-lt-SLOT_PAGES c = sym (front_number c.args.copy.now c.requires.front c.from-page.result c.if-page-lt-SLOT_PAGES.true) ∙ ap (λ (n : ℕ). get_or (numbers_in c.args.copy.now) n 0) c.from-page.ensures

pub returns-in-Some : goal.returns-in-Some
returns-in-Some c =
    let copy = c.args.copy.now in
    let page = c.from-page.result in
    let there : slice_get copy.more (page - slot_pages) ≡ Some c.in-Some.number.now = sym c.in-Some.ensures in
    sym (tail_number copy c.requires.front page c.if-page-lt-SLOT_PAGES.false (slice_get_within copy.more (page - slot_pages) c.in-Some.number.now there) ∙ get_or_from_slice_get copy.more (page - slot_pages) c.in-Some.number.now 0 there)
    ∙ ap (λ (n : ℕ). get_or (numbers_in copy) n 0) c.from-page.ensures

pub returns-in-None : goal.returns-in-None
returns-in-None c =
    let copy = c.args.copy.now in
    let page = c.from-page.result in
    let gone : slice_get copy.more (page - slot_pages) ≡ None = sym c.in-None.ensures in
    ⊎_elim
    (λ (lt : page - slot_pages < length copy.more). let there = slice_get-get_or copy.more (page - slot_pages) 0 lt in absurd cc)
    (λ (le : length copy.more ≤ page - slot_pages). sym (tail_none copy c.requires.front page c.if-page-lt-SLOT_PAGES.false le (omega arith)) ∙ ap (λ (n : ℕ). get_or (numbers_in copy) n 0) c.from-page.ensures)
    (cases_lt (page - slot_pages) (length copy.more))
