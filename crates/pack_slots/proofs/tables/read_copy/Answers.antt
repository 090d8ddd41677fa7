use Rattle.std.proofs.Common.{◌≡◌, ◌+◌, ◌-◌, ◌*◌, ◌<◌, ◌≤◌, ℕ, List, ◌++◌, length, take, drop, get_or, sym, ◌∙◌, ap, subst, arith, length-take}
use Rattle.std.proofs.lemmas.Bool.{false≢true}
use Rattle.std.proofs.lemmas.List.{drop-take}
use Rattle.locus_ids.specs.Sizes.{content_pages_max, slot_pages, table_pages}
use Rattle.pack_layout.specs.of_file_content.Pages.{pages_of, tables_of}
use Rattle.pack_layout.specs.Layout.{none}
use Rattle.pack_slots.specs.Slots.{HasMore}
use Rattle.pack_slots.proofs.TableNumbers.{first_read, none_read, tables_read, bad_apart, bad_rest, has_more}
use Rattle.pack_slots.proofs.tables.read_copy.Goals.{then-not-are_apart-via-then-not-are_apart, then-not-are_apart-via-else-not-are_apart+then-not-are_none}
use Rattle.pack_slots.proofs.tables.read_copy.Goals as goal

pub returns-then-not-are_apart-clause-bad : goal.returns-then-not-are_apart-clause-bad
returns-then-not-are_apart-clause-bad g c = λ e.
    let base = c.args.base in
    let seen = (g.D.Disk.moment c.args.disk.now).seen in
    let slot = c.args.copy.now.slot in
    let is = c.requires.unread.slot in
    let numbers = c.read_numbers.new.numbers in
    let long = c.read_numbers.ensures.count in
    let pages = c.copy_from_slice.new.self in
    let first = first_read numbers pages slot.pages c.copy_from_slice.ensures.after is.pages.count c.read_numbers.ensures.first in
    let read = tables_read base seen slot numbers is c.in_ok-read_numbers.ensures.read in
    let many : slot_pages < pages_of slot.size = omega (arith, c.if-pages-le-SLOT_PAGES.false) in
    let rest : (i : ℕ) → slot_pages + table_pages * tables_of (pages_of slot.size) ≤ i → i < content_pages_max → get_or numbers i 0 ≡ none = λ i le lt.
    none_read numbers pages slot.pages c.copy_from_slice.ensures.after is.pages.count (slot_pages + table_pages * length (take (tables_of (pages_of slot.size)) slot.tables)) c.read_numbers.ensures.rest i (omega (arith, le)) (omega (arith, le, length-take (tables_of (pages_of slot.size)) slot.tables)) lt in
    elim c.then-not-are_apart.branch [
      | then-not-are_apart-via-then-not-are_apart w ↦ bad_apart base seen slot numbers is long first c.read_numbers.ensures.fits read rest (λ apart. false≢true (sym w.if-not-are_apart.true ∙ c.are_apart.ensures.1 apart))
      | then-not-are_apart-via-else-not-are_apart+then-not-are_none w ↦ bad_rest base seen slot numbers is long first c.read_numbers.ensures.fits read rest (λ nothing. false≢true (sym w.if-not-are_none.true ∙ w.are_none.ensures.1 nothing))
    ]

pub returns-clause-has : goal.returns-clause-has
returns-clause-has g c = λ e.
    let base = c.args.base in
    let seen = (g.D.Disk.moment c.args.disk.now).seen in
    let slot = c.args.copy.now.slot in
    let is = c.requires.unread.slot in
    let numbers = c.read_numbers.new.numbers in
    let long = c.read_numbers.ensures.count in
    let pages = c.copy_from_slice.new.self in
    let first = first_read numbers pages slot.pages c.copy_from_slice.ensures.after is.pages.count c.read_numbers.ensures.first in
    let read = tables_read base seen slot numbers is c.in_ok-read_numbers.ensures.read in
    let many : slot_pages ≤ pages_of slot.size = omega (arith, c.if-pages-le-SLOT_PAGES.false) in
    let rest : (i : ℕ) → slot_pages + table_pages * tables_of (pages_of slot.size) ≤ i → i < content_pages_max → get_or numbers i 0 ≡ none = λ i le lt.
    none_read numbers pages slot.pages c.copy_from_slice.ensures.after is.pages.count (slot_pages + table_pages * length (take (tables_of (pages_of slot.size)) slot.tables)) c.read_numbers.ensures.rest i (omega (arith, le)) (omega (arith, le, length-take (tables_of (pages_of slot.size)) slot.tables)) lt in
    let all : slot_pages + (pages_of slot.size - slot_pages) ≡ pages_of slot.size = omega (arith, many) in
    let out : c.add_all.new.out ≡ drop slot_pages (take (pages_of slot.size) numbers) =
    c.in_ok-add_all.ensures ∙ ap (λ (l : List ℕ). l ++ take (pages_of slot.size - slot_pages) (drop slot_pages numbers)) c.requires.unread.more
    ∙ sym (drop-take slot_pages (pages_of slot.size - slot_pages) numbers) ∙ ap (λ (n : ℕ). drop slot_pages (take n numbers)) all in
    subst (λ (l : List ℕ). HasMore base slot l seen) (sym out)
    (has_more base seen slot numbers is long first c.read_numbers.ensures.fits read rest many (c.are_apart.ensures.0 c.if-not-are_apart.false) (c.are_none.ensures.0 c.if-not-are_none.false))
