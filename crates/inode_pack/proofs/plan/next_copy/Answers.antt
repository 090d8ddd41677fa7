use Rattle.std.proofs.Common.{◌≡◌, ◌≤◌, ◌+◌, false, ℕ, List, length, sym, ap, subst, ◌∙◌, arith}
use Rattle.std.specs.Prelude.{Option, slice_index_or}
use Rattle.locus_ids.specs.Sizes.{content_pages_max, slot_pages, content_tables_max, pack_pages, pack_tables}
use Rattle.file_content.specs.Pages.{pages_of, tables_of}
use Rattle.new_contents.specs.of_shadow_pages.Working.{count_below}
use Rattle.pack_layout.specs.declared.slot.Slot.{Slot}
use Rattle.pack_slots.specs.declared.inode_copy.InodeCopy.{InodeCopy}
use Rattle.pack_slots.specs.Copies.{copy_of, named_pages}
use Rattle.pack_slots.specs.Losing.{AreSlots}
use Rattle.pack_slots.proofs.Finding.{own_slots}
use Rattle.new_contents.specs.Changed.{needed}
use Rattle.inode_pack.specs.Committing.{is_free, is_free_table, is_table_over, table_in, Takes, Makes}
use Rattle.inode_pack.specs.Pack.{PackState}
use Rattle.inode_pack.proofs.Setup.{copy_is}
use Rattle.inode_pack.proofs.PageLists.{parts_long}
use Rattle.inode_pack.proofs.TableCounts.{two_free}
use Rattle.inode_pack.proofs.NewCopies.{copy_at, room_for, low_of, high_of}
use Rattle.inode_pack.proofs.Planned.{makes_copy}
use Rattle.inode_pack.proofs.plan.next_copy.Goals as goal

pub take-requires-clause-old : goal.take-requires-clause-old
take-requires-clause-old g c one held =
    let inv = c.pack.invariant in
    let copies = c.pack.inside.copies.items in
    let at = copy_at c.pack.inside.copies.items c.pack.inside.pages.uses c.pack.inside.pages.free inv.0 inv.1 c.args.ino c.from.result c.index-old.result.now (low_of c.get.result c.args.ino c.get.ensures.value c.get.ensures.low) (high_of c.get.result c.args.ino c.get.ensures.value c.get.ensures.high) (c.from.ensures ∙ c.get.ensures.value) c.index-old.ensures in
    let is = copy_is copies c.args.ino one inv.0 (sym at ∙ held) in
    (is.slot, is.pages)

pub take-requires-clause-room : goal.take-requires-clause-room
take-requires-clause-room g c =
    let inv = c.pack.invariant in
    let w = (g.C.NewContent.working c.args.content.now) in
    let fits : needed w + length (named_pages c.pack.inside.copies.items) ≤ pack_pages = subst (λ (p : PackState). needed w + length (named_pages p.copies) ≤ pack_pages) (sym c.pack.view_is) c.requires.room in
    room_for c.pack.inside.copies.items c.pack.inside.pages.uses c.pack.inside.pages.free inv.0 inv.1 (needed w) (omega (arith, fits, inv.1.rest))

pub take_tables-tables-requires-clause-slots : goal.take_tables-tables-requires-clause-slots
take_tables-tables-requires-clause-slots g c =
    let inv = c.pack.invariant in
    subst (λ (l : List (Option InodeCopy)). AreSlots l) (sym c.deref.ensures.value) (own_slots c.pack.inside.copies.items inv.0.own)

pub take_tables-tables-requires-clause-room : goal.take_tables-tables-requires-clause-room
take_tables-tables-requires-clause-room g c =
    let inv = c.pack.invariant in
    let copies = c.pack.inside.copies.items in
    subst (λ (l : List (Option InodeCopy)). content_tables_max ≤ count_below (is_free_table l) pack_tables) (sym c.deref.ensures.value) (two_free copies (own_slots copies inv.0.own) (omega (arith, inv.1.rest)) inv.0.tables)

pub written_tables-written-requires-clause-old : goal.written_tables-written-requires-clause-old
written_tables-written-requires-clause-old g c one held =
    let inv = c.pack.invariant in
    let copies = c.pack.inside.copies.items in
    let at = copy_at c.pack.inside.copies.items c.pack.inside.pages.uses c.pack.inside.pages.free inv.0 inv.1 c.args.ino c.from.result c.index-old.result.now (low_of c.get.result c.args.ino c.get.ensures.value c.get.ensures.low) (high_of c.get.result c.args.ino c.get.ensures.value c.get.ensures.high) (c.from.ensures ∙ c.get.ensures.value) c.index-old.ensures in
    (copy_is copies c.args.ino one inv.0 (sym at ∙ held)).slot

pub next_slot-slot-requires-clause-turn : goal.next_slot-slot-requires-clause-turn
next_slot-slot-requires-clause-turn g c one held =
    let inv = c.pack.invariant in
    let copies = c.pack.inside.copies.items in
    let at = copy_at c.pack.inside.copies.items c.pack.inside.pages.uses c.pack.inside.pages.free inv.0 inv.1 c.args.ino c.from.result c.index-old.result.now (low_of c.get.result c.args.ino c.get.ensures.value c.get.ensures.low) (high_of c.get.result c.args.ino c.get.ensures.value c.get.ensures.high) (c.from.ensures ∙ c.get.ensures.value) c.index-old.ensures in
    (copy_is copies c.args.ino one inv.0 (sym at ∙ held)).slot.turn

pub returns-clause-makes : goal.returns-clause-makes
returns-clause-makes g c =
    let inv = c.pack.invariant in
    let copies = c.pack.inside.copies.items in
    let uses = c.pack.inside.pages.uses in
    let free = c.pack.inside.pages.free in
    let old = c.index-old.result.now in
    let at = copy_at c.pack.inside.copies.items c.pack.inside.pages.uses c.pack.inside.pages.free inv.0 inv.1 c.args.ino c.from.result c.index-old.result.now (low_of c.get.result c.args.ino c.get.ensures.value c.get.ensures.low) (high_of c.get.result c.args.ino c.get.ensures.value c.get.ensures.high) (c.from.ensures ∙ c.get.ensures.value) c.index-old.ensures in
    let w = (g.C.NewContent.working c.args.content.now) in
    let version = c.args.version.now in
    let numbers = c.in_ok-numbers.numbers in
    let tables = c.take_tables-tables.result in
    let slot = c.next_slot-slot.result in
    let pages : c.page_count-pages.result ≡ pages_of w.size = c.page_count-pages.ensures.pages ∙ ap pages_of c.size.ensures.value in
    let few : pages_of w.size ≤ content_pages_max = omega (arith, c.page_count-pages.ensures.most, pages) in
    let taken = subst (λ (n : ℕ). Takes content_tables_max pack_tables (tables_of n) (is_free_table copies) (table_in old) (λ k. slice_index_or c.written_tables-written.result k false) tables) pages
    (subst (λ (l : List (Option InodeCopy)). Takes content_tables_max pack_tables (tables_of c.page_count-pages.result) (is_free_table l) (table_in old) (λ k. slice_index_or c.written_tables-written.result k false) tables) c.deref.ensures.value c.take_tables-tables.ensures.takes) in
    subst (λ (p : PackState). Makes (is_free p.copies) (is_free_table p.copies) (copy_of p.copies c.args.ino) c.args.ino version w (record { half = c.next_half-half.result; slot = slot; more = numbers.more })) c.pack.view_is
    (makes_copy copies uses free c.args.ino old version w inv.0 inv.1 at numbers.first numbers.more few c.in_ok-numbers.ensures.takes tables slot c.next_slot-slot.ensures c.next_half-half.result c.written_tables-written.result c.written_tables-written.ensures taken c.next_half-half.ensures)

pub returns-clause-tables : goal.returns-clause-tables
returns-clause-tables g c k lt =
    let inv = c.pack.invariant in
    let w = (g.C.NewContent.working c.args.content.now) in
    let at = copy_at c.pack.inside.copies.items c.pack.inside.pages.uses c.pack.inside.pages.free inv.0 inv.1 c.args.ino c.from.result c.index-old.result.now (low_of c.get.result c.args.ino c.get.ensures.value c.get.ensures.low) (high_of c.get.result c.args.ino c.get.ensures.value c.get.ensures.high) (c.from.ensures ∙ c.get.ensures.value) c.index-old.ensures in
    c.written_tables-written.ensures k lt ∙ ap (λ (o : Option InodeCopy). is_table_over o w k) (at ∙ ap (λ (p : PackState). copy_of p.copies c.args.ino) c.pack.view_is)

pub returns-clause-long : goal.returns-clause-long
returns-clause-long g c =
    let numbers = c.in_ok-numbers.numbers in
    let slot = c.next_slot-slot.result in
    let front = ap (λ (s : Slot). s.pages) c.next_slot-slot.ensures in
    let own = ap (λ (s : Slot). s.tables) c.next_slot-slot.ensures in
    let wide : length slot.pages ≡ slot_pages = omega (arith, ap length front, c.in_ok-numbers.ensures.front) in (
      parts_long slot.pages numbers.more wide c.in_ok-numbers.ensures.few,
      wide,
      omega (arith, ap length own),
    )
