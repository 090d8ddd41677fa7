use Rattle.std.proofs.Common.{◌≡◌, ◌≢◌, ◌+◌, ◌<◌, true, false, ⊎_elim, ℕ, List, Bool, length, refl, sym, ap, ◌∙◌, arith}
use Rattle.std.specs.Prelude.{◌==◌, not, nat_lt, slice_index_or, Option}
use Rattle.std.proofs.lemmas.Bool.{cases_eq, eq-eqb, ne_eqb, lt-ltb}
use Rattle.std.proofs.lemmas.List.{get_or_default}
use Rattle.locus_ids.specs.Sizes.{content_tables_max, pack_tables}
use Rattle.file_content.specs.Pages.{tables_of}
use Rattle.new_contents.proofs.of_shadow_pages.Counts.{count_below_le, count_below_same}
use Rattle.pack_slots.specs.declared.inode_copy.InodeCopy.{InodeCopy}
use Rattle.pack_slots.specs.Copies.{named_tables, times}
use Rattle.inode_pack.specs.Committing.{is_free_table, table_in}
use Rattle.inode_pack.proofs.Taking.{takes_start, takes_stays, takes_one, takes_done, room, same_taking, same_so_far}
use Rattle.inode_pack.proofs.new_tables.take_tables.Goals as goal
use Rattle.inode_pack.proofs.new_tables.take_tables.Goals.{then-written-k, else-written-k}

-- what isn't used is named by no copy
not_some : (n : ℕ) → not (nat_lt 0 n) ≡ (n == 0)
not_some n = ⊎_elim
    (λ (e : n ≡ 0). ap (λ (k : ℕ). not (nat_lt 0 k)) e ∙ sym (eq-eqb n 0 e))
    (λ (ne : n ≢ 0). ap (λ (b : Bool). not b) (lt-ltb 0 n (omega arith)) ∙ sym (ne_eqb n 0 ne))
    (cases_eq n 0)

unused_is : (copies : List (Option InodeCopy)) (used : List Bool) (t : ℕ) → length used ≡ pack_tables → ((table : ℕ) → table < pack_tables → slice_index_or used table false ≡ nat_lt 0 (times table (named_tables copies))) → t < pack_tables
    → not (slice_index_or used t true) ≡ is_free_table copies t
unused_is copies used t long marks lt = ap (λ (b : Bool). not b) (get_or_default used t true false (omega arith) ∙ marks t lt) ∙ not_some (times t (named_tables copies))

pub loop-k-init : goal.loop-k-init
loop-k-init c =
    takes_start content_tables_max pack_tables (is_free_table c.args.copies.now) (table_in c.args.old.now) (λ k. slice_index_or c.args.written k false) c.tables_before-tables.result 0 (omega arith) (omega arith)
    (λ t lt. absurd (omega arith)) c.tables_before-tables.ensures

pub next_free-found-requires : goal.next_free-found-requires
next_free-found-requires c =
    let copies = c.args.copies.now in
    let used = c.used_tables-used.result in
    let unused : ℕ → Bool = λ t. is_free_table copies t in
    let test : ℕ → Bool = λ t. not (slice_index_or used t true) in
    let changed : ℕ → Bool = λ k. slice_index_or c.args.written k false in
    let so_far = c.loop-k.invariant in
    let few = count_below_le changed content_tables_max in
    let enough = c.requires.room in
    let more = room content_tables_max pack_tables unused (table_in c.args.old.now) changed c.loop-k.k c.loop-k.from pack_tables content_tables_max c.loop-k.tables so_far (omega arith) c.if-written-k.true (omega arith) in
    let small = so_far.small in
    let one = count_below_same test unused c.loop-k.from (λ t lt. unused_is copies used t (omega arith) c.used_tables-used.ensures (omega arith)) in
    let all = count_below_same test unused pack_tables (λ t lt. unused_is copies used t (omega arith) c.used_tables-used.ensures lt) in
    omega (arith, more, one, all)

pub loop-k-preserved : goal.loop-k-preserved
loop-k-preserved c =
    let copies = c.args.copies.now in
    let used = c.used_tables-used.result in
    let unused : ℕ → Bool = λ t. is_free_table copies t in
    let stood : ℕ → ℕ = table_in c.args.old.now in
    let changed : ℕ → Bool = λ k. slice_index_or c.args.written k false in
    let so_far = c.loop-k.invariant in
    let k = c.loop-k.k in
    let from = c.loop-k.from in
    let tables = c.loop-k.tables in
    let fits : k < content_tables_max = omega arith in
    let marks = c.used_tables-used.ensures in
    elim c.if-written-k.branch [
      | then-written-k w ↦ (
          let found = w.next_free-found.result in
          let inside = w.next_free-found.ensures.inside in
          same_taking content_tables_max pack_tables unused stood changed k k (found + 1) c.if-written-k.from found tables c.if-written-k.tables w.from-is w.tables-is refl
          (takes_one content_tables_max pack_tables unused stood changed k from tables so_far fits found w.if-written-k.true w.next_free-found.ensures.low inside
          (sym (unused_is copies used found (omega arith) marks inside) ∙ ap (λ (b : Bool). not b) w.next_free-found.ensures.free)
          (λ p low high. sym (unused_is copies used p (omega arith) marks (omega arith)) ∙ ap (λ (b : Bool). not b) (w.next_free-found.ensures.least p low high)))
          )
      | else-written-k w ↦ same_so_far content_tables_max pack_tables unused stood changed (k + 1) from c.if-written-k.from tables c.if-written-k.tables w.from-is w.tables-is
          (takes_stays content_tables_max pack_tables unused stood changed k from tables so_far fits w.if-written-k.false)
    ]

pub returns : goal.returns
returns c = record {
  takes = takes_done content_tables_max pack_tables (is_free_table c.args.copies.now) (table_in c.args.old.now) (λ k. slice_index_or c.args.written k false) c.loop-k.k c.loop-k.from (tables_of c.args.pages) c.loop-k.tables c.end_at.new.tables
      (omega (arith, c.tables_of.ensures.number)) c.loop-k.invariant (λ k lt. c.end_at.ensures.before k (omega arith)) (λ k le lt. c.end_at.ensures.rest k (omega arith) lt);
}
