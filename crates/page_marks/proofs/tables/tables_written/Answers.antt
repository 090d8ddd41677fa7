use Rattle.std.proofs.Common.{◌≡◌, ◌∙◌, ◌+◌, ◌-◌, ℕ, List, Bool, true, false, length, sym, subst, arith}
use Rattle.std.specs.Prelude.{filter, cond}
use Rattle.locus_ids.specs.Sizes.{content_tables_max}
use Rattle.file_content.specs.Pages.{pages_of, pages_from, is_table_written, tables_written}
use Rattle.page_marks.specs.Marking.{AreMarked}
use Rattle.page_marks.proofs.WrittenTables.{count_next}
use Rattle.page_marks.proofs.tables.tables_written.Goals.{then-is_table_written, else-is_table_written}
use Rattle.page_marks.proofs.tables.tables_written.Goals as goal

pub loop-table-preserved : goal.loop-table-preserved
loop-table-preserved c =
    let size = c.args.size in
    let marks = c.args.marks.now in
    let before = c.args.before in
    let table = c.loop-table.table in
    let few = c.loop-table.invariant.few in
    let many : c.div_ceil-now.result ≡ pages_of size = omega (arith, c.div_ceil-now.ensures) in
    let tells : (changed : List ℕ) → AreMarked (pages_of size) changed marks → c.is_table_written.result ≡ is_table_written before (pages_of size) changed table =
    (λ changed are. subst (λ (n : ℕ). c.is_table_written.result ≡ is_table_written before n changed table) many (c.is_table_written.ensures changed (subst (λ (n : ℕ). AreMarked n changed marks) (sym many) are))) in
    let next : (b : Bool) → c.is_table_written.result ≡ b → (changed : List ℕ) → AreMarked (pages_of size) changed marks → c.loop-table.written + cond b 1 0 + length (filter (is_table_written before (pages_of size) changed) (pages_from (table + 1) (content_tables_max - (table + 1)))) ≡ length (tables_written before (pages_of size) changed) =
    (λ b is changed are. count_next (is_table_written before (pages_of size) changed) table content_tables_max c.loop-table.written _ b c.loop-table-test.true (sym (tells changed are) ∙ is) (c.loop-table.invariant.counts changed are)) in
    elim c.if-is_table_written.branch [
      | then-is_table_written w ↦ record { few = omega (arith, w.written-is); counts = λ changed are. subst (λ (k : ℕ). k + length (filter (is_table_written before (pages_of size) changed) (pages_from (table + 1) (content_tables_max - (table + 1)))) ≡ length (tables_written before (pages_of size) changed)) (sym w.written-is) (next true w.if-is_table_written.true changed are) }
      | else-is_table_written w ↦ record { few = omega (arith, w.written-is); counts = λ changed are. subst (λ (k : ℕ). k + length (filter (is_table_written before (pages_of size) changed) (pages_from (table + 1) (content_tables_max - (table + 1)))) ≡ length (tables_written before (pages_of size) changed)) (omega (arith, w.written-is)) (next false w.if-is_table_written.false changed are) }
    ]
