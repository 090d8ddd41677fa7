use Rattle.std.proofs.Common.{◌≡◌, ◌≤◌, ◌+◌, ◌-◌, ℕ, List, length}
use Rattle.std.specs.Prelude.{filter}
use Rattle.locus_ids.specs.Sizes.{content_tables_max}
use Rattle.file_content.specs.Pages.{pages_of, pages_from, is_table_written, tables_written}
use Rattle.page_marks.specs.Marking.{AreMarked}
use Rattle.page_marks.proofs.tables.tables_written.Given as goal

abbrev pub invariant-loop-table : goal.invariant-loop-table
invariant-loop-table l = record {
  few : l.written ≤ l.table;
  counts : (changed : List ℕ) → AreMarked (pages_of l.size) changed l.marks → l.written + length (filter (is_table_written l.before (pages_of l.size) changed) (pages_from l.table (content_tables_max - l.table))) ≡ length (tables_written l.before (pages_of l.size) changed);
}
