use Rattle.std.proofs.Common.{◌≡◌, ◌<◌, false, ℕ, length}
use Rattle.std.specs.Prelude.{slice_index_or}
use Rattle.locus_ids.specs.Sizes.{content_tables_max}
use Rattle.inode_pack.specs.Committing.{is_table_over}
use Rattle.inode_pack.proofs.new_tables.written_tables.Given as goal

-- those so far are marked
abbrev pub invariant-loop-k : goal.invariant-loop-k
invariant-loop-k g l = record {
  long : length l.written ≡ content_tables_max;
  marked : (j : ℕ) → j < l.k → slice_index_or l.written j false ≡ is_table_over l.old (g.C.NewContent.working l.content) j;
}
