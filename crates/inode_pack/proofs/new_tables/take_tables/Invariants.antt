use Rattle.std.proofs.Common.{false}
use Rattle.std.specs.Prelude.{slice_index_or}
use Rattle.locus_ids.specs.Sizes.{content_tables_max, pack_tables}
use Rattle.inode_pack.specs.Committing.{is_free_table, table_in}
use Rattle.inode_pack.proofs.Taking.{TakesSoFar}
use Rattle.inode_pack.proofs.new_tables.take_tables.Given as goal

-- as with pages
abbrev pub invariant-loop-k : goal.invariant-loop-k
invariant-loop-k l = TakesSoFar content_tables_max pack_tables (is_free_table l.copies) (table_in l.old) (λ k. slice_index_or l.written k false) l.k l.from l.tables
