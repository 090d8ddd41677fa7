use Rattle.std.proofs.Common.{◌≡◌, ◌+◌, ◌*◌, ◌≤◌, ◌<◌, false, ℕ}
use Rattle.locus_ids.specs.Sizes.{slot_pages, table_pages}
use Rattle.new_contents.specs.Changed.{is_changed}
use Rattle.inode_pack.proofs.new_tables.changes_under.Given as goal

-- none of the row so far is changed that stands under the table
abbrev pub invariant-loop-i : goal.invariant-loop-i
invariant-loop-i g l = (k : ℕ) → l.fn.row.first ≤ k → slot_pages + table_pages * l.table ≤ k → k < l.i → is_changed (g.C.NewContent.working l.content) k ≡ false
