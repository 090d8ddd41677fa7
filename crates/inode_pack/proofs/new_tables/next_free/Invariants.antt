use Rattle.std.proofs.Common.{◌≡◌, ◌≤◌, ◌<◌, true, ℕ}
use Rattle.std.specs.Prelude.{slice_index_or}
use Rattle.inode_pack.proofs.new_tables.next_free.Given as goal

-- those so far are used
abbrev pub invariant-loop-table : goal.invariant-loop-table
invariant-loop-table l = (k : ℕ) → l.from ≤ k → k < l.table → slice_index_or l.used k true ≡ true
