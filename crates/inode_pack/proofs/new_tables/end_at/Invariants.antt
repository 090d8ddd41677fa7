use Rattle.std.proofs.Common.{◌≡◌, ◌≤◌, ◌<◌, ℕ, slice_index}
use Rattle.inode_pack.proofs.new_tables.end_at.Given as goal

abbrev pub invariant-loop-k : goal.invariant-loop-k
invariant-loop-k l = record {
  before : (j : ℕ) → j < l.end → slice_index l.tables j ≡ slice_index l.initial.tables j;
  rest : (j : ℕ) → l.end ≤ j → j < l.k → slice_index l.tables j ≡ 65535;
}
