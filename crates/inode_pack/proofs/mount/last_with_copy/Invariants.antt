use Rattle.std.proofs.Common.{◌≡◌, ◌≤◌, ◌<◌, ℕ}
use Rattle.std.specs.Prelude.{slice_index_or, None}
use Rattle.inode_pack.proofs.mount.last_with_copy.Given as goal

-- none of those behind the last one so far
abbrev pub invariant-loop-i : goal.invariant-loop-i
invariant-loop-i l = record {
  most : l.last ≤ l.i;
  none : (k : ℕ) → l.last ≤ k → k < l.i → slice_index_or l.copies k None ≡ None;
}
