use Rattle.std.proofs.Common.{ℕ, ◌≡◌, ◌<◌, ◌≤◌, true, false, length}
use Rattle.std.specs.Prelude.{slice_index, slice_index_or}
use Rattle.packet_queue.proofs.queue.least_head.Given as goal

abbrev pub invariant-loop-j : goal.invariant-loop-j
invariant-loop-j l = record {
  below : (j : ℕ) → j < l.j → slice_index_or l.up j false ≡ true → l.best ≤ slice_index l.first j;
  there : l.best < 4294967295 → (j : ℕ) × (j < length l.up) × (slice_index_or l.up j false ≡ true) × (slice_index l.first j ≡ l.best);
}
