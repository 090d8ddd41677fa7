use Rattle.std.proofs.Common.{ℕ, ◌≡◌, ◌-◌, ◌<◌, ◌≤◌, true, false}
use Rattle.std.specs.Prelude.{slice_index, slice_index_or}
use Rattle.packet_queue.proofs.queue.skip.Given as goal

abbrev pub invariant-loop-at : goal.invariant-loop-at
invariant-loop-at l = record {
  below : (m : ℕ) → m < l.count → slice_index_or l.underway m false ≡ true → slice_index l.circuits m ≡ l.circuit → l.at ≤ m;
  there : l.at < 4294967295 → (l.at < l.count) × (slice_index l.circuits l.at ≡ l.circuit);
}

abbrev pub decreases-loop-at : goal.decreases-loop-at
decreases-loop-at l = l.count - l.at
