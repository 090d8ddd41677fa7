use Rattle.std.proofs.Common.{◌≡◌, ◌≤◌, ◌-◌, ℕ, length, get_or, vec_capacity}
use Rattle.disk_model.proofs.chunk.fill_up.Given as goal

abbrev pub invariant-loop-written : goal.invariant-loop-written
invariant-loop-written l = record {
  kept : (k : ℕ) → get_or l.written.items k 0 ≡ get_or l.fn.written.items k 0;
  within : length l.written.items ≤ l.end;
  room : vec_capacity l.fn.written ≤ vec_capacity l.written;
}

abbrev pub decreases-loop-written : goal.decreases-loop-written
decreases-loop-written l = l.end - length l.written.items
