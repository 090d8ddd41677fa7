use Rattle.std.proofs.Common.{◌≡◌, ◌<◌, ◌≤◌, ◌-◌, ℕ, length, get_or}
use Rattle.packet_queue.proofs.tables.filled.Given as goal

abbrev pub invariant-loop-made : goal.invariant-loop-made
invariant-loop-made g l = record {
  long : length l.piece.items ≡ 256;
  same : (j : ℕ) (d : _) → j < 256 → get_or l.piece.items j d ≡ l.fn.value;
  within : length l.made.items ≤ l.len;
  all : (j : ℕ) (d : _) → j < length l.made.items → get_or l.made.items j d ≡ l.fn.value;
}

abbrev pub decreases-loop-made : goal.decreases-loop-made
decreases-loop-made g l = l.len - length l.made.items
