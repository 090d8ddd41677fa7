use Rattle.std.proofs.Common.{◌≤◌, ℕ, ◌<◌, get_or}
use Rattle.pack_slots.proofs.uses.least_shared.Given as goal

abbrev pub invariant-loop-number : goal.invariant-loop-number
invariant-loop-number l = (lower : ℕ) → lower < l.number → get_or l.counts lower 0 ≤ 1
