use Rattle.std.proofs.Common.{◌≡◌, ℕ, ◌+◌, ◌-◌, ◌<◌, ◌≤◌}
use Rattle.std.specs.Prelude.{slice_index}
use Rattle.world.specs.Reached.{boot_at}
use Rattle.world.proofs.open.are_told.Given as goal

abbrev pub invariant-loop-at : goal.invariant-loop-at
invariant-loop-at l = (t : ℕ) → 1 ≤ t → t < l.at + 1 → slice_index l.boots (t - 1) ≡ boot_at l.places t
