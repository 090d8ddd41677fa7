use Rattle.std.proofs.Common.{◌≡◌, ℕ, ◌≤◌, ◌-◌, length, Some}
use Rattle.std.specs.Prelude.{slice_get}
use Rattle.locus_ids.specs.Sizes.{sites_max}
use Rattle.circuits.specs.Circuits.{reached_boots}
use Rattle.world.proofs.open.links_of_all.Given as goal

abbrev pub invariant-loop-at : goal.invariant-loop-at
invariant-loop-at l = record {
  room : length l.links ≡ sites_max;
  each : (s : ℕ) → 1 ≤ s → s ≤ l.at → slice_get l.links (s - 1) ≡ Some (reached_boots l.cuts l.boots s);
}
