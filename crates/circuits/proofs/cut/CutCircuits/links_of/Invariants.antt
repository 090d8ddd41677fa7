use Rattle.std.proofs.Common.{◌≡◌, ℕ, ◌≤◌, ◌<◌, ◌-◌, length}
use Rattle.std.specs.Prelude.{slice_index}
use Rattle.locus_ids.specs.Sizes.{sites_max}
use Rattle.circuits.specs.Circuits.{reached_boot}
use Rattle.circuits.proofs.cut.CutCircuits.links_of.Given as goal

abbrev pub invariant-loop-to : goal.invariant-loop-to
invariant-loop-to l = record {
  room : length l.boot ≡ sites_max;
  each : (t : ℕ) → 1 ≤ t → t < l.to → slice_index l.boot (t - 1) ≡ reached_boot l.self l.boots l.from t;
}
