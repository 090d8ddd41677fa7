use Rattle.std.proofs.Common.{◌≡◌, ℕ, ◌≤◌, ◌<◌, ◌-◌, length}
use Rattle.std.specs.Prelude.{slice_index}
use Rattle.locus_ids.specs.Sizes.{sites_max}
use Rattle.world.specs.States.{boot_at}
use Rattle.world.proofs.sites.boots_of.Given as goal

abbrev pub invariant-loop-site : goal.invariant-loop-site
invariant-loop-site l = record {
  room : length l.boots ≡ sites_max;
  each : (t : ℕ) → 1 ≤ t → t < l.site → slice_index l.boots (t - 1) ≡ boot_at l.places t;
}
