use Rattle.std.proofs.Common.{◌≡◌, drop}
use Rattle.role_steps.specs.Views.{all_sites}
use Rattle.epoch_rules.specs.Places.{reached_among}
use Rattle.epoch_rules.proofs.places.reached.Given as goal

abbrev pub invariant-loop-place : goal.invariant-loop-place
invariant-loop-place l = l.sites ≡ reached_among l.links (drop l.place all_sites)
