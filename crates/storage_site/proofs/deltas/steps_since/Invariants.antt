use Rattle.std.proofs.Common.{◌≡◌, drop}
use Rattle.role_steps.specs.Storage.{pages_since}
use Rattle.storage_site.proofs.Chains.{written_to}
use Rattle.storage_site.proofs.deltas.steps_since.Given as goal

-- the steps up to this place lead back to a version, from which the others go on
abbrev pub invariant-loop-place : goal.invariant-loop-place
invariant-loop-place l = pages_since l.own l.fn.wanted l.steps ≡ written_to l.place l.steps (pages_since l.own l.at (drop l.place l.steps))
