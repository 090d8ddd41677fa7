use Rattle.std.proofs.Common.{◌≡◌, ℕ, ◌++◌, drop}
use Rattle.std.specs.Prelude.{slice_get}
use Rattle.std.specs.List.{flat_map}
use Rattle.storage_site.specs.Standing.{made_by}
use Rattle.storage_site.proofs.opening.making_at.Given as goal

abbrev pub invariant-loop-place : goal.invariant-loop-place
invariant-loop-place l =
    l.making ++ flat_map (λ (q : ℕ). made_by l.group (slice_get l.rows q)) (drop l.place-index l.standing) ≡ flat_map (λ (q : ℕ). made_by l.group (slice_get l.rows q)) l.standing
