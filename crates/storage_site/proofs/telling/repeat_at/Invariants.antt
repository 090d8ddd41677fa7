use Rattle.std.proofs.Common.{◌≡◌, ℕ, ◌++◌, drop}
use Rattle.std.specs.Prelude.{slice_get}
use Rattle.std.specs.List.{flat_map}
use Rattle.storage_site.specs.Standing.{again_by}
use Rattle.storage_site.proofs.telling.repeat_at.Given as goal

abbrev pub invariant-loop-place : goal.invariant-loop-place
invariant-loop-place l = record {
  packets : l.out.packets ++ flat_map (λ (q : ℕ). again_by l.frame (slice_get l.rows q)) (drop l.place-index l.standing) ≡ l.initial.out.packets ++ flat_map (λ (q : ℕ). again_by l.frame (slice_get l.rows q)) l.standing;
  records : l.out.records ≡ l.initial.out.records;
}
