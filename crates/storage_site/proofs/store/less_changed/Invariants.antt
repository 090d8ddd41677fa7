use Rattle.std.proofs.Common.{◌≡◌, ℕ, ◌-◌, drop}
use Rattle.std.specs.Prelude.{slice_get}
use Rattle.role_steps.specs.Tables.{total}
use Rattle.storage_site.specs.Standing.{changed_by}
use Rattle.storage_site.proofs.store.less_changed.Given as goal

abbrev pub invariant-loop-place : goal.invariant-loop-place
invariant-loop-place l =
    l.left - total (λ (q : ℕ). changed_by l.group (slice_get l.rows q)) (drop l.place-index l.standing) ≡ l.free - total (λ (q : ℕ). changed_by l.group (slice_get l.rows q)) l.standing
