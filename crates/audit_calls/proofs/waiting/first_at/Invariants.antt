use Rattle.std.proofs.Common.{◌≡◌, drop}
use Rattle.std.specs.List.{find}
use Rattle.audit_calls.specs.Waiting.{is_at, place_in}
use Rattle.audit_calls.proofs.waiting.first_at.Given as goal

abbrev pub invariant-loop-w : goal.invariant-loop-w
invariant-loop-w l = place_in (find (is_at l.site) (drop l.w-index l.waiting)) ≡ place_in (find (is_at l.site) l.waiting)
