use Rattle.std.proofs.Common.{◌≡◌, take, map}
use Rattle.past_laws.specs.of_promises.Past.{Copy}
use Rattle.audit_copies.proofs.known.stamps_of.Given as goal

abbrev pub invariant-loop-row : goal.invariant-loop-row
invariant-loop-row l = l.made ≡ map (λ (v : Copy). v.stamp) (take l.row-index l.rows)
