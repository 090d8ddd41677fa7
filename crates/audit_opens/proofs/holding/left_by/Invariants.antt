use Rattle.std.proofs.Common.{◌≡◌, ◌==◌, [], drop}
use Rattle.promises.specs.Past.{Left, first_or}
use Rattle.audit_opens.proofs.holding.left_by.Given as goal

abbrev pub invariant-loop-row : goal.invariant-loop-row
invariant-loop-row l = first_or (record { site = l.site; held = [] }) (λ (r : Left). r.site == l.site) (drop l.row-index l.left) ≡ first_or (record { site = l.site; held = [] }) (λ (r : Left). r.site == l.site) l.left
