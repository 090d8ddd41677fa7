use Rattle.std.proofs.Common.{◌≡◌, ◌++◌, ◌&&◌, Some, take, drop}
use Rattle.std.specs.Prelude.{◌==◌}
use Rattle.promises.specs.Past.{Named}
use Rattle.promises.specs.After.{change, held_by}
use Rattle.audit_sites.proofs.names.hold_again.Given as goal

abbrev pub invariant-loop-row : goal.invariant-loop-row
invariant-loop-row l = l.rows ≡ change (λ (d : Named). (d.process == l.process) && (d.fd == l.fd)) (held_by (Some l.opening)) (take l.row-index l.fn.rows) ++ drop l.row-index l.fn.rows
