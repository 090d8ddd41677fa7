use Rattle.std.proofs.Common.{◌≡◌, drop, ◌&&◌}
use Rattle.std.specs.Prelude.{◌==◌}
use Rattle.std.specs.List.{find}
use Rattle.promises.specs.Past.{Named}
use Rattle.audit_sites.proofs.names.named_in.Given as goal

abbrev pub invariant-loop-row : goal.invariant-loop-row
invariant-loop-row l = find (λ (d : Named). (d.process == l.process) && (d.fd == l.fd)) (drop l.row-index l.rows) ≡ find (λ (d : Named). (d.process == l.process) && (d.fd == l.fd)) l.rows
