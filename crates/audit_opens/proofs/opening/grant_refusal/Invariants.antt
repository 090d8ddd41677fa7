use Rattle.std.proofs.Common.{◌≡◌, drop}
use Rattle.commit_graph.specs.Grants.{grant_refusal}
use Rattle.audit_opens.specs.Once.{openers_among}
use Rattle.audit_opens.proofs.opening.grant_refusal.Given as goal

abbrev pub invariant-loop-row : goal.invariant-loop-row
invariant-loop-row l = grant_refusal l.mode (openers_among (drop l.row-index l.rows) l.file) l.kept ≡ grant_refusal l.mode (openers_among l.rows l.file) l.kept
