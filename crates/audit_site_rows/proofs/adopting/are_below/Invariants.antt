use Rattle.std.proofs.Common.{◌≡◌, drop}
use Rattle.audit_site_rows.specs.Rows.{are_below}
use Rattle.audit_site_rows.proofs.adopting.are_below.Given as goal

abbrev pub invariant-loop-copy : goal.invariant-loop-copy
invariant-loop-copy l = are_below l.versions l.file l.stamp (drop l.copy-index l.held) ≡ are_below l.versions l.file l.stamp l.held
