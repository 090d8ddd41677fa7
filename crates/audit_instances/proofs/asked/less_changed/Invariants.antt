use Rattle.std.proofs.Common.{◌≡◌, ◌-◌, drop}
use Rattle.audit_instances.specs.Rows.{pages_changed}
use Rattle.audit_instances.proofs.asked.less_changed.Given as goal

abbrev pub invariant-loop-row : goal.invariant-loop-row
invariant-loop-row l = l.left - pages_changed (drop l.row-index l.rows) l.group l.site ≡ l.pages - pages_changed l.rows l.group l.site
