use Rattle.std.proofs.Common.{◌≡◌, drop}
use Rattle.role_steps.specs.Versions.{is_below_some}
use Rattle.css_versions.proofs.kept.is_below_some.Given as goal

abbrev pub invariant-loop-other : goal.invariant-loop-other
invariant-loop-other l = is_below_some l.version (drop l.other-index l.others) ≡ is_below_some l.version l.others
