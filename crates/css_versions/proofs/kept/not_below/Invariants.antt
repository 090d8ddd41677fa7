use Rattle.std.proofs.Common.{◌≡◌, ◌++◌, drop}
use Rattle.role_steps.specs.Versions.{not_below}
use Rattle.css_versions.proofs.kept.not_below.Given as goal

abbrev pub invariant-loop-other : goal.invariant-loop-other
invariant-loop-other l = l.made.items ++ not_below l.version (drop l.other-index l.others) ≡ not_below l.version l.others
