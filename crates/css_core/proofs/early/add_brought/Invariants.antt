use Rattle.std.proofs.Common.{◌≡◌, ◌++◌, map, drop}
use Rattle.role_steps.specs.Reports.{brought_of}
use Rattle.css_core.proofs.early.add_brought.Given as goal

abbrev pub invariant-loop-version : goal.invariant-loop-version
invariant-loop-version l = l.made ++ map (brought_of l.ino) (drop l.version-index l.versions) ≡ l.initial.made ++ map (brought_of l.ino) l.versions
