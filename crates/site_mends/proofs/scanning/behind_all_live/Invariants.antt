use Rattle.std.proofs.Common.{◌≡◌, List, true, length}
use Rattle.dir_reconcile.specs.declared.kept.KeptVector.{KeptVector}
use Rattle.site_mends.specs.Scanning.{are_past}
use Rattle.site_mends.proofs.scanning.behind_all_live.Given as goal

abbrev pub invariant-loop-behind : goal.invariant-loop-behind
invariant-loop-behind l = (kept : List KeptVector) → are_past kept l.rest ≡ true → are_past kept l.content ≡ true

abbrev pub decreases-loop-behind : goal.decreases-loop-behind
decreases-loop-behind l = length l.rest
