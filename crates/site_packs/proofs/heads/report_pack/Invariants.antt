use Rattle.std.proofs.Common.{◌≡◌, ◌+◌, ◌++◌, drop}
use Rattle.site_packs.specs.Packs.{slots_from}
use Rattle.site_packs.proofs.heads.report_pack.Given as goal

abbrev pub invariant-loop-i : goal.invariant-loop-i
invariant-loop-i l = l.out ++ slots_from (l.i + 1) (drop l.i l.pack.copies) ≡ l.initial.out ++ slots_from 1 l.pack.copies
