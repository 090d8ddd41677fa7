use Rattle.std.proofs.Common.{◌≡◌, ◌++◌, drop}
use Rattle.dir_format.specs.Grammar.{dir_bytes}
use Rattle.mixed_dirs.specs.Mixed.{with_kinds}
use Rattle.mixed_dirs.proofs.spelling.spell.Given as goal

abbrev pub invariant-loop-i : goal.invariant-loop-i
invariant-loop-i l = l.bytes ++ dir_bytes (with_kinds (drop l.i l.others) (drop l.i l.entries)) ≡ dir_bytes (with_kinds l.others l.d)
