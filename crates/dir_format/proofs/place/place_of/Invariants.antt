use Rattle.std.proofs.Common.{◌≡◌, ◌++◌, take, drop}
use Rattle.dir_format.specs.Entries.{with_entry}
use Rattle.dir_format.proofs.place.place_of.Given as goal

abbrev pub invariant-loop-i : goal.invariant-loop-i
invariant-loop-i l = take l.i l.entries ++ with_entry l.e (drop l.i l.entries) ≡ with_entry l.e l.entries
