use Rattle.std.proofs.Common.{◌≡◌, ◌++◌, take}
use Rattle.pack_slots.proofs.tables.add_all.Given as goal

abbrev pub invariant-loop-number : goal.invariant-loop-number
invariant-loop-number l = l.out ≡ l.initial.out ++ take l.number-index l.numbers
