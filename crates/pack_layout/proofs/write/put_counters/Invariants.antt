use Rattle.std.proofs.Common.{◌≡◌, ◌+◌, ◌*◌, ◌++◌, take}
use Rattle.std.specs.List.{flat_map}
use Rattle.std.specs.Int.{w32, to_be_bytes}
use Rattle.pack_layout.proofs.write.put_counters.Given as goal

abbrev pub invariant-loop-i : goal.invariant-loop-i
invariant-loop-i l = take (l.at + 4 * l.i) l.out ≡ take l.at l.initial.out ++ flat_map (to_be_bytes w32) (take l.i l.counters)
