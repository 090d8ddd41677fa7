use Rattle.std.proofs.Common.{◌≡◌, ◌++◌, take}
use Rattle.std.specs.List.{flat_map}
use Rattle.wire_fields.specs.Parts.{stamps}
use Rattle.wire_parts.proofs.stamps.put_stamps.Given as goal

abbrev pub invariant-loop-stamp : goal.invariant-loop-stamp
invariant-loop-stamp l = l.out ≡ l.initial.out ++ flat_map stamps.spell (take l.stamp-index l.list)
