use Rattle.std.proofs.Common.{◌≡◌, ◌++◌, take}
use Rattle.std.specs.List.{flat_map}
use Rattle.field_codec.specs.Codec.{u32}
use Rattle.wire_parts.proofs.vectors.put_counters.Given as goal

abbrev pub invariant-loop-counter : goal.invariant-loop-counter
invariant-loop-counter l = l.out ≡ l.initial.out ++ flat_map u32.spell (take l.counter-index l.counters)
