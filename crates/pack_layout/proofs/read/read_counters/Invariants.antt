use Rattle.std.proofs.Common.{◌≡◌, ◌-◌, take, length}
use Rattle.locus_ids.specs.Sizes.{sites_max}
use Rattle.field_codec.specs.Codec.{u32}
use Rattle.field_codec.proofs.Loop.{with_front}
use Rattle.pack_layout.proofs.Laws.{times}
use Rattle.pack_layout.proofs.read.read_counters.Given as goal

-- those so far and those still to be read are all
abbrev pub invariant-loop-i : goal.invariant-loop-i
invariant-loop-i l = (length l.counters ≡ sites_max) × (with_front (take l.i l.counters) (times u32 (sites_max - l.i) l.fields) ≡ times u32 sites_max l.initial.fields)
