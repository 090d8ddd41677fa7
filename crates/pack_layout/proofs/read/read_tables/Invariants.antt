use Rattle.std.proofs.Common.{◌≡◌, ◌-◌, take, length}
use Rattle.locus_ids.specs.Sizes.{content_tables_max}
use Rattle.field_codec.specs.Codec.{u16}
use Rattle.field_codec.proofs.Loop.{with_front}
use Rattle.pack_layout.proofs.Laws.{times}
use Rattle.pack_layout.proofs.read.read_tables.Given as goal

-- those so far and those still to be read are all
abbrev pub invariant-loop-i : goal.invariant-loop-i
invariant-loop-i l = (length l.tables ≡ content_tables_max) × (with_front (take l.i l.tables) (times u16 (content_tables_max - l.i) l.fields) ≡ times u16 content_tables_max l.initial.fields)
