use Rattle.std.proofs.Common.{◌≡◌, ◌-◌, take, length}
use Rattle.locus_ids.specs.Sizes.{slot_pages}
use Rattle.field_codec.specs.Codec.{u16}
use Rattle.field_codec.proofs.Loop.{with_front}
use Rattle.pack_layout.proofs.Laws.{times}
use Rattle.pack_layout.proofs.read.read_pages.Given as goal

-- those so far and those still to be read are all
abbrev pub invariant-loop-i : goal.invariant-loop-i
invariant-loop-i l = (length l.pages ≡ slot_pages) × (with_front (take l.i l.pages) (times u16 (slot_pages - l.i) l.fields) ≡ times u16 slot_pages l.initial.fields)
