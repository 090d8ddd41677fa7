use Rattle.std.proofs.Common.{◌≡◌, ◌-◌, drop}
use Rattle.locus_ids.specs.Sizes.{pack_pages}
use Rattle.audit_rows.specs.Room.{pages_held}
use Rattle.audit_rows.proofs.room.pages_left.Given as goal

abbrev pub invariant-loop-copy : goal.invariant-loop-copy
invariant-loop-copy l = l.left - pages_held l.versions (drop l.copy-index l.copies) l.group ≡ pack_pages - pages_held l.versions l.copies l.group
