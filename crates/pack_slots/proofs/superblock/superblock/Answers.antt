use Rattle.std.proofs.Common.{refl}
use Rattle.pack_slots.specs.Copies.{superblock}
use Rattle.pack_slots.proofs.superblock.superblock.Goals as goal

pub returns : goal.returns
unfolding superblock
returns c = rw c.copy_from_slice.ensures.after (rw c.get.ensures.value refl)
