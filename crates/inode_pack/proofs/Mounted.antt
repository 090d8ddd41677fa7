-- A mount leaves a pack as it was.
use Rattle.std.proofs.Common.{◌≡◌, ◌≤◌, ◌+◌, ◌∙◌, subst, sym, List, ℕ, Bool, length, refl, arith}
use Rattle.std.specs.Prelude.{Option, Result, Ok, Err, IfErr, IsErrAnd}
use Rattle.locus_ids.specs.Sizes.{inodes_max}
use Rattle.pack_layout.specs.Layout.{area_length}
use Rattle.pack_slots.specs.declared.inode_copy.InodeCopy.{InodeCopy}
use Rattle.pack_slots.specs.declared.mount_fault.MountFault.{MountFault}
use Rattle.pack_slots.specs.declared.mount_fault.MountFault.TheVariants.{Disk, NotAPack, BadSlot, SharedTable, SharedPage, NoMemory}
use Rattle.inode_pack.specs.Pack.{PackState, Shows}
use Rattle.pack_slots.specs.Copies.{AreCopies, IsPackOf, ShowsCopies, copy_of}
use Rattle.pack_slots.specs.Mounting.{IsSound, IsCause, IsPassing, Recovers, KeepsPack}
use Rattle.pack_slots.specs.Losing.{KeepsCopies, AreFound, is_losing}
use Rattle.pack_slots.proofs.Counting.{found_counts}
use Rattle.pack_slots.proofs.SoundPack.{found_sound}
use Rattle.gate_switch.proofs.Tearing.{torn_widens, torn_stays, bytes_below}

pub keeps_itself : (base group site : ℕ) (image : List ℕ) → KeepsPack base group site image image
keeps_itself base group site image = record { outside = torn_stays base area_length image; view = λ ino low high. refl; sound = λ is. is; tables = λ ino half low high had. had; order = record { n = 0; closed = λ ino low le. absurd (omega arith); others = λ ino beyond high. refl } }

-- the first bytes of the area stay
pub named_still : (base group site : ℕ) (copies : List (Option InodeCopy)) (old new : List ℕ) → KeepsCopies base copies old new → IsPackOf base group site old → IsPackOf base group site new
named_still base group site copies old new kept named = bytes_below (base + 1024) 2097152 old new kept.slots base 1024 (omega arith) ∙ named

pub keeps_pack : (base group site : ℕ) (copies : List (Option InodeCopy)) (old new : List ℕ) → AreCopies copies → KeepsCopies base copies old new → KeepsPack base group site old new
keeps_pack base group site copies old new are kept = record {
  outside = torn_widens (base + 1024) 2097152 base area_length (omega arith) (omega arith) old new kept.slots;
  view = kept.view;
  sound = λ is. found_sound base group site new copies are (named_still base group site copies old new kept is.named) kept.found;
  tables = kept.tables;
  order = kept.order;
}

pub mounted : (pack : PackState) (old new : List ℕ) → pack.base + area_length ≤ length old → IsPackOf pack.base pack.group pack.site old → KeepsCopies pack.base pack.copies old new → ShowsCopies pack.base new (copy_of pack.copies) → Shows pack new
mounted pack old new area named kept shows =
    let long = kept.slots.long in
    record { area = omega arith; named = named_still pack.base pack.group pack.site pack.copies old new kept named; copies = shows }

pub recovered : (base : ℕ) (image : List ℕ) (copies : List (Option InodeCopy)) (losing : List Bool) → AreFound base inodes_max image copies losing → Recovers base image copies
recovered base image copies losing found ino low high = found_counts base ino image (copy_of copies ino) (is_losing losing ino) (found ino low high)

-- a sound image gives no cause
no_cause : (base group site : ℕ) (image : List ℕ) (fault : MountFault) → IsSound base group site image → IsCause base group site image fault → IsPassing fault
no_cause base group site image Disk sound cause = tt
no_cause base group site image NotAPack sound cause = cause sound.named
no_cause base group site image (BadSlot ino) sound cause = cause.1.bad (sound.inodes ino cause.1.low cause.1.high)
no_cause base group site image (SharedTable number) sound cause = sound.tables number cause.1.shared
no_cause base group site image (SharedPage number) sound cause = sound.pages number cause.1.shared
no_cause base group site image NoMemory sound cause = tt

pub mounts : {T : Type 0} (base group site : ℕ) (image : List ℕ) (result : Result T MountFault) (fault : MountFault) → IsErrAnd result (λ e. e ≡ fault) → IsCause base group site image fault → IsSound base group site image → IfErr result (λ e. IsPassing e)
mounts base group site image (Ok pack) fault is cause sound = tt
mounts base group site image (Err e) fault is cause sound = no_cause base group site image e sound (subst (λ (f : MountFault). IsCause base group site image f) (sym is) cause)
