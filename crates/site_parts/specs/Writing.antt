-- What becomes of the disk in an event of the site.
use Rattle.std.specs.Prelude.{◌≡◌, ℕ, ◌<◌, Bool, List, [], ◌∷◌, ◌++◌, length, Option, None, Some, is_some, Result, Ok, Err, IsOk, OnOk}
use Rattle.disk_model.specs.declared.disk.DiskFault.{DiskFault}
use Rattle.disk_model.specs.declared.disk.DiskFault.TheVariants.{Failed}
use Rattle.disk_model.specs.Disk.{Moment, All, Exactly, HasCause}
use Rattle.disk_model.specs.Moments.{TellsMany}
use Rattle.wire_messages.specs.Outboxes.{Outgoing}
use Rattle.role_steps.specs.Views.{DiskWrite}
use Rattle.site_packs.specs.declared.faults.WriteSize.{WriteSize}
use Rattle.site_packs.specs.Committing.{calls_of}
use Rattle.site_packs.specs.Cutting.{IsCut}
use Rattle.site_packs.specs.Packs.{PacksState, copy_at}
use Rattle.storage_site.specs.of_store_instances.Writes.{LeavesEver, blocks_in, calls_in}
use Rattle.site_parts.specs.declared.fault.NodeFault.{NodeFault}
use Rattle.site_parts.specs.declared.fault.NodeFault.TheVariants.{NoMemory, Disk, Cut, NoNumber, Unfit}

-- what the disk calls of an event answered
abbrev pub disk_answer : {T : Type 0} → Result T NodeFault → Result (Unit {0}) DiskFault
disk_answer (Ok done) = Ok tt
disk_answer (Err Disk) = Err Failed
disk_answer (Err (Cut size)) = Err Failed
disk_answer (Err NoMemory) = Ok tt
disk_answer (Err NoNumber) = Ok tt
disk_answer (Err Unfit) = Ok tt

-- the copy that a write replaces is there
abbrev pub replaces : PacksState → List ℕ → DiskWrite → Bool
replaces p image w = is_some (copy_at p image w.copy.file)

-- The disk cut this write off: it was of so many pages and tables, and replaced a copy or not; its record is told, and nothing else is told or
-- sent. Where the disk told how many calls pass, they were fewer than the write makes, and a crash then leaves just this.
pub record IsCutOff (w : DiskWrite) (p : PacksState) (size : WriteSize) (old new : Moment) (before after : Outgoing) : Type 0 where
  pub blocks : size.blocks ≡ blocks_in p old.seen w
  pub older : size.replaces ≡ replaces p old.seen w
  pub records : after.records ≡ before.records ++ w.says ∷ []
  pub packets : after.packets ≡ before.packets
  pub early : (passed : ℕ) → old.passing ≡ Exactly passed → passed < calls_of (blocks_in p old.seen w) (replaces p old.seen w)
  pub left : (passed : ℕ) → old.passing ≡ Exactly passed → IsCut p w.copy (blocks_in p old.seen w) old.how passed old.seen new.left

-- nothing is cut off where nothing is written
abbrev pub IsCutIn : Option DiskWrite → PacksState → WriteSize → Moment → Moment → Outgoing → Outgoing → Type 0
IsCutIn None p size old new before after = ⊥
IsCutIn (Some w) p size old new before after = IsCutOff w p size old new before after

-- What becomes of the disk in an event that makes this write or none, whatever the event answers.
pub record EventWrites {T : Type 0} (write : Option DiskWrite) (p : PacksState) (old new : Moment) (before after : Outgoing) (result : Result T NodeFault) : Type 0 where
  -- a crash at any moment leaves the copies as they were or with the new one, and nothing else changed
  pub leaves : LeavesEver p write old new
  pub how : new.how ≡ old.how
  -- where the disk tells how many calls pass, an event that ends well has made those of the write
  pub passes : OnOk result (TellsMany {T = Unit {0}} {E = DiskFault} (calls_in p old.seen write) old.passing new.passing (Ok tt))
  pub cut : (size : WriteSize) → result ≡ Err (Cut size) → IsCutIn write p size old new before after
  -- a disk fault is answered only where the disk has failed
  pub cause : HasCause old.faults new.faults (disk_answer result)
  -- where it tells how many calls pass, it fails in the write alone: that is cut off
  pub told : (passed : ℕ) → old.passing ≡ Exactly passed → result ≡ Err Disk → ⊥
  -- where all calls pass, it doesn't fail
  pub free : old.passing ≡ All → IsOk (disk_answer result)
