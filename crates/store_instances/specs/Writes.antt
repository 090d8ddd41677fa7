-- What becomes of the disk in a call of the role.
use Rattle.std.specs.Prelude.{◌≡◌, ℕ, List, [], ◌∷◌, ◌++◌, ◌⊎◌, length, Option, None, Some, is_some, Result, Ok, Err, Bool, IfErr, OnErr}
use Rattle.disk_model.specs.declared.disk.DiskFault.{DiskFault}
use Rattle.disk_model.specs.declared.disk.DiskFault.TheVariants.{Failed}
use Rattle.disk_model.specs.Disk.{Moment, Passing, Exactly, Goes, HasCause, TellsRead}
use Rattle.disk_model.specs.Images.{Same}
use Rattle.disk_model.specs.Moments.{LeavesOnly, TellsMany}
use Rattle.trace_book.specs.declared.record.Record.{Record}
use Rattle.wire_messages.specs.Outboxes.{Outgoing}
use Rattle.operation_effects.specs.declared.fault.EffectFault.{EffectFault}
use Rattle.operation_effects.specs.declared.fault.EffectFault.TheVariants as effect
use Rattle.role_steps.specs.Views.{DiskWrite, Frame}
use Rattle.role_steps.specs.Storage.{commit_write, next_stamp}
use Rattle.role_steps.specs.declared.instances.Instance.{Instance}
use Rattle.site_packs.specs.declared.faults.CommitFault.{CommitFault}
use Rattle.site_packs.specs.declared.faults.CommitFault.TheVariants as commit
use Rattle.site_packs.specs.declared.faults.ReadFault.{ReadFault}
use Rattle.site_packs.specs.declared.faults.ReadFault.TheVariants as read
use Rattle.site_packs.specs.Committing.{MayBeLeft, blocks_over, calls_of}
use Rattle.site_packs.specs.Cutting.{IsCut}
use Rattle.site_packs.specs.Packs.{PacksState, copy_at}
use Rattle.store_instances.specs.declared.fault.StoreFault.{StoreFault}
use Rattle.store_instances.specs.declared.fault.StoreFault.TheVariants as fault

-- the fault of a call whose commit is refused so
abbrev pub fault_of_commit : CommitFault → StoreFault
fault_of_commit commit.Disk = fault.Disk
fault_of_commit (commit.Cut size) = fault.Cut size
fault_of_commit commit.NoSpace = fault.Unfit
fault_of_commit commit.Unfit = fault.Unfit
fault_of_commit commit.NoMemory = fault.NoMemory

-- the fault of a call whose operation is refused so
abbrev pub fault_of_effect : EffectFault → StoreFault
fault_of_effect effect.Unfit = fault.Unfit
fault_of_effect effect.NoMemory = fault.NoMemory

-- the fault of a call whose read is refused so
abbrev pub fault_of_read : ReadFault → StoreFault
fault_of_read read.Disk = fault.Disk
fault_of_read read.NoMemory = fault.NoMemory

-- what the disk calls of a call answered
abbrev pub disk_answer : {T : Type 0} → Result T StoreFault → Result (Unit {0}) DiskFault
disk_answer (Ok done) = Ok tt
disk_answer (Err fault.Disk) = Err Failed
disk_answer (Err (fault.Cut size)) = Err Failed
disk_answer (Err fault.Unfit) = Ok tt
disk_answer (Err fault.NoMemory) = Ok tt

-- the write of an instance's working content as the version of this vector
abbrev pub write_as : Frame → Instance → List ℕ → DiskWrite
write_as f i vector = commit_write f i vector (next_stamp f vector)

-- the pages and tables that it writes
abbrev pub blocks_in : PacksState → List ℕ → DiskWrite → ℕ
blocks_in p image w = blocks_over (copy_at p image w.copy.file) w.copy.content w.pages

-- the writes and syncs that it makes
abbrev pub calls_in : PacksState → List ℕ → Option DiskWrite → ℕ
calls_in p image None = 0
calls_in p image (Some w) = calls_of (blocks_in p image w) (is_some (copy_at p image w.copy.file))

-- what a crash within it may leave
abbrev pub MayLeave : PacksState → Option DiskWrite → List ℕ → List ℕ → Type 0
MayLeave p None old new = new ≡ old
MayLeave p (Some w) old new = MayBeLeft p w.copy old new

-- the same whatever the call answers: where it stopped before the write, or makes none, all is as it was
abbrev pub LeavesEver : PacksState → Option DiskWrite → Moment → Moment → Type 0
LeavesEver p write old new = LeavesOnly old new (λ image. (image ≡ old.seen) ⊎ MayLeave p write old.seen image)

-- the record of a version, which is told before it is written
abbrev pub told_first : Option DiskWrite → List Record
told_first None = []
told_first (Some w) = w.says ∷ []

-- where the disk tells how many calls pass, it fails exactly where they are fewer than the write makes; after another fault nothing is said
abbrev pub TellsWrite : {T : Type 0} → ℕ → Passing → Passing → Result T StoreFault → Type 0
TellsWrite calls before after (Ok done) = TellsMany {T = Unit {0}} {E = DiskFault} calls before after (Ok tt)
TellsWrite calls before after (Err fault.Disk) = TellsMany {T = Unit {0}} {E = DiskFault} calls before after (Err Failed)
TellsWrite calls before after (Err (fault.Cut size)) = TellsMany {T = Unit {0}} {E = DiskFault} calls before after (Err Failed)
TellsWrite calls before after (Err fault.Unfit) = Unit {0}
TellsWrite calls before after (Err fault.NoMemory) = Unit {0}

-- The disk failed in a call that makes this write or none: a crash at any moment of it leaves the copies as they were or with
-- the new one, and what is told is the version's record; nothing is sent.
pub record Stopped (write : Option DiskWrite) (p : PacksState) (old new : Moment) (before after : Outgoing) : Type 0 where
  pub leaves : LeavesOnly old new (MayLeave p write old.seen)
  pub records : after.records ≡ before.records ++ told_first write
  pub packets : after.packets ≡ before.packets

-- what a crash leaves where the disk cuts off the write after so many calls
abbrev pub IsCutIn : Option DiskWrite → PacksState → Moment → Moment → ℕ → Type 0
IsCutIn None p old new passed = ⊥
IsCutIn (Some w) p old new passed = IsCut p w.copy (blocks_in p old.seen w) old.how passed old.seen new.left

-- a write that was cut off was of so many pages and tables, and replaced another version or not
abbrev pub HasSize : ℕ → Bool → StoreFault → Type 0
HasSize blocks replaces (fault.Cut size) = (size.blocks ≡ blocks) × (size.replaces ≡ replaces)
HasSize blocks replaces fault.Disk = Unit {0}
HasSize blocks replaces fault.Unfit = Unit {0}
HasSize blocks replaces fault.NoMemory = Unit {0}

abbrev pub IsUncut : StoreFault → Type 0
IsUncut (fault.Cut size) = ⊥
IsUncut fault.Disk = Unit {0}
IsUncut fault.Unfit = Unit {0}
IsUncut fault.NoMemory = Unit {0}

-- where nothing is written nothing is cut off
abbrev pub HasSizeOf : Option DiskWrite → PacksState → List ℕ → StoreFault → Type 0
HasSizeOf None p image f = IsUncut f
HasSizeOf (Some w) p image f = HasSize (blocks_in p image w) (is_some (copy_at p image w.copy.file)) f

-- what becomes of the disk in a call that makes this write or none
pub record Writes {T : Type 0} (write : Option DiskWrite) (p : PacksState) (old new : Moment) (before after : Outgoing) (result : Result T StoreFault) : Type 0 where
  pub stopped : disk_answer result ≡ Err Failed → Stopped write p old new before after
  -- whatever it answers
  pub leaves : LeavesEver p write old new
  -- where a read failed nothing is written
  pub unread : result ≡ Err fault.Disk → new.seen ≡ old.seen
  pub cause : HasCause old.faults new.faults (disk_answer result)
  pub tells : TellsWrite (calls_in p old.seen write) old.passing new.passing result
  -- where it tells how many calls pass it fails in the write alone, and a crash then leaves just this
  pub told : (passed : ℕ) → old.passing ≡ Exactly passed → result ≡ Err fault.Disk → ⊥
  pub cut : (passed : ℕ) → old.passing ≡ Exactly passed → OnErr (disk_answer result) (IsCutIn write p old new passed)
  pub size : IfErr result (HasSizeOf write p old.seen)
  pub how : new.how ≡ old.how

-- what becomes of the disk in a call that only reads
pub record Reads {T : Type 0} (old new : Moment) (result : Result T StoreFault) : Type 0 where
  pub seen : new.seen ≡ old.seen
  pub how : new.how ≡ old.how
  pub same : Goes Same old new
  pub cause : HasCause old.faults new.faults (disk_answer result)
  pub tells : TellsRead old.passing new.passing (disk_answer result)
