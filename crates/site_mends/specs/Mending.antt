-- The mends that start at the end of an event.
use Rattle.std.specs.Prelude.{◌≡◌, ℕ, ◌≤◌, List, Option, None, Some, Result, Ok, OnOk, IfErr}
use Rattle.locus_ids.specs.declared.ids.FileId.{FileId}
use Rattle.disk_model.specs.declared.disk.DiskFault.{DiskFault}
use Rattle.disk_model.specs.Disk.{Moment, Goes, Rose, TellsRead, Untold}
use Rattle.disk_model.specs.Images.{Same}
use Rattle.site_frame.specs.of_role_steps.Views.{SiteView, Users}
use Rattle.site_frame.specs.of_role_steps.Mends.{row_file}
use Rattle.site_frame.specs.of_role_steps.declared.synchronizing.SyncTable.{SyncTable}
use Rattle.site_frame.specs.of_role_steps.declared.synchronizing.FileRow.{FileRow}
use Rattle.site_packs.specs.Copies.{copies_on}
use Rattle.site_packs.specs.Packs.{PacksState, Stand, groups_of}
use Rattle.site_packs.specs.declared.faults.ReadFault.{ReadFault}
use Rattle.site_packs.specs.declared.faults.ReadFault.TheVariants as read
use Rattle.site_mends.specs.declared.fault.MendFault.{MendFault}
use Rattle.site_mends.specs.declared.fault.MendFault.TheVariants.{NoMemory, Disk, Unfit}

-- the view has the copies that the packs hold in this image, and these users
pub record IsSeen (v : SiteView) (packs : PacksState) (image : List ℕ) (now : Users) : Type 0 where
  pub copies : v.store.copies ≡ copies_on (groups_of packs) image
  pub users : v.users ≡ now

abbrev pub fault_of_read : ReadFault → MendFault
fault_of_read read.Disk = Disk
fault_of_read read.NoMemory = NoMemory

-- a read fails only where the disk's count of faults rose, and where it didn't tell how many calls pass
abbrev pub IsCause : Moment → Moment → MendFault → Type 0
IsCause old new Disk = Rose old.faults new.faults × (old.passing ≡ Untold)
IsCause old new NoMemory = Unit {0}
IsCause old new Unfit = Unit {0}

-- no read failed
abbrev pub IsOffDisk : MendFault → Type 0
IsOffDisk Disk = ⊥
IsOffDisk NoMemory = Unit {0}
IsOffDisk Unfit = Unit {0}

-- the disk was read alone: a crash leaves what it left before, and after a call that ends well the disk tells as many further calls
pub record WasRead {T : Type 0} (packs : PacksState) (old new : Moment) (result : Result T MendFault) : Type 0 where
  pub seen : new.seen ≡ old.seen
  pub stands : Stand packs new
  pub how : new.how ≡ old.how
  pub same : Goes Same old new
  pub passes : OnOk result (TellsRead {T = Unit {0}} {E = DiskFault} old.passing new.passing (Ok tt))
  pub later : old.faults ≤ new.faults
  pub cause : IfErr result (IsCause old new)

abbrev pub file_in : SyncTable → Option FileRow → Option FileId
file_in t None = None
file_in t (Some r) = Some (row_file t r)
