-- What an event at an instance meets that may be none of the format: where this is of it, the event isn't refused as unfit.
use Rattle.std.specs.Prelude.{◌≡◌, ℕ, ◌+◌, ◌-◌, ◌<◌, ◌≤◌, true, false, List, length}
use Rattle.locus_ids.specs.Sizes.{inodes_max, pack_pages}
use Rattle.locus_ids.specs.declared.ids.Stamp.{Stamp}
use Rattle.file_content.specs.Pages.{pages_of, has_page}
use Rattle.trace_book.specs.declared.operation.Op.{Op}
use Rattle.trace_book.specs.declared.operation.Op.TheVariants as op
use Rattle.operation_effects.specs.Joinable.{AreJoinable}
use Rattle.role_steps.specs.Tables.{row, total}
use Rattle.role_steps.specs.Views.{Frame, file_key}
use Rattle.role_steps.specs.OperationEffects.{Mending}
use Rattle.role_steps.specs.Storage.{content_of, copy_key, copy_pages, is_spent, next_stamp, next_vector}
use Rattle.role_steps.specs.declared.copies.FileCopy.{FileCopy}
use Rattle.role_steps.specs.declared.instances.Instance.{Instance}
use Rattle.role_steps.specs.declared.instances.Stage.{Stage}
use Rattle.role_steps.specs.declared.instances.Stage.TheVariants as stage
use Rattle.stored_versions.specs.Versions.{IsVersion}
use Rattle.stored_versions.specs.declared.new_version.NewVersion.{NewVersion}
use Rattle.stored_versions.specs.Changes.{ArePages, IsKept}
use Rattle.site_packs.specs.Packs.{has_group}

-- the version that a commit of the instance makes, of this vector and stamp
abbrev pub version_of : Instance → List ℕ → Stamp → NewVersion
version_of i vector stamp = record { kind = i.kind; set = i.set; stamp = stamp; vector = vector }

-- The working content may be stored as the version of this vector and stamp, where the site has packs of these groups with these
-- copies: the changed pages have room in the file's pack, its number is an inode's, a slot may say what the version is, and each
-- page that wasn't changed is that of the copy.
pub record CanStore (groups : List ℕ) (copies : List FileCopy) (i : Instance) (vector : List ℕ) (stamp : Stamp) : Type 0 where
  pub group : has_group groups i.file.group ≡ true
  pub room : length i.work.changed ≤ pack_pages - total (copy_pages i.file.group) copies
  pub low : 1 ≤ i.file.ino
  pub high : i.file.ino ≤ inodes_max
  pub version : IsVersion (version_of i vector stamp) (length i.work.content)
  pub pages : ArePages (pages_of (length i.work.content)) i.work.changed
  pub kept : (page : ℕ) → page < pages_of (length i.work.content) → has_page i.work.changed page ≡ false → IsKept (content_of (row copy_key (file_key i.file) copies)) i.work.content page

-- what the instance owes may be stored, where it owes something and its counter can rise
abbrev pub CanCommit : Frame → List ℕ → List FileCopy → Instance → Type 0
CanCommit f groups copies i = i.work.owes ≡ true → is_spent f i ≡ false → CanStore groups copies i (next_vector f i) (next_stamp f (next_vector f i))

-- a commit has what may be stored, and a mend contents that can be joined; any other operation asks for nothing
abbrev pub CanExecute : Frame → Mending → List ℕ → List FileCopy → Instance → Op → Type 0
CanExecute f m groups copies i op.Commit = CanCommit f groups copies i
CanExecute f m groups copies i op.Mend = AreJoinable m.contents
CanExecute f m groups copies i _ = Unit {0}

-- the same where an operation of this number is executed: the instance runs, and the number is the next one
abbrev pub CanOperate : Frame → Mending → List ℕ → List FileCopy → Instance → Stage → ℕ → Op → Type 0
CanOperate f m groups copies i stage.Running n o = n ≡ i.work.ops + 1 → CanExecute f m groups copies i o
CanOperate f m groups copies i (stage.Closing made answer) n o = Unit {0}
CanOperate f m groups copies i (stage.Closed answer) n o = Unit {0}

-- a close of an instance that runs has what may be stored
abbrev pub CanClose : Frame → List ℕ → List FileCopy → Instance → Stage → Type 0
CanClose f groups copies i stage.Running = CanCommit f groups copies i
CanClose f groups copies i (stage.Closing made answer) = Unit {0}
CanClose f groups copies i (stage.Closed answer) = Unit {0}
