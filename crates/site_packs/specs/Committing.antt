-- What a commit makes of the copies of a site, when it is refused, and what a crash within it leaves.
use Rattle.std.specs.Prelude.{◌≡◌, ◌⊎◌, ℕ, ◌+◌, ◌-◌, ◌*◌, ◌<◌, ◌≤◌, Bool, true, false, cond, List, length, Option, is_some, Result, Ok, Err}
use Rattle.locus_ids.specs.Sizes.{inodes_max, pack_pages}
use Rattle.locus_ids.specs.declared.ids.FileId.{FileId}
use Rattle.disk_model.specs.declared.disk.DiskFault.{DiskFault}
use Rattle.disk_model.specs.declared.disk.DiskFault.TheVariants.{Failed}
use Rattle.disk_model.specs.Images.{Torn}
use Rattle.file_content.specs.Pages.{pages_of, has_page, tables_written}
use Rattle.pack_layout.specs.Layout.{layout, area_length}
use Rattle.pack_layout.specs.of_stored_versions.declared.new_version.NewVersion.{NewVersion}
use Rattle.pack_layout.specs.of_stored_versions.Changes.{ArePages, IsKept}
use Rattle.pack_layout.specs.of_stored_versions.Versions.{IsVersion}
use Rattle.inode_pack.specs.declared.pack_fault.PackFault.{PackFault}
use Rattle.inode_pack.specs.declared.pack_fault.PackFault.TheVariants as pack
use Rattle.role_steps.specs.Tables.{with_row, total}
use Rattle.role_steps.specs.Storage.{copy_key, copy_pages, content_of}
use Rattle.role_steps.specs.declared.copies.FileCopy.{FileCopy}
use Rattle.site_packs.specs.declared.faults.CommitFault.{CommitFault}
use Rattle.site_packs.specs.declared.faults.CommitFault.TheVariants.{Disk, Cut, NoSpace, Unfit, NoMemory}
use Rattle.site_packs.specs.declared.faults.ReadFault.{ReadFault}
use Rattle.site_packs.specs.declared.faults.ReadFault.TheVariants as read
use Rattle.site_packs.specs.Copies.{copies_on}
use Rattle.site_packs.specs.Packs.{PacksState, groups_of, has_group, copy_at}
use Rattle.site_packs.specs.Mounting.{AreSound, AreTablesKept}

-- the copy that a commit makes of a file
abbrev pub copy_made : FileId → NewVersion → List ℕ → FileCopy
copy_made file version content = record { file = file; kind = version.kind; set = version.set; stamp = version.stamp; vector = version.vector; content = content }

-- the site may keep a version of the file with so many bytes: it has a pack of the group, the inode is one, and a slot may say so
pub record IsWholeFit (p : PacksState) (file : FileId) (given : NewVersion) (bytes : ℕ) : Type 0 where
  pub group : has_group (groups_of p) file.group ≡ true
  pub low : 1 ≤ file.ino
  pub high : file.ino ≤ inodes_max
  pub version : IsVersion given bytes

-- The site may keep the version with this content: the changed pages are pages of it, each once, and any other page is that of
-- the copy so far.
pub record IsFit (p : PacksState) (image : List ℕ) (file : FileId) (given : NewVersion) (content changed : List ℕ) : Type 0 where
  pub whole : IsWholeFit p file given (length content)
  pub pages : ArePages (pages_of (length content)) changed
  pub kept : (page : ℕ) → page < pages_of (length content) → has_page changed page ≡ false → IsKept (content_of (copy_at p image file)) content page

-- the data pages of the group's pack that no copy has
abbrev pub room : PacksState → List ℕ → ℕ → ℕ
room p image group = pack_pages - total (copy_pages group) (copies_on (groups_of p) image)

-- What a crash within a commit leaves: the old copies or the new ones, in packs that mount, each open slot with its tables as
-- before, also one that doesn't count; outside the packs all is as before.
pub record MayBeLeft (p : PacksState) (made : FileCopy) (old new : List ℕ) : Type 0 where
  pub copies : (copies_on (groups_of p) new ≡ copies_on (groups_of p) old) ⊎ (copies_on (groups_of p) new ≡ with_row copy_key made (copies_on (groups_of p) old))
  pub sound : AreSound p.site (groups_of p) new
  pub tables : AreTablesKept old new
  pub outside : Torn layout.label_length (area_length * length (groups_of p)) old new

-- the pages and the tables that are written of a version with this content, of which these pages are, over the copy so far
abbrev pub blocks_over : Option FileCopy → List ℕ → List ℕ → ℕ
blocks_over held content pages = length pages + length (tables_written (pages_of (length (content_of held))) (pages_of (length content)) pages)

-- each of these blocks, the body of the slot, a sync, the gate, a sync; and where an older slot was open its gate and a sync
abbrev pub calls_of : ℕ → Bool → ℕ
calls_of blocks had_older = blocks + (4 + cond had_older 2 0)

-- the writes and syncs of a commit; none where it is refused
abbrev pub commit_calls : {T : Type 0} → ℕ → Bool → Result T CommitFault → ℕ
commit_calls blocks had_older (Ok done) = calls_of blocks had_older
commit_calls blocks had_older (Err Disk) = calls_of blocks had_older
commit_calls blocks had_older (Err (Cut size)) = calls_of blocks had_older
commit_calls blocks had_older (Err NoSpace) = 0
commit_calls blocks had_older (Err Unfit) = 0
commit_calls blocks had_older (Err NoMemory) = 0

-- the same, as a pack answers
abbrev pub store_calls : {T : Type 0} → ℕ → Option FileCopy → Result T PackFault → ℕ
store_calls blocks old (Ok done) = calls_of blocks (is_some old)
store_calls blocks old (Err pack.Disk) = calls_of blocks (is_some old)
store_calls blocks old (Err (pack.NoSpace more free)) = 0
store_calls blocks old (Err pack.NoMemory) = 0

-- why a version isn't stored that the site may keep, where there is space
abbrev pub IsOfStore : PackFault → Type 0
IsOfStore pack.Disk = Unit {0}
IsOfStore (pack.NoSpace more free) = ⊥
IsOfStore pack.NoMemory = Unit {0}

-- what the disk calls of a commit answered
abbrev pub commit_answer : {T : Type 0} → Result T CommitFault → Result (Unit {0}) DiskFault
commit_answer (Ok done) = Ok tt
commit_answer (Err Disk) = Err Failed
commit_answer (Err (Cut size)) = Err Failed
commit_answer (Err NoSpace) = Ok tt
commit_answer (Err Unfit) = Ok tt
commit_answer (Err NoMemory) = Ok tt

-- what the disk calls of a read answered
abbrev pub read_answer : {T : Type 0} → Result T ReadFault → Result (Unit {0}) DiskFault
read_answer (Ok done) = Ok tt
read_answer (Err read.Disk) = Err Failed
read_answer (Err read.NoMemory) = Ok tt
