-- What a disk holds, by the trace: of each file the version that its site committed or adopted last.
use Rattle.std.specs.Prelude.{ℕ, ◌≡◌, ◌-◌, ◌==◌, ◌⊎◌, true, cond, List, [], ◌∷◌, ◌++◌, Option, Some, None, slice_index}
use Rattle.locus_ids.specs.declared.ids.FileId.{FileId}
use Rattle.locus_ids.specs.declared.ids.Stamp.{Stamp}
use Rattle.locus_ids.specs.declared.config.Config.{Config}
use Rattle.trace_book.specs.declared.record.Record.{Record}
use Rattle.trace_book.specs.declared.record.Record.TheVariants as says
use Rattle.run_laws.specs.of_role_steps.Own.{Every}
use Rattle.run_laws.specs.of_role_steps.Tables.{row, with_row}
use Rattle.run_laws.specs.of_role_steps.Views.{Told, Shown, DiskWrite, file_key}
use Rattle.run_laws.specs.of_role_steps.Storage.{copy_key}
use Rattle.run_laws.specs.of_role_steps.Versions.{is_below}
use Rattle.run_laws.specs.of_role_steps.declared.copies.FileCopy.{FileCopy}
use Rattle.run_laws.specs.of_the_run.Worlds.{World, Place, Line, place_at, formatted}
pub use Rattle.run_laws.specs.FactWalks.Facts.{copies_on}

-- ---- the last record of a version on a disk ----

-- a record of a version on this site's disk takes the place of the last one of its file; a disk tells files apart by keys
abbrev pub after_record : ℕ → ℕ → Record → Option Record → Option Record
after_record s key (says.Commit g t stamp parents content) last = cond (t == s) (cond (file_key g == key) (Some (says.Commit g t stamp parents content)) last) last
after_record s key (says.Adopt g t stamp) last = cond (t == s) (cond (file_key g == key) (Some (says.Adopt g t stamp)) last) last
after_record s key _ last = last

abbrev pub after_told : ℕ → ℕ → Told → Option Record → Option Record
after_told s key (Shown r) last = after_record s key r last
after_told s key _ last = last

-- the last commit or adoption of the file at this site, by the trace, whose newest line comes first
abbrev pub last_write : ℕ → ℕ → List Line → Option Record
last_write s key [] = None
last_write s key (x ∷ older) = after_told s key x.told (last_write s key older)

-- ---- the law ----

-- the copy is of the version that the commit tells, and its own counter is the number of its stamp
pub record IsCommitted (s : ℕ) (file : FileId) (stamp : Stamp) (content : List ℕ) (x : FileCopy) : Type 0 where
  pub file_is : x.file ≡ file
  pub stamp_is : x.stamp ≡ stamp
  pub content_is : x.content ≡ content
  pub own : stamp.site ≡ s
  pub counted : slice_index x.vector (s - 1) ≡ stamp.n

-- the record tells of this copy at this site
abbrev pub IsOf : ℕ → Record → FileCopy → Type 0
IsOf s (says.Commit file t stamp parents content) x = (t ≡ s) × IsCommitted s file stamp content x
IsOf s (says.Adopt file t stamp) x = (t ≡ s) × (x.file ≡ file) × (x.stamp ≡ stamp)
IsOf s _ x = ⊥

-- a disk holds what was told last, and where nothing was told what the format wrote
abbrev pub IsHeld : Config → ℕ → ℕ → Option Record → Option FileCopy → Type 0
IsHeld c s key None copy = copy ≡ row copy_key key (formatted c s)
IsHeld c s key (Some r) None = ⊥
IsHeld c s key (Some r) (Some x) = IsOf s r x

-- so it is on each disk, of a running site or a stopped one, for each file
abbrev pub CopiesAreTold : Config → World → Type 0
CopiesAreTold c w = (s key : ℕ) (p : Place) → place_at w s ≡ Some p → IsHeld c s key (last_write s key w.trace) (row copy_key key (copies_on p))

-- ---- what an outcome does to a disk ----

abbrev pub StillRecord : Record → Type 0
StillRecord (says.Commit file s stamp parents content) = ⊥
StillRecord (says.Adopt file s stamp) = ⊥
StillRecord _ = Unit {0}

-- it doesn't tell of a version on a disk
abbrev pub Still : Told → Type 0
Still (Shown r) = StillRecord r
Still _ = Unit {0}

pub record Untouched (old new : List FileCopy) (told : List Told) (written : Option DiskWrite) : Type 0 where
  pub copies : new ≡ old
  pub still : Every Still told
  pub none : written ≡ None

abbrev pub RisesOver : FileCopy → Option FileCopy → Type 0
RisesOver x None = Unit {0}
RisesOver x (Some own) = is_below own.vector x.vector ≡ true

-- an adoption takes the place of a lower version alone
abbrev pub Replaces : Record → FileCopy → Option FileCopy → Type 0
Replaces (says.Adopt file s stamp) x own = RisesOver x own
Replaces _ x own = Unit {0}

-- one version is written, and told once
pub record Writes (s : ℕ) (old new : List FileCopy) (told : List Told) (written : Option DiskWrite) (d : DiskWrite) : Type 0 where
  pub is_written : written ≡ Some d
  pub copies : new ≡ with_row copy_key d.copy old
  pub says_so : IsOf s d.says d.copy
  pub above : Replaces d.says d.copy (row copy_key (copy_key d.copy) old)
  pub before : List Told
  pub after : List Told
  pub told_is : told ≡ before ++ Shown d.says ∷ after
  pub still_before : Every Still before
  pub still_after : Every Still after

abbrev pub OnDisk : ℕ → List FileCopy → List FileCopy → List Told → Option DiskWrite → Type 0
OnDisk s old new told written = Untouched old new told written ⊎ ((d : DiskWrite) × Writes s old new told written d)
