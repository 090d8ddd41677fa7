-- What a synchronization site knows of files that are being made: while a make of a file isn't released, it knows no version of it.
use Rattle.std.specs.Prelude.{ℕ, ◌≡◌, ◌⊎◌, true, false, List, [], ◌∷◌, Some}
use Rattle.std.specs.List.{list_all}
use Rattle.locus_ids.specs.Sites.{has}
use Rattle.locus_ids.specs.declared.ids.EpochId.{EpochId}
use Rattle.locus_ids.specs.declared.ids.FileId.{FileId}
use Rattle.locus_ids.specs.declared.ids.Mode.TheVariants as mode
use Rattle.locus_ids.specs.declared.sites.Members.{Members}
use Rattle.locus_ids.specs.declared.config.Config.{Config}
use Rattle.trace_book.specs.declared.record.Record.{Record}
use Rattle.trace_book.specs.declared.record.Record.TheVariants as says
use Rattle.role_steps.specs.Own.{Every}
use Rattle.role_steps.specs.Tables.{row}
use Rattle.role_steps.specs.Views.{Told, Shown, serial_key, members_of, pack_sites, sync_site}
use Rattle.role_steps.specs.Versions.{row_ino, kept}
use Rattle.role_steps.specs.Opens.{open_key}
use Rattle.role_steps.specs.declared.synchronizing.SyncTable.{SyncTable}
use Rattle.role_steps.specs.declared.synchronizing.FileRow.{FileRow}
use Rattle.role_steps.specs.declared.synchronizing.OpenRow.{OpenRow}
use Rattle.role_steps.specs.declared.synchronizing.OpenStage.{OpenStage}
use Rattle.role_steps.specs.declared.synchronizing.OpenStage.TheVariants as stage
use Rattle.site_laws.specs.Vectors.Written.{WasTold, InstancesAgree}
use Rattle.site_laws.specs.Vectors.Facts.{file_in, EarlyFact}
use Rattle.site_laws.specs.Locks.Going.{WasReleased, WasStarted, InstancesGoOn}
use Rattle.site_laws.specs.Locks.Grants.{WasGrantedAs}
use Rattle.site_laws.specs.Locks.Locks.{IsOfAFile}
use Rattle.site_laws.specs.Locks.Synced.{Orderly}
use Rattle.site_laws.specs.Packs.WriterGranting.{GrantsAreAlike}
use Rattle.site_laws.specs.Packs.Making.{NotEmpty, WasCommitted}
use Rattle.site_laws.specs.Makes.Fresh.{NumbersAreFresh}
use Rattle.site_laws.specs.Makes.Holding.{WasReserved, MakesAreReserved, ReservesAreApart}

-- a root, or committed by someone
abbrev pub IsKnown : List Told → FileId → Type 0
IsKnown past file = (file.ino ≡ 1) ⊎ WasCommitted past file

-- all for whom the number of the file was reserved in the epoch are released
abbrev pub IsFree : List Told → EpochId → FileId → Type 0
IsFree past e file = (s key : ℕ) → WasReserved past s e key file → WasReleased past e key

abbrev pub ReleasedOnRecord : EpochId → ℕ → FileId → Record → Type 0
ReleasedOnRecord e key file (says.Release at inst of made) = (at ≡ e) × (serial_key inst ≡ key) × (of ≡ file)
ReleasedOnRecord e key file _ = ⊥

abbrev pub ReleasedOn : EpochId → ℕ → FileId → Told → Type 0
ReleasedOn e key file (Shown r) = ReleasedOnRecord e key file r
ReleasedOn e key file _ = ⊥

-- ---- a table ----

-- of what is kept of a file: it is known, and free
pub record RowMade (past : List Told) (e : EpochId) (group : ℕ) (r : FileRow) : Type 0 where
  pub known : NotEmpty r.kept → IsKnown past (file_in group r.ino)
  pub free : NotEmpty r.kept → IsFree past e (file_in group r.ino)

-- a version of the file is kept
abbrev pub IsKept : List FileRow → ℕ → Type 0
IsKept files ino = NotEmpty (kept (row row_ino ino files))

abbrev pub StageMade : List Told → EpochId → List FileRow → OpenRow → OpenStage → Type 0
StageMade past e files r stage.Asked = IsOfAFile r.mode → IsKept files r.file.ino
StageMade past e files r stage.Granted = (IsOfAFile r.mode → IsKept files r.file.ino) × (r.mode ≡ mode.Make → WasGrantedAs past e (open_key r) r.file mode.Make)
StageMade past e files r _ = Unit {0}

-- what is asked or granted, makes apart, is of a file of which a version is kept
pub record OpenMade (past : List Told) (e : EpochId) (group : ℕ) (files : List FileRow) (r : OpenRow) : Type 0 where
  pub group_is : r.file.group ≡ group
  pub stage : StageMade past e files r r.stage

-- it has its row, which is ended
pub record HasEnded (opens : List OpenRow) (key : ℕ) : Type 0 where
  pub ended : OpenRow
  pub found : row open_key key opens ≡ Some ended
  pub stage_is : ended.stage ≡ stage.Ended

pub record TableMade (c : Config) (past : List Told) (me : ℕ) (e : EpochId) (members : Members) (t : SyncTable) : Type 0 where
  pub synced : sync_site c members t.group ≡ Some me
  -- it has started where its group has, and then each member that has a pack has reported
  pub unstarted : t.started ≡ false → WasStarted past e t.group → ⊥
  pub all : t.started ≡ true → list_all (has t.reported) (members_of members (pack_sites c t.group)) ≡ true
  pub files : Every (RowMade past e t.group) t.files
  pub opens : Every (OpenMade past e t.group t.files) t.opens
  pub ended : (key : ℕ) (file : FileId) → file.group ≡ t.group → WasTold (ReleasedOn e key file) past → HasEnded t.opens key
  pub early : Every (EarlyFact t.group) t.early

-- ---- laws of every run about what was told, on which these rest ----

pub record Ordered (past : List Told) : Type 0 where
  pub orderly : Orderly past
  pub goes : InstancesGoOn past
  pub agree : InstancesAgree past
  pub alike : GrantsAreAlike past
  pub fresh : NumbersAreFresh past
  pub reserved : MakesAreReserved past
  pub apart : ReservesAreApart past

-- ---- the law: a plain grant is of a file that is known, and free ----

abbrev pub PlainRecord : List Told → Record → Type 0
PlainRecord older (says.Grant e call request inst m file stamp ss) = IsOfAFile m → IsKnown older file × IsFree older e file
PlainRecord older _ = Unit {0}

abbrev pub PlainTold : List Told → Told → Type 0
PlainTold older (Shown r) = PlainRecord older r
PlainTold older _ = Unit {0}

abbrev pub PlainGrantsAreFree : List Told → Type 0
PlainGrantsAreFree [] = Unit {0}
PlainGrantsAreFree (x ∷ older) = PlainTold older x × PlainGrantsAreFree older
