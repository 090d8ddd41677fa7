-- By what was told: which instances run, and that operations and commits are of those alone.
use Rattle.std.specs.Prelude.{ℕ, ◌≡◌, false, List, [], ◌∷◌}
use Rattle.locus_ids.specs.declared.ids.EpochId.{EpochId}
use Rattle.locus_ids.specs.declared.ids.FileId.{FileId}
use Rattle.locus_ids.specs.declared.ids.Mode.{Mode}
use Rattle.commit_graph.specs.Grants.{is_read}
use Rattle.trace_book.specs.declared.record.Record.{Record}
use Rattle.trace_book.specs.declared.record.Record.TheVariants as says
use Rattle.role_steps.specs.Views.{Told, Shown, Begins, serial_key}
use Rattle.the_run.specs.Kept.{Among}
use Rattle.the_run.specs.Worlds.{World, Numbered}
use Rattle.site_laws.specs.Vectors.Written.{past_of, WasTold}
use Rattle.site_laws.specs.Locks.Going.{WasBegunAt, WasShutAt, WasReleased}
use Rattle.site_laws.specs.Locks.Locks.{IsOfAFile}
use Rattle.site_laws.specs.Locks.Grants.{WasGrantedAs, Refused, IsOver}
use Rattle.site_laws.specs.Packs.WriterGranting.{GrantedThere}
use Rattle.site_laws.specs.Makes.RunningStores.{AsksIn}

-- an instance that this storage site has begun on the file, that was granted on it in this mode, by a grant that names the
-- site where it is no make, that no storage site has begun to close, and that wasn't released
pub record IsRunning (past : List Told) (s : ℕ) (e : EpochId) (key : ℕ) (file : FileId) (m : Mode) : Type 0 where
  pub was_begun : WasBegunAt past s e key file
  pub granted : WasGrantedAs past e key file m
  pub there : IsOfAFile m → WasTold (GrantedThere e key s) past
  pub not_shut : (t : ℕ) → WasShutAt past t e key → ⊥
  pub not_released : WasReleased past e key → ⊥

-- some storage site runs it, on some file
pub record IsRunningSomewhere (past : List Told) (e : EpochId) (key : ℕ) : Type 0 where
  pub ss : ℕ
  pub file : FileId
  pub mode : Mode
  pub runs : IsRunning past ss e key file mode

-- this site runs an instance on the file that isn't to read
pub record IsWritten (past : List Told) (s : ℕ) (file : FileId) : Type 0 where
  pub epoch : EpochId
  pub key : ℕ
  pub mode : Mode
  pub runs : IsRunning past s epoch key file mode
  pub writes : is_read mode ≡ false

abbrev pub RecordRuns : List Told → Record → Type 0
RecordRuns older (says.Act e inst n o result) = IsRunningSomewhere older e (serial_key inst)
RecordRuns older (says.Commit file s stamp parents content) = IsWritten older s file
RecordRuns older _ = Unit {0}

abbrev pub ToldRuns : List Told → Told → Type 0
ToldRuns older (Shown r) = RecordRuns older r
ToldRuns older (Begins s e inst file) = (t : ℕ) (other : FileId) → WasBegunAt older t e (serial_key inst) other → ⊥
ToldRuns older _ = Unit {0}

-- nothing is begun twice; each operation is of a running instance, and each commit of one that isn't to read
abbrev pub InstancesRun : List Told → Type 0
InstancesRun [] = Unit {0}
InstancesRun (x ∷ older) = ToldRuns older x × InstancesRun older

-- under a key one storage site begins instances in an epoch
abbrev pub BegunAtOneSite : List Told → Type 0
BegunAtOneSite past = (e : EpochId) (key s t : ℕ) (f g : FileId) → WasBegunAt past s e key f → WasBegunAt past t e key g → s ≡ t

-- a grant that is no make, of an instance that a storage site has begun, isn't refused, neither before nor after
abbrev pub PlainGrantsStand : List Told → Type 0
PlainGrantsStand past = (e : EpochId) (key s : ℕ) (file begun : FileId) (m : Mode) → IsOfAFile m → WasGrantedAs past e key file m → WasBegunAt past s e key begun → WasTold (Refused e key) past → ⊥

-- a packet that asks for an instance to be opened asks it in the mode in which it was granted in that epoch, on that file where
-- it is no make
abbrev pub OpensAreAsGranted : World → Type 0
OpensAreAsGranted w = (y : Numbered) (key : ℕ) (m n : Mode) (asked file : FileId) → Among y w.sent → AsksIn key m asked y.packet.body → WasGrantedAs (past_of w.trace) y.packet.epoch key file n → (m ≡ n) × (IsOfAFile n → asked ≡ file)

-- this site runs an instance on the file that isn't to read; where it is no make, its grant isn't over, and it is the only one
-- of the file in the epoch that isn't, makes apart
pub record IsAloneAt (past : List Told) (s : ℕ) (file : FileId) : Type 0 where
  pub epoch : EpochId
  pub key : ℕ
  pub mode : Mode
  pub runs : IsRunning past s epoch key file mode
  pub writes : is_read mode ≡ false
  pub left : IsOfAFile mode → IsOver past epoch key → ⊥
  pub alone : (j : ℕ) (n : Mode) → IsOfAFile mode → IsOfAFile n → WasGrantedAs past epoch j file n → (IsOver past epoch j → ⊥) → j ≡ key

abbrev pub RecordAlone : List Told → Record → Type 0
RecordAlone older (says.Commit file s stamp parents content) = IsAloneAt older s file
RecordAlone older _ = Unit {0}

abbrev pub ToldAlone : List Told → Told → Type 0
ToldAlone older (Shown r) = RecordAlone older r
ToldAlone older _ = Unit {0}

-- so it is with each site that commits a file
abbrev pub WritersCommitAlone : List Told → Type 0
WritersCommitAlone [] = Unit {0}
WritersCommitAlone (x ∷ older) = ToldAlone older x × WritersCommitAlone older
