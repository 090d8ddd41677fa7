-- How an instance goes on, by the trace: it is begun at a storage site, granted, used, shut and released.
use Rattle.std.specs.Prelude.{ℕ, ◌≡◌, List, [], ◌∷◌}
use Rattle.locus_ids.specs.declared.ids.EpochId.{EpochId}
use Rattle.locus_ids.specs.declared.ids.FileId.{FileId}
use Rattle.locus_ids.specs.declared.ids.Mode.{Mode}
use Rattle.locus_ids.specs.declared.ids.Mode.TheVariants as mode
use Rattle.trace_book.specs.declared.record.Record.{Record}
use Rattle.trace_book.specs.declared.record.Record.TheVariants as says
use Rattle.role_steps.specs.Views.{Told, Shown, Begins, Shuts, serial_key}
use Rattle.site_laws.specs.Vectors.Written.{WasTold, WasGranted}

-- ---- what was told of an instance, by the epoch and the key of its serial number ----

-- this storage site began it, on this file
abbrev pub BegunAt : ℕ → EpochId → ℕ → FileId → Told → Type 0
BegunAt s e key file (Begins t at inst of) = (t ≡ s) × (at ≡ e) × (serial_key inst ≡ key) × (of ≡ file)
BegunAt s e key file _ = ⊥

abbrev pub WasBegunAt : List Told → ℕ → EpochId → ℕ → FileId → Type 0
WasBegunAt past s e key file = WasTold (BegunAt s e key file) past

-- this storage site began to close it
abbrev pub ShutAt : ℕ → EpochId → ℕ → Told → Type 0
ShutAt s e key (Shuts t at inst) = (t ≡ s) × (at ≡ e) × (serial_key inst ≡ key)
ShutAt s e key _ = ⊥

abbrev pub WasShutAt : List Told → ℕ → EpochId → ℕ → Type 0
WasShutAt past s e key = WasTold (ShutAt s e key) past

abbrev pub ReleasedRecord : EpochId → ℕ → Record → Type 0
ReleasedRecord e key (says.Release at inst file made) = (at ≡ e) × (serial_key inst ≡ key)
ReleasedRecord e key _ = ⊥

abbrev pub Released : EpochId → ℕ → Told → Type 0
Released e key (Shown r) = ReleasedRecord e key r
Released e key _ = ⊥

abbrev pub WasReleased : List Told → EpochId → ℕ → Type 0
WasReleased past e key = WasTold (Released e key) past

-- it was granted on some file
abbrev pub IsGranted : List Told → EpochId → ℕ → Type 0
IsGranted past e key = (file : FileId) × WasGranted past e key file

-- the group has started in the epoch
abbrev pub StartedRecord : EpochId → ℕ → Record → Type 0
StartedRecord e group (says.Start at of brought) = (at ≡ e) × (of ≡ group)
StartedRecord e group _ = ⊥

abbrev pub Started : EpochId → ℕ → Told → Type 0
Started e group (Shown r) = StartedRecord e group r
Started e group _ = ⊥

abbrev pub WasStarted : List Told → EpochId → ℕ → Type 0
WasStarted past e group = WasTold (Started e group) past

-- ---- the law ----

-- a make is granted with the number of a file that a storage site has begun under its key
pub record IsNumberedBy (older : List Told) (e : EpochId) (key : ℕ) (file : FileId) : Type 0 where
  pub ss : ℕ
  pub begun : FileId
  pub was_begun : WasBegunAt older ss e key begun
  pub number : begun.ino ≡ file.ino

abbrev pub GrantGoesOn : List Told → EpochId → ℕ → FileId → Mode → Type 0
GrantGoesOn older e key file mode.Make = IsNumberedBy older e key file
GrantGoesOn older e key file _ = Unit {0}

-- an instance that a storage site began, and that was granted
pub record IsUsed (older : List Told) (e : EpochId) (key : ℕ) : Type 0 where
  pub ss : ℕ
  pub file : FileId
  pub was_begun : WasBegunAt older ss e key file
  pub granted : IsGranted older e key

-- the site commits the file under an instance that it began on it, and that was granted
pub record IsCommitter (older : List Told) (s : ℕ) (file : FileId) : Type 0 where
  pub epoch : EpochId
  pub key : ℕ
  pub was_begun : WasBegunAt older s epoch key file
  pub granted : IsGranted older epoch key

-- an instance that was granted on this file, and that a storage site has begun to close
pub record IsEnding (older : List Told) (e : EpochId) (key : ℕ) (file : FileId) : Type 0 where
  pub ss : ℕ
  pub granted : WasGranted older e key file
  pub was_shut : WasShutAt older ss e key

abbrev pub RecordGoesOn : List Told → Record → Type 0
RecordGoesOn older (says.Grant e call request inst m file stamp ss) = GrantGoesOn older e (serial_key inst) file m
RecordGoesOn older (says.Act e inst n o result) = IsUsed older e (serial_key inst)
RecordGoesOn older (says.Commit file s stamp parents content) = IsCommitter older s file
RecordGoesOn older (says.Release e inst file made) = IsEnding older e (serial_key inst) file
RecordGoesOn older _ = Unit {0}

abbrev pub InstanceGoesOn : List Told → Told → Type 0
InstanceGoesOn older (Shown r) = RecordGoesOn older r
InstanceGoesOn older (Begins s e inst file) = WasStarted older e file.group
InstanceGoesOn older (Shuts s e inst) = (file : FileId) × WasBegunAt older s e (serial_key inst) file
InstanceGoesOn older _ = Unit {0}

-- each of them comes after what must have come before it
abbrev pub InstancesGoOn : List Told → Type 0
InstancesGoOn [] = Unit {0}
InstancesGoOn (x ∷ older) = InstanceGoesOn older x × InstancesGoOn older
