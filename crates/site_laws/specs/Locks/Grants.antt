-- What is granted side by side in an epoch.
use Rattle.std.specs.Prelude.{ℕ, ◌≡◌, ◌⊎◌, true, List, [], ◌∷◌}
use Rattle.locus_ids.specs.declared.ids.EpochId.{EpochId}
use Rattle.locus_ids.specs.declared.ids.FileId.{FileId}
use Rattle.locus_ids.specs.declared.ids.Mode.{Mode}
use Rattle.commit_graph.specs.Grants.{is_read}
use Rattle.trace_book.specs.declared.record.Record.{Record}
use Rattle.trace_book.specs.declared.record.Record.TheVariants as says
use Rattle.role_steps.specs.Views.{Told, Shown, serial_key}
use Rattle.site_laws.specs.Vectors.Written.{WasTold}
use Rattle.site_laws.specs.Locks.Going.{WasReleased}
use Rattle.site_laws.specs.Locks.Locks.{IsOfAFile}

-- the open was granted under this key on this file, in this mode
abbrev pub GrantedAsRecord : EpochId → ℕ → FileId → Mode → Record → Type 0
GrantedAsRecord e key file m (says.Grant at call request inst mode of stamp ss) = (at ≡ e) × (serial_key inst ≡ key) × (of ≡ file) × (mode ≡ m)
GrantedAsRecord e key file m _ = ⊥

abbrev pub GrantedAs : EpochId → ℕ → FileId → Mode → Told → Type 0
GrantedAs e key file m (Shown r) = GrantedAsRecord e key file m r
GrantedAs e key file m _ = ⊥

abbrev pub WasGrantedAs : List Told → EpochId → ℕ → FileId → Mode → Type 0
WasGrantedAs past e key file m = WasTold (GrantedAs e key file m) past

abbrev pub RefusedRecord : EpochId → ℕ → Record → Type 0
RefusedRecord e key (says.Refuse at call request inst mode file why) = (at ≡ e) × (serial_key inst ≡ key)
RefusedRecord e key _ = ⊥

abbrev pub Refused : EpochId → ℕ → Told → Type 0
Refused e key (Shown r) = RefusedRecord e key r
Refused e key _ = ⊥

-- the instance was released, or its open was refused after all
abbrev pub IsOver : List Told → EpochId → ℕ → Type 0
IsOver past e key = WasReleased past e key ⊎ WasTold (Refused e key) past

-- beside each earlier grant of the file in the epoch that isn't over both only read
abbrev pub LockedRecord : List Told → Record → Type 0
LockedRecord older (says.Grant e call request inst m file stamp ss) =
    IsOfAFile m → (key : ℕ) (other : Mode) → WasGrantedAs older e key file other → IsOfAFile other → ((is_read m ≡ true) × (is_read other ≡ true)) ⊎ IsOver older e key
LockedRecord older _ = Unit {0}

abbrev pub LockedTold : List Told → Told → Type 0
LockedTold older (Shown r) = LockedRecord older r
LockedTold older _ = Unit {0}

-- so it is with each grant, makes apart
abbrev pub GrantsAreLocked : List Told → Type 0
GrantsAreLocked [] = Unit {0}
GrantsAreLocked (x ∷ older) = LockedTold older x × GrantsAreLocked older
