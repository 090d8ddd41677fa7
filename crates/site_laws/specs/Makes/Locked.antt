-- What holds a file: a plain grant, or a make from where the number of the file is reserved; and what that excludes.
use Rattle.std.specs.Prelude.{ℕ, ◌≡◌, ◌⊎◌, true, List, [], ◌∷◌}
use Rattle.locus_ids.specs.declared.ids.EpochId.{EpochId}
use Rattle.locus_ids.specs.declared.ids.FileId.{FileId}
use Rattle.locus_ids.specs.declared.ids.Mode.{Mode}
use Rattle.locus_ids.specs.declared.ids.Mode.TheVariants as mode
use Rattle.commit_graph.specs.Grants.{is_read}
use Rattle.trace_book.specs.declared.record.Record.{Record}
use Rattle.trace_book.specs.declared.record.Record.TheVariants as says
use Rattle.role_steps.specs.Views.{Told, Shown, Reserves, serial_key}
use Rattle.site_laws.specs.Vectors.Written.{WasTold}
use Rattle.site_laws.specs.Locks.Going.{WasReleased}
use Rattle.site_laws.specs.Locks.Grants.{IsOver}
use Rattle.site_laws.specs.Locks.Locks.{IsOfAFile}

abbrev pub HeldRecord : EpochId → ℕ → FileId → Mode → Record → Type 0
HeldRecord e key file m (says.Grant at call request inst mode of stamp ss) = (at ≡ e) × (serial_key inst ≡ key) × (of ≡ file) × (mode ≡ m) × IsOfAFile m
HeldRecord e key file m _ = ⊥

-- the file is held under the key in this mode: by a plain grant, or by a make from where its number is reserved
abbrev pub HeldAs : EpochId → ℕ → FileId → Mode → Told → Type 0
HeldAs e key file m (Shown r) = HeldRecord e key file m r
HeldAs e key file m (Reserves s at inst of) = (at ≡ e) × (serial_key inst ≡ key) × (of ≡ file) × (m ≡ mode.Make)
HeldAs e key file m _ = ⊥

abbrev pub WasHeldAs : List Told → EpochId → ℕ → FileId → Mode → Type 0
WasHeldAs past e key file m = WasTold (HeldAs e key file m) past

-- a make is over where it is released, a plain grant also where its open was refused after all
abbrev pub OverAs : List Told → EpochId → ℕ → Mode → Type 0
OverAs past e key mode.Make = WasReleased past e key
OverAs past e key _ = IsOver past e key

-- beside each earlier hold of the file in the epoch both only read, or the earlier one is over
abbrev pub LockedTold : List Told → Told → Type 0
LockedTold older x = (e : EpochId) (key : ℕ) (file : FileId) (m : Mode) → HeldAs e key file m x → (j : ℕ) (other : Mode) → WasHeldAs older e j file other → ((is_read m ≡ true) × (is_read other ≡ true)) ⊎ OverAs older e j other

-- so it is with each hold
abbrev pub HoldsAreLocked : List Told → Type 0
HoldsAreLocked [] = Unit {0}
HoldsAreLocked (x ∷ older) = LockedTold older x × HoldsAreLocked older
