-- Files that are being made: whose number was reserved for an instance, and what that excludes.
use Rattle.std.specs.Prelude.{ℕ, ◌≡◌, List, [], ◌∷◌}
use Rattle.locus_ids.specs.declared.ids.EpochId.{EpochId}
use Rattle.locus_ids.specs.declared.ids.FileId.{FileId}
use Rattle.locus_ids.specs.declared.ids.Mode.{Mode}
use Rattle.locus_ids.specs.declared.ids.Mode.TheVariants as mode
use Rattle.trace_book.specs.declared.record.Record.{Record}
use Rattle.trace_book.specs.declared.record.Record.TheVariants as says
use Rattle.role_steps.specs.Views.{Told, Shown, Reserves, serial_key}
use Rattle.site_laws.specs.Vectors.Written.{WasTold}
use Rattle.site_laws.specs.Locks.Going.{WasBegunAt, WasReleased}
use Rattle.site_laws.specs.Locks.Grants.{WasGrantedAs}

-- this storage site reserved the number of the file for the instance of this key
abbrev pub ReservedAt : ℕ → EpochId → ℕ → FileId → Told → Type 0
ReservedAt s e key file (Reserves t at inst of) = (t ≡ s) × (at ≡ e) × (serial_key inst ≡ key) × (of ≡ file)
ReservedAt s e key file _ = ⊥

abbrev pub WasReserved : List Told → ℕ → EpochId → ℕ → FileId → Type 0
WasReserved past s e key file = WasTold (ReservedAt s e key file) past

abbrev pub ReservedRecord : List Told → Record → Type 0
ReservedRecord older (says.Grant e call request inst mode.Make file stamp ss) = (s : ℕ) × WasReserved older s e (serial_key inst) file
ReservedRecord older _ = Unit {0}

abbrev pub ReservedTold : List Told → Told → Type 0
ReservedTold older (Shown r) = ReservedRecord older r
ReservedTold older _ = Unit {0}

-- what is granted to a make is a file whose number a storage site had reserved for it
abbrev pub MakesAreReserved : List Told → Type 0
MakesAreReserved [] = Unit {0}
MakesAreReserved (x ∷ older) = ReservedTold older x × MakesAreReserved older

-- where a number was reserved, nothing but a make is granted
abbrev pub ReservesAreOfMakes : List Told → Type 0
ReservesAreOfMakes past = (e : EpochId) (key s : ℕ) (file other : FileId) (m : Mode) → WasReserved past s e key file → WasGrantedAs past e key other m → m ≡ mode.Make

-- the instance was begun on the file, and each earlier reserve of it in the epoch is of one that is released
abbrev pub ApartTold : List Told → Told → Type 0
ApartTold older (Reserves s e inst file) = WasBegunAt older s e (serial_key inst) file × ((t key : ℕ) → WasReserved older t e key file → WasReleased older e key)
ApartTold older _ = Unit {0}

-- so it is when a number is reserved
abbrev pub ReservesAreApart : List Told → Type 0
ReservesAreApart [] = Unit {0}
ReservesAreApart (x ∷ older) = ApartTold older x × ReservesAreApart older
