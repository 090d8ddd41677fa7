-- Which storage site a grant names.
use Rattle.std.specs.Prelude.{ℕ, ◌≡◌, List}
use Rattle.locus_ids.specs.declared.ids.EpochId.{EpochId}
use Rattle.locus_ids.specs.declared.ids.FileId.{FileId}
use Rattle.trace_book.specs.declared.record.Record.{Record}
use Rattle.trace_book.specs.declared.record.Record.TheVariants as says
use Rattle.role_steps.specs.Views.{Told, Shown, serial_key}
use Rattle.site_laws.specs.Vectors.Written.{WasTold}
use Rattle.site_laws.specs.Locks.Going.{WasBegunAt}

-- the open was granted under this key at this storage site
abbrev pub GrantedAtRecord : EpochId → ℕ → ℕ → Record → Type 0
GrantedAtRecord e key ss (says.Grant at call request inst m file stamp there) = (at ≡ e) × (serial_key inst ≡ key) × (there ≡ ss)
GrantedAtRecord e key ss _ = ⊥

abbrev pub GrantedAt : EpochId → ℕ → ℕ → Told → Type 0
GrantedAt e key ss (Shown r) = GrantedAtRecord e key ss r
GrantedAt e key ss _ = ⊥

-- the storage site that a grant names is the one that begins the instance, of makes too
abbrev pub GrantsNameWhoBegins : List Told → Type 0
GrantsNameWhoBegins past = (e : EpochId) (key s ss : ℕ) (file : FileId) → WasBegunAt past s e key file → WasTold (GrantedAt e key ss) past → s ≡ ss
