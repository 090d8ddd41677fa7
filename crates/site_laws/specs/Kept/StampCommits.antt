-- What was told of the commits of a site: under which number, and under which instance.
use Rattle.std.specs.Prelude.{ℕ, ◌≡◌, ◌⊎◌, ◌≤◌, ◌-◌, false, List, [], ◌∷◌, Some}
use Rattle.locus_ids.specs.declared.ids.EpochId.{EpochId}
use Rattle.locus_ids.specs.declared.ids.FileId.{FileId}
use Rattle.locus_ids.specs.declared.ids.Mode.{Mode}
use Rattle.version_vector.specs.Counters.{part}
use Rattle.commit_graph.specs.Grants.{is_read}
use Rattle.trace_book.specs.declared.record.Record.{Record}
use Rattle.trace_book.specs.declared.record.Record.TheVariants as says
use Rattle.role_steps.specs.Views.{Told, Shown}
use Rattle.run_laws.specs.Standing.{Standing, nowhere, after_told}
use Rattle.site_laws.specs.Vectors.Written.{WasTold}
use Rattle.site_laws.specs.Locks.Going.{WasBegunAt, WasShutAt}
use Rattle.site_laws.specs.Locks.Grants.{WasGrantedAs}

-- ---- commits ----

abbrev pub MadeRecord : ℕ → FileId → ℕ → Record → Type 0
MadeRecord s file n (says.Commit g t stamp parents content) = (g ≡ file) × (t ≡ s) × (stamp.n ≡ n)
MadeRecord s file n _ = ⊥

-- the site commits a version of the file under this number
abbrev pub MadeAt : ℕ → FileId → ℕ → Told → Type 0
MadeAt s file n (Shown r) = MadeRecord s file n r
MadeAt s file n _ = ⊥

abbrev pub WasMade : List Told → ℕ → FileId → ℕ → Type 0
WasMade past s file n = WasTold (MadeAt s file n) past

-- it did so after it had begun the instance on the file, and before it began to close it
abbrev pub Under : List Told → ℕ → EpochId → ℕ → FileId → ℕ → Type 0
Under [] s e key file n = ⊥
Under (x ∷ older) s e key file n = (MadeAt s file n x × WasBegunAt older s e key file × (WasShutAt older s e key → ⊥)) ⊎ Under older s e key file n

-- so under an instance that was granted in the epoch, and not to read
pub record ByWriter (past : List Told) (s : ℕ) (e : EpochId) (file : FileId) (n : ℕ) : Type 0 where
  pub key : ℕ
  pub mode : Mode
  pub granted : WasGrantedAs past e key file mode
  pub writes : is_read mode ≡ false
  pub made : Under past s e key file n

-- a vector's own counter for the site counts a number
abbrev pub Counts : List ℕ → ℕ → ℕ → Type 0
Counts vector s n = n ≤ part vector (s - 1)

-- ---- where a site is ----

-- how the site stands among epochs, by what was told
abbrev pub stood : ℕ → List Told → Standing
stood s [] = nowhere
stood s (x ∷ older) = after_told s x (stood s older)

-- the site is in the epoch
abbrev pub Here : List Told → ℕ → EpochId → Type 0
Here past s e = (stood s past).epoch ≡ Some e
