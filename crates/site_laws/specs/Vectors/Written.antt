-- Written vectors by the trace alone, and what the trace tells of instances.
use Rattle.std.specs.Prelude.{ℕ, ◌≡◌, ◌-◌, ◌⊎◌, max, List, [], ◌∷◌, Some}
use Rattle.locus_ids.specs.declared.ids.EpochId.{EpochId}
use Rattle.locus_ids.specs.declared.ids.FileId.{FileId}
use Rattle.locus_ids.specs.declared.ids.Stamp.{Stamp}
use Rattle.version_vector.specs.Counters.{part, raised}
use Rattle.trace_book.specs.declared.record.Record.{Record}
use Rattle.trace_book.specs.declared.record.Record.TheVariants as says
use Rattle.run_laws.specs.of_role_steps.Own.{Every}
use Rattle.run_laws.specs.of_role_steps.Views.{Told, Shown, Begins, serial_key}
use Rattle.run_laws.specs.of_role_steps.declared.copies.FileCopy.{FileCopy}
use Rattle.run_laws.specs.of_the_run.Worlds.{World, Place, place_at}
use Rattle.site_laws.specs.Vectors.Held.{copies_on}
pub use Rattle.run_laws.specs.FactWalks.Facts.{line_told, past_of}

-- ---- written vectors ----

-- no commit is counted
abbrev pub CountsNone : List ℕ → Type 0
CountsNone vector = (t : ℕ) → part vector t ≡ 0

-- counter by counter the greatest of written vectors of these versions
abbrev pub JoinsAll : (Stamp → List ℕ → Type 0) → List Stamp → List ℕ → Type 0
JoinsAll W [] base = CountsNone base
JoinsAll W (p ∷ ps) base = (a : List ℕ) × (b : List ℕ) × W p a × JoinsAll W ps b × ((t : ℕ) → part base t ≡ max (part a t) (part b t))

-- a root directory as its format wrote it
pub record IsFormat (file : FileId) (stamp : Stamp) (vector : List ℕ) : Type 0 where
  pub root : file.ino ≡ 1
  pub site : stamp.site ≡ 0
  pub number : stamp.n ≡ 0
  pub none : CountsNone vector

-- the commit tells of this version, and this is the join of its parents' written vectors with the counter of its site raised
pub record IsRaised (W : Stamp → List ℕ → Type 0) (s : ℕ) (parents : List Stamp) (vector : List ℕ) : Type 0 where
  pub base : List ℕ
  pub joins : JoinsAll W parents base
  pub raised_is : vector ≡ raised base (s - 1)

abbrev pub IsCommitOf : (FileId → Stamp → List ℕ → Type 0) → Record → FileId → Stamp → List ℕ → Type 0
IsCommitOf W (says.Commit g s made parents content) file stamp vector = (g ≡ file) × (made ≡ stamp) × IsRaised (W g) s parents vector
IsCommitOf W _ file stamp vector = ⊥

abbrev pub IsWrittenBy : (FileId → Stamp → List ℕ → Type 0) → Told → FileId → Stamp → List ℕ → Type 0
IsWrittenBy W (Shown r) file stamp vector = IsCommitOf W r file stamp vector
IsWrittenBy W _ file stamp vector = ⊥

-- The version of the file with this stamp was told, or is the format's, and this is its written vector: that of the
-- history alone, where no stamp stands twice.
abbrev pub WrittenAs : List Told → FileId → Stamp → List ℕ → Type 0
WrittenAs [] file stamp vector = IsFormat file stamp vector
WrittenAs (x ∷ older) file stamp vector = WrittenAs older file stamp vector ⊎ IsWrittenBy (WrittenAs older) x file stamp vector

-- ---- instances ----

-- a storage site has begun an instance of this key in this epoch on this file
abbrev pub Begun : EpochId → ℕ → FileId → Told → Type 0
Begun e key file (Begins s at inst of) = (at ≡ e) × (serial_key inst ≡ key) × (of ≡ file)
Begun e key file _ = ⊥

abbrev pub GrantedRecord : EpochId → ℕ → FileId → Record → Type 0
GrantedRecord e key file (says.Grant at call request inst mode of stamp ss) = (at ≡ e) × (serial_key inst ≡ key) × (of ≡ file)
GrantedRecord e key file _ = ⊥

-- an open under this key was granted in this epoch on this file
abbrev pub Granted : EpochId → ℕ → FileId → Told → Type 0
Granted e key file (Shown r) = GrantedRecord e key file r
Granted e key file _ = ⊥

abbrev pub WasTold : (Told → Type 0) → List Told → Type 0
WasTold P [] = ⊥
WasTold P (x ∷ older) = P x ⊎ WasTold P older

abbrev pub WasBegun : List Told → EpochId → ℕ → FileId → Type 0
WasBegun past e key file = WasTold (Begun e key file) past

abbrev pub WasGranted : List Told → EpochId → ℕ → FileId → Type 0
WasGranted past e key file = WasTold (Granted e key file) past

-- what a storage site opened under a key is what was granted under it
abbrev pub InstancesAgree : List Told → Type 0
InstancesAgree past = (e : EpochId) (key : ℕ) (begun granted : FileId) → WasBegun past e key begun → WasGranted past e key granted → begun ≡ granted

-- ---- the laws, of a run whose instances agree ----

-- each copy on a disk is of a version told before, or the format's, and has its written vector
abbrev pub VectorsAreWritten : World → Type 0
VectorsAreWritten w = (s : ℕ) (p : Place) → place_at w s ≡ Some p → Every (λ (x : FileCopy). WrittenAs (past_of w.trace) x.file x.stamp x.vector) (copies_on p)

-- each commit's parents were told before it, and its number is one more than the greatest that they count of its site
pub record IsNumbered (older : List Told) (file : FileId) (s : ℕ) (stamp : Stamp) (parents : List Stamp) : Type 0 where
  pub base : List ℕ
  pub joins : JoinsAll (WrittenAs older file) parents base
  pub own : stamp.site ≡ s
  pub number : stamp.n ≡ part (raised base (s - 1)) (s - 1)

abbrev pub NumberedRecord : List Told → Record → Type 0
NumberedRecord older (says.Commit file s stamp parents content) = IsNumbered older file s stamp parents
NumberedRecord older _ = Unit {0}

abbrev pub NumberedTold : List Told → Told → Type 0
NumberedTold older (Shown r) = NumberedRecord older r
NumberedTold older _ = Unit {0}

abbrev pub CommitsAreNumbered : List Told → Type 0
CommitsAreNumbered [] = Unit {0}
CommitsAreNumbered (x ∷ older) = NumberedTold older x × CommitsAreNumbered older
