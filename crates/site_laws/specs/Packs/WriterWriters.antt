-- Who may change a file in an epoch: of the grants that aren't over, one alone; and by which grant a commit is made.
use Rattle.std.specs.Prelude.{ℕ, ◌≡◌, false, List}
use Rattle.locus_ids.specs.declared.ids.EpochId.{EpochId}
use Rattle.locus_ids.specs.declared.ids.FileId.{FileId}
use Rattle.locus_ids.specs.declared.ids.Mode.{Mode}
use Rattle.commit_graph.specs.Grants.{is_read}
use Rattle.trace_book.specs.declared.record.Record.{Record}
use Rattle.trace_book.specs.declared.record.Record.TheVariants as says
use Rattle.role_steps.specs.Views.{Told, Shown}
use Rattle.site_laws.specs.Vectors.Written.{WasTold}
use Rattle.site_laws.specs.Locks.Going.{WasBegunAt}
use Rattle.site_laws.specs.Locks.Locks.{IsOfAFile}
use Rattle.site_laws.specs.Locks.Grants.{WasGrantedAs, IsOver}
use Rattle.site_laws.specs.Packs.WriterGranting.{GrantedThere}

-- a grant of a file that isn't to read and isn't over is the only one of the file in the epoch that isn't over, makes apart
abbrev pub WritersAreAlone : List Told → Type 0
WritersAreAlone past = (e : EpochId) (file : FileId) (j k : ℕ) (m n : Mode) → is_read m ≡ false → IsOfAFile m → IsOfAFile n → WasGrantedAs past e j file m → WasGrantedAs past e k file n →
    (IsOver past e j → ⊥) → (IsOver past e k → ⊥) → j ≡ k

abbrev pub CommitRecord : ℕ → FileId → Record → Type 0
CommitRecord s file (says.Commit of site stamp parents content) = (of ≡ file) × (site ≡ s)
CommitRecord s file _ = ⊥

abbrev pub Commits : ℕ → FileId → Told → Type 0
Commits s file (Shown r) = CommitRecord s file r
Commits s file _ = ⊥

-- in some epoch an instance was granted on the file, and begun on it at this site, which the grant names where it is no make
pub record IsGrantedHere (past : List Told) (s : ℕ) (file : FileId) : Type 0 where
  pub epoch : EpochId
  pub key : ℕ
  pub mode : Mode
  pub was_begun : WasBegunAt past s epoch key file
  pub granted : WasGrantedAs past epoch key file mode
  pub there : IsOfAFile mode → WasTold (GrantedThere epoch key s) past

-- each commit is of a file that was granted to its site so
abbrev pub CommitsAreGrantedHere : List Told → Type 0
CommitsAreGrantedHere past = (s : ℕ) (file : FileId) → WasTold (Commits s file) past → IsGrantedHere past s file
