-- The commits of a file as a history, by what was told, and what its written vectors tell.
use Rattle.std.specs.Prelude.{ℕ, ◌≡◌, ◌≤◌, ◌<◌, ◌-◌, ◌⊎◌, ◌↔◌, true, not, cond, List, [], ◌∷◌, filter, Some, Option, None}
use Rattle.locus_ids.specs.declared.ids.FileId.{FileId}
use Rattle.locus_ids.specs.declared.ids.Stamp.{Stamp}
use Rattle.locus_ids.specs.Sizes.{inode_span, sites_max}
use Rattle.version_vector.specs.Counters.{part, AllLe}
use Rattle.commit_graph.specs.declared.history.Version.{Version}
use Rattle.commit_graph.specs.Versions.{same_file, is_in, is_ancestor}
use Rattle.commit_graph.specs.Vectors.{vector_of}
use Rattle.conflict_flags.specs.Written.{is_format, NoneTwice, Numbered, ancestors_made_at}
use Rattle.trace_book.specs.declared.record.Record.{Record}
use Rattle.trace_book.specs.declared.record.Record.TheVariants as says
use Rattle.run_laws.specs.of_role_steps.Own.{Every}
use Rattle.run_laws.specs.of_role_steps.Tables.{row}
use Rattle.run_laws.specs.of_role_steps.Views.{Told, Shown, file_key}
use Rattle.run_laws.specs.of_role_steps.Storage.{copy_key}
use Rattle.run_laws.specs.of_role_steps.declared.copies.FileCopy.{FileCopy}
use Rattle.run_laws.specs.of_the_run.Worlds.{World, Place, place_at}
use Rattle.site_laws.specs.Vectors.Held.{copies_on}
use Rattle.site_laws.specs.Vectors.Written.{past_of, CommitsAreNumbered}

-- ---- the history of a file ----

-- the parents that a site committed: the format's version counts nothing and has no ancestors
abbrev pub real_parents : List Stamp → List Stamp
real_parents parents = filter (λ p. not (is_format p)) parents

abbrev pub with_record : FileId → Record → List Version → List Version
with_record file (says.Commit g s stamp parents content) older =
    cond (same_file g file) (record { file = g; site = s; stamp = stamp; parents = real_parents parents; content = content } ∷ older) older
with_record file _ older = older

abbrev pub with_told : FileId → Told → List Version → List Version
with_told file (Shown r) older = with_record file r older
with_told file _ older = older

-- the commits of the file that were told, the newest first
abbrev pub commits_of : FileId → List Told → List Version
commits_of file [] = []
commits_of file (x ∷ older) = with_told file x (commits_of file older)

-- no file has two commits with one stamp
abbrev pub StampsAreOnce : List Told → Type 0
StampsAreOnce past = (file : FileId) → NoneTwice (commits_of file past)

-- ---- the sites ----

pub record IsSite (s : ℕ) : Type 0 where
  pub low : 1 ≤ s
  pub high : s ≤ sites_max

abbrev pub SitedRecord : Record → Type 0
SitedRecord (says.Commit g s stamp parents content) = IsSite s
SitedRecord _ = Unit {0}

abbrev pub SitedTold : Told → Type 0
SitedTold (Shown r) = SitedRecord r
SitedTold _ = Unit {0}

-- each commit is of one of the sixteen sites
abbrev pub CommitsAreSited : List Told → Type 0
CommitsAreSited past = Every SitedTold past

pub record SitesAreKnown (w : World) : Type 0 where
  pub places : (s : ℕ) (p : Place) → place_at w s ≡ Some p → IsSite s
  pub commits : CommitsAreSited (past_of w.trace)

-- ---- what vectors tell ----

-- the stamp is that of the format, which no site committed
pub record IsFormatStamp (stamp : Stamp) : Type 0 where
  pub site : stamp.site ≡ 0
  pub number : stamp.n ≡ 0

pub record VectorsTell (file : FileId) (history : List Version) : Type 0 where
  -- of two versions one is an ancestor of the other exactly where its vector is at most the other's
  pub tell : (a b : Stamp) → is_in history file a ≡ true → is_in history file b ≡ true → (is_ancestor history file a b ≡ true) ↔ AllLe (vector_of history file a) (vector_of history file b)
  -- a commit's number counts the commits of the file at its site
  pub numbered : Numbered history
  -- of two commits of one site the earlier is an ancestor of the later
  pub chain : (a b : Stamp) → is_in history file a ≡ true → is_in history file b ≡ true → a.site ≡ b.site → a.n ≤ b.n → is_ancestor history file a b ≡ true
  -- a vector counts the ancestors of its version by site, that version included
  pub counted : (a : Stamp) (site : ℕ) → is_in history file a ≡ true → 1 ≤ site → part (vector_of history file a) (site - 1) ≡ ancestors_made_at history file a site

-- the copy is the format's, with no commit counted, or of a version of the history with its vector
abbrev pub IsTrueCopy : List Told → FileCopy → Type 0
IsTrueCopy past x = (IsFormatStamp x.stamp × ((t : ℕ) → part x.vector t ≡ 0)) ⊎ ((is_in (commits_of x.file past) x.file x.stamp ≡ true) × ((t : ℕ) → part x.vector t ≡ part (vector_of (commits_of x.file past) x.file x.stamp) t))

abbrev pub CopiesAreTrue : World → Type 0
CopiesAreTrue w = (s : ℕ) (p : Place) → place_at w s ≡ Some p → Every (IsTrueCopy (past_of w.trace)) (copies_on p)

-- ---- what a site holds of its own ----

abbrev pub FitRecord : Record → Type 0
FitRecord (says.Commit g s stamp parents content) = g.ino < inode_span
FitRecord (says.Adopt g s stamp) = g.ino < inode_span
FitRecord _ = Unit {0}

abbrev pub FitTold : Told → Type 0
FitTold (Shown r) = FitRecord r
FitTold _ = Unit {0}

-- each inode number that a commit or an adoption tells has 16 bits, so that disks tell files apart by their keys
abbrev pub NumbersFit : List Told → Type 0
NumbersFit past = Every FitTold past

-- the copy has all commits of its file at this site among its ancestors
abbrev pub HoldsOwn : List Told → ℕ → FileCopy → Type 0
HoldsOwn past s x = (a : Stamp) → is_in (commits_of x.file past) x.file a ≡ true → a.site ≡ s → is_ancestor (commits_of x.file past) x.file a x.stamp ≡ true

-- of each file that a site has committed it holds a copy that has all those commits among its ancestors
abbrev pub IsHeldAt : List Told → ℕ → FileId → Option FileCopy → Type 0
IsHeldAt past s file None = (a : Stamp) → is_in (commits_of file past) file a ≡ true → a.site ≡ s → ⊥
IsHeldAt past s file (Some x) = (x.file ≡ file) × HoldsOwn past s x

abbrev pub CommitsAreHeld : World → Type 0
CommitsAreHeld w = (s : ℕ) (p : Place) (file : FileId) → place_at w s ≡ Some p → file.ino < inode_span → IsHeldAt (past_of w.trace) s file (row copy_key (file_key file) (copies_on p))

-- the same by counters: the copy counts each commit of its file at this site
abbrev pub CountsOwn : List Told → ℕ → FileId → Option FileCopy → Type 0
CountsOwn past s file None = (a : Stamp) → is_in (commits_of file past) file a ≡ true → a.site ≡ s → ⊥
CountsOwn past s file (Some x) = (x.file ≡ file) × ((a : Stamp) → is_in (commits_of file past) file a ≡ true → a.site ≡ s → a.n ≤ part x.vector (s - 1))

abbrev pub AllCounted : List Told → ℕ → List FileCopy → Type 0
AllCounted past s copies = (file : FileId) → file.ino < inode_span → CountsOwn past s file (row copy_key (file_key file) copies)

pub record Lawful (past : List Told) : Type 0 where
  pub numbered : CommitsAreNumbered past
  pub sited : CommitsAreSited past
  pub once : StampsAreOnce past
  pub fit : NumbersFit past

abbrev pub WhereLawful : World → Type 0
WhereLawful w = Lawful (past_of w.trace) → (s : ℕ) (p : Place) → place_at w s ≡ Some p → AllCounted (past_of w.trace) s (copies_on p)
