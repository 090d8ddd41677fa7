-- How a file comes to be: its first version is made at the site whose number it has.
use Rattle.std.specs.Prelude.{ℕ, ◌≡◌, ◌≤◌, ◌+◌, ◌-◌, ◌*◌, ◌⊎◌, List, [], ◌∷◌}
use Rattle.locus_ids.specs.declared.ids.FileId.{FileId}
use Rattle.locus_ids.specs.declared.ids.Stamp.{Stamp}
use Rattle.locus_ids.specs.Sizes.{site_inodes}
use Rattle.trace_book.specs.declared.record.Record.{Record}
use Rattle.trace_book.specs.declared.record.Record.TheVariants as says
use Rattle.role_steps.specs.Views.{Told, Shown, Reserves}
use Rattle.site_laws.specs.Vectors.Written.{WasTold}

-- one of the 64 inode numbers that the site gives
pub record IsOwnNumber (site ino : ℕ) : Type 0 where
  pub low : site_inodes * (site - 1) + 1 ≤ ino
  pub high : ino ≤ site_inodes * (site - 1) + site_inodes

abbrev pub NotEmpty : {A : Type 0} → List A → Type 0
NotEmpty [] = ⊥
NotEmpty (x ∷ xs) = Unit {0}

-- it follows other versions, or has a number of the site
abbrev pub Originates : ℕ → ℕ → List Stamp → Type 0
Originates site ino parents = NotEmpty parents ⊎ IsOwnNumber site ino

-- ---- the law ----

abbrev pub CommitsRecord : FileId → Record → Type 0
CommitsRecord file (says.Commit g s stamp parents content) = g ≡ file
CommitsRecord file _ = ⊥

-- somebody commits a version of the file
abbrev pub CommitsFile : FileId → Told → Type 0
CommitsFile file (Shown r) = CommitsRecord file r
CommitsFile file _ = ⊥

abbrev pub WasCommitted : List Told → FileId → Type 0
WasCommitted past file = WasTold (CommitsFile file) past

-- a root, or a file committed before, or one of the site's own numbers
abbrev pub MadeRecord : List Told → Record → Type 0
MadeRecord older (says.Commit file s stamp parents content) = (file.ino ≡ 1) ⊎ (WasCommitted older file ⊎ IsOwnNumber s file.ino)
MadeRecord older _ = Unit {0}

abbrev pub MadeTold : List Told → Told → Type 0
MadeTold older (Shown r) = MadeRecord older r
MadeTold older (Reserves s e inst file) = IsOwnNumber s file.ino
MadeTold older _ = Unit {0}

abbrev pub FilesAreMadeAtHome : List Told → Type 0
FilesAreMadeAtHome [] = Unit {0}
FilesAreMadeAtHome (x ∷ older) = MadeTold older x × FilesAreMadeAtHome older

-- ---- who makes a file first ----

abbrev pub CommitsRecordAt : ℕ → FileId → Record → Type 0
CommitsRecordAt site file (says.Commit g s stamp parents content) = (s ≡ site) × (g ≡ file)
CommitsRecordAt site file _ = ⊥

-- this site commits a version of the file
abbrev pub CommitsAt : ℕ → FileId → Told → Type 0
CommitsAt site file (Shown r) = CommitsRecordAt site file r
CommitsAt site file _ = ⊥

abbrev pub WasCommittedAt : List Told → ℕ → FileId → Type 0
WasCommittedAt past site file = WasTold (CommitsAt site file) past

-- whoever has committed a file that isn't a root, the site whose number it has committed it too, by then at the latest
abbrev pub HomesCommitFirst : List Told → Type 0
HomesCommitFirst [] = Unit {0}
HomesCommitFirst (x ∷ older) =
    ((file : FileId) (home : ℕ) → 1 ≤ home → IsOwnNumber home file.ino → CommitsFile file x → (file.ino ≡ 1) ⊎ WasCommittedAt (x ∷ older) home file) × HomesCommitFirst older
