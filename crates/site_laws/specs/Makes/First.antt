-- Who commits a file first: the make for which its number was reserved.
use Rattle.std.specs.Prelude.{ℕ, ◌≡◌, List, [], ◌∷◌}
use Rattle.locus_ids.specs.declared.ids.EpochId.{EpochId}
use Rattle.locus_ids.specs.declared.ids.FileId.{FileId}
use Rattle.locus_ids.specs.declared.ids.Mode.TheVariants as mode
use Rattle.trace_book.specs.declared.record.Record.{Record}
use Rattle.trace_book.specs.declared.record.Record.TheVariants as says
use Rattle.role_steps.specs.Views.{Told, Shown}
use Rattle.site_laws.specs.Packs.Making.{WasCommitted}
use Rattle.site_laws.specs.Makes.RunningRunning.{IsRunning}
use Rattle.site_laws.specs.Makes.Holding.{WasReserved}

-- this site runs a make of the file, for which it has reserved the number
pub record IsMadeAt (past : List Told) (s : ℕ) (file : FileId) : Type 0 where
  pub epoch : EpochId
  pub key : ℕ
  pub runs : IsRunning past s epoch key file mode.Make
  pub reserved : WasReserved past s epoch key file

abbrev pub FirstRecord : List Told → Record → Type 0
FirstRecord older (says.Commit file s stamp parents content) = (file.ino ≡ 1 → ⊥) → (WasCommitted older file → ⊥) → IsMadeAt older s file
FirstRecord older _ = Unit {0}

abbrev pub FirstTold : List Told → Told → Type 0
FirstTold older (Shown r) = FirstRecord older r
FirstTold older _ = Unit {0}

-- where nobody has committed a file that is no root, only such a site commits it
abbrev pub MakesCommitFirst : List Told → Type 0
MakesCommitFirst [] = Unit {0}
MakesCommitFirst (x ∷ older) = FirstTold older x × MakesCommitFirst older
