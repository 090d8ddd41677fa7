-- Which calls acknowledge a version, and on which file.
use Rattle.std.specs.Prelude.{ℕ, Bool, true, false, Option}
use Rattle.locus_ids.specs.declared.ids.CallId.{CallId}
use Rattle.locus_ids.specs.declared.ids.EpochId.{EpochId}
use Rattle.locus_ids.specs.declared.ids.FileId.{FileId}
use Rattle.locus_ids.specs.declared.ids.Mode.{Mode}
use Rattle.locus_ids.specs.declared.ids.Serial.{Serial}
use Rattle.locus_ids.specs.declared.ids.Stamp.{Stamp}
use Rattle.trace_book.specs.declared.call.Call.{Call}
use Rattle.trace_book.specs.declared.call.Call.TheVariants as call
use Rattle.trace_book.specs.declared.record.Record.TheVariants.{Grant}
use Rattle.the_run.specs.Kept.{Among}
use Rattle.tree_model.specs.Folds.{Trace}

-- the calls whose reply may name a version of the instance of a descriptor
abbrev pub acknowledges : Call → Bool
acknowledges (call.Commit fd) = true
acknowledges (call.Close fd) = true
acknowledges _ = false

-- a grant record of the epoch names the instance, on this file
pub record IsGrantedOn (before : Trace) (e : EpochId) (i : Serial) (f : FileId) : Type 0 where
  pub line : ℕ
  pub call : CallId
  pub request : ℕ
  pub mode : Mode
  pub stamp : Option Stamp
  pub ss : ℕ
  pub there : Among (record { line = line; what = Grant e call request i mode f stamp ss }) before
