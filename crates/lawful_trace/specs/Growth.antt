-- What one line more must bring with it, so that a lawful trace stays lawful.
use Rattle.std.specs.Prelude.{◌≡◌, ◌+◌, Bool, true, false, ◌&&◌, List, [], ◌∷◌, ◌++◌, length, Option, None, Some}
use Rattle.std.specs.List.{AllByRecursion}
use Rattle.locus_ids.specs.declared.config.Config.{Config}
use Rattle.trace_book.specs.declared.record.Record.{Record}
use Rattle.disk_calls.specs.of_schedule_lines.declared.line.ScheduleLine.{ScheduleLine}
use Rattle.disk_calls.specs.of_schedule_lines.declared.line.ScheduleLine.TheVariants.{Passed, Header, Event}
use Rattle.disk_calls.specs.of_schedule_lines.Cluster.{config_of}
use Rattle.tree_model.specs.Folds.{Trace}
use Rattle.lawful_trace.specs.Disks.{writer_of, fits_calls}
use Rattle.lawful_trace.specs.LineRows.{is_told}
use Rattle.lawful_trace.specs.Lawful.{Comes}

-- each of the new records comes as it may after the others and those before; the latest stands first
abbrev pub EachNew : Config → List ScheduleLine → Trace → Trace → Type 0
EachNew c lines [] before = Unit {0}
EachNew c lines (r ∷ new) before = Comes c lines (new ++ before) r × EachNew c lines new before

-- after each new version on a disk that no stop has cut off, the disk has room for the versions since it was armed
abbrev pub new_fit_calls : Config → List ScheduleLine → Option Record → Trace → Trace → Bool
new_fit_calls c lines next [] before = true
new_fit_calls c lines next (r ∷ new) before = fits_calls c lines next (r ∷ new ++ before) (writer_of r.what) && new_fit_calls c lines (Some r.what) new before

abbrev pub is_header : ScheduleLine → Bool
is_header (Header h) = true
is_header Passed = false
is_header (Event e) = false

-- One line more that is no header line, with the records of its number.
pub record IsNextLine (lines : List ScheduleLine) (trace : Trace) (l : ScheduleLine) (new : Trace) : Type 0 where
  pub no_header : is_header l ≡ false
  pub numbers : AllByRecursion (λ r. r.line ≡ length lines + 1) new
  pub each : EachNew (config_of lines) (lines ++ l ∷ []) new trace
  pub told : is_told (lines ++ l ∷ []) (new ++ trace) (length lines + 1) ≡ true
  pub calls : new_fit_calls (config_of lines) (lines ++ l ∷ []) None new trace ≡ true
