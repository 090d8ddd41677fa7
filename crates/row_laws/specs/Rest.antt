-- What is left of the lawful trace for other laws: the rows that speak of the one tree, and of calls.
use Rattle.std.specs.Prelude.{ℕ, ◌≡◌, true, List}
use Rattle.locus_ids.specs.declared.config.Config.{Config}
use Rattle.trace_book.specs.declared.entry.Entry.{Entry}
use Rattle.trace_book.specs.declared.record.Record.{Record}
use Rattle.trace_book.specs.declared.record.Record.TheVariants as says
use Rattle.trace_book.specs.declared.record.StopCause.{StopCause}
use Rattle.trace_book.specs.declared.record.StopCause.TheVariants as cause
use Rattle.schedule_lines.specs.declared.line.ScheduleLine.{ScheduleLine}
use Rattle.schedule_lines.specs.Cluster.{config_of}
use Rattle.schedule_lines.specs.Schedule.{AreInOrder}
use Rattle.lawful_trace.specs.of_tree_model.Folds.{Trace}
use Rattle.lawful_trace.specs.Places.{line_at}
use Rattle.lawful_trace.specs.Disks.{may_cut}
use Rattle.lawful_trace.specs.LineRows.{IsVoidAsked, is_told}
use Rattle.lawful_trace.specs.Lawful.{MayCome}
use Rattle.row_laws.specs.Shown.{EachRecord}
use Rattle.row_laws.specs.Voids.{is_call}

-- the disk call that was cut is counted by the pages of the versions
abbrev pub IsCounted : Config → List ScheduleLine → ℕ → Trace → ℕ → StopCause → Type 0
IsCounted c lines n before site cause.Asked = Unit {0}
IsCounted c lines n before site cause.Fuse = may_cut c lines before n site ≡ true
IsCounted c lines n before site cause.Fault = may_cut c lines before n site ≡ true

-- what a record must meet beyond the laws of this crate: the count of a cut; a void call; and the whole row of each record of calls and of the tree
abbrev pub RestRecord : Config → List ScheduleLine → ℕ → Trace → Record → Type 0
RestRecord c lines n before (says.Up site boot) = Unit {0}
RestRecord c lines n before (says.Stopped site why) = IsCounted c lines n before site why
RestRecord c lines n before (says.Leave site epoch) = Unit {0}
RestRecord c lines n before (says.Join site epoch members) = Unit {0}
RestRecord c lines n before (says.Packet number from to kind) = Unit {0}
RestRecord c lines n before says.Void = is_call (line_at lines n) ≡ true → IsVoidAsked lines n before
RestRecord c lines n before says.Budget = Unit {0}
RestRecord c lines n before r = MayCome c before r

abbrev pub IsRestRow : Config → List ScheduleLine → Trace → Entry → Type 0
IsRestRow c lines before r = RestRecord c lines r.line before r.what

-- the lines stand as those of a schedule may, each record of the trace meets the rest, and each call is told
pub record MeetsTheRest (lines : List ScheduleLine) (trace : Trace) : Type 0 where
  pub order : AreInOrder lines
  pub each : EachRecord (IsRestRow (config_of lines) lines) trace
  pub told : (n : ℕ) → is_call (line_at lines n) ≡ true → is_told lines trace n ≡ true
