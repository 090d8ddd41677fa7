-- What is left of the lawful trace for the laws of the one tree.
use Rattle.std.specs.Prelude.{ℕ, List}
use Rattle.locus_ids.specs.declared.config.Config.{Config}
use Rattle.locus_ids.specs.declared.ids.CallId.{CallId}
use Rattle.trace_book.specs.declared.entry.Entry.{Entry}
use Rattle.trace_book.specs.declared.call.Call.{Call}
use Rattle.trace_book.specs.declared.call.Call.TheVariants as call
use Rattle.trace_book.specs.declared.record.Record.{Record}
use Rattle.trace_book.specs.declared.record.Record.TheVariants as says
use Rattle.schedule_lines.specs.declared.line.ScheduleLine.{ScheduleLine}
use Rattle.schedule_lines.specs.Cluster.{config_of}
use Rattle.schedule_lines.specs.Schedule.{AreInOrder}
use Rattle.tree_model.specs.Folds.{Trace}
use Rattle.lawful_trace.specs.CallRows.{MayMend}
use Rattle.lawful_trace.specs.Lawful.{MayCome}
use Rattle.row_laws.specs.Shown.{EachRecord}
use Rattle.row_laws.specs.Rest.{IsCounted}

-- of the calls that are accepted, mends alone speak of the tree
abbrev pub AcceptTree : Config → Trace → ℕ → ℕ → CallId → Call → Type 0
AcceptTree c before site process id (call.Mend file) = MayMend c before site process id file
AcceptTree c before site process id _ = Unit {0}

-- what a record must meet that speaks of the tree: the count of a cut, and the whole row of each record of the tree
abbrev pub TreeRecord : Config → List ScheduleLine → ℕ → Trace → Record → Type 0
TreeRecord c lines n before (says.Up site boot) = Unit {0}
TreeRecord c lines n before (says.Stopped site why) = IsCounted c lines n before site why
TreeRecord c lines n before (says.Leave site epoch) = Unit {0}
TreeRecord c lines n before (says.Join site epoch members) = Unit {0}
TreeRecord c lines n before (says.Packet number from to kind) = Unit {0}
TreeRecord c lines n before says.Void = Unit {0}
TreeRecord c lines n before says.Budget = Unit {0}
TreeRecord c lines n before (says.Accept site process id words) = AcceptTree c before site process id words
TreeRecord c lines n before r = MayCome c before r

abbrev pub IsTreeRow : Config → List ScheduleLine → Trace → Entry → Type 0
IsTreeRow c lines before r = TreeRecord c lines r.line before r.what

-- the lines stand as those of a schedule may, and each record of the trace comes as the tree has it
pub record MeetsTheTree (lines : List ScheduleLine) (trace : Trace) : Type 0 where
  pub order : AreInOrder lines
  pub each : EachRecord (IsTreeRow (config_of lines) lines) trace
