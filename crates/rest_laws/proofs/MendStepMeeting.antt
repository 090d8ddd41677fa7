-- Where each record comes as the lawful trace has it, it meets the tree: a mend too, when it is accepted.
use Rattle.std.proofs.Common.{ℕ, List, [], ◌∷◌}
use Rattle.locus_ids.specs.declared.config.Config.{Config}
use Rattle.locus_ids.specs.declared.ids.CallId.{CallId}
use Rattle.schedule_lines.specs.declared.line.ScheduleLine.{ScheduleLine}
use Rattle.trace_book.specs.declared.call.Call.{Call}
use Rattle.trace_book.specs.declared.call.Call.TheVariants as call
use Rattle.trace_book.specs.declared.record.Record.{Record}
use Rattle.trace_book.specs.declared.record.Record.TheVariants as says
use Rattle.tree_model.specs.Folds.{Trace}
use Rattle.lawful_trace.specs.CallRows.{CallRow}
use Rattle.lawful_trace.specs.Lawful.{MayCome}
use Rattle.store_laws.specs.of_row_laws.Shown.{EachRecord}
use Rattle.store_laws.specs.of_row_laws.CallRows.Tree.{AcceptTree, IsTreeRow, TreeRecord}
use Rattle.tree_laws.specs.Following.{RowsAreLawful}
use Rattle.rest_laws.specs.MendStepCounting.{CountedRecord, IsCountedRow}

accepted_so : (c : Config) (before : Trace) (s process : ℕ) (d : CallId) (words : Call) → CallRow c before s process d words → AcceptTree c before s process d words
accepted_so c before s process d (call.Mend file) k = k
accepted_so c before s process d _ k = tt

record_meets : (c : Config) (lines : List ScheduleLine) (n : ℕ) (before : Trace) (r : Record) → MayCome c before r → CountedRecord c lines n before r → TreeRecord c lines n before r
record_meets c lines n before (says.Up site boot) may counted = tt
record_meets c lines n before (says.Stopped site why) may counted = counted
record_meets c lines n before (says.Leave site epoch) may counted = tt
record_meets c lines n before (says.Join site epoch members) may counted = tt
record_meets c lines n before (says.Packet number from to kind) may counted = tt
record_meets c lines n before says.Void may counted = tt
record_meets c lines n before says.Budget may counted = tt
record_meets c lines n before (says.Accept site process id words) may counted = accepted_so c before site process id words may
record_meets c lines n before r may counted = may

pub rows_meet : (c : Config) (lines : List ScheduleLine) (trace : Trace) → RowsAreLawful c trace → EachRecord (IsCountedRow c lines) trace → EachRecord (IsTreeRow c lines) trace
rows_meet c lines [] rows counted = tt
rows_meet c lines (r ∷ before) rows counted = (record_meets c lines r.line before r.what rows.0 counted.0, rows_meet c lines before rows.1 counted.1)
