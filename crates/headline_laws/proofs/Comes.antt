-- Each record of a run comes as it may and is asked for by its line, also where the run passes a limit.
use Rattle.std.proofs.Common.{◌≡◌, ℕ, Bool, true, false, [], ◌∷◌, List, refl}
use Rattle.locus_ids.specs.declared.config.Config.{Config}
use Rattle.trace_book.specs.declared.record.Record.{Record}
use Rattle.trace_book.specs.declared.record.Record.TheVariants as says
use Rattle.trace_book.specs.declared.record.StopCause.{StopCause}
use Rattle.trace_book.specs.declared.record.StopCause.TheVariants as cause
use Rattle.schedule_lines.specs.Cluster.{config_of}
use Rattle.schedule_lines.specs.Schedule.{AreInOrder}
use Rattle.schedule_lines.specs.declared.line.ScheduleLine.{ScheduleLine}
use Rattle.the_run.specs.Runs.{run}
use Rattle.tree_model.specs.Folds.{Trace}
use Rattle.lawful_trace.specs.Places.{line_at}
use Rattle.lawful_trace.specs.SiteRows.{StopLine}
use Rattle.lawful_trace.specs.Lawful.{IsAsked, EachComes}
use Rattle.row_laws.specs.Rest.{IsCounted}
use Rattle.row_laws.specs.Rows.{IsPlaced, StopAsked, AskedRecord, IsAskedFor, ArmedStop, ArmedRecord, IsArmedFor}
use Rattle.row_laws.specs.Shown.{EachRecord, trace_of}
use Rattle.row_laws.specs.Voids.{is_call, VoidRecord, IsVoidRow}
use Rattle.row_laws.proofs.ArmsKept.{run_armed_for}
use Rattle.row_laws.proofs.AskedRun.{run_placed, run_asked}
use Rattle.row_laws.proofs.Fitting.{schedule_fits}
use Rattle.row_laws.proofs.Voids.{run_voids}
use Rattle.row_laws.specs.CallRows.Lines.{VoidCall, IsVoidCall}
use Rattle.row_laws.proofs.CallRows.CallTales.{run_void_calls}
use Rattle.tree_laws.specs.Following.{RowsAreLawful}
use Rattle.rest_laws.specs.MendStepCounting.{CountedRecord, IsCountedRow}
use Rattle.headline_laws.proofs.WholeRuns.CutRun.{schedule_counted}

stop_line : (c : Config) (lines : List ScheduleLine) (n : ℕ) (before : Trace) (site : ℕ) (why : StopCause) → StopAsked lines n before site why → ArmedStop c lines n before site why → IsCounted c lines n before site why → StopLine c lines n before site why
stop_line c lines n before site cause.Asked a k r = a
stop_line c lines n before site cause.Fuse a k r = record { working = a; armed = k; counted = r }
stop_line c lines n before site cause.Fault a k r = record { working = a; armed = k; counted = r }

either : {A : Type 0} (call : Bool) → (call ≡ false → A) → (call ≡ true → A) → A
either true v r = r refl
either false v r = v refl

is_asked : (c : Config) (lines : List ScheduleLine) (n : ℕ) (before : Trace) (r : Record) → AskedRecord lines n before r → ArmedRecord c lines n before r → VoidRecord lines n before r → VoidCall lines n before r → CountedRecord c lines n before r → IsAsked c lines n before r
is_asked c lines n before (says.Up site boot) a k v w r = a
is_asked c lines n before (says.Stopped site why) a k v w r = stop_line c lines n before site why a k r
is_asked c lines n before (says.Leave site epoch) a k v w r = a
is_asked c lines n before (says.Join site epoch members) a k v w r = a
is_asked c lines n before (says.Accept site process call words) a k v w r = a
is_asked c lines n before (says.Packet number from to kind) a k v w r = a
is_asked c lines n before says.Void a k v w r = either (is_call (line_at lines n)) v w
is_asked c lines n before says.Budget a k v w r = a
is_asked c lines n before _ a k v w r = tt

all_come : (c : Config) (lines : List ScheduleLine) (trace : Trace) → EachRecord (IsPlaced lines) trace → EachRecord (IsAskedFor lines) trace → EachRecord (IsArmedFor c lines) trace → EachRecord (IsVoidRow lines) trace → EachRecord (IsVoidCall lines) trace → EachRecord (IsCountedRow c lines) trace → RowsAreLawful c trace → EachComes c lines trace
all_come c lines [] p a k v w r rows = tt
all_come c lines (x ∷ before) p a k v w r rows = (
  record {
    consistent = record { ascending = p.0.ascending; row = rows.0 };
    placed = p.0.placed;
    asked = is_asked c lines x.line before x.what a.0 k.0 v.0 w.0 r.0;
  },
  all_come c lines before p.1 a.1 k.1 v.1 w.1 r.1 rows.1,
)

pub run_comes : (lines : List ScheduleLine) → AreInOrder lines → RowsAreLawful (config_of lines) (trace_of (run lines)) → EachComes (config_of lines) lines (trace_of (run lines))
run_comes lines order rows =
    let c : Config = config_of lines in
    all_come c lines (trace_of (run lines)) (run_placed c lines) (run_asked c lines) (run_armed_for c lines) (run_voids c lines (schedule_fits lines order)) (run_void_calls c lines (schedule_fits lines order)) (schedule_counted lines order) rows
