-- Every run stops sites within disk calls where their disks are cut, and heeds its armed disks: what its lines ask of stops.
use Rattle.std.proofs.Common.{◌≡◌, ℕ, true, List, [], ◌∷◌, reverse}
use Rattle.locus_ids.specs.declared.config.Config.{Config}
use Rattle.schedule_lines.specs.Cluster.{config_of}
use Rattle.schedule_lines.specs.Schedule.{AreInOrder}
use Rattle.schedule_lines.specs.declared.line.ScheduleLine.{ScheduleLine}
use Rattle.tree_model.specs.Folds.{Trace}
use Rattle.the_run.specs.Runs.{run}
use Rattle.row_laws.specs.Shown.{EachRecord, trace_of}
use Rattle.promises.specs.Lines.{EachAsked}
use Rattle.promises.specs.Stops.{Stops, heeds_stops}
use Rattle.headline_laws.specs.StopRuns.Stops.{IsCutRow}
use Rattle.headline_laws.proofs.StopRuns.Course.{schedule_exact}
use Rattle.headline_laws.specs.StopPromises.Alike.{EachAgreed}
use Rattle.headline_laws.proofs.StopPromises.Promised.{each_agreed, promised}
use Rattle.headline_laws.proofs.StopPromises.Stopped.{cut_where_stopped}
use Rattle.headline_laws.proofs.HeadlinePromises.Asked.{CutIsExact, run_each_asked}
use Rattle.headline_laws.proofs.HeadlinePromises.Comes.{run_comes_so, run_is_named}

-- what its adoptions wrote
abbrev pub run_wrote : (lines : List ScheduleLine) → AreInOrder lines → ℕ → List ℕ
run_wrote lines order = (schedule_exact lines order).wrote

pub run_stops : (lines : List ScheduleLine) → AreInOrder lines → Stops lines (reverse (trace_of (run lines)))
run_stops lines order = record { wrote = run_wrote lines order; stops = promised (run_wrote lines order) lines (trace_of (run lines)) (run_is_named lines order) (run_comes_so lines order) (schedule_exact lines order).exact }

pub run_heeds : (lines : List ScheduleLine) (order : AreInOrder lines) → heeds_stops (run_wrote lines order) (config_of lines) lines [] (reverse (trace_of (run lines))) ≡ true
run_heeds lines order = (promised (run_wrote lines order) lines (trace_of (run lines)) (run_is_named lines order) (run_comes_so lines order) (schedule_exact lines order).exact).heeded

each_cut_so : (wrote : ℕ → List ℕ) (c : Config) (lines : List ScheduleLine) (trace : Trace) → EachAgreed c trace → EachRecord (IsCutRow wrote c lines) trace → EachRecord (CutIsExact wrote c lines) trace
each_cut_so wrote c lines [] agreed rows = tt
each_cut_so wrote c lines (r ∷ before) agreed rows = (cut_where_stopped wrote c lines r before agreed rows, each_cut_so wrote c lines before agreed.1 rows.1)

pub run_asks_each : (lines : List ScheduleLine) (order : AreInOrder lines) → EachAsked (run_wrote lines order) (config_of lines) lines [] (reverse (trace_of (run lines)))
run_asks_each lines order = run_each_asked (run_wrote lines order) lines order (each_cut_so (run_wrote lines order) (config_of lines) lines (trace_of (run lines)) (each_agreed (config_of lines) (run_is_named lines order) (trace_of (run lines)) (run_comes_so lines order)) (schedule_exact lines order).exact.cuts)
