-- What the laws of every run give of a schedule that the reader accepts.
use Rattle.std.proofs.Common.{◌≤◌, List, length, subst, sym, arith}
use Rattle.schedule_lines.specs.Cluster.{config_of}
use Rattle.schedule_lines.specs.Schedule.{AreInOrder}
use Rattle.schedule_lines.specs.declared.line.ScheduleLine.{ScheduleLine}
use Rattle.the_run.specs.Runs.{run}
use Rattle.row_laws.specs.Shown.{trace_of}
use Rattle.row_laws.proofs.Fitting.{schedule_fits}
use Rattle.tree_laws.specs.Following.{IsFollowed}
use Rattle.calm_laws.specs.of_store_laws.OneTree.Rest.{IsRest, Past}
use Rattle.calm_laws.proofs.of_store_laws.OneTree.Staying.{rest_below}
use Rattle.rest_laws.proofs.Packs.{schedule_packs}
use Rattle.rest_laws.proofs.Resting.{run_low, run_rests}
use Rattle.rest_laws.proofs.Run.{run_followed}
use Rattle.rest_laws.proofs.Shown.{shown_entries}
use Rattle.rest_laws.proofs.StoreStepFirst.{four_groups}
use Rattle.headline_laws.specs.Promises.Holding.{CommitsStayHeld}
use Rattle.headline_laws.proofs.Promises.HoldingOn.{stay_held}

pub few_groups : (lines : List ScheduleLine) → length (config_of lines).packs ≤ 4
few_groups lines = omega (arith, four_groups lines)

pub schedule_rests : (lines : List ScheduleLine) → AreInOrder lines → IsRest (config_of lines) (run lines).trace
schedule_rests lines order = run_rests (config_of lines) lines (schedule_fits lines order) (schedule_packs lines order) (run_low (config_of lines) lines)

pub schedule_followed : (lines : List ScheduleLine) → AreInOrder lines → IsFollowed (config_of lines) (run lines).trace
schedule_followed lines order = run_followed (config_of lines) lines (schedule_fits lines order) (schedule_packs lines order) (few_groups lines)

pub schedule_past : (lines : List ScheduleLine) → AreInOrder lines → Past (config_of lines) (run lines).trace
schedule_past lines order = record { followed = schedule_followed lines order; rest = schedule_rests lines order }

pub commits_stay : (lines : List ScheduleLine) → AreInOrder lines → CommitsStayHeld (config_of lines) (trace_of (run lines))
commits_stay lines order = subst (CommitsStayHeld (config_of lines)) (sym (shown_entries (run lines).trace))
    (stay_held (config_of lines) (run lines).trace (schedule_followed lines order) (rest_below (config_of lines) (run lines).trace (schedule_rests lines order)))
