-- The cut calls of the run of a schedule that the reader accepts.
use Rattle.std.proofs.Common.{◌≤◌, List, length, arith}
use Rattle.locus_ids.specs.declared.config.Config.{Config}
use Rattle.schedule_lines.specs.Cluster.{config_of}
use Rattle.schedule_lines.specs.Schedule.{AreInOrder}
use Rattle.schedule_lines.specs.declared.line.ScheduleLine.{ScheduleLine}
use Rattle.the_run.specs.Runs.{run, run_in}
use Rattle.row_laws.specs.Shown.{EachRecord, trace_of}
use Rattle.row_laws.specs.Voids.{LinesFit}
use Rattle.row_laws.proofs.Fitting.{schedule_fits}
use Rattle.rest_laws.specs.of_tree_laws.Orders.Joining.{PacksAreOfSites}
use Rattle.rest_laws.proofs.StoreStepFirst.{four_groups}
use Rattle.rest_laws.specs.MendStepCounting.{IsCountedRow}
use Rattle.rest_laws.proofs.Packs.{schedule_packs}
use Rattle.rest_laws.proofs.Resting.{run_low, run_rests}
use Rattle.rest_laws.proofs.Roles.{roles_do}
use Rattle.headline_laws.proofs.WholeRuns.CutCourse.{run_counted}

pub cuts_counted : (c : Config) (lines : List ScheduleLine) → LinesFit c lines → PacksAreOfSites c → length c.packs ≤ 4 → EachRecord (IsCountedRow c lines) (trace_of (run_in c lines))
cuts_counted c lines fit packs few = run_counted c lines fit (roles_do c few) (run_rests c lines fit packs (run_low c lines))

pub schedule_counted : (lines : List ScheduleLine) → AreInOrder lines → EachRecord (IsCountedRow (config_of lines) lines) (trace_of (run lines))
schedule_counted lines order =
    let few : length (config_of lines).packs ≤ 4 = omega (arith, four_groups lines) in
    cuts_counted (config_of lines) lines (schedule_fits lines order) (schedule_packs lines order) few
