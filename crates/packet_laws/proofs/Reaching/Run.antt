-- In every run the numbers that records tell first are low.
use Rattle.std.proofs.Common.{◌≤◌, List, length}
use Rattle.locus_ids.specs.declared.config.Config.{Config}
use Rattle.schedule_lines.specs.declared.line.ScheduleLine.{ScheduleLine}
use Rattle.the_run.specs.Runs.{run_in}
use Rattle.rest_laws.specs.of_store_laws.OneTree.Rest.{IsRest}
use Rattle.tree_laws.specs.Orders.Joining.{PacksAreOfSites}
use Rattle.rest_laws.specs.of_row_laws.Shown.{EachRecord, trace_of}
use Rattle.rest_laws.specs.of_row_laws.Voids.{LinesFit}
use Rattle.rest_laws.proofs.of_row_laws.AskedRun.{first_courses}
use Rattle.rest_laws.proofs.of_row_laws.ByLine.{every_line}
use Rattle.rest_laws.proofs.Resting.{run_low, run_rests}
use Rattle.rest_laws.proofs.Roles.{roles_do}
use Rattle.packet_laws.proofs.Formats.Run.{first_stand}
use Rattle.packet_laws.specs.Reaching.Reach.{IsReached}
use Rattle.packet_laws.proofs.Reaching.Least.{each_reached}
use Rattle.packet_laws.proofs.Reaching.Walk.{Walks, walks_kept}

pub run_reached : (c : Config) (lines : List ScheduleLine) → LinesFit c lines → PacksAreOfSites c → length c.packs ≤ 4 → EachRecord IsReached (trace_of (run_in c lines))
run_reached c lines fit packs few =
    let k : Walks c lines (length lines) (run_in c lines) = every_line c lines (Walks c lines) (walks_kept c lines fit (roles_do c few) few)
    (record { courses = first_courses c lines; stand = first_stand c (roles_do c few); reached = λ r. record { listed = tt; lines = tt } }) in
    let rest : IsRest c (run_in c lines).trace = run_rests c lines fit packs (run_low c lines) in
    each_reached c (run_in c lines).trace (k.stand.holds rest).followed (k.reached rest).lines
