-- In every run each record comes as the lawful trace has it.
use Rattle.std.proofs.Common.{◌≤◌, List, length, arith}
use Rattle.locus_ids.specs.declared.config.Config.{Config}
use Rattle.schedule_lines.specs.Cluster.{config_of}
use Rattle.schedule_lines.specs.Schedule.{AreInOrder}
use Rattle.schedule_lines.specs.declared.line.ScheduleLine.{ScheduleLine}
use Rattle.the_run.specs.Runs.{run, run_in}
use Rattle.store_laws.specs.of_row_laws.Voids.{LinesFit}
use Rattle.store_laws.proofs.of_row_laws.Fitting.{schedule_fits}
use Rattle.store_laws.specs.of_tree_laws.Orders.Joining.{PacksAreOfSites}
use Rattle.store_laws.specs.OneTree.Places.{WorldFact}
use Rattle.tree_laws.specs.Following.{IsFollowed, RowsAreLawful}
use Rattle.tree_laws.specs.Printed.{entries}
use Rattle.tree_laws.proofs.Rows.{followed_rows}
use Rattle.rest_laws.proofs.StoreStepFirst.{four_groups}
use Rattle.store_laws.proofs.OneTree.Run.{run_holds}
use Rattle.store_laws.proofs.OneTree.Staying.{stays}
use Rattle.rest_laws.proofs.Packs.{schedule_packs}
use Rattle.rest_laws.proofs.Resting.{run_low, run_rests}
use Rattle.rest_laws.proofs.Roles.{roles_do}

pub run_facts : (c : Config) (lines : List ScheduleLine) → LinesFit c lines → PacksAreOfSites c → length c.packs ≤ 4 → WorldFact c (run_in c lines)
run_facts c lines fit packs few = run_holds c lines fit (roles_do c few) (stays c) (run_rests c lines fit packs (run_low c lines))

pub run_followed : (c : Config) (lines : List ScheduleLine) → LinesFit c lines → PacksAreOfSites c → length c.packs ≤ 4 → IsFollowed c (run_in c lines).trace
run_followed c lines fit packs few = (run_facts c lines fit packs few).followed

pub schedule_rows : (lines : List ScheduleLine) → AreInOrder lines → RowsAreLawful (config_of lines) (entries (run lines).trace)
schedule_rows lines order =
    let few : length (config_of lines).packs ≤ 4 = omega (arith, four_groups lines) in
    followed_rows (config_of lines) (run lines).trace (run_followed (config_of lines) lines (schedule_fits lines order) (schedule_packs lines order) few)
