-- Running sites of a run, in their epochs.
use Rattle.std.proofs.Common.{◌≡◌, ◌≤◌, ℕ, List, length, Option, Some, subst}
use Rattle.locus_ids.specs.declared.config.Config.{Config}
use Rattle.schedule_lines.specs.declared.line.ScheduleLine.{ScheduleLine}
use Rattle.role_steps.specs.Epochs.{frame_in}
use Rattle.role_steps.specs.Views.{SiteView}
use Rattle.role_steps.specs.declared.rounds.InEpoch.{InEpoch}
use Rattle.the_run.specs.Runs.{run_in}
use Rattle.the_run.specs.Worlds.{Running, place_at}
use Rattle.store_laws.specs.of_row_laws.Voids.{LinesFit}
use Rattle.tree_laws.specs.Orders.Joining.{PacksAreOfSites}
use Rattle.store_laws.specs.OneTree.Places.{InsideFact, SiteIn}
use Rattle.rest_laws.specs.Fits.Storing.{AreStorable}
use Rattle.rest_laws.proofs.Fits.RoomRun.{run_room}
use Rattle.rest_laws.proofs.Fits.Storing.{store_fits}
use Rattle.rest_laws.proofs.Fits.Tables.{past_of_run, world_of}

pub run_inside : (c : Config) (lines : List ScheduleLine) → LinesFit c lines → PacksAreOfSites c → length c.packs ≤ 4 → (s : ℕ) (v : SiteView) (e : InEpoch) → place_at (run_in c lines) s ≡ Some (Running v) → v.epoch ≡ Some e → InsideFact c (frame_in c s v.boot e) (run_in c lines).trace v
run_inside c lines fit packs few s v e here inside = subst (λ (o : Option InEpoch). SiteIn c s (run_in c lines).trace v o) inside ((world_of c lines fit packs few).places s (Running v) here)

pub run_storable : (c : Config) (lines : List ScheduleLine) → LinesFit c lines → PacksAreOfSites c → length c.packs ≤ 4 → (s : ℕ) (v : SiteView) (e : InEpoch) → place_at (run_in c lines) s ≡ Some (Running v) → v.epoch ≡ Some e → AreStorable c (frame_in c s v.boot e) v.store
run_storable c lines fit packs few s v e here inside =
    let fact : InsideFact c (frame_in c s v.boot e) (run_in c lines).trace v = run_inside c lines fit packs few s v e here inside in
    store_fits c (run_in c lines).trace (past_of_run c lines fit packs few) (frame_in c s v.boot e) fact.frame v.store fact.store (run_room c lines fit packs few s v here)
