-- In every run the pages in the memory of sites are those of their versions.
use Rattle.std.proofs.Common.{◌≡◌, ◌≤◌, ℕ, List, length, arith, Option, Some, None, refl}
use Rattle.locus_ids.specs.declared.config.Config.{Config}
use Rattle.schedule_lines.specs.Cluster.{config_of}
use Rattle.schedule_lines.specs.Schedule.{AreInOrder}
use Rattle.schedule_lines.specs.declared.line.ScheduleLine.{ScheduleLine}
use Rattle.role_steps.specs.Views.{SiteView}
use Rattle.role_steps.specs.declared.rounds.InEpoch.{InEpoch}
use Rattle.the_run.specs.Runs.{run, run_in}
use Rattle.the_run.specs.Worlds.{Line, Running}
use Rattle.tree_laws.specs.Caches.Right.{AreRight}
use Rattle.tree_laws.specs.Users.{contents_in}
use Rattle.store_laws.specs.of_row_laws.Voids.{LinesFit}
use Rattle.store_laws.specs.of_tree_laws.Orders.Joining.{PacksAreOfSites}
use Rattle.store_laws.specs.OneTree.Places.{SiteFact, SiteIn}
use Rattle.store_laws.proofs.of_row_laws.Fitting.{schedule_fits}
use Rattle.store_laws.proofs.OneTree.Run.{run_holds}
use Rattle.store_laws.proofs.OneTree.Staying.{stays}
use Rattle.rest_laws.specs.Caching.{CachedPagesAreRight}
use Rattle.rest_laws.proofs.Packs.{schedule_packs}
use Rattle.rest_laws.proofs.Resting.{run_low, run_rests}
use Rattle.rest_laws.proofs.Roles.{roles_do}
use Rattle.rest_laws.proofs.StoreStepFirst.{four_groups}

-- in an epoch and in none
site_right : (c : Config) (me : ℕ) (trace : List Line) (v : SiteView) (o : Option InEpoch) → SiteIn c me trace v o → AreRight (contents_in c trace) v.users.cache
site_right c me trace v None k = k.users.always.cache
site_right c me trace v (Some e) k = k.users.inside.always.cache

pub pages_right : (c : Config) (lines : List ScheduleLine) → LinesFit c lines → PacksAreOfSites c → length c.packs ≤ 4 → CachedPagesAreRight c (run_in c lines)
pages_right c lines fit packs few s v at = site_right c s (run_in c lines).trace v v.epoch
    ((run_holds c lines fit (roles_do c few) (stays c) (run_rests c lines fit packs (run_low c lines))).places s (Running v) at)

pub schedule_pages : (lines : List ScheduleLine) → AreInOrder lines → CachedPagesAreRight (config_of lines) (run lines)
schedule_pages lines order =
    let few : length (config_of lines).packs ≤ 4 = omega (arith, four_groups lines) in
    pages_right (config_of lines) lines (schedule_fits lines order) (schedule_packs lines order) few
