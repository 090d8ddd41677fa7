-- The disks of a run hold what its trace says that they hold.
use Rattle.std.proofs.Common.{◌≡◌, ◌≤◌, ◌<◌, ℕ, List, length, Option, Some, None, sym, subst, arith}
use Rattle.std.specs.Option.{option_map}
use Rattle.locus_ids.specs.declared.config.Config.{Config}
use Rattle.locus_ids.specs.declared.ids.FileId.{FileId}
use Rattle.locus_ids.specs.Sizes.{inode_span}
use Rattle.schedule_lines.specs.Cluster.{config_of}
use Rattle.schedule_lines.specs.Schedule.{AreInOrder}
use Rattle.schedule_lines.specs.declared.line.ScheduleLine.{ScheduleLine}
use Rattle.role_steps.specs.Storage.{copy_key}
use Rattle.role_steps.specs.Tables.{row}
use Rattle.role_steps.specs.Views.{SiteView, file_key}
use Rattle.role_steps.specs.declared.rounds.InEpoch.{InEpoch}
use Rattle.the_run.specs.Runs.{run, run_in}
use Rattle.the_run.specs.Worlds.{Line, Place, Running, Stopped}
use Rattle.tree_model.specs.Files.{held_version}
use Rattle.tree_model.specs.Folds.{Trace}
use Rattle.rest_laws.specs.of_site_laws.Vectors.Held.{copies_on}
use Rattle.row_laws.specs.Voids.{LinesFit}
use Rattle.row_laws.proofs.Fitting.{schedule_fits}
use Rattle.rest_laws.specs.of_tree_laws.Orders.Joining.{PacksAreOfSites}
use Rattle.rest_laws.specs.of_tree_laws.Printed.{entries}
use Rattle.rest_laws.specs.of_tree_laws.Stores.{copy_for}
use Rattle.rest_laws.proofs.StoreStepFirst.{four_groups}
use Rattle.rest_laws.specs.of_store_laws.OneTree.Places.{PlaceFact, SiteIn, WorldFact}
use Rattle.rest_laws.proofs.of_store_laws.OneTree.Run.{run_holds}
use Rattle.rest_laws.proofs.of_store_laws.OneTree.Staying.{stays}
use Rattle.rest_laws.proofs.Packs.{schedule_packs}
use Rattle.rest_laws.proofs.Resting.{run_low, run_rests}
use Rattle.rest_laws.proofs.Roles.{roles_do}
use Rattle.rest_laws.proofs.Shown.{shown_entries}
use Rattle.headline_laws.specs.WholeRuns.Disks.{DisksHold}

-- the disk holds of the file what its site has by the printed trace
abbrev Holds : Config → List Line → ℕ → FileId → Place → Type 0
Holds c trace s f p = row copy_key (file_key f) (copies_on p) ≡ option_map (copy_for f) (held_version c (entries trace) s f)

inside_or_not : (c : Config) (trace : List Line) (s : ℕ) (f : FileId) → f.ino < inode_span → (v : SiteView) (e : Option InEpoch) → SiteIn c s trace v e → Holds c trace s f (Running v)
inside_or_not c trace s f low v None h = h.copies.are f low
inside_or_not c trace s f low v (Some e) h = h.store.copies.are f low

place_holds : (c : Config) (trace : List Line) (s : ℕ) (f : FileId) → f.ino < inode_span → (p : Place) → PlaceFact c s trace p → Holds c trace s f p
place_holds c trace s f low (Running v) h = inside_or_not c trace s f low v v.epoch h
place_holds c trace s f low (Stopped d) h = h.copies.are f low

run_fact : (c : Config) (lines : List ScheduleLine) → LinesFit c lines → PacksAreOfSites c → length c.packs ≤ 4 → WorldFact c (run_in c lines)
run_fact c lines fit packs few = run_holds c lines fit (roles_do c few) (stays c) (run_rests c lines fit packs (run_low c lines))

pub disks_hold : (lines : List ScheduleLine) → AreInOrder lines → DisksHold (config_of lines) (run lines)
disks_hold lines order =
    let few : length (config_of lines).packs ≤ 4 = omega (arith, four_groups lines) in
    let h : WorldFact (config_of lines) (run lines) = run_fact (config_of lines) lines (schedule_fits lines order) (schedule_packs lines order) few in
    λ s p f here low. subst (λ (t : Trace). row copy_key (file_key f) (copies_on p) ≡ option_map (copy_for f) (held_version (config_of lines) t s f)) (sym (shown_entries (run lines).trace))
    (place_holds (config_of lines) (run lines).trace s f low p (h.places s p here))
