-- What is adopted may be kept.
use Rattle.std.proofs.Common.{◌≡◌, ◌≤◌, ℕ, ◌+◌, ◌-◌, true, List, length, Some, arith}
use Rattle.role_steps.proofs.of_plain_facts.Tests.{and_first}
use Rattle.locus_ids.specs.declared.config.Config.{Config}
use Rattle.locus_ids.specs.Sizes.{pack_pages}
use Rattle.schedule_lines.specs.declared.line.ScheduleLine.{ScheduleLine}
use Rattle.role_steps.specs.Adoption.{fits_own, is_ready}
use Rattle.role_steps.specs.Pulling.{is_complete, wanted_pages}
use Rattle.role_steps.specs.Storage.{changed_pages, copy_of, copy_pages}
use Rattle.role_steps.specs.Tables.{total}
use Rattle.role_steps.specs.Views.{SiteView}
use Rattle.role_steps.specs.declared.pulls.Pull.{Pull}
use Rattle.role_steps.specs.declared.rounds.InEpoch.{InEpoch}
use Rattle.the_run.specs.Kept.{Among}
use Rattle.the_run.specs.Runs.{run_in}
use Rattle.the_run.specs.Worlds.{Running, place_at}
use Rattle.packet_laws.specs.of_row_laws.Voids.{LinesFit}
use Rattle.packet_laws.specs.of_tree_laws.Orders.Joining.{PacksAreOfSites}
use Rattle.packet_laws.proofs.of_store_laws.OneTree.Rising.{every_among}
use Rattle.site_node.specs.Fitting.{CanKeep}
use Rattle.calm_laws.specs.of_rest_laws.Fits.Pulling.{FitsPull}
use Rattle.calm_laws.proofs.of_rest_laws.Fits.Pulling.{run_pulls}
use Rattle.calm_laws.proofs.of_rest_laws.Fits.RoomSites.{ready_room}
use Rattle.complete_laws.specs.FitCallJoining.{HasGroups}

pub room : (v : SiteView) (p : Pull) → is_ready v p ≡ true → length (wanted_pages p) ≤ pack_pages - total (copy_pages p.file.group) v.store.copies
room v p ready = less (length (wanted_pages p)) (total (copy_pages p.file.group) v.store.copies) (total (changed_pages p.file.group) v.store.instances) (ready_room v p ready)
  where
    less : (n a b : ℕ) → n ≤ pack_pages - (a + b) → n ≤ pack_pages - a
    less n a b l = omega (arith, l)

-- what is pulled, once it is ready, may be kept
pub keeps : (c : Config) (s : ℕ) (groups : List ℕ) → HasGroups c s groups → (v : SiteView) (p : Pull) → FitsPull c s v.store p → is_ready v p ≡ true → fits_own p (copy_of v.store p.file) ≡ true → CanKeep groups v.store p
keeps c s groups has v p k ready fits = record {
  group = has p.file.group k.packed;
  low = k.number.0;
  high = k.number.1;
  version = k.version;
  kept = k.kept (and_first (is_complete p) _ ready) fits;
  room = room v p ready;
}

pub run_adopts : (c : Config) (lines : List ScheduleLine) → LinesFit c lines → PacksAreOfSites c → length c.packs ≤ 4 → (s : ℕ) (v : SiteView) (e : InEpoch) → place_at (run_in c lines) s ≡ Some (Running v) → v.epoch ≡ Some e → (p : Pull) → Among p v.pulls → is_ready v p ≡ true → fits_own p (copy_of v.store p.file) ≡ true →
    (groups : List ℕ) → HasGroups c s groups → CanKeep groups v.store p
run_adopts c lines fit few_packs few s v e here inside p among ready fits groups has = keeps c s groups has v p (every_among (FitsPull c s v.store) p v.pulls among (run_pulls c lines fit few_packs few s v e here inside)) ready fits
