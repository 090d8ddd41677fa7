-- The world of every run by its trace, and the numbers in tables.
use Rattle.std.proofs.Common.{◌≡◌, ◌≤◌, ℕ, List, [], ◌∷◌, length, Option, None, Some, sym, subst}
use Rattle.std.specs.List.{AllByRecursion}
use Rattle.locus_ids.specs.declared.config.Config.{Config}
use Rattle.locus_ids.specs.declared.ids.EpochId.{EpochId}
use Rattle.schedule_lines.specs.declared.line.ScheduleLine.{ScheduleLine}
use Rattle.role_steps.specs.Own.{Every}
use Rattle.role_steps.specs.Epochs.{frame_in}
use Rattle.role_steps.specs.Views.{Frame, SiteView}
use Rattle.role_steps.specs.declared.rounds.InEpoch.{InEpoch}
use Rattle.role_steps.specs.declared.synchronizing.FileRow.{FileRow}
use Rattle.role_steps.specs.declared.synchronizing.SyncTable.{SyncTable}
use Rattle.the_run.specs.Runs.{run_in}
use Rattle.the_run.specs.Worlds.{Line, Running, place_at}
use Rattle.store_laws.specs.of_row_laws.Voids.{LinesFit}
use Rattle.tree_laws.specs.Orders.Joining.{PacksAreOfSites}
use Rattle.tree_laws.specs.Packets.{file_in}
use Rattle.tree_laws.specs.Tables.{FileFact, TableFact}
use Rattle.store_laws.specs.OneTree.Places.{SiteIn, WorldFact}
use Rattle.store_laws.specs.OneTree.Rest.{EachRest, IsRest, Past}
use Rattle.store_laws.proofs.OneTree.Run.{run_holds}
use Rattle.store_laws.proofs.OneTree.Staying.{stays}
use Rattle.rest_laws.proofs.Resting.{run_low, run_rests}
use Rattle.rest_laws.proofs.Roles.{roles_do}
use Rattle.rest_laws.specs.Fits.Inodes.{AreInodes, IsInodeNumber}
use Rattle.rest_laws.proofs.Fits.Numbers.{stands_inode}

-- ---- the world of a run ----

pub rest_of : (c : Config) (lines : List ScheduleLine) → LinesFit c lines → PacksAreOfSites c → IsRest c (run_in c lines).trace
rest_of c lines fit packs = run_rests c lines fit packs (run_low c lines)

pub world_of : (c : Config) (lines : List ScheduleLine) → LinesFit c lines → PacksAreOfSites c → length c.packs ≤ 4 → WorldFact c (run_in c lines)
world_of c lines fit packs few = run_holds c lines fit (roles_do c few) (stays c) (rest_of c lines fit packs)

pub past_of_run : (c : Config) (lines : List ScheduleLine) → LinesFit c lines → PacksAreOfSites c → length c.packs ≤ 4 → Past c (run_in c lines).trace
past_of_run c lines fit packs few = record { followed = (world_of c lines fit packs few).followed; rest = rest_of c lines fit packs }

-- ---- tables ----

rows_are : (c : Config) (trace : List Line) (e : EpochId) (group : ℕ) → EachRest c trace → (rs : List FileRow) → Every (FileFact c trace e group) rs → AllByRecursion (λ (r : FileRow). IsInodeNumber r.ino) rs
rows_are c trace e group rest [] h = tt
rows_are c trace e group rest (r ∷ rs) h = (stands_inode c (file_in group r.ino) h.0.some trace rest h.0.stands, rows_are c trace e group rest rs h.1)

tables_are : (c : Config) (trace : List Line) (f : Frame) → EachRest c trace → (ts : List SyncTable) → Every (TableFact c trace f) ts → Every AreInodes ts
tables_are c trace f rest [] h = tt
tables_are c trace f rest (t ∷ ts) h = (rows_are c trace f.epoch t.group rest t.files h.0.rows, tables_are c trace f rest ts h.1)

pub site_tables : (c : Config) (s : ℕ) (trace : List Line) (v : SiteView) (o : Option InEpoch) → EachRest c trace → SiteIn c s trace v o → Every AreInodes v.tables
site_tables c s trace v None rest h = subst (Every AreInodes) (sym h.tables) tt
site_tables c s trace v (Some e) rest h = tables_are c trace (frame_in c s v.boot e) rest v.tables h.tables

pub run_tables : (c : Config) (lines : List ScheduleLine) → LinesFit c lines → PacksAreOfSites c → length c.packs ≤ 4 → (s : ℕ) (v : SiteView) → place_at (run_in c lines) s ≡ Some (Running v) → Every AreInodes v.tables
run_tables c lines fit packs few s v here = site_tables c s (run_in c lines).trace v v.epoch (rest_of c lines fit packs).each ((world_of c lines fit packs few).places s (Running v) here)
