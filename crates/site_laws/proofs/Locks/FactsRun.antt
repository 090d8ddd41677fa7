-- In every run each instance goes on as it must, the locks of the tables hold, and what using sites have of instances was granted
-- and begun. What the laws of locks carry is kept by all that happens, so that it can stand beside other facts.
use Rattle.std.proofs.Common.{◌≡◌, ℕ, List, [], ◌∷◌, Option, Some, None, refl, sym, subst}
use Rattle.locus_ids.specs.declared.config.Config.{Config}
use Rattle.schedule_lines.specs.declared.line.ScheduleLine.{ScheduleLine}
use Rattle.role_steps.specs.Own.{Every}
use Rattle.role_steps.specs.Views.{SiteView, Told}
use Rattle.role_steps.specs.declared.copies.FileCopy.{FileCopy}
use Rattle.role_steps.specs.declared.rounds.InEpoch.{InEpoch}
use Rattle.role_steps.specs.declared.synchronizing.SyncTable.{SyncTable}
use Rattle.the_run.specs.Worlds.{World, Place, Running, Stopped, place_at, fresh, first_world}
use Rattle.the_run.specs.Runs.{run_in}
use Rattle.the_run.specs.Kept.{Kept}
use Rattle.the_run.proofs.Boots.{every_weaker}
use Rattle.run_laws.specs.Naming.{Good}
use Rattle.run_laws.specs.FactWalks.Facts.{ToldWell, PlaceIn, WorldIn, Standing}
use Rattle.run_laws.specs.FactWalks.Keeping.{WorldsKeep}
use Rattle.run_laws.proofs.FactWalks.Run.{kept_alike, standing_kept, first_standing, run_facts as facts_of}
use Rattle.site_laws.specs.Vectors.Written.{past_of}
use Rattle.site_laws.specs.Locks.Going.{InstancesGoOn}
use Rattle.site_laws.specs.Locks.Locks.{AllApart, TablesAreLocked}
use Rattle.site_laws.specs.Locks.Facts.{InEpochFact, TableFact, ViewFact, WorldFact, locks}
use Rattle.site_laws.proofs.Locks.StepFacts.{locks_keep}

fresh_fact : (past : List Told) (s boot : ℕ) (copies : List FileCopy) → ViewFact past s (fresh boot copies)
fresh_fact past s boot copies = record { users = record { instances = tt; waiting = tt }; inside = (refl, refl) }

pub worlds_keep : (c : Config) → WorldsKeep locks c
worlds_keep c = record {
  sites = locks_keep c;
  before = λ past x h. tt;
  rests = λ past s v h. tt;
  boots = λ past s boot copies h. fresh_fact past s boot copies;
  tells = λ past d h. h;
  saves = λ past d copies k h. tt;
  formatted = λ s. tt;
}

-- ---- the facts of a world, as this crate names them ----

all_go : (past : List Told) → ToldWell locks past → InstancesGoOn past
all_go [] h = tt
all_go (x ∷ older) h = (h.0, all_go older h.1)

told_all : (past : List Told) → InstancesGoOn past → ToldWell locks past
told_all [] h = tt
told_all (x ∷ older) h = (h.0, told_all older h.1)

place_in_world : (w : World) → WorldFact w → (s : ℕ) (p : Place) → place_at w s ≡ Some p → PlaceIn locks (past_of w.trace) s p
place_in_world w f s (Running v) here = f.views s v here
place_in_world w f s (Stopped d) here = tt

world_of : (w : World) → WorldIn locks w → WorldFact w
world_of w f = record { goes = all_go (past_of w.trace) f.told; views = λ s v here. f.places s (Running v) here; packets = f.packets; underway = f.underway }

world_in : (w : World) → WorldFact w → WorldIn locks w
world_in w f = record { told = told_all (past_of w.trace) f.goes; places = place_in_world w f; packets = f.packets; underway = f.underway }

abbrev pub Both : World → Type 0
Both w = Good w × WorldFact w

both_of : (w : World) → Standing locks w → Both w
both_of w g = (g.0, world_of w (g.1 tt))

pub both_kept : (c : Config) → Kept c Both
both_kept c = kept_alike c both_of (λ w g. (g.0, λ h. world_in w g.1)) (standing_kept locks c (worlds_keep c))

pub first_both : (c : Config) → Both (first_world c)
first_both c = both_of (first_world c) (first_standing locks c (worlds_keep c))

pub first_world_fact : (c : Config) → WorldFact (first_world c)
first_world_fact c = (first_both c).1

-- ---- the laws ----

pub run_facts : (c : Config) (lines : List ScheduleLine) → WorldFact (run_in c lines)
run_facts c lines = world_of (run_in c lines) (facts_of locks c (worlds_keep c) lines tt)

pub run_goes : (c : Config) (lines : List ScheduleLine) → InstancesGoOn (past_of (run_in c lines).trace)
run_goes c lines = let f : WorldFact (run_in c lines) = run_facts c lines in f.goes

-- in no epoch there is no table
tables_apart : (past : List Told) (s : ℕ) (v : SiteView) (o : Option InEpoch) → InEpochFact past s v o → Every (λ (t : SyncTable). AllApart t.opens) v.tables
tables_apart past s v None h = subst (λ (ts : List SyncTable). Every (λ (t : SyncTable). AllApart t.opens) ts) (sym h.1) tt
tables_apart past s v (Some e) h = every_weaker (TableFact past e.id) (λ (t : SyncTable). AllApart t.opens) v.tables (λ t k. k.apart) h.1

pub run_locks : (c : Config) (lines : List ScheduleLine) → TablesAreLocked (run_in c lines)
run_locks c lines s v here = let f : WorldFact (run_in c lines) = run_facts c lines in let k : ViewFact (past_of (run_in c lines).trace) s v = f.views s v here in tables_apart (past_of (run_in c lines).trace) s v v.epoch k.inside
