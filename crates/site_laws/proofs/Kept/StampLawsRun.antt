-- The laws of the trace on which this one rests are laws of every run.
use Rattle.std.proofs.Common.{ℕ, List, [], ◌∷◌, inl, inr}
use Rattle.locus_ids.specs.declared.ids.EpochId.{EpochId}
use Rattle.locus_ids.specs.declared.config.Config.{Config}
use Rattle.schedule_lines.specs.declared.line.ScheduleLine.{ScheduleLine}
use Rattle.locus_ids.specs.declared.sites.Members.{Members}
use Rattle.the_run.specs.Joins.{Joined}
use Rattle.the_run.specs.Worlds.{Line}
use Rattle.the_run.specs.Runs.{run_in}
use Rattle.the_run.proofs.OneList.{one_list}
use Rattle.site_laws.specs.Vectors.Written.{past_of}
use Rattle.site_laws.specs.Vectors.HistoryCommits.{StampsAreOnce}
use Rattle.site_laws.proofs.Vectors.HistorySited.{run_sited}
use Rattle.site_laws.proofs.Packs.InstanceAgree.{run_agrees}
use Rattle.site_laws.proofs.Packs.InodeFitsRun.{run_fits}
use Rattle.site_laws.specs.Locks.Joins.{WasJoined}
use Rattle.site_laws.proofs.Locks.JoinsRun.{run_joins_once}
use Rattle.site_laws.proofs.Locks.FactsRun.{run_goes}
use Rattle.site_laws.proofs.Packs.PacksRun.{run_packs}
use Rattle.site_laws.proofs.Makes.RunningOneSite.{run_one_site}
use Rattle.site_laws.proofs.Makes.RunningOrders.{run_orderly}
use Rattle.site_laws.proofs.Makes.RunningRefusals.{run_plain_grants}
use Rattle.site_laws.proofs.Makes.FreshRun.{run_fresh}
use Rattle.site_laws.proofs.Makes.Modes.{run_reserved, run_modes}
use Rattle.site_laws.proofs.Makes.LockedRun.{run_locked}
use Rattle.site_laws.specs.Kept.StampLaws.{Laws}
use Rattle.site_laws.proofs.Kept.StampStampsRun.{run_once}

joined_line : (s : ℕ) (id : EpochId) (m : Members) (trace : List Line) → WasJoined (past_of trace) s id m → Joined s id m trace
joined_line s id m [] h = absurd h
joined_line s id m (x ∷ xs) (inl h) = inl h
joined_line s id m (x ∷ xs) (inr h) = inr (joined_line s id m xs h)

run_laws : (c : Config) (lines : List ScheduleLine) → Laws c (past_of (run_in c lines).trace)
run_laws c lines = record {
  joins = run_joins_once c lines;
  lists = λ s t id m n a b. one_list c lines s t id m n (joined_line s id m (run_in c lines).trace a) (joined_line t id n (run_in c lines).trace b);
  goes = run_goes c lines;
  agree = run_agrees c lines;
  sites = run_one_site c lines;
  stand = run_plain_grants c lines;
  locked = run_locked c lines;
  fresh = run_fresh c lines;
  reserved = run_reserved c lines;
  makes = run_modes c lines;
  packs = (run_packs c lines).told;
  fit = run_fits c lines;
  sited = (run_sited c lines).commits;
}

pub run_stamps : (c : Config) (lines : List ScheduleLine) → StampsAreOnce (past_of (run_in c lines).trace)
run_stamps c lines = run_once c lines (run_laws c lines) (run_orderly c lines)
