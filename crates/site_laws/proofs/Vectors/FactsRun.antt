-- In every run whose instances agree each copy has its written vector, and each commit is numbered by its parents.
use Rattle.std.proofs.Common.{ℕ, List, [], ◌∷◌, refl}
use Rattle.locus_ids.specs.declared.config.Config.{Config}
use Rattle.run_laws.specs.of_schedule_lines.declared.line.ScheduleLine.{ScheduleLine}
use Rattle.run_laws.specs.of_role_steps.Own.{Every}
use Rattle.run_laws.specs.of_role_steps.Views.{Told, Shown}
use Rattle.run_laws.specs.of_role_steps.Storage.{copy_key}
use Rattle.run_laws.specs.of_role_steps.declared.copies.FileCopy.{FileCopy}
use Rattle.run_laws.proofs.of_role_steps.Sending.{every_map}
use Rattle.run_laws.specs.of_the_run.Worlds.{Place, Running, Stopped, root_copy, formatted, fresh}
use Rattle.run_laws.specs.of_the_run.Runs.{run_in}
use Rattle.run_laws.proofs.of_the_run.InsideSync.{every_row}
use Rattle.run_laws.specs.FactWalks.Facts.{ToldWell, PlaceIn, WorldIn}
use Rattle.run_laws.specs.FactWalks.Keeping.{WorldsKeep}
use Rattle.run_laws.proofs.FactWalks.Run.{run_facts}
use Rattle.site_laws.specs.Vectors.Held.{copies_on}
use Rattle.site_laws.specs.Vectors.Written.{past_of, InstancesAgree, VectorsAreWritten, CommitsAreNumbered}
use Rattle.site_laws.specs.Vectors.Facts.{CopyFact, ViewFact, versions}
use Rattle.site_laws.proofs.Vectors.Facts.{one_later, copies_later, agree_before}
use Rattle.site_laws.proofs.Vectors.SyncFacts.{seen_none}
use Rattle.site_laws.proofs.Vectors.StepFacts.{versions_keep}
pub use Rattle.run_laws.proofs.FactWalks.Outcomes.{past_onto}

fresh_fact : (past : List Told) (boot : ℕ) (copies : List FileCopy) → Every (CopyFact past) copies → ViewFact past (fresh boot copies)
fresh_fact past boot copies h = record { copies = h; pulls = tt; inside = refl }

formatted_fact : (c : Config) (s : ℕ) → Every (CopyFact []) (formatted c s)
formatted_fact c s = every_map (CopyFact []) (root_copy c) _ (λ g. record { root = refl; site = refl; number = refl; none = seen_none })

pub worlds_keep : (c : Config) → WorldsKeep versions c
worlds_keep c = record {
  sites = versions_keep c;
  before = λ past x. agree_before past (x ∷ past) (one_later x past);
  rests = λ past s v h. h.copies;
  boots = λ past s boot copies h. fresh_fact past boot copies h;
  tells = λ past d h. h.0;
  saves = λ past d copies k h. every_row (CopyFact (Shown d.says ∷ past)) copy_key d.copy copies k.1 (copies_later past (Shown d.says ∷ past) (one_later (Shown d.says) past) copies h);
  formatted = formatted_fact c;
}

-- ---- the laws ----

all_numbered : (past : List Told) → ToldWell versions past → CommitsAreNumbered past
all_numbered [] h = tt
all_numbered (x ∷ older) h = (h.0, all_numbered older h.1)

copies_at : (past : List Told) (s : ℕ) (p : Place) → PlaceIn versions past s p → Every (CopyFact past) (copies_on p)
copies_at past s (Running v) h = h.copies
copies_at past s (Stopped d) h = h

pub run_vectors : (c : Config) (lines : List ScheduleLine) → InstancesAgree (past_of (run_in c lines).trace) → VectorsAreWritten (run_in c lines)
run_vectors c lines h s p here = let f : WorldIn versions (run_in c lines) = run_facts versions c (worlds_keep c) lines h in copies_at (past_of (run_in c lines).trace) s p (f.places s p here)

pub run_numbered : (c : Config) (lines : List ScheduleLine) → InstancesAgree (past_of (run_in c lines).trace) → CommitsAreNumbered (past_of (run_in c lines).trace)
run_numbered c lines h = let f : WorldIn versions (run_in c lines) = run_facts versions c (worlds_keep c) lines h in all_numbered (past_of (run_in c lines).trace) f.told
