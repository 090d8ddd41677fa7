-- In every run each reply is the one that is to be given, and stands where it may.
use Rattle.std.proofs.Common.{◌≤◌, ℕ, List, [], ◌∷◌, length, subst, sym, arith}
use Rattle.locus_ids.specs.declared.config.Config.{Config}
use Rattle.schedule_lines.specs.Cluster.{config_of}
use Rattle.schedule_lines.specs.Schedule.{AreInOrder}
use Rattle.schedule_lines.specs.declared.line.ScheduleLine.{ScheduleLine}
use Rattle.trace_book.specs.declared.record.Record.{Record}
use Rattle.trace_book.specs.declared.record.Record.TheVariants as says
use Rattle.role_steps.specs.Own.{Every}
use Rattle.role_steps.specs.Views.{Shown, Told}
use Rattle.the_run.specs.Runs.{run}
use Rattle.the_run.specs.Worlds.{Line, World}
use Rattle.tree_laws.specs.Printed.{entries}
use Rattle.calm_laws.specs.of_store_laws.OneTree.Places.{AllAt}
use Rattle.calm_laws.specs.of_store_laws.OneTree.Rest.{more}
use Rattle.row_laws.specs.Shown.{EachRecord, trace_of}
use Rattle.row_laws.proofs.Fitting.{schedule_fits}
use Rattle.rest_laws.proofs.Packs.{schedule_packs}
use Rattle.rest_laws.proofs.Shown.{shown_entries}
use Rattle.rest_laws.proofs.StoreStepFirst.{four_groups}
use Rattle.headline_laws.specs.Prompting.Directly.{DirectRecord, IsDirectRow}
use Rattle.headline_laws.specs.Prompting.Given.{GivenRecord, IsGivenRow}
use Rattle.headline_laws.proofs.Prompting.Events.{step_facts}
use Rattle.headline_laws.proofs.Prompting.Facts.{RecordFact, ToldFact}
use Rattle.headline_laws.proofs.Prompting.Mended.{AnswersNone, silent_facts}
use Rattle.headline_laws.proofs.Prompting.Run.{nothing_kept, EachLine, IsLone, IsLoneRecord, Tells, run_tells}

lone_silent : (w : World) (x : Told) → IsLone w x → AnswersNone x
lone_silent w (Shown r) k = over r k
  where
    over : (r : Record) → IsLoneRecord w r → AnswersNone (Shown r)
    over (says.Answer site process call r) k = k
    over _ k = tt
lone_silent w _ k = tt

pub all_silent : (w : World) (n : ℕ) (told : List Told) (t : List Line) → Every (IsLone w) told → AllAt (λ u x. AnswersNone x) n t told
all_silent w n [] t k = tt
all_silent w n (x ∷ xs) t k = (lone_silent w x k.0, all_silent w n xs (more n x t) k.1)

tells : (c : Config) → length c.packs ≤ 4 → Tells c (λ w. Unit {0}) (λ w e. Unit {0}) (ToldFact c) (λ t. Unit {0})
tells c few = record {
  first = tt;
  own = λ w e k. tt;
  came = λ w x sent k. tt;
  steps = λ n s links v e w a f rest here event known linked may fresh so. (step_facts c few n s w.trace f.followed links v e (f.places s _ here) event may, tt);
  lone = λ n told w a f rest lone may so. (silent_facts c n told w.trace (all_silent w n told w.trace lone), tt);
}

pub schedule_facts : (lines : List ScheduleLine) → AreInOrder lines → EachLine (ToldFact (config_of lines)) (run lines).trace
schedule_facts lines order =
    let few : length (config_of lines).packs ≤ 4 = omega (arith, four_groups lines) in
    (run_tells (config_of lines) (λ w. Unit {0}) (λ w e. Unit {0}) (ToldFact (config_of lines)) (λ t. Unit {0}) (tells (config_of lines) few) lines (schedule_fits lines order) (schedule_packs lines order) few (nothing_kept (config_of lines) lines) tt).0

-- ---- by the printed trace ----

given_record : (c : Config) (n : ℕ) (t : List Line) (r : Record) → RecordFact c n (entries t) r → GivenRecord c (entries t) r
given_record c n t (says.Answer site process call r) k = k.0
given_record c n t _ k = tt

direct_record : (c : Config) (n : ℕ) (t : List Line) (r : Record) → RecordFact c n (entries t) r → DirectRecord c n (entries t) r
direct_record c n t (says.Answer site process call r) k = k.1
direct_record c n t _ k = tt

given_told : (c : Config) (n : ℕ) (t : List Line) (x : Told) → ToldFact c n t x → EachRecord (IsGivenRow c) (entries t) → EachRecord (IsGivenRow c) (entries (more n x t))
given_told c n t (Shown r) fact k = (given_record c n t r fact, k)
given_told c n t _ fact k = k

direct_told : (c : Config) (n : ℕ) (t : List Line) (x : Told) → ToldFact c n t x → EachRecord (IsDirectRow c) (entries t) → EachRecord (IsDirectRow c) (entries (more n x t))
direct_told c n t (Shown r) fact k = (direct_record c n t r fact, k)
direct_told c n t _ fact k = k

each_given : (c : Config) (t : List Line) → EachLine (ToldFact c) t → EachRecord (IsGivenRow c) (entries t)
each_given c [] k = tt
each_given c (x ∷ older) k = given_told c x.number older x.told k.0 (each_given c older k.1)

each_direct : (c : Config) (t : List Line) → EachLine (ToldFact c) t → EachRecord (IsDirectRow c) (entries t)
each_direct c [] k = tt
each_direct c (x ∷ older) k = direct_told c x.number older x.told k.0 (each_direct c older k.1)

pub replies_given : (lines : List ScheduleLine) → AreInOrder lines → EachRecord (IsGivenRow (config_of lines)) (trace_of (run lines))
replies_given lines order = subst (EachRecord (IsGivenRow (config_of lines))) (sym (shown_entries (run lines).trace)) (each_given (config_of lines) (run lines).trace (schedule_facts lines order))

pub replies_direct : (lines : List ScheduleLine) → AreInOrder lines → EachRecord (IsDirectRow (config_of lines)) (trace_of (run lines))
replies_direct lines order = subst (EachRecord (IsDirectRow (config_of lines))) (sym (shown_entries (run lines).trace)) (each_direct (config_of lines) (run lines).trace (schedule_facts lines order))
