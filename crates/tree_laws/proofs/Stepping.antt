-- A step of a call leaves an answer that waits for it.
use Rattle.std.proofs.Common.{◌≡◌, ℕ, ◌+◌, ◌-◌, List, [], ◌∷◌, ◌++◌, length, take, ◌∙◌, ap, ◌⊎◌, inl, inr}
use Rattle.locus_ids.specs.declared.config.Config.{Config}
use Rattle.locus_ids.specs.declared.ids.CallId.{CallId}
use Rattle.trace_book.specs.declared.record.Record.{Record}
use Rattle.trace_book.specs.declared.record.Record.TheVariants as says
use Rattle.call_rules.specs.declared.answer.Answer.{Answer}
use Rattle.call_rules.specs.declared.answer.Answer.TheVariants as answer
use Rattle.call_rules.specs.declared.want.Want.{Want}
use Rattle.the_run.specs.of_role_steps.Views.{Told, Shown}
use Rattle.the_run.specs.Worlds.{Line}
use Rattle.lawful_trace.specs.of_tree_model.State.{instance_in}
use Rattle.lawful_trace.specs.of_tree_model.Tree.{tree_of, kept_in}
use Rattle.lawful_trace.specs.Progress.{Answers, look_answer, granted_answer, close_answer, outcome_answer}
use Rattle.lawful_trace.specs.Tables.{call_of_act, call_of_release}
use Rattle.tree_laws.specs.Printed.{entries}
use Rattle.tree_laws.specs.Calls.{log, heard, Asks, Waits}
use Rattle.tree_laws.specs.Following.{MayTell, IsFollowed}
use Rattle.tree_laws.proofs.Asking.{AsksStill, StepRecord, StepOf, Turns, asks_stays, waits_stays}
use Rattle.tree_laws.proofs.Awaiting.{by_own, by_owner}
use Rattle.tree_laws.proofs.Fresh.{IsNamed}
use Rattle.tree_laws.proofs.Hearing.{take_own}

abbrev With : ℕ → Told → List Line → List Line
With n x older = record { number = n; told = x } ∷ older

pub step_record : (c : Config) (n : ℕ) (r : Record) (older : List Line) (d : CallId) → MayTell c older (Shown r) → StepRecord (entries older) r d → heard c older d ≡ log older d → (a : Answer) × Waits c (With n (Shown r) older) d a
step_record c n (says.Look e call request f w result) older d may step clear = (look_answer c (entries older) f w result, by_own call d _ (heard c older d) step ∙ ap (λ (xs : Answers). xs ++ look_answer c (entries older) f w result ∷ []) short)
  where
    short : take (request - 1) (heard c older d) ≡ log older d
    short = ap (λ (m : ℕ). take (m - 1) (heard c older d)) (may.in_time.request_is ∙ ap (λ (y : CallId). length (log older y) + 1) step) ∙ (ap (take (length (log older d) + 1 - 1)) clear ∙ take_own (log older d))
step_record c n (says.Grant e call request i m f stamp ss) older d may step clear = (granted_answer m i f stamp (kept_in c (entries older) e f), by_own call d _ (heard c older d) step ∙ ap (λ (xs : Answers). xs ++ granted_answer m i f stamp (kept_in c (entries older) e f) ∷ []) clear)
step_record c n (says.Refuse e call request i m f why) older d may step clear = (answer.Refused why, by_own call d _ (heard c older d) step ∙ ap (λ (xs : Answers). xs ++ answer.Refused why ∷ []) clear)
step_record c n (says.Act e i number o result) older d may step clear = (outcome_answer result, by_owner (call_of_act (entries older) e i number) d _ (heard c older d) step ∙ ap (λ (xs : Answers). xs ++ outcome_answer result ∷ []) clear)
step_record c n (says.Release e i f stamp) older d may step clear = (close_answer stamp (instance_in (tree_of c e f.group (entries older)) i), by_owner (call_of_release (entries older) e i) d _ (heard c older d) step ∙ ap (λ (xs : Answers). xs ++ close_answer stamp (instance_in (tree_of c e f.group (entries older)) i) ∷ []) clear)
step_record c n _ older d may step clear = absurd step

-- what is asked is asked still, or its answer waits, until the process turns to it
pub answered_stays : (c : Config) (n : ℕ) (x : Told) (older : List Line) (d : CallId) (w : Want) → IsFollowed c older → MayTell c older x → IsNamed (entries older) d → (Turns x d → ⊥) → Asks c older d w ⊎ ((a : Answer) × Waits c older d a) → Asks c (With n x older) d w ⊎ ((a : Answer) × Waits c (With n x older) d a)
answered_stays c n x older d w h may named away (inl k) = over x may (asks_stays c n x older d w h may named k)
  where
    over : (y : Told) → MayTell c older y → AsksStill c older n y d w ⊎ StepOf older y d → Asks c (With n y older) d w ⊎ ((a : Answer) × Waits c (With n y older) d a)
    over y m (inl still) = inl still.asks
    over (Shown r) m (inr step) = inr (step_record c n r older d m step k.nothing_waits)
    over _ m (inr step) = absurd step
answered_stays c n x older d w h may named away (inr k) = over (waits_stays c n x older d k.0 may k.1)
  where
    over : Waits c (With n x older) d k.0 ⊎ Turns x d → Asks c (With n x older) d w ⊎ ((a : Answer) × Waits c (With n x older) d a)
    over (inl waits) = inr (k.0, waits)
    over (inr turn) = absurd (away turn)
