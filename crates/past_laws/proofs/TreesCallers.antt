-- Calls are of sites of the cluster.
use Rattle.std.proofs.Common.{◌≡◌, ℕ, ◌-◌, ◌==◌, Bool, true, false, cond, ◌++◌, List, [], ◌∷◌, filter, take, fold, Some, None, refl, ap, ◌∙◌}
use Rattle.std.specs.List.{list_any, list_all}
use Rattle.locus_ids.specs.declared.config.Config.{Config}
use Rattle.locus_ids.specs.declared.ids.CallId.{CallId}
use Rattle.trace_book.specs.declared.call.Call.{Call}
use Rattle.trace_book.specs.declared.call.Call.TheVariants as call
use Rattle.trace_book.specs.declared.record.Record.{Record}
use Rattle.trace_book.specs.declared.record.Record.TheVariants as says
use Rattle.call_rules.specs.Opening.{is_steady}
use Rattle.call_rules.specs.declared.answer.Answer.TheVariants.{Refused}
use Rattle.tree_model.specs.Calls.{version_at}
use Rattle.tree_model.specs.Folds.{Trace}
use Rattle.promises.specs.of_lawful_trace.CallRows.{CallRow, next_call}
use Rattle.promises.specs.of_lawful_trace.Lawful.{MayCome}
use Rattle.promises.specs.of_lawful_trace.Progress.{granted_answer, outcome_answer}
use Rattle.promises.specs.Past.{Past, CallSoFar, epoch_at, kept_in, unformed, is_named}
use Rattle.promises.specs.After.{after, change, is_actor, is_ender, is_epoch, is_id, answered, close_answer, look_answer, replied_to}
use Rattle.past_laws.specs.Agreement.{Agrees, is_of_cluster, speaks_of_sites}
use Rattle.past_laws.proofs.Names.{both}
use Rattle.past_laws.proofs.TreesLists.{all_change}

abbrev are_callers : Config → List CallSoFar → Bool
are_callers c calls = list_all (λ (k : CallSoFar). is_of_cluster c k.id.site) calls

-- calls that keep their names
same : (c : Config) (which : CallSoFar → Bool) (f : CallSoFar → CallSoFar) → ((k : CallSoFar) → (f k).id ≡ k.id) → (calls : List CallSoFar) → are_callers c (change which f calls) ≡ are_callers c calls
same c which f ids calls = all_change (λ (k : CallSoFar). is_of_cluster c k.id.site) which f (λ k. ap (λ (d : CallId). is_of_cluster c d.site) (ids k)) calls

each : {X : Type 0} (c : Config) (step : Past → X → Past) → ((q : Past) (x : X) → are_callers c (step q x).calls ≡ are_callers c q.calls) → (xs : List X) (q : Past) → are_callers c (fold step q xs).calls ≡ are_callers c q.calls
each c step keep [] q = refl
each c step keep (x ∷ xs) q = each c step keep xs (step q x) ∙ keep q x

-- a call that is accepted is named for its site
pub named_for : (c : Config) (before : Trace) (s process : ℕ) (id : CallId) (words : Call) → CallRow c before s process id words → id ≡ next_call before s
named_for c before s process id (call.Mend f) may = may.numbered
named_for c before s process id words may = may.numbered

pub callers_step : (c : Config) (r : Record) (before : Trace) (p : Past) → MayCome c before r → speaks_of_sites c r ≡ true → Agrees c before p → list_all (λ (k : CallSoFar). is_of_cluster c k.id.site) (after c r p).calls ≡ true
callers_step c (says.Stopped s w) before p may speaks a = same c (λ (k : CallSoFar). k.id.site == s) (λ (k : CallSoFar). record k { waits = false }) (λ k. refl) p.calls ∙ a.trees.callers
callers_step c (says.Accept s q id words) before p may speaks a = both (is_of_cluster c id.site) (are_callers c p.calls) (ap (λ (d : CallId). is_of_cluster c d.site) (named_for c before s q id words may) ∙ speaks) a.trees.callers
callers_step c (says.Look e id n f w result) before p may speaks a = same c (is_id id) (λ (k : CallSoFar). record k { answers = take (n - 1) k.answers ++ look_answer p f w result ∷ [] }) (λ k. refl) p.calls ∙ a.trees.callers
callers_step c (says.Grant e id n i m f stamp ss) before p may speaks a = same c (is_id id) (λ (k : CallSoFar). record k { granted = Some (record { mode = m; epoch = e; inst = i; steady = cond (is_steady k.words) (version_at f stamp) None }); answers = k.answers ++ granted_answer m i f stamp (kept_in p (epoch_at p e) f) ∷ [] }) (λ k. refl) p.calls ∙ a.trees.callers
callers_step c (says.Refuse e id n i m f why) before p may speaks a = same c (is_id id) (λ (k : CallSoFar). record k { answers = k.answers ++ Refused why ∷ [] }) (λ k. refl) p.calls ∙ a.trees.callers
callers_step c (says.Act e i n o result) before p may speaks a = same c (is_actor (epoch_at p e) i n) (λ (k : CallSoFar). record k { answers = k.answers ++ outcome_answer result ∷ [] }) (λ k. refl) p.calls ∙ a.trees.callers
callers_step c (says.Release e i f stamp) before p may speaks a = each c (λ old x. answered (is_ender (epoch_at p e) i) (close_answer stamp x) old) (λ q x. same c (is_ender (epoch_at p e) i) (λ (k : CallSoFar). record k { answers = k.answers ++ close_answer stamp x ∷ [] }) (λ k. refl) q.calls) (filter (is_named i) (epoch_at p e).opened) p ∙ a.trees.callers
callers_step c (says.Answer s q id r) before p may speaks a = each c (λ old k. replied_to r k old) (λ q k. same c (is_id k.id) (λ (x : CallSoFar). record x { waits = false }) (λ k. refl) q.calls) (filter (is_id id) p.calls) p ∙ a.trees.callers
callers_step c (says.Join s e m) before p may speaks a = at (list_any (is_epoch e) p.epochs)
  where
    at : (b : Bool) → are_callers c (cond b p (record p { epochs = record (unformed e) { members = m } ∷ p.epochs })).calls ≡ true
    at true = a.trees.callers
    at false = a.trees.callers
callers_step c r before p may speaks a = a.trees.callers
