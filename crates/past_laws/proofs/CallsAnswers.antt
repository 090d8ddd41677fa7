-- What the requests of a call were answered, by both.
use Rattle.std.proofs.Common.{◌≡◌, ℕ, Bool, true, false, cond, List, [], ◌∷◌, ◌++◌, Option, Some, None, refl, sym, ◌∙◌, ap}
use Rattle.std.specs.Prelude.{fold, take, ◌-◌}
use Rattle.std.specs.List.{find}
use Rattle.locus_ids.specs.declared.config.Config.{Config}
use Rattle.locus_ids.specs.declared.ids.CallId.{CallId}
use Rattle.locus_ids.specs.declared.ids.EpochId.{EpochId}
use Rattle.locus_ids.specs.declared.ids.FileId.{FileId}
use Rattle.locus_ids.specs.declared.ids.Serial.{Serial}
use Rattle.locus_ids.specs.declared.ids.Stamp.{Stamp}
use Rattle.trace_book.specs.Same.{same_call}
use Rattle.trace_book.specs.declared.record.Record.{Record}
use Rattle.trace_book.specs.declared.record.Record.TheVariants as says
use Rattle.call_rules.specs.Opening.{is_steady}
use Rattle.call_rules.specs.declared.answer.Answer.{Answer}
use Rattle.call_rules.specs.declared.answer.Answer.TheVariants.{Refused}
use Rattle.tree_model.specs.Calls.{version_at}
use Rattle.tree_model.specs.Folds.{Trace}
use Rattle.tree_model.specs.State.{instance_in}
use Rattle.tree_model.specs.Tree.{tree_of, kept_in as kept_by}
use Rattle.promises.specs.of_lawful_trace.Lawful.{MayCome}
use Rattle.promises.specs.of_lawful_trace.Progress.{Answers, answers, granted_answer, outcome_answer, look_answer as answer_by, closed, close_answer as close_by}
use Rattle.promises.specs.of_lawful_trace.Tables.{is_call, call_of_act, call_of_release}
use Rattle.promises.specs.Past.{Past, CallSoFar, Instance, epoch_at, kept_in}
use Rattle.promises.specs.After.{is_id, change, told_by, answered, look_answer, is_actor, is_ender, close_answer}
use Rattle.past_laws.specs.Agreement.{Agrees}
use Rattle.past_laws.proofs.Names.{some_same, call_eq, call_turned}
use Rattle.past_laws.proofs.Changing.{found_passes}
use Rattle.past_laws.proofs.CallsLists.{WasFound, was_found}
use Rattle.past_laws.proofs.CallsGranted.{With}
use Rattle.past_laws.proofs.CallsUsers.{numbered}
use Rattle.past_laws.proofs.CallsAlike.{with_answers, Was, was_there}
use Rattle.past_laws.proofs.CallsSame.{answers_same}
use Rattle.past_laws.proofs.CallsFields.{accepted_call, new_none}
use Rattle.past_laws.proofs.CallsOwners.{actor_is, ender_is, Releases, releases_open}
use Rattle.past_laws.proofs.CallsServed.{kept_same, look_same}

-- those that pass are answered so, by both
changed_answers : (c : Config) (before : Trace) (p : Past) → Agrees c before p → (q : CallSoFar → Bool) (r : CallId → Bool) (h : CallSoFar → CallSoFar) (f g : Answers → Answers) → ((d : CallId) (x : CallSoFar) → is_id d (h x) ≡ is_id d x) → ((x : CallSoFar) → (h x).answers ≡ f x.answers)
    → ((x : CallSoFar) → find (is_id x.id) p.calls ≡ Some x → q x ≡ r x.id) → ((as_now : Answers) → f as_now ≡ g as_now)
    → (k : CallSoFar) → find (is_id k.id) (change q h p.calls) ≡ Some k → k.answers ≡ cond (r k.id) (g (answers c before k.id)) (answers c before k.id)
changed_answers c before p a q r h f g ids parts same eq k found = at (was_found (is_id k.id) q h (ids k.id) p.calls k found)
  where
    at : WasFound (is_id k.id) q h p.calls k → k.answers ≡ cond (r k.id) (g (answers c before k.id)) (answers c before k.id)
    at y = over (q y.was) refl y.is
      where
        id_is : y.was.id ≡ k.id
        id_is = call_eq y.was.id k.id (found_passes (is_id k.id) p.calls y.was y.found)

        own : find (is_id y.was.id) p.calls ≡ Some y.was
        own = ap (λ (d : CallId). find (is_id d) p.calls) id_is ∙ y.found

        old : y.was.answers ≡ answers c before k.id
        old = a.calls.answers y.was own ∙ ap (answers c before) id_is

        test : q y.was ≡ r k.id
        test = same y.was own ∙ ap r id_is

        over : (b : Bool) → q y.was ≡ b → cond b (h y.was) y.was ≡ k → k.answers ≡ cond (r k.id) (g (answers c before k.id)) (answers c before k.id)
        over true e is = ap (λ (x : CallSoFar). x.answers) (sym is) ∙ (parts y.was ∙ (ap f old ∙ (eq (answers c before k.id) ∙ ap (λ (b : Bool). cond b (g (answers c before k.id)) (answers c before k.id)) (sym e ∙ test))))
        over false e is = ap (λ (x : CallSoFar). x.answers) (sym is) ∙ (old ∙ ap (λ (b : Bool). cond b (g (answers c before k.id)) (answers c before k.id)) (sym e ∙ test))

-- a step of the call of this name
by_id : (id : CallId) (x : CallSoFar) → is_id id x ≡ same_call id x.id
by_id id x = call_turned x.id id

release_answers : (c : Config) (n : ℕ) (e : EpochId) (i : Serial) (f : FileId) (stamp : Option Stamp) (before : Trace) (p : Past) → MayCome c before (says.Release e i f stamp) → Agrees c before p → (k : CallSoFar) → find (is_id k.id) (told_by c (says.Release e i f stamp) p).calls ≡ Some k → k.answers ≡ answers c (With n (says.Release e i f stamp) before) k.id
release_answers c n e i f stamp before p may a k found = at (releases_open c before p e i f stamp may a)
  where
    at : Releases c before p e i f → k.answers ≡ answers c (With n (says.Release e i f stamp) before) k.id
    at r = changed_answers c before p a (is_ender (epoch_at p e) i) (is_call (call_of_release before e i)) (λ (x : CallSoFar). record x { answers = x.answers ++ close_answer stamp r.opened.one ∷ [] }) (λ old. old ++ close_answer stamp r.opened.one ∷ []) (λ old. old ++ close_by stamp (instance_in (tree_of c e f.group before) i) ∷ [])
        (λ d x. refl) (λ x. refl) (λ x own. ender_is c before p e i f stamp may a x own) (λ old. ap (λ (y : Answer). old ++ y ∷ []) (same r)) k
        (ap (λ (xs : List Instance). find (is_id k.id) (fold (λ (old : Past) (x : Instance). answered (is_ender (epoch_at p e) i) (close_answer stamp x) old) p xs).calls) (sym r.opened.only) ∙ found)
      where
        same : (r : Releases c before p e i f) → close_answer stamp r.opened.one ≡ close_by stamp (instance_in (tree_of c e f.group before) i)
        same r = ap (closed stamp) r.opened.is ∙ ap (close_by stamp) (sym r.found)

pub answers_step : (c : Config) (n : ℕ) (w : Record) (before : Trace) (p : Past) → MayCome c before w → Agrees c before p → (k : CallSoFar) → find (is_id k.id) (told_by c w p).calls ≡ Some k → k.answers ≡ answers c (With n w before) k.id
answers_step c n (says.Accept s process new words) before p may a k found = over (same_call new k.id) refl found
  where
    over : (b : Bool) → same_call new k.id ≡ b → cond b (Some (accepted_call p s process new words)) (find (is_id k.id) p.calls) ≡ Some k → k.answers ≡ answers c before k.id
    over true e q = ap (λ (x : CallSoFar). x.answers) (sym (some_same (accepted_call p s process new words) k q)) ∙ (sym (a.calls.unheard new (new_none before s new a.calls.users (numbered c before s process new words may))).1 ∙ ap (answers c before) (call_eq new k.id e))
    over false e q = a.calls.answers k q
answers_step c n (says.Look e id request f w result) before p may a k found = changed_answers c before p a (is_id id) (same_call id) (λ (x : CallSoFar). record x { answers = take (request - 1) x.answers ++ look_answer p f w result ∷ [] })
    (λ old. take (request - 1) old ++ look_answer p f w result ∷ []) (λ old. take (request - 1) old ++ answer_by c before f w result ∷ []) (λ d x. refl) (λ x. refl) (λ x own. by_id id x) (λ old. ap (λ (y : Answer). take (request - 1) old ++ y ∷ []) (look_same c before p e id request f w result may a)) k found
answers_step c n (says.Grant e id request i m f stamp ss) before p may a k found = changed_answers c before p a (is_id id) (same_call id) (λ (x : CallSoFar). record x { granted = Some (record { mode = m; epoch = e; inst = i; steady = cond (is_steady x.words) (version_at f stamp) None }); answers = x.answers ++ granted_answer m i f stamp (kept_in p (epoch_at p e) f) ∷ [] })
    (λ old. old ++ granted_answer m i f stamp (kept_in p (epoch_at p e) f) ∷ []) (λ old. old ++ granted_answer m i f stamp (kept_by c before e f) ∷ []) (λ d x. refl) (λ x. refl) (λ x own. by_id id x) (λ old. ap (λ (ss : List Stamp). old ++ granted_answer m i f stamp ss ∷ []) (kept_same c before p a e f)) k found
answers_step c n (says.Refuse e id request i m f why) before p may a k found = changed_answers c before p a (is_id id) (same_call id) (λ (x : CallSoFar). record x { answers = x.answers ++ Refused why ∷ [] })
    (λ old. old ++ Refused why ∷ []) (λ old. old ++ Refused why ∷ []) (λ d x. refl) (λ x. refl) (λ x own. by_id id x) (λ old. refl) k found
answers_step c n (says.Act e i m o result) before p may a k found = changed_answers c before p a (is_actor (epoch_at p e) i m) (is_call (call_of_act before e i m)) (λ (x : CallSoFar). record x { answers = x.answers ++ outcome_answer result ∷ [] })
    (λ old. old ++ outcome_answer result ∷ []) (λ old. old ++ outcome_answer result ∷ []) (λ d x. refl) (λ x. refl) (λ x own. actor_is c before p e i m o result may a x own) (λ old. refl) k found
answers_step c n (says.Release e i f stamp) before p may a k found = release_answers c n e i f stamp before p may a k found
answers_step c n w before p may a k found = at (was_there with_answers (λ d x. refl) p.calls (told_by c w p).calls (sym (answers_same c w p tt)) k found)
  where
    at : Was with_answers p.calls k → k.answers ≡ answers c before k.id
    at it = (let same : it.was.id ≡ k.id = ap (λ (x : CallSoFar). x.id) it.same in
        ap (λ (x : CallSoFar). x.answers) (sym it.same) ∙ (a.calls.answers it.was (ap (λ (x : CallId). find (is_id x) p.calls) same ∙ it.found) ∙ ap (answers c before) same))
