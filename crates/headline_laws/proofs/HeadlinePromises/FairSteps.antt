-- Each record keeps that requests are answered fairly, where releases are.
use Rattle.std.proofs.Common.{◌≡◌, ℕ, ◌-◌, Bool, true, false, cond, List, [], ◌∷◌, ◌++◌, take, Option, Some, None, refl, sym, ◌∙◌, ap, subst}
use Rattle.std.specs.Prelude.{fold}
use Rattle.std.specs.List.{find}
use Rattle.locus_ids.specs.declared.config.Config.{Config}
use Rattle.locus_ids.specs.declared.ids.CallId.{CallId}
use Rattle.locus_ids.specs.declared.ids.EpochId.{EpochId}
use Rattle.locus_ids.specs.declared.ids.FileId.{FileId}
use Rattle.locus_ids.specs.declared.ids.Serial.{Serial}
use Rattle.locus_ids.specs.declared.ids.Stamp.{Stamp}
use Rattle.trace_book.specs.Same.{same_call}
use Rattle.trace_book.specs.declared.call.Call.{Call}
use Rattle.trace_book.specs.declared.descriptor.Beginning.{Beginning}
use Rattle.trace_book.specs.declared.descriptor.Beginning.TheVariants as begins
use Rattle.trace_book.specs.declared.reply.Reply.TheVariants as reply
use Rattle.trace_book.specs.declared.operation.Served.{Served}
use Rattle.trace_book.specs.declared.operation.What.{What}
use Rattle.trace_book.specs.declared.record.Record.{Record}
use Rattle.trace_book.specs.declared.record.Record.TheVariants as says
use Rattle.call_rules.specs.declared.answer.Answer.{Answer}
use Rattle.call_rules.specs.declared.answer.Answer.TheVariants as answer
use Rattle.call_rules.specs.declared.want.Want.{Want}
use Rattle.call_rules.specs.declared.want.Want.TheVariants as want
use Rattle.call_rules.specs.Scripts.{wants}
use Rattle.call_rules.specs.Opening.{is_steady}
use Rattle.tree_model.specs.Folds.{Trace}
use Rattle.tree_model.specs.State.{instance_in}
use Rattle.tree_model.specs.Tree.{tree_of}
use Rattle.tree_model.specs.Calls.{version_at}
use Rattle.lawful_trace.specs.Lawful.{MayCome}
use Rattle.lawful_trace.specs.Progress.{answers, is_packed_in, wants_after, wants_next, outcome_answer, granted_answer, closed, look_answer as answer_by, close_answer as close_by}
use Rattle.lawful_trace.specs.Tables.{is_call, call_of_act, call_of_release}
use Rattle.promises.specs.Past.{Past, CallSoFar, Instance, epoch_at, kept_in, asks_after}
use Rattle.promises.specs.After.{is_id, told_by, answered, look_answer, is_actor, is_ender, close_answer}
use Rattle.past_laws.specs.Agreement.{Agrees}
use Rattle.past_laws.proofs.Names.{some_same, call_eq}
use Rattle.past_laws.proofs.CallsGranted.{With}
use Rattle.past_laws.proofs.CallsAlike.{head, with_answers, Was, was_there}
use Rattle.past_laws.proofs.CallsSame.{answers_same}
use Rattle.past_laws.proofs.CallsFields.{accepted_call}
use Rattle.past_laws.proofs.CallsOwners.{actor_is, ender_is, Releases, releases_open}
use Rattle.past_laws.proofs.CallsServed.{look_same}
use Rattle.past_laws.proofs.CallsAsks.{asks_by, request_as, is_request}
use Rattle.headline_laws.specs.HeadlinePromises.Fair.{fits, is_fair, won_by, none_won}
use Rattle.headline_laws.proofs.HeadlinePromises.FairAnswers.{script_of, fair_more, fair_less, IsFair, NotUses, AllFair, fair_as, fair_changed, fits_other, IsNoClose, IsNoEnd, looked_no_end, granted_no_end, outcome_no_end, open_no_close}

-- what the folds say that the call asks, its script asks
scripted : (c : Config) (before : Trace) (p : Past) → Agrees c before p → (k : CallSoFar) → find (is_id k.id) p.calls ≡ Some k → (xs : List Answer) (w : Want) → wants_after c before k.id xs ≡ w → is_request w ≡ true → script_of c before k xs ≡ w
scripted c before p a k own xs w asks request = sym (asks_by c before p a k xs) ∙ request_as c before p a k own xs w asks request

-- the next request of a call, by its name
next_of : (c : Config) (before : Trace) (p : Past) → Agrees c before p → (k : CallSoFar) → find (is_id k.id) p.calls ≡ Some k → (id : CallId) → k.id ≡ id → (w : Want) → wants_next c before id ≡ w → is_request w ≡ true → script_of c before k k.answers ≡ w
next_of c before p a k own id same w asks request = scripted c before p a k own k.answers w (ap (wants_after c before k.id) (a.calls.answers k own) ∙ (ap (λ (d : CallId). wants_after c before d (answers c before d)) same ∙ asks)) request

-- one more answer that is no end, to a request that is no close
one_more : (c : Config) (before : Trace) (k : CallSoFar) (w : Want) (x : Answer) → IsFair c before k → NotUses k.begins → script_of c before k k.answers ≡ w → IsNoClose w → IsNoEnd x → is_fair none_won (script_of c before k) (k.answers ++ x ∷ []) ≡ true
one_more c before k w x fair walks asks no_close no_end = fair_more none_won (script_of c before k) k.answers x (fair walks) (ap (λ (v : Want). fits (won_by none_won (script_of c before k) k.answers) v x) asks ∙ fits_other (won_by none_won (script_of c before k) k.answers) w x no_close no_end)

-- a release is answered fairly: it ends, and tells a version only where it may
abbrev pub ReleaseFits : Config → Trace → Past → Record → Type 0
ReleaseFits c before p (says.Release e i f stamp) = (k : CallSoFar) → find (is_id k.id) p.calls ≡ Some k → is_call (call_of_release before e i) k.id ≡ true → NotUses k.begins
    → fits (won_by none_won (asks_after c p k) k.answers) (want.Close i) (close_by stamp (instance_in (tree_of c e f.group before) i)) ≡ true
ReleaseFits c before p _ = Unit {0}

-- an owner is the call of the step
owner_is : (o : Option CallId) (d : CallId) (k : CallSoFar) → o ≡ Some d → is_call o k.id ≡ true → k.id ≡ d
owner_is o d k owned h = sym (call_eq d k.id (ap (λ (x : Option CallId). is_call x k.id) (sym owned) ∙ h))

fair_look : (c : Config) (n : ℕ) (e : EpochId) (id : CallId) (request : ℕ) (f : FileId) (w : What) (result : Served) (before : Trace) (p : Past) → MayCome c before (says.Look e id request f w result) → Agrees c before p → AllFair c before p → (k : CallSoFar) → find (is_id k.id) (told_by c (says.Look e id request f w result) p).calls ≡ Some k
    → IsFair c (With n (says.Look e id request f w result) before) k
fair_look c n e id request f w result before p may a all k found = fair_changed c n (says.Look e id request f w result) before p may a (is_id id) (λ (x : CallSoFar). record x { answers = take (request - 1) x.answers ++ look_answer p f w result ∷ [] }) (λ old. take (request - 1) old ++ look_answer p f w result ∷ []) (λ x. refl) (λ x. refl) more all k found
  where
    more : (x : CallSoFar) → find (is_id x.id) p.calls ≡ Some x → is_id id x ≡ true → IsFair c before x → NotUses x.begins → is_fair none_won (script_of c before x) (take (request - 1) x.answers ++ look_answer p f w result ∷ []) ≡ true
    more x own is fair walks = fair_more none_won (script_of c before x) (take (request - 1) x.answers) (look_answer p f w result) (fair_less none_won (script_of c before x) (request - 1) x.answers (fair walks))
        (ap (λ (v : Want). fits (won_by none_won (script_of c before x) (take (request - 1) x.answers)) v (look_answer p f w result)) asks ∙ (ap (fits (won_by none_won (script_of c before x) (take (request - 1) x.answers)) (want.Look f w)) (look_same c before p e id request f w result may a) ∙ fits_other (won_by none_won (script_of c before x) (take (request - 1) x.answers)) (want.Look f w) (answer_by c before f w result) tt (looked_no_end c before f w result)))
      where
        same : x.id ≡ id
        same = call_eq x.id id is

        asks : script_of c before x (take (request - 1) x.answers) ≡ want.Look f w
        asks = scripted c before p a x own (take (request - 1) x.answers) (want.Look f w) (ap (λ (xs : List Answer). wants_after c before x.id (take (request - 1) xs)) (a.calls.answers x own) ∙ (ap (λ (d : CallId). wants_after c before d (take (request - 1) (answers c before d))) same ∙ may.asked)) refl

fair_release : (c : Config) (n : ℕ) (e : EpochId) (i : Serial) (f : FileId) (stamp : Option Stamp) (before : Trace) (p : Past) → MayCome c before (says.Release e i f stamp) → Agrees c before p → ReleaseFits c before p (says.Release e i f stamp) → AllFair c before p → (k : CallSoFar) → find (is_id k.id) (told_by c (says.Release e i f stamp) p).calls ≡ Some k
    → IsFair c (With n (says.Release e i f stamp) before) k
fair_release c n e i f stamp before p may a fit all k found = at (releases_open c before p e i f stamp may a)
  where
    at : Releases c before p e i f → IsFair c (With n (says.Release e i f stamp) before) k
    at r = fair_changed c n (says.Release e i f stamp) before p may a (is_ender (epoch_at p e) i) (λ (x : CallSoFar). record x { answers = x.answers ++ close_answer stamp r.opened.one ∷ [] }) (λ old. old ++ close_answer stamp r.opened.one ∷ []) (λ x. refl) (λ x. refl) more all k
        (ap (λ (xs : List Instance). find (is_id k.id) (fold (λ (old : Past) (x : Instance). answered (is_ender (epoch_at p e) i) (close_answer stamp x) old) p xs).calls) (sym r.opened.only) ∙ found)
      where
        same : close_answer stamp r.opened.one ≡ close_by stamp (instance_in (tree_of c e f.group before) i)
        same = ap (closed stamp) r.opened.is ∙ ap (close_by stamp) (sym r.found)

        more : (x : CallSoFar) → find (is_id x.id) p.calls ≡ Some x → is_ender (epoch_at p e) i x ≡ true → IsFair c before x → NotUses x.begins → is_fair none_won (script_of c before x) (x.answers ++ close_answer stamp r.opened.one ∷ []) ≡ true
        more x own is fair walks = fair_more none_won (script_of c before x) x.answers (close_answer stamp r.opened.one) (fair walks)
            (ap (λ (v : Want). fits (won_by none_won (script_of c before x) x.answers) v (close_answer stamp r.opened.one)) (next_of c before p a x own may.step.call (owner_is (call_of_release before e i) may.step.call x may.step.owned ends) (want.Close i) may.step.asked refl)
            ∙ (ap (fits (won_by none_won (script_of c before x) x.answers) (want.Close i)) same ∙ (ap (λ (s : List Answer → Want). fits (won_by none_won s x.answers) (want.Close i) (close_by stamp (instance_in (tree_of c e f.group before) i))) scripts ∙ fit x own ends walks)))
          where
            ends : is_call (call_of_release before e i) x.id ≡ true
            ends = sym (ender_is c before p e i f stamp may a x own) ∙ is

            scripts : script_of c before x ≡ asks_after c p x
            scripts = λ j xs. (sym (asks_by c before p a x xs)) j

fair_accept : (c : Config) (n s process : ℕ) (new : CallId) (words : Call) (before : Trace) (p : Past) → MayCome c before (says.Accept s process new words) → Agrees c before p → AllFair c before p → (k : CallSoFar) → find (is_id k.id) (told_by c (says.Accept s process new words) p).calls ≡ Some k → IsFair c (With n (says.Accept s process new words) before) k
fair_accept c n s process new words before p may a all k found = over (same_call new k.id) found
  where
    over : (b : Bool) → cond b (Some (accepted_call p s process new words)) (find (is_id k.id) p.calls) ≡ Some k → IsFair c (With n (says.Accept s process new words) before) k
    over true e = λ walks. ap (λ (x : CallSoFar). is_fair none_won (script_of c (With n (says.Accept s process new words) before) x) x.answers) (sym (some_same (accepted_call p s process new words) k e))
    over false e = fair_as c n (says.Accept s process new words) before p may a k k e refl (all k e)

pub fair_step : (c : Config) (n : ℕ) (w : Record) (before : Trace) (p : Past) → MayCome c before w → Agrees c before p → ReleaseFits c before p w → AllFair c before p → (k : CallSoFar) → find (is_id k.id) (told_by c w p).calls ≡ Some k → IsFair c (With n w before) k
fair_step c n (says.Accept s process new words) before p may a fit all k found = fair_accept c n s process new words before p may a all k found
fair_step c n (says.Look e id request f w result) before p may a fit all k found = fair_look c n e id request f w result before p may a all k found
fair_step c n (says.Grant e id request i m f stamp ss) before p may a fit all k found = fair_changed c n (says.Grant e id request i m f stamp ss) before p may a (is_id id) (λ (x : CallSoFar). record x { granted = Some (record { mode = m; epoch = e; inst = i; steady = cond (is_steady x.words) (version_at f stamp) None }); answers = x.answers ++ granted_answer m i f stamp (kept_in p (epoch_at p e) f) ∷ [] })
    (λ old. old ++ granted_answer m i f stamp (kept_in p (epoch_at p e) f) ∷ []) (λ x. refl) (λ x. refl)
    (λ x own is fair walks. (let asked = open_no_close m f (wants_next c before id) may.opens.asked in one_more c before x (wants_next c before id) (granted_answer m i f stamp (kept_in p (epoch_at p e) f)) fair walks (next_of c before p a x own id (call_eq x.id id is) (wants_next c before id) refl asked.1) asked.0 (granted_no_end m i f stamp (kept_in p (epoch_at p e) f)))) all k found
fair_step c n (says.Refuse e id request i m f why) before p may a fit all k found = fair_changed c n (says.Refuse e id request i m f why) before p may a (is_id id) (λ (x : CallSoFar). record x { answers = x.answers ++ answer.Refused why ∷ [] }) (λ old. old ++ answer.Refused why ∷ []) (λ x. refl) (λ x. refl)
    (λ x own is fair walks. (let asked = open_no_close m f (wants_next c before id) may.opens.asked in one_more c before x (wants_next c before id) (answer.Refused why) fair walks (next_of c before p a x own id (call_eq x.id id is) (wants_next c before id) refl asked.1) asked.0 tt)) all k found
fair_step c n (says.Act e i m o result) before p may a fit all k found = fair_changed c n (says.Act e i m o result) before p may a (is_actor (epoch_at p e) i m) (λ (x : CallSoFar). record x { answers = x.answers ++ outcome_answer result ∷ [] }) (λ old. old ++ outcome_answer result ∷ []) (λ x. refl) (λ x. refl)
    (λ x own is fair walks. one_more c before x (want.Do i o) (outcome_answer result) fair walks (next_of c before p a x own may.step.call (owner_is (call_of_act before e i m) may.step.call x may.step.owned (sym (actor_is c before p e i m o result may a x own) ∙ is)) (want.Do i o) may.step.asked refl) tt (outcome_no_end result)) all k found
fair_step c n (says.Release e i f stamp) before p may a fit all k found = fair_release c n e i f stamp before p may a fit all k found
fair_step c n w before p may a fit all k found = at (was_there with_answers (λ d x. refl) p.calls (told_by c w p).calls (sym (answers_same c w p tt)) k found)
  where
    at : Was with_answers p.calls k → IsFair c (With n w before) k
    at it = (let own : find (is_id it.was.id) p.calls ≡ Some it.was = ap (λ (x : CallSoFar). find (is_id x.id) p.calls) it.same ∙ it.found in
        fair_as c n w before p may a it.was k own (ap head it.same) (λ walks. ap (λ (x : CallSoFar). is_fair none_won (script_of c before it.was) x.answers) (sym it.same) ∙ all it.was own walks))
