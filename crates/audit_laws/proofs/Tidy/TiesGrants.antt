-- A grant finds its call, by each record that may follow.
use Rattle.std.proofs.Common.{◌≡◌, ℕ, ◌-◌, ◌==◌, ◌&&◌, ◌||◌, ◌⊎◌, inl, inr, Bool, true, false, cond, List, [], ◌∷◌, ◌++◌, filter, take, Option, Some, None, refl, sym, ap, subst, ◌∙◌}
use Rattle.std.specs.Prelude.{fold}
use Rattle.std.specs.List.{list_any, AllByRecursion}
use Rattle.locus_ids.specs.declared.config.Config.{Config}
use Rattle.locus_ids.specs.declared.ids.CallId.{CallId}
use Rattle.locus_ids.specs.declared.ids.EpochId.{EpochId}
use Rattle.locus_ids.specs.declared.ids.FileId.{FileId}
use Rattle.locus_ids.specs.declared.ids.Mode.{Mode}
use Rattle.locus_ids.specs.declared.ids.Serial.{Serial}
use Rattle.locus_ids.specs.declared.ids.Stamp.{Stamp}
use Rattle.trace_book.specs.Same.{same_call}
use Rattle.trace_book.specs.declared.record.Record.{Record}
use Rattle.trace_book.specs.declared.record.Record.TheVariants as rec
use Rattle.call_rules.specs.declared.answer.Answer.{Answer}
use Rattle.call_rules.specs.declared.answer.Answer.TheVariants.{Refused}
use Rattle.call_rules.specs.Opening.{is_steady}
use Rattle.tree_model.specs.Calls.{version_at}
use Rattle.lawful_trace.specs.Progress.{granted_answer, outcome_answer}
use Rattle.tree_model.specs.declared.instance.Granted.{Granted}
use Rattle.tree_model.specs.Epochs.{is_in}
use Rattle.promises.specs.Past.{Past, Epoch, CallSoFar, Instance, epoch_at, kept_in, is_number, is_named}
use Rattle.promises.specs.After.{after, told_by, change, is_id, is_actor, is_ender, look_answer, close_answer, process_of}
use Rattle.promises.specs.Rows.{may_follow, is_synced}
use Rattle.plain_facts.proofs.Tests.{and_first, and_second, and_true, or_either, or_first, or_second}
use Rattle.past_laws.proofs.Names.{false_true, number_eq, number_own, call_own}
use Rattle.past_laws.proofs.Changing.{found_any}
use Rattle.past_laws.proofs.CallsLists.{each_more}
use Rattle.audit_laws.specs.Tidy.Ties.{is_called, GrantStands, TiesStand}
use Rattle.audit_laws.specs.Tidy.Tidy.{IsTidy}
use Rattle.audit_laws.proofs.Tidy.Answers.{AnswersOne, answers_one, closed_as, epoch_calls}
use Rattle.audit_laws.proofs.Tidy.Each.{EpochSteps, epochs_each}
use Rattle.audit_laws.proofs.Tidy.TiesParts.{GrantsOne, grants_one, epoch_id}

-- a test of a call by what it was accepted as
abbrev pub IsOfCall : (CallSoFar → Bool) → Type 0
IsOfCall q = (k l : CallSoFar) → l.id ≡ k.id → l.process ≡ k.process → l.words ≡ k.words → l.epoch ≡ k.epoch → l.begins ≡ k.begins → l.turn ≡ k.turn → q l ≡ q k

-- a test of a call that passes as long as it does no more than answer, be granted and stop to wait
abbrev pub IsLastingCall : (CallSoFar → Bool) → Type 0
IsLastingCall q = (k l : CallSoFar) → l.id ≡ k.id → l.process ≡ k.process → l.words ≡ k.words → l.epoch ≡ k.epoch → l.begins ≡ k.begins → l.turn ≡ k.turn → (l.waits ≡ true → k.waits ≡ true) → q k ≡ true → q l ≡ true

of_call_lasts : (q : CallSoFar → Bool) → IsOfCall q → IsLastingCall q
of_call_lasts q of_call k l name process words epoch begins turn waits h = of_call k l name process words epoch begins turn ∙ h

kept_any : (q : CallSoFar → Bool) (which : CallSoFar → Bool) (f : CallSoFar → CallSoFar) → ((k : CallSoFar) → q k ≡ true → q (f k) ≡ true) → (calls : List CallSoFar) → list_any q calls ≡ true → list_any q (change which f calls) ≡ true
kept_any q which f keep [] h = h
kept_any q which f keep (k ∷ ks) h = at (kept_any q which f keep ks) (or_either (q k) (list_any q ks) h)
  where
    now : (b : Bool) → q k ≡ true → q (cond b (f k) k) ≡ true
    now true e = keep k e
    now false e = e

    at : (list_any q ks ≡ true → list_any q (change which f ks) ≡ true) → (q k ≡ true) ⊎ (list_any q ks ≡ true) → (q (cond (which k) (f k) k) || list_any q (change which f ks)) ≡ true
    at later (inl e) = or_first (q (cond (which k) (f k) k)) (list_any q (change which f ks)) (now (which k) e)
    at later (inr e) = or_second (q (cond (which k) (f k) k)) (list_any q (change which f ks)) (later e)

-- what it is answered doesn't matter
answered_any : (q : CallSoFar → Bool) → IsLastingCall q → (which : CallSoFar → Bool) (g : CallSoFar → List Answer) (calls : List CallSoFar) → list_any q calls ≡ true → list_any q (change which (λ (k : CallSoFar). record k { answers = g k }) calls) ≡ true
answered_any q lasts which g calls h = kept_any q which (λ (k : CallSoFar). record k { answers = g k }) (λ k e. lasts k (record k { answers = g k }) refl refl refl refl refl refl (λ w. w) e) calls h

closed_any : (q : CallSoFar → Bool) → IsLastingCall q → (which : CallSoFar → Bool) (stamp : Option Stamp) (xs : List Instance) (calls : List CallSoFar) → list_any q calls ≡ true → list_any q (fold (λ (ks : List CallSoFar) (x : Instance). change which (λ (k : CallSoFar). record k { answers = k.answers ++ close_answer stamp x ∷ [] }) ks) calls xs) ≡ true
closed_any q lasts which stamp [] calls h = h
closed_any q lasts which stamp (x ∷ xs) calls h = closed_any q lasts which stamp xs (change which (λ (k : CallSoFar). record k { answers = k.answers ++ close_answer stamp x ∷ [] }) calls) (answered_any q lasts which (λ k. k.answers ++ close_answer stamp x ∷ []) calls h)

waits_no_more : (q : CallSoFar → Bool) → IsLastingCall q → (which : CallSoFar → Bool) (calls : List CallSoFar) → list_any q calls ≡ true → list_any q (change which (λ (k : CallSoFar). record k { waits = false }) calls) ≡ true
waits_no_more q lasts which calls h = kept_any q which (λ (k : CallSoFar). record k { waits = false }) (λ k e. lasts k (record k { waits = false }) refl refl refl refl refl refl (λ w. false_true w) e) calls h

-- a call that was accepted stays
pub calls_last : (q : CallSoFar → Bool) → IsLastingCall q → (c : Config) (p : Past) (r : Record) → IsTidy c p → may_follow c p r ≡ true → list_any q p.calls ≡ true → list_any q (after c r p).calls ≡ true
calls_last q lasts c p (rec.Up site boot) tidy may h = h
calls_last q lasts c p (rec.Stopped site cause) tidy may h = waits_no_more q lasts (λ (k : CallSoFar). k.id.site == site) p.calls h
calls_last q lasts c p (rec.Leave site e) tidy may h = h
calls_last q lasts c p (rec.Join site e members) tidy may h = subst (λ (ks : List CallSoFar). list_any q ks ≡ true) (sym (epoch_calls e members p)) h
calls_last q lasts c p (rec.Start e group copies) tidy may h = h
calls_last q lasts c p (rec.Accept site process id words) tidy may h = or_second _ (list_any q p.calls) h
calls_last q lasts c p (rec.Look e id request f w result) tidy may h = answered_any q lasts (is_id id) (λ k. take (request - 1) k.answers ++ look_answer p f w result ∷ []) p.calls h
calls_last q lasts c p (rec.Grant e id request i m f stamp ss) tidy may h = kept_any q (is_id id) (λ (k : CallSoFar). record k { granted = Some (record { mode = m; epoch = e; inst = i; steady = cond (is_steady k.words) (version_at f stamp) None }); answers = k.answers ++ granted_answer m i f stamp (kept_in p (epoch_at p e) f) ∷ [] })
    (λ k t. lasts k (record k { granted = Some (record { mode = m; epoch = e; inst = i; steady = cond (is_steady k.words) (version_at f stamp) None }); answers = k.answers ++ granted_answer m i f stamp (kept_in p (epoch_at p e) f) ∷ [] }) refl refl refl refl refl refl (λ w. w) t) p.calls h
calls_last q lasts c p (rec.Refuse e id request i m f why) tidy may h = answered_any q lasts (is_id id) (λ k. k.answers ++ Refused why ∷ []) p.calls h
calls_last q lasts c p (rec.Act e i n o result) tidy may h = answered_any q lasts (is_actor (epoch_at p e) i n) (λ k. k.answers ++ outcome_answer result ∷ []) p.calls h
calls_last q lasts c p (rec.Commit f site stamp parents content) tidy may h = h
calls_last q lasts c p (rec.Release e i f stamp) tidy may h = subst (λ (x : Past). list_any q x.calls ≡ true) (sym (closed_as (is_ender (epoch_at p e) i) stamp p (filter (is_named i) (epoch_at p e).opened))) (closed_any q lasts (is_ender (epoch_at p e) i) stamp (filter (is_named i) (epoch_at p e).opened) p.calls h)
calls_last q lasts c p (rec.Adopt f site stamp) tidy may h = h
calls_last q lasts c p (rec.Answer site process id r) tidy may h = of (answers_one c p site process id r tidy.calls may)
  where
    of : AnswersOne c p site process id r → list_any q (told_by c (rec.Answer site process id r) p).calls ≡ true
    of it = subst (λ (x : Past). list_any q x.calls ≡ true) (sym it.told) (waits_no_more q lasts (is_id it.call.id) p.calls h)
calls_last q lasts c p (rec.Packet number from to kind) tidy may h = h
calls_last q lasts c p rec.Void tidy may h = h
calls_last q lasts c p rec.Budget tidy may h = h

-- ---- grants ----

called_of : (e : EpochId) (g : Granted) → IsLastingCall (is_called e g)
called_of e g = of_call_lasts (is_called e g) (λ k l name process words epoch begins turn i. is_id g.call (record k { id = name i }) && ((process i == g.process) && is_in (epoch i) e))

abbrev pub GrantsStand : List CallSoFar → Epoch → Type 0
GrantsStand calls t = AllByRecursion (GrantStands calls t.id) t.granted

grants_later : (c : Config) (p : Past) (r : Record) → IsTidy c p → may_follow c p r ≡ true → (t : Epoch) → GrantsStand p.calls t → GrantsStand (after c r p).calls t
grants_later c p r tidy may t h = each_more (GrantStands p.calls t.id) (GrantStands (after c r p).calls t.id) (λ g k. record { called = calls_last (is_called t.id g) (called_of t.id g) c p r tidy may k.called; own = k.own }) t.granted h

-- the grant itself
grant_stands : (c : Config) (p : Past) (e : EpochId) (id : CallId) (request : ℕ) (i : Serial) (m : Mode) (f : FileId) (stamp : Option Stamp) (ss : ℕ) → IsTidy c p → may_follow c p (rec.Grant e id request i m f stamp ss) ≡ true → (g : Granted) → g ≡ record { inst = i; call = id; process = process_of p id; mode = m; file = f; ss = ss }
    → GrantStands p.calls e g
grant_stands c p e id request i m f stamp ss tidy may g is = of (grants_one c p e id request i m f stamp ss tidy.calls may)
  where
    at : Granted
    at = record { inst = i; call = id; process = process_of p id; mode = m; file = f; ss = ss }

    own : at.inst.us ≡ at.call.site
    own = number_eq i.us id.site (and_first (i.us == id.site) _ (and_second (is_number (epoch_at p e).joined ss) _ (and_second (is_synced c (epoch_at p e) f.group) _ (and_second (is_number (epoch_at p e).started f.group) _ may))))

    of : GrantsOne p e id → GrantStands p.calls e g
    of it = subst (GrantStands p.calls e) (sym is) (record {
      called = found_any (is_id id) (is_called e at) p.calls it.call it.found (and_true (is_id id it.call) ((it.call.process == process_of p id) && is_in it.call.epoch e) (ap (λ (d : CallId). same_call d id) it.is_it ∙ call_own id)
          (and_true (it.call.process == process_of p id) (is_in it.call.epoch e) (ap (λ n. it.call.process == n) it.process_is ∙ number_own it.call.process) it.inside));
      own = own;
    })

grant_steps : (c : Config) (p : Past) (r : Record) → IsTidy c p → may_follow c p r ≡ true → EpochSteps (GrantsStand (after c r p).calls) p r
grant_steps c p (rec.Up site boot) tidy may = tt
grant_steps c p (rec.Stopped site cause) tidy may = λ t left k. k
grant_steps c p (rec.Leave site e) tidy may = λ t left k. k
grant_steps c p (rec.Join site e members) tidy may = (tt, λ t joined known k. k)
grant_steps c p (rec.Start e group copies) tidy may = λ t started k. k
grant_steps c p (rec.Accept site process id words) tidy may = λ t which k. k
grant_steps c p (rec.Look e id request f w result) tidy may = tt
grant_steps c p (rec.Grant e id request i m f stamp ss) tidy may = λ t at g is k. (subst (λ (d : EpochId). GrantStands (after c (rec.Grant e id request i m f stamp ss) p).calls d g) (sym (epoch_id p e) ∙ ap (λ (u : Epoch). u.id) at) (now (grant_stands c p e id request i m f stamp ss tidy may g is)), k)
  where
    now : {g : Granted} → GrantStands p.calls e g → GrantStands (after c (rec.Grant e id request i m f stamp ss) p).calls e g
    now {g} k = record { called = calls_last (is_called e g) (called_of e g) c p (rec.Grant e id request i m f stamp ss) tidy may k.called; own = k.own }
grant_steps c p (rec.Refuse e id request i m f why) tidy may = λ t makes k. k
grant_steps c p (rec.Act e i n o result) tidy may = λ t which work makes k. k
grant_steps c p (rec.Commit f site stamp parents content) tidy may = λ t which work k. k
grant_steps c p (rec.Release e i f stamp) tidy may = λ t known which makes k. k
grant_steps c p (rec.Adopt f site stamp) tidy may = tt
grant_steps c p (rec.Answer site process id r) tidy may = λ t which unmended fresh k. k
grant_steps c p (rec.Packet number from to kind) tidy may = tt
grant_steps c p rec.Void tidy may = tt
grant_steps c p rec.Budget tidy may = tt

pub tied_grants : (c : Config) (p : Past) (r : Record) → IsTidy c p → TiesStand p → may_follow c p r ≡ true → AllByRecursion (GrantsStand (after c r p).calls) (after c r p).epochs
tied_grants c p r tidy ties may = epochs_each (GrantsStand (after c r p).calls) c p r tidy may (grant_steps c p r tidy may) (each_more (GrantsStand p.calls) (GrantsStand (after c r p).calls) (grants_later c p r tidy may) p.epochs ties.grants)
