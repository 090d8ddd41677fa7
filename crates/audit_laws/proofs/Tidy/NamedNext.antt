-- What names an open instance, by each record that may follow.
use Rattle.std.proofs.Common.{◌≡◌, ℕ, ◌+◌, ◌&&◌, ◌||◌, not, Bool, true, false, cond, List, [], ◌∷◌, Some, refl, sym, ap, subst, ◌∙◌}
use Rattle.std.specs.List.{find, list_any, AllByRecursion}
use Rattle.locus_ids.specs.declared.config.Config.{Config}
use Rattle.locus_ids.specs.declared.ids.CallId.{CallId}
use Rattle.trace_book.specs.Same.{same_call}
use Rattle.trace_book.specs.declared.record.Record.{Record}
use Rattle.trace_book.specs.declared.record.Record.TheVariants as rec
use Rattle.trace_book.specs.declared.reply.Reply.{Reply}
use Rattle.tree_model.specs.declared.instance.Granted.{Granted}
use Rattle.promises.specs.Past.{Past, Epoch, CallSoFar, Instance}
use Rattle.promises.specs.After.{after, change, is_id, once_named, opened_as}
use Rattle.promises.specs.Rows.{may_follow}
use Rattle.plain_facts.proofs.Tests.{and_first, and_second, and_true, not_true, false_unless}
use Rattle.past_laws.proofs.Names.{false_true, none_some, some_same, call_own}
use Rattle.past_laws.proofs.CallsLists.{each_added, each_both, each_changed, each_filter, each_more}
use Rattle.audit_laws.specs.Tidy.Users.{is_over, NamedSo}
use Rattle.audit_laws.specs.Tidy.Tidy.{IsTidy}
use Rattle.audit_laws.proofs.Tidy.Answers.{AnswersOne, answers_one}
use Rattle.audit_laws.proofs.Tidy.Epochs.{once_grant, once_is_named}
use Rattle.audit_laws.proofs.Tidy.Naming.{IsFresh}
use Rattle.audit_laws.proofs.Tidy.Each.{EpochSteps, epochs_each}
use Rattle.audit_laws.proofs.Tidy.TiesGrants.{IsLastingCall, calls_last}

abbrev NamedStand : List CallSoFar → Epoch → Type 0
NamedStand calls t = AllByRecursion (NamedSo calls) t.opened

-- ---- a call that waits no more ----

over_lasts : (id : CallId) → IsLastingCall (is_over id)
over_lasts id k l name process words epoch begins turn waits h = and_true (is_id id l) (not l.waits) (ap (λ (d : CallId). same_call d id) name ∙ and_first (is_id id k) (not k.waits) h)
    (ap not (false_unless l.waits (λ w. false_true (sym (not_true k.waits (and_second (is_id id k) (not k.waits) h)) ∙ waits w))))

-- the call that is answered
answered_over : (c : Config) (p : Past) (site process : ℕ) (id : CallId) (r : Reply) → AnswersOne c p site process id r → list_any (is_over id) (after c (rec.Answer site process id r) p).calls ≡ true
answered_over c p site process id r it = subst (λ (q : Past). list_any (is_over id) q.calls ≡ true) (sym it.told) (subst (λ (d : CallId). list_any (is_over id) (change (is_id d) (λ (k : CallSoFar). record k { waits = false }) p.calls) ≡ true) (sym it.is_it) (one p.calls it.found))
  where
    one : (ks : List CallSoFar) → find (is_id id) ks ≡ Some it.call → list_any (is_over id) (change (is_id id) (λ (k : CallSoFar). record k { waits = false }) ks) ≡ true
    one [] h = none_some it.call h
    one (k ∷ ks) h = at (one ks) (is_id id k) refl h
      where
        at : (find (is_id id) ks ≡ Some it.call → list_any (is_over id) (change (is_id id) (λ (l : CallSoFar). record l { waits = false }) ks) ≡ true) → (b : Bool) → is_id id k ≡ b → cond b (Some k) (find (is_id id) ks) ≡ Some it.call → (is_over id (cond b (record k { waits = false }) k) || list_any (is_over id) (change (is_id id) (λ (l : CallSoFar). record l { waits = false }) ks)) ≡ true
        at later true e f = rw e refl
        at later false e f = rw e (later f)

-- ---- instances that are changed ----

so_later : (old new : List CallSoFar) → ((id : CallId) → list_any (is_over id) old ≡ true → list_any (is_over id) new ≡ true) → (x y : Instance) → y.grant ≡ x.grant → y.named ≡ x.named → y.again ≡ x.again → NamedSo old x → NamedSo new y
so_later old new later x y grant named again k = record {
  over = λ n. later y.grant.call (subst (λ (g : Granted). list_any (is_over g.call) old ≡ true) (sym grant) (k.over (sym named ∙ n)));
  again = λ a. named ∙ k.again (sym again ∙ a);
}

so_changed : (calls : List CallSoFar) (which : Instance → Bool) (f : Instance → Instance) → ((x : Instance) → (f x).grant ≡ x.grant) → ((x : Instance) → (f x).named ≡ x.named) → ((x : Instance) → (f x).again ≡ x.again) → (xs : List Instance) → AllByRecursion (NamedSo calls) xs → AllByRecursion (NamedSo calls) (change which f xs)
so_changed calls which f grant named again xs h = each_changed (NamedSo calls) (NamedSo calls) which f (λ x w k. so_later calls calls (λ id o. o) x (f x) (grant x) (named x) (again x) k) (λ x w k. k) xs h

once_so : (calls : List CallSoFar) (id : CallId) (r : Reply) (x : Instance) → list_any (is_over id) calls ≡ true → x.grant.call ≡ id → NamedSo calls (once_named r x)
once_so calls id r x over granted = record {
  over = λ n. subst (λ (g : Granted). list_any (is_over g.call) calls ≡ true) (sym (once_grant r x)) (subst (λ (d : CallId). list_any (is_over d) calls ≡ true) (sym granted) over);
  again = λ a. once_is_named r x;
}

-- ---- the records ----

named_steps : (c : Config) (p : Past) (r : Record) → IsTidy c p → may_follow c p r ≡ true → EpochSteps (NamedStand (after c r p).calls) p r
named_steps c p (rec.Up site boot) tidy may = tt
named_steps c p (rec.Stopped site cause) tidy may = λ t left k. k
named_steps c p (rec.Leave site e) tidy may = λ t left k. k
named_steps c p (rec.Join site e members) tidy may = (tt, λ t joined known k. k)
named_steps c p (rec.Start e group copies) tidy may = λ t started k. k
named_steps c p (rec.Accept site process id words) tidy may = λ t which k. so_changed (after c (rec.Accept site process id words) p).calls which (λ (x : Instance). record x { uses = x.uses + 1 }) (λ x. refl) (λ x. refl) (λ x. refl) t.opened k
named_steps c p (rec.Look e id request f w result) tidy may = tt
named_steps c p (rec.Grant e id request i m f stamp ss) tidy may = λ t at g is k. each_added (NamedSo (after c (rec.Grant e id request i m f stamp ss) p).calls) t.opened (opened_as p g stamp) k (record { over = λ n. false_true n; again = λ a. false_true a })
named_steps c p (rec.Refuse e id request i m f why) tidy may = λ t makes k. k
named_steps c p (rec.Act e i n o result) tidy may = λ t which work makes k. so_changed (after c (rec.Act e i n o result) p).calls which (λ (x : Instance). record x { work = work x }) (λ x. refl) (λ x. refl) (λ x. refl) t.opened k
named_steps c p (rec.Commit f site stamp parents content) tidy may = λ t which work k. so_changed (after c (rec.Commit f site stamp parents content) p).calls which (λ (x : Instance). record x { work = work x }) (λ x. refl) (λ x. refl) (λ x. refl) t.opened k
named_steps c p (rec.Release e i f stamp) tidy may = λ t known which makes k. each_filter (NamedSo (after c (rec.Release e i f stamp) p).calls) which t.opened k
named_steps c p (rec.Adopt f site stamp) tidy may = tt
named_steps c p (rec.Answer site process id r) tidy may = λ t which unmended fresh k. each_changed (Both t which) (NamedSo new) which (once_named r) (λ x w h. once_so new id r x over (h.0 w).granted) (λ x w h. h.1) t.opened
    (each_both (λ (x : Instance). which x ≡ true → IsFresh p.calls t.id id x) (NamedSo new) (Both t which) (λ x a b. (a, b)) t.opened fresh k)
  where
    new : List CallSoFar
    new = (after c (rec.Answer site process id r) p).calls

    Both : Epoch → (Instance → Bool) → Instance → Type 0
    Both t which x = (which x ≡ true → IsFresh p.calls t.id id x) × NamedSo new x

    over : list_any (is_over id) new ≡ true
    over = answered_over c p site process id r (answers_one c p site process id r tidy.calls may)
named_steps c p (rec.Packet number from to kind) tidy may = tt
named_steps c p rec.Void tidy may = tt
named_steps c p rec.Budget tidy may = tt

pub named_next : (c : Config) (p : Past) (r : Record) → IsTidy c p → may_follow c p r ≡ true → AllByRecursion (NamedStand (after c r p).calls) (after c r p).epochs
named_next c p r tidy may = epochs_each (NamedStand (after c r p).calls) c p r tidy may (named_steps c p r tidy may)
    (each_more (NamedStand p.calls) (NamedStand (after c r p).calls)
    (λ t h. each_more (NamedSo p.calls) (NamedSo (after c r p).calls) (λ x k. so_later p.calls (after c r p).calls (λ id o. calls_last (is_over id) (over_lasts id) c p r tidy may o) x x refl refl refl k) t.opened h) p.epochs tidy.users.named)
