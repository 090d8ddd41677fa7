-- An instance has one descriptor, or one call that closed it, by each record that may follow.
use Rattle.std.proofs.Common.{◌≡◌, ℕ, ◌+◌, ◌&&◌, ◌≤◌, ◌⊎◌, inl, inr, Bool, true, false, List, [], ◌∷◌, length, filter, Some, refl, sym, ap, subst, ◌∙◌, arith}
use Rattle.std.specs.Prelude.{sum_by}
use Rattle.std.specs.List.{find, list_any, AllByRecursion}
use Rattle.std.proofs.lemmas.List.Sums.{sum_by-cons}
use Rattle.locus_ids.specs.declared.config.Config.{Config}
use Rattle.locus_ids.specs.declared.ids.CallId.{CallId}
use Rattle.locus_ids.specs.declared.ids.EpochId.{EpochId}
use Rattle.locus_ids.specs.declared.ids.Serial.{Serial}
use Rattle.trace_book.specs.Same.{same_call, same_epoch, same_serial}
use Rattle.trace_book.specs.declared.descriptor.Descriptor.{Descriptor}
use Rattle.trace_book.specs.declared.reply.Reply.{Reply}
use Rattle.trace_book.specs.declared.record.Record.{Record}
use Rattle.trace_book.specs.declared.record.Record.TheVariants as rec
use Rattle.tree_model.specs.declared.instance.Granted.{Granted}
use Rattle.promises.specs.Past.{Past, Site, CallSoFar, Named, epoch_at, is_close}
use Rattle.promises.specs.After.{after, is_id}
use Rattle.promises.specs.Rows.{may_follow}
use Rattle.past_laws.proofs.Names.{false_true, none_some, some_same, both_parts, call_eq, call_test, epoch_eq, serial_eq}
use Rattle.past_laws.proofs.Changing.{any_finds, Finds}
use Rattle.past_laws.proofs.CallsLists.{each_more, each_both, each_changed, each_found, none_pass}
use Rattle.past_laws.proofs.Finding.{found_only}
use Rattle.plain_facts.proofs.Tests.{and_first, and_second}
use Rattle.audit_laws.specs.Tidy.Epochs.{is_grant}
use Rattle.audit_laws.specs.Tidy.Ties.{has_epoch, has_granted, has_named, SiteTied, CallTied}
use Rattle.audit_laws.specs.Tidy.Users.{is_closing, describes, described, handles, IsUnhandled, numbers}
use Rattle.audit_laws.specs.Tidy.Tidy.{IsTidy}
use Rattle.audit_laws.proofs.Tidy.Answers.{AnswersOne, answers_one}
use Rattle.audit_laws.proofs.Tidy.Each.{CallSteps, calls_each}
use Rattle.audit_laws.proofs.Tidy.Epochs.{epoch_stands}
use Rattle.audit_laws.proofs.Tidy.EpochsNext.{grants_new}
use Rattle.audit_laws.proofs.Tidy.Naming.{has_at}
use Rattle.audit_laws.proofs.Tidy.TurnsNext.{unused}
use Rattle.audit_laws.proofs.Tidy.Numbers.{numbers_most, taken}
use Rattle.audit_laws.proofs.Tidy.Handles.{handles_fewer, IsNoAnswer, answer_handles, TakesIt, takes_it}

none_left : (a b : ℕ) → a ≤ b → b ≡ 0 → a ≡ 0
none_left a b h e = omega (arith, h, e)

-- ---- an instance that isn't granted yet has none ----

abbrev IsNotGranted : Past → EpochId → Serial → Type 0
IsNotGranted p e i = has_epoch (has_named i) e p.epochs ≡ true → ⊥

none_names : (p : Past) (e : EpochId) (i : Serial) → IsNotGranted p e i → (s : Site) → SiteTied p.epochs s → numbers e i s.descriptors ≡ 0
none_names p e i new s tied = none_left (numbers e i s.descriptors) (length (filter (describes e i) s.descriptors)) (numbers_most e i s.descriptors) (ap length (none_pass (describes e i) s.descriptors (each_more (λ (d : Named). has_epoch (has_named d.names.inst) d.names.epoch p.epochs ≡ true) (λ (d : Named). describes e i d ≡ false) apart s.descriptors tied.names)))
  where
    apart : (d : Named) → has_epoch (has_named d.names.inst) d.names.epoch p.epochs ≡ true → describes e i d ≡ false
    apart d h = at (describes e i d) refl
      where
        at : (b : Bool) → describes e i d ≡ b → b ≡ false
        at true g = (let parts : (same_epoch d.names.epoch e ≡ true) × (same_serial d.names.inst i ≡ true) = both_parts (same_epoch d.names.epoch e) (same_serial d.names.inst i) g in
            absurd (new (subst (λ (x : EpochId). has_epoch (has_named i) x p.epochs ≡ true) (epoch_eq d.names.epoch e parts.0) (subst (λ (j : Serial). has_epoch (has_named j) d.names.epoch p.epochs ≡ true) (serial_eq d.names.inst i parts.1) h))))
        at false g = refl

sum_none : (h : Site → ℕ) (sites : List Site) → AllByRecursion (λ (s : Site). h s ≡ 0) sites → sum_by h sites ≡ 0
sum_none h [] k = refl
sum_none h (s ∷ sites) k = sum_by-cons h s sites ∙ both (h s) (sum_by h sites) k.0 (sum_none h sites k.1)
  where
    both : (a b : ℕ) → a ≡ 0 → b ≡ 0 → a + b ≡ 0
    both a b e f = omega (arith, e, f)

new_unhandled : (c : Config) (p : Past) (e : EpochId) (i : Serial) → IsTidy c p → list_any (is_grant i) (epoch_at p e).granted ≡ false → handles e i p ≡ 0
new_unhandled c p e i tidy new = both (length (filter (is_closing e i) p.calls)) (described e i p.sites)
    (ap length (none_pass (is_closing e i) p.calls (each_more (CallTied p.epochs) (λ (k : CallSoFar). is_closing e i k ≡ false) (λ k h. ap (λ b. b && is_close k.words) (unused p e i tidy.epochs new k h)) p.calls tidy.ties.calls)))
    (sum_none (λ (s : Site). numbers e i s.descriptors) p.sites (each_more (SiteTied p.epochs) (λ (s : Site). numbers e i s.descriptors ≡ 0) (none_names p e i out) p.sites tidy.ties.sites))
  where
    both : (a b : ℕ) → a ≡ 0 → b ≡ 0 → a + b ≡ 0
    both a b g f = omega (arith, g, f)

    out : IsNotGranted p e i
    out h = false_true (sym new ∙ and_first (list_any (is_grant i) (epoch_at p e).granted) _ (has_at (has_named i) p e tidy.epochs h))

-- ---- what was granted to one call was granted to no other ----

one_call : (c : Config) (p : Past) (e : EpochId) (i : Serial) (a b : CallId) → IsTidy c p → has_epoch (has_granted i a) e p.epochs ≡ true → has_epoch (has_granted i b) e p.epochs ≡ true → a ≡ b
one_call c p e i a b tidy h k = of (any_finds (by a) (epoch_at p e).granted (has_at (has_granted i a) p e tidy.epochs h)) (any_finds (by b) (epoch_at p e).granted (has_at (has_granted i b) p e tidy.epochs k))
  where
    by : CallId → Granted → Bool
    by d g = is_grant i g && same_call g.call d

    first : (d : CallId) (it : Finds (by d) (epoch_at p e).granted) → find (is_grant i) (epoch_at p e).granted ≡ Some it.one
    first d it = found_only (is_grant i) (by d) (λ g m. and_first (is_grant i g) (same_call g.call d) m) (epoch_at p e).granted it.one ((epoch_stands p e tidy.epochs).grants i) it.found

    of : Finds (by a) (epoch_at p e).granted → Finds (by b) (epoch_at p e).granted → a ≡ b
    of x y = sym (call_eq x.one.call a (and_second (is_grant i x.one) (same_call x.one.call a) x.passes)) ∙ (ap (λ (g : Granted). g.call) (some_same x.one y.one (sym (first a x) ∙ first b y)) ∙ call_eq y.one.call b (and_second (is_grant i y.one) (same_call y.one.call b) y.passes))

-- ---- one ----

answer_one : (e : EpochId) (i : Serial) (c : Config) (p : Past) (site process : ℕ) (id : CallId) (r : Reply) → IsTidy c p → (handles e i p ≤ 1) → AllByRecursion (IsUnhandled p) p.calls → may_follow c p (rec.Answer site process id r) ≡ true → (it : AnswersOne c p site process id r) → handles e i (after c (rec.Answer site process id r) p) ≤ 1
answer_one e i c p site process id r tidy one un may it = at (takes_it e i r it.call)
  where
    more : handles e i (after c (rec.Answer site process id r) p) ≤ handles e i p + taken e i r it.call
    more = answer_handles e i c p site process id r tidy may it

    none : TakesIt e i it.call → handles e i p ≡ 0
    none t = subst (λ (d : EpochId). handles d i p ≡ 0) t.epoch_is (subst (λ (j : Serial). handles t.names.epoch j p ≡ 0) t.inst_is ((each_found (IsUnhandled p) (is_id id) p.calls it.call it.found un).0 it.waits t.names t.granted))

    at : (taken e i r it.call ≡ 0) ⊎ ((taken e i r it.call ≤ 1) × TakesIt e i it.call) → handles e i (after c (rec.Answer site process id r) p) ≤ 1
    at (inl z) = omega (arith, more, z, one)
    at (inr t) = (let zero : handles e i p ≡ 0 = none t.1 in omega (arith, more, t.0, zero))

pub one_next : (c : Config) (p : Past) (r : Record) → IsTidy c p → ((e : EpochId) (i : Serial) → handles e i p ≤ 1) → AllByRecursion (IsUnhandled p) p.calls → may_follow c p r ≡ true → (e : EpochId) (i : Serial) → handles e i (after c r p) ≤ 1
one_next c p (rec.Answer site process id r) tidy one un may e i = answer_one e i c p site process id r tidy (one e i) un may (answers_one c p site process id r tidy.calls may)
one_next c p (rec.Up site boot) tidy one un may e i = omega (arith, one e i, handles_fewer e i c p (rec.Up site boot) tidy may tt)
one_next c p (rec.Stopped site cause) tidy one un may e i = omega (arith, one e i, handles_fewer e i c p (rec.Stopped site cause) tidy may tt)
one_next c p (rec.Leave site d) tidy one un may e i = omega (arith, one e i, handles_fewer e i c p (rec.Leave site d) tidy may tt)
one_next c p (rec.Join site d members) tidy one un may e i = omega (arith, one e i, handles_fewer e i c p (rec.Join site d members) tidy may tt)
one_next c p (rec.Start d group copies) tidy one un may e i = omega (arith, one e i, handles_fewer e i c p (rec.Start d group copies) tidy may tt)
one_next c p (rec.Accept site process id words) tidy one un may e i = omega (arith, one e i, handles_fewer e i c p (rec.Accept site process id words) tidy may tt)
one_next c p (rec.Look d id request f w result) tidy one un may e i = omega (arith, one e i, handles_fewer e i c p (rec.Look d id request f w result) tidy may tt)
one_next c p (rec.Grant d id request j m f stamp ss) tidy one un may e i = omega (arith, one e i, handles_fewer e i c p (rec.Grant d id request j m f stamp ss) tidy may tt)
one_next c p (rec.Refuse d id request j m f why) tidy one un may e i = omega (arith, one e i, handles_fewer e i c p (rec.Refuse d id request j m f why) tidy may tt)
one_next c p (rec.Act d j n o result) tidy one un may e i = omega (arith, one e i, handles_fewer e i c p (rec.Act d j n o result) tidy may tt)
one_next c p (rec.Commit f site stamp parents content) tidy one un may e i = omega (arith, one e i, handles_fewer e i c p (rec.Commit f site stamp parents content) tidy may tt)
one_next c p (rec.Release d j f stamp) tidy one un may e i = omega (arith, one e i, handles_fewer e i c p (rec.Release d j f stamp) tidy may tt)
one_next c p (rec.Adopt f site stamp) tidy one un may e i = omega (arith, one e i, handles_fewer e i c p (rec.Adopt f site stamp) tidy may tt)
one_next c p (rec.Packet number from to kind) tidy one un may e i = omega (arith, one e i, handles_fewer e i c p (rec.Packet number from to kind) tidy may tt)
one_next c p rec.Void tidy one un may e i = omega (arith, one e i, handles_fewer e i c p rec.Void tidy may tt)
one_next c p rec.Budget tidy one un may e i = omega (arith, one e i, handles_fewer e i c p rec.Budget tidy may tt)

-- ---- what was granted to a call that waits ----

unhandled_later : (c : Config) (p : Past) (r : Record) → IsTidy c p → may_follow c p r ≡ true → IsNoAnswer r → (k : CallSoFar) → IsUnhandled p k → IsUnhandled (after c r p) k
unhandled_later c p r tidy may n k un w d g = none_left (handles d.epoch d.inst (after c r p)) (handles d.epoch d.inst p) (handles_fewer d.epoch d.inst c p r tidy may n) (un w d g)

unhandled_steps : (c : Config) (p : Past) (r : Record) → IsTidy c p → may_follow c p r ≡ true → IsNoAnswer r → CallSteps (IsUnhandled (after c r p)) p r
unhandled_steps c p (rec.Up site boot) tidy may n = tt
unhandled_steps c p (rec.Stopped site cause) tidy may n = λ k un w d g. false_true w
unhandled_steps c p (rec.Leave site e) tidy may n = tt
unhandled_steps c p (rec.Join site e members) tidy may n = tt
unhandled_steps c p (rec.Start e group copies) tidy may n = tt
unhandled_steps c p (rec.Accept site process id words) tidy may n = λ w d g. none_some d g
unhandled_steps c p (rec.Look e id request f w result) tidy may n = λ k answers un w d g. un w d g
unhandled_steps c p (rec.Grant e id request i m f stamp ss) tidy may n = λ k steady answers is un w d g. subst (λ (x : Descriptor). handles x.epoch x.inst (after c (rec.Grant e id request i m f stamp ss) p) ≡ 0) (some_same (record { mode = m; epoch = e; inst = i; steady = steady }) d g)
    (none_left (handles e i (after c (rec.Grant e id request i m f stamp ss) p)) (handles e i p) (handles_fewer e i c p (rec.Grant e id request i m f stamp ss) tidy may tt) (new_unhandled c p e i tidy (grants_new c p (epoch_at p e) id request i m f stamp ss may)))
unhandled_steps c p (rec.Refuse e id request i m f why) tidy may n = λ k answers un w d g. un w d g
unhandled_steps c p (rec.Act e i a o result) tidy may n = λ k answers un w d g. un w d g
unhandled_steps c p (rec.Commit f site stamp parents content) tidy may n = tt
unhandled_steps c p (rec.Release e i f stamp) tidy may n = λ k answers un w d g. un w d g
unhandled_steps c p (rec.Adopt f site stamp) tidy may n = tt
unhandled_steps c p (rec.Answer site process id r) tidy may n = absurd n
unhandled_steps c p (rec.Packet number from to kind) tidy may n = tt
unhandled_steps c p rec.Void tidy may n = tt
unhandled_steps c p rec.Budget tidy may n = tt

other_unhandled : (c : Config) (p : Past) (r : Record) → IsTidy c p → AllByRecursion (IsUnhandled p) p.calls → may_follow c p r ≡ true → IsNoAnswer r → AllByRecursion (IsUnhandled (after c r p)) (after c r p).calls
other_unhandled c p r tidy un may n = calls_each (IsUnhandled (after c r p)) c p r tidy may (unhandled_steps c p r tidy may n) (each_more (IsUnhandled p) (IsUnhandled (after c r p)) (unhandled_later c p r tidy may n) p.calls un)

answer_unhandled : (c : Config) (p : Past) (site process : ℕ) (id : CallId) (r : Reply) → IsTidy c p → AllByRecursion (IsUnhandled p) p.calls → may_follow c p (rec.Answer site process id r) ≡ true → (it : AnswersOne c p site process id r) → AllByRecursion (IsUnhandled (after c (rec.Answer site process id r) p)) (after c (rec.Answer site process id r) p).calls
answer_unhandled c p site process id r tidy un may it = subst (λ (q : Past). AllByRecursion (IsUnhandled new) q.calls) (sym it.told) (each_changed Both (IsUnhandled new) (is_id it.call.id) (λ (k : CallSoFar). record k { waits = false }) (λ k e h w d g. false_true w) (λ k e h. other k e h.0 h.1) p.calls
    (each_both (IsUnhandled p) (CallTied p.epochs) Both (λ k a b. (a, b)) p.calls un tidy.ties.calls))
  where
    new : Past
    new = after c (rec.Answer site process id r) p

    Both : CallSoFar → Type 0
    Both k = IsUnhandled p k × CallTied p.epochs k

    own : CallTied p.epochs it.call
    own = (each_found (CallTied p.epochs) (is_id id) p.calls it.call it.found tidy.ties.calls).0

    other : (k : CallSoFar) → is_id it.call.id k ≡ false → IsUnhandled p k → CallTied p.epochs k → IsUnhandled new k
    other k apart un_k tied w d g = at (takes_it d.epoch d.inst r it.call)
      where
        more : handles d.epoch d.inst new ≤ handles d.epoch d.inst p + taken d.epoch d.inst r it.call
        more = answer_handles d.epoch d.inst c p site process id r tidy may it

        was : handles d.epoch d.inst p ≡ 0
        was = un_k w d g

        same : TakesIt d.epoch d.inst it.call → ⊥
        same t = false_true (sym apart ∙ call_test k.id it.call.id (one_call c p d.epoch d.inst k.id it.call.id tidy (tied.has_it d g)
            (subst (λ (x : EpochId). has_epoch (has_granted d.inst it.call.id) x p.epochs ≡ true) t.epoch_is (subst (λ (j : Serial). has_epoch (has_granted j it.call.id) t.names.epoch p.epochs ≡ true) t.inst_is (own.has_it t.names t.granted)))))

        at : (taken d.epoch d.inst r it.call ≡ 0) ⊎ ((taken d.epoch d.inst r it.call ≤ 1) × TakesIt d.epoch d.inst it.call) → handles d.epoch d.inst new ≡ 0
        at (inl z) = omega (arith, more, z, was)
        at (inr t) = absurd (same t.1)

pub unhandled_next : (c : Config) (p : Past) (r : Record) → IsTidy c p → AllByRecursion (IsUnhandled p) p.calls → may_follow c p r ≡ true → AllByRecursion (IsUnhandled (after c r p)) (after c r p).calls
unhandled_next c p (rec.Answer site process id r) tidy un may = answer_unhandled c p site process id r tidy un may (answers_one c p site process id r tidy.calls may)
unhandled_next c p (rec.Up site boot) tidy un may = other_unhandled c p (rec.Up site boot) tidy un may tt
unhandled_next c p (rec.Stopped site cause) tidy un may = other_unhandled c p (rec.Stopped site cause) tidy un may tt
unhandled_next c p (rec.Leave site e) tidy un may = other_unhandled c p (rec.Leave site e) tidy un may tt
unhandled_next c p (rec.Join site e members) tidy un may = other_unhandled c p (rec.Join site e members) tidy un may tt
unhandled_next c p (rec.Start e group copies) tidy un may = other_unhandled c p (rec.Start e group copies) tidy un may tt
unhandled_next c p (rec.Accept site process id words) tidy un may = other_unhandled c p (rec.Accept site process id words) tidy un may tt
unhandled_next c p (rec.Look e id request f w result) tidy un may = other_unhandled c p (rec.Look e id request f w result) tidy un may tt
unhandled_next c p (rec.Grant e id request i m f stamp ss) tidy un may = other_unhandled c p (rec.Grant e id request i m f stamp ss) tidy un may tt
unhandled_next c p (rec.Refuse e id request i m f why) tidy un may = other_unhandled c p (rec.Refuse e id request i m f why) tidy un may tt
unhandled_next c p (rec.Act e i n o result) tidy un may = other_unhandled c p (rec.Act e i n o result) tidy un may tt
unhandled_next c p (rec.Commit f site stamp parents content) tidy un may = other_unhandled c p (rec.Commit f site stamp parents content) tidy un may tt
unhandled_next c p (rec.Release e i f stamp) tidy un may = other_unhandled c p (rec.Release e i f stamp) tidy un may tt
unhandled_next c p (rec.Adopt f site stamp) tidy un may = other_unhandled c p (rec.Adopt f site stamp) tidy un may tt
unhandled_next c p (rec.Packet number from to kind) tidy un may = other_unhandled c p (rec.Packet number from to kind) tidy un may tt
unhandled_next c p rec.Void tidy un may = other_unhandled c p rec.Void tidy un may tt
unhandled_next c p rec.Budget tidy un may = other_unhandled c p rec.Budget tidy un may tt
