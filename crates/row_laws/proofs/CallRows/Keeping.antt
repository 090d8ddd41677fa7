-- How waiting calls stand as records come: what tells of no call, or of another site's, leaves them.
use Rattle.locus_ids.specs.declared.config.Config.{Config}
use Rattle.std.proofs.Common.{◌≡◌, ℕ, ◌+◌, ◌==◌, ◌⊎◌, Bool, true, false, cond, ◌||◌, ◌&&◌, not, List, [], ◌∷◌, filter, refl, sym, ◌∙◌, ap, subst, inl, inr, arith}
use Rattle.std.proofs.lemmas.Bool.Decides.{nat_tests}
use Rattle.role_steps.proofs.of_plain_facts.Numbers.{apart_test, equal_test}
use Rattle.role_steps.proofs.of_plain_facts.Tests.{not_true, true_false}
use Rattle.locus_ids.specs.declared.ids.CallId.{CallId}
use Rattle.trace_book.specs.Same.{same_call}
use Rattle.trace_book.specs.declared.record.Record.{Record}
use Rattle.trace_book.specs.declared.record.Record.TheVariants as says
use Rattle.trace_book.specs.declared.record.StopCause.{StopCause}
use Rattle.role_steps.specs.Own.{Every}
use Rattle.role_steps.specs.Views.{Told, Shown}
use Rattle.role_steps.specs.Requests.{waiting_of, waiting_key}
use Rattle.role_steps.specs.Using.{own_call}
use Rattle.role_steps.specs.declared.users.WaitingCall.{WaitingCall}
use Rattle.tree_model.specs.declared.accepted.Waiting.{Waiting}
use Rattle.tree_model.specs.Folds.{Trace}
use Rattle.tree_model.specs.Epochs.{is_up, boot_of, calls_accepted}
use Rattle.tree_model.specs.Calls.{waiting}
use Rattle.the_run.specs.Kept.{Among}
use Rattle.row_laws.specs.Shown.{with_told}
use Rattle.row_laws.specs.CallRows.Waiting.{after, OfSiteRecord, OfSite, Matches, IsWaiting, HasRow, KeyedAs, Keyed, Waits, NoneWaits, SameCall, CallFreeRecord, CallFree}

-- ---- names of calls ----

pub call_same : (a b : CallId) → same_call a b ≡ true → a ≡ b
call_same a b h = id_eq (grind (arith, nat_tests)) (grind (arith, nat_tests)) (grind (arith, nat_tests))
  where
    id_eq : a.site ≡ b.site → a.boot ≡ b.boot → a.n ≡ b.n → a ≡ b
    id_eq e f g = λ i. record { site = e i; boot = f i; n = g i }

same_self : (a : CallId) → same_call a a ≡ true
same_self a = grind (arith, nat_tests)

pub call_test : (a b : CallId) → a ≡ b → same_call a b ≡ true
call_test a b e = subst (λ (x : CallId). same_call a x ≡ true) e (same_self a)

pub call_differs : (a b : CallId) → (a ≡ b → ⊥) → same_call a b ≡ false
call_differs a b ne = (elim (same_call a b) as (λ t. same_call a b ≡ t → t ≡ false) [ true ↦ λ e. absurd (ne (call_same a b e)) | false ↦ λ e. refl ]) refl

-- ---- lists that are filtered ----

pub filter_old : {A : Type 0} (p : A → Bool) (xs : List A) (x : A) → Among x (filter p xs) → Among x xs × (p x ≡ true)
filter_old p [] x a = absurd a
filter_old p (y ∷ ys) x a =
    (elim (p y) as (λ b. p y ≡ b → Among x (cond b (y ∷ filter p ys) (filter p ys)) → Among x (y ∷ ys) × (p x ≡ true)) [
      | true ↦ λ e c. by_place e (filter_old p ys x) c
      | false ↦ λ e c. later (filter_old p ys x c)
    ]) refl a
  where
    later : Among x ys × (p x ≡ true) → Among x (y ∷ ys) × (p x ≡ true)
    later h = (inr h.0, h.1)

    by_place : p y ≡ true → (Among x (filter p ys) → Among x ys × (p x ≡ true)) → (x ≡ y) ⊎ Among x (filter p ys) → Among x (y ∷ ys) × (p x ≡ true)
    by_place e rest (inl same) = (inl same, ap p same ∙ e)
    by_place e rest (inr b) = later (rest b)

pub filter_keeps : {A : Type 0} (p : A → Bool) (xs : List A) (x : A) → Among x xs → p x ≡ true → Among x (filter p xs)
filter_keeps p [] x a t = absurd a
filter_keeps p (y ∷ ys) x a t =
    (elim (p y) as (λ b. p y ≡ b → Among x (cond b (y ∷ filter p ys) (filter p ys))) [
      | true ↦ λ e. by_place a (λ b. filter_keeps p ys x b t)
      | false ↦ λ e. gone a e (λ b. filter_keeps p ys x b t)
    ]) refl
  where
    by_place : (x ≡ y) ⊎ Among x ys → (Among x ys → Among x (filter p ys)) → (x ≡ y) ⊎ Among x (filter p ys)
    by_place (inl same) go = inl same
    by_place (inr b) go = inr (go b)

    gone : (x ≡ y) ⊎ Among x ys → p y ≡ false → (Among x ys → Among x (filter p ys)) → Among x (filter p ys)
    gone (inl same) e go = absurd (true_false (sym t ∙ (ap p same ∙ e)))
    gone (inr b) e go = go b

-- ---- two stages of one call ----

pub key_same : (v w : WaitingCall) → SameCall v w → waiting_key v ≡ waiting_key w
key_same v w h = ap (λ (p : ℕ). waiting_of p v.words) h.same_process ∙ ap (waiting_of w.process) h.same_words

pub keyed_same : (v w : WaitingCall) → SameCall v w → Keyed v → Keyed w
keyed_same v w h k = subst (KeyedAs w.process) h.same_words (subst (λ (p : ℕ). KeyedAs p v.words) h.same_process k)

pub matches_same : (s boot : ℕ) (x : Waiting) (v w : WaitingCall) → SameCall v w → Matches s boot x v → Matches s boot x w
matches_same s boot x v w h m = (m.0 ∙ h.same_process, m.1 ∙ ap (own_call s boot) h.same_number)

pub waiting_same : (s boot : ℕ) (now : Trace) (v w : WaitingCall) → SameCall v w → IsWaiting s boot now v → IsWaiting s boot now w
waiting_same s boot now v w h k = (k.0, (k.1.0, (k.1.1.0, matches_same s boot k.0 v w h k.1.1.1)))

-- ---- what is told of no call ----

record_free : (c : Config) (s boot m calls : ℕ) (r : Record) (now : Trace) (rows : List WaitingCall) → CallFreeRecord r → Waits c s boot now calls rows → Waits c s boot (record { line = m; what = r } ∷ now) calls rows
record_free c s boot m calls (says.Up site b) now rows n h = absurd n
record_free c s boot m calls (says.Stopped site why) now rows n h = absurd n
record_free c s boot m calls (says.Accept site process id words) now rows n h = absurd n
record_free c s boot m calls (says.Answer site process id r) now rows n h = absurd n
record_free c s boot m calls _ now rows n h = record { up = h.up; boot_is = h.boot_is; counted = h.counted; there = h.there; back = h.back; low = h.low; apart = h.apart; keyed = h.keyed }

pub told_free : (c : Config) (s boot m calls : ℕ) (x : Told) (now : Trace) (rows : List WaitingCall) → CallFree x → Waits c s boot now calls rows → Waits c s boot (with_told m x now) calls rows
told_free c s boot m calls (Shown r) now rows n h = record_free c s boot m calls r now rows n h
told_free c s boot m calls _ now rows n h = h

pub all_free : (c : Config) (s boot m calls : ℕ) (told : List Told) (now : Trace) (rows : List WaitingCall) → Every CallFree told → Waits c s boot now calls rows → Waits c s boot (after m told now) calls rows
all_free c s boot m calls [] now rows n h = h
all_free c s boot m calls (x ∷ xs) now rows n h = all_free c s boot m calls xs (with_told m x now) rows n.1 (told_free c s boot m calls x now rows n.0 h)

record_free_none : (s m : ℕ) (r : Record) (now : Trace) → CallFreeRecord r → NoneWaits s now → NoneWaits s (record { line = m; what = r } ∷ now)
record_free_none s m (says.Up site b) now n h = absurd n
record_free_none s m (says.Stopped site why) now n h = absurd n
record_free_none s m (says.Accept site process id words) now n h = absurd n
record_free_none s m (says.Answer site process id r) now n h = absurd n
record_free_none s m _ now n h = h

told_free_none : (s m : ℕ) (x : Told) (now : Trace) → CallFree x → NoneWaits s now → NoneWaits s (with_told m x now)
told_free_none s m (Shown r) now n h = record_free_none s m r now n h
told_free_none s m _ now n h = h

pub all_free_none : (s m : ℕ) (told : List Told) (now : Trace) → Every CallFree told → NoneWaits s now → NoneWaits s (after m told now)
all_free_none s m [] now n h = h
all_free_none s m (x ∷ xs) now n h = all_free_none s m xs (with_told m x now) n.1 (told_free_none s m x now n.0 h)

-- ---- what another site tells ----

-- an answered call waits no more
pub answered_old : (id : CallId) (now : Trace) (x : Waiting) → Among x (filter (λ (w : Waiting). not (same_call w.call id)) (waiting now)) → Among x (waiting now) × (same_call x.call id ≡ false)
answered_old id now x a = let k : Among x (waiting now) × (not (same_call x.call id) ≡ true) = filter_old (λ (w : Waiting). not (same_call w.call id)) (waiting now) x a in (k.0, not_true (same_call x.call id) k.1)

pub answered_keeps : (id : CallId) (now : Trace) (x : Waiting) → Among x (waiting now) → (x.call ≡ id → ⊥) → Among x (filter (λ (w : Waiting). not (same_call w.call id)) (waiting now))
answered_keeps id now x a ne = filter_keeps (λ (w : Waiting). not (same_call w.call id)) (waiting now) x a (ap not (call_differs x.call id ne))

other_call : (s t boot n : ℕ) (x : CallId) (id : CallId) → (s ≡ t → ⊥) → id.site ≡ s → x ≡ own_call t boot n → x ≡ id → ⊥
other_call s t boot n x id ne own is same = ne (sym own ∙ (ap (λ (c : CallId). c.site) (sym same) ∙ ap (λ (c : CallId). c.site) is))

record_other : (c : Config) (s t boot m calls : ℕ) (r : Record) (now : Trace) (rows : List WaitingCall) → (s ≡ t → ⊥) → OfSiteRecord s r → Waits c t boot now calls rows → Waits c t boot (record { line = m; what = r } ∷ now) calls rows
record_other c s t boot m calls (says.Up site b) now rows ne o h = absurd o
record_other c s t boot m calls (says.Stopped site why) now rows ne o h = absurd o
record_other c s t boot m calls (says.Accept site process id words) now rows ne o h =
    let test : (site == t) ≡ false = apart_test site t (λ e. ne (sym o ∙ e)) in
    record {
      up = h.up;
      boot_is = h.boot_is;
      counted = ap (λ (b : Bool). cond b (calls_accepted now t + 1) (calls_accepted now t)) test ∙ h.counted;
      there = λ x a e. by_place x a e;
      back = λ r a. (let k : IsWaiting t boot now r = h.back r a in (k.0, (inr k.1.0, k.1.1)));
      low = h.low;
      apart = h.apart;
      keyed = h.keyed;
    }
  where
    by_place : (x : Waiting) → Among x (waiting (record { line = m; what = says.Accept site process id words } ∷ now)) → x.site ≡ t → HasRow t boot x rows
    by_place x (inl e) f = absurd (ne (sym o ∙ (ap (λ (w : Waiting). w.site) (sym e) ∙ f)))
    by_place x (inr a) f = h.there x a f
record_other c s t boot m calls (says.Answer site process id r) now rows ne o h = record {
  up = h.up;
  boot_is = h.boot_is;
  counted = h.counted;
  there = λ x a e. h.there x (answered_old id now x a).0 e;
  back = λ r a. (let k : IsWaiting t boot now r = h.back r a in (k.0, (answered_keeps id now k.0 k.1.0 (other_call s t boot r.call k.0.call id ne o k.1.1.1.1), k.1.1)));
  low = h.low;
  apart = h.apart;
  keyed = h.keyed;
}
record_other c s t boot m calls _ now rows ne o h = record { up = h.up; boot_is = h.boot_is; counted = h.counted; there = h.there; back = h.back; low = h.low; apart = h.apart; keyed = h.keyed }

told_other : (c : Config) (s t boot m calls : ℕ) (x : Told) (now : Trace) (rows : List WaitingCall) → (s ≡ t → ⊥) → OfSite s x → Waits c t boot now calls rows → Waits c t boot (with_told m x now) calls rows
told_other c s t boot m calls (Shown r) now rows ne o h = record_other c s t boot m calls r now rows ne o h
told_other c s t boot m calls _ now rows ne o h = h

pub all_other : (c : Config) (s t boot m calls : ℕ) (told : List Told) (now : Trace) (rows : List WaitingCall) → (s ≡ t → ⊥) → Every (OfSite s) told → Waits c t boot now calls rows → Waits c t boot (after m told now) calls rows
all_other c s t boot m calls [] now rows ne o h = h
all_other c s t boot m calls (x ∷ xs) now rows ne o h = all_other c s t boot m calls xs (with_told m x now) rows ne o.1 (told_other c s t boot m calls x now rows ne o.0 h)

record_none : (s t m : ℕ) (r : Record) (now : Trace) → (s ≡ t → ⊥) → OfSiteRecord s r → NoneWaits t now → NoneWaits t (record { line = m; what = r } ∷ now)
record_none s t m (says.Up site b) now ne o h = absurd o
record_none s t m (says.Stopped site why) now ne o h = absurd o
record_none s t m (says.Accept site process id words) now ne o h = by_place
  where
    by_place : NoneWaits t (record { line = m; what = says.Accept site process id words } ∷ now)
    by_place x (inl e) f = ne (sym o ∙ (ap (λ (w : Waiting). w.site) (sym e) ∙ f))
    by_place x (inr a) f = h x a f
record_none s t m (says.Answer site process id r) now ne o h = λ x a e. h x (answered_old id now x a).0 e
record_none s t m _ now ne o h = h

told_none : (s t m : ℕ) (x : Told) (now : Trace) → (s ≡ t → ⊥) → OfSite s x → NoneWaits t now → NoneWaits t (with_told m x now)
told_none s t m (Shown r) now ne o h = record_none s t m r now ne o h
told_none s t m _ now ne o h = h

pub all_none : (s t m : ℕ) (told : List Told) (now : Trace) → (s ≡ t → ⊥) → Every (OfSite s) told → NoneWaits t now → NoneWaits t (after m told now)
all_none s t m [] now ne o h = h
all_none s t m (x ∷ xs) now ne o h = all_none s t m xs (with_told m x now) ne o.1 (told_none s t m x now ne o.0 h)

-- ---- stops and boots ----

stopped_old : (s : ℕ) (now : Trace) (x : Waiting) → Among x (filter (λ (w : Waiting). not (w.site == s)) (waiting now)) → Among x (waiting now) × ((x.site == s) ≡ false)
stopped_old s now x a = let k : Among x (waiting now) × (not (x.site == s) ≡ true) = filter_old (λ (w : Waiting). not (w.site == s)) (waiting now) x a in (k.0, not_true (x.site == s) k.1)

-- at a site that stops nothing waits
pub stop_none : (s m : ℕ) (why : StopCause) (now : Trace) → NoneWaits s (record { line = m; what = says.Stopped s why } ∷ now)
stop_none s m why now x a e = true_false (sym (equal_test x.site s e) ∙ (stopped_old s now x a).1)

pub stop_other : (c : Config) (s t boot m calls : ℕ) (why : StopCause) (now : Trace) (rows : List WaitingCall) → (s ≡ t → ⊥) → Waits c t boot now calls rows → Waits c t boot (record { line = m; what = says.Stopped s why } ∷ now) calls rows
stop_other c s t boot m calls why now rows ne h = record {
  up = ap (λ (b : Bool). not b && is_up c now t) (apart_test s t ne) ∙ h.up;
  boot_is = h.boot_is;
  counted = h.counted;
  there = λ x a e. h.there x (stopped_old s now x a).0 e;
  back = λ r a. (let k : IsWaiting t boot now r = h.back r a in (k.0, (filter_keeps (λ (w : Waiting). not (w.site == s)) (waiting now) k.0 k.1.0 (ap not (apart_test k.0.site s (λ e. ne (sym e ∙ k.1.1.0)))), k.1.1)));
  low = h.low;
  apart = h.apart;
  keyed = h.keyed;
}

pub stop_other_none : (s t m : ℕ) (why : StopCause) (now : Trace) → NoneWaits t now → NoneWaits t (record { line = m; what = says.Stopped s why } ∷ now)
stop_other_none s t m why now h x a e = h x (stopped_old s now x a).0 e

pub boot_waits : (c : Config) (s boot m : ℕ) (now : Trace) → NoneWaits s now → Waits c s boot (record { line = m; what = says.Up s boot } ∷ now) 0 []
boot_waits c s boot m now none = record {
  up = ap (λ (b : Bool). b || is_up c now s) (equal_test s s refl);
  boot_is = ap (λ (b : Bool). cond b boot (boot_of now s)) (equal_test s s refl);
  counted = ap (λ (b : Bool). cond b 0 (calls_accepted now s)) (equal_test s s refl);
  there = λ x a e. absurd (none x a e);
  back = λ r a. absurd a;
  low = λ r a. absurd a;
  apart = λ r q a. absurd a;
  keyed = λ r a. absurd a;
}

pub boot_other : (c : Config) (s t boot b m calls : ℕ) (now : Trace) (rows : List WaitingCall) → (s ≡ t → ⊥) → Waits c t boot now calls rows → Waits c t boot (record { line = m; what = says.Up s b } ∷ now) calls rows
boot_other c s t boot b m calls now rows ne h = record {
  up = ap (λ (x : Bool). x || is_up c now t) (apart_test s t ne) ∙ h.up;
  boot_is = ap (λ (x : Bool). cond x b (boot_of now t)) (apart_test s t ne) ∙ h.boot_is;
  counted = ap (λ (x : Bool). cond x 0 (calls_accepted now t)) (apart_test s t ne) ∙ h.counted;
  there = h.there;
  back = h.back;
  low = h.low;
  apart = h.apart;
  keyed = h.keyed;
}

pub boot_other_none : (s t b m : ℕ) (now : Trace) → NoneWaits t now → NoneWaits t (record { line = m; what = says.Up s b } ∷ now)
boot_other_none s t b m now h = h
