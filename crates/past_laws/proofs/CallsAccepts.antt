-- What stands of the open instances when a call is accepted.
use Rattle.std.proofs.Common.{◌≡◌, ℕ, suc, ◌+◌, ◌≤◌, ◌==◌, Bool, true, false, not, cond, ◌&&◌, List, [], ◌∷◌, length, filter, Option, Some, None, refl, sym, ◌∙◌, ap, subst, arith, ◌⊎◌, inl, inr}
use Rattle.std.specs.List.{AllByRecursion}
use Rattle.locus_ids.specs.declared.config.Config.{Config}
use Rattle.locus_ids.specs.declared.ids.CallId.{CallId}
use Rattle.locus_ids.specs.declared.ids.EpochId.{EpochId}
use Rattle.trace_book.specs.Same.{same_call}
use Rattle.trace_book.specs.declared.call.Call.{Call}
use Rattle.trace_book.specs.declared.descriptor.Descriptor.{Descriptor}
use Rattle.trace_book.specs.declared.record.Record.TheVariants as says
use Rattle.tree_model.specs.Epochs.{epoch_of, is_in}
use Rattle.tree_model.specs.Folds.{Trace}
use Rattle.promises.specs.of_lawful_trace.Lawful.{MayCome}
use Rattle.promises.specs.of_lawful_trace.Tables.{begins_now, descriptor, uses_by, uses_of, use_number, close_of, is_call}
use Rattle.promises.specs.Past.{Past, Epoch, Instance, CallSoFar, is_on, is_close, is_named, site_at}
use Rattle.promises.specs.After.{change, told_by, uses}
use Rattle.past_laws.specs.Agreement.{Agrees}
use Rattle.past_laws.specs.Standing.{CallStands, HasTurn, InstanceStands, EpochStands, is_use}
use Rattle.past_laws.proofs.Names.{false_true, call_turned, epoch_test}
use Rattle.past_laws.proofs.CallsLists.{each_both, each_mapped, many_changed}
use Rattle.past_laws.proofs.CallsGranted.{With}
use Rattle.past_laws.proofs.CallsUsing.{uses_from, uses_is}
use Rattle.past_laws.proofs.CallsUsers.{numbered}
use Rattle.past_laws.proofs.CallsDescribed.{IsOpenedBy, described}
use Rattle.past_laws.proofs.CallsFields.{accepted_call}
use Rattle.past_laws.proofs.CallsTurns.{turns_in, Accepts, on_same, new_apart, turn_new, last_free}

-- an accept opens no descriptor
accept_opens : (before : Trace) (s process : ℕ) (new : CallId) (words : Call) (t q fd : ℕ) (d : Descriptor) → IsOpenedBy before (says.Accept s process new words) t q fd d → ⊥
accept_opens before s process new words t q fd d o = cc (o.opens)

-- an older call keeps its turn
turn_old : (c : Config) (before : Trace) (p : Past) (s process : ℕ) (new : CallId) (words : Call) (n : ℕ) → Accepts c before p s process new words → (e : EpochId) (x : Instance) (k : CallSoFar) → CallStands before k → HasTurn before e x k → HasTurn (With n (says.Accept s process new words) before) e x k
turn_old c before p s process new words n a e x k st h m = over (not (is_close words) && uses_by (begins_now before s process new words) e x.grant.inst)
  where
    apart : same_call new k.id ≡ false
    apart = call_turned new k.id ∙ new_apart c before p s process new words a k.id st.low

    last : (b : Bool) → (m == suc (length (uses_of before e x.grant.inst))) ≡ b → is_call (use_number (uses_of before e x.grant.inst) m) k.id ≡ is_call (cond b (Some new) (use_number (uses_of before e x.grant.inst) m)) k.id
    last true t = last_free (uses_of before e x.grant.inst) m k.id t ∙ sym apart
    last false t = refl

    over : (b : Bool) → is_use e x m k ≡ is_call (use_number (cond b (new ∷ uses_of before e x.grant.inst) (uses_of before e x.grant.inst)) m) k.id
    over true = h m ∙ last (m == suc (length (uses_of before e x.grant.inst))) refl
    over false = h m

-- what is the first use stays it
first_stays : (xs : List CallId) (new d : CallId) (b : Bool) → is_call (use_number xs 1) d ≡ true → is_call (use_number (cond b (new ∷ xs) xs) 1) d ≡ true
first_stays xs new d false h = h
first_stays xs new d true h = at (1 == suc (length xs)) refl
  where
    at : (b : Bool) → (1 == suc (length xs)) ≡ b → is_call (cond b (Some new) (use_number xs 1)) d ≡ true
    at true t = false_true (sym (last_free xs 1 d t) ∙ h)
    at false t = h

-- whom the call uses a descriptor names
used_named : {A : Type 0} (c : Config) (before : Trace) (p : Past) (s process : ℕ) (id : CallId) (words : Call) (e : EpochId) (x : Instance) → InstanceStands before p.calls e x → x.named ≡ false → uses_by (begins_now before s process id words) e x.grant.inst ≡ true → A
used_named c before p s process id words e x st h q = (let f = uses_from (descriptor before s process) (epoch_of before s) id words e x.grant.inst (uses_is (begins_now before s process id words) e x.grant.inst q) in
    absurd (st.undescribed h s process f.fd f.stands f.found f.epoch_is f.serial_is))

-- what a call makes of an instance
abbrev once_used : CallSoFar → EpochId → Instance → Instance
once_used k e x = cond (uses k.begins k.words e x) (record x { uses = x.uses + 1 }) x

accept_stands : (c : Config) (before : Trace) (p : Past) (s process : ℕ) (new : CallId) (words : Call) (n : ℕ) → Accepts c before p s process new words → (e : EpochId) (x : Instance)
    → (uses (accepted_call p s process new words).begins words e x ≡ true → (accepted_call p s process new words).turn ≡ x.uses + 1) → InstanceStands before p.calls e x
    → (often : ℕ) → often ≡ length (uses_of (With n (says.Accept s process new words) before) e x.grant.inst)
    → InstanceStands (With n (says.Accept s process new words) before) (accepted_call p s process new words ∷ p.calls) e (record x { uses = often })
accept_stands c before p s process new words n a e x turn st often now = record {
  granted = st.granted;
  uses = now;
  first = λ h. first_stays (uses_of before e x.grant.inst) new x.grant.call (not (is_close words) && uses_by (begins_now before s process new words) e x.grant.inst) (st.first h);
  named = st.named;
  unnamed = λ h. (let k = st.unnamed h in record { unused = unused h (not (is_close words)) (uses_by (begins_now before s process new words) e x.grant.inst) refl k.unused; unclosed = unclosed h (is_close words) (uses_by (begins_now before s process new words) e x.grant.inst) refl k.unclosed });
  undescribed = λ h t q fd d stands is_e is_i. undescribed h t q fd d is_e is_i (described n (says.Accept s process new words) before t q fd d stands);
  turns = (turn_new c before p s process new words n a e x st turn, each_both (CallStands before) (HasTurn before e x) (HasTurn (With n (says.Accept s process new words) before) e x) (λ k. turn_old c before p s process new words n a e x k) p.calls a.agree.calls.stand st.turns);
}
  where
    unused : x.named ≡ false → (u v : Bool) → uses_by (begins_now before s process new words) e x.grant.inst ≡ v → uses_of before e x.grant.inst ≡ [] → cond (u && v) (new ∷ uses_of before e x.grant.inst) (uses_of before e x.grant.inst) ≡ []
    unused h true true q k = used_named c before p s process new words e x st h q
    unused h true false q k = k
    unused h false v q k = k

    unclosed : x.named ≡ false → (u v : Bool) → uses_by (begins_now before s process new words) e x.grant.inst ≡ v → close_of before e x.grant.inst ≡ None → cond (u && v) (Some new) (close_of before e x.grant.inst) ≡ None
    unclosed h true true q k = used_named c before p s process new words e x st h q
    unclosed h true false q k = k
    unclosed h false v q k = k

    undescribed : x.named ≡ false → (t q fd : ℕ) (d : Descriptor) → d.epoch ≡ e → d.inst ≡ x.grant.inst → (descriptor before t q fd ≡ Some d) ⊎ IsOpenedBy before (says.Accept s process new words) t q fd d → ⊥
    undescribed h t q fd d is_e is_i (inl k) = st.undescribed h t q fd d k is_e is_i
    undescribed h t q fd d is_e is_i (inr o) = accept_opens before s process new words t q fd d o

-- how often it is used by both
used_more : (c : Config) (before : Trace) (p : Past) (s process : ℕ) (new : CallId) (words : Call) (n : ℕ) → Accepts c before p s process new words → (e : EpochId) (x : Instance) → InstanceStands before p.calls e x → (b : Bool) → uses (accepted_call p s process new words).begins words e x ≡ b
    → cond b (x.uses + 1) x.uses ≡ length (uses_of (With n (says.Accept s process new words) before) e x.grant.inst)
used_more c before p s process new words n a e x st b h = over b h (is_close words) (uses_by (begins_now before s process new words) e x.grant.inst) refl refl
  where
    add : x.uses + 1 ≡ suc (length (uses_of before e x.grant.inst))
    add = (let k : x.uses ≡ length (uses_of before e x.grant.inst) = st.uses in omega (arith, k))

    as_by : (u v : Bool) → is_close words ≡ u → uses_by (begins_now before s process new words) e x.grant.inst ≡ v → uses (accepted_call p s process new words).begins words e x ≡ v && not u
    as_by u v g q = ap (λ (z : Bool). z && not (is_close words)) (on_same c before p s process new words a e x.grant.inst ∙ q) ∙ ap (λ (z : Bool). v && not z) g

    over : (b : Bool) → uses (accepted_call p s process new words).begins words e x ≡ b → (u v : Bool) → is_close words ≡ u → uses_by (begins_now before s process new words) e x.grant.inst ≡ v
        → cond b (x.uses + 1) x.uses ≡ length (cond (not u && v) (new ∷ uses_of before e x.grant.inst) (uses_of before e x.grant.inst))
    over true h false true g q = add
    over false h false true g q = false_true (sym h ∙ as_by false true g q)
    over true h false false g q = false_true (sym (as_by false false g q) ∙ h)
    over false h false false g q = st.uses
    over true h true true g q = false_true (sym (as_by true true g q) ∙ h)
    over false h true true g q = st.uses
    over true h true false g q = false_true (sym (as_by true false g q) ∙ h)
    over false h true false g q = st.uses

-- an epoch that the call's site is in, or another
epoch_accepts : (c : Config) (before : Trace) (p : Past) (s process : ℕ) (new : CallId) (words : Call) (n : ℕ) → Accepts c before p s process new words → (t : Epoch)
    → AllByRecursion (λ (x : Instance). uses (accepted_call p s process new words).begins words t.id x ≡ true → (accepted_call p s process new words).turn ≡ x.uses + 1) t.opened → EpochStands before p.calls t → (b : Bool) → is_in (site_at p s).epoch t.id ≡ b
    → EpochStands (With n (says.Accept s process new words) before) (accepted_call p s process new words ∷ p.calls) (cond b (record t { opened = change (uses (accepted_call p s process new words).begins words t.id) (λ (x : Instance). record x { uses = x.uses + 1 }) t.opened }) t)
epoch_accepts c before p s process new words n a t turns st true inside = record {
  instances = each_mapped (λ (x : Instance). InstanceStands before p.calls t.id x × (uses (accepted_call p s process new words).begins words t.id x ≡ true → (accepted_call p s process new words).turn ≡ x.uses + 1))
      (InstanceStands (With n (says.Accept s process new words) before) (accepted_call p s process new words ∷ p.calls) t.id) (once_used (accepted_call p s process new words) t.id) (λ x k. one x k.0 k.1) t.opened
      (each_both (InstanceStands before p.calls t.id) (λ (x : Instance). uses (accepted_call p s process new words).begins words t.id x ≡ true → (accepted_call p s process new words).turn ≡ x.uses + 1) _ (λ x k l. (k, l)) t.opened st.instances turns);
  single = λ i. (let same : length (filter (is_named i) (change (uses (accepted_call p s process new words).begins words t.id) (λ (x : Instance). record x { uses = x.uses + 1 }) t.opened)) ≡ length (filter (is_named i) t.opened) = many_changed (is_named i) (uses (accepted_call p s process new words).begins words t.id) (λ (x : Instance). record x { uses = x.uses + 1 }) (λ x. refl) t.opened in
      let few : length (filter (is_named i) t.opened) ≤ 1 = st.single i in subst (λ (m : ℕ). m ≤ 1) (sym same) few);
}
  where
    one : (x : Instance) → InstanceStands before p.calls t.id x → (uses (accepted_call p s process new words).begins words t.id x ≡ true → (accepted_call p s process new words).turn ≡ x.uses + 1)
        → InstanceStands (With n (says.Accept s process new words) before) (accepted_call p s process new words ∷ p.calls) t.id (once_used (accepted_call p s process new words) t.id x)
    one x k turn = over (uses (accepted_call p s process new words).begins words t.id x) refl
      where
        over : (b : Bool) → uses (accepted_call p s process new words).begins words t.id x ≡ b → InstanceStands (With n (says.Accept s process new words) before) (accepted_call p s process new words ∷ p.calls) t.id (cond b (record x { uses = x.uses + 1 }) x)
        over true h = accept_stands c before p s process new words n a t.id x turn k (x.uses + 1) (used_more c before p s process new words n a t.id x k true h)
        over false h = accept_stands c before p s process new words n a t.id x turn k x.uses (used_more c before p s process new words n a t.id x k false h)
epoch_accepts c before p s process new words n a t turns st false outside = record {
  instances = each_both (InstanceStands before p.calls t.id) (λ (x : Instance). uses (accepted_call p s process new words).begins words t.id x ≡ true → (accepted_call p s process new words).turn ≡ x.uses + 1)
      (InstanceStands (With n (says.Accept s process new words) before) (accepted_call p s process new words ∷ p.calls) t.id) (λ x k turn. accept_stands c before p s process new words n a t.id x turn k x.uses (used_more c before p s process new words n a t.id x k false (not_used x))) t.opened st.instances turns;
  single = st.single;
}
  where
    -- a call that uses an instance is of its epoch
    away : (x : Instance) → uses_by (begins_now before s process new words) t.id x.grant.inst ≡ true → ⊥
    away x q = (let f = uses_from (descriptor before s process) (epoch_of before s) new words t.id x.grant.inst (uses_is (begins_now before s process new words) t.id x.grant.inst q) in
        false_true (sym outside ∙ (ap (λ (o : Option EpochId). is_in o t.id) (a.agree.sites.epoch s ∙ f.inside) ∙ epoch_test t.id t.id refl)))

    not_used : (x : Instance) → uses (accepted_call p s process new words).begins words t.id x ≡ false
    not_used x = over (is_on (accepted_call p s process new words).begins t.id x.grant.inst) refl
      where
        over : (b : Bool) → is_on (accepted_call p s process new words).begins t.id x.grant.inst ≡ b → b && not (is_close words) ≡ false
        over true h = absurd (away x (sym (on_same c before p s process new words a t.id x.grant.inst) ∙ h))
        over false h = refl

pub accepts_stand : (c : Config) (n s process : ℕ) (new : CallId) (words : Call) (before : Trace) (p : Past) → MayCome c before (says.Accept s process new words) → Agrees c before p
    → AllByRecursion (EpochStands (With n (says.Accept s process new words) before) (told_by c (says.Accept s process new words) p).calls) (told_by c (says.Accept s process new words) p).epochs
accepts_stand c n s process new words before p may a = each_mapped (λ (t : Epoch). EpochStands before p.calls t × AllByRecursion (λ (x : Instance). uses (accepted_call p s process new words).begins words t.id x ≡ true → (accepted_call p s process new words).turn ≡ x.uses + 1) t.opened)
    (EpochStands (With n (says.Accept s process new words) before) (accepted_call p s process new words ∷ p.calls)) _ (λ t k. epoch_accepts c before p s process new words n it t k.1 k.0 (is_in (site_at p s).epoch t.id) refl) p.epochs
    (each_both (EpochStands before p.calls) (λ (t : Epoch). AllByRecursion (λ (x : Instance). uses (accepted_call p s process new words).begins words t.id x ≡ true → (accepted_call p s process new words).turn ≡ x.uses + 1) t.opened) _ (λ t k l. (k, l)) p.epochs a.calls.instances
    (turns_in p (accepted_call p s process new words).begins words before p.calls a.epochs.once a.calls.instances))
  where
    it : Accepts c before p s process new words
    it = record { is_next = numbered c before s process new words may; agree = a }
