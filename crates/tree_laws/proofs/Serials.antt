-- A serial number is of one open: of two calls that ask opens in an epoch at a site under one serial number each is the other,
-- and what is asked still hasn't been granted or refused.
use Rattle.std.proofs.Common.{◌≡◌, ℕ, ◌+◌, ◌≤◌, Bool, true, false, cond, List, [], ◌∷◌, ◌++◌, Some, refl, sym, ◌∙◌, ap, subst, arith, inl, inr, ⊎_elim}
use Rattle.the_run.proofs.of_plain_facts.Tests.{true_false}
use Rattle.locus_ids.specs.declared.config.Config.{Config}
use Rattle.locus_ids.specs.declared.ids.CallId.{CallId}
use Rattle.locus_ids.specs.declared.ids.EpochId.{EpochId}
use Rattle.locus_ids.specs.declared.ids.FileId.{FileId}
use Rattle.locus_ids.specs.declared.ids.Mode.{Mode}
use Rattle.locus_ids.specs.declared.ids.Serial.{Serial}
use Rattle.trace_book.specs.Same.{same_call}
use Rattle.trace_book.specs.declared.record.Record.{Record}
use Rattle.trace_book.specs.declared.record.Record.TheVariants as says
use Rattle.call_rules.specs.declared.answer.Answer.{Answer}
use Rattle.call_rules.specs.declared.answer.Answer.TheVariants as answer
use Rattle.call_rules.specs.declared.want.Want.{Want}
use Rattle.call_rules.specs.declared.want.Want.TheVariants as want
use Rattle.the_run.specs.of_wire_messages.declared.body.Opening.{Opening}
use Rattle.the_run.specs.of_role_steps.Views.{Told, Shown, Takes, LooksAgain}
use Rattle.the_run.specs.Worlds.{Line}
use Rattle.lawful_trace.specs.of_tree_model.Calls.{call_named, accepted_as}
use Rattle.lawful_trace.specs.of_tree_model.Epochs.{boot_of}
use Rattle.lawful_trace.specs.of_tree_model.Tree.{kept_in}
use Rattle.lawful_trace.specs.Progress.{Answers, granted_answer}
use Rattle.lawful_trace.specs.TreeRows.{IsCallIn}
use Rattle.tree_laws.specs.Printed.{entries}
use Rattle.tree_laws.specs.Calls.{log, heard, Waits}
use Rattle.tree_laws.specs.Instances.{AsksOpen, IsOpening}
use Rattle.tree_laws.specs.Past.{WasNamed}
use Rattle.tree_laws.specs.Serials.{asked_now, is_open_want, opens_asked, serial_asked}
use Rattle.tree_laws.specs.Following.{MayTell, IsFollowed, OpensInTime}
use Rattle.tree_laws.proofs.Asking.{Turns, not_longer, waits_stays}
use Rattle.tree_laws.proofs.Counting.{Opens, IsNow, Turned, calls_counted, accept_turned, take_turned, asked_same, up_still}
use Rattle.tree_laws.proofs.Fresh.{IsNamed}
use Rattle.tree_laws.proofs.Names.{same_call_eq, same_call_own}
use Rattle.tree_laws.proofs.OneBoot.{one_boot}
use Rattle.tree_laws.proofs.Scripts.{in_stays}

abbrev With : ℕ → Told → List Line → List Line
With n x older = record { number = n; told = x } ∷ older

-- an opening is a want for an open
opening_opens : (c : Config) (w : Want) (f : FileId) (it : Opening) → IsOpening c w f it → is_open_want w ≡ true
opening_opens c (want.Open file m) f it o = refl
opening_opens c (want.OpenToMend file) f it o = refl
opening_opens c (want.Make group kind sites) f it o = refl
opening_opens c _ f it o = absurd o

pub asks_opens : (c : Config) (t : List Line) (e : EpochId) (d : CallId) (request serial : ℕ) (f : FileId) (it : Opening) → AsksOpen c t e d request serial f it → Opens c t d
asks_opens c t e d request serial f it k = ap is_open_want k.asks.asked ∙ opening_opens c k.wanted f it k.opening_is

pub in_named : (t : List Line) (e : EpochId) (d : CallId) → IsCallIn (entries t) e d → IsNamed (entries t) d
in_named t e d k = (k.accepted, k.named)

-- two calls of a site in an epoch that ask opens under one serial number are one
pub one_asker : (c : Config) (t : List Line) (e : EpochId) (d other : CallId) → IsFollowed c t → IsCallIn (entries t) e d → IsCallIn (entries t) e other → d.site ≡ other.site → Opens c t d → Opens c t other → serial_asked c t d ≡ serial_asked c t other → d ≡ other
one_asker c t e d other h a b site o p same = (calls_counted c t h).apart d other (in_named t e d a) (in_named t e other b) site (one_boot c t e d other h a b site) o p same

-- ---- what was named ----

-- the open of the epoch with this serial number was asked by a call of its site: it is counted, and whoever asks under it still
-- has its answer waiting
record NamedBy (c : Config) (t : List Line) (e : EpochId) (i : Serial) : Type 0 where
  caller : CallId
  inside : IsCallIn (entries t) e caller
  site_is : caller.site ≡ i.us
  bound : IsNow t caller → i.serial ≤ opens_asked c t i.us
  waits : (d : CallId) → IsCallIn (entries t) e d → d.site ≡ i.us → Opens c t d → serial_asked c t d ≡ i.serial → (a : Answer) × Waits c t d a

abbrev AllNamed : Config → List Line → Type 0
AllNamed c t = (e : EpochId) (i : Serial) → WasNamed t e i → NamedBy c t e i

-- the record names it: the call that asked it is answered
named_new : (c : Config) (older : List Line) (n : ℕ) (r : Record) (e : EpochId) (call : CallId) (request : ℕ) (i : Serial) (m : Mode) (f : FileId) (a : Answer) → IsFollowed c older → MayTell c older (Shown r) → IsCallIn (entries older) e call → OpensInTime c older e call request i m f →
    opens_asked c (With n (Shown r) older) i.us ≡ opens_asked c older i.us → ((d : CallId) → log (With n (Shown r) older) d ≡ log older d) → ((d : CallId) → serial_asked c (With n (Shown r) older) d ≡ serial_asked c older d) →
    ((d : CallId) → IsCallIn (entries (With n (Shown r) older)) e d → IsCallIn (entries older) e d) → (IsNow (With n (Shown r) older) call → IsNow older call) →
    heard c (With n (Shown r) older) call ≡ heard c older call ++ a ∷ [] → NamedBy c (With n (Shown r) older) e i
named_new c older n r e call request i m f a h may inside o count logs serials back now heard_is = record {
  caller = call;
  inside = in_stays c n (Shown r) older e call h may inside;
  site_is = sym o.user_is;
  bound = λ is_now. subst (λ (k : ℕ). i.serial ≤ k) (sym count) (bound (now is_now));
  waits = waits;
}
  where
    opens : Opens c older call
    opens = asks_opens c older e call request i.serial o.asked o.it o.asks

    bound : IsNow older call → i.serial ≤ opens_asked c older i.us
    bound is_now = subst (λ (k : ℕ). k ≤ opens_asked c older i.us) (sym o.asks.serial_is) (subst (λ (s : ℕ). serial_asked c older call ≤ opens_asked c older s) (sym o.user_is) ((calls_counted c older h).counted call (in_named older e call inside) opens is_now))

    waits : (d : CallId) → IsCallIn (entries (With n (Shown r) older)) e d → d.site ≡ i.us → Opens c (With n (Shown r) older) d → serial_asked c (With n (Shown r) older) d ≡ i.serial → (a : Answer) × Waits c (With n (Shown r) older) d a
    waits d k site asking same = (a, subst (λ (y : CallId). Waits c (With n (Shown r) older) y a) (sym is) (heard_is ∙ (ap (λ (xs : Answers). xs ++ a ∷ []) (o.asks.asks.nothing_waits ∙ sym (logs call)))))
      where
        was : IsCallIn (entries older) e d
        was = back d k

        is : d ≡ call
        is = one_asker c older e d call h was inside (site ∙ o.user_is) (ap is_open_want (sym (asked_same c older n (Shown r) d h may (in_named older e d was) (logs d))) ∙ asking) opens (sym (serials d) ∙ (same ∙ o.asks.serial_is))

-- ---- what was named before ----

-- a line at which no call begins to ask
named_still : (c : Config) (older : List Line) (n : ℕ) (x : Told) (e : EpochId) (i : Serial) → IsFollowed c older → MayTell c older x →
    ((d : CallId) → IsCallIn (entries (With n x older)) e d → IsCallIn (entries older) e d) → ((d : CallId) → IsCallIn (entries older) e d → asked_now c (With n x older) d ≡ asked_now c older d) →
    ((d : CallId) → serial_asked c (With n x older) d ≡ serial_asked c older d) → ((d : CallId) → IsCallIn (entries older) e d → d.site ≡ i.us → IsNow (With n x older) d → IsNow older d × (opens_asked c (With n x older) i.us ≡ opens_asked c older i.us)) →
    ((d : CallId) → Opens c older d → Turns x d → ⊥) → NamedBy c older e i → NamedBy c (With n x older) e i
named_still c older n x e i h may back asked serials count away k = record {
  caller = k.caller;
  inside = in_stays c n x older e k.caller h may k.inside;
  site_is = k.site_is;
  bound = λ now. (let b : IsNow older k.caller × (opens_asked c (With n x older) i.us ≡ opens_asked c older i.us) = count k.caller k.inside k.site_is now in subst (λ (m : ℕ). i.serial ≤ m) (sym b.1) (k.bound b.0));
  waits = λ d inside site asking same. still d (back d inside) (opened d (back d inside) asking) (k.waits d (back d inside) site (opened d (back d inside) asking) (sym (serials d) ∙ same));
}
  where
    opened : (d : CallId) → IsCallIn (entries older) e d → Opens c (With n x older) d → Opens c older d
    opened d inside asking = ap is_open_want (sym (asked d inside)) ∙ asking

    still : (d : CallId) → IsCallIn (entries older) e d → Opens c older d → (a : Answer) × Waits c older d a → (a : Answer) × Waits c (With n x older) d a
    still d inside asking w = ⊎_elim (λ (y : Waits c (With n x older) d w.0). (w.0, y)) (λ (t : Turns x d). absurd (away d asking t)) (waits_stays c n x older d w.0 may w.1)

-- a call begins to ask: under a number above all that were named
named_turn : (c : Config) (older : List Line) (n : ℕ) (x : Told) (it : CallId) (e : EpochId) (i : Serial) → IsFollowed c older → IsFollowed c (With n x older) → MayTell c older x → Turned c older n x it → ((d : CallId) → IsCallIn (entries (With n x older)) e d → same_call it d ≡ false → IsCallIn (entries older) e d) →
    ((d : CallId) → Turns x d → d ≡ it) → NamedBy c older e i → NamedBy c (With n x older) e i
named_turn c older n x it e i h later may t back turns k = record {
  caller = k.caller;
  inside = in_stays c n x older e k.caller h may k.inside;
  site_is = k.site_is;
  bound = λ now. (let le : i.serial ≤ opens_asked c older i.us = k.bound (now ∙ t.boots k.caller.site) in let more : opens_asked c older i.us ≤ opens_asked c (With n x older) i.us = t.count_more i.us in omega (arith, le, more));
  waits = λ d inside site asking same. waits d inside site asking same (same_call it d) refl;
}
  where
    -- the new number is none that was named
    above : (d : CallId) → IsCallIn (entries (With n x older)) e d → it ≡ d → d.site ≡ i.us → Opens c (With n x older) d → serial_asked c (With n x older) d ≡ i.serial → ⊥
    above d inside is site asking same =
        (let own : serial_asked c (With n x older) d ≡ opens_asked c older d.site + 1 = subst (λ (y : CallId). serial_asked c (With n x older) y ≡ opens_asked c older y.site + 1) is (t.serial_own ∙ t.count_open (subst (λ (y : CallId). Opens c (With n x older) y) (sym is) asking)) in
        let boot : k.caller.boot ≡ d.boot = one_boot c (With n x older) e k.caller d later (in_stays c n x older e k.caller h may k.inside) inside (k.site_is ∙ sym site) in
        let le : i.serial ≤ opens_asked c older i.us = k.bound (boot ∙ (ap (λ (y : CallId). y.boot) (sym is) ∙ (t.now ∙ (ap (λ (y : CallId). boot_of (entries older) y.site) is ∙ ap (boot_of (entries older)) (site ∙ sym k.site_is))))) in
        let at : opens_asked c older d.site ≡ opens_asked c older i.us = ap (opens_asked c older) site in omega (arith, own, le, at, same))

    still : (d : CallId) → same_call it d ≡ false → (a : Answer) × Waits c older d a → (a : Answer) × Waits c (With n x older) d a
    still d e w = ⊎_elim (λ (y : Waits c (With n x older) d w.0). (w.0, y)) (λ (y : Turns x d). absurd (true_false (sym (subst (λ (z : CallId). same_call it z ≡ true) (sym (turns d y)) (same_call_own it)) ∙ e))) (waits_stays c n x older d w.0 may w.1)

    waits : (d : CallId) → IsCallIn (entries (With n x older)) e d → d.site ≡ i.us → Opens c (With n x older) d → serial_asked c (With n x older) d ≡ i.serial → (b : Bool) → same_call it d ≡ b → (a : Answer) × Waits c (With n x older) d a
    waits d inside site asking same true f = absurd (above d inside (same_call_eq it d f) site asking same)
    waits d inside site asking same false f = (let was : IsCallIn (entries older) e d = back d inside f in let o : IsNamed (entries older) d × (asked_now c (With n x older) d ≡ asked_now c older d) = t.other d (inside.accepted, inside.named) f in
        still d f (k.waits d was site (ap is_open_want (sym o.1) ∙ asking) (sym (t.serial_other d f) ∙ same)))

-- ---- line by line ----

heard_own : (call : CallId) (new old : Answers) → cond (same_call call call) new old ≡ new
heard_own call new old = ap (λ (b : Bool). cond b new old) (same_call_own call)

named_record : (c : Config) (older : List Line) (n : ℕ) (r : Record) → IsFollowed c older → IsFollowed c (With n (Shown r) older) → MayTell c older (Shown r) → AllNamed c older → AllNamed c (With n (Shown r) older)
named_record c older n (says.Grant at call request inst m f stamp ss) h later may k e i (inl named) =
    subst (λ (y : EpochId). NamedBy c (With n (Shown (says.Grant at call request inst m f stamp ss)) older) y i) named.epoch_is
    (subst (λ (j : Serial). NamedBy c (With n (Shown (says.Grant at call request inst m f stamp ss)) older) at j) named.serial_is
    (named_new c older n (says.Grant at call request inst m f stamp ss) at call request inst m f (granted_answer m inst f stamp (kept_in c (entries older) at f)) h may may.row.opens.step may.in_time.opens refl (λ d. refl) (λ d. refl) (λ d inside. record { accepted = inside.accepted; named = inside.named; made_in = inside.made_in }) (λ now. now) (heard_own call (heard c older call ++ granted_answer m inst f stamp (kept_in c (entries older) at f) ∷ []) (heard c older call))))
named_record c older n (says.Refuse at call request inst m f why) h later may k e i (inl named) =
    subst (λ (y : EpochId). NamedBy c (With n (Shown (says.Refuse at call request inst m f why)) older) y i) named.epoch_is
    (subst (λ (j : Serial). NamedBy c (With n (Shown (says.Refuse at call request inst m f why)) older) at j) named.serial_is
    (named_new c older n (says.Refuse at call request inst m f why) at call request inst m f (answer.Refused why) h may may.row.opens.step may.in_time.opens refl (λ d. refl) (λ d. refl) (λ d inside. record { accepted = inside.accepted; named = inside.named; made_in = inside.made_in }) (λ now. now) (heard_own call (heard c older call ++ answer.Refused why ∷ []) (heard c older call))))
named_record c older n (says.Accept s process new words) h later may k e i (inr named) = named_turn c older n (Shown (says.Accept s process new words)) new e i h later may (accept_turned c older n s process new words h may)
    (λ d inside f. record { accepted = inside.accepted; named = sym (ap (λ (b : Bool). cond b (Some (accepted_as (entries older) s process new words)) (call_named (entries older) d)) f) ∙ inside.named; made_in = inside.made_in }) (λ d t. absurd t) (k e i named)
named_record c older n (says.Up s boot) h later may k e i (inr named) = named_still c older n (Shown (says.Up s boot)) e i h may (λ d inside. record { accepted = inside.accepted; named = inside.named; made_in = inside.made_in })
    (λ d inside. asked_same c older n (Shown (says.Up s boot)) d h may (in_named older e d inside) refl) (λ d. refl)
    (λ d inside site now. (let b : IsNow older d × (opens_asked c (With n (Shown (says.Up s boot)) older) d.site ≡ opens_asked c older d.site) = (up_still c older n s boot h may).count d (in_named older e d inside) now in (b.0, subst (λ (m : ℕ). opens_asked c (With n (Shown (says.Up s boot)) older) m ≡ opens_asked c older m) site b.1)))
    (λ d asking t. absurd t) (k e i named)
named_record c older n r h later may k e i (inr named) = named_still c older n (Shown r) e i h may (λ d inside. record { accepted = inside.accepted; named = inside.named; made_in = inside.made_in }) (λ d inside. asked_same c older n (Shown r) d h may (in_named older e d inside) refl) (λ d. refl) (λ d inside site now. (now, refl)) (λ d asking t. absurd t) (k e i named)
named_record c older n _ h later may k e i (inl named) = absurd named

-- a call that asks its look again asks no open
again_no_open : (c : Config) (older : List Line) (s : ℕ) (call : CallId) (request times : ℕ) (d : CallId) → MayTell c older (LooksAgain s call request times) → Opens c older d → call ≡ d → ⊥
again_no_open c older s call request times d may asking same = true_false (sym asking ∙ (ap (λ (y : CallId). is_open_want (asked_now c older y)) (sym same) ∙ ap is_open_want may.looks))

named_told : (c : Config) (older : List Line) (n : ℕ) (x : Told) → IsFollowed c older → IsFollowed c (With n x older) → MayTell c older x → AllNamed c older → AllNamed c (With n x older)
named_told c older n (Shown r) h later may k e i named = named_record c older n r h later may k e i named
named_told c older n (Takes s it request times a) h later may k e i (inr named) = named_turn c older n (Takes s it request times a) it e i h later may (take_turned c older n s it request times a h may) (λ d inside f. inside) (λ d t. sym t) (k e i named)
named_told c older n (LooksAgain s it request times) h later may k e i (inr named) = named_still c older n (LooksAgain s it request times) e i h may (λ d inside. inside) (λ d inside. asked_same c older n (LooksAgain s it request times) d h may (in_named older e d inside) refl) (λ d. refl) (λ d inside site now. (now, refl)) (λ d asking t. again_no_open c older s it request times d may asking t) (k e i named)
named_told c older n x h later may k e i (inr named) = named_still c older n x e i h may (λ d inside. inside) (λ d inside. asked_same c older n x d h may (in_named older e d inside) refl) (λ d. refl) (λ d inside site now. (now, refl)) (λ d asking t. absurd t) (k e i named)
named_told c older n _ h later may k e i (inl named) = absurd named

all_named : (c : Config) (trace : List Line) → IsFollowed c trace → AllNamed c trace
all_named c [] h e i named = absurd named
all_named c (x ∷ older) h e i named = named_told c older x.number x.told h.1 h h.0 (all_named c older h.1) e i named

-- what is asked still wasn't granted or refused
pub unnamed : (c : Config) (trace : List Line) (e : EpochId) (d : CallId) (request : ℕ) (i : Serial) (f : FileId) (it : Opening) → IsFollowed c trace → AsksOpen c trace e d request i.serial f it → i.us ≡ d.site → WasNamed trace e i → ⊥
unnamed c trace e d request i f it h k site named = over ((all_named c trace h e i named).waits d k.inside (sym site) (asks_opens c trace e d request i.serial f it k) (sym k.serial_is))
  where
    over : (a : Answer) × Waits c trace d a → ⊥
    over w = not_longer (heard c trace d) (log trace d) w.0 k.asks.nothing_waits w.1

-- two opens that are asked at one site in an epoch under one serial number are of one call
pub one_open : (c : Config) (trace : List Line) (e : EpochId) (d other : CallId) (request number serial : ℕ) (f g : FileId) (it how : Opening) → IsFollowed c trace → AsksOpen c trace e d request serial f it → AsksOpen c trace e other number serial g how → d.site ≡ other.site → d ≡ other
one_open c trace e d other request number serial f g it how h a b site = one_asker c trace e d other h a.inside b.inside site (asks_opens c trace e d request serial f it a) (asks_opens c trace e other number serial g how b) (sym a.serial_is ∙ b.serial_is)
