-- While a call asks an open, nothing is asked of the instance that it is to be.
use Rattle.std.proofs.Common.{◌≡◌, ℕ, ◌+◌, ◌==◌, Bool, true, false, cond, ◌&&◌, List, [], ◌∷◌, Some, refl, sym, ◌∙◌, ap, subst, ◌⊎◌, inl, inr}
use Rattle.role_steps.proofs.of_plain_facts.Options.{some_same}
use Rattle.role_steps.proofs.of_plain_facts.Tests.{true_false}
use Rattle.locus_ids.specs.declared.config.Config.{Config}
use Rattle.locus_ids.specs.declared.ids.CallId.{CallId}
use Rattle.locus_ids.specs.declared.ids.EpochId.{EpochId}
use Rattle.locus_ids.specs.declared.ids.FileId.{FileId}
use Rattle.locus_ids.specs.declared.ids.Serial.{Serial}
use Rattle.trace_book.specs.Same.{same_call}
use Rattle.trace_book.specs.declared.descriptor.Beginning.TheVariants as begins
use Rattle.trace_book.specs.declared.operation.Op.{Op}
use Rattle.trace_book.specs.declared.record.Record.TheVariants as says
use Rattle.call_rules.specs.declared.want.Want.{Want}
use Rattle.call_rules.specs.declared.want.Want.TheVariants as want
use Rattle.wire_messages.specs.declared.body.Opening.{Opening}
use Rattle.wire_messages.specs.declared.body.Opening.TheVariants as how
use Rattle.role_steps.specs.Requests.{made_for, opening_of}
use Rattle.role_steps.specs.Views.{Told, Shown, Takes}
use Rattle.the_run.specs.Worlds.{Line}
use Rattle.tree_model.specs.Calls.{granted_to}
use Rattle.tree_model.specs.Epochs.{boot_of, epoch_of}
use Rattle.lawful_trace.specs.Tables.{begun, has_named}
use Rattle.lawful_trace.specs.TreeRows.{IsCallIn}
use Rattle.tree_laws.specs.Printed.{entries, onto_entries}
use Rattle.tree_laws.specs.Calls.{heard, is_request, log, request_number}
use Rattle.tree_laws.specs.Following.{IsFollowed, MayTell}
use Rattle.tree_laws.specs.Instances.{IsOpening}
use Rattle.tree_laws.specs.Past.{WasNamed}
use Rattle.tree_laws.specs.Serials.{asked_now, is_op_on, is_open_want, ops_asked, serial_asked}
use Rattle.tree_laws.proofs.Answered.{asker_unnamed}
use Rattle.tree_laws.proofs.Awaiting.{all_have, held_named, IsHeldBy}
use Rattle.tree_laws.proofs.Counting.{asked_same, IsNow, Opens}
use Rattle.tree_laws.proofs.Descriptors.{IsUser}
use Rattle.tree_laws.proofs.Fresh.{IsNamed}
use Rattle.tree_laws.proofs.Names.{same_call_eq}
use Rattle.tree_laws.proofs.OneBoot.{boot_where_inside, one_boot}
use Rattle.tree_laws.proofs.Owners.{granted_named, granted_same}
use Rattle.tree_laws.proofs.Scripts.{in_stays}
use Rattle.tree_laws.proofs.Serials.{unnamed}
use Rattle.tree_laws.proofs.Orders.ProcessBegun.{comes_from}
use Rattle.tree_laws.proofs.Orders.ProcessGranting.{GrantIs, granted_is, held_us}
use Rattle.tree_laws.proofs.Orders.ProcessHad.{begun_user}
use Rattle.tree_laws.proofs.Orders.ProcessOnce.{unnamed_in_boot}
use Rattle.tree_laws.proofs.Orders.ProcessOperations.{accept_turn, IsTurn, op_is, take_turn}
use Rattle.store_laws.proofs.AnswerAskers.{With, op_had}

-- ---- an open that is asked ----

-- an open of a file that is asked, in one of its modes
record IsSomeOpen (c : Config) (w : Want) : Type 0 where
  file : FileId
  it : Opening
  opening_is : IsOpening c w file it

some_open : (c : Config) (w : Want) → is_open_want w ≡ true → IsSomeOpen c w
some_open c (want.Open f m) t = record { file = f; it = opening_of m; opening_is = (refl, refl) }
some_open c (want.OpenToMend f) t = record { file = f; it = how.Mend; opening_is = (refl, refl) }
some_open c (want.Make group kind sites) t = record { file = record { group = group; ino = 0 }; it = how.Make (made_for c group sites) kind; opening_is = (refl, refl, refl) }
some_open c (want.Look f w) t = absurd (true_false (sym t))
some_open c (want.Do i o) t = absurd (true_false (sym t))
some_open c (want.Close i) t = absurd (true_false (sym t))
some_open c (want.Give r) t = absurd (true_false (sym t))
some_open c want.Never t = absurd (true_false (sym t))

-- it is a request
pub opens_request : (w : Want) → is_open_want w ≡ true → is_request w ≡ true
opens_request (want.Open f m) t = refl
opens_request (want.OpenToMend f) t = refl
opens_request (want.Make group kind sites) t = refl
opens_request (want.Look f w) t = absurd (true_false (sym t))
opens_request (want.Do i o) t = absurd (true_false (sym t))
opens_request (want.Close i) t = absurd (true_false (sym t))
opens_request (want.Give r) t = absurd (true_false (sym t))
opens_request want.Never t = absurd (true_false (sym t))

-- what a call asks to open, and waits for, was named by no record
asked_unnamed : (c : Config) (t : List Line) → IsFollowed c t → (e : EpochId) (d : CallId) (i : Serial) → IsCallIn (entries t) e d → Opens c t d → serial_asked c t d ≡ i.serial → i.us ≡ d.site → heard c t d ≡ log t d → WasNamed t e i → ⊥
asked_unnamed c t h e d i inside opens serial us clear named = (let o : IsSomeOpen c (asked_now c t d) = some_open c (asked_now c t d) opens in
    unnamed c t e d (request_number t d) i o.file o.it h (record { wanted = asked_now c t d; asks = record { asked = refl; request = opens_request (asked_now c t d) opens; nothing_waits = clear }; opening_is = o.opening_is; inside = inside; request_is = refl; serial_is = sym serial }) us named)

-- ---- of what something was asked its call asks the open no more ----

-- the instance was granted in the boot of now, to a call that asks its open no more
record IsTaken (c : Config) (t : List Line) (i : Serial) : Type 0 where
  epoch : EpochId
  granted : CallId
  is_granted : granted_to (entries t) epoch i ≡ Some granted
  now : IsNow t granted
  past : Opens c t granted → serial_asked c t granted ≡ i.serial → ⊥

abbrev IsFree : Config → List Line → Serial → Type 0
IsFree c t i = (ops_asked c t i ≡ 0) ⊎ IsTaken c t i

-- who asks an operation of it has it, so the call that it was granted to asks no open: it is that call, or its descriptor has named it
asker_takes : (c : Config) (t : List Line) → IsFollowed c t → (d : CallId) (i : Serial) (o : Op) → IsNamed (entries t) d → d.boot ≡ boot_of (entries t) d.site → asked_now c t d ≡ want.Do i o → IsTaken c t i
asker_takes c t h d i o named now asked = record {
  epoch = held.epoch;
  granted = g.0;
  is_granted = g.1;
  now = one_boot c t held.epoch g.0 d h by.inside held.inside site ∙ (now ∙ ap (boot_of (entries t)) (sym site));
  past = λ opens serial. over opens (comes_from c t h held.epoch d i held.inside (op_had c t d i o h named asked));
}
  where
    held : IsHeldBy t d i
    held = (all_have c t h).held d i named (op_had c t d i o h named asked)

    g : (g : CallId) × (granted_to (entries t) held.epoch i ≡ Some g)
    g = held_named t d i held.epoch held held.inside

    by : GrantIs t held.epoch i g.0
    by = granted_is c t h held.epoch i g.0 g.1

    site : g.0.site ≡ d.site
    site = sym by.us_is ∙ held_us c t h d i held

    over : Opens c t g.0 → (granted_to (entries t) held.epoch i ≡ Some d) ⊎ (begun (entries t) d ≡ Some (begins.Uses held.epoch i)) → ⊥
    over opens (inl own) = true_false (sym opens ∙ (ap (λ (z : CallId). is_open_want (asked_now c t z)) (some_same g.0 d (sym g.1 ∙ own)) ∙ ap is_open_want asked))
    over opens (inr b) = (let u : IsUser (entries t) held.epoch i d = begun_user c t held.epoch i d h held.inside b in
        true_false (sym (subst (λ (z : CallId). has_named (entries t) z ≡ true) (some_same u.for.granted g.0 (sym u.for.is_granted ∙ g.1)) u.for.answered) ∙ asker_unnamed c t g.0 h (opens_request (asked_now c t g.0) opens)))

granted_on : (c : Config) (n : ℕ) (x : Told) (older : List Line) (e : EpochId) (i : Serial) (g : CallId) → MayTell c older x → granted_to (entries older) e i ≡ Some g → granted_to (onto_entries n x (entries older)) e i ≡ Some g
granted_on c n (Shown r) older e i g may k = granted_same c older n r e i g may k
granted_on c n _ older e i g may k = k

-- a line at which the call that it was granted to doesn't turn
taken_rests : (c : Config) (n : ℕ) (x : Told) (older : List Line) (i : Serial) → MayTell c older x → (k : IsTaken c older i) → IsNow (With n x older) k.granted → asked_now c (With n x older) k.granted ≡ asked_now c older k.granted → serial_asked c (With n x older) k.granted ≡ serial_asked c older k.granted → IsTaken c (With n x older) i
taken_rests c n x older i may k now asked serial = record { epoch = k.epoch; granted = k.granted; is_granted = granted_on c n x older k.epoch i k.granted may k.is_granted; now = now; past = λ opens same. k.past (ap is_open_want (sym asked) ∙ opens) (sym serial ∙ same) }

free_turn : (c : Config) (n : ℕ) (x : Told) (older : List Line) (it : CallId) (i : Serial) → IsFollowed c older → MayTell c older x → IsTurn c n x older it i → IsFree c older i → IsFree c (With n x older) i
free_turn c n x older it i h may t k = over ((it.site == i.us) && is_op_on i (asked_now c (With n x older) it)) refl k
  where
    second : (a b : Bool) → a && b ≡ true → b ≡ true
    second true b z = z
    second false b z = absurd (true_false (sym z))

    it_now : it.boot ≡ boot_of (entries (With n x older)) it.site
    it_now = t.turned.now ∙ sym (t.turned.boots it.site)

    stays : IsTaken c older i → IsTaken c (With n x older) i
    stays k = at (same_call it k.granted) refl
      where
        by : GrantIs older k.epoch i k.granted
        by = granted_is c older h k.epoch i k.granted k.is_granted

        inside : IsCallIn (entries (With n x older)) k.epoch k.granted
        inside = in_stays c n x older k.epoch k.granted h may by.inside

        granted : granted_to (entries (With n x older)) k.epoch i ≡ Some k.granted
        granted = granted_on c n x older k.epoch i k.granted may k.is_granted

        now : IsNow (With n x older) k.granted
        now = k.now ∙ sym (t.turned.boots k.granted.site)

        at : (b : Bool) → same_call it k.granted ≡ b → IsTaken c (With n x older) i
        at true e = record {
          epoch = k.epoch;
          granted = k.granted;
          is_granted = granted;
          now = now;
          past = λ opens serial. asked_unnamed c (With n x older) (may, h) k.epoch k.granted i inside opens serial by.us_is
              (subst (λ (z : CallId). heard c (With n x older) z ≡ log (With n x older) z) (same_call_eq it k.granted e) t.clear) (granted_named (With n x older) k.epoch i k.granted granted);
        }
        at false e = taken_rests c n x older i may k now (t.turned.other k.granted (inside.accepted, inside.named) e).1 (t.turned.serial_other k.granted e)

    over : (b : Bool) → ((it.site == i.us) && is_op_on i (asked_now c (With n x older) it)) ≡ b → IsFree c older i → IsFree c (With n x older) i
    over true f k = (let o : (o : Op) × (asked_now c (With n x older) it ≡ want.Do i o) = op_is i (asked_now c (With n x older) it) (second (it.site == i.us) (is_op_on i (asked_now c (With n x older) it)) f) in
        inr (asker_takes c (With n x older) (may, h) it i o.0 t.named it_now o.1))
    over false f (inl none) = inl (t.count ∙ (ap (λ (b : Bool). cond b (ops_asked c older i + 1) (ops_asked c older i)) f ∙ none))
    over false f (inr k) = inr (stays k)

free_told : (c : Config) (n : ℕ) (x : Told) (older : List Line) (i : Serial) → IsFollowed c older → MayTell c older x → IsFree c older i → IsFree c (With n x older) i
free_told c n (Shown (says.Accept s process new words)) older i h may k = free_turn c n (Shown (says.Accept s process new words)) older new i h may (accept_turn c n s process new words older i h may) k
free_told c n (Takes s it request times a) older i h may k = free_turn c n (Takes s it request times a) older it i h may (take_turn c n s it request times a older i h may) k
free_told c n (Shown (says.Up s boot)) older i h may k = over (s == i.us) refl k
  where
    over : (b : Bool) → (s == i.us) ≡ b → IsFree c older i → (cond b 0 (ops_asked c older i) ≡ 0) ⊎ IsTaken c (With n (Shown (says.Up s boot)) older) i
    over true f k = inl refl
    over false f (inl none) = inl none
    over false f (inr k) = (let by : GrantIs older k.epoch i k.granted = granted_is c older h k.epoch i k.granted k.is_granted in
        inr (taken_rests c n (Shown (says.Up s boot)) older i may k (k.now ∙ sym (ap (λ (b : Bool). cond b boot (boot_of (entries older) k.granted.site)) (ap (λ (m : ℕ). s == m) (sym by.us_is) ∙ f))) (asked_same c older n (Shown (says.Up s boot)) k.granted h may (by.inside.accepted, by.inside.named) refl) refl))
free_told c n (Shown r) older i h may (inl none) = inl none
free_told c n (Shown r) older i h may (inr k) = (let by : GrantIs older k.epoch i k.granted = granted_is c older h k.epoch i k.granted k.is_granted in inr (taken_rests c n (Shown r) older i may k k.now (asked_same c older n (Shown r) k.granted h may (by.inside.accepted, by.inside.named) refl) refl))
free_told c n x older i h may (inl none) = inl none
free_told c n x older i h may (inr k) = (let by : GrantIs older k.epoch i k.granted = granted_is c older h k.epoch i k.granted k.is_granted in inr (taken_rests c n x older i may k k.now (asked_same c older n x k.granted h may (by.inside.accepted, by.inside.named) refl) refl))

free : (c : Config) (t : List Line) → IsFollowed c t → (i : Serial) → IsFree c t i
free c [] h i = inl refl
free c (x ∷ older) h i = free_told c x.number x.told older i h.1 h.0 (free c older h.1 i)

-- while a call of the boot of now asks an open no operation was asked of the instance that it is to be
pub boot_unasked : (c : Config) (t : List Line) → IsFollowed c t → (e : EpochId) (d : CallId) (i : Serial) → IsCallIn (entries t) e d → IsNow t d → Opens c t d → i.us ≡ d.site → serial_asked c t d ≡ i.serial → ops_asked c t i ≡ 0
boot_unasked c t h e d i inside now opens us serial = over (free c t h i)
  where
    over : IsFree c t i → ops_asked c t i ≡ 0
    over (inl none) = none
    over (inr k) = absurd (k.past (subst (Opens c t) same opens) (subst (λ (z : CallId). serial_asked c t z ≡ i.serial) same serial))
      where
        by : GrantIs t k.epoch i k.granted
        by = granted_is c t h k.epoch i k.granted k.is_granted

        site : d.site ≡ k.granted.site
        site = sym us ∙ by.us_is

        same : d ≡ k.granted
        same = unnamed_in_boot c t h k.epoch i k.granted d k.is_granted k.now (inside.accepted, inside.named) site (now ∙ (ap (boot_of (entries t)) site ∙ sym k.now)) opens serial

pub opens_unasked : (c : Config) (t : List Line) → IsFollowed c t → (e : EpochId) (d : CallId) (i : Serial) → IsCallIn (entries t) e d → epoch_of (entries t) d.site ≡ Some e → Opens c t d → i.us ≡ d.site → serial_asked c t d ≡ i.serial → ops_asked c t i ≡ 0
opens_unasked c t h e d i inside there opens us serial = boot_unasked c t h e d i inside (boot_where_inside c t d e h inside there) opens us serial
