-- What was granted to a call is its opening; who has named it opens a file, or has read by what it has opened again; and who asks an operation
-- of it, but the call that it was granted to, begins at it.
use Rattle.std.proofs.Common.{◌≡◌, ℕ, ◌+◌, ◌==◌, Bool, true, false, cond, ◌&&◌, ◌||◌, List, [], ◌∷◌, ◌++◌, Some, None, refl, sym, ◌∙◌, ap, subst, ◌⊎◌, inl, inr}
use Rattle.role_steps.proofs.of_plain_facts.Options.{none_some, some_same}
use Rattle.role_steps.proofs.of_plain_facts.Tests.{true_false}
use Rattle.locus_ids.specs.declared.config.Config.{Config}
use Rattle.locus_ids.specs.declared.ids.CallId.{CallId}
use Rattle.locus_ids.specs.declared.ids.EpochId.{EpochId}
use Rattle.locus_ids.specs.declared.ids.Serial.{Serial}
use Rattle.trace_book.specs.Same.{same_call, same_epoch, same_serial}
use Rattle.trace_book.specs.declared.call.Call.{Call}
use Rattle.trace_book.specs.declared.descriptor.Beginning.TheVariants as begins
use Rattle.trace_book.specs.declared.descriptor.Descriptor.{Descriptor}
use Rattle.trace_book.specs.declared.operation.Op.{Op}
use Rattle.trace_book.specs.declared.record.Record.{Record}
use Rattle.trace_book.specs.declared.record.Record.TheVariants as says
use Rattle.trace_book.specs.declared.reply.Reply.{Reply}
use Rattle.trace_book.specs.declared.reply.Reply.TheVariants as reply
use Rattle.call_rules.specs.declared.want.Want.TheVariants as want
use Rattle.role_steps.specs.Own.{Every}
use Rattle.role_steps.specs.Views.{Told, Shown, Takes}
use Rattle.the_run.specs.Worlds.{Line}
use Rattle.tree_model.specs.declared.accepted.Waiting.{Waiting}
use Rattle.tree_model.specs.Calls.{call_named, granted_to, opening_of, waiting}
use Rattle.tree_model.specs.Epochs.{boot_of}
use Rattle.lawful_trace.specs.Tables.{begun, has_named, uses_of, names_instance}
use Rattle.lawful_trace.specs.TreeRows.{IsCallIn}
use Rattle.tree_laws.specs.Printed.{entries, onto_entries}
use Rattle.tree_laws.specs.Calls.{is_request, log}
use Rattle.tree_laws.specs.Following.{AnswersInTime, IsFollowed, MayTell, TookFor}
use Rattle.tree_laws.specs.Holding.{has_instances}
use Rattle.tree_laws.specs.Past.{WasNamed}
use Rattle.tree_laws.specs.Serials.{asked_now}
use Rattle.tree_laws.proofs.Answered.{all_done, asker_unnamed, IsDone}
use Rattle.tree_laws.proofs.Awaiting.{all_have, held_named, IsHeldBy}
use Rattle.tree_laws.proofs.Counting.{IsNow}
use Rattle.tree_laws.proofs.Descriptors.{are_users, IsUser}
use Rattle.tree_laws.proofs.Fresh.{IsNamed}
use Rattle.tree_laws.proofs.Names.{same_call_eq, same_call_own}
use Rattle.tree_laws.proofs.OneBoot.{one_boot}
use Rattle.tree_laws.proofs.Owners.{granted_named}
use Rattle.tree_laws.proofs.Scripts.{named_stays, begun_stays}
use Rattle.tree_laws.proofs.Serials.{asks_opens}
use Rattle.tree_laws.proofs.Orders.ProcessBegun.{comes_from}
use Rattle.tree_laws.proofs.Orders.ProcessGranting.{GrantIs, granted_is, held_us}
use Rattle.tree_laws.proofs.Orders.ProcessOnce.{one_epoch_of}
use Rattle.store_laws.proofs.ScriptNaming.{named_opens, Opens, RereadsIn, named_reads}
use Rattle.store_laws.proofs.AnswerAskers.{With, op_had}
use Rattle.store_laws.proofs.AnswerUnasked.{opens_request}
use Rattle.tree_laws.proofs.Boots.{found_every}
use Rattle.lawful_trace.specs.CallRows.{is_this}

-- ---- what was granted to a call is its opening ----

pub granted_opens : (c : Config) (t : List Line) → IsFollowed c t → (e : EpochId) (i : Serial) (g : CallId) → granted_to (entries t) e i ≡ Some g → (x : Descriptor) × (opening_of (entries t) g ≡ Some x)
granted_opens c [] h e i g k = absurd (none_some g k)
granted_opens c (y ∷ older) h e i g k = over y.told (λ z. granted_opens c older h.1 e i g z) k
  where
    over : (x : Told) → (granted_to (entries older) e i ≡ Some g → (x : Descriptor) × (opening_of (entries older) g ≡ Some x)) → granted_to (onto_entries y.number x (entries older)) e i ≡ Some g → (z : Descriptor) × (opening_of (onto_entries y.number x (entries older)) g ≡ Some z)
    over (Shown (says.Grant at d request inst m f stamp ss)) later k = at_it (same_epoch at e && same_serial inst i) k
      where
        now : Descriptor
        now = record { mode = m; epoch = at; inst = inst; steady = None }

        more : (b : Bool) → (z : Descriptor) × (opening_of (entries older) g ≡ Some z) → (z : Descriptor) × (cond b (Some now) (opening_of (entries older) g) ≡ Some z)
        more true z = (now, refl)
        more false z = z

        at_it : (b : Bool) → cond b (Some d) (granted_to (entries older) e i) ≡ Some g → (z : Descriptor) × (cond (same_call d g) (Some now) (opening_of (entries older) g) ≡ Some z)
        at_it true z = (now, ap (λ (a : Bool). cond a (Some now) (opening_of (entries older) g)) (subst (λ (w : CallId). same_call d w ≡ true) (some_same d g z) (same_call_own d)))
        at_it false z = more (same_call d g) (later z)
    over (Shown r) later k = later k
    over _ later k = later k

-- ---- a call that has named what it was granted takes nothing more ----

third : (p q b : Bool) → (p && q && b) ≡ true → b ≡ true
third p q true t = refl
third true true false t = absurd (true_false (sym t))
third true false false t = absurd (true_false (sym t))
third false q false t = absurd (true_false (sym t))

pub done_rests : (c : Config) (n : ℕ) (x : Told) (older : List Line) (g : CallId) → IsFollowed c older → MayTell c older x → has_named (entries older) g ≡ true → log (With n x older) g ≡ log older g
done_rests c n x older g h may has = over x may
  where
    over : (y : Told) → MayTell c older y → log (With n y older) g ≡ log older g
    over (Takes s it request times a) m = at (same_call it g) refl
      where
        found : (m.waits_for.caller.call ≡ g → ⊥) × (is_this s m.waits_for.process it m.waits_for.caller ≡ true)
        found = found_every (λ (w : Waiting). w.call ≡ g → ⊥) (is_this s m.waits_for.process it) (waiting (entries older)) m.waits_for.caller m.waits_for.found (all_done c older h g has).over.quiet

        at : (b : Bool) → same_call it g ≡ b → cond b (log older g ++ a ∷ []) (log older g) ≡ log older g
        at true e = absurd (found.0 (same_call_eq m.waits_for.caller.call it (third (m.waits_for.caller.site == s) (m.waits_for.caller.process == m.waits_for.process) (same_call m.waits_for.caller.call it) found.1) ∙ same_call_eq it g e))
        at false e = refl
    over (Shown r) m = refl
    over _ m = refl

-- ---- who has named what it was granted opens a file, or has read by what it has opened again ----

abbrev pub NamedSo : List Line → CallId → Call → Descriptor → Type 0
NamedSo t g words x = Opens words ⊎ (RereadsIn t g words × TookFor (reply.Data []) x.inst (log t g))

named_so : (c : Config) (older : List Line) (g : CallId) (r : Reply) (w : Waiting) (x : Descriptor) → IsFollowed c older → AnswersInTime c older g r → names_instance r ≡ true → call_named (entries older) g ≡ Some w → opening_of (entries older) g ≡ Some x → NamedSo older g w.words x
named_so c older g (reply.Opened fd) w x h replies e named is = inl (named_opens c older g x fd w h replies is named)
named_so c older g (reply.Data bytes) w x h replies e named is = inr (named_reads c older g x bytes w replies is named, replies.took x is)
named_so c older g _ w x h replies e named is = absurd (true_false (sym e))

so_stays : (c : Config) (n : ℕ) (y : Told) (older : List Line) (g : CallId) (w : Waiting) (x : Descriptor) → IsFollowed c older → MayTell c older y → call_named (entries older) g ≡ Some w → log (With n y older) g ≡ log older g → NamedSo older g w.words x → NamedSo (With n y older) g w.words x
so_stays c n y older g w x h may named same (inl o) = inl o
so_stays c n y older g w x h may named same (inr k) = inr ((k.0.0, begun_stays c n y older g h may (w, named) ∙ k.0.1, k.0.2), subst (TookFor (reply.Data []) x.inst) (sym same) k.1)

abbrev NamersOpen : List Line → Type 0
NamersOpen t = (g : CallId) (w : Waiting) (x : Descriptor) → call_named (entries t) g ≡ Some w → has_named (entries t) g ≡ true → opening_of (entries t) g ≡ Some x → NamedSo t g w.words x

namers_record : (c : Config) (n : ℕ) (r : Record) (older : List Line) → IsFollowed c older → MayTell c older (Shown r) → NamersOpen older → NamersOpen (With n (Shown r) older)
namers_record c n (says.Answer site user it r) older h may k g w x named has is = so_stays c n (Shown (says.Answer site user it r)) older g w x h may named refl (over (same_call it g) (names_instance r) refl refl has)
  where
    over : (a b : Bool) → same_call it g ≡ a → names_instance r ≡ b → (a && b || has_named (entries older) g) ≡ true → NamedSo older g w.words x
    over true true p q z = named_so c older g r w x h (subst (λ (y : CallId). AnswersInTime c older y r) (same_call_eq it g p) may.in_time) q named is
    over true false p q z = k g w x named z is
    over false b p q z = k g w x named z is
namers_record c n (says.Grant at it request inst m f stamp ss) older h may k g w x named has is = so_stays c n (Shown (says.Grant at it request inst m f stamp ss)) older g w x h may named refl (over (same_call it g) refl is)
  where
    asks : is_request (asked_now c older it) ≡ true
    asks = opens_request (asked_now c older it) (asks_opens c older at it request inst.serial may.in_time.opens.asked may.in_time.opens.it may.in_time.opens.asks)

    over : (b : Bool) → same_call it g ≡ b → cond b (Some (record { mode = m; epoch = at; inst = inst; steady = None })) (opening_of (entries older) g) ≡ Some x → NamedSo older g w.words x
    over true e q = absurd (true_false (sym has ∙ asker_unnamed c older g h (subst (λ (z : CallId). is_request (asked_now c older z) ≡ true) (same_call_eq it g e) asks)))
    over false e q = k g w x named has q
namers_record c n (says.Accept s process new words) older h may k g w x named has is = (let d : IsDone c older g = all_done c older h g has in
    let was : call_named (entries older) g ≡ Some w = sym (named_stays c n (Shown (says.Accept s process new words)) older g h may (d.caller, d.named)) ∙ named in
    so_stays c n (Shown (says.Accept s process new words)) older g w x h may was refl (k g w x was has is))
namers_record c n r older h may k g w x named has is = so_stays c n (Shown r) older g w x h may named refl (k g w x named has is)

pub namers_open : (c : Config) (t : List Line) → IsFollowed c t → NamersOpen t
namers_open c [] h g w x named has is = absurd (none_some w named)
namers_open c (y ∷ older) h g w x named has is = over y.told h.0 (namers_open c older h.1) named has is
  where
    over : (z : Told) → MayTell c older z → NamersOpen older → call_named (onto_entries y.number z (entries older)) g ≡ Some w → has_named (onto_entries y.number z (entries older)) g ≡ true → opening_of (onto_entries y.number z (entries older)) g ≡ Some x → NamedSo (With y.number z older) g w.words x
    over (Shown r) m k named has is = namers_record c y.number r older h.1 m k g w x named has is
    over z m k named has is = so_stays c y.number z older g w x h.1 m named (done_rests c y.number z older g h.1 m has) (k g w x named has is)

-- ---- who asks an operation of what a descriptor is to name uses it by the descriptor ----

pub asker_uses : (c : Config) (t : List Line) → IsFollowed c t → (e : EpochId) (i : Serial) (g : CallId) → granted_to (entries t) e i ≡ Some g → IsNow t g → (d : CallId) (o : Op) → (g ≡ d → ⊥) → IsNamed (entries t) d → d.boot ≡ boot_of (entries t) d.site → asked_now c t d ≡ want.Do i o →
    begun (entries t) d ≡ Some (begins.Uses e i)
asker_uses c t h e i g granted now d o other is_named boot asked = over (comes_from c t h e d i (subst (λ (y : EpochId). IsCallIn (entries t) y d) (sym there) held.inside) has)
  where
    has : has_instances c t d i ≡ true
    has = op_had c t d i o h is_named asked

    held : IsHeldBy t d i
    held = (all_have c t h).held d i is_named has

    k : (k : CallId) × (granted_to (entries t) held.epoch i ≡ Some k)
    k = held_named t d i held.epoch held held.inside

    by : GrantIs t held.epoch i k.0
    by = granted_is c t h held.epoch i k.0 k.1

    site : k.0.site ≡ d.site
    site = sym by.us_is ∙ held_us c t h d i held

    there : e ≡ held.epoch
    there = one_epoch_of c t h e held.epoch i g k.0 granted now k.1 (one_boot c t held.epoch k.0 d h by.inside held.inside site ∙ (boot ∙ ap (boot_of (entries t)) (sym site)))

    over : (granted_to (entries t) e i ≡ Some d) ⊎ (begun (entries t) d ≡ Some (begins.Uses e i)) → begun (entries t) d ≡ Some (begins.Uses e i)
    over (inl own) = absurd (other (some_same g d (sym granted ∙ own)))
    over (inr b) = b

pub no_uses : (c : Config) (t : List Line) → IsFollowed c t → (e : EpochId) (i : Serial) → (WasNamed t e i → ⊥) → uses_of (entries t) e i ≡ []
no_uses c t h e i new = over (uses_of (entries t) e i) refl (are_users c t h e i).uses
  where
    over : (xs : List CallId) → uses_of (entries t) e i ≡ xs → Every (IsUser (entries t) e i) xs → uses_of (entries t) e i ≡ []
    over [] is k = is
    over (y ∷ ys) is k = absurd (new (granted_named t e i k.0.for.granted k.0.for.is_granted))
