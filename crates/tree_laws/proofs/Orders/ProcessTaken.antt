-- What a call that waits has, its site has among what its calls have taken and not closed; and so what descriptors stand for.
use Rattle.std.proofs.Common.{◌≡◌, ℕ, ◌==◌, Bool, true, false, not, cond, ◌&&◌, List, [], ◌∷◌, Some, None, refl, sym, ◌∙◌, ap, subst, ◌⊎◌, inl, inr, filter}
use Rattle.plain_facts.proofs.Numbers.{equal, equal_self}
use Rattle.plain_facts.proofs.Options.{none_some, some_same}
use Rattle.plain_facts.proofs.Tests.{true_false}
use Rattle.locus_ids.specs.declared.config.Config.{Config}
use Rattle.locus_ids.specs.declared.ids.CallId.{CallId}
use Rattle.locus_ids.specs.declared.ids.EpochId.{EpochId}
use Rattle.locus_ids.specs.declared.ids.Serial.{Serial}
use Rattle.trace_book.specs.Same.{same_call}
use Rattle.trace_book.specs.declared.call.Call.{Call}
use Rattle.trace_book.specs.declared.descriptor.Beginning.TheVariants as begins
use Rattle.trace_book.specs.declared.descriptor.Descriptor.{Descriptor}
use Rattle.trace_book.specs.declared.record.Record.{Record}
use Rattle.trace_book.specs.declared.record.Record.TheVariants as says
use Rattle.trace_book.specs.declared.reply.Reply.{Reply}
use Rattle.call_rules.specs.declared.answer.Answer.{Answer}
use Rattle.call_rules.specs.declared.want.Want.{Want}
use Rattle.call_rules.specs.declared.want.Want.TheVariants as want
use Rattle.role_steps.specs.Views.{Told, Shown, Takes}
use Rattle.the_run.specs.Kept.{Among}
use Rattle.the_run.specs.Worlds.{Line}
use Rattle.tree_model.specs.declared.accepted.Waiting.{Waiting}
use Rattle.tree_model.specs.Calls.{call_named, accepted_as, granted_to, waiting}
use Rattle.tree_model.specs.Epochs.{epoch_of, has_joined, boot_of}
use Rattle.tree_model.specs.State.{has_number}
use Rattle.lawful_trace.specs.CallRows.{is_this}
use Rattle.lawful_trace.specs.Tables.{begins_now, begun, descriptor, is_close, has_named, uses_by}
use Rattle.lawful_trace.specs.TreeRows.{IsCallIn}
use Rattle.tree_laws.specs.Printed.{entries}
use Rattle.tree_laws.specs.Following.{MayTell, IsFollowed}
use Rattle.tree_laws.specs.Holding.{has_instances, had_after, IsOf}
use Rattle.tree_laws.specs.Users.{had, had_by}
use Rattle.tree_laws.proofs.Answered.{all_done}
use Rattle.tree_laws.proofs.Awaiting.{OpensIt, IsHeldBy, all_have, had_from, held_named, new_has, begun_uses, named_before}
use Rattle.tree_laws.proofs.Boots.{waiting_boot, found_every}
use Rattle.tree_laws.proofs.Descriptors.{FromDescriptor, GrantedFor, stand_for, uses_from, uses_is}
use Rattle.tree_laws.proofs.Fresh.{IsNamed, next_is_new, numbered, calls_are_low}
use Rattle.tree_laws.proofs.Having.{Untaken, named_or_untaken, has_stays}
use Rattle.tree_laws.proofs.Naming.{named_granted, named_held}
use Rattle.tree_laws.proofs.Names.{same_call_eq, same_call_own}
use Rattle.tree_laws.proofs.OfOwn.{asks_of_own}
use Rattle.tree_laws.proofs.OneBoot.{one_boot, joined_where_made, boot_where_inside}
use Rattle.tree_laws.proofs.Scripts.{named_stays}
use Rattle.tree_laws.proofs.Waiting.{accepted, found_among}
use Rattle.tree_laws.proofs.Orders.ProcessBegun.{comes_from, UsesIt, all_use, Fits, asked_fits}
use Rattle.tree_laws.proofs.Orders.ProcessGranting.{GrantIs, granted_is, held_us}
use Rattle.tree_laws.proofs.Orders.ProcessOnce.{one_epoch_of}
use Rattle.tree_laws.proofs.Orders.ProcessOneDescriptor.{NamesNow, answer_split, left_record, unclosed}
use Rattle.tree_laws.proofs.Orders.ProcessUnreleased.{close_opens_none, had_closed}
use Rattle.tree_laws.specs.Serials.{asked_now, is_open_want}
use Rattle.tree_laws.specs.Calls.{is_request, Asks}
use Rattle.tree_laws.proofs.Alone.{asking}
use Rattle.tree_laws.proofs.Waiting.{asking_waits}
use Rattle.tree_laws.specs.Orders.ProcessAsked.{AsksOf}
use Rattle.tree_laws.proofs.Orders.ProcessHad.{ClosesNumber, IsHere, had_kept, had_opened, not_over, holders_one}

abbrev With : ℕ → Told → List Line → List Line
With n x older = record { number = n; told = x } ∷ older

-- what calls that wait have, and what descriptors stand for, in the epoch that their site is in
pub record AllHad (c : Config) (t : List Line) : Type 0 where
  pub holds : (e : EpochId) (d : CallId) (i : Serial) → IsCallIn (entries t) e d → epoch_of (entries t) d.site ≡ Some e → IsHere t d → has_instances c t d i ≡ true → has_number (had c t d.site) i.serial ≡ true
  stands : (s process fd : ℕ) (x : Descriptor) → descriptor (entries t) s process fd ≡ Some x → epoch_of (entries t) s ≡ Some x.epoch → has_number (had c t s) x.inst.serial ≡ true

third : (p q b : Bool) → (p && q && b) ≡ true → b ≡ true
third p q true t = refl
third true true false t = absurd (true_false (sym t))
third true false false t = absurd (true_false (sym t))
third false q false t = absurd (true_false (sym t))

among_left : {A : Type 0} (p : A → Bool) (x : A) (xs : List A) → Among x (filter p xs) → Among x xs
among_left p x [] k = k
among_left {A} p x (y ∷ ys) k = at (λ (m : Among x (filter p ys)). among_left p x ys m) (p y) k
  where
    at : (Among x (filter p ys) → Among x ys) → (b : Bool) → Among x (cond b (y ∷ filter p ys) (filter p ys)) → (x ≡ y) ⊎ Among x ys
    at later true (inl same) = inl same
    at later true (inr m) = inr (later m)
    at later false m = inr (later m)

-- ---- a line that takes nothing ----

-- the site joins it now
abbrev Joins : List Line → ℕ → EpochId → Type 0
Joins older me e = has_joined (entries older) me e ≡ false

epoch_record : (c : Config) (n : ℕ) (r : Record) (older : List Line) (me : ℕ) (e : EpochId) → MayTell c older (Shown r) → epoch_of (entries (With n (Shown r) older)) me ≡ Some e → (epoch_of (entries older) me ≡ Some e) ⊎ Joins older me e
epoch_record c n (says.Join s at members) older me e may k = over (s == me) refl k
  where
    over : (b : Bool) → (s == me) ≡ b → cond b (Some at) (epoch_of (entries older) me) ≡ Some e → (epoch_of (entries older) me ≡ Some e) ⊎ Joins older me e
    over true p q = inr (subst (λ (y : EpochId). has_joined (entries older) me y ≡ false) (some_same at e q) (subst (λ (m : ℕ). has_joined (entries older) m at ≡ false) (equal s me p) may.row.new))
    over false p q = inl q
epoch_record c n (says.Leave s at) older me e may k = over (s == me) k
  where
    over : (b : Bool) → cond b None (epoch_of (entries older) me) ≡ Some e → (epoch_of (entries older) me ≡ Some e) ⊎ Joins older me e
    over true q = absurd (none_some e q)
    over false q = inl q
epoch_record c n (says.Stopped s cause) older me e may k = over (s == me) k
  where
    over : (b : Bool) → cond b None (epoch_of (entries older) me) ≡ Some e → (epoch_of (entries older) me ≡ Some e) ⊎ Joins older me e
    over true q = absurd (none_some e q)
    over false q = inl q
epoch_record c n (says.Up s boot) older me e may k = over (s == me) k
  where
    over : (b : Bool) → cond b None (epoch_of (entries older) me) ≡ Some e → (epoch_of (entries older) me ≡ Some e) ⊎ Joins older me e
    over true q = absurd (none_some e q)
    over false q = inl q
epoch_record c n _ older me e may k = inl k

epoch_told : (c : Config) (n : ℕ) (x : Told) (older : List Line) (me : ℕ) (e : EpochId) → MayTell c older x → epoch_of (entries (With n x older)) me ≡ Some e → (epoch_of (entries older) me ≡ Some e) ⊎ Joins older me e
epoch_told c n (Shown r) older me e may k = epoch_record c n r older me e may k
epoch_told c n _ older me e may k = inl k

-- a site in an epoch has what it had
had_same : (c : Config) (n : ℕ) (r : Record) (older : List Line) (me : ℕ) (e : EpochId) → epoch_of (entries (With n (Shown r) older)) me ≡ Some e → had c (With n (Shown r) older) me ≡ had c older me
had_same c n (says.Leave s at) older me e k = over (s == me) k
  where
    over : (b : Bool) → cond b None (epoch_of (entries older) me) ≡ Some e → cond b [] (had c older me) ≡ had c older me
    over true q = absurd (none_some e q)
    over false q = refl
had_same c n (says.Stopped s cause) older me e k = over (s == me) k
  where
    over : (b : Bool) → cond b None (epoch_of (entries older) me) ≡ Some e → cond b [] (had c older me) ≡ had c older me
    over true q = absurd (none_some e q)
    over false q = refl
had_same c n (says.Up s boot) older me e k = over (s == me) k
  where
    over : (b : Bool) → cond b None (epoch_of (entries older) me) ≡ Some e → cond b [] (had c older me) ≡ had c older me
    over true q = absurd (none_some e q)
    over false q = refl
had_same c n _ older me e k = refl

-- who waits after a record waited before, or is accepted by it
here_record : (c : Config) (n : ℕ) (r : Record) (older : List Line) (d : CallId) → IsFollowed c older → MayTell c older (Shown r) → IsNamed (entries older) d → IsHere (With n (Shown r) older) d → IsHere older d
here_record c n (says.Accept s process new words) older d h may named k = over k.among
  where
    over : Among k.caller (accepted_as (entries older) s process new words ∷ waiting (entries older)) → IsHere older d
    over (inl same) = absurd (next_is_new (entries older) s d (calls_are_low c older h d named) (sym k.call_is ∙ (ap (λ (w : Waiting). w.call) same ∙ numbered c (entries older) s process new words may.row)))
    over (inr m) = record { caller = k.caller; among = m; call_is = k.call_is }
here_record c n (says.Answer s process call r) older d h may named k = record { caller = k.caller; among = among_left (λ (w : Waiting). not (same_call w.call call)) k.caller (waiting (entries older)) k.among; call_is = k.call_is }
here_record c n (says.Stopped s cause) older d h may named k = record { caller = k.caller; among = among_left (λ (w : Waiting). not (w.site == s)) k.caller (waiting (entries older)) k.among; call_is = k.call_is }
here_record c n _ older d h may named k = record { caller = k.caller; among = k.among; call_is = k.call_is }

-- ---- an answer is taken ----

module _ (c : Config) (n s : ℕ) (it : CallId) (request times : ℕ) (a : Answer) (older : List Line) (h : IsFollowed c older) (may : MayTell c older (Takes s it request times a)) where
  abbrev x : Told
  x = Takes s it request times a

  found : (call_named (entries older) may.waits_for.caller.call ≡ Some may.waits_for.caller) × (is_this s may.waits_for.process it may.waits_for.caller ≡ true)
  found = found_every (λ (w : Waiting). call_named (entries older) w.call ≡ Some w) (is_this s may.waits_for.process it) (waiting (entries older)) may.waits_for.caller may.waits_for.found (accepted c older h).waits

  is_it : may.waits_for.caller.call ≡ it
  is_it = same_call_eq may.waits_for.caller.call it (third (may.waits_for.caller.site == s) (may.waits_for.caller.process == may.waits_for.process) (same_call may.waits_for.caller.call it) found.1)

  named : IsNamed (entries older) it
  named = (may.waits_for.caller, ap (call_named (entries older)) (sym is_it) ∙ found.0)

  here : IsHere older it
  here = record { caller = may.waits_for.caller; among = found_among (is_this s may.waits_for.process it) (waiting (entries older)) may.waits_for.caller may.waits_for.found; call_is = is_it }

  -- it asks to close this instance, and has it, in the epoch in which it was granted
  record Closer (e : EpochId) (i : Serial) : Type 0 where
    inside : IsCallIn (entries older) e it
    has : has_instances c older it i ≡ true
    asks : asked_now c older it ≡ want.Close i

  closer : (e : EpochId) (i : Serial) (g : CallId) → granted_to (entries older) e i ≡ Some g → g.boot ≡ boot_of (entries older) g.site → i.us ≡ s → ClosesNumber (asked_now c older it) i.serial → Closer e i
  closer e i g granted now us k = record { inside = subst (λ (y : EpochId). IsCallIn (entries older) y it) (sym there) held.inside; has = has; asks = asks }
    where
      has_inst : has_instances c older it k.inst ≡ true
      has_inst = subst (IsOf (has_instances c older it)) k.closes (asks_of_own c older it h named)

      held_inst : IsHeldBy older it k.inst
      held_inst = (all_have c older h).held it k.inst named has_inst

      is : k.inst ≡ i
      is = λ j. record { us = ((held_us c older h it k.inst held_inst ∙ may.site_is) ∙ sym us) j; serial = k.number j }

      has : has_instances c older it i ≡ true
      has = subst (λ (z : Serial). has_instances c older it z ≡ true) is has_inst

      asks : asked_now c older it ≡ want.Close i
      asks = k.closes ∙ ap want.Close is

      held : IsHeldBy older it i
      held = (all_have c older h).held it i named has

      j : (j : CallId) × (granted_to (entries older) held.epoch i ≡ Some j)
      j = held_named older it i held.epoch held held.inside

      by : GrantIs older held.epoch i j.0
      by = granted_is c older h held.epoch i j.0 j.1

      site : j.0.site ≡ it.site
      site = sym by.us_is ∙ held_us c older h it i held

      there : e ≡ held.epoch
      there = one_epoch_of c older h e held.epoch i g j.0 granted now j.1 (one_boot c older held.epoch j.0 it h by.inside held.inside site ∙ (waiting_boot c older s it h may.waits_for ∙ ap (boot_of (entries older)) (sym site)))

  had_new : (me : ℕ) → s ≡ me → had c (With n x older) me ≡ had_by (asked_now c older it) a (had c older me)
  had_new me same = ap (λ (b : Bool). cond b (had_by (asked_now c older it) a (had c older me)) (had c older me)) (ap (λ (m : ℕ). s == m) (sym same) ∙ equal_self s)

  -- what was had, and isn't closed by the answer, is had
  kept : (me : ℕ) (e : EpochId) (i : Serial) (g : CallId) → granted_to (entries older) e i ≡ Some g → g.boot ≡ boot_of (entries older) g.site → i.us ≡ me → has_number (had c older me) i.serial ≡ true → (Closer e i → ⊥) → has_number (had c (With n x older) me) i.serial ≡ true
  kept me e i g granted now us old unclosing = at (s == me) refl
    where
      over : s ≡ me → (has_number (had_by (asked_now c older it) a (had c older me)) i.serial ≡ true) ⊎ ClosesNumber (asked_now c older it) i.serial → has_number (had c (With n x older) me) i.serial ≡ true
      over same (inl k) = ap (λ (ns : List ℕ). has_number ns i.serial) (had_new me same) ∙ k
      over same (inr k) = absurd (unclosing (closer e i g granted now (us ∙ sym same) k))

      at : (b : Bool) → (s == me) ≡ b → has_number (had c (With n x older) me) i.serial ≡ true
      at true t = over (equal s me t) (had_kept (asked_now c older it) a (had c older me) i.serial old)
      at false t = ap (λ (b : Bool). has_number (cond b (had_by (asked_now c older it) a (had c older me)) (had c older me)) i.serial) t ∙ old

  holds_take : AllHad c older → (e : EpochId) (d : CallId) (i : Serial) → IsCallIn (entries older) e d → epoch_of (entries older) d.site ≡ Some e → IsHere older d → has_instances c (With n x older) d i ≡ true → has_number (had c (With n x older) d.site) i.serial ≡ true
  holds_take k e d i inside at_epoch waits has = at (same_call it d) refl
    where
      -- what it had before is kept, but for what it closes
      was : has_instances c older d i ≡ true → (Closer e i → ⊥) → has_number (had c (With n x older) d.site) i.serial ≡ true
      was old unclosing = (let held : IsHeldBy older d i = (all_have c older h).held d i (inside.accepted, inside.named) old in
          let g : (g : CallId) × (granted_to (entries older) e i ≡ Some g) = held_named older d i e held inside in
          let by : GrantIs older e i g.0 = granted_is c older h e i g.0 g.1 in
          let site : g.0.site ≡ d.site = sym by.us_is ∙ held_us c older h d i held in
          kept d.site e i g.0 g.1 (one_boot c older e g.0 d h by.inside inside site ∙ (boot_where_inside c older d e h inside at_epoch ∙ ap (boot_of (entries older)) (sym site))) (held_us c older h d i held) (k.holds e d i inside at_epoch waits old) unclosing)

      own : it ≡ d → OpensIt a i ⊎ (has_instances c older d i ≡ true) → has_number (had c (With n x older) d.site) i.serial ≡ true
      own same (inl o) = ap (λ (ns : List ℕ). has_number ns i.serial) (had_new d.site (sym may.site_is ∙ ap (λ (z : CallId). z.site) same)) ∙ had_opened (asked_now c older it) a (had c older d.site) i o
      own same (inr old) = was old (λ z. true_false (sym has ∙ gone z))
        where
          gone : Closer e i → has_instances c (With n x older) d i ≡ false
          gone z = ap (λ (b : Bool). cond b (had_after (asked_now c older it) a (has_instances c older d) i) (has_instances c older d i)) (subst (λ (y : CallId). same_call it y ≡ true) same (same_call_own it))
              ∙ (ap (λ (w : Want). had_after w a (has_instances c older d) i) z.asks ∙ had_closed a (has_instances c older d) i (λ j o. close_opens_none i (sym (ap is_open_want z.asks) ∙ ((all_have c older h).awaits it a named may.answer).opens j o)))

      at : (b : Bool) → same_call it d ≡ b → has_number (had c (With n x older) d.site) i.serial ≡ true
      at true t = own (same_call_eq it d t) (had_from (asked_now c older it) a (has_instances c older d) i (sym (ap (λ (b : Bool). cond b (had_after (asked_now c older it) a (has_instances c older d) i) (has_instances c older d i)) t) ∙ has))
      at false t = (let old : has_instances c older d i ≡ true = sym (ap (λ (b : Bool). cond b (had_after (asked_now c older it) a (has_instances c older d) i) (has_instances c older d i)) t) ∙ has in
          was old (λ z. true_false (sym (subst (λ (y : CallId). same_call it y ≡ true) (holders_one c older e i it d h z.inside inside here waits z.has old) (same_call_own it)) ∙ t)))

  stands_take : AllHad c older → (me process fd : ℕ) (y : Descriptor) → descriptor (entries older) me process fd ≡ Some y → epoch_of (entries older) me ≡ Some y.epoch → has_number (had c (With n x older) me) y.inst.serial ≡ true
  stands_take k me process fd y stands at_epoch = kept me y.epoch y.inst g.granted g.is_granted (boot_where_inside c older g.granted y.epoch h by.inside (ap (epoch_of (entries older)) site ∙ at_epoch)) (by.us_is ∙ site) (k.stands me process fd y stands at_epoch) none
    where
      g : GrantedFor (entries older) y.epoch y.inst me process
      g = stand_for c older h me process fd y stands

      by : GrantIs older y.epoch y.inst g.granted
      by = granted_is c older h y.epoch y.inst g.granted g.is_granted

      site : g.granted.site ≡ me
      site = sym ((accepted c older h).named g.granted g.caller g.named).site_is ∙ g.site_is

      none : Closer y.epoch y.inst → ⊥
      none z = over (comes_from c older h y.epoch it y.inst z.inside z.has)
        where
          over : (granted_to (entries older) y.epoch y.inst ≡ Some it) ⊎ (begun (entries older) it ≡ Some (begins.Uses y.epoch y.inst)) → ⊥
          over (inl granted) = not_over c older it here (all_done c older h it (subst (λ (d : CallId). has_named (entries older) d ≡ true) (some_same g.granted it (sym g.is_granted ∙ granted)) g.answered)).over.quiet
          over (inr b) = none_some it (sym (unclosed c older h me process fd y stands) ∙ subst (UsesIt (entries older) y.epoch y.inst it) (subst (Fits (is_close z.inside.accepted.words)) z.asks (asked_fits c older it z.inside.accepted y.epoch y.inst z.inside.named b)) (all_use c older h it z.inside.accepted y.epoch y.inst z.inside.named b))

-- ---- line by line ----

-- a call that is accepted begins at a descriptor
holds_new : (c : Config) (n s process : ℕ) (new : CallId) (words : Call) (older : List Line) (e : EpochId) (i : Serial) → IsFollowed c older → MayTell c older (Shown (says.Accept s process new words)) → AllHad c older → IsCallIn (entries (With n (Shown (says.Accept s process new words)) older)) e new → has_instances c (With n (Shown (says.Accept s process new words)) older) new i ≡ true → has_number (had c older new.site) i.serial ≡ true
holds_new c n s process new words older e i h may k inside has = subst (λ (m : ℕ). has_number (had c older m) i.serial ≡ true) (sym at_site) (subst (λ (j : Serial). has_number (had c older s) j.serial ≡ true) f.serial_is (k.stands s process f.fd f.stands f.found (f.inside ∙ ap Some (sym f.epoch_is))))
  where
    at_site : new.site ≡ s
    at_site = ap (λ (x : CallId). x.site) (numbered c (entries older) s process new words may.row)

    untaken : IsNamed (entries older) new ⊎ Untaken c older new → Untaken c older new
    untaken (inl named) = absurd (next_is_new (entries older) s new (calls_are_low c older h new named) (numbered c (entries older) s process new words may.row))
    untaken (inr u) = u

    b : (y : EpochId) × (uses_by (begins_now (entries older) s process new words) y i ≡ true)
    b = begun_uses (begins_now (entries older) s process new words) i (sym (new_has c n s process new words older i (untaken (named_or_untaken c older h new))) ∙ has)

    f : FromDescriptor (descriptor (entries older) s process) (epoch_of (entries older) s) words b.0 i
    f = uses_from (descriptor (entries older) s process) (epoch_of (entries older) s) new words b.0 i (uses_is (begins_now (entries older) s process new words) b.0 i b.1)

pub back_in : (c : Config) (n : ℕ) (x : Told) (older : List Line) (e : EpochId) (d : CallId) → IsFollowed c older → MayTell c older x → IsCallIn (entries (With n x older)) e d → IsNamed (entries older) d → IsCallIn (entries older) e d
back_in c n x older e d h may inside named = record { accepted = named.0; named = named.1; made_in = ap (λ (w : Waiting). w.epoch) (some_same named.0 inside.accepted (sym (named_stays c n x older d h may named ∙ named.1) ∙ inside.named)) ∙ inside.made_in }

-- it hasn't joined the epoch of a call of it before
not_joined : (c : Config) (older : List Line) (d : CallId) (e : EpochId) → IsFollowed c older → IsCallIn (entries older) e d → Joins older d.site e → ⊥
not_joined c older d e h inside new = true_false (sym (joined_where_made c older d e h inside) ∙ new)

holds_record : (c : Config) (n : ℕ) (r : Record) (older : List Line) → IsFollowed c older → MayTell c older (Shown r) → AllHad c older → (e : EpochId) (d : CallId) (i : Serial) → IsCallIn (entries (With n (Shown r) older)) e d → epoch_of (entries (With n (Shown r) older)) d.site ≡ Some e → IsHere (With n (Shown r) older) d → has_instances c (With n (Shown r) older) d i ≡ true → has_number (had c (With n (Shown r) older) d.site) i.serial ≡ true
holds_record c n r older h may k e d i inside at_epoch waits has = named_before c n (Shown r) older d (has_number (had c (With n (Shown r) older) d.site) i.serial ≡ true) may accepts old (inside.accepted, inside.named)
  where
    same : has_number (had c older d.site) i.serial ≡ true → has_number (had c (With n (Shown r) older) d.site) i.serial ≡ true
    same z = ap (λ (ns : List ℕ). has_number ns i.serial) (had_same c n r older d.site e at_epoch) ∙ z

    old : IsNamed (entries older) d → has_number (had c (With n (Shown r) older) d.site) i.serial ≡ true
    old named = same (over (epoch_told c n (Shown r) older d.site e may at_epoch))
      where
        here : IsCallIn (entries older) e d
        here = back_in c n (Shown r) older e d h may inside named

        over : (epoch_of (entries older) d.site ≡ Some e) ⊎ Joins older d.site e → has_number (had c older d.site) i.serial ≡ true
        over (inl z) = k.holds e d i here z (here_record c n r older d h may named waits) (sym (has_stays c n (Shown r) older h may d named refl i) ∙ has)
        over (inr new) = absurd (not_joined c older d e h here new)

    accepts : (s process : ℕ) (words : Call) → Shown r ≡ Shown (says.Accept s process d words) → has_number (had c (With n (Shown r) older) d.site) i.serial ≡ true
    accepts s process words is = same (holds_new c n s process d words older e i h (subst (MayTell c older) is may) k (subst (λ (y : Told). IsCallIn (entries (With n y older)) e d) is inside) (subst (λ (y : Told). has_instances c (With n y older) d i ≡ true) is has))

stands_record : (c : Config) (n : ℕ) (r : Record) (older : List Line) → IsFollowed c older → MayTell c older (Shown r) → AllHad c older → (me process fd : ℕ) (y : Descriptor) → descriptor (entries (With n (Shown r) older)) me process fd ≡ Some y → epoch_of (entries (With n (Shown r) older)) me ≡ Some y.epoch → has_number (had c (With n (Shown r) older) me) y.inst.serial ≡ true
stands_record c n r older h may k me process fd y stands at_epoch = ap (λ (ns : List ℕ). has_number ns y.inst.serial) (had_same c n r older me y.epoch at_epoch) ∙ split r may stands (epoch_told c n (Shown r) older me y.epoch may at_epoch)
  where
    -- a descriptor that stood
    was : descriptor (entries older) me process fd ≡ Some y → (epoch_of (entries older) me ≡ Some y.epoch) ⊎ Joins older me y.epoch → has_number (had c older me) y.inst.serial ≡ true
    was z (inl e) = k.stands me process fd y z e
    was z (inr new) = absurd (not_joined c older g.granted y.epoch h by.inside (subst (λ (m : ℕ). has_joined (entries older) m y.epoch ≡ false) (sym (sym ((accepted c older h).named g.granted g.caller g.named).site_is ∙ g.site_is)) new))
      where
        g : GrantedFor (entries older) y.epoch y.inst me process
        g = stand_for c older h me process fd y z

        by : GrantIs older y.epoch y.inst g.granted
        by = granted_is c older h y.epoch y.inst g.granted g.is_granted

    -- a descriptor that stands for it from now on: its call waited, and has the instance
    opens : (site user : ℕ) (d : CallId) (r : Reply) → MayTell c older (Shown (says.Answer site user d r)) → NamesNow (entries older) me process fd y site user d r → (epoch_of (entries older) me ≡ Some y.epoch) ⊎ Joins older me y.epoch → has_number (had c older me) y.inst.serial ≡ true
    opens site user d r m o e = subst (λ (q : ℕ). has_number (had c older q) y.inst.serial ≡ true) at_site (over e)
      where
        found : (call_named (entries older) m.row.caller.call ≡ Some m.row.caller) × (is_this site user d m.row.caller ≡ true)
        found = found_every (λ (w : Waiting). call_named (entries older) w.call ≡ Some w) (is_this site user d) (waiting (entries older)) m.row.caller m.row.waits (accepted c older h).waits

        is_d : m.row.caller.call ≡ d
        is_d = same_call_eq m.row.caller.call d (third (m.row.caller.site == site) (m.row.caller.process == user) (same_call m.row.caller.call d) found.1)

        first : (p q b : Bool) → (p && q && b) ≡ true → p ≡ true
        first true q b t = refl
        first false q b t = absurd (true_false (sym t))

        at_site : d.site ≡ me
        at_site = ap (λ (z : CallId). z.site) (sym is_d) ∙ (sym ((accepted c older h).named m.row.caller.call m.row.caller found.0).site_is ∙ (equal m.row.caller.site site (first (m.row.caller.site == site) (m.row.caller.process == user) (same_call m.row.caller.call d) found.1) ∙ o.site_is))

        by : GrantIs older y.epoch y.inst d
        by = granted_is c older h y.epoch y.inst d (named_granted c older h d r fd y o.named)

        held : has_instances c older d y.inst ≡ true
        held = named_held c older h d r fd y o.named m.in_time

        over : (epoch_of (entries older) me ≡ Some y.epoch) ⊎ Joins older me y.epoch → has_number (had c older d.site) y.inst.serial ≡ true
        over (inl z) = k.holds y.epoch d y.inst by.inside (ap (epoch_of (entries older)) at_site ∙ z) (record { caller = m.row.caller; among = found_among (is_this site user d) (waiting (entries older)) m.row.caller m.row.waits; call_is = is_d }) held
        over (inr new) = absurd (not_joined c older d y.epoch h by.inside (subst (λ (q : ℕ). has_joined (entries older) q y.epoch ≡ false) (sym at_site) new))

    split : (r : Record) → MayTell c older (Shown r) → descriptor (entries (With n (Shown r) older)) me process fd ≡ Some y → (epoch_of (entries older) me ≡ Some y.epoch) ⊎ Joins older me y.epoch → has_number (had c older me) y.inst.serial ≡ true
    split (says.Answer site user d r) m stands e = over (answer_split (entries older) n site user d r me process fd y stands)
      where
        over : (descriptor (entries older) me process fd ≡ Some y) ⊎ NamesNow (entries older) me process fd y site user d r → has_number (had c older me) y.inst.serial ≡ true
        over (inl z) = was z e
        over (inr o) = opens site user d r m o e
    split r m stands e = was (left_record (entries older) n r me process fd y (λ k. k) stands) e

had_told : (c : Config) (n : ℕ) (x : Told) (older : List Line) → IsFollowed c older → MayTell c older x → AllHad c older → AllHad c (With n x older)
had_told c n (Shown r) older h may k = record { holds = holds_record c n r older h may k; stands = stands_record c n r older h may k }
had_told c n (Takes s it request times a) older h may k = record { holds = λ e d i inside at_epoch waits has. holds_take c n s it request times a older h may k e d i (record { accepted = inside.accepted; named = inside.named; made_in = inside.made_in }) at_epoch (record { caller = waits.caller; among = waits.among; call_is = waits.call_is }) has; stands = stands_take c n s it request times a older h may k }
had_told c n x older h may k = record { holds = λ e d i inside at_epoch waits has. k.holds e d i (record { accepted = inside.accepted; named = inside.named; made_in = inside.made_in }) at_epoch (record { caller = waits.caller; among = waits.among; call_is = waits.call_is }) (sym (has_stays c n x older h may d (inside.accepted, inside.named) refl i) ∙ has); stands = λ me process fd y stands at_epoch. k.stands me process fd y stands at_epoch }

pub all_had : (c : Config) (t : List Line) → IsFollowed c t → AllHad c t
all_had c [] h = record { holds = λ e d i inside. absurd (none_some inside.accepted inside.named); stands = λ me process fd y stands. absurd (none_some y stands) }
all_had c (x ∷ older) h = had_told c x.number x.told older h.1 h.0 (all_had c older h.1)

-- what a call asks something of its site has, while it is in the call's epoch
pub asked_had : (c : Config) (t : List Line) (e : EpochId) (d : CallId) (i : Serial) → IsFollowed c t → IsCallIn (entries t) e d → epoch_of (entries t) d.site ≡ Some e → AsksOf c t d i → has_number (had c t d.site) i.serial ≡ true
asked_had c t e d i h inside at_epoch asks = over asks
  where
    waits : is_request (asked_now c t d) ≡ true → IsHere t d
    waits r = record { caller = inside.accepted; among = asking_waits c t e d h inside at_epoch r; call_is = ((accepted c t h).named d inside.accepted inside.named).call_is }

    had_it : (w : Want) → Asks c t d w → IsOf (has_instances c t d) w → (IsOf (has_instances c t d) w → has_instances c t d i ≡ true) → has_number (had c t d.site) i.serial ≡ true
    had_it w k own is = (all_had c t h).holds e d i inside at_epoch (waits (asking c t d w k)) (is own)

    over : AsksOf c t d i → has_number (had c t d.site) i.serial ≡ true
    over (inl k) = had_it (want.Do i k.0) k.1 (subst (IsOf (has_instances c t d)) k.1.asked (asks_of_own c t d h (inside.accepted, inside.named))) (λ z. z)
    over (inr k) = had_it (want.Close i) k (subst (IsOf (has_instances c t d)) k.asked (asks_of_own c t d h (inside.accepted, inside.named))) (λ z. z)

-- and what a descriptor of the epoch stands for
pub described_had : (c : Config) (t : List Line) → IsFollowed c t → (me process fd : ℕ) (y : Descriptor) → descriptor (entries t) me process fd ≡ Some y → epoch_of (entries t) me ≡ Some y.epoch → has_number (had c t me) y.inst.serial ≡ true
described_had c t h = (all_had c t h).stands
