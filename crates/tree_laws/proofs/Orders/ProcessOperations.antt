-- How many operations a site has asked of an open instance: those that were done on it, and the one that is asked still.
use Rattle.std.proofs.Common.{◌≡◌, ℕ, ◌+◌, ◌==◌, Bool, true, false, cond, ◌&&◌, List, [], ◌∷◌, ◌++◌, Some, refl, sym, ◌∙◌, ap, subst, ◌⊎◌, inl, inr}
use Rattle.plain_facts.proofs.Numbers.{equal_self}
use Rattle.plain_facts.proofs.Tests.{true_false}
use Rattle.locus_ids.specs.declared.config.Config.{Config}
use Rattle.locus_ids.specs.declared.ids.CallId.{CallId}
use Rattle.locus_ids.specs.declared.ids.EpochId.{EpochId}
use Rattle.locus_ids.specs.declared.ids.Serial.{Serial}
use Rattle.trace_book.specs.Same.{same_call}
use Rattle.trace_book.specs.declared.call.Call.{Call}
use Rattle.trace_book.specs.declared.operation.Op.{Op}
use Rattle.trace_book.specs.declared.record.Record.TheVariants as says
use Rattle.call_rules.specs.declared.answer.Answer.{Answer}
use Rattle.call_rules.specs.declared.want.Want.{Want}
use Rattle.call_rules.specs.declared.want.Want.TheVariants as want
use Rattle.role_steps.specs.Views.{Told, Shown, Takes}
use Rattle.the_run.specs.Worlds.{Line}
use Rattle.tree_model.specs.declared.instance.Instance.{Instance}
use Rattle.tree_model.specs.Calls.{granted_to, call_named, accepted_as}
use Rattle.tree_model.specs.Epochs.{boot_of}
use Rattle.lawful_trace.specs.TreeRows.{IsCallIn}
use Rattle.tree_laws.specs.Printed.{entries, onto_entries}
use Rattle.tree_laws.specs.Calls.{log, heard, Asks, Waits}
use Rattle.tree_laws.specs.Following.{MayTell, IsFollowed}
use Rattle.tree_laws.specs.Holding.{has_instances, IsOf}
use Rattle.tree_laws.specs.Serials.{asked_now, is_op_on, ops_asked}
use Rattle.tree_laws.specs.Orders.ProcessOperations.{OpsAre}
use Rattle.tree_laws.proofs.Asking.{StepOf, AsksStill, asks_stays, not_longer}
use Rattle.tree_laws.proofs.Awaiting.{IsHeldBy, all_have, held_named, turn_clear}
use Rattle.tree_laws.proofs.Counting.{IsNow, Turned, accept_turned, take_turned}
use Rattle.tree_laws.proofs.Fresh.{IsNamed, next_is_new, numbered, calls_are_low}
use Rattle.tree_laws.proofs.Having.{Untaken, named_or_untaken, waiting_named}
use Rattle.tree_laws.proofs.Names.{same_call_eq, same_call_own, same_serial_eq, same_serial_own}
use Rattle.tree_laws.proofs.OfOwn.{asks_of_own}
use Rattle.tree_laws.proofs.OneBoot.{one_boot}
use Rattle.tree_laws.proofs.Scripts.{in_stays}
use Rattle.tree_laws.proofs.Orders.ProcessCounted.{two_ask}
use Rattle.tree_laws.proofs.Orders.ProcessGranting.{GrantIs, granted_is, held_us}
use Rattle.tree_laws.proofs.Orders.ProcessOnce.{one_epoch_of}
use Rattle.tree_laws.proofs.Orders.ProcessTaken.{back_in}

abbrev With : ℕ → Told → List Line → List Line
With n x older = record { number = n; told = x } ∷ older

-- ---- a call begins to ask ----

pub op_is : (i : Serial) (w : Want) → is_op_on i w ≡ true → (o : Op) × (w ≡ want.Do i o)
op_is i (want.Do inst o) t = (o, ap (λ (j : Serial). want.Do j o) (same_serial_eq inst i t))
op_is i (want.Look f w) t = absurd (true_false (sym t))
op_is i (want.Open f m) t = absurd (true_false (sym t))
op_is i (want.OpenToMend f) t = absurd (true_false (sym t))
op_is i (want.Make group k sites) t = absurd (true_false (sym t))
op_is i (want.Close inst) t = absurd (true_false (sym t))
op_is i (want.Give r) t = absurd (true_false (sym t))
op_is i want.Never t = absurd (true_false (sym t))

-- the line is a turn of this call, which counts an operation where it asks one
pub record IsTurn (c : Config) (n : ℕ) (x : Told) (older : List Line) (it : CallId) (i : Serial) : Type 0 where
  pub turned : Turned c older n x it
  pub named : IsNamed (entries (With n x older)) it
  pub clear : heard c (With n x older) it ≡ log (With n x older) it
  pub apart : (d : CallId) (o : Op) → IsNamed (entries older) d → Asks c older d (want.Do i o) → same_call it d ≡ false
  pub others : (d : CallId) → same_call it d ≡ false → (heard c (With n x older) d ≡ heard c older d) × (log (With n x older) d ≡ log older d)
  pub steps : (d : CallId) → StepOf older x d → ⊥
  pub count : ops_asked c (With n x older) i ≡ cond ((it.site == i.us) && is_op_on i (asked_now c (With n x older) it)) (ops_asked c older i + 1) (ops_asked c older i)

same_is : (it d : CallId) → (it ≡ d → ⊥) → same_call it d ≡ false
same_is it d ne = at (same_call it d) refl
  where
    at : (b : Bool) → same_call it d ≡ b → same_call it d ≡ false
    at true t = absurd (ne (same_call_eq it d t))
    at false t = t

pub accept_turn : (c : Config) (n s process : ℕ) (new : CallId) (words : Call) (older : List Line) (i : Serial) → IsFollowed c older → MayTell c older (Shown (says.Accept s process new words)) → IsTurn c n (Shown (says.Accept s process new words)) older new i
accept_turn c n s process new words older i h may = record {
  turned = accept_turned c older n s process new words h may;
  named = (accepted_as (entries older) s process new words, ap (λ (b : Bool). cond b (Some (accepted_as (entries older) s process new words)) (call_named (entries older) new)) (same_call_own new));
  clear = over (named_or_untaken c older h new);
  apart = λ d o named asks. same_is new d (λ is. fresh (subst (IsNamed (entries older)) (sym is) named));
  others = λ d f. (refl, refl);
  steps = λ d step. step;
  count = ap (λ (m : ℕ). cond ((m == i.us) && is_op_on i (asked_now c (With n (Shown (says.Accept s process new words)) older) new)) (ops_asked c older i + 1) (ops_asked c older i)) (sym (ap (λ (z : CallId). z.site) (numbered c (entries older) s process new words may.row)));
}
  where
    fresh : IsNamed (entries older) new → ⊥
    fresh named = next_is_new (entries older) s new (calls_are_low c older h new named) (numbered c (entries older) s process new words may.row)

    over : IsNamed (entries older) new ⊎ Untaken c older new → heard c older new ≡ log older new
    over (inl named) = absurd (fresh named)
    over (inr u) = u.heard_is ∙ sym u.log_is

pub take_turn : (c : Config) (n s : ℕ) (it : CallId) (request times : ℕ) (a : Answer) (older : List Line) (i : Serial) → IsFollowed c older → MayTell c older (Takes s it request times a) → IsTurn c n (Takes s it request times a) older it i
take_turn c n s it request times a older i h may = record {
  turned = take_turned c older n s it request times a h may;
  named = waiting_named c older s it h may.waits_for;
  clear = turn_clear c n (Takes s it request times a) older it may refl;
  apart = λ d o named asks. same_is it d (λ is. not_longer (heard c older d) (log older d) a asks.nothing_waits (subst (λ (z : CallId). Waits c older z a) is may.answer));
  others = λ d f. (refl, ap (λ (b : Bool). cond b (log older d ++ a ∷ []) (log older d)) f);
  steps = λ d step. step;
  count = ap (λ (m : ℕ). cond ((m == i.us) && is_op_on i (asked_now c (With n (Takes s it request times a) older) it)) (ops_asked c older i + 1) (ops_asked c older i)) (sym may.site_is);
}

module _ (c : Config) (n : ℕ) (x : Told) (older : List Line) (h : IsFollowed c older) (may : MayTell c older x) (it : CallId) (e : EpochId) (i : Serial) (g : CallId) (t : IsTurn c n x older it i) (granted : granted_to (onto_entries n x (entries older)) e i ≡ Some g) (now : IsNow (With n x older) g) where
  -- another call asks still what it asked
  still : (d : CallId) (o : Op) → IsCallIn (entries older) e d → Asks c older d (want.Do i o) → Asks c (With n x older) d (want.Do i o)
  still d o inside asks = over (asks_stays c n x older d (want.Do i o) h may (inside.accepted, inside.named) asks)
    where
      over : AsksStill c older n x d (want.Do i o) ⊎ StepOf older x d → Asks c (With n x older) d (want.Do i o)
      over (inl k) = k.asks
      over (inr step) = absurd (t.steps d step)

  -- the call that turns, where it asks an operation of the instance, is one of the epoch
  asker_in : has_instances c (With n x older) it i ≡ true → IsCallIn (entries (With n x older)) e it
  asker_in has = subst (λ (y : EpochId). IsCallIn (entries (With n x older)) y it) (sym there) held.inside
    where
      held : IsHeldBy (With n x older) it i
      held = (all_have c (With n x older) (may, h)).held it i t.named has

      j : (j : CallId) × (granted_to (entries (With n x older)) held.epoch i ≡ Some j)
      j = held_named (With n x older) it i held.epoch held held.inside

      by : GrantIs (With n x older) held.epoch i j.0
      by = granted_is c (With n x older) (may, h) held.epoch i j.0 j.1

      site : j.0.site ≡ it.site
      site = sym by.us_is ∙ held_us c (With n x older) (may, h) it i held

      current : IsNow (With n x older) j.0
      current = one_boot c (With n x older) held.epoch j.0 it (may, h) by.inside held.inside site ∙ (t.turned.now ∙ (sym (t.turned.boots it.site) ∙ ap (boot_of (entries (With n x older))) (sym site)))

      there : e ≡ held.epoch
      there = one_epoch_of c (With n x older) (may, h) e held.epoch i g j.0 granted now j.1 current

  asks_it : (o : Op) → asked_now c (With n x older) it ≡ want.Do i o → Asks c (With n x older) it (want.Do i o)
  asks_it o asked = record { asked = asked; request = refl; nothing_waits = t.clear }

  has_it : (o : Op) → asked_now c (With n x older) it ≡ want.Do i o → has_instances c (With n x older) it i ≡ true
  has_it o asked = subst (IsOf (has_instances c (With n x older) it)) asked (asks_of_own c (With n x older) it (may, h) t.named)

  -- who asks after it asked before it
  before : (it_asks : (o : Op) → asked_now c (With n x older) it ≡ want.Do i o → ⊥) (d : CallId) (o : Op) → IsCallIn (entries (With n x older)) e d → Asks c (With n x older) d (want.Do i o) → IsCallIn (entries older) e d × Asks c older d (want.Do i o)
  before it_asks d o inside asks = over (same_call it d) refl
    where
      over : (b : Bool) → same_call it d ≡ b → IsCallIn (entries older) e d × Asks c older d (want.Do i o)
      over true f = absurd (it_asks o (subst (λ (z : CallId). asked_now c (With n x older) z ≡ want.Do i o) (sym (same_call_eq it d f)) asks.asked))
      over false f = (let k : IsNamed (entries older) d × (asked_now c (With n x older) d ≡ asked_now c older d) = t.turned.other d (inside.accepted, inside.named) f in
          let s : (heard c (With n x older) d ≡ heard c older d) × (log (With n x older) d ≡ log older d) = t.others d f in
          (back_in c n x older e d h may inside k.0, record { asked = sym k.1 ∙ asks.asked; request = refl; nothing_waits = sym s.0 ∙ (asks.nothing_waits ∙ s.1) }))

  pub ops_turn : (at : Instance) → OpsAre c older e i at → OpsAre c (With n x older) e i at
  ops_turn at k = over ((it.site == i.us) && is_op_on i (asked_now c (With n x older) it)) refl k
    where
      second : (a b : Bool) → a && b ≡ true → b ≡ true
      second true b z = z
      second false b z = absurd (true_false (sym z))

      begins : (o : Op) → asked_now c (With n x older) it ≡ want.Do i o → ops_asked c (With n x older) i ≡ ops_asked c older i + 1 → OpsAre c older e i at → OpsAre c (With n x older) e i at
      begins o asked count (inl k) = inr (record { count = count ∙ ap (λ (m : ℕ). m + 1) k.count; somebody = record { call = it; operation = o; inside = asker_in (has_it o asked); asks = asks_it o asked } })
      begins o asked count (inr k) = absurd (true_false (sym (subst (λ (z : CallId). same_call it z ≡ true) same (same_call_own it)) ∙ t.apart k.somebody.call k.somebody.operation (k.somebody.inside.accepted, k.somebody.inside.named) k.somebody.asks))
        where
          same : it ≡ k.somebody.call
          same = two_ask c (With n x older) e i it k.somebody.call o k.somebody.operation (may, h) (asker_in (has_it o asked)) (in_stays c n x older e k.somebody.call h may k.somebody.inside) (asks_it o asked) (still k.somebody.call k.somebody.operation k.somebody.inside k.somebody.asks)

      -- it asks none of it
      none : ((it.site == i.us) && is_op_on i (asked_now c (With n x older) it)) ≡ false → (o : Op) → asked_now c (With n x older) it ≡ want.Do i o → ⊥
      none f o asked = true_false (sym (ap (λ (w : Want). is_op_on i w) asked ∙ same_serial_own i) ∙ (sym (ap (λ (b : Bool). b && is_op_on i (asked_now c (With n x older) it)) here) ∙ f))
        where
          us : i.us ≡ it.site
          us = held_us c (With n x older) (may, h) it i ((all_have c (With n x older) (may, h)).held it i t.named (has_it o asked))

          here : (it.site == i.us) ≡ true
          here = ap (λ (m : ℕ). it.site == m) us ∙ equal_self it.site

      rests : ((it.site == i.us) && is_op_on i (asked_now c (With n x older) it)) ≡ false → ops_asked c (With n x older) i ≡ ops_asked c older i → OpsAre c older e i at → OpsAre c (With n x older) e i at
      rests f count (inl k) = inl (record { count = count ∙ k.count; nobody = λ d o inside asks. (let b : IsCallIn (entries older) e d × Asks c older d (want.Do i o) = before (none f) d o inside asks in k.nobody d o b.0 b.1) })
      rests f count (inr k) = inr (record { count = count ∙ k.count; somebody = record { call = k.somebody.call; operation = k.somebody.operation; inside = in_stays c n x older e k.somebody.call h may k.somebody.inside; asks = still k.somebody.call k.somebody.operation k.somebody.inside k.somebody.asks } })

      over : (b : Bool) → ((it.site == i.us) && is_op_on i (asked_now c (With n x older) it)) ≡ b → OpsAre c older e i at → OpsAre c (With n x older) e i at
      over true f k = (let o : (o : Op) × (asked_now c (With n x older) it ≡ want.Do i o) = op_is i (asked_now c (With n x older) it) (second (it.site == i.us) (is_op_on i (asked_now c (With n x older) it)) f) in
          begins o.0 o.1 (t.count ∙ ap (λ (b : Bool). cond b (ops_asked c older i + 1) (ops_asked c older i)) f) k)
      over false f k = rests f (t.count ∙ ap (λ (b : Bool). cond b (ops_asked c older i + 1) (ops_asked c older i)) f) k
