-- What was granted to a call waits for it or is had by it, until it is released.
use Rattle.std.proofs.Common.{◌≡◌, ℕ, Bool, true, false, cond, not, ◌&&◌, ◌||◌, List, [], ◌∷◌, ◌++◌, Option, Some, None, refl, sym, ◌∙◌, ap, subst, ◌⊎◌, inl, inr}
use Rattle.role_steps.proofs.of_plain_facts.Options.{some_same}
use Rattle.role_steps.proofs.of_plain_facts.Tests.{or_second, true_false}
use Rattle.locus_ids.specs.declared.config.Config.{Config}
use Rattle.locus_ids.specs.declared.ids.CallId.{CallId}
use Rattle.locus_ids.specs.declared.ids.EpochId.{EpochId}
use Rattle.locus_ids.specs.declared.ids.FileId.{FileId}
use Rattle.locus_ids.specs.declared.ids.Mode.{Mode}
use Rattle.locus_ids.specs.declared.ids.Mode.TheVariants as mode
use Rattle.locus_ids.specs.declared.ids.Serial.{Serial}
use Rattle.locus_ids.specs.declared.ids.Stamp.{Stamp}
use Rattle.trace_book.specs.Same.{same_call, same_serial}
use Rattle.trace_book.specs.declared.call.Call.{Call}
use Rattle.trace_book.specs.declared.operation.Op.{Op}
use Rattle.trace_book.specs.declared.operation.What.{What}
use Rattle.trace_book.specs.declared.record.Record.{Record}
use Rattle.trace_book.specs.declared.record.Record.TheVariants as says
use Rattle.call_rules.specs.declared.answer.Answer.{Answer}
use Rattle.call_rules.specs.declared.answer.Answer.TheVariants as answer
use Rattle.call_rules.specs.declared.want.Want.{Want}
use Rattle.call_rules.specs.declared.want.Want.TheVariants as want
use Rattle.wire_messages.specs.declared.body.Opening.{Opening}
use Rattle.role_steps.specs.Views.{Told, Shown, Takes, LooksAgain}
use Rattle.the_run.specs.Worlds.{Line}
use Rattle.tree_model.specs.Tree.{kept_in}
use Rattle.lawful_trace.specs.Progress.{Answers, granted_answer}
use Rattle.lawful_trace.specs.TreeRows.{IsCallIn}
use Rattle.tree_laws.specs.Calls.{Waits, heard, log}
use Rattle.tree_laws.specs.Following.{IsFollowed, MayTell}
use Rattle.tree_laws.specs.Holding.{Instances, closed_by, had_after, has_instances}
use Rattle.tree_laws.specs.Instances.{AsksOpen, IsOpening}
use Rattle.tree_laws.specs.Past.{GrantRecord, Printed, WasGranted, WasReleased}
use Rattle.tree_laws.specs.Printed.{entries}
use Rattle.tree_laws.specs.Serials.{asked_now, is_open_want}
use Rattle.tree_laws.proofs.Asking.{Same, StepOf, StepRecord, Turns, not_longer, same_told, waits_stays}
use Rattle.tree_laws.proofs.Awaiting.{Awaits, OpensIt, all_have, by_own, last_same, named_before, turn_clear}
use Rattle.tree_laws.proofs.CarriedLooks.{one_epoch}
use Rattle.tree_laws.proofs.Counting.{asked_same}
use Rattle.tree_laws.proofs.Fresh.{IsNamed, calls_are_low, next_is_new, numbered}
use Rattle.tree_laws.proofs.Having.{Untaken, has_stays, named_or_untaken}
use Rattle.tree_laws.proofs.Names.{same_call_eq, same_call_own, same_serial_eq, same_serial_own}
use Rattle.tree_laws.proofs.Scripts.{named_stays}
use Rattle.store_laws.proofs.Begun.{granted_in}

abbrev With : ℕ → Told → List Line → List Line
With n x older = record { number = n; told = x } ∷ older

-- ---- an answered close ----

look_close : (f : FileId) (w : What) (i : Serial) → want.Look f w ≡ want.Close i → ⊥
look_close f w i e = cc

do_close : (j : Serial) (o : Op) (i : Serial) → want.Do j o ≡ want.Close i → ⊥
do_close j o i e = cc

close_serial : (i j : Serial) → want.Close i ≡ want.Close j → i ≡ j
close_serial i j e = cc

-- an open is no close
open_close : (c : Config) (t : List Line) (e : EpochId) (d : CallId) (request serial : ℕ) (f : FileId) (it : Opening) (i : Serial) → AsksOpen c t e d request serial f it → asked_now c t d ≡ want.Close i → ⊥
open_close c t e d request serial f it i k is = subst (λ (w : Want). IsOpening c w f it) (sym k.asks.asked ∙ is) k.opening_is

-- the step of a call that asks to close is the release
close_step : (c : Config) (n : ℕ) (r : Record) (older : List Line) (e : EpochId) (d : CallId) (i : Serial) → MayTell c older (Shown r) → IsCallIn (entries older) e d → asked_now c older d ≡ want.Close i → StepRecord (entries older) r d → WasReleased (With n (Shown r) older) e i
close_step c n (says.Look at call request f w result) older e d i may inside is step = absurd (look_close f w i (sym (subst (λ (y : CallId). asked_now c older y ≡ want.Look f w) step may.in_time.asks.asked) ∙ is))
close_step c n (says.Grant at call request j m f stamp ss) older e d i may inside is step = absurd (open_close c older at d request j.serial may.in_time.opens.asked may.in_time.opens.it i (subst (λ (y : CallId). AsksOpen c older at y request j.serial may.in_time.opens.asked may.in_time.opens.it) step may.in_time.opens.asks) is)
close_step c n (says.Refuse at call request j m f why) older e d i may inside is step = absurd (open_close c older at d request j.serial may.in_time.opens.asked may.in_time.opens.it i (subst (λ (y : CallId). AsksOpen c older at y request j.serial may.in_time.opens.asked may.in_time.opens.it) step may.in_time.opens.asks) is)
close_step c n (says.Act at j number o result) older e d i may inside is step = absurd (do_close j o i (sym (subst (λ (y : CallId). asked_now c older y ≡ want.Do j o) (some_same may.in_time.call d (sym may.in_time.owner ∙ step)) may.in_time.asks.asked) ∙ is))
close_step c n (says.Release at j f stamp) older e d i may inside is step = inl (record {
  epoch_is = one_epoch older at e d (subst (IsCallIn (entries older) at) (some_same may.row.step.call d (sym may.row.step.owned ∙ step)) may.row.step.step) inside;
  serial_is = close_serial j i (sym (subst (λ (y : CallId). asked_now c older y ≡ want.Close j) (some_same may.in_time.call d (sym may.in_time.owner ∙ step)) may.in_time.asks.asked) ∙ is);
})
close_step c n _ older e d i may inside is step = absurd step

-- where its answer waits, the instance was released
pub close_answered : (c : Config) (t : List Line) → IsFollowed c t → (e : EpochId) (d : CallId) (i : Serial) (a : Answer) → IsCallIn (entries t) e d → asked_now c t d ≡ want.Close i → Waits c t d a → WasReleased t e i
close_answered c [] h e d i a inside is waits = absurd (never inside.accepted inside.named)
  where
    never : {A : Type 0} (w : A) → ◌≡◌ {A = Option A} None (Some w) → ⊥
    never w e = cc
close_answered c (y ∷ older) h e d i a inside is waits = at (λ was same waited. close_answered c older h.1 e d i a was same waited)
  where
    x : Told
    x = y.told

    empty : (xs : Answers) → [] ≡ xs ++ a ∷ [] → ⊥
    empty [] e = cc
    empty (z ∷ xs) e = cc

    -- no answer waits for a call that is accepted now
    new : (s process : ℕ) (words : Call) → x ≡ Shown (says.Accept s process d words) → WasReleased (y ∷ older) e i
    new s process words accepts = over (named_or_untaken c older h.1 d)
      where
        row : MayTell c older (Shown (says.Accept s process d words))
        row = subst (MayTell c older) accepts h.0

        over : IsNamed (entries older) d ⊎ Untaken c older d → WasReleased (y ∷ older) e i
        over (inl named) = absurd (next_is_new (entries older) s d (calls_are_low c older h.1 d named) (numbered c (entries older) s process d words row.row))
        over (inr u) = absurd (empty (log older d) (sym u.heard_is ∙ subst (λ (z : Told). Waits c (With y.number z older) d a) accepts waits))

    at : (IsCallIn (entries older) e d → asked_now c older d ≡ want.Close i → Waits c older d a → WasReleased older e i) → WasReleased (y ∷ older) e i
    at later = named_before c y.number x older d (WasReleased (y ∷ older) e i) h.0 new was (inside.accepted, inside.named)
      where
        was : IsNamed (entries older) d → WasReleased (y ∷ older) e i
        was named = over x h.0 waits is (same_told c older y.number x d)
          where
            before : IsCallIn (entries older) e d
            before = record { accepted = inside.accepted; named = sym (named_stays c y.number x older d h.1 h.0 named) ∙ inside.named; made_in = inside.made_in }

            over : (z : Told) → MayTell c older z → Waits c (With y.number z older) d a → asked_now c (With y.number z older) d ≡ want.Close i → Same c older y.number z d ⊎ (StepOf older z d ⊎ Turns z d) → WasReleased (With y.number z older) e i
            over z m w asks (inl s) = inr (later before (sym (asked_same c older y.number z d h.1 m named s.log_same) ∙ asks) (sym s.heard_same ∙ (w ∙ ap (λ (xs : Answers). xs ++ a ∷ []) s.log_same)))
            over (Shown r) m w asks (inr (inl step)) = close_step c y.number r older e d i m before (sym (asked_same c older y.number (Shown r) d h.1 m named refl) ∙ asks) step
            over z m w asks (inr (inr turn)) = absurd (not_longer (heard c (With y.number z older) d) (log (With y.number z older) d) a (turn_clear c y.number z older d m turn) w)
            over _ m w asks (inr (inl step)) = absurd step

-- ---- what was granted ----

-- the answer that opens it waits, or the call has it
abbrev pub HasOrWaits : Config → List Line → CallId → Serial → Type 0
HasOrWaits c t d i = ((a : Answer) × Waits c t d a × OpensIt a i) ⊎ (has_instances c t d i ≡ true)

opens_granted : (m : Mode) (i j : Serial) (f : FileId) (stamp : Option Stamp) (kept : List Stamp) → i ≡ j → OpensIt (granted_answer m i f stamp kept) j
opens_granted mode.Mend i j f stamp kept e = e
opens_granted mode.Read i j f (Some stamp) kept e = e
opens_granted mode.Read i j f None kept e = e
opens_granted mode.Write i j f stamp kept e = e
opens_granted mode.Resolve i j f stamp kept e = e
opens_granted mode.Make i j f stamp kept e = e

-- what an answer opens is had then
had_opened : (w : Want) (a : Answer) (own : Instances) (i : Serial) → OpensIt a i → had_after w a own i ≡ true
had_opened w (answer.Opened inst ino) own i e = ap (λ (b : Bool). b || own i) (subst (λ (j : Serial). same_serial inst j ≡ true) e (same_serial_own inst))
had_opened w (answer.Reading inst version) own i e = ap (λ (b : Bool). b || own i) (subst (λ (j : Serial). same_serial inst j ≡ true) e (same_serial_own inst))
had_opened w (answer.Merging inst kept) own i e = ap (λ (b : Bool). b || own i) (subst (λ (j : Serial). same_serial inst j ≡ true) e (same_serial_own inst))
had_opened w _ own i e = absurd e

-- what was had is had after an answer, but for one to its close
had_still : (w : Want) (a : Answer) (own : Instances) (i : Serial) → own i ≡ true → (had_after w a own i ≡ true) ⊎ (w ≡ want.Close i)
had_still w (answer.Opened inst ino) own i e = inl (or_second (same_serial inst i) (own i) e)
had_still w (answer.Reading inst version) own i e = inl (or_second (same_serial inst i) (own i) e)
had_still w (answer.Merging inst kept) own i e = inl (or_second (same_serial inst i) (own i) e)
had_still w _ own i e = closed w own i e
  where
    closed : (w : Want) (own : Instances) (i : Serial) → own i ≡ true → (closed_by w own i ≡ true) ⊎ (w ≡ want.Close i)
    closed (want.Close inst) own i e = over (same_serial inst i) refl
      where
        over : (b : Bool) → same_serial inst i ≡ b → (not b && own i ≡ true) ⊎ (want.Close inst ≡ want.Close i)
        over true k = inr (ap want.Close (same_serial_eq inst i k))
        over false k = inl e
    closed _ own i e = inl e

look_opens_none : (c : Config) (t : List Line) (d : CallId) (f : FileId) (w : What) → asked_now c t d ≡ want.Look f w → is_open_want (asked_now c t d) ≡ true → ⊥
look_opens_none c t d f w is opens = true_false (sym opens ∙ ap is_open_want is)

-- ---- line by line ----

module _ (c : Config) (n : ℕ) (older : List Line) (h : IsFollowed c older) (e : EpochId) (d : CallId) (i : Serial) (inside : IsCallIn (entries older) e d) (live : WasReleased older e i → ⊥) where
  named : IsNamed (entries older) d
  named = (inside.accepted, inside.named)

  turned : (x : Told) → MayTell c older x → (a : Answer) → Waits c older d a → OpensIt a i → Turns x d → HasOrWaits c (With n x older) d i
  turned (Takes s it request times b) may a waits opens same = inr (ap (λ (z : Bool). cond z (had_after (asked_now c older it) b (has_instances c older d) i) (has_instances c older d i)) mine ∙ had_opened (asked_now c older it) b (has_instances c older d) i (subst (λ (z : Answer). OpensIt z i) one opens))
    where
      mine : same_call it d ≡ true
      mine = subst (λ (z : CallId). same_call it z ≡ true) same (same_call_own it)

      one : a ≡ b
      one = last_same (log older d) (log older d) a b (sym waits ∙ subst (λ (z : CallId). Waits c older z b) same may.answer)
  turned (LooksAgain s it request times) may a waits opens same = absurd (look_opens_none c older d may.file may.what (subst (λ (z : CallId). asked_now c older z ≡ want.Look may.file may.what) same may.looks) (awaits.opens i opens))
    where
      awaits : Awaits c older d a
      awaits = (all_have c older h).awaits d a named waits
  turned _ may a waits opens same = absurd same

  kept_on : (x : Told) → MayTell c older x → has_instances c older d i ≡ true → HasOrWaits c (With n x older) d i
  kept_on (Takes s it request times b) may has = over (same_call it d) refl
    where
      after : (had_after (asked_now c older it) b (has_instances c older d) i ≡ true) ⊎ (asked_now c older it ≡ want.Close i) → it ≡ d → had_after (asked_now c older it) b (has_instances c older d) i ≡ true
      after (inl k) same = k
      after (inr k) same = absurd (live (close_answered c older h e d i b inside (subst (λ (z : CallId). asked_now c older z ≡ want.Close i) same k) (subst (λ (z : CallId). Waits c older z b) same may.answer)))

      over : (z : Bool) → same_call it d ≡ z → HasOrWaits c (With n (Takes s it request times b) older) d i
      over true k = inr (ap (λ (z : Bool). cond z (had_after (asked_now c older it) b (has_instances c older d) i) (has_instances c older d i)) k ∙ after (had_still (asked_now c older it) b (has_instances c older d) i has) (same_call_eq it d k))
      over false k = inr (ap (λ (z : Bool). cond z (had_after (asked_now c older it) b (has_instances c older d) i) (has_instances c older d i)) k ∙ has)
  kept_on (Shown r) may has = inr (has_stays c n (Shown r) older h may d named refl i ∙ has)
  kept_on x may has = inr (has_stays c n x older h may d named refl i ∙ has)

  goes_on : (x : Told) → MayTell c older x → HasOrWaits c older d i → HasOrWaits c (With n x older) d i
  goes_on x may (inr has) = kept_on x may has
  goes_on x may (inl k) = over (waits_stays c n x older d k.0 may k.1)
    where
      over : Waits c (With n x older) d k.0 ⊎ Turns x d → HasOrWaits c (With n x older) d i
      over (inl w) = inl (k.0, w, k.2)
      over (inr turn) = turned x may k.0 k.1 k.2 turn

granted_now : (c : Config) (n : ℕ) (x : Told) (older : List Line) → MayTell c older x → (e : EpochId) (d : CallId) (request : ℕ) (i : Serial) (m : Mode) (f : FileId) (stamp : Option Stamp) (ss : ℕ) → Printed (GrantRecord e d request i m f stamp ss) older x → HasOrWaits c (With n x older) d i
granted_now c n (Shown (says.Grant at call number inst how g on place)) older may e d request i m f stamp ss k = inl (a, by_own call d (heard c older d ++ a ∷ []) (heard c older d) k.call_is ∙ ap (λ (xs : Answers). xs ++ a ∷ []) (subst (λ (y : CallId). heard c older y ≡ log older y) k.call_is may.in_time.opens.asks.asks.nothing_waits), opens_granted how inst i g on (kept_in c (entries older) at g) k.serial_is)
  where
    a : Answer
    a = granted_answer how inst g on (kept_in c (entries older) at g)
granted_now c n _ older may e d request i m f stamp ss k = absurd k

pub granted_had : (c : Config) (t : List Line) → IsFollowed c t → (e : EpochId) (d : CallId) (request : ℕ) (i : Serial) (m : Mode) (f : FileId) (stamp : Option Stamp) (ss : ℕ) → WasGranted t e d request i m f stamp ss → (WasReleased t e i → ⊥) → HasOrWaits c t d i
granted_had c [] h e d request i m f stamp ss was live = absurd was
granted_had c (x ∷ older) h e d request i m f stamp ss (inl now) live = granted_now c x.number x.told older h.0 e d request i m f stamp ss now
granted_had c (x ∷ older) h e d request i m f stamp ss (inr was) live = goes_on c x.number older h.1 e d i (granted_in c older h.1 e d request i m f stamp ss was) (λ r. live (inr r)) x.told h.0 (granted_had c older h.1 e d request i m f stamp ss was (λ r. live (inr r)))
