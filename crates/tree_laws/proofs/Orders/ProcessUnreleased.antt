-- What a call asks something of isn't released: an instance that was released is had no more, but by its close that is answered.
use Rattle.std.proofs.Common.{◌≡◌, ℕ, Bool, true, false, not, cond, ◌&&◌, List, [], ◌∷◌, ◌++◌, Option, Some, refl, sym, ◌∙◌, ap, subst, ◌⊎◌, inl, inr}
use Rattle.plain_facts.proofs.Options.{none_some, some_same}
use Rattle.plain_facts.proofs.Tests.{true_false}
use Rattle.locus_ids.specs.declared.config.Config.{Config}
use Rattle.locus_ids.specs.declared.ids.CallId.{CallId}
use Rattle.locus_ids.specs.declared.ids.EpochId.{EpochId}
use Rattle.locus_ids.specs.declared.ids.FileId.{FileId}
use Rattle.locus_ids.specs.declared.ids.Serial.{Serial}
use Rattle.locus_ids.specs.declared.ids.Stamp.{Stamp}
use Rattle.trace_book.specs.Same.{same_call, same_epoch, same_serial}
use Rattle.trace_book.specs.declared.call.Call.{Call}
use Rattle.trace_book.specs.declared.descriptor.Descriptor.{Descriptor}
use Rattle.trace_book.specs.declared.operation.What.{What}
use Rattle.trace_book.specs.declared.record.Record.{Record}
use Rattle.trace_book.specs.declared.record.Record.TheVariants as says
use Rattle.trace_book.specs.declared.reply.Reply.{Reply}
use Rattle.call_rules.specs.declared.answer.Answer.{Answer}
use Rattle.call_rules.specs.declared.answer.Answer.TheVariants as answer
use Rattle.call_rules.specs.declared.want.Want.{Want}
use Rattle.call_rules.specs.declared.want.Want.TheVariants as want
use Rattle.role_steps.specs.Views.{Told, Shown, Takes, LooksAgain}
use Rattle.the_run.specs.Worlds.{Line}
use Rattle.tree_model.specs.declared.accepted.Waiting.{Waiting}
use Rattle.tree_model.specs.Calls.{granted_to, call_named, accepted_as}
use Rattle.tree_model.specs.Epochs.{epoch_of}
use Rattle.tree_model.specs.State.{instance_in}
use Rattle.tree_model.specs.Tree.{tree_of, kept_in}
use Rattle.lawful_trace.specs.Progress.{Answers, look_answer, granted_answer, close_answer, outcome_answer}
use Rattle.lawful_trace.specs.Tables.{begins_now, descriptor, has_named, uses_by, close_of, unless_named, call_of_act, call_of_release}
use Rattle.lawful_trace.specs.TreeRows.{IsCallIn}
use Rattle.tree_laws.specs.Printed.{entries, onto_entries}
use Rattle.tree_laws.specs.Calls.{log, heard, is_request, Asks, Waits}
use Rattle.tree_laws.specs.Following.{MayTell, IsFollowed}
use Rattle.tree_laws.specs.Holding.{Instances, had_after, has_instances, IsOf}
use Rattle.tree_laws.specs.Past.{Printed, WasNamed, EndRecord, WasReleased}
use Rattle.tree_laws.specs.Serials.{asked_now, is_open_want}
use Rattle.tree_laws.proofs.Alone.{one_asks, asking}
use Rattle.tree_laws.proofs.Answered.{all_done, asker_unnamed}
use Rattle.tree_laws.proofs.Asking.{StepRecord, StepOf, Turns, Same, same_told, not_longer, waits_stays}
use Rattle.tree_laws.proofs.Awaiting.{OpensIt, IsHeldBy, Awaits, all_have, by_own, by_owner, look_opens, outcome_opens, close_opens, grant_opens, last_same, turn_clear, had_from, new_has, begun_uses, named_before}
use Rattle.tree_laws.proofs.CarriedLooks.{one_epoch}
use Rattle.tree_laws.proofs.Counting.{asked_same}
use Rattle.tree_laws.proofs.Descriptors.{GrantedFor, FromDescriptor, IsUser, stand_for, uses_from, uses_is, are_users}
use Rattle.tree_laws.proofs.Fresh.{IsNamed, next_is_new, numbered, calls_are_low}
use Rattle.tree_laws.proofs.Having.{Untaken, named_or_untaken, has_stays}
use Rattle.tree_laws.proofs.Naming.{named_granted, named_held}
use Rattle.tree_laws.proofs.Names.{same_call_eq, same_call_own, same_epoch_eq, same_serial_eq, same_serial_own}
use Rattle.tree_laws.proofs.OfOwn.{asks_of_own}
use Rattle.tree_laws.proofs.Owners.{named_more, naming_reply}
use Rattle.tree_laws.proofs.Scripts.{named_stays}
use Rattle.tree_laws.proofs.Stepping.{step_record}
use Rattle.tree_laws.proofs.Orders.ProcessGranting.{GrantIs, granted_is, released_named}
use Rattle.tree_laws.proofs.Orders.ProcessOneDescriptor.{NamesNow, answer_split, left_record, unclosed, waiting_unnamed}

abbrev With : ℕ → Told → List Line → List Line
With n x older = record { number = n; told = x } ∷ older

-- the call asks to close it, and the answer waits
abbrev Closing : Config → List Line → CallId → Serial → Type 0
Closing c t d i = (asked_now c t d ≡ want.Close i) × ((a : Answer) × Waits c t d a)

-- what comes of released instances
record Ends (c : Config) (t : List Line) : Type 0 where
  -- the call that it was granted to, which no descriptor has answered
  owner : (e : EpochId) (i : Serial) (d : CallId) → granted_to (entries t) e i ≡ Some d → has_named (entries t) d ≡ false → has_instances c t d i ≡ true → WasReleased t e i → Closing c t d i
  -- an answered open waits for none
  waits : (e : EpochId) (i : Serial) (d : CallId) (a : Answer) → granted_to (entries t) e i ≡ Some d → Waits c t d a → OpensIt a i → WasReleased t e i → ⊥
  -- who asks something and has it
  asks : (e : EpochId) (i : Serial) (d : CallId) → IsCallIn (entries t) e d → is_request (asked_now c t d) ≡ true → has_instances c t d i ≡ true → WasReleased t e i → Closing c t d i
  -- no descriptor stands for it
  stands : (s process fd : ℕ) (x : Descriptor) → descriptor (entries t) s process fd ≡ Some x → WasReleased t x.epoch x.inst → ⊥

pub close_opens_none : (i : Serial) → is_open_want (want.Close i) ≡ true → ⊥
close_opens_none i t = true_false (sym t)

close_looks : (i : Serial) (f : FileId) (w : What) → want.Look f w ≡ want.Close i → ⊥
close_looks i f w e = cc

pub had_closed : (a : Answer) (own : Instances) (i : Serial) → ((j : Serial) → OpensIt a j → ⊥) → had_after (want.Close i) a own i ≡ false
had_closed (answer.Opened inst ino) own i h = absurd (h inst refl)
had_closed (answer.Reading inst version) own i h = absurd (h inst refl)
had_closed (answer.Merging inst kept) own i h = absurd (h inst refl)
had_closed _ own i h = ap (λ (b : Bool). not b && own i) (same_serial_own i)

-- ---- what was released before ----

module _ (c : Config) (n : ℕ) (x : Told) (older : List Line) (h : IsFollowed c older) (may : MayTell c older x) where
  granted_before : (e : EpochId) (i : Serial) (d : CallId) → WasReleased older e i → granted_to (onto_entries n x (entries older)) e i ≡ Some d → granted_to (entries older) e i ≡ Some d
  granted_before e i d was k = over x may k
    where
      over : (y : Told) → MayTell c older y → granted_to (onto_entries n y (entries older)) e i ≡ Some d → granted_to (entries older) e i ≡ Some d
      over (Shown (says.Grant at call request inst mode f stamp ss)) m k = at_it (same_epoch at e) (same_serial inst i) refl refl k
        where
          at_it : (a b : Bool) → same_epoch at e ≡ a → same_serial inst i ≡ b → cond (a && b) (Some call) (granted_to (entries older) e i) ≡ Some d → granted_to (entries older) e i ≡ Some d
          at_it true true p q z = absurd (m.in_time.new (subst (λ (j : Serial). WasNamed older at j) (sym (same_serial_eq inst i q)) (subst (λ (w : EpochId). WasNamed older w i) (sym (same_epoch_eq at e p)) (released_named c older h e i was))))
          at_it true false p q z = z
          at_it false b p q z = z
      over (Shown r) m k = k
      over _ m k = k

  closing_stays : (d : CallId) (i : Serial) → IsNamed (entries older) d → log (With n x older) d ≡ log older d → Closing c older d i → Closing c (With n x older) d i
  closing_stays d i named same k = (asked_same c older n x d h may named same ∙ k.0, (k.1.0, over (waits_stays c n x older d k.1.0 may k.1.1)))
    where
      turned : (y : Told) → MayTell c older y → log (With n y older) d ≡ log older d → Turns y d → ⊥
      turned (Takes s it request times a) m e turn = not_longer (log older d) (log older d) a refl (sym e ∙ by_own it d (log older d ++ a ∷ []) (log older d) turn)
      turned (LooksAgain s it request times) m e turn = close_looks i m.file m.what (sym m.looks ∙ (ap (λ (z : CallId). asked_now c older z) turn ∙ k.0))
      turned _ m e turn = turn

      over : Waits c (With n x older) d k.1.0 ⊎ Turns x d → Waits c (With n x older) d k.1.0
      over (inl w) = w
      over (inr turn) = absurd (turned x may same turn)

  -- it is closing still; what an answer opens wasn't released
  still : (d : CallId) (i : Serial) → IsNamed (entries older) d → ((a : Answer) → Waits c older d a → OpensIt a i → ⊥) → (has_instances c older d i ≡ true → Closing c older d i) → has_instances c (With n x older) d i ≡ true → Closing c (With n x older) d i
  still d i named opens was has = over x may has (λ same e. closing_stays d i named same e) (λ same. has_stays c n x older h may d named same i)
    where
      over : (y : Told) → MayTell c older y → has_instances c (With n y older) d i ≡ true → (log (With n y older) d ≡ log older d → Closing c older d i → Closing c (With n y older) d i) → (log (With n y older) d ≡ log older d → has_instances c (With n y older) d i ≡ has_instances c older d i) → Closing c (With n y older) d i
      over (Takes s it request times a) m has stay same = at (same_call it d) refl
        where
          now : Told
          now = Takes s it request times a

          taken : it ≡ d → OpensIt a i ⊎ (has_instances c older d i ≡ true) → ⊥
          taken is (inl o) = opens a (subst (λ (z : CallId). Waits c older z a) is m.answer) o
          taken is (inr old) = (let k : Closing c older d i = was old in
              let w : Waits c older d a = subst (λ (z : CallId). Waits c older z a) is m.answer in
              let gone : has_instances c (With n now older) d i ≡ false = ap (λ (b : Bool). cond b (had_after (asked_now c older it) a (has_instances c older d) i) (has_instances c older d i)) (subst (λ (z : CallId). same_call it z ≡ true) is (same_call_own it))
              ∙ (ap (λ (z : CallId). had_after (asked_now c older z) a (has_instances c older d) i) is ∙ (ap (λ (v : Want). had_after v a (has_instances c older d) i) k.0
              ∙ had_closed a (has_instances c older d) i (λ j o. close_opens_none i (sym (ap is_open_want k.0) ∙ ((all_have c older h).awaits d a named w).opens j o)))) in
              true_false (sym has ∙ gone))

          at : (b : Bool) → same_call it d ≡ b → Closing c (With n now older) d i
          at true e = absurd (taken (same_call_eq it d e) (had_from (asked_now c older it) a (has_instances c older d) i (sym (ap (λ (b : Bool). cond b (had_after (asked_now c older it) a (has_instances c older d) i) (has_instances c older d i)) e) ∙ has)))
          at false e = (let l : log (With n now older) d ≡ log older d = ap (λ (b : Bool). cond b (log older d ++ a ∷ []) (log older d)) e in stay l (was (sym (same l) ∙ has)))
      over (Shown r) m has stay same = stay refl (was (sym (same refl) ∙ has))
      over y m has stay same = stay refl (was (sym (same refl) ∙ has))

  -- who asks after the line asked before it
  asked_before : (d : CallId) → IsNamed (entries older) d → is_request (asked_now c (With n x older) d) ≡ true → is_request (asked_now c older d) ≡ true
  asked_before d named asks = over x may asks (λ same. asked_same c older n x d h may named same)
    where
      over : (y : Told) → MayTell c older y → is_request (asked_now c (With n y older) d) ≡ true → (log (With n y older) d ≡ log older d → asked_now c (With n y older) d ≡ asked_now c older d) → is_request (asked_now c older d) ≡ true
      over (Takes s it request times a) m asks same = at (same_call it d) refl
        where
          at : (b : Bool) → same_call it d ≡ b → is_request (asked_now c older d) ≡ true
          at true e = ((all_have c older h).awaits d a named (subst (λ (z : CallId). Waits c older z a) (same_call_eq it d e) m.answer)).asked
          at false e = ap is_request (sym (same (ap (λ (b : Bool). cond b (log older d ++ a ∷ []) (log older d)) e))) ∙ asks
      over (Shown r) m asks same = ap is_request (sym (same refl)) ∙ asks
      over y m asks same = ap is_request (sym (same refl)) ∙ asks

  -- no step answers an open whose instance was released
  step_opens : (r : Record) → MayTell c older (Shown r) → (e : EpochId) (i : Serial) (d : CallId) (a : Answer) → IsCallIn (entries older) e d → StepRecord (entries older) r d → Waits c (With n (Shown r) older) d a → OpensIt a i → WasReleased older e i → ⊥
  step_opens (says.Look at call request f w result) m e i d a inside step waits o was = look_opens c (entries older) f w result i (subst (λ (y : Answer). OpensIt y i) (last_same (log older d) _ a (look_answer c (entries older) f w result) (sym waits ∙ by_own call d _ (heard c older d) step)) o)
  step_opens (says.Refuse at call request inst m f why) may e i d a inside step waits o was = subst (λ (y : Answer). OpensIt y i) (last_same (log older d) (heard c older d) a (answer.Refused why) (sym waits ∙ by_own call d (heard c older d ++ answer.Refused why ∷ []) (heard c older d) step)) o
  step_opens (says.Act at inst number what result) m e i d a inside step waits o was = outcome_opens result i (subst (λ (y : Answer). OpensIt y i) (last_same (log older d) (heard c older d) a (outcome_answer result) (sym waits ∙ by_owner (call_of_act (entries older) at inst number) d (heard c older d ++ outcome_answer result ∷ []) (heard c older d) step)) o)
  step_opens (says.Release at inst f stamp) m e i d a inside step waits o was = close_opens stamp (instance_in (tree_of c at f.group (entries older)) inst) i (subst (λ (y : Answer). OpensIt y i) (last_same (log older d) (heard c older d) a (close_answer stamp (instance_in (tree_of c at f.group (entries older)) inst)) (sym waits ∙ by_owner (call_of_release (entries older) at inst) d (heard c older d ++ close_answer stamp (instance_in (tree_of c at f.group (entries older)) inst) ∷ []) (heard c older d) step)) o)
  step_opens (says.Grant at call request inst m f stamp ss) may e i d a inside step waits o was = may.in_time.new (subst (λ (j : Serial). WasNamed older at j) (sym is) (subst (λ (w : EpochId). WasNamed older w i) (sym there) (released_named c older h e i was)))
    where
      is : inst ≡ i
      is = grant_opens m inst f stamp (kept_in c (entries older) at f) i (subst (λ (y : Answer). OpensIt y i) (last_same (log older d) (heard c older d) a (granted_answer m inst f stamp (kept_in c (entries older) at f)) (sym waits ∙ by_own call d (heard c older d ++ granted_answer m inst f stamp (kept_in c (entries older) at f) ∷ []) (heard c older d) step)) o)

      there : at ≡ e
      there = one_epoch older at e d (subst (IsCallIn (entries older) at) step may.row.opens.step) inside
  step_opens _ m e i d a inside step waits o was = step

  owner_before : Ends c older → (e : EpochId) (i : Serial) (d : CallId) → granted_to (onto_entries n x (entries older)) e i ≡ Some d → has_named (onto_entries n x (entries older)) d ≡ false → has_instances c (With n x older) d i ≡ true → WasReleased older e i → Closing c (With n x older) d i
  owner_before k e i d granted unnamed has was = still d i (g.inside.accepted, g.inside.named) (λ a w o. k.waits e i d a old w o was) (λ had. k.owner e i d old (before x unnamed (has_named (entries older) d) refl) had was) has
    where
      old : granted_to (entries older) e i ≡ Some d
      old = granted_before e i d was granted

      g : GrantIs older e i d
      g = granted_is c older h e i d old

      before : (y : Told) → has_named (onto_entries n y (entries older)) d ≡ false → (b : Bool) → has_named (entries older) d ≡ b → has_named (entries older) d ≡ false
      before (Shown r) k true t = absurd (true_false (sym (named_more n r (entries older) d t) ∙ k))
      before (Shown r) k false t = t
      before y k true t = absurd (true_false (sym t ∙ k))
      before y k false t = t

  waits_before : Ends c older → (e : EpochId) (i : Serial) (d : CallId) (a : Answer) → granted_to (onto_entries n x (entries older)) e i ≡ Some d → Waits c (With n x older) d a → OpensIt a i → WasReleased older e i → ⊥
  waits_before k e i d a granted waits o was = over x may waits (same_told c older n x d)
    where
      old : granted_to (entries older) e i ≡ Some d
      old = granted_before e i d was granted

      over : (y : Told) → MayTell c older y → Waits c (With n y older) d a → Same c older n y d ⊎ (StepOf older y d ⊎ Turns y d) → ⊥
      over y m w (inl s) = k.waits e i d a old (sym s.heard_same ∙ (w ∙ ap (λ (xs : Answers). xs ++ a ∷ []) s.log_same)) o was
      over (Shown r) m w (inr (inl step)) = step_opens r m e i d a (granted_is c older h e i d old).inside step w o was
      over y m w (inr (inr turn)) = not_longer (heard c (With n y older) d) (log (With n y older) d) a (turn_clear c n y older d m turn) w
      over _ m w (inr (inl step)) = step

  asks_before : Ends c older → (e : EpochId) (i : Serial) (d : CallId) → IsCallIn (onto_entries n x (entries older)) e d → is_request (asked_now c (With n x older) d) ≡ true → has_instances c (With n x older) d i ≡ true → WasReleased older e i → Closing c (With n x older) d i
  asks_before k e i d inside asks has was = named_before c n x older d (Closing c (With n x older) d i) may accepted old (inside.accepted, inside.named)
    where
      opens : (k : IsCallIn (entries older) e d) (a : Answer) → Waits c older d a → OpensIt a i → ⊥
      opens here a w o = (let g : (y : EpochId) × IsCallIn (entries older) y d × (granted_to (entries older) y i ≡ Some d) × (has_instances c older d i ≡ false) = ((all_have c older h).awaits d a (here.accepted, here.named) w).opened i o in
          k.waits e i d a (subst (λ (y : EpochId). granted_to (entries older) y i ≡ Some d) (one_epoch older g.0 e d g.1 here) g.2) w o was)

      old : IsNamed (entries older) d → Closing c (With n x older) d i
      old named = (let here : IsCallIn (entries older) e d = record { accepted = named.0; named = named.1; made_in = ap (λ (w : Waiting). w.epoch) (some_same named.0 inside.accepted (sym (named_stays c n x older d h may named ∙ named.1) ∙ inside.named)) ∙ inside.made_in } in
          still d i named (opens here) (λ had. k.asks e i d here (asked_before d named asks) had was) has)

      -- a call that is accepted begins at a descriptor
      accepted : (s process : ℕ) (words : Call) → x ≡ Shown (says.Accept s process d words) → Closing c (With n x older) d i
      accepted s process words is = absurd (k.stands s process f.fd f.stands f.found (subst (λ (j : Serial). WasReleased older f.stands.epoch j) (sym f.serial_is) (subst (λ (y : EpochId). WasReleased older y i) (there ∙ sym f.epoch_is) was)))
        where
          row : MayTell c older (Shown (says.Accept s process d words))
          row = subst (MayTell c older) is may

          untaken : IsNamed (entries older) d ⊎ Untaken c older d → Untaken c older d
          untaken (inl named) = absurd (next_is_new (entries older) s d (calls_are_low c older h d named) (numbered c (entries older) s process d words row.row))
          untaken (inr u) = u

          b : (y : EpochId) × (uses_by (begins_now (entries older) s process d words) y i ≡ true)
          b = begun_uses (begins_now (entries older) s process d words) i (sym (new_has c n s process d words older i (untaken (named_or_untaken c older h d))) ∙ subst (λ (y : Told). has_instances c (With n y older) d i ≡ true) is has)

          f : FromDescriptor (descriptor (entries older) s process) (epoch_of (entries older) s) words b.0 i
          f = uses_from (descriptor (entries older) s process) (epoch_of (entries older) s) d words b.0 i (uses_is (begins_now (entries older) s process d words) b.0 i b.1)

          made : epoch_of (entries older) s ≡ Some e
          made = ap (λ (w : Waiting). w.epoch) (some_same (accepted_as (entries older) s process d words) inside.accepted (sym (ap (λ (t : Bool). cond t (Some (accepted_as (entries older) s process d words)) (call_named (entries older) d)) (same_call_own d))
              ∙ subst (λ (y : Told). call_named (onto_entries n y (entries older)) d ≡ Some inside.accepted) is inside.named)) ∙ inside.made_in

          there : e ≡ b.0
          there = some_same e b.0 (sym made ∙ f.inside)

  stands_before : Ends c older → (s process fd : ℕ) (y : Descriptor) → descriptor (onto_entries n x (entries older)) s process fd ≡ Some y → WasReleased older y.epoch y.inst → ⊥
  stands_before k s process fd y e was = over x may e
    where
      answers : (site user : ℕ) (d : CallId) (r : Reply) → MayTell c older (Shown (says.Answer site user d r)) → (descriptor (entries older) s process fd ≡ Some y) ⊎ NamesNow (entries older) s process fd y site user d r → ⊥
      answers site user d r m (inl old) = k.stands s process fd y old was
      answers site user d r m (inr o) = true_false (sym (ap is_request closing.0) ∙ (naming_reply c older d r m.in_time o.named.names).replies.nothing_asked)
        where
          unnamed : (b : Bool) → has_named (entries older) d ≡ b → has_named (entries older) d ≡ false
          unnamed true t = absurd (waiting_unnamed c older site user d r h m t)
          unnamed false t = t

          closing : Closing c older d y.inst
          closing = k.owner y.epoch y.inst d (named_granted c older h d r fd y o.named) (unnamed (has_named (entries older) d) refl) (named_held c older h d r fd y o.named m.in_time) was

      over : (z : Told) → MayTell c older z → descriptor (onto_entries n z (entries older)) s process fd ≡ Some y → ⊥
      over (Shown (says.Answer site user d r)) m e = answers site user d r m (answer_split (entries older) n site user d r s process fd y e)
      over (Shown r) m e = k.stands s process fd y (left_record (entries older) n r s process fd y (λ k. k) e) was
      over _ m e = k.stands s process fd y e was

-- ---- what is released now ----

module _ (c : Config) (n : ℕ) (at : EpochId) (inst : Serial) (f : FileId) (stamp : Option Stamp) (older : List Line) (h : IsFollowed c older) (may : MayTell c older (Shown (says.Release at inst f stamp))) where
  abbrev now : List Line
  now = With n (Shown (says.Release at inst f stamp)) older

  -- the call that asks the close has its answer
  closes_now : (d : CallId) → may.in_time.call ≡ d → IsNamed (entries older) d → Closing c now d inst
  closes_now d is named = (asked_same c older n (Shown (says.Release at inst f stamp)) d h may named refl ∙ asks.asked, step_record c n (says.Release at inst f stamp) older d may (may.in_time.owner ∙ ap Some is) asks.nothing_waits)
    where
      asks : Asks c older d (want.Close inst)
      asks = subst (λ (z : CallId). Asks c older z (want.Close inst)) is may.in_time.asks

  owner_call : (d : CallId) → granted_to (entries older) at inst ≡ Some d → has_named (entries older) d ≡ false → may.in_time.call ≡ d
  owner_call d granted unnamed = some_same may.in_time.call d (sym may.in_time.owner ∙ (ap (unless_named (entries older) (close_of (entries older) at inst)) granted ∙ ap (λ (b : Bool). cond b (close_of (entries older) at inst) (Some d)) unnamed))

  named_close : (g : CallId) → granted_to (entries older) at inst ≡ Some g → has_named (entries older) g ≡ true → close_of (entries older) at inst ≡ Some may.in_time.call
  named_close g granted named = sym (ap (unless_named (entries older) (close_of (entries older) at inst)) granted ∙ ap (λ (b : Bool). cond b (close_of (entries older) at inst) (Some g)) named) ∙ may.in_time.owner

  owner_now : (d : CallId) → granted_to (entries older) at inst ≡ Some d → has_named (entries older) d ≡ false → Closing c now d inst
  owner_now d granted unnamed = (let g : GrantIs older at inst d = granted_is c older h at inst d granted in closes_now d (owner_call d granted unnamed) (g.inside.accepted, g.inside.named))

  waits_now : (d : CallId) (a : Answer) → granted_to (entries older) at inst ≡ Some d → Waits c now d a → OpensIt a inst → ⊥
  waits_now d a granted waits o = at_it (has_named (entries older) d) refl
    where
      g : GrantIs older at inst d
      g = granted_is c older h at inst d granted

      awaits : Awaits c now d a
      awaits = (all_have c now (may, h)).awaits d a (g.inside.accepted, g.inside.named) waits

      asked : is_request (asked_now c older d) ≡ true
      asked = ap is_request (sym (asked_same c older n (Shown (says.Release at inst f stamp)) d h may (g.inside.accepted, g.inside.named) refl)) ∙ awaits.asked

      at_it : (b : Bool) → has_named (entries older) d ≡ b → ⊥
      at_it true t = true_false (sym asked ∙ (all_done c older h d t).over.asks_nothing)
      at_it false t = true_false (sym had ∙ (awaits.opened inst o).3)
        where
          asks : Asks c older d (want.Close inst)
          asks = subst (λ (z : CallId). Asks c older z (want.Close inst)) (owner_call d granted t) may.in_time.asks

          had : has_instances c now d inst ≡ true
          had = has_stays c n (Shown (says.Release at inst f stamp)) older h may d (g.inside.accepted, g.inside.named) refl inst ∙ subst (IsOf (has_instances c older d)) asks.asked (asks_of_own c older d h (g.inside.accepted, g.inside.named))

  asks_now : (d : CallId) → IsCallIn (entries older) at d → is_request (asked_now c older d) ≡ true → has_instances c older d inst ≡ true → Closing c now d inst
  asks_now d inside asks has = over (subst (λ (y : EpochId). (granted_to (entries older) y inst ≡ Some d) ⊎ IsUser (entries older) y inst d) (one_epoch older held.epoch at d held.inside inside) held.held)
    where
      held : IsHeldBy older d inst
      held = (all_have c older h).held d inst (inside.accepted, inside.named) has

      over : (granted_to (entries older) at inst ≡ Some d) ⊎ IsUser (entries older) at inst d → Closing c now d inst
      over (inl granted) = owner_now d granted (asker_unnamed c older d h asks)
      over (inr u) = closes_now d (sym (one_asks c older at inst d may.in_time.call h u ((are_users c older h at inst).closes may.in_time.call (named_close u.for.granted u.for.is_granted u.for.answered)) asks (asking c older may.in_time.call (want.Close inst) may.in_time.asks))) (inside.accepted, inside.named)

  stands_now : (s process fd : ℕ) (y : Descriptor) → descriptor (entries older) s process fd ≡ Some y → at ≡ y.epoch → inst ≡ y.inst → ⊥
  stands_now s process fd y e there is = none_some may.in_time.call (sym (unclosed c older h s process fd y e) ∙ subst (λ (i : Serial). close_of (entries older) y.epoch i ≡ Some may.in_time.call) is (subst (λ (z : EpochId). close_of (entries older) z inst ≡ Some may.in_time.call) there (named_close g.granted granted g.answered)))
    where
      g : GrantedFor (entries older) y.epoch y.inst s process
      g = stand_for c older h s process fd y e

      granted : granted_to (entries older) at inst ≡ Some g.granted
      granted = subst (λ (z : EpochId). granted_to (entries older) z inst ≡ Some g.granted) (sym there) (subst (λ (i : Serial). granted_to (entries older) y.epoch i ≡ Some g.granted) (sym is) g.is_granted)

-- ---- line by line ----

-- what is told releases it
abbrev NowReleased : List Line → EpochId → Serial → Told → Type 0
NowReleased older e i x = Printed (EndRecord e i) older x

ends_told : (c : Config) (n : ℕ) (x : Told) (older : List Line) → IsFollowed c older → MayTell c older x → Ends c older → Ends c (With n x older)
ends_told c n x older h may k = record {
  owner = λ e i d granted unnamed has was. owner e i d granted unnamed has was;
  waits = λ e i d a granted w o was. waits e i d a granted w o was;
  asks = λ e i d inside k has was. asks e i d inside k has was;
  stands = λ s process fd y e was. stands s process fd y e was;
}
  where
    owner : (e : EpochId) (i : Serial) (d : CallId) → granted_to (onto_entries n x (entries older)) e i ≡ Some d → has_named (onto_entries n x (entries older)) d ≡ false → has_instances c (With n x older) d i ≡ true → WasReleased (With n x older) e i → Closing c (With n x older) d i
    owner e i d granted unnamed has (inr was) = owner_before c n x older h may k e i d granted unnamed has was
    owner e i d granted unnamed has (inl ends) = over x may granted unnamed ends
      where
        over : (y : Told) → MayTell c older y → granted_to (onto_entries n y (entries older)) e i ≡ Some d → has_named (onto_entries n y (entries older)) d ≡ false → NowReleased older e i y → Closing c (With n y older) d i
        over (Shown (says.Release at inst f stamp)) m granted unnamed p = subst (Closing c (With n (Shown (says.Release at inst f stamp)) older) d) p.serial_is
            (owner_now c n at inst f stamp older h m d (subst (λ (z : EpochId). granted_to (entries older) z inst ≡ Some d) (sym p.epoch_is) (subst (λ (j : Serial). granted_to (entries older) e j ≡ Some d) (sym p.serial_is) granted)) unnamed)
        over _ m granted unnamed p = absurd p

    waits : (e : EpochId) (i : Serial) (d : CallId) (a : Answer) → granted_to (onto_entries n x (entries older)) e i ≡ Some d → Waits c (With n x older) d a → OpensIt a i → WasReleased (With n x older) e i → ⊥
    waits e i d a granted w o (inr was) = waits_before c n x older h may k e i d a granted w o was
    waits e i d a granted w o (inl ends) = over x may granted w ends
      where
        over : (y : Told) → MayTell c older y → granted_to (onto_entries n y (entries older)) e i ≡ Some d → Waits c (With n y older) d a → NowReleased older e i y → ⊥
        over (Shown (says.Release at inst f stamp)) m granted w p = waits_now c n at inst f stamp older h m d a (subst (λ (z : EpochId). granted_to (entries older) z inst ≡ Some d) (sym p.epoch_is) (subst (λ (j : Serial). granted_to (entries older) e j ≡ Some d) (sym p.serial_is) granted)) w (subst (OpensIt a) (sym p.serial_is) o)
        over _ m granted w p = absurd p

    asks : (e : EpochId) (i : Serial) (d : CallId) → IsCallIn (onto_entries n x (entries older)) e d → is_request (asked_now c (With n x older) d) ≡ true → has_instances c (With n x older) d i ≡ true → WasReleased (With n x older) e i → Closing c (With n x older) d i
    asks e i d inside a has (inr was) = asks_before c n x older h may k e i d inside a has was
    asks e i d inside a has (inl ends) = over x may inside a has ends
      where
        over : (y : Told) → MayTell c older y → IsCallIn (onto_entries n y (entries older)) e d → is_request (asked_now c (With n y older) d) ≡ true → has_instances c (With n y older) d i ≡ true → NowReleased older e i y → Closing c (With n y older) d i
        over (Shown (says.Release at inst f stamp)) m inside a has p = subst (Closing c (With n (Shown (says.Release at inst f stamp)) older) d) p.serial_is
            (asks_now c n at inst f stamp older h m d (subst (λ (z : EpochId). IsCallIn (entries older) z d) (sym p.epoch_is) here) (ap is_request (sym (asked_same c older n (Shown (says.Release at inst f stamp)) d h m (here.accepted, here.named) refl)) ∙ a)
            (sym (has_stays c n (Shown (says.Release at inst f stamp)) older h m d (here.accepted, here.named) refl inst) ∙ subst (λ (j : Serial). has_instances c (With n (Shown (says.Release at inst f stamp)) older) d j ≡ true) (sym p.serial_is) has))
          where
            here : IsCallIn (entries older) e d
            here = record { accepted = inside.accepted; named = inside.named; made_in = inside.made_in }
        over _ m inside a has p = absurd p

    stands : (s process fd : ℕ) (y : Descriptor) → descriptor (onto_entries n x (entries older)) s process fd ≡ Some y → WasReleased (With n x older) y.epoch y.inst → ⊥
    stands s process fd y e (inr was) = stands_before c n x older h may k s process fd y e was
    stands s process fd y e (inl ends) = over x may e ends
      where
        over : (z : Told) → MayTell c older z → descriptor (onto_entries n z (entries older)) s process fd ≡ Some y → NowReleased older y.epoch y.inst z → ⊥
        over (Shown (says.Release at inst f stamp)) m e p = stands_now c n at inst f stamp older h m s process fd y e p.epoch_is p.serial_is
        over _ m e p = absurd p

ends : (c : Config) (t : List Line) → IsFollowed c t → Ends c t
ends c [] h = record { owner = λ e i d granted. absurd (none_some d granted); waits = λ e i d a granted. absurd (none_some d granted); asks = λ e i d inside. absurd (none_some inside.accepted inside.named); stands = λ s process fd y e. absurd (none_some y e) }
ends c (x ∷ older) h = ends_told c x.number x.told older h.1 h.0 (ends c older h.1)

-- what a call asks something of, and has, isn't released
pub unreleased : (c : Config) (t : List Line) (e : EpochId) (d : CallId) (w : Want) (i : Serial) → IsFollowed c t → IsCallIn (entries t) e d → Asks c t d w → has_instances c t d i ≡ true → WasReleased t e i → ⊥
unreleased c t e d w i h inside asks has was = (let k : Closing c t d i = (ends c t h).asks e i d inside (asking c t d w asks) has was in not_longer (heard c t d) (log t d) k.1.0 asks.nothing_waits k.1.1)

-- what a descriptor stands for isn't released
pub descriptors_stand : (c : Config) (t : List Line) → IsFollowed c t → (s process fd : ℕ) (x : Descriptor) → descriptor (entries t) s process fd ≡ Some x → WasReleased t x.epoch x.inst → ⊥
descriptors_stand c t h = (ends c t h).stands
