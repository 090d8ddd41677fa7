-- An operation that was done under the number that is asked now, and the close of an instance that was released, is answered by what
-- waits for the call that asks it.
use Rattle.std.proofs.Common.{◌≡◌, ℕ, ◌+◌, ◌≤◌, List, [], ◌∷◌, ◌++◌, Option, Some, true, refl, sym, ◌∙◌, ap, subst, arith, ◌⊎◌, inl, inr}
use Rattle.role_steps.proofs.of_plain_facts.Options.{some_same}
use Rattle.locus_ids.specs.declared.config.Config.{Config}
use Rattle.locus_ids.specs.declared.ids.CallId.{CallId}
use Rattle.locus_ids.specs.declared.ids.EpochId.{EpochId}
use Rattle.locus_ids.specs.declared.ids.FileId.{FileId}
use Rattle.locus_ids.specs.declared.ids.Serial.{Serial}
use Rattle.locus_ids.specs.declared.ids.Stamp.{Stamp}
use Rattle.trace_book.specs.declared.operation.Op.{Op}
use Rattle.trace_book.specs.declared.operation.Outcome.{Outcome}
use Rattle.trace_book.specs.declared.operation.Outcome.TheVariants as outcome
use Rattle.trace_book.specs.declared.record.Record.{Record}
use Rattle.trace_book.specs.declared.record.Record.TheVariants as says
use Rattle.call_rules.specs.declared.answer.Answer.{Answer}
use Rattle.call_rules.specs.declared.want.Want.TheVariants as want
use Rattle.role_steps.specs.Using.{op_answer}
use Rattle.role_steps.specs.Views.{Told, Shown}
use Rattle.the_run.specs.Worlds.{Line}
use Rattle.tree_model.specs.declared.instance.Instance.{Instance}
use Rattle.tree_model.specs.Calls.{granted_to}
use Rattle.tree_model.specs.Epochs.{boot_of, epoch_of}
use Rattle.tree_model.specs.Histories.{history}
use Rattle.tree_model.specs.State.{instance_in}
use Rattle.tree_model.specs.Tree.{tree_of}
use Rattle.lawful_trace.specs.Progress.{Answers, close_answer, outcome_answer}
use Rattle.lawful_trace.specs.Tables.{call_of_act, call_of_release}
use Rattle.lawful_trace.specs.TreeRows.{granted_group, IsCallIn}
use Rattle.tree_laws.specs.Printed.{entries}
use Rattle.tree_laws.specs.Calls.{heard, is_request, log, Waits}
use Rattle.tree_laws.specs.Following.{IsFollowed, MayTell}
use Rattle.tree_laws.specs.Holding.{has_instances}
use Rattle.tree_laws.specs.Instances.{instance_now}
use Rattle.tree_laws.specs.Past.{ActRecord, EndRecord, Printed, ReleaseRecord, WasDone, WasNamed, WasReleased, WasReleasedWith}
use Rattle.tree_laws.specs.Serials.{asked_now, ops_asked}
use Rattle.tree_laws.proofs.Alone.{asking}
use Rattle.tree_laws.proofs.Asking.{Same, StepOf, StepRecord, Turns, same_told, waits_stays}
use Rattle.tree_laws.proofs.Awaiting.{all_have, by_owner, held_named, IsHeldBy, turn_clear}
use Rattle.tree_laws.proofs.CarriedOpens.{was_then}
use Rattle.tree_laws.proofs.OneBoot.{boot_where_inside, one_boot}
use Rattle.tree_laws.specs.Orders.ProcessOperations.{OpsAre}
use Rattle.tree_laws.proofs.Orders.ProcessCounted.{ActsRecord, step_acts}
use Rattle.tree_laws.proofs.Orders.ProcessGranting.{GrantIs, granted_is, held_us}
use Rattle.tree_laws.proofs.Orders.ProcessOpen.{granted_open, OpenAs}
use Rattle.tree_laws.proofs.Orders.ProcessOperationsRun.{operations_counted}
use Rattle.tree_laws.proofs.Orders.ProcessTaken.{back_in}
use Rattle.tree_laws.proofs.Orders.ProcessUnreleased.{unreleased}
use Rattle.store_laws.proofs.AnswerAskers.{With, close_had, one_has, op_had, Rests, rests_or_clear}
use Rattle.store_laws.proofs.AnswerDone.{act_next, done_low, done_named, open_before, ops_rise}

do_not_close : (i j : Serial) (o : Op) → want.Do i o ≡ want.Close j → ⊥
do_not_close i j o e = cc

-- ---- who tells an operation or a release ----

-- the call whose operation is told is one of the epoch
pub acter_in : (c : Config) (older : List Line) (e : EpochId) (i : Serial) (n : ℕ) (o : Op) (r : Outcome) (may : MayTell c older (Shown (says.Act e i n o r))) → IsCallIn (entries older) e may.in_time.call
acter_in c older e i n o r may = subst (IsCallIn (entries older) e) (some_same may.row.step.call may.in_time.call (sym may.row.step.owned ∙ may.in_time.owner)) may.row.step.step

pub releaser_in : (c : Config) (older : List Line) (e : EpochId) (i : Serial) (f : FileId) (s : Option Stamp) (may : MayTell c older (Shown (says.Release e i f s))) → IsCallIn (entries older) e may.in_time.call
releaser_in c older e i f s may = subst (IsCallIn (entries older) e) (some_same may.row.step.call may.in_time.call (sym may.row.step.owned ∙ may.in_time.owner)) may.row.step.step

-- the call that has the instance and asks something is the one whose operation of it is told
acts_of : (c : Config) (older : List Line) (e : EpochId) (i : Serial) (n : ℕ) (o : Op) (r : Outcome) → IsFollowed c older → (may : MayTell c older (Shown (says.Act e i n o r))) → (d : CallId) → IsCallIn (entries older) e d → is_request (asked_now c older d) ≡ true → has_instances c older d i ≡ true → d ≡ may.in_time.call
acts_of c older e i n o r h may d inside asks has = (let it : IsCallIn (entries older) e may.in_time.call = acter_in c older e i n o r may in
    one_has c older e i d may.in_time.call h inside it asks (asking c older may.in_time.call (want.Do i o) may.in_time.asks) has (op_had c older may.in_time.call i o h (it.accepted, it.named) may.in_time.asks.asked))

-- or the one whose close of it is told
releases_of : (c : Config) (older : List Line) (e : EpochId) (i : Serial) (f : FileId) (s : Option Stamp) → IsFollowed c older → (may : MayTell c older (Shown (says.Release e i f s))) → (d : CallId) → IsCallIn (entries older) e d → is_request (asked_now c older d) ≡ true → has_instances c older d i ≡ true → d ≡ may.in_time.call
releases_of c older e i f s h may d inside asks has = (let it : IsCallIn (entries older) e may.in_time.call = releaser_in c older e i f s may in
    one_has c older e i d may.in_time.call h inside it asks (asking c older may.in_time.call (want.Close i) may.in_time.asks) has (close_had c older may.in_time.call i h (it.accepted, it.named) may.in_time.asks.asked))

-- ---- what an operation is asked of isn't released ----

op_unreleased : (c : Config) (t : List Line) → IsFollowed c t → (e : EpochId) (d : CallId) (i : Serial) (o : Op) → IsCallIn (entries t) e d → asked_now c t d ≡ want.Do i o → WasReleased t e i → ⊥
op_unreleased c [] h e d i o inside asked was = was
op_unreleased c (x ∷ older) h e d i o inside asked was = over (λ here now k. op_unreleased c older h.1 e d i o here now k) (rests_or_clear c x.number x.told older d h.1 h.0 (inside.accepted, inside.named))
  where
    Before : Type 0
    Before = IsCallIn (entries older) e d → asked_now c older d ≡ want.Do i o → WasReleased older e i → ⊥

    ends : (y : Told) → MayTell c older y → Printed (EndRecord e i) older y → IsCallIn (entries older) e d → asked_now c older d ≡ want.Do i o → ⊥
    ends (Shown (says.Release at inst f s)) may p here now = do_not_close i inst o (sym now ∙ (ap (asked_now c older) (releases_of c older at inst f s h.1 may d (subst (λ (w : EpochId). IsCallIn (entries older) w d) (sym p.epoch_is) here) (ap is_request now)
        (subst (λ (j : Serial). has_instances c older d j ≡ true) (sym p.serial_is) (op_had c older d i o h.1 (here.accepted, here.named) now))) ∙ may.in_time.asks.asked))
    ends _ may p here now = absurd p

    rests : Before → Rests c x.number x.told older d → WasReleased (x ∷ older) e i → ⊥
    rests later r (inl p) = ends x.told h.0 p (back_in c x.number x.told older e d h.1 h.0 inside r.named) (sym r.asked ∙ asked)
    rests later r (inr k) = later (back_in c x.number x.told older e d h.1 h.0 inside r.named) (sym r.asked ∙ asked) k

    over : Before → Rests c x.number x.told older d ⊎ (heard c (x ∷ older) d ≡ log (x ∷ older) d) → ⊥
    over later (inl r) = rests later r was
    over later (inr clear) = unreleased c (x ∷ older) e d (want.Do i o) i h inside (record { asked = asked; request = refl; nothing_waits = clear }) (op_had c (x ∷ older) d i o h (inside.accepted, inside.named) asked) was

-- ---- the answer that waits is that of the last operation ----

-- a step comes where its call asks
step_asks : (c : Config) (older : List Line) (r : Record) (d : CallId) → MayTell c older (Shown r) → StepRecord (entries older) r d → heard c older d ≡ log older d
step_asks c older (says.Look e call request f w result) d m step = subst (λ (y : CallId). heard c older y ≡ log older y) step m.in_time.asks.nothing_waits
step_asks c older (says.Grant e call request i mode f stamp ss) d m step = subst (λ (y : CallId). heard c older y ≡ log older y) step m.in_time.opens.asks.asks.nothing_waits
step_asks c older (says.Refuse e call request i mode f why) d m step = subst (λ (y : CallId). heard c older y ≡ log older y) step m.in_time.opens.asks.asks.nothing_waits
step_asks c older (says.Act e i n o result) d m step = subst (λ (y : CallId). heard c older y ≡ log older y) (some_same m.in_time.call d (sym m.in_time.owner ∙ step)) m.in_time.asks.nothing_waits
step_asks c older (says.Release e i f stamp) d m step = subst (λ (y : CallId). heard c older y ≡ log older y) (some_same m.in_time.call d (sym m.in_time.owner ∙ step)) m.in_time.asks.nothing_waits
step_asks c older _ d m step = absurd step

-- one want asks one operation
one_operation : (inst i : Serial) (done o : Op) → want.Do inst done ≡ want.Do i o → done ≡ o
one_operation inst i done o e = cc

module _ (c : Config) (n : ℕ) (x : Told) (older : List Line) (h : IsFollowed c older) (may : MayTell c older x) (e : EpochId) (d : CallId) (i : Serial) (o : Op) (inside : IsCallIn (entries older) e d) (asked : asked_now c older d ≡ want.Do i o) where
  -- the operation is told now, and it is the one that the call asks
  act_now : (number : ℕ) (what : Op) (r : Outcome) → Printed (ActRecord e i number what r) older x → Waits c (With n x older) d (outcome_answer r) × (what ≡ o)
  act_now number what r p = over x may p
    where
      over : (y : Told) → MayTell c older y → Printed (ActRecord e i number what r) older y → Waits c (With n y older) d (outcome_answer r) × (what ≡ o)
      over (Shown (says.Act at inst m done gave)) k p = (
        by_owner (call_of_act (entries older) at inst m) d (heard c older d ++ outcome_answer gave ∷ []) (heard c older d) (k.in_time.owner ∙ ap Some (sym same))
            ∙ (ap (λ (xs : Answers). xs ++ outcome_answer gave ∷ []) (subst (λ (z : CallId). heard c older z ≡ log older z) (sym same) k.in_time.asks.nothing_waits) ∙ ap (λ (g : Outcome). log older d ++ outcome_answer g ∷ []) p.result_is),
        sym p.operation_is ∙ one_operation inst i done o (sym k.in_time.asks.asked ∙ (ap (asked_now c older) (sym same) ∙ asked)),
      )
        where
          same : d ≡ k.in_time.call
          same = acts_of c older at inst m done gave h k d (subst (λ (w : EpochId). IsCallIn (entries older) w d) (sym p.epoch_is) inside) (ap is_request asked)
              (subst (λ (j : Serial). has_instances c older d j ≡ true) (sym p.serial_is) (op_had c older d i o h (inside.accepted, inside.named) asked))
      over _ k p = absurd p

  -- a step of the call is the next operation, which has a greater number than any that was done
  step_beyond : (number : ℕ) (what : Op) (r : Outcome) (new : Instance) → WasDone older e i number what r → instance_now c (With n x older) e i ≡ Some new → number ≡ new.work.ops → StepOf older x d → ⊥
  step_beyond number what r new was found is step = over x may found (done_named c older h e i number what r was) step
    where
      acts : (y : Record) → MayTell c older (Shown y) → instance_now c (With n (Shown y) older) e i ≡ Some new → WasNamed older e i → ActsRecord e i y → ⊥
      acts (says.Act at inst m done gave) k found named a = (let old : (z : Instance) × (instance_now c older e i ≡ Some z) = open_before c n (Shown (says.Act at inst m done gave)) older h k e i new named found in
          let low : number ≤ old.0.work.ops = done_low c older h e i number what r old.0 was old.1 in
          let there : instance_now c older at inst ≡ Some old.0 = subst (λ (w : EpochId). instance_now c older w inst ≡ Some old.0) (sym a.epoch_is) (subst (λ (j : Serial). instance_now c older e j ≡ Some old.0) (sym a.serial_is) old.1) in
          let next : m ≡ old.0.work.ops + 1 = act_next (history c (entries older)) (tree_of c at (granted_group (entries older) at inst) (entries older)) inst m done gave old.0 there k.row.gives in
          let now : m ≤ new.work.ops = done_low c (With n (Shown (says.Act at inst m done gave)) older) (k, h) e i m done gave new (inl (record { epoch_is = a.epoch_is; serial_is = a.serial_is; number_is = refl; operation_is = refl; result_is = refl })) found in
          omega (arith, low, next, now, is))
      acts _ k found named a = absurd a

      over : (y : Told) → MayTell c older y → instance_now c (With n y older) e i ≡ Some new → WasNamed older e i → StepOf older y d → ⊥
      over (Shown y) k found named step = acts y k found named (step_acts c older y e i d o inside (record { asked = asked; request = refl; nothing_waits = step_asks c older y d k step }) k step)
      over _ k found named step = absurd step

last_waits : (c : Config) (t : List Line) → IsFollowed c t → (e : EpochId) (d : CallId) (i : Serial) (o : Op) (number : ℕ) (what : Op) (r : Outcome) (x : Instance) → IsCallIn (entries t) e d → asked_now c t d ≡ want.Do i o → WasDone t e i number what r → instance_now c t e i ≡ Some x → number ≡ x.work.ops → (heard c t d ≡ log t d → ⊥) → Waits c t d (outcome_answer r) × (what ≡ o)
last_waits c [] h e d i o number what r x inside asked was found is waits = absurd was
last_waits c (y ∷ older) h e d i o number what r x inside asked was found is waits = over (λ z here now k there last not_clear. last_waits c older h.1 e d i o number what r z here now k there last not_clear) (rests_or_clear c y.number y.told older d h.1 h.0 (inside.accepted, inside.named))
  where
    Before : Type 0
    Before = (z : Instance) → IsCallIn (entries older) e d → asked_now c older d ≡ want.Do i o → WasDone older e i number what r → instance_now c older e i ≡ Some z → number ≡ z.work.ops → (heard c older d ≡ log older d → ⊥) → Waits c older d (outcome_answer r) × (what ≡ o)

    rests : Before → Rests c y.number y.told older d → WasDone (y ∷ older) e i number what r → Waits c (y ∷ older) d (outcome_answer r) × (what ≡ o)
    rests later s (inl p) = act_now c y.number y.told older h.1 h.0 e d i o (back_in c y.number y.told older e d h.1 h.0 inside s.named) (sym s.asked ∙ asked) number what r p
    rests later s (inr k) = at (same_told c older y.number y.told d)
      where
        here : IsCallIn (entries older) e d
        here = back_in c y.number y.told older e d h.1 h.0 inside s.named

        named : WasNamed older e i
        named = done_named c older h.1 e i number what r k

        old : (z : Instance) × (instance_now c older e i ≡ Some z)
        old = open_before c y.number y.told older h.1 h.0 e i x named found

        last : number ≡ old.0.work.ops
        last = (let low : number ≤ old.0.work.ops = done_low c older h.1 e i number what r old.0 k old.1 in
            let up : old.0.work.ops ≤ x.work.ops = ops_rise c y.number y.told older h.1 h.0 e i old.0 x named old.1 found in omega (arith, low, up, is))

        at : Same c older y.number y.told d ⊎ (StepOf older y.told d ⊎ Turns y.told d) → Waits c (y ∷ older) d (outcome_answer r) × (what ≡ o)
        at (inl same) = (let was : Waits c older d (outcome_answer r) × (what ≡ o) = later old.0 here (sym s.asked ∙ asked) k old.1 last (λ clear. waits (same.heard_same ∙ (clear ∙ sym same.log_same))) in
            (same.heard_same ∙ (was.0 ∙ ap (λ (xs : Answers). xs ++ outcome_answer r ∷ []) (sym same.log_same)), was.1))
        at (inr (inl step)) = absurd (step_beyond c y.number y.told older h.1 h.0 e d i o here (sym s.asked ∙ asked) number what r x k found is step)
        at (inr (inr turn)) = absurd (waits (turn_clear c y.number y.told older d h.0 turn))

    over : Before → Rests c y.number y.told older d ⊎ (heard c (y ∷ older) d ≡ log (y ∷ older) d) → Waits c (y ∷ older) d (outcome_answer r) × (what ≡ o)
    over later (inl s) = rests later s was
    over later (inr clear) = absurd (waits clear)

-- ---- operations ----

same_answer : (r : Outcome) → outcome_answer r ≡ op_answer r
same_answer (outcome.No why) = refl
same_answer outcome.Done = refl
same_answer (outcome.Found ino kind) = refl
same_answer (outcome.Data bytes) = refl
same_answer (outcome.Committed stamp) = refl

-- an operation that was done under the number that a call asks it now has its answer waiting for the call, and is the one that it asks
pub act_waits : (c : Config) (t : List Line) (e : EpochId) (d : CallId) (i : Serial) (o what : Op) (number : ℕ) (r : Outcome) → IsFollowed c t → IsCallIn (entries t) e d → epoch_of (entries t) d.site ≡ Some e → asked_now c t d ≡ want.Do i o → number ≡ ops_asked c t i → WasDone t e i number what r → Waits c t d (op_answer r) × (what ≡ o)
act_waits c t e d i o what number r h inside there asked counted was = (subst (Waits c t d) (same_answer r) both.0, both.1)
  where
    has : has_instances c t d i ≡ true
    has = op_had c t d i o h (inside.accepted, inside.named) asked

    held : IsHeldBy t d i
    held = (all_have c t h).held d i (inside.accepted, inside.named) has

    g : (g : CallId) × (granted_to (entries t) e i ≡ Some g)
    g = held_named t d i e held inside

    by : GrantIs t e i g.0
    by = granted_is c t h e i g.0 g.1

    site : g.0.site ≡ d.site
    site = sym by.us_is ∙ held_us c t h d i held

    now : g.0.boot ≡ boot_of (entries t) g.0.site
    now = one_boot c t e g.0 d h by.inside inside site ∙ (boot_where_inside c t d e h inside there ∙ ap (boot_of (entries t)) (sym site))

    live : WasReleased t e i → ⊥
    live = op_unreleased c t h e d i o inside asked

    opened : OpenAs c t e g.0 i by.mode by.file by.place
    opened = granted_open c t h e g.0 by.request i by.mode by.file by.stamp by.place by.was_granted live

    ops : OpsAre c t e i opened.at
    ops = operations_counted c t h e i g.0 g.1 now live opened.at opened.found

    low : number ≤ opened.at.work.ops
    low = done_low c t h e i number what r opened.at was opened.found

    unclear : heard c t d ≡ log t d → ⊥
    unclear clear = over ops
      where
        over : OpsAre c t e i opened.at → ⊥
        over (inl a) = a.nobody d o inside (record { asked = asked; request = refl; nothing_waits = clear })
        over (inr a) = (let l : number ≤ opened.at.work.ops = low in let k : ops_asked c t i ≡ opened.at.work.ops + 1 = a.count in let m : number ≡ ops_asked c t i = counted in omega (arith, l, k, m))

    last : number ≡ opened.at.work.ops
    last = over ops
      where
        over : OpsAre c t e i opened.at → number ≡ opened.at.work.ops
        over (inl a) = counted ∙ a.count
        over (inr a) = absurd (unclear (subst (λ (z : CallId). heard c t z ≡ log t z) (sym same) a.somebody.asks.nothing_waits))
          where
            same : d ≡ a.somebody.call
            same = one_has c t e i d a.somebody.call h inside a.somebody.inside (ap is_request asked) (asking c t a.somebody.call (want.Do i a.somebody.operation) a.somebody.asks) has (op_had c t a.somebody.call i a.somebody.operation h (a.somebody.inside.accepted, a.somebody.inside.named) a.somebody.asks.asked)

    both : Waits c t d (outcome_answer r) × (what ≡ o)
    both = last_waits c t h e d i o number what r opened.at inside asked was opened.found last unclear

-- ---- closes ----

-- an instance that was released, and whose close a call asks now, has the answer waiting for the call
pub close_waits : (c : Config) (t : List Line) → IsFollowed c t → (e : EpochId) (d : CallId) (i : Serial) (stamp : Option Stamp) (b : Answer) → IsCallIn (entries t) e d → asked_now c t d ≡ want.Close i → WasReleasedWith c t e i stamp b → Waits c t d b
close_waits c [] h e d i stamp b inside asked was = absurd was
close_waits c (x ∷ older) h e d i stamp b inside asked was = over (λ here now k. close_waits c older h.1 e d i stamp b here now k) (rests_or_clear c x.number x.told older d h.1 h.0 (inside.accepted, inside.named))
  where
    Before : Type 0
    Before = IsCallIn (entries older) e d → asked_now c older d ≡ want.Close i → WasReleasedWith c older e i stamp b → Waits c older d b

    ended : (past : List Line) (y : Told) → Printed (ReleaseRecord c e i stamp b) past y → Printed (EndRecord e i) past y
    ended past (Shown (says.Release at inst f s)) p = record { epoch_is = p.epoch_is; serial_is = p.serial_is }
    ended past _ p = absurd p

    unclear : heard c (x ∷ older) d ≡ log (x ∷ older) d → ⊥
    unclear clear = unreleased c (x ∷ older) e d (want.Close i) i h inside (record { asked = asked; request = refl; nothing_waits = clear }) (close_had c (x ∷ older) d i h (inside.accepted, inside.named) asked)
        (was_then (Printed (ReleaseRecord c e i stamp b)) (Printed (EndRecord e i)) ended (x ∷ older) was)

    now : (y : Told) → MayTell c older y → Printed (ReleaseRecord c e i stamp b) older y → IsCallIn (entries older) e d → asked_now c older d ≡ want.Close i → Waits c (With x.number y older) d b
    now (Shown (says.Release at inst f s)) k p here asks = by_owner (call_of_release (entries older) at inst) d _ (heard c older d) (k.in_time.owner ∙ ap Some (sym same))
        ∙ (ap (λ (xs : Answers). xs ++ close_answer s (instance_in (tree_of c at f.group (entries older)) inst) ∷ []) (subst (λ (z : CallId). heard c older z ≡ log older z) (sym same) k.in_time.asks.nothing_waits)
        ∙ ap (λ (y : Answer). log older d ++ y ∷ []) (ap (λ (w : EpochId). close_answer s (instance_in (tree_of c w f.group (entries older)) inst)) p.epoch_is ∙ p.answer_is))
      where
        same : d ≡ k.in_time.call
        same = releases_of c older at inst f s h.1 k d (subst (λ (w : EpochId). IsCallIn (entries older) w d) (sym p.epoch_is) here) (ap is_request asks)
            (subst (λ (j : Serial). has_instances c older d j ≡ true) (sym p.serial_is) (close_had c older d i h.1 (here.accepted, here.named) asks))
    now _ k p here asks = absurd p

    rests : Before → Rests c x.number x.told older d → WasReleasedWith c (x ∷ older) e i stamp b → Waits c (x ∷ older) d b
    rests later s (inl p) = now x.told h.0 p (back_in c x.number x.told older e d h.1 h.0 inside s.named) (sym s.asked ∙ asked)
    rests later s (inr k) = at (waits_stays c x.number x.told older d b h.0 (later (back_in c x.number x.told older e d h.1 h.0 inside s.named) (sym s.asked ∙ asked) k))
      where
        at : Waits c (x ∷ older) d b ⊎ Turns x.told d → Waits c (x ∷ older) d b
        at (inl w) = w
        at (inr turn) = absurd (unclear (turn_clear c x.number x.told older d h.0 turn))

    over : Before → Rests c x.number x.told older d ⊎ (heard c (x ∷ older) d ≡ log (x ∷ older) d) → Waits c (x ∷ older) d b
    over later (inl s) = rests later s was
    over later (inr clear) = absurd (unclear clear)
