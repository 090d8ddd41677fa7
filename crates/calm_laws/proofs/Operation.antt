-- An operation comes to the storage site that runs its instance: it is done, or answered again.
use Rattle.std.proofs.Common.{◌≡◌, ℕ, ◌+◌, ◌==◌, ◌≤◌, ◌⊎◌, Bool, true, false, List, [], ◌∷◌, Option, Some, None, refl, sym, ◌∙◌, ap, subst, inl, inr, arith}
use Rattle.std.proofs.lemmas.Bool.Decides.{nat_tests}
use Rattle.role_steps.proofs.of_plain_facts.Numbers.{equal_test}
use Rattle.role_steps.proofs.of_plain_facts.Options.{some_same}
use Rattle.locus_ids.specs.declared.config.Config.{Config}
use Rattle.locus_ids.specs.declared.ids.CallId.{CallId}
use Rattle.locus_ids.specs.declared.ids.EpochId.{EpochId}
use Rattle.locus_ids.specs.declared.ids.FileId.{FileId}
use Rattle.locus_ids.specs.declared.ids.Serial.{Serial}
use Rattle.locus_ids.specs.declared.ids.Stamp.{Stamp}
use Rattle.locus_ids.specs.declared.refusal.Refusal.TheVariants as refusal
use Rattle.locus_ids.specs.Sizes.{sites_max}
use Rattle.trace_book.specs.declared.operation.Op.{Op}
use Rattle.trace_book.specs.declared.operation.Op.TheVariants as op
use Rattle.trace_book.specs.declared.operation.Outcome.{Outcome as Result}
use Rattle.trace_book.specs.declared.operation.Outcome.TheVariants as result
use Rattle.trace_book.specs.declared.record.Record.TheVariants as says
use Rattle.call_rules.specs.declared.want.Want.TheVariants as want
use Rattle.dir_reconcile.specs.of_dir_format.Entries.{nothing_seen}
use Rattle.file_effects.specs.Effects.{Effect}
use Rattle.file_effects.specs.Works.{aborted, counted, operated, result_in}
use Rattle.file_effects.specs.declared.work.Work.{Work}
use Rattle.wire_messages.specs.declared.body.Body.{Body}
use Rattle.wire_messages.specs.declared.body.Body.TheVariants as body
use Rattle.wire_messages.specs.declared.body.ReportedCopy.{ReportedCopy}
use Rattle.wire_messages.specs.declared.packet.Packet.{Packet}
use Rattle.role_steps.specs.Mends.{mending}
use Rattle.role_steps.specs.OperationEffects.{Mending, effect_of}
use Rattle.role_steps.specs.Operations.{acts, acts_committed, by_number, commit_op, commits_owing, executes, executes_effect, last_committed, nothing_to_mend, on_op, on_op_at, on_op_of, on_read_held, op_again}
use Rattle.role_steps.specs.Storage.{commits, content_of, copy_of, free_pages, instance_committed, instance_key, instance_of, is_spent, next_stamp, next_vector, with_commit}
use Rattle.role_steps.specs.Using.{answers_op, close_answer}
use Rattle.role_steps.specs.Views.{Frame, Store, SiteView, Told, Shown, Outcome, and_then, packet, quiet, serial_key}
use Rattle.role_steps.specs.declared.instances.Instance.{Instance}
use Rattle.role_steps.specs.declared.instances.Stage.{Stage}
use Rattle.role_steps.specs.declared.instances.Stage.TheVariants as stage
use Rattle.role_steps.specs.declared.rounds.InEpoch.{InEpoch}
use Rattle.role_steps.specs.declared.users.Asking.{Asking}
use Rattle.role_steps.specs.declared.users.Asking.TheVariants as asking
use Rattle.role_steps.specs.declared.users.WaitingCall.{WaitingCall}
use Rattle.the_run.specs.Kept.{Among}
use Rattle.the_run.specs.Steps.{at_store, from_user, group_of, takes_inside}
use Rattle.the_run.specs.Worlds.{Line, place_at, World, Running}
use Rattle.run_laws.specs.Epochs.Forming.{FormsNone}
use Rattle.run_laws.specs.Epochs.Known.{Places}
use Rattle.store_laws.proofs.Tabled.{latest_same, row_found}
use Rattle.tree_laws.specs.Packets.{OpFact, OpsNow, PacketFact, serial_of}
use Rattle.tree_laws.specs.Past.{ActRecord, EndRecord, Printed, WasBegun, WasDone, WasNamed, WasReleased, WasReleasedWith}
use Rattle.store_laws.specs.OneTree.Places.{InsideFact}
use Rattle.store_laws.specs.OneTree.Rest.{Past}
use Rattle.calm_laws.specs.Carrying.{frame_of, Goes, IsUnended, own_serial, AnswersHeld, AnswersOp, CarriesOp, Carries, IsMember}
use Rattle.calm_laws.specs.Rounds.{CarriesOn, IsOp, IsInRound}
use Rattle.role_steps.specs.Own.{Every}
use Rattle.role_steps.specs.Reports.{stamp_made}
use Rattle.role_steps.specs.Requests.{operation_body, request_packets}
use Rattle.tree_model.specs.declared.accepted.Waiting.{Waiting}
use Rattle.tree_model.specs.declared.instance.Instance.{Instance as Open}
use Rattle.tree_model.specs.Calls.{granted_to}
use Rattle.tree_model.specs.Epochs.{boot_of}
use Rattle.tree_model.specs.Histories.{history}
use Rattle.tree_model.specs.Tree.{tree_of}
use Rattle.lawful_trace.specs.TreeRows.{IsCallIn, granted_group}
use Rattle.tree_laws.specs.Calls.{heard, is_request, log}
use Rattle.tree_laws.specs.Doing.{FrameFact}
use Rattle.tree_laws.specs.Following.{IsFollowed, MayTell}
use Rattle.tree_laws.specs.Holding.{has_instances}
use Rattle.tree_laws.specs.Instances.{instance_now}
use Rattle.tree_laws.specs.Printed.{entries}
use Rattle.tree_laws.specs.Serials.{asked_now, ops_asked}
use Rattle.tree_laws.specs.Stores.{AnsweredFact, EndsAs, InstanceFact, RunsAs, WorksAs}
use Rattle.tree_laws.specs.Stores as stores
use Rattle.tree_laws.specs.Users.{own_call, WaitingFact}
use Rattle.tree_laws.proofs.Alone.{asking as asking_now}
use Rattle.tree_laws.proofs.Awaiting.{IsHeldBy, all_have, held_named}
use Rattle.tree_laws.proofs.Grants.{open_named}
use Rattle.tree_laws.proofs.OneBoot.{boot_where_inside, one_boot}
use Rattle.rest_laws.specs.of_tree_laws.Orders.ProcessOperations.{OpsAre}
use Rattle.rest_laws.proofs.of_tree_laws.Orders.ProcessGranting.{GrantIs, granted_is, held_us}
use Rattle.rest_laws.proofs.of_tree_laws.Orders.ProcessOperationsRun.{operations_counted}
use Rattle.rest_laws.proofs.of_tree_laws.Orders.ProcessTaken.{back_in}
use Rattle.rest_laws.proofs.of_tree_laws.Orders.ProcessUnreleased.{unreleased}
use Rattle.store_laws.proofs.AnswerAskers.{Rests, close_had, one_has, op_had, rests_or_clear}
use Rattle.store_laws.proofs.AnswerDone.{act_next, done_low, done_named}
use Rattle.store_laws.proofs.Holdings.Released.{released_shut}
use Rattle.site_laws.specs.Locks.Asked.{AskedBegun}
use Rattle.row_laws.specs.Orderly.Calm.{IsInside, AreTogether}
use Rattle.row_laws.proofs.Orderly.Places.{view_eq}
use Rattle.calm_laws.proofs.Asked.{Uses, op_number, op_wanted, uses_op}
use Rattle.calm_laws.proofs.Begun.{asked_here, round_begun}
use Rattle.calm_laws.proofs.CloseAgreed.{member_low, past_of, same_instance}
use Rattle.calm_laws.proofs.Delivered.{inside_fact}
use Rattle.calm_laws.proofs.Facts.{RoundFacts, round_facts}
use Rattle.calm_laws.proofs.Handing.{StillWaits}
use Rattle.calm_laws.proofs.HeldOperation.{FormsAnswer, InForm, IsDoneSent, form_view, held_answer}
use Rattle.calm_laws.proofs.Lists.{every_among}
use Rattle.calm_laws.proofs.OpenAtStorage.{release_of}
use Rattle.calm_laws.proofs.Rows.{AllGoToMembers, TriesNone}
use Rattle.calm_laws.proofs.Carriers.{of_kind, MayCarry, carrier_kind}
use Rattle.calm_laws.proofs.CloseRequest.{puts_unended}
use Rattle.calm_laws.proofs.StoreRows.{StoreHas, InstancesGoOn, store_row}
use Rattle.schedule_lines.specs.declared.line.ScheduleLine.{ScheduleLine}

-- ---- what is done ----

-- What a call asks of a running instance, as its next operation, is done there and answered by a result of its sort; and so was each
-- that was done.
pub record OperationsAreDone (c : Config) (e : InEpoch) (w : World) : Type 0 where
  pub done : (m : ℕ) (v : SiteView) → IsMember e m → place_at w m ≡ Some (Running v) → (i : Instance) → instance_of v.store i.inst ≡ Some i → i.stage ≡ stage.Running → (n : ℕ) (o : Op) (seen : List ℕ) → OpsNow c w.trace e.id m i.inst n o seen → n ≡ i.work.ops + 1 →
      (r : Result) × Among (packet (frame_of c e m) i.inst.us (body.OpDone i.inst.serial n r)) (executes (frame_of c e m) (mending v i.file.group) i o seen v.store).sent × (answers_op o r ≡ true)
  pub fits : (i : Serial) (n : ℕ) (o p : Op) (r s : Result) → WasDone w.trace e.id i n o r → WasDone w.trace e.id i n p s → answers_op o s ≡ true

-- ---- the instances go on ----

module _ (f : Frame) where
  acts_stay : (i : Instance) (o : Op) (r : Result) (w : Work) (s : Store) (inst : Serial) → IsUnended i.stage → StoreHas s inst → StoreHas (acts f i o r w s).view inst
  acts_stay i o r w s inst u h = puts_unended s (record i { work = w; answered = Some r }) u inst h

  effect_stay : (i : Instance) (o : Op) (e : Option Effect) (s : Store) (inst : Serial) → IsUnended i.stage → StoreHas s inst → StoreHas (executes_effect f i o e s).view inst
  effect_stay i o None s inst u h = h
  effect_stay i o (Some e) s inst u h = acts_stay i o (result_in (free_pages s i.file.group) i.work.changed e) (operated e (result_in (free_pages s i.file.group) i.work.changed e) i.work) s inst u h

  committed_stay : (stamp : Stamp) (o : Option Instance) (j : Instance) (s : Store) (inst : Serial) → o ≡ Some j → IsUnended j.stage → StoreHas s inst → StoreHas (acts_committed f stamp o s).view inst
  committed_stay stamp o j s inst e u h = subst (λ (z : Option Instance). StoreHas (acts_committed f stamp z s).view inst) (sym e) (acts_stay j op.Commit (result.Committed stamp) (counted j.work) s inst u h)

  owing_stay : (i : Instance) (s : Store) (inst : Serial) → IsUnended i.stage → StoreHas s inst → StoreHas (commits_owing f i s).view inst
  owing_stay i s inst u h = elim (is_spent f i) as (λ b. StoreHas (elim b as (λ (x : Bool). Outcome Store) [ true ↦ acts f i op.Commit (result.No refusal.Spent) (counted i.work) s | false ↦ and_then (commits f i s) (λ now. acts_committed f (next_stamp f (next_vector f i)) (instance_of now i.inst) now) ]).view inst) [
    | true ↦ acts_stay i op.Commit (result.No refusal.Spent) (counted i.work) s inst u h
    | false ↦ committed_stay (next_stamp f (next_vector f i)) (instance_of (commits f i s).view i.inst) j (commits f i s).view inst (latest_same instance_key j s.instances) u kept
  ]
    where
      j : Instance
      j = instance_committed i (next_vector f i) (next_stamp f (next_vector f i))

      copied : Store
      copied = with_commit i (next_vector f i) (next_stamp f (next_vector f i)) s

      kept : StoreHas (commits f i s).view inst
      kept = puts_unended copied j u inst (record { instance = h.instance; found = h.found; unended = h.unended })

  last_stay : (i : Instance) (o : Option Stamp) (s : Store) (inst : Serial) → IsUnended i.stage → StoreHas s inst → StoreHas (last_committed f i o s).view inst
  last_stay i None s inst u h = h
  last_stay i (Some stamp) s inst u h = acts_stay i op.Commit (result.Committed stamp) (counted i.work) s inst u h

  commit_stay : (i : Instance) (s : Store) (inst : Serial) → IsUnended i.stage → StoreHas s inst → StoreHas (commit_op f i s).view inst
  commit_stay i s inst u h = elim i.work.owes as (λ b. StoreHas (elim b as (λ (x : Bool). Outcome Store) [ true ↦ commits_owing f i s | false ↦ last_committed f i i.work.last s ]).view inst) [
    | true ↦ owing_stay i s inst u h
    | false ↦ last_stay i i.work.last s inst u h
  ]

  executes_stay : (m : Mending) (i : Instance) (o : Op) (seen : List ℕ) (s : Store) (inst : Serial) → IsUnended i.stage → StoreHas s inst → StoreHas (executes f m i o seen s).view inst
  executes_stay m i op.Commit seen s inst u h = commit_stay i s inst u h
  executes_stay m i op.Abort seen s inst u h = acts_stay i op.Abort result.Done (aborted i.mode (content_of (copy_of s i.file)) i.work) s inst u h
  executes_stay m i o seen s inst u h = effect_stay i o (effect_of o seen m i.work.content) s inst u h

  number_stay : (m : Mending) (i : Instance) (n : ℕ) (o : Op) (seen : List ℕ) (s : Store) (inst : Serial) → IsUnended i.stage → StoreHas s inst → StoreHas (by_number f m i n o seen s).view inst
  number_stay m i n o seen s inst u h = over (n == i.work.ops) (n == i.work.ops + 1)
    where
      over : (a b : Bool) → StoreHas (elim a as (λ (x : Bool). Outcome Store) [ true ↦ record { view = s; sent = op_again f i n i.answered; told = []; written = None } | false ↦ elim b as (λ (x : Bool). Outcome Store) [ true ↦ executes f m i o seen s | false ↦ quiet s ] ]).view inst
      over true b = h
      over false true = executes_stay m i o seen s inst u h
      over false false = h

  at_stay : (m : Mending) (i : Instance) (z : Stage) (n : ℕ) (o : Op) (seen : List ℕ) (s : Store) (inst : Serial) → i.stage ≡ z → StoreHas s inst → StoreHas (on_op_at f m i z n o seen s).view inst
  at_stay m i stage.Running n o seen s inst is h = number_stay m i n o seen s inst (subst IsUnended (sym is) tt) h
  at_stay m i _ n o seen s inst is h = h

  pub operations_stay : (m : Mending) (named : Serial) (n : ℕ) (o : Op) (seen : List ℕ) (s : Store) (inst : Serial) → StoreHas s inst → StoreHas (on_op f m named n o seen s).view inst
  operations_stay m named n o seen s inst h = over (instance_of s named)
    where
      over : (z : Option Instance) → StoreHas (on_op_of f m z n o seen s).view inst
      over None = h
      over (Some i) = at_stay m i i.stage n o seen s inst refl h

-- a read whose asker has the bytes leaves the instances too
held_stay : (f : Frame) (named : Serial) (n at len : ℕ) (s : Store) (inst : Serial) → StoreHas s inst → StoreHas (on_read_held f named n at len s).view inst
held_stay f named n at len s inst h = subst (λ (t : Store). StoreHas t inst) (sym (form_view (instance_of s named) (on_op f nothing_to_mend named n (op.Read at len) nothing_seen s))) (operations_stay f nothing_to_mend named n (op.Read at len) nothing_seen s inst h)

-- ---- what a call asks an operation of isn't released ----

do_close : (i j : Serial) (o : Op) → want.Do i o ≡ want.Close j → ⊥
do_close i j o e = cc

released_by : (c : Config) (older : List Line) (e : EpochId) (i : Serial) (f : FileId) (s : Option Stamp) → IsFollowed c older → (may : MayTell c older (Shown (says.Release e i f s))) → (d : CallId) → IsCallIn (entries older) e d → is_request (asked_now c older d) ≡ true → has_instances c older d i ≡ true → d ≡ may.in_time.call
released_by c older e i f s h may d inside asks has = one_has c older e i d may.in_time.call h inside it asks (asking_now c older may.in_time.call (want.Close i) may.in_time.asks) has (close_had c older may.in_time.call i h (it.accepted, it.named) may.in_time.asks.asked)
  where
    it : IsCallIn (entries older) e may.in_time.call
    it = subst (IsCallIn (entries older) e) (some_same may.row.step.call may.in_time.call (sym may.row.step.owned ∙ may.in_time.owner)) may.row.step.step

asked_unreleased : (c : Config) (t : List Line) → IsFollowed c t → (e : EpochId) (d : CallId) (i : Serial) (o : Op) → IsCallIn (entries t) e d → asked_now c t d ≡ want.Do i o → WasReleased t e i → ⊥
asked_unreleased c [] h e d i o inside asked was = was
asked_unreleased c (x ∷ older) h e d i o inside asked was = over (λ here now k. asked_unreleased c older h.1 e d i o here now k) (rests_or_clear c x.number x.told older d h.1 h.0 (inside.accepted, inside.named))
  where
    Before : Type 0
    Before = IsCallIn (entries older) e d → asked_now c older d ≡ want.Do i o → WasReleased older e i → ⊥

    ends : (y : Told) → MayTell c older y → Printed (EndRecord e i) older y → IsCallIn (entries older) e d → asked_now c older d ≡ want.Do i o → ⊥
    ends (Shown (says.Release at inst f s)) may p here now = do_close i inst o (sym now ∙ (ap (asked_now c older) (released_by c older at inst f s h.1 may d (subst (λ (w : EpochId). IsCallIn (entries older) w d) (sym p.epoch_is) here) (ap is_request now)
        (subst (λ (j : Serial). has_instances c older d j ≡ true) (sym p.serial_is) (op_had c older d i o h.1 (here.accepted, here.named) now))) ∙ may.in_time.asks.asked))
    ends _ may p here now = absurd p

    rests : Before → Rests c x.number x.told older d → WasReleased (x ∷ older) e i → ⊥
    rests later r (inl p) = ends x.told h.0 p (back_in c x.number x.told older e d h.1 h.0 inside r.named) (sym r.asked ∙ asked)
    rests later r (inr k) = later (back_in c x.number x.told older e d h.1 h.0 inside r.named) (sym r.asked ∙ asked) k

    over : Before → Rests c x.number x.told older d ⊎ (heard c (x ∷ older) d ≡ log (x ∷ older) d) → ⊥
    over later (inl r) = rests later r was
    over later (inr clear) = unreleased c (x ∷ older) e d (want.Do i o) i h inside (record { asked = asked; request = refl; nothing_waits = clear }) (op_had c (x ∷ older) d i o h (inside.accepted, inside.named) asked) was

-- operations are numbered from 1
done_positive : (c : Config) (t : List Line) → IsFollowed c t → (e : EpochId) (i : Serial) (n : ℕ) (o : Op) (r : Result) → WasDone t e i n o r → n ≡ 0 → ⊥
done_positive c [] h e i n o r k z = k
done_positive c (x ∷ older) h e i n o r (inr k) z = done_positive c older h.1 e i n o r k z
done_positive c (x ∷ older) h e i n o r (inl k) z = over x.told h.0 k
  where
    above : (a b d : ℕ) → a ≡ b + 1 → a ≡ d → d ≡ 0 → ⊥
    above a b d p q s = omega (arith, p, q, s)

    over : (y : Told) → MayTell c older y → Printed (ActRecord e i n o r) older y → ⊥
    over (Shown (says.Act at inst number what gave)) may p = above number may.in_time.at.work.ops n (act_next (history c (entries older)) (tree_of c at (granted_group (entries older) at inst) (entries older)) inst number what gave may.in_time.at may.in_time.open_at.found may.row.gives) p.number_is z
    over _ may p = absurd p

-- ---- the number of what is asked ----

-- it is the last one that was done, and whose answer is on its way, or the next one
counted_now : (c : Config) (t : List Line) (f : Frame) (y : WaitingCall) (serial n : ℕ) (o : Op) → IsFollowed c t → FrameFact c t f → WaitingFact c t f y → asked_now c t (own_call f.me f.boot y.call) ≡ want.Do (serial_of f.me serial) o → n ≡ ops_asked c t (serial_of f.me serial) →
    (x : Open) → instance_now c t f.epoch (serial_of f.me serial) ≡ Some x → n ≤ x.work.ops → n ≡ x.work.ops
counted_now c t f y serial n o h frame fact asked count x found low = over (operations_counted c t h f.epoch i g.0 g.1 now (λ was. released_shut c t h f.epoch i x was found) x found)
  where
    i : Serial
    i = serial_of f.me serial

    d : CallId
    d = own_call f.me f.boot y.call

    inside : IsCallIn (entries t) f.epoch d
    inside = record { accepted = fact.caller; named = fact.named; made_in = ap (λ (w : Waiting). w.epoch) fact.caller_is }

    held : IsHeldBy t d i
    held = (all_have c t h).held d i (inside.accepted, inside.named) (op_had c t d i o h (inside.accepted, inside.named) asked)

    g : (g : CallId) × (granted_to (entries t) f.epoch i ≡ Some g)
    g = held_named t d i f.epoch held inside

    by : GrantIs t f.epoch i g.0
    by = granted_is c t h f.epoch i g.0 g.1

    site : g.0.site ≡ d.site
    site = sym by.us_is ∙ held_us c t h d i held

    now : g.0.boot ≡ boot_of (entries t) g.0.site
    now = one_boot c t f.epoch g.0 d h by.inside inside site ∙ (boot_where_inside c t d f.epoch h inside frame.inside ∙ ap (boot_of (entries t)) (sym site))

    never : (a b : ℕ) → a ≤ b → a ≡ b + 1 → ⊥
    never a b p q = omega (arith, p, q)

    over : OpsAre c t f.epoch i x → n ≡ x.work.ops
    over (inl k) = count ∙ k.count
    over (inr k) = absurd (never n x.work.ops low (count ∙ k.count))

-- ---- the answer ----

next_number : (a b : ℕ) → a ≡ b + 1 → ((a == b) ≡ false) × ((a == b + 1) ≡ true)
next_number a b e = (grind (arith, nat_tests), grind (arith, nat_tests))

-- the last one is answered again
again_sent : (c : Config) (w : World) (e : InEpoch) → OperationsAreDone c e w → Past c w.trace → (m : ℕ) (i : Instance) (n : ℕ) (o : Op) (was : Result) (s : Store) → WasDone w.trace e.id i.inst n o was → n ≡ i.work.ops → (k : Option Result) → AnsweredFact w.trace (frame_of c e m) i k →
    IsDoneSent c e m i.inst n o (record { view = s; sent = op_again (frame_of c e m) i n k; told = []; written = None })
again_sent c w e left past m i n o was s done last None fact = absurd (done_positive c w.trace past.followed e.id i.inst n o was done (last ∙ fact))
again_sent c w e left past m i n o was s done last (Some r) fact = (r, inl refl, left.fits i.inst n o fact.0 was r done (subst (λ (k : ℕ). WasDone w.trace e.id i.inst k fact.0 r) (sym last) fact.1))

-- ---- which calls it carries ----

asks_op : (c : Config) (e : InEpoch) (s serial ss n : ℕ) (copied : Option (List ℕ)) (o : Op) (seen : List ℕ) (p : Packet) → IsOp p.body → CarriesOp c e s serial ss n copied o seen p → Goes c e s ss (operation_body copied serial n o seen) p
asks_op c e s serial ss n copied o seen p k (inl g) = g
asks_op c e s serial ss n copied o seen p k (inr (inl h)) = absurd (of_kind IsOp c e ss s (body.OpDone serial n h.result) p k h.goes)
asks_op c e s serial ss n copied o seen p k (inr (inr h)) = absurd (of_kind IsOp c e ss s (body.AsHeld serial n h.many) p k h.goes)

other_kind : (a : Asking) (b : Body) → IsOp b → ((serial ss n : ℕ) (o : Op) (seen : List ℕ) → a ≡ asking.Op serial ss n o seen → ⊥) → MayCarry a b → ⊥
other_kind (asking.Op serial ss n o seen) b k not j = not serial ss n o seen refl
other_kind (asking.Look file what take) (body.Op serial n o seen) k not j = j
other_kind (asking.Look file what take) (body.ReadHeld serial n at len) k not j = j
other_kind (asking.Look file what take) _ k not j = k
other_kind (asking.Open serial file how) (body.Op number n o seen) k not j = j
other_kind (asking.Open serial file how) (body.ReadHeld number n at len) k not j = j
other_kind (asking.Open serial file how) _ k not j = k
other_kind (asking.Close serial ss) (body.Op number n o seen) k not j = j
other_kind (asking.Close serial ss) (body.ReadHeld number n at len) k not j = j
other_kind (asking.Close serial ss) _ k not j = k

look_op : (file : _) (what : _) (take serial ss n : ℕ) (o : Op) (seen : List ℕ) → asking.Look file what take ≡ asking.Op serial ss n o seen → ⊥
look_op file what take serial ss n o seen e = cc

open_op : (serial : ℕ) (file : _) (how : _) (number ss n : ℕ) (o : Op) (seen : List ℕ) → asking.Open serial file how ≡ asking.Op number ss n o seen → ⊥
open_op serial file how number ss n o seen e = cc

close_op : (serial place number ss n : ℕ) (o : Op) (seen : List ℕ) → asking.Close serial place ≡ asking.Op number ss n o seen → ⊥
close_op serial place number ss n o seen e = cc

-- ---- the row ----

abbrev on_asked : Frame → ℕ → Body → SiteView → Store → Outcome Store
on_asked f from (body.Op serial n o seen) v s = on_op f (mending v (group_of (instance_of v.store (from_user from serial)))) (from_user from serial) n o seen s
on_asked f from (body.ReadHeld serial n at len) v s = on_read_held f (from_user from serial) n at len s
on_asked f from _ v s = quiet s

handler_is : (f : Frame) (from : ℕ) (b : Body) (v : SiteView) → IsOp b → takes_inside f from b v ≡ at_store (on_asked f from b v) v
handler_is f from (body.Op serial n o seen) v k = refl
handler_is f from (body.ReadHeld serial n at len) v k = refl
handler_is f from _ v k = absurd k

forms : (b : Body) → IsOp b → FormsNone b × TriesNone b
forms (body.Op serial n o seen) k = (tt, tt)
forms (body.ReadHeld serial n at len) k = (tt, tt)
forms _ k = absurd k

no_report : (c : Config) (e : InEpoch) (p : Packet) → IsOp p.body → (from to group : ℕ) (copies : List ReportedCopy) → Goes c e from to (body.Report group copies) p → ⊥
no_report c e p k from to group copies g = of_kind IsOp c e from to (body.Report group copies) p k g

-- so it is in each world of a round in which all members are together
abbrev pub AllOperationsAreDone : Config → Type 0
AllOperationsAreDone c = (lines : List ScheduleLine) (n : ℕ) (e : InEpoch) (w : World) → IsInRound c lines n w → AreTogether w e → OperationsAreDone c e w

pub operation_row : (c : Config) → AllGoToMembers c → AllOperationsAreDone c → CarriesOn c IsOp
operation_row c members left lines n e x w d kind old =
    store_row c members lines n e x w d (forms x.packet.body kind).0 (forms x.packet.body kind).1 (on_asked f x.packet.from x.packet.body d.view) (handler_is f x.packet.from x.packet.body d.view kind) (go_on x.packet.body kind)
    (λ now has s y k h. takes now s y k y.asking refl h) (no_report c e x.packet kind) old
  where
    m : ℕ
    m = x.packet.to

    f : Frame
    f = frame_of c e m

    r : RoundFacts c w
    r = round_facts c lines n w d.round

    past : Past c w.trace
    past = past_of c w r

    inside : InsideFact c f w.trace d.view
    inside = inside_fact c e w m d.view r.fact d.before d.member d.here

    go_on : (b : Body) → IsOp b → InstancesGoOn c e m d.view.store (on_asked f x.packet.from b d.view d.view.store)
    go_on (body.Op serial number o seen) k inst member h = inl (operations_stay f (mending d.view (group_of (instance_of d.view.store (from_user x.packet.from serial)))) (from_user x.packet.from serial) number o seen d.view.store inst h)
    go_on (body.ReadHeld serial number at len) k inst member h = inl (held_stay f (from_user x.packet.from serial) number at len d.view.store inst h)
    go_on _ k inst member h = absurd k

    takes : (now : Places) (s : ℕ) (y : WaitingCall) → StillWaits e (place_at w) now s y → (a : Asking) → y.asking ≡ a → Carries c e (place_at w) s y a x.packet → (q : Packet) × Among q (on_asked f x.packet.from x.packet.body d.view d.view.store).sent × Carries c e now s y a q
    takes now s y k (asking.Op serial ss number o seen) is h = by_copied y.copied o refl refl g (subst (λ (a : Asking). Every (PacketFact c w.trace) (request_packets (frame_of c e s) y a)) is fact.sent).0
      where
        inst : Serial
        inst = own_serial s serial

        g : Goes c e s ss (operation_body y.copied serial number o seen) x.packet
        g = asks_op c e s serial ss number y.copied o seen x.packet kind h

        same : m ≡ ss
        same = ap (λ (q : Packet). q.to) g.is

        low : s ≤ sites_max
        low = member_low c e w s r d.before k.member

        user : IsInside w e s
        user = d.before.inside s k.member

        there : Among y user.view.users.waiting
        there = subst (λ (z : SiteView). Among y z.users.waiting) (view_eq (place_at w s) k.before user.view k.was user.here) k.waited

        theirs : InsideFact c (frame_of c e s) w.trace user.view
        theirs = inside_fact c e w s user.view r.fact d.before k.member user.here

        fact : WaitingFact c w.trace (frame_of c e s) y
        fact = every_among (WaitingFact c w.trace (frame_of c e s)) y user.view.users.waiting there theirs.users.inside.inside.calls

        asked : asked_now c w.trace (own_call s (frame_of c e s).boot y.call) ≡ want.Do inst o
        asked = op_wanted c w.trace (frame_of c e s) y serial ss number o seen fact is

        count : number ≡ ops_asked c w.trace inst
        count = op_number c w.trace (frame_of c e s) y serial ss number o seen fact is

        begun : (file : FileId) × WasBegun w.trace m e.id inst file
        begun = subst (λ (z : ℕ). (file : FileId) × WasBegun w.trace z e.id inst file) (sym same)
            (asked_here c w.trace past e.id s serial ss low (subst (λ (z : Asking). AskedBegun w.trace e.id s z) is (round_begun c lines n w d.round s user.view e y user.here user.epoch there)))

        found : (i : Instance) × (instance_of d.view.store inst ≡ Some i)
        found = inside.store.instances.has inst begun.0 begun.1

        i : Instance
        i = found.0

        known : InstanceFact c w.trace f i × (instance_key i ≡ serial_key inst)
        known = row_found instance_key (serial_key inst) d.view.store.instances i (InstanceFact c w.trace f) found.1 inside.store.instances.instances

        name : i.inst ≡ inst
        name = same_instance c e m w.trace d.view.store inside.store i inst inst found.1 low known.1

        uses : Uses c w.trace (frame_of c e s) y inst
        uses = uses_op c w.trace (frame_of c e s) y serial ss number o seen past.followed fact is

        unreleased_now : WasReleased w.trace e.id i.inst → ⊥
        unreleased_now was = asked_unreleased c w.trace past.followed e.id (own_call s (frame_of c e s).boot y.call) inst o uses.inside asked (subst (WasReleased w.trace e.id) name was)

        -- the operation is done, or was done, and its answer is sent
        sent_of : (saw : List ℕ) → OpFact c w.trace e.id m inst number o saw → IsDoneSent c e m inst number o (on_op f (mending d.view (group_of (instance_of d.view.store inst))) inst number o saw d.view.store)
        sent_of saw stands = subst (λ (z : Option Instance). IsDoneSent c e m inst number o (on_op_of f (mending d.view (group_of z)) z number o saw d.view.store)) (sym found.1)
            (subst (λ (z : Stage). IsDoneSent c e m inst number o (on_op_at f (mending d.view i.file.group) i z number o saw d.view.store)) (sym running.0)
            (subst (λ (t : Serial). IsDoneSent c e m t number o (by_number f (mending d.view i.file.group) i number o saw d.view.store)) name (by_fact stands)))
          where
            named : WasNamed w.trace e.id i.inst
            named = subst (WasNamed w.trace e.id) (sym name) (over stands)
              where
                over : OpFact c w.trace e.id m inst number o saw → WasNamed w.trace e.id inst
                over (inl q) = done_named c w.trace past.followed e.id inst number o q.0 q.1
                over (inr q) = open_named c w.trace e.id inst q.at q.open_at.found

            runs : (z : Stage) → i.stage ≡ z → stores.StageFact c w.trace f i z → (i.stage ≡ stage.Running) × ((j : Open) × WorksAs c w.trace f i j)
            runs stage.Running q z = (q, works z.0)
              where
                works : RunsAs c w.trace f i → (j : Open) × WorksAs c w.trace f i j
                works (inl j) = j
                works (inr j) = absurd (j.unnamed named)
            runs (stage.Closing made a) q z = absurd (over z.0.ends)
              where
                over : WasReleasedWith c w.trace e.id i.inst (stamp_made made) (close_answer a) ⊎ EndsAs c w.trace f i made a → ⊥
                over (inl j) = unreleased_now (release_of c w.trace e.id i.inst (stamp_made made) (close_answer a) j)
                over (inr j) = do_close inst i.inst o (sym asked ∙ (ap (asked_now c w.trace) (one_has c w.trace e.id inst (own_call s (frame_of c e s).boot y.call) j.now.closes.call past.followed uses.inside j.now.closes.inside uses.asks
                    (asking_now c w.trace j.now.closes.call (want.Close i.inst) j.now.closes.asks) uses.has (subst (λ (t : Serial). has_instances c w.trace j.now.closes.call t ≡ true) name (close_had c w.trace j.now.closes.call i.inst past.followed (j.now.closes.inside.accepted, j.now.closes.inside.named) j.now.closes.asks.asked))) ∙ j.now.closes.asks.asked))
            runs (stage.Closed a) q z = absurd (unreleased_now (release_of c w.trace e.id i.inst z.0.0 (close_answer a) z.0.1))

            running : (i.stage ≡ stage.Running) × ((j : Open) × WorksAs c w.trace f i j)
            running = runs i.stage refl known.0.stage

            j : Open
            j = running.1.0

            at_now : instance_now c w.trace e.id inst ≡ Some j
            at_now = subst (λ (t : Serial). instance_now c w.trace e.id t ≡ Some j) name running.1.1.open_at.found

            ops_are : j.work.ops ≡ i.work.ops
            ops_are = ap (λ (z : Work). z.ops) running.1.1.work_is

            by_fact : OpFact c w.trace e.id m inst number o saw → IsDoneSent c e m i.inst number o (by_number f (mending d.view i.file.group) i number o saw d.view.store)
            by_fact (inl q) = subst (λ (b : Bool). IsDoneSent c e m i.inst number o (elim b as (λ (z : Bool). Outcome Store) [ true ↦ record { view = d.view.store; sent = op_again f i number i.answered; told = []; written = None } | false ↦ elim (number == i.work.ops + 1) as (λ (z : Bool). Outcome Store) [ true ↦ executes f (mending d.view i.file.group) i o saw d.view.store | false ↦ quiet d.view.store ] ]))
                (sym (equal_test number i.work.ops last)) (again_sent c w e (left lines n e w d.round d.before) past m i number o q.0 d.view.store (subst (λ (t : Serial). WasDone w.trace e.id t number o q.0) (sym name) q.1) last i.answered known.0.answered)
              where
                last : number ≡ i.work.ops
                last = counted_now c w.trace (frame_of c e s) y serial number o past.followed theirs.frame fact asked count j at_now (done_low c w.trace past.followed e.id inst number o q.0 j q.1 at_now) ∙ ops_are
            by_fact (inr q) = subst (λ (b : Bool). IsDoneSent c e m i.inst number o (elim b as (λ (z : Bool). Outcome Store) [ true ↦ record { view = d.view.store; sent = op_again f i number i.answered; told = []; written = None } | false ↦ elim (number == i.work.ops + 1) as (λ (z : Bool). Outcome Store) [ true ↦ executes f (mending d.view i.file.group) i o saw d.view.store | false ↦ quiet d.view.store ] ]))
                (sym (next_number number i.work.ops next).0)
                (subst (λ (b : Bool). IsDoneSent c e m i.inst number o (elim b as (λ (z : Bool). Outcome Store) [ true ↦ executes f (mending d.view i.file.group) i o saw d.view.store | false ↦ quiet d.view.store ])) (sym (next_number number i.work.ops next).1)
                ((left lines n e w d.round d.before).done m d.view d.member d.here i (subst (λ (t : Serial). instance_of d.view.store t ≡ Some i) (sym name) found.1) running.0 number o saw (subst (λ (t : Serial). OpsNow c w.trace e.id m t number o saw) (sym name) q) next))
              where
                next : number ≡ i.work.ops + 1
                next = q.next ∙ ap (λ (k : ℕ). k + 1) (ap (λ (z : Open). z.work.ops) (some_same q.at j (sym q.open_at.found ∙ at_now)) ∙ ops_are)

        Answered : Type 0
        Answered = (q : Packet) × Among q (on_asked f x.packet.from x.packet.body d.view d.view.store).sent × Carries c e now s y (asking.Op serial ss number o seen) q

        -- it is the handler's, by the packet that came
        came : (b : Body) → x.packet ≡ packet (frame_of c e s) ss b → (q : Packet) → Among q (on_asked f s b d.view d.view.store).sent → Among q (on_asked f x.packet.from x.packet.body d.view d.view.store).sent
        came b eq q a = subst (λ (out : Outcome Store). Among q out.sent) (sym (ap (λ (p : Packet). on_asked f p.from p.body d.view d.view.store) eq)) a

        in_full : Goes c e s ss (body.Op serial number o seen) x.packet → OpFact c w.trace e.id ss inst number o seen → Answered
        in_full goes fits = (
          packet f s (body.OpDone serial number sent.0),
          came (body.Op serial number o seen) goes.is (packet f s (body.OpDone serial number sent.0)) sent.1,
          inr (inl (record { result = sent.0; fits = sent.2; goes = subst (λ (z : ℕ). Goes c e z s (body.OpDone serial number sent.0) (packet f s (body.OpDone serial number sent.0))) same (record { sender = d.member; receiver = k.member; is = refl }) })),
        )
          where
            sent : IsDoneSent c e m inst number o (on_asked f s (body.Op serial number o seen) d.view d.view.store)
            sent = sent_of seen (subst (λ (z : ℕ). OpFact c w.trace e.id z inst number o seen) (sym same) fits)

        as_held : (bytes : List ℕ) (at len : ℕ) → y.copied ≡ Some bytes → o ≡ op.Read at len → Goes c e s ss (body.ReadHeld serial number at len) x.packet → OpFact c w.trace e.id ss inst number (op.Read at len) nothing_seen → Answered
        as_held bytes at len has reads goes fits = (q.0, came (body.ReadHeld serial number at len) goes.is q.0 q.1, inr (over q.2))
          where
            done : IsDoneSent c e m inst number (op.Read at len) (on_op f (mending d.view (group_of (instance_of d.view.store inst))) inst number (op.Read at len) nothing_seen d.view.store)
            done = subst (λ (z : Op). IsDoneSent c e m inst number z (on_op f (mending d.view (group_of (instance_of d.view.store inst))) inst number z nothing_seen d.view.store)) reads
                (sent_of nothing_seen (subst (λ (z : ℕ). OpFact c w.trace e.id z inst number o nothing_seen) (sym same) (subst (λ (z : Op). OpFact c w.trace e.id ss inst number z nothing_seen) (sym reads) fits)))

            q : FormsAnswer c e m inst number at len (on_read_held f inst number at len d.view.store)
            q = held_answer c e m inst number at len (mending d.view (group_of (instance_of d.view.store inst))) d.view.store done

            over : InForm c e m inst number at len q.0 → AnswersOp c e s serial ss number o q.0 ⊎ AnswersHeld c e s serial ss number y.copied o q.0
            over (inl r) = inl (record { result = r.0; fits = subst (λ (z : Op). answers_op z r.0 ≡ true) (sym reads) r.1; goes = subst (λ (z : ℕ). Goes c e z s (body.OpDone serial number r.0) q.0) same (record { sender = d.member; receiver = k.member; is = r.2 }) })
            over (inr r) = inr (record { bytes = bytes; has = has; at = at; len = len; is_read = reads; many = r.0; goes = subst (λ (z : ℕ). Goes c e z s (body.AsHeld serial number r.0) q.0) same (record { sender = d.member; receiver = k.member; is = r.1 }) })

        by_copied : (copied : Option (List ℕ)) (what : Op) → y.copied ≡ copied → o ≡ what → Goes c e s ss (operation_body copied serial number what seen) x.packet → PacketFact c w.trace (packet (frame_of c e s) ss (operation_body copied serial number what seen)) → Answered
        by_copied (Some bytes) (op.Read at len) has reads goes fits = as_held bytes at len has reads goes fits
        by_copied copied what has reads goes fits = in_full (subst (λ (z : Op). Goes c e s ss (body.Op serial number z seen) x.packet) (sym reads) goes) (subst (λ (z : Op). OpFact c w.trace e.id ss inst number z seen) (sym reads) fits)
    takes now s y k (asking.Look file what take) is h = absurd (other_kind (asking.Look file what take) x.packet.body kind (λ serial ss number o seen. look_op file what take serial ss number o seen) (carrier_kind c e (place_at w) s y (asking.Look file what take) x.packet h))
    takes now s y k (asking.Open serial file how) is h = absurd (other_kind (asking.Open serial file how) x.packet.body kind (λ number ss t o seen. open_op serial file how number ss t o seen) (carrier_kind c e (place_at w) s y (asking.Open serial file how) x.packet h))
    takes now s y k (asking.Close serial ss) is h = absurd (other_kind (asking.Close serial ss) x.packet.body kind (λ number place t o seen. close_op serial ss number place t o seen) (carrier_kind c e (place_at w) s y (asking.Close serial ss) x.packet h))
