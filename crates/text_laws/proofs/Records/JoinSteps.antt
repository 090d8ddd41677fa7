-- Whatever an event has a site join is the epoch that it is in after the event.
use Rattle.std.proofs.Common.{◌≡◌, ℕ, ◌+◌, ◌&&◌, not, Bool, true, false, cond, List, [], ◌∷◌, ◌++◌, Option, None, Some, refl, sym, ◌∙◌, subst, ◌⊎◌, inl, inr}
use Rattle.plain_facts.proofs.Options.{none_some}
use Rattle.locus_ids.specs.declared.config.Config.{Config}
use Rattle.locus_ids.specs.declared.ids.EpochId.{EpochId}
use Rattle.locus_ids.specs.declared.sites.Links.{Links}
use Rattle.locus_ids.specs.declared.sites.Members.{Members}
use Rattle.locus_ids.specs.declared.sites.Sites.{Sites}
use Rattle.trace_book.specs.Same.{same_epoch}
use Rattle.trace_book.specs.declared.call.Call.{Call}
use Rattle.trace_book.specs.declared.record.Record.{Record}
use Rattle.trace_book.specs.declared.record.Record.TheVariants as says
use Rattle.wire_messages.specs.declared.body.Body.{Body}
use Rattle.wire_messages.specs.declared.body.Body.TheVariants as body
use Rattle.wire_messages.specs.declared.packet.Packet.{Packet}
use Rattle.role_steps.specs.Epochs.{begins_round, boots_where, decides_if, frame_in, is_epoch_below, is_in, joined_packet, joins, leaves_of, may_install, merge_boot, part_boot, on_install, on_poll, on_promise_of, on_refuse_of, passed_over, passes_over_of, promise_packet, promises, reached, refuse_packet, starts_merge, starts_part_of, unanswered}
use Rattle.role_steps.specs.Own.{Every}
use Rattle.role_steps.specs.Using.{changed_records}
use Rattle.role_steps.specs.Views.{Calls, Event, Frame, GivesUp, Merges, Outcome, Parts, Promises, Receives, Shown, SiteView, Ticks, Told, and_then, first_written, quiet, sends}
use Rattle.role_steps.specs.declared.rounds.InEpoch.{InEpoch}
use Rattle.role_steps.specs.declared.rounds.Round.{Round}
use Rattle.role_steps.specs.declared.synchronizing.LastLook.{LastLook}
use Rattle.role_steps.specs.declared.synchronizing.SyncTable.{SyncTable}
use Rattle.role_steps.specs.declared.users.WaitingCall.{WaitingCall}
use Rattle.role_steps.proofs.Sending.{every_append}
use Rattle.the_run.specs.Joins.{NoJoin, NoWrite}
use Rattle.the_run.specs.Steps.{adopts_in, call_frame, ends_event, epoch_id, is_dropped, starts_mends_of, step, takes, takes_call, tries_at, whole}
use Rattle.the_run.proofs.InsideSync.{no_first}
use Rattle.run_laws.specs.Walks.Laws.{Law, SiteAnswers, SiteKeeps, Stays, body_law}
use Rattle.run_laws.proofs.Walks.Premises.{body_answers, body_keeps, plain_no_join, version_no_join}
use Rattle.run_laws.proofs.Walks.RoleWalks.{on_call_walk}
use Rattle.run_laws.proofs.Walks.SiteWalks.{adopts_of_walk, framed_walk, mends_of_walk, tries_walk}

-- ---- what is told inside an epoch ----

abbrev law : Law
law = body_law (λ b. Unit {0}) NoJoin NoWrite

keeps : (f : Frame) → SiteKeeps law f
keeps f = body_keeps (λ b. Unit {0}) NoJoin NoWrite f (λ b k. tt) plain_no_join version_no_join tt (λ d k. version_no_join d.says k)

back : (f : Frame) (from : ℕ) → SiteAnswers law f from
back f from = body_answers law f (λ to b k. tt) from

loose_looks : (ls : List LastLook) → Every (λ (l : LastLook). Unit {0}) ls
loose_looks [] = tt
loose_looks (l ∷ ls) = (tt, loose_looks ls)

loose : (ts : List SyncTable) → Every law.table ts
loose [] = tt
loose (t ∷ ts) = (loose_looks t.looks, loose ts)

-- ---- what is joined ----

abbrev pub OfRecord : Option InEpoch → Record → Type 0
OfRecord e (says.Join s id m) = e ≡ Some (record { id = id; members = m })
OfRecord e _ = Unit {0}

-- if it is a join, it is of this epoch
abbrev pub OfEpoch : Option InEpoch → Told → Type 0
OfEpoch e (Shown r) = OfRecord e r
OfEpoch e _ = Unit {0}

none_of : (e : Option InEpoch) (xs : List Told) → Every NoJoin xs → Every (OfEpoch e) xs
none_of e [] h = tt
none_of e (x ∷ xs) h = (one x h.0, none_of e xs h.1)
  where
    of_record : (r : Record) → NoJoin (Shown r) → OfRecord e r
    of_record (says.Join s id m) k = absurd k
    of_record _ k = tt

    one : (x : Told) → NoJoin x → OfEpoch e x
    one (Shown r) k = of_record r k
    one _ k = tt

-- a site that was told this much is in the epoch that it has joined and in no round, if it has joined one
abbrev Joined : SiteView → List Told → Type 0
Joined v told = Every NoJoin told ⊎ ((v.round ≡ None) × Every (OfEpoch v.epoch) told)

-- the same, once the site has gone on inside its epoch
joined_later : (v u : SiteView) (told : List Told) → u.round ≡ v.round → u.epoch ≡ v.epoch → Joined v told → Joined u told
joined_later v u told round epoch (inl h) = inl h
joined_later v u told round epoch (inr h) = inr (round ∙ h.0, subst (λ (e : Option InEpoch). Every (OfEpoch e) told) (sym epoch) h.1)

record Begun (o : Outcome SiteView) : Type 0 where
  told : Joined o.view o.told
  written : NoWrite o.written

pub record Own (o : Outcome SiteView) : Type 0 where
  pub told : Every (OfEpoch o.view.epoch) o.told
  pub written : NoWrite o.written

-- ---- the end of an event ----

module _ (c : Config) (me : ℕ) (links : Links) where
  mends_stay : (v : SiteView) → Stays law v (starts_mends_of c me v.epoch v)
  mends_stay v = mends_of_walk law c me v.epoch v tt (λ x z. keeps (frame_in c me v.boot x)) (loose v.tables)

  -- of what was told before, and of the end itself
  record Ends (told : List Told) (o : Outcome SiteView) : Type 0 where
    before : Every (OfEpoch o.view.epoch) told
    own : Own o

  abbrev ending : Outcome SiteView → Outcome SiteView
  ending o = and_then o (λ now. starts_mends_of c me now.epoch now)

  -- nothing is decided
  undecided : (v u : SiteView) (told : List Told) → u.epoch ≡ v.epoch → Every (OfEpoch v.epoch) told → Ends told (ending (quiet u))
  undecided v u told same h =
      let k : Stays law u (starts_mends_of c me u.epoch u) = mends_stay u in
      record {
        before = subst (λ (e : Option InEpoch). Every (OfEpoch e) told) (sym (k.leaves.epoch ∙ same)) h;
        own = record { told = none_of (starts_mends_of c me u.epoch u).view.epoch (starts_mends_of c me u.epoch u).told k.part.1; written = k.part.2 };
      }

  by_answers : (r : Round) (xs : List ℕ) (v : SiteView) (told : List Told) → Every NoJoin told → Ends told (ending (decides_if c me links r xs v))
  by_answers r (s ∷ ss) v told h = undecided v (record v { round = Some r }) told refl (none_of v.epoch told h)
  by_answers r [] v told h =
      let o : Outcome SiteView = decides_if c me links r [] v in
      let k : Stays law o.view (starts_mends_of c me o.view.epoch o.view) = mends_stay o.view in
      record {
        before = none_of (ending o).view.epoch told h;
        own = record { told = (k.leaves.epoch, none_of (ending o).view.epoch (starts_mends_of c me o.view.epoch o.view).told k.part.1); written = k.part.2 };
      }

  by_round : (o : Option Round) (v : SiteView) (told : List Told) → v.round ≡ o → Joined v told → Ends told (ending (passes_over_of c me links o v))
  by_round None v told e (inl h) = undecided v v told refl (none_of v.epoch told h)
  by_round None v told e (inr h) = undecided v v told refl h.1
  by_round (Some r) v told e (inl h) = by_answers (passed_over links r) (unanswered (passed_over links r)) v told h
  by_round (Some r) v told e (inr h) = absurd (none_some r (sym h.0 ∙ e))

  end_from : (v : SiteView) (told : List Told) → Joined v told → Ends told (ends_event c me links v)
  end_from v told h = by_round v.round v told refl h

  -- an event with its end, between which the site may adopt
  whole_own : (o : Outcome SiteView) (tries : SiteView → Outcome SiteView) → Begun o → Stays law o.view (tries o.view) → Own (whole c me links o tries)
  whole_own o tries h k =
      let t : Outcome SiteView = tries o.view in
      let last : Outcome SiteView = ends_event c me links t.view in
      let e : Ends o.told last = end_from t.view o.told (joined_later o.view t.view o.told k.leaves.round k.leaves.epoch h.told) in
      record {
        told = every_append (OfEpoch last.view.epoch) t.told (o.told ++ last.told) (none_of last.view.epoch t.told k.part.1) (every_append (OfEpoch last.view.epoch) o.told last.told e.before e.own.told);
        written = no_first t.written (first_written o.written last.written) k.part.2 (no_first o.written last.written h.written e.own.written);
      }

  still : (v : SiteView) → Stays law v (quiet v)
  still v = record { leaves = record { boot = refl; round = refl; promised = refl; installed = refl; installs = refl; epoch = refl }; tables = loose v.tables; part = (tt, tt, tt) }

  -- ---- leaving and beginning rounds ----

  changed_none : (boot : ℕ) (e : EpochId) (ws : List WaitingCall) → Every NoJoin (changed_records me boot e ws)
  changed_none boot e [] = tt
  changed_none boot e (w ∷ ws) = (tt, changed_none boot e ws)

  record Quiet (o : Outcome SiteView) : Type 0 where
    told : Every NoJoin o.told
    written : NoWrite o.written

  begun : (o : Outcome SiteView) → Quiet o → Begun o
  begun o h = record { told = inl h.told; written = h.written }

  leaves_quiet : (o : Option InEpoch) (v : SiteView) → Quiet (leaves_of me o v)
  leaves_quiet None v = record { told = tt; written = tt }
  leaves_quiet (Some e) v = record { told = (tt, changed_none v.boot e.id v.users.waiting); written = tt }

  promises_quiet : (id : EpochId) (reach : Sites) (v : SiteView) → Quiet (promises me id reach v)
  promises_quiet id reach v =
      let l : Quiet (leaves_of me v.epoch v) = leaves_quiet v.epoch v in
      record { told = every_append NoJoin (leaves_of me v.epoch v).told (Promises me id reach ∷ []) l.told (tt, tt); written = no_first (leaves_of me v.epoch v).written None l.written tt }

  begins_quiet : (number : ℕ) (polled : Links) (v : SiteView) → Quiet (begins_round me links number polled v)
  begins_quiet number polled v =
      let id : EpochId = record { number = number; site = me; boot = v.boot } in
      let p : Quiet (promises me id (reached links) v) = promises_quiet id (reached links) v in
      record { told = every_append NoJoin (promises me id (reached links) v).told [] p.told tt; written = no_first (promises me id (reached links) v).written None p.written tt }

  part_quiet : (o : Option InEpoch) (v : SiteView) → Quiet (starts_part_of me links o v)
  part_quiet None v = record { told = tt; written = tt }
  part_quiet (Some e) v = begins_quiet (v.promised.number + 1) (boots_where (part_boot me links e.members)) v

  poll_quiet : (from from_boot : ℕ) (id : EpochId) (v : SiteView) → Quiet (on_poll me links from from_boot id v)
  poll_quiet from from_boot id v = over (is_epoch_below v.promised id)
    where
      over : (b : Bool) → Quiet (elim b as (λ (x : Bool). Outcome SiteView) [ true ↦ and_then (promises me id (reached links) v) (λ now. sends (promise_packet me links from from_boot id now) now) | false ↦ sends (cond (same_epoch id v.promised && not v.installed) (promise_packet me links from from_boot id v) (refuse_packet me from from_boot id v)) v ])
      over true = (let p : Quiet (promises me id (reached links) v) = promises_quiet id (reached links) v in record { told = every_append NoJoin (promises me id (reached links) v).told [] p.told tt; written = no_first (promises me id (reached links) v).written None p.written tt })
      over false = record { told = tt; written = tt }

  promise_quiet : (from from_boot : ℕ) (id : EpochId) (reach : Sites) (o : Option Round) (v : SiteView) → Quiet (on_promise_of from from_boot id reach o v)
  promise_quiet from from_boot id reach None v = record { told = tt; written = tt }
  promise_quiet from from_boot id reach (Some r) v = record { told = tt; written = tt }

  refuse_quiet : (id theirs : EpochId) (o : Option Round) (v : SiteView) → Quiet (on_refuse_of me links id theirs o v)
  refuse_quiet id theirs None v = record { told = tt; written = tt }
  refuse_quiet id theirs (Some r) v = over (same_epoch r.id id)
    where
      over : (b : Bool) → Quiet (elim b as (λ (x : Bool). Outcome SiteView) [ true ↦ begins_round me links (theirs.number + 1) r.polled v | false ↦ quiet v ])
      over true = begins_quiet (theirs.number + 1) r.polled v
      over false = record { told = tt; written = tt }

  -- ---- a packet ----

  install_begun : (from from_boot : ℕ) (id : EpochId) (m : Members) (v : SiteView) → Begun (on_install c me from from_boot id m v)
  install_begun from from_boot id m v = over (may_install me id m v)
    where
      over : (b : Bool) → Begun (elim b as (λ (x : Bool). Outcome SiteView) [ true ↦ and_then (joins c me id m v) (λ now. sends (joined_packet me from from_boot id now) now) | false ↦ sends (cond (is_in id v.epoch) (joined_packet me from from_boot id v) []) v ])
      over true = record { told = inr (refl, (refl, tt)); written = tt }
      over false = record { told = inl tt; written = tt }

  stays_begun : (v : SiteView) (o : Outcome SiteView) → Stays law v o → Begun o
  stays_begun v o k = record { told = inl k.part.1; written = k.part.2 }

  takes_begun : (p : Packet) (x : Body) (v : SiteView) → Begun (takes c me links p x v)
  takes_begun p body.Poll v = begun _ (poll_quiet p.from p.from_boot p.epoch v)
  takes_begun p (body.Promise reach) v = begun _ (promise_quiet p.from p.from_boot p.epoch reach v.round v)
  takes_begun p (body.Refuse theirs) v = begun _ (refuse_quiet p.epoch theirs v.round v)
  takes_begun p (body.Install members) v = install_begun p.from p.from_boot p.epoch members v
  takes_begun p body.Joined v = record { told = inl tt; written = tt }
  takes_begun p _ v = stays_begun v _ (framed_walk law c me p v.epoch v tt (λ i q. keeps (frame_in c me v.boot i)) (λ i q. back (frame_in c me v.boot i) p.from) (loose v.tables))

  call_begun : (process : ℕ) (words : Call) (v : SiteView) → Begun (takes_call c me process words v)
  call_begun process words v =
      let f : Frame = call_frame c me v.boot v.epoch in
      let k : _ = on_call_walk law f (keeps f).users (epoch_id v.epoch) process words v.users (λ n. tt) in
      record { told = inl k.1; written = k.2 }

  -- ---- every event ----

  ticks_own : (v : SiteView) → Own (step c me links v Ticks)
  ticks_own v =
      let a : Outcome SiteView = adopts_in c me v in
      let k : Stays law v a = adopts_of_walk law c me v.epoch v tt (λ x q. keeps (frame_in c me v.boot x)) (loose v.tables) in
      let last : Outcome SiteView = ends_event c me links a.view in
      let e : Ends [] last = end_from a.view [] (inl tt) in
      record { told = every_append (OfEpoch last.view.epoch) a.told last.told (none_of last.view.epoch a.told k.part.1) e.own.told; written = no_first a.written last.written k.part.2 e.own.written }

  pub step_own : (v : SiteView) (e : Event) → Own (step c me links v e)
  step_own v (Calls process words) = whole_own (takes_call c me process words v) quiet (call_begun process words v) (still _)
  step_own v (Receives p) = over (is_dropped p v)
    where
      over : (b : Bool) → Own (elim b as (λ (x : Bool). Outcome SiteView) [ true ↦ quiet v | false ↦ whole c me links (takes c me links p p.body v) (tries_at c me p.body) ])
      over true = record { told = tt; written = tt }
      over false = whole_own (takes c me links p p.body v) (tries_at c me p.body) (takes_begun p p.body v)
          (tries_walk law c me p.body (takes c me links p p.body v).view tt (λ x z. keeps (frame_in c me _ x)) (loose (takes c me links p p.body v).view.tables))
  step_own v Ticks = ticks_own v
  step_own v Parts = whole_own (starts_part_of me links v.epoch v) quiet (begun _ (part_quiet v.epoch v)) (still _)
  step_own v Merges = whole_own (starts_merge me links v) quiet (begun _ (begins_quiet (v.promised.number + 1) (boots_where (merge_boot me links)) v)) (still _)
  step_own v GivesUp = whole_own (leaves_of me v.epoch v) quiet (begun _ (leaves_quiet v.epoch v)) (still _)
