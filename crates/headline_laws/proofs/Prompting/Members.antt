-- What a site takes for the boots of others it was told: in its round, in the list of its epoch, in what it installs and joins.
use Rattle.std.proofs.Common.{◌≡◌, ℕ, ◌+◌, ◌==◌, Bool, true, false, cond, not, ◌&&◌, ◌||◌, List, [], ◌∷◌, ◌++◌, map, filter, Option, None, Some, refl, sym, ◌∙◌, subst, ◌⊎◌, inl, inr}
use Rattle.role_steps.proofs.of_plain_facts.Numbers.{equal}
use Rattle.role_steps.proofs.of_plain_facts.Options.{none_some, some_same}
use Rattle.locus_ids.specs.Sites.{has}
use Rattle.locus_ids.specs.declared.config.Config.{Config}
use Rattle.locus_ids.specs.declared.ids.EpochId.{EpochId}
use Rattle.locus_ids.specs.declared.sites.Links.{Links}
use Rattle.locus_ids.specs.declared.sites.Members.{Members}
use Rattle.locus_ids.specs.declared.sites.Sites.{Sites}
use Rattle.trace_book.specs.Same.{same_epoch}
use Rattle.trace_book.specs.declared.call.Call.{Call}
use Rattle.trace_book.specs.declared.record.Record.{Record}
use Rattle.trace_book.specs.declared.record.Record.TheVariants as says
use Rattle.wire_messages.specs.declared.body.Body.{Body}
use Rattle.wire_messages.specs.declared.body.Body.TheVariants as body
use Rattle.wire_messages.specs.declared.packet.Packet.{Packet}
use Rattle.role_steps.specs.Epochs.{begins_round, boots_where, chosen_members, chosen_set, counts_promise, decides, decides_if, frame_in, install_packet, install_repeats, installs_all, is_epoch_below, is_in, joined_view, joined_packet, joins, leaves, leaves_of, left_boot, may_install, member_boot, merge_boot, new_round, on_install, on_joined, on_poll, on_promise_of, on_refuse_of, others_of, own_groups, part_boot, passed_over, passes_over, passes_over_of, poll_packet, poll_repeats, polled_sites, polls, promise_packet, promises, reached, refuse_packet, round_id, starts_merge, starts_part, starts_part_of, unanswered, is_sync_site, with_promise}
use Rattle.role_steps.specs.Own.{Every}
use Rattle.role_steps.specs.Reports.{new_table}
use Rattle.role_steps.specs.Tables.{without_row}
use Rattle.role_steps.specs.Using.{changed_records}
use Rattle.role_steps.specs.Views.{Calls, Event, Frame, GivesUp, Merges, Outcome, Parts, Promises, Receives, Shown, SiteView, Ticks, Told, all_sites, and_then, boot_in, quiet, sends}
use Rattle.role_steps.specs.declared.rounds.InEpoch.{InEpoch}
use Rattle.role_steps.specs.declared.rounds.Round.{Round}
use Rattle.role_steps.specs.declared.users.WaitingCall.{WaitingCall}
use Rattle.role_steps.proofs.Sending.{every_append, every_map}
use Rattle.the_run.specs.Joins.{NoJoin}
use Rattle.the_run.specs.Steps.{adopts_in, call_frame, ends_event, epoch_id, in_order, is_dropped, repeats, repeats_of, starts_mends_of, step, takes, takes_call, tries_at, whole}
use Rattle.the_run.proofs.StepSends.{order_sent}
use Rattle.run_laws.specs.Walks.Kinds.{IsInside}
use Rattle.run_laws.specs.Walks.Laws.{Law, SiteAnswers, SiteKeeps, Stays, body_law}
use Rattle.run_laws.proofs.Walks.Premises.{body_answers, body_keeps, plain_no_join, version_no_join}
use Rattle.run_laws.proofs.Walks.RoleWalks.{on_call_walk}
use Rattle.run_laws.proofs.Walks.SiteWalks.{adopts_of_walk, all_reports_walk, framed_walk, mends_of_walk, repeats_inside_walk, tries_walk}
use Rattle.run_laws.proofs.Epochs.Boots.{boot_or_none}

module _ (T : ℕ → ℕ → Type 0) (zero_told : (t : ℕ) → T t 0) where
  -- each boot of the list was told
  abbrev pub Told_boots : List ℕ → Type 0
  Told_boots bs = (t : ℕ) → T t (boot_in bs t)

  pub mapped : (f : ℕ → ℕ) → ((t : ℕ) → T t (f t)) → Told_boots (map f all_sites)
  mapped f k t = over (boot_or_none f t)
    where
      over : (boot_in (map f all_sites) t ≡ f t) ⊎ (boot_in (map f all_sites) t ≡ 0) → T t (boot_in (map f all_sites) t)
      over (inl e) = subst (T t) (sym e) (k t)
      over (inr e) = subst (T t) (sym e) (zero_told t)

  either : (b : Bool) (t x y : ℕ) → T t x → T t y → T t (cond b x y)
  either true t x y h k = h
  either false t x y h k = k

  -- ---- packets, and what is told ----

  abbrev pub Says : Body → Type 0
  Says (body.Install members) = Told_boots members.boot
  Says _ = Unit {0}

  abbrev pub SentTold : Packet → Type 0
  SentTold p = Says p.body

  abbrev pub JoinRecord : Record → Type 0
  JoinRecord (says.Join s e members) = Told_boots members.boot
  JoinRecord _ = Unit {0}

  abbrev pub JoinTold : Told → Type 0
  JoinTold (Shown r) = JoinRecord r
  JoinTold _ = Unit {0}

  abbrev law : Law
  law = body_law Says NoJoin (λ d. Unit {0})

  inside_says : (b : Body) → IsInside b → Says b
  inside_says (body.Install members) k = absurd k
  inside_says _ k = tt

  keeps : (f : Frame) → SiteKeeps law f
  keeps f = body_keeps Says NoJoin (λ d. Unit {0}) f inside_says plain_no_join version_no_join tt (λ d k. tt)

  back : (f : Frame) (from : ℕ) → SiteAnswers law f from
  back f from = body_answers law f (λ to b k. inside_says b k) from

  no_join : (xs : List Told) → Every NoJoin xs → Every JoinTold xs
  no_join [] h = tt
  no_join (x ∷ xs) h = (one x h.0, no_join xs h.1)
    where
      record_told : (r : Record) → NoJoin (Shown r) → JoinRecord r
      record_told (says.Join s e members) k = absurd k
      record_told _ k = tt

      one : (x : Told) → NoJoin x → JoinTold x
      one (Shown r) k = record_told r k
      one _ k = tt

  -- ---- a site, and an outcome of it ----

  pub record ViewTold (v : SiteView) : Type 0 where
    pub round : (r : Round) → v.round ≡ Some r → Told_boots r.polled.boot
    pub epoch : (e : InEpoch) → v.epoch ≡ Some e → Told_boots e.members.boot
    pub tables : Every law.table v.tables

  pub record OutTold (boot : ℕ) (o : Outcome SiteView) : Type 0 where
    pub boot_is : o.view.boot ≡ boot
    pub view : ViewTold o.view
    pub sent : Every SentTold o.sent
    pub told : Every JoinTold o.told

  quiet_out : (boot : ℕ) (v : SiteView) → v.boot ≡ boot → ViewTold v → OutTold boot (quiet v)
  quiet_out boot v e h = record { boot_is = e; view = h; sent = tt; told = tt }

  sends_out : (boot : ℕ) (ps : List Packet) (v : SiteView) → v.boot ≡ boot → Every SentTold ps → ViewTold v → OutTold boot (sends ps v)
  sends_out boot ps v e k h = record { boot_is = e; view = h; sent = k; told = tt }

  then_out : (boot : ℕ) (o : Outcome SiteView) (f : SiteView → Outcome SiteView) → OutTold boot o → (o.view.boot ≡ boot → ViewTold o.view → OutTold boot (f o.view)) → OutTold boot (and_then o f)
  then_out boot o f h g = (let k : OutTold boot (f o.view) = g h.boot_is h.view in record { boot_is = k.boot_is; view = k.view; sent = every_append SentTold o.sent (f o.view).sent h.sent k.sent; told = every_append JoinTold o.told (f o.view).told h.told k.told })

  -- a role inside the epoch
  stays_out : (boot : ℕ) (v : SiteView) (o : Outcome SiteView) → v.boot ≡ boot → ViewTold v → Stays law v o → OutTold boot o
  stays_out boot v o e h k = record {
    boot_is = k.leaves.boot ∙ e;
    view = record { round = λ r q. h.round r (sym k.leaves.round ∙ q); epoch = λ i q. h.epoch i (sym k.leaves.epoch ∙ q); tables = k.tables };
    sent = k.part.0;
    told = no_join o.told k.part.1;
  }

  -- ---- leaving, and rounds ----

  changed_none : (me boot : ℕ) (e : EpochId) (ws : List WaitingCall) → Every JoinTold (changed_records me boot e ws)
  changed_none me boot e [] = tt
  changed_none me boot e (w ∷ ws) = (tt, changed_none me boot e ws)

  leaves_out : (boot me : ℕ) (o : Option InEpoch) (v : SiteView) → v.epoch ≡ o → v.boot ≡ boot → ViewTold v → OutTold boot (leaves_of me o v)
  leaves_out boot me None v q e h = quiet_out boot v e h
  leaves_out boot me (Some i) v q e h = record { boot_is = e; view = record { round = h.round; epoch = λ j k. absurd (none_some j k); tables = tt }; sent = tt; told = (tt, changed_none me v.boot i.id v.users.waiting) }

  left_none : (me : ℕ) (o : Option InEpoch) (v : SiteView) → v.epoch ≡ o → (leaves_of me o v).view.epoch ≡ None
  left_none me None v q = q
  left_none me (Some i) v q = refl

  promises_out : (boot me : ℕ) (id : EpochId) (reach : Sites) (v : SiteView) → v.boot ≡ boot → ViewTold v → OutTold boot (promises me id reach v)
  promises_out boot me id reach v e h =
      let o : OutTold boot (leaves me v) = leaves_out boot me v.epoch v refl e h in
      record {
        boot_is = o.boot_is;
        view = record { round = λ r k. absurd (none_some r k); epoch = o.view.epoch; tables = o.view.tables };
        sent = every_append SentTold (leaves me v).sent [] o.sent tt;
        told = every_append JoinTold (leaves me v).told (Promises me id reach ∷ []) o.told (tt, tt);
      }

  begins_out : (boot me : ℕ) (links : Links) (number : ℕ) (polled : Links) (v : SiteView) → Told_boots polled.boot → v.boot ≡ boot → ViewTold v → OutTold boot (begins_round me links number polled v)
  begins_out boot me links number polled v fit e h =
      let id : EpochId = round_id me number v in
      let o : Outcome SiteView = promises me id (reached links) v in
      then_out boot o (polls me id polled) (promises_out boot me id (reached links) v e h) (λ q k. record {
        boot_is = q;
        view = record { round = λ r z. subst (λ (x : Round). Told_boots x.polled.boot) (some_same (new_round id polled) r z) fit; epoch = k.epoch; tables = k.tables };
        sent = every_map SentTold (poll_packet me o.view.boot id polled) (polled_sites polled) (λ s. tt);
        told = tt;
      })

  -- ---- packets that form an epoch ----

  part_out : (boot me : ℕ) (links : Links) (o : Option InEpoch) (v : SiteView) → Told_boots links.boot → v.epoch ≡ o → v.boot ≡ boot → ViewTold v → OutTold boot (starts_part_of me links o v)
  part_out boot me links None v fit q e h = quiet_out boot v e h
  part_out boot me links (Some i) v fit q e h = begins_out boot me links (v.promised.number + 1) (boots_where (part_boot me links i.members)) v (mapped (part_boot me links i.members) (λ t. either ((t == me) || not (boot_in links.boot t == boot_in i.members.boot t)) t 0 (boot_in i.members.boot t) (zero_told t) (h.epoch i q t))) e h

  merge_out : (boot me : ℕ) (links : Links) (v : SiteView) → Told_boots links.boot → v.boot ≡ boot → ViewTold v → OutTold boot (starts_merge me links v)
  merge_out boot me links v fit e h = begins_out boot me links (v.promised.number + 1) (boots_where (merge_boot me links)) v (mapped (merge_boot me links) (λ t. either (t == me) t 0 (boot_in links.boot t) (zero_told t) (fit t))) e h

  poll_out : (boot me : ℕ) (links : Links) (from from_boot : ℕ) (id : EpochId) (v : SiteView) → v.boot ≡ boot → ViewTold v → OutTold boot (on_poll me links from from_boot id v)
  poll_out boot me links from from_boot id v e h = over (is_epoch_below v.promised id)
    where
      either_sent : (b : Bool) → Every SentTold (cond b (promise_packet me links from from_boot id v) (refuse_packet me from from_boot id v))
      either_sent true = (tt, tt)
      either_sent false = (tt, tt)

      over : (b : Bool) → OutTold boot (elim b as (λ (x : Bool). Outcome SiteView) [ true ↦ and_then (promises me id (reached links) v) (λ now. sends (promise_packet me links from from_boot id now) now) | false ↦ sends (cond (same_epoch id v.promised && not v.installed) (promise_packet me links from from_boot id v) (refuse_packet me from from_boot id v)) v ])
      over true = then_out boot (promises me id (reached links) v) (λ now. sends (promise_packet me links from from_boot id now) now) (promises_out boot me id (reached links) v e h) (λ q k. sends_out boot (promise_packet me links from from_boot id (promises me id (reached links) v).view) (promises me id (reached links) v).view q (tt, tt) k)
      over false = sends_out boot (cond (same_epoch id v.promised && not v.installed) (promise_packet me links from from_boot id v) (refuse_packet me from from_boot id v)) v e (either_sent (same_epoch id v.promised && not v.installed)) h

  with_round : (boot : ℕ) (q : Round) (v : SiteView) → Told_boots q.polled.boot → v.boot ≡ boot → ViewTold v → OutTold boot (quiet (record v { round = Some q }))
  with_round boot q v fit e h = record { boot_is = e; view = record { round = λ r z. subst (λ (x : Round). Told_boots x.polled.boot) (some_same q r z) fit; epoch = h.epoch; tables = h.tables }; sent = tt; told = tt }

  promise_out : (boot from from_boot : ℕ) (id : EpochId) (reach : Sites) (o : Option Round) (v : SiteView) → v.round ≡ o → v.boot ≡ boot → ViewTold v → OutTold boot (on_promise_of from from_boot id reach o v)
  promise_out boot from from_boot id reach None v q e h = quiet_out boot v e h
  promise_out boot from from_boot id reach (Some r) v q e h = with_round boot (cond (counts_promise from from_boot id r) (with_promise from reach r) r) v (over (counts_promise from from_boot id r)) e h
    where
      over : (b : Bool) → Told_boots (cond b (with_promise from reach r) r).polled.boot
      over true = h.round r q
      over false = h.round r q

  refuse_out : (boot me : ℕ) (links : Links) (id theirs : EpochId) (o : Option Round) (v : SiteView) → v.round ≡ o → v.boot ≡ boot → ViewTold v → OutTold boot (on_refuse_of me links id theirs o v)
  refuse_out boot me links id theirs None v q e h = quiet_out boot v e h
  refuse_out boot me links id theirs (Some r) v q e h = over (same_epoch r.id id)
    where
      over : (b : Bool) → OutTold boot (elim b as (λ (x : Bool). Outcome SiteView) [ true ↦ begins_round me links (theirs.number + 1) r.polled v | false ↦ quiet v ])
      over true = begins_out boot me links (theirs.number + 1) r.polled v (h.round r q) e h
      over false = quiet_out boot v e h

  joins_out : (c : Config) (boot me : ℕ) (id : EpochId) (m : Members) (v : SiteView) → Told_boots m.boot → v.boot ≡ boot → ViewTold v → OutTold boot (joins c me id m v)
  joins_out c boot me id m v fit e h =
      let i : InEpoch = record { id = id; members = m } in
      record {
        boot_is = e;
        view = record { round = λ r k. absurd (none_some r k); epoch = λ j k. subst (λ (x : InEpoch). Told_boots x.members.boot) (some_same i j k) fit; tables = every_map law.table new_table (filter (is_sync_site c me m) (own_groups c me)) (λ g. tt) };
        sent = all_reports_walk law (frame_in c me v.boot i) (keeps (frame_in c me v.boot i)).stores (joined_view c me id m v);
        told = (fit, tt);
      }

  install_out : (c : Config) (boot me from from_boot : ℕ) (id : EpochId) (m : Members) (v : SiteView) → Told_boots m.boot → v.boot ≡ boot → ViewTold v → OutTold boot (on_install c me from from_boot id m v)
  install_out c boot me from from_boot id m v fit e h = over (may_install me id m v)
    where
      either_sent : (b : Bool) → Every SentTold (cond b (joined_packet me from from_boot id v) [])
      either_sent true = (tt, tt)
      either_sent false = tt

      over : (b : Bool) → OutTold boot (elim b as (λ (x : Bool). Outcome SiteView) [ true ↦ and_then (joins c me id m v) (λ now. sends (joined_packet me from from_boot id now) now) | false ↦ sends (cond (is_in id v.epoch) (joined_packet me from from_boot id v) []) v ])
      over true = then_out boot (joins c me id m v) (λ now. sends (joined_packet me from from_boot id now) now) (joins_out c boot me id m v fit e h) (λ q k. sends_out boot (joined_packet me from from_boot id (joins c me id m v).view) (joins c me id m v).view q (tt, tt) k)
      over false = sends_out boot (cond (is_in id v.epoch) (joined_packet me from from_boot id v) []) v e (either_sent (is_in id v.epoch)) h

  joined_out : (boot from : ℕ) (id : EpochId) (v : SiteView) → v.boot ≡ boot → ViewTold v → OutTold boot (on_joined from id v)
  joined_out boot from id v e h = over (is_in id v.epoch)
    where
      over : (b : Bool) → OutTold boot (quiet (cond b (record v { installs = without_row (λ s. s) from v.installs }) v))
      over true = record { boot_is = e; view = record { round = h.round; epoch = h.epoch; tables = h.tables }; sent = tt; told = tt }
      over false = quiet_out boot v e h

  -- ---- decisions ----

  decides_out : (c : Config) (boot me : ℕ) (id : EpochId) (m : Members) (v : SiteView) → Told_boots m.boot → v.boot ≡ boot → ViewTold v → OutTold boot (decides c me id m v)
  decides_out c boot me id m v fit e h = then_out boot (joins c me id m v) (installs_all me id m) (joins_out c boot me id m v fit e h) (λ q k. record {
    boot_is = q;
    view = record { round = k.round; epoch = k.epoch; tables = k.tables };
    sent = every_map SentTold (install_packet me (joins c me id m v).view.boot id m) (others_of me m) (λ s. fit);
    told = tt;
  })

  passes_out : (c : Config) (boot me : ℕ) (links : Links) (o : Option Round) (v : SiteView) → T me boot → v.round ≡ o → v.boot ≡ boot → ViewTold v → OutTold boot (passes_over_of c me links o v)
  passes_out c boot me links None v own q e h = quiet_out boot v e h
  passes_out c boot me links (Some r) v own q e h = over (unanswered (passed_over links r))
    where
      left : Told_boots (passed_over links r).polled.boot
      left = mapped (left_boot links r.polled) (λ t. either (boot_in links.boot t == boot_in r.polled.boot t) t (boot_in r.polled.boot t) 0 (h.round r q t) (zero_told t))

      member : (set : Sites) (t : ℕ) → T t (member_boot me v.boot (passed_over links r) set t)
      member set t = either (has set t) t _ 0 (mine (t == me) refl) (zero_told t)
        where
          mine : (b : Bool) → (t == me) ≡ b → T t (cond b v.boot (boot_in (passed_over links r).polled.boot t))
          mine true z = subst (λ (s : ℕ). T s v.boot) (sym (equal t me z)) (subst (T me) (sym e) own)
          mine false z = left t

      over : (ss : List ℕ) → OutTold boot (decides_if c me links (passed_over links r) ss v)
      over [] = decides_out c boot me (passed_over links r).id (chosen_members me v.boot (passed_over links r) (chosen_set me links (passed_over links r))) v (mapped _ (member (chosen_set me links (passed_over links r)))) e h
      over (s ∷ ss) = with_round boot (passed_over links r) v left e h

  ends_out : (c : Config) (boot me : ℕ) (links : Links) (v : SiteView) → T me boot → v.boot ≡ boot → ViewTold v → OutTold boot (ends_event c me links v)
  ends_out c boot me links v own e h = then_out boot (passes_over c me links v) (λ now. starts_mends_of c me now.epoch now) (passes_out c boot me links v.round v own refl e h)
      (λ q k. stays_out boot _ _ q k (mends_of_walk law c me (passes_over c me links v).view.epoch (passes_over c me links v).view tt (λ x z. keeps (frame_in c me _ x)) k.tables))

  -- ---- a packet ----

  takes_out : (c : Config) (boot me : ℕ) (links : Links) (p : Packet) (x : Body) (v : SiteView) → Told_boots links.boot → Says x → v.boot ≡ boot → ViewTold v → OutTold boot (takes c me links p x v)
  takes_out c boot me links p body.Poll v fit says e h = poll_out boot me links p.from p.from_boot p.epoch v e h
  takes_out c boot me links p (body.Promise reach) v fit says e h = promise_out boot p.from p.from_boot p.epoch reach v.round v refl e h
  takes_out c boot me links p (body.Refuse promised) v fit says e h = refuse_out boot me links p.epoch promised v.round v refl e h
  takes_out c boot me links p (body.Install members) v fit says e h = install_out c boot me p.from p.from_boot p.epoch members v says e h
  takes_out c boot me links p body.Joined v fit says e h = joined_out boot p.from p.epoch v e h
  takes_out c boot me links p _ v fit says e h = stays_out boot v _ e h (framed_walk law c me p v.epoch v tt (λ i q. keeps (frame_in c me v.boot i)) (λ i q. back (frame_in c me v.boot i) p.from) h.tables)

  -- ---- every event ----

  whole_out : (c : Config) (boot me : ℕ) (links : Links) (o : Outcome SiteView) (tries : SiteView → Outcome SiteView) → T me boot → OutTold boot o → (o.view.boot ≡ boot → ViewTold o.view → OutTold boot (tries o.view)) → OutTold boot (whole c me links o tries)
  whole_out c boot me links o tries own h g =
      let a : OutTold boot (tries o.view) = g h.boot_is h.view in
      let last : Outcome SiteView = ends_event c me links (tries o.view).view in
      let l : OutTold boot last = ends_out c boot me links (tries o.view).view own a.boot_is a.view in
      record {
        boot_is = l.boot_is;
        view = l.view;
        sent = every_append SentTold (tries o.view).sent (in_order (o.sent ++ last.sent)) a.sent (order_sent SentTold (o.sent ++ last.sent) (every_append SentTold o.sent last.sent h.sent l.sent));
        told = every_append JoinTold (tries o.view).told (o.told ++ last.told) a.told (every_append JoinTold o.told last.told h.told l.told);
      }

  again_out : (c : Config) (me : ℕ) (v : SiteView) → ViewTold v → Every SentTold (repeats c me v)
  again_out c me v h = over v.epoch refl
    where
      polls_again : (o : Option Round) → Every SentTold (poll_repeats me v o)
      polls_again None = tt
      polls_again (Some r) = every_map SentTold (poll_packet me v.boot r.id r.polled) (unanswered r) (λ s. tt)

      over : (o : Option InEpoch) → v.epoch ≡ o → Every SentTold (repeats_of c me o v)
      over None q = order_sent SentTold (poll_repeats me v v.round) (polls_again v.round)
      over (Some i) q = every_append SentTold (in_order (poll_repeats me v v.round ++ install_repeats me v i)) _ (order_sent SentTold (poll_repeats me v v.round ++ install_repeats me v i) (every_append SentTold (poll_repeats me v v.round) (install_repeats me v i) (polls_again v.round) (every_map SentTold (install_packet me v.boot i.id i.members) v.installs (λ s. h.epoch i q))))
          (repeats_inside_walk law (frame_in c me v.boot i) (keeps (frame_in c me v.boot i)) i v)

  adopts_out : (c : Config) (boot me : ℕ) (v : SiteView) → v.boot ≡ boot → ViewTold v → OutTold boot (adopts_in c me v)
  adopts_out c boot me v e h = stays_out boot v (adopts_in c me v) e h (adopts_of_walk law c me v.epoch v tt (λ x q. keeps (frame_in c me v.boot x)) h.tables)

  ticks_out : (c : Config) (boot me : ℕ) (links : Links) (v : SiteView) → T me boot → v.boot ≡ boot → ViewTold v → OutTold boot (step c me links v Ticks)
  ticks_out c boot me links v own e h =
      let o : Outcome SiteView = adopts_in c me v in
      let a : OutTold boot o = adopts_out c boot me v e h in
      let last : Outcome SiteView = ends_event c me links o.view in
      let l : OutTold boot last = ends_out c boot me links o.view own a.boot_is a.view in
      record {
        boot_is = l.boot_is;
        view = l.view;
        sent = every_append SentTold o.sent (repeats c me o.view ++ in_order last.sent) a.sent (every_append SentTold (repeats c me o.view) (in_order last.sent) (again_out c me o.view a.view) (order_sent SentTold last.sent l.sent));
        told = every_append JoinTold o.told last.told a.told l.told;
      }

  call_out : (c : Config) (boot me process : ℕ) (words : Call) (v : SiteView) → v.boot ≡ boot → ViewTold v → OutTold boot (takes_call c me process words v)
  call_out c boot me process words v e h =
      let f : Frame = call_frame c me v.boot v.epoch in
      let k : _ = on_call_walk law f (keeps f).users (epoch_id v.epoch) process words v.users (λ n. tt) in
      record { boot_is = e; view = record { round = h.round; epoch = h.epoch; tables = h.tables }; sent = k.0; told = no_join (takes_call c me process words v).told k.1 }

  -- what comes to the site
  abbrev pub EventTold : Event → Type 0
  EventTold (Receives p) = SentTold p
  EventTold _ = Unit {0}

  pub step_told : (c : Config) (boot me : ℕ) (links : Links) (v : SiteView) (e : Event) → Told_boots links.boot → T me boot → EventTold e → v.boot ≡ boot → ViewTold v → OutTold boot (step c me links v e)
  step_told c boot me links v (Calls process words) fit own event e h = whole_out c boot me links (takes_call c me process words v) quiet own (call_out c boot me process words v e h) (λ q k. quiet_out boot _ q k)
  step_told c boot me links v (Receives p) fit own event e h = over (is_dropped p v)
    where
      over : (b : Bool) → OutTold boot (elim b as (λ (x : Bool). Outcome SiteView) [ true ↦ quiet v | false ↦ whole c me links (takes c me links p p.body v) (tries_at c me p.body) ])
      over true = quiet_out boot v e h
      over false = whole_out c boot me links (takes c me links p p.body v) (tries_at c me p.body) own (takes_out c boot me links p p.body v fit event e h)
          (λ q k. stays_out boot _ _ q k (tries_walk law c me p.body (takes c me links p p.body v).view tt (λ x z. keeps (frame_in c me _ x)) k.tables))
  step_told c boot me links v Ticks fit own event e h = ticks_out c boot me links v own e h
  step_told c boot me links v Parts fit own event e h = whole_out c boot me links (starts_part me links v) quiet own (part_out boot me links v.epoch v fit refl e h) (λ q k. quiet_out boot _ q k)
  step_told c boot me links v Merges fit own event e h = whole_out c boot me links (starts_merge me links v) quiet own (merge_out boot me links v fit e h) (λ q k. quiet_out boot _ q k)
  step_told c boot me links v GivesUp fit own event e h = whole_out c boot me links (leaves me v) quiet own (leaves_out boot me v.epoch v refl e h) (λ q k. quiet_out boot _ q k)
