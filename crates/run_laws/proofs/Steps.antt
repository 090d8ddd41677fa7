-- Each handler of a site promises, joins and leaves lawfully, and each packet that it sends names its epoch.
use Rattle.std.proofs.Common.{◌≡◌, ℕ, ◌+◌, ◌≤◌, Bool, true, false, cond, ◌&&◌, not, List, [], ◌∷◌, ◌++◌, map, Option, Some, None, refl, sym, ◌∙◌, ap, subst, inl, inr, arith}
use Rattle.std.proofs.lemmas.Bool.Decides.{nat_tests}
use Rattle.the_run.proofs.of_plain_facts.Options.{none_some, some_same}
use Rattle.the_run.proofs.of_plain_facts.Tests.{both_true, not_true, true_false}
use Rattle.locus_ids.specs.declared.ids.EpochId.{EpochId}
use Rattle.locus_ids.specs.declared.sites.Sites.{Sites}
use Rattle.locus_ids.specs.declared.sites.Members.{Members}
use Rattle.locus_ids.specs.declared.sites.Links.{Links}
use Rattle.locus_ids.specs.declared.config.Config.{Config}
use Rattle.trace_book.specs.Same.{same_epoch}
use Rattle.trace_book.specs.declared.record.Record.TheVariants as says
use Rattle.wire_messages.specs.declared.packet.Packet.{Packet}
use Rattle.wire_messages.specs.declared.body.Body.{Body}
use Rattle.wire_messages.specs.declared.body.Body.TheVariants as body
use Rattle.the_run.specs.of_role_steps.Own.{Every}
use Rattle.the_run.specs.of_role_steps.Tables.{without_row}
use Rattle.the_run.specs.of_role_steps.Views.{Frame, SiteView, Told, Shown, Promises, Outcome, Event, Calls, Receives, Ticks, Parts, Merges, GivesUp, quiet, sends, tells, and_then, joined_to, to_some, sync_site}
use Rattle.the_run.specs.of_role_steps.Using.{reply_record}
use Rattle.the_run.specs.of_role_steps.Reports.{new_table}
use Rattle.the_run.specs.of_role_steps.Storage.{report_of}
use Rattle.the_run.specs.of_role_steps.Epochs.{is_epoch_below, frame_in, leaves_of, leaves, promises, promised_view, reached, new_round, poll_packet, polled_sites, polls, round_id, begins_round, starts_merge, boots_where, merge_boot, part_boot, starts_part_of, starts_part, promise_packet, refuse_packet, on_poll, counts_promise, with_promise, on_promise_of, on_refuse_of, joined_view, report_packets, all_reports, joins, may_install, is_in, joined_packet, on_install, on_joined, passed_over, unanswered, chosen_members, chosen_set, others_of, install_packet, installs_all, decides, decides_if, passes_over_of, passes_over, poll_repeats, install_repeats}
use Rattle.the_run.specs.of_role_steps.declared.rounds.InEpoch.{InEpoch}
use Rattle.the_run.specs.of_role_steps.declared.rounds.Round.{Round}
use Rattle.the_run.specs.of_role_steps.declared.users.WaitingCall.{WaitingCall}
use Rattle.the_run.proofs.of_role_steps.Sending.{every_append, every_map, every_flat_map}
use Rattle.the_run.specs.Steps.{in_order, is_dropped, takes_framed, takes, tries_at, adopts_in, starts_mends_of, ends_event, whole, repeats_inside, repeats_of, repeats, ticks_after, call_frame, epoch_id, takes_call, step}
use Rattle.the_run.specs.Joins.{TableOk, Plain}
use Rattle.the_run.proofs.StepSends.{order_sent}
use Rattle.run_laws.proofs.Walks.SiteWalks.{repeats_inside_walk}
use Rattle.the_run.proofs.InsideSync.{joins_nothing, plain_keeps}
use Rattle.the_run.proofs.InsideRoles.{on_call_still}
use Rattle.the_run.proofs.InsideSites.{adopts_of_plain, tries_plain, mends_of_plain, framed_plain}
use Rattle.the_run.proofs.Joining.{plain_quiet}
use Rattle.run_laws.specs.Words.{Inside}
use Rattle.run_laws.specs.Standing.{Standing, after_told, standing_of, moves, OwnMoves}
use Rattle.run_laws.specs.Naming.{Promised, Joined, Deeds, Names, Now, PacketNames, ViewOk, Fine, IsInEpoch, Inner}
use Rattle.run_laws.proofs.Moves.{own_case, inside_moves, inside_own, now_old, now_first, packets_weaker, joined_fine, then_fine, sends_fine, quiet_fine, inner_stands, inner_view, inner_names, inner_fine, epoch_names, after_inner}
use Rattle.run_laws.proofs.InsideSteps.{quiet_inner, framed_inner, adopts_of_inner, tries_inner, mends_of_inner, call_inner, repeats_in_epoch}

-- ---- tests ----

same_epoch_eq : (a b : EpochId) → same_epoch a b ≡ true → a ≡ b
same_epoch_eq a b h = id_eq (grind (arith, nat_tests)) (grind (arith, nat_tests)) (grind (arith, nat_tests))
  where
    id_eq : a.number ≡ b.number → a.site ≡ b.site → a.boot ≡ b.boot → a ≡ b
    id_eq e f g = λ i. record { number = e i; site = f i; boot = g i }

not_below_number : (a b : EpochId) → is_epoch_below a b ≡ false → b.number ≤ a.number
not_below_number a b h = grind (arith, nat_tests)

above : (a b : EpochId) → a.number + 1 ≤ b.number → is_epoch_below a b ≡ true
above a b h = grind (arith, nat_tests)

-- ---- leaving and promising ----

pub leaves_of_fine : (K : Deeds) (s : ℕ) (e : Option InEpoch) (v : SiteView) → v.epoch ≡ e → ViewOk K v → Fine K s v (leaves_of s e v)
leaves_of_fine K s None v here h = quiet_fine K s v h
leaves_of_fine K s (Some e) v here h =
    let rest : List Told = map (λ (w : WaitingCall). reply_record s v.boot w _) v.users.waiting in
    let none : Every Inside rest = every_map Inside (λ (w : WaitingCall). reply_record s v.boot w _) v.users.waiting (λ w. tt) in
    let gone : Standing = record { promised = v.promised; installed = v.installed; epoch = None } in
    let first : after_told s (Shown (says.Leave s e.id)) (standing_of v) ≡ gone = own_case s gone (standing_of v) in
    record {
      boot = refl;
      view = record {
        round_is = h.round_is;
        waits = λ q. (let k : (v.epoch ≡ None) × K Promised v.promised = h.waits q in (refl, inl k.1));
        joined = λ x k. absurd (none_some x k);
        tables = tt;
      };
      stands = inside_moves s rest (after_told s (Shown (says.Leave s e.id)) (standing_of v)) none ∙ first;
      law = ((refl, ap epoch_id here), inside_own s (after_told s (Shown (says.Leave s e.id)) (standing_of v)) rest none);
      sent = tt;
      written = tt;
    }

leaves_of_promised : (me : ℕ) (e : Option InEpoch) (v : SiteView) → (leaves_of me e v).view.promised ≡ v.promised
leaves_of_promised me None v = refl
leaves_of_promised me (Some e) v = refl

leaves_of_epoch : (me : ℕ) (e : Option InEpoch) (v : SiteView) → v.epoch ≡ e → (leaves_of me e v).view.epoch ≡ None
leaves_of_epoch me None v h = h
leaves_of_epoch me (Some e) v h = refl

promised_fine : (K : Deeds) (s : ℕ) (id : EpochId) (reach : Sites) (v : SiteView) → ViewOk K v → is_epoch_below v.promised id ≡ true → v.epoch ≡ None → Fine K s v (tells (Promises s id reach ∷ []) (promised_view id v))
promised_fine K s id reach v h below gone = record {
  boot = refl;
  view = record {
    round_is = λ r e. absurd (none_some r e);
    waits = λ e. (gone, inr (inl (refl, refl)));
    joined = λ e here. absurd (none_some e (sym gone ∙ here));
    tables = h.tables;
  };
  stands = own_case s (record { promised = id; installed = false; epoch = epoch_id v.epoch }) (standing_of v);
  law = ((refl, (below, ap epoch_id gone)), tt);
  sent = tt;
  written = tt;
}

-- the site leaves its epoch, and promises a greater id
promises_fine : (K : Deeds) (s : ℕ) (id : EpochId) (reach : Sites) (v : SiteView) → ViewOk K v → is_epoch_below v.promised id ≡ true → Fine K s v (promises s id reach v)
promises_fine K s id reach v h below =
    then_fine K s v (leaves s v) (λ now. tells (Promises s id reach ∷ []) (promised_view id now)) (leaves_of_fine K s v.epoch v refl h)
    (λ g. promised_fine (Now K s (leaves s v).told) s id reach (leaves s v).view g (subst (λ (i : EpochId). is_epoch_below i id ≡ true) (sym (leaves_of_promised s v.epoch v)) below) (leaves_of_epoch s v.epoch v refl))

-- ---- rounds ----

polls_fine : (K : Deeds) (s : ℕ) (id : EpochId) (polled : Links) (v : SiteView) → ViewOk K v → id ≡ v.promised → v.installed ≡ false → Fine K s v (polls s id polled v)
polls_fine K s id polled v h is_last waits =
    sends_fine K s (map (poll_packet s v.boot id polled) (polled_sites polled)) v (record v { round = Some (new_round id polled) }) refl refl
    (record {
      round_is = λ r e. subst (λ (x : Round). (x.id ≡ v.promised) × (v.installed ≡ false)) (some_same (new_round id polled) r e) (is_last, waits);
      waits = h.waits;
      joined = h.joined;
      tables = h.tables;
    })
    (every_map (PacketNames K) (poll_packet s v.boot id polled) (polled_sites polled) (λ t. subst (λ (i : EpochId). K Promised i) (sym is_last) (h.waits waits).1))

pub begins_fine : (K : Deeds) (s : ℕ) (links : Links) (number : ℕ) (polled : Links) (v : SiteView) → ViewOk K v → v.promised.number + 1 ≤ number → Fine K s v (begins_round s links number polled v)
begins_fine K s links number polled v h le =
    let id : EpochId = round_id s number v in
    let o : Outcome SiteView = promises s id (reached links) v in
    then_fine K s v o (polls s id polled) (promises_fine K s id (reached links) v h (above v.promised id le))
    (λ g. polls_fine (Now K s o.told) s id polled o.view g refl refl)

pub starts_part_fine : (K : Deeds) (s : ℕ) (links : Links) (e : Option InEpoch) (v : SiteView) → ViewOk K v → Fine K s v (starts_part_of s links e v)
starts_part_fine K s links None v h = quiet_fine K s v h
starts_part_fine K s links (Some e) v h = begins_fine K s links (v.promised.number + 1) (boots_where (part_boot s links e.members)) v h (omega arith)

-- ---- Poll, Promise, Refuse ----

-- a promise is repeated where the id isn't joined yet, else it is refused
answer_names : (K : Deeds) (s : ℕ) (links : Links) (from from_boot : ℕ) (id : EpochId) (v : SiteView) → ViewOk K v → is_epoch_below v.promised id ≡ false →
    Every (PacketNames K) (cond (same_epoch id v.promised && not v.installed) (promise_packet s links from from_boot id v) (refuse_packet s from from_boot id v))
answer_names K s links from from_boot id v h below =
    (elim (same_epoch id v.promised && not v.installed) as (λ b. (same_epoch id v.promised && not v.installed) ≡ b → Every (PacketNames K) (cond b (promise_packet s links from from_boot id v) (refuse_packet s from from_boot id v))) [
      | true ↦ λ e. (let k : (same_epoch id v.promised ≡ true) × (not v.installed ≡ true) = both_true (same_epoch id v.promised) (not v.installed) e in (subst (λ (i : EpochId). K Promised i) (sym (same_epoch_eq id v.promised k.0)) (h.waits (not_true v.installed k.1)).1, tt))
      | false ↦ λ e. (not_below_number v.promised id below, tt)
    ]) refl

on_poll_fine : (K : Deeds) (s : ℕ) (links : Links) (from from_boot : ℕ) (id : EpochId) (v : SiteView) → ViewOk K v → Fine K s v (on_poll s links from from_boot id v)
on_poll_fine K s links from from_boot id v h =
    (elim (is_epoch_below v.promised id) as (λ t. is_epoch_below v.promised id ≡ t → Fine K s v (elim t [ true ↦ and_then (promises s id (reached links) v) (λ now. sends (promise_packet s links from from_boot id now) now) | false ↦ sends (cond (same_epoch id v.promised && not v.installed) (promise_packet s links from from_boot id v) (refuse_packet s from from_boot id v)) v ])) [
      | true ↦ λ e. then_fine K s v (promises s id (reached links) v) (λ now. sends (promise_packet s links from from_boot id now) now)
          (promises_fine K s id (reached links) v h e)
          (λ g. sends_fine (Now K s (promises s id (reached links) v).told) s (promise_packet s links from from_boot id (promises s id (reached links) v).view) (promises s id (reached links) v).view (promises s id (reached links) v).view refl refl g ((g.waits refl).1, tt))
      | false ↦ λ e. sends_fine K s (cond (same_epoch id v.promised && not v.installed) (promise_packet s links from from_boot id v) (refuse_packet s from from_boot id v)) v v refl refl h (answer_names K s links from from_boot id v h e)
    ]) refl

-- the round goes on under the same id
goes_on_round : (K : Deeds) (s : ℕ) (r q : Round) (v : SiteView) → ViewOk K v → v.round ≡ Some r → q.id ≡ r.id → Fine K s v (quiet (record v { round = Some q }))
goes_on_round K s r q v h here same =
    sends_fine K s [] v (record v { round = Some q }) refl refl (record {
      round_is = λ x e. (let k : (r.id ≡ v.promised) × (v.installed ≡ false) = h.round_is r here in subst (λ (y : Round). (y.id ≡ v.promised) × (v.installed ≡ false)) (some_same q x e) (same ∙ k.0, k.1));
      waits = h.waits;
      joined = h.joined;
      tables = h.tables;
    }) tt

cond_id : (b : Bool) (x y : Round) → x.id ≡ y.id → (cond b x y).id ≡ y.id
cond_id true x y e = e
cond_id false x y e = refl

on_promise_fine : (K : Deeds) (s from from_boot : ℕ) (id : EpochId) (reach : Sites) (o : Option Round) (v : SiteView) → ViewOk K v → v.round ≡ o → Fine K s v (on_promise_of from from_boot id reach o v)
on_promise_fine K s from from_boot id reach None v h e = quiet_fine K s v h
on_promise_fine K s from from_boot id reach (Some r) v h e =
    goes_on_round K s r (cond (counts_promise from from_boot id r) (with_promise from reach r) r) v h e (cond_id (counts_promise from from_boot id r) (with_promise from reach r) r refl)

on_refuse_fine : (K : Deeds) (s : ℕ) (links : Links) (id theirs : EpochId) (o : Option Round) (v : SiteView) → ViewOk K v → v.round ≡ o → id.number ≤ theirs.number → Fine K s v (on_refuse_of s links id theirs o v)
on_refuse_fine K s links id theirs None v h here le = quiet_fine K s v h
on_refuse_fine K s links id theirs (Some r) v h here le =
    (elim (same_epoch r.id id) as (λ t. same_epoch r.id id ≡ t → Fine K s v (elim t [ true ↦ begins_round s links (theirs.number + 1) r.polled v | false ↦ quiet v ])) [
      | true ↦ λ e. begins_fine K s links (theirs.number + 1) r.polled v h (let k : v.promised.number ≡ id.number = ap (λ (i : EpochId). i.number) (sym (h.round_is r here).0 ∙ same_epoch_eq r.id id e) in omega (arith, k, le))
      | false ↦ λ e. quiet_fine K s v h
    ]) refl

-- ---- joining ----

some_report : (K : Deeds) (f : Frame) (b : Body) (o : Option ℕ) → Names K f.epoch b → Every (PacketNames K) (to_some f b o)
some_report K f b None h = tt
some_report K f b (Some to) h = (h, tt)

reports_names : (K : Deeds) (f : Frame) (v : SiteView) → K Joined f.epoch → Every (PacketNames K) (all_reports f v)
reports_names K f v h = every_flat_map (PacketNames K) (report_packets f v) v.reports (λ g. some_report K f (body.Report g (report_of g v.store.copies)) (sync_site f.config f.members g) h)

joins_fine : (K : Deeds) (s : ℕ) (c : Config) (id : EpochId) (m : Members) (v : SiteView) → ViewOk K v → id ≡ v.promised → v.installed ≡ false → Fine K s v (joins c s id m v)
joins_fine K s c id m v h is_last waits =
    let k : (v.epoch ≡ None) × K Promised v.promised = h.waits waits in
    let e : InEpoch = record { id = id; members = m } in
    record {
      boot = refl;
      view = record {
        round_is = λ r f. absurd (none_some r f);
        waits = λ f. absurd (true_false f);
        joined = λ x f. subst (λ (y : InEpoch). Now K s told Joined y.id × Now K s told Promised y.id) (some_same e x f) (inr (inl (refl, refl)), inl (subst (λ (i : EpochId). K Promised i) (sym is_last) k.1));
        tables = every_map TableOk new_table _ (λ g. tt);
      };
      stands = own_case s (record { promised = v.promised; installed = true; epoch = Some id }) (standing_of v);
      law = ((refl, (sym is_last, waits, ap epoch_id k.0)), tt);
      sent = reports_names (Now K s told) (frame_in c s v.boot e) (joined_view c s id m v) (inr (inl (refl, refl)));
      written = tt;
    }
  where
    told : List Told
    told = (joins c s id m v).told

joined_names : (K : Deeds) (s from from_boot : ℕ) (id : EpochId) (v : SiteView) (e : Option InEpoch) → v.epoch ≡ e → ViewOk K v → Every (PacketNames K) (cond (is_in id e) (joined_packet s from from_boot id v) [])
joined_names K s from from_boot id v None here h = tt
joined_names K s from from_boot id v (Some e) here h =
    (elim (same_epoch e.id id) as (λ b. same_epoch e.id id ≡ b → Every (PacketNames K) (cond b (joined_packet s from from_boot id v) [])) [
      | true ↦ λ t. (subst (λ (i : EpochId). K Joined i) (same_epoch_eq e.id id t) (h.joined e here).0, tt)
      | false ↦ λ t. tt
    ]) refl

on_install_fine : (K : Deeds) (s : ℕ) (c : Config) (from from_boot : ℕ) (id : EpochId) (m : Members) (v : SiteView) → ViewOk K v → Fine K s v (on_install c s from from_boot id m v)
on_install_fine K s c from from_boot id m v h =
    (elim (may_install s id m v) as (λ t. may_install s id m v ≡ t → Fine K s v (elim t [ true ↦ and_then (joins c s id m v) (λ now. sends (joined_packet s from from_boot id now) now) | false ↦ sends (cond (is_in id v.epoch) (joined_packet s from from_boot id v) []) v ])) [
      | true ↦ λ e. joins_on e
      | false ↦ λ e. sends_fine K s (cond (is_in id v.epoch) (joined_packet s from from_boot id v) []) v v refl refl h (joined_names K s from from_boot id v v.epoch refl h)
    ]) refl
  where
    joins_on : may_install s id m v ≡ true → Fine K s v (and_then (joins c s id m v) (λ now. sends (joined_packet s from from_boot id now) now))
    joins_on e =
        let a : (same_epoch id v.promised ≡ true) × (_ ≡ true) = both_true (same_epoch id v.promised) _ e in
        let b : (not v.installed ≡ true) × (_ ≡ true) = both_true (not v.installed) _ a.1 in
        then_fine K s v (joins c s id m v) (λ now. sends (joined_packet s from from_boot id now) now)
        (joins_fine K s c id m v h (same_epoch_eq id v.promised a.0) (not_true v.installed b.0))
        (λ g. sends_fine (Now K s (joins c s id m v).told) s (joined_packet s from from_boot id (joins c s id m v).view) (joins c s id m v).view (joins c s id m v).view refl refl g ((g.joined (record { id = id; members = m }) refl).0, tt))

pub on_joined_fine : (K : Deeds) (s from : ℕ) (id : EpochId) (v : SiteView) → ViewOk K v → Fine K s v (on_joined from id v)
on_joined_fine K s from id v h =
    elim (is_in id v.epoch) as (λ b. Fine K s v (quiet (cond b (record v { installs = without_row (λ s. s) from v.installs }) v))) [
      | true ↦ sends_fine K s [] v (record v { installs = without_row (λ s. s) from v.installs }) refl refl (record { round_is = h.round_is; waits = h.waits; joined = h.joined; tables = h.tables }) tt
      | false ↦ quiet_fine K s v h
    ]

-- ---- the decision ----

installs_fine : (K : Deeds) (s : ℕ) (id : EpochId) (m : Members) (v : SiteView) → ViewOk K v → K Joined id → Fine K s v (installs_all s id m v)
installs_fine K s id m v h j =
    sends_fine K s (map (install_packet s v.boot id m) (others_of s m)) v (record v { installs = others_of s m }) refl refl
    (record { round_is = h.round_is; waits = h.waits; joined = h.joined; tables = h.tables })
    (every_map (PacketNames K) (install_packet s v.boot id m) (others_of s m) (λ t. j))

decides_fine : (K : Deeds) (s : ℕ) (c : Config) (id : EpochId) (m : Members) (v : SiteView) → ViewOk K v → id ≡ v.promised → v.installed ≡ false → Fine K s v (decides c s id m v)
decides_fine K s c id m v h is_last waits =
    then_fine K s v (joins c s id m v) (installs_all s id m) (joins_fine K s c id m v h is_last waits)
    (λ g. installs_fine (Now K s (joins c s id m v).told) s id m (joins c s id m v).view g (g.joined (record { id = id; members = m }) refl).0)

decides_if_fine : (K : Deeds) (s : ℕ) (c : Config) (links : Links) (r q : Round) (xs : List ℕ) (v : SiteView) → ViewOk K v → v.round ≡ Some r → q.id ≡ r.id → Fine K s v (decides_if c s links q xs v)
decides_if_fine K s c links r q [] v h here same = let k : (r.id ≡ v.promised) × (v.installed ≡ false) = h.round_is r here in decides_fine K s c q.id (chosen_members s v.boot q (chosen_set s links q)) v h (same ∙ k.0) k.1
decides_if_fine K s c links r q (x ∷ xs) v h here same = goes_on_round K s r q v h here same

passes_over_fine : (K : Deeds) (s : ℕ) (c : Config) (links : Links) (o : Option Round) (v : SiteView) → ViewOk K v → v.round ≡ o → Fine K s v (passes_over_of c s links o v)
passes_over_fine K s c links None v h e = quiet_fine K s v h
passes_over_fine K s c links (Some r) v h e = decides_if_fine K s c links r (passed_over links r) (unanswered (passed_over links r)) v h e refl

-- ---- the end of an event ----

ends_fine : (K : Deeds) (s : ℕ) (c : Config) (links : Links) (v : SiteView) → ViewOk K v → Fine K s v (ends_event c s links v)
ends_fine K s c links v h =
    then_fine K s v (passes_over c s links v) (λ now. starts_mends_of c s now.epoch now) (passes_over_fine K s c links v.round v h refl)
    (λ g. inner_fine (Now K s (passes_over c s links v).told) s (passes_over c s links v).view _ (mends_of_plain c s (passes_over c s links v).view.epoch (passes_over c s links v).view g.tables) (mends_of_inner c s (passes_over c s links v).view.epoch (passes_over c s links v).view refl) g)

-- ---- a packet ----

pub takes_fine : (K : Deeds) (s : ℕ) (c : Config) (links : Links) (p : Packet) (x : Body) (v : SiteView) (J : Deeds) → ViewOk K v → Names J p.epoch x → Fine K s v (takes c s links p x v)
takes_fine K s c links p body.Poll v J h k = on_poll_fine K s links p.from p.from_boot p.epoch v h
takes_fine K s c links p (body.Promise reach) v J h k = on_promise_fine K s p.from p.from_boot p.epoch reach v.round v h refl
takes_fine K s c links p (body.Refuse promised) v J h k = on_refuse_fine K s links p.epoch promised v.round v h refl k
takes_fine K s c links p (body.Install members) v J h k = on_install_fine K s c p.from p.from_boot p.epoch members v h
takes_fine K s c links p body.Joined v J h k = on_joined_fine K s p.from p.epoch v h
takes_fine K s c links p _ v J h k = inner_fine K s v (takes_framed c s p v.epoch v) (framed_plain c s p v.epoch v h.tables) (framed_inner c s p v.epoch v refl) h

-- ---- the step ----

whole_fine : (K : Deeds) (s : ℕ) (c : Config) (links : Links) (v : SiteView) (o : Outcome SiteView) (tries : SiteView → Outcome SiteView) → Fine K s v o → ((u : SiteView) → Every TableOk u.tables → Plain u (tries u)) → ((u : SiteView) → Inner u (tries u)) → Fine K s v (whole c s links o tries)
whole_fine K s c links v o tries h plain inner =
    let a : Outcome SiteView = tries o.view in
    let p : Plain o.view a = plain o.view h.view.tables in
    let i : Inner o.view a = inner o.view in
    let last : Outcome SiteView = ends_event c s links a.view in
    let J : Deeds = Now K s o.told in
    let e : Fine J s a.view last = ends_fine J s c links a.view (inner_view J o.view a p i h.view) in
    after_inner K s v a (joined_to o last) i.works
    (packets_weaker J (Now K s (o.told ++ last.told)) (now_first K s o.told last.told) a.sent (inner_names J o.view a p i h.view))
    (joined_fine K s v a.view o last h (inner_stands o.view a p i) p.boot e)

polls_names : (K : Deeds) (me : ℕ) (v : SiteView) (r : Option Round) → v.round ≡ r → ViewOk K v → Every (PacketNames K) (poll_repeats me v r)
polls_names K me v None here h = tt
polls_names K me v (Some r) here h =
    let k : (r.id ≡ v.promised) × (v.installed ≡ false) = h.round_is r here in
    every_map (PacketNames K) (poll_packet me v.boot r.id r.polled) (unanswered r) (λ s. subst (λ (i : EpochId). K Promised i) (sym k.0) (h.waits k.1).1)

repeats_names : (K : Deeds) (c : Config) (me : ℕ) (o : Option InEpoch) (v : SiteView) → v.epoch ≡ o → ViewOk K v → Every (PacketNames K) (repeats_of c me o v)
repeats_names K c me None v here h = order_sent (PacketNames K) (poll_repeats me v v.round) (polls_names K me v v.round refl h)
repeats_names K c me (Some e) v here h =
    every_append (PacketNames K) (in_order (poll_repeats me v v.round ++ install_repeats me v e)) (repeats_inside (frame_in c me v.boot e) e v)
    (order_sent (PacketNames K) (poll_repeats me v v.round ++ install_repeats me v e) (every_append (PacketNames K) (poll_repeats me v v.round) (install_repeats me v e) (polls_names K me v v.round refl h) (every_map (PacketNames K) (install_packet me v.boot e.id e.members) v.installs (λ t. (h.joined e here).0))))
    (epoch_names K v (repeats_inside (frame_in c me v.boot e) e v) h (subst (λ (x : Option InEpoch). Every (IsInEpoch x) (repeats_inside (frame_in c me v.boot e) e v)) (sym here) (repeats_in_epoch c me v.boot e v)) (repeats_inside_walk joins_nothing (frame_in c me v.boot e) (plain_keeps (frame_in c me v.boot e)) e v))

ticks_fine : (K : Deeds) (s : ℕ) (c : Config) (links : Links) (v : SiteView) (a : Outcome SiteView) → ViewOk K v → Plain v a → Inner v a → Fine K s v (ticks_after c s links a)
ticks_fine K s c links v a h p i =
    let again : List Packet = repeats c s a.view in
    let last : Outcome SiteView = ends_event c s links a.view in
    let here : ViewOk K a.view = inner_view K v a p i h in
    let e : Fine K s a.view last = ends_fine K s c links a.view here in
    let x : Fine K s v last = record { boot = e.boot ∙ p.boot; view = e.view; stands = subst (λ (now : Standing). moves s last.told now ≡ standing_of last.view) (inner_stands v a p i) e.stands; law = subst (λ (now : Standing). OwnMoves s now last.told) (inner_stands v a p i) e.law; sent = e.sent; written = e.written } in
    let f : Fine K s v (record { view = last.view; sent = a.sent ++ in_order last.sent; told = a.told ++ last.told; written = _ }) = after_inner K s v a last i.works (packets_weaker K (Now K s last.told) (now_old K s last.told) a.sent (inner_names K v a p i h)) x in
    let N : Deeds = Now K s (a.told ++ last.told) in
    record {
      boot = f.boot;
      view = f.view;
      stands = f.stands;
      law = f.law;
      sent = every_append (PacketNames N) a.sent (again ++ in_order last.sent) (packets_weaker K N (now_old K s (a.told ++ last.told)) a.sent (inner_names K v a p i h))
          (every_append (PacketNames N) again (in_order last.sent) (packets_weaker K N (now_old K s (a.told ++ last.told)) again (repeats_names K c s a.view.epoch a.view refl here)) (later (PacketNames N) a.sent (in_order last.sent) f.sent));
      written = f.written;
    }
  where
    later : (P : Packet → Type 0) (xs ys : List Packet) → Every P (xs ++ ys) → Every P ys
    later P [] ys k = k
    later P (x ∷ xs) ys k = later P xs ys k.1

-- what the packet of an event carries, over what its sender has done
abbrev pub EventNames : Deeds → Event → Type 0
EventNames J (Receives p) = PacketNames J p
EventNames J _ = Unit {0}

pub step_fine : (K : Deeds) (s : ℕ) (c : Config) (links : Links) (v : SiteView) (e : Event) (J : Deeds) → ViewOk K v → EventNames J e → Fine K s v (step c s links v e)
step_fine K s c links v (Calls process words) J h k =
    whole_fine K s c links v (takes_call c s process words v) quiet
    (inner_fine K s v (takes_call c s process words v) (record { boot = refl; round = refl; promised = refl; epoch = refl; tables = h.tables; still = on_call_still (call_frame c s v.boot v.epoch) (epoch_id v.epoch) process words v.users }) (call_inner c s process words v) h)
    plain_quiet quiet_inner
step_fine K s c links v (Receives p) J h k =
    elim (is_dropped p v) as (λ t. Fine K s v (elim t [ true ↦ quiet v | false ↦ whole c s links (takes c s links p p.body v) (tries_at c s p.body) ])) [
      | true ↦ quiet_fine K s v h
      | false ↦ whole_fine K s c links v (takes c s links p p.body v) (tries_at c s p.body) (takes_fine K s c links p p.body v J h k) (tries_plain c s p.body) (tries_inner c s p.body)
    ]
step_fine K s c links v Ticks J h k = ticks_fine K s c links v (adopts_in c s v) h (adopts_of_plain c s v.epoch v h.tables) (adopts_of_inner c s v.epoch v refl)
step_fine K s c links v Parts J h k = whole_fine K s c links v (starts_part s links v) quiet (starts_part_fine K s links v.epoch v h) plain_quiet quiet_inner
step_fine K s c links v Merges J h k = whole_fine K s c links v (starts_merge s links v) quiet (begins_fine K s links (v.promised.number + 1) (boots_where (merge_boot s links)) v h (omega arith)) plain_quiet quiet_inner
step_fine K s c links v GivesUp J h k = whole_fine K s c links v (leaves s v) quiet (leaves_of_fine K s v.epoch v refl h) plain_quiet quiet_inner
