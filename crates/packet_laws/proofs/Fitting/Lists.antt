-- The boots that a step of a site lists and addresses: those that it knows.
use Rattle.std.proofs.Common.{◌≡◌, ℕ, ◌+◌, ◌-◌, ◌≤◌, ◌<◌, ◌^◌, ◌==◌, Bool, true, false, cond, ◌&&◌, ◌||◌, not, nat_lt, List, [], ◌∷◌, ◌++◌, length, map, filter, Option, Some, None, refl, sym, ◌∙◌, subst, arith}
use Rattle.std.proofs.Math.Pow.{pow_mono}
use Rattle.std.proofs.lemmas.Bool.Decides.{nat_tests}
use Rattle.std.proofs.lemmas.Nat.{or_of_16}
use Rattle.role_steps.proofs.of_plain_facts.Numbers.{equal}
use Rattle.role_steps.proofs.of_plain_facts.Options.{none_some, some_same}
use Rattle.role_steps.proofs.of_plain_facts.Tests.{both_true, not_false}
use Rattle.locus_ids.specs.Sites.{has, with_site}
use Rattle.locus_ids.specs.declared.ids.EpochId.{EpochId}
use Rattle.locus_ids.specs.declared.sites.Sites.{Sites}
use Rattle.locus_ids.specs.declared.sites.Members.{Members}
use Rattle.locus_ids.specs.declared.sites.Links.{Links}
use Rattle.locus_ids.specs.declared.config.Config.{Config}
use Rattle.locus_ids.specs.Sizes.{set_span, sites_max}
use Rattle.trace_book.specs.Same.{same_epoch}
use Rattle.wire_messages.specs.declared.packet.Packet.{Packet}
use Rattle.wire_messages.specs.declared.body.Body.{Body}
use Rattle.wire_messages.specs.declared.body.Body.TheVariants as body
use Rattle.role_steps.specs.Own.{Every}
use Rattle.role_steps.specs.Tables.{without_row}
use Rattle.role_steps.specs.Views.{Frame, SiteView, Promises, Outcome, Event, Calls, Receives, Ticks, Parts, Merges, GivesUp, quiet, sends, tells, joined_to, and_then, boot_in, all_sites, all_groups, pack_sites}
use Rattle.role_steps.specs.Reports.{new_table}
use Rattle.role_steps.specs.Storage.{report_of}
use Rattle.role_steps.specs.Epochs.{is_epoch_below, frame_in, leaves_of, leaves, promises, promised_view, reached, new_round, poll_packet, polled_sites, polls, round_id, begins_round, starts_merge, boots_where, merge_boot, part_boot, starts_part_of, starts_part, promise_packet, refuse_packet, on_poll, counts_promise, with_promise, on_promise_of, on_refuse_of, joined_view, report_packets, own_groups, is_sync_site, joins, may_install, is_in, joined_packet, on_install, on_joined, left_boot, passed_over, has_promised, unanswered, polled_boot, member_boot, chosen_members, chosen_set, others_of, install_packet, installs_all, decides, decides_if, passes_over_of, passes_over, poll_repeats, install_repeats}
use Rattle.role_steps.specs.declared.rounds.InEpoch.{InEpoch}
use Rattle.role_steps.specs.declared.rounds.Round.{Round}
use Rattle.role_steps.proofs.Sending.{every_append, every_cond, every_map, every_flat_map}
use Rattle.role_steps.proofs.Counted.{every_site}
use Rattle.the_run.specs.Steps.{in_order, is_dropped, is_forming, is_framed, takes_framed, takes, tries_at, adopts_in, starts_mends_of, ends_event, whole, repeats_inside, repeats_of, repeats, ticks_after, call_frame, epoch_id, takes_call, step}
use Rattle.the_run.proofs.Boots.{every_weaker}
use Rattle.the_run.proofs.InsideSync.{every_without}
use Rattle.the_run.proofs.StepSends.{order_sent}
use Rattle.run_laws.specs.Epochs.Forming.{FormsNone, Formless, TableFormless, FormlessSite}
use Rattle.run_laws.proofs.Epochs.Boots.{boots_bounded, cond_at_most}
use Rattle.run_laws.proofs.Epochs.Forms.{sync_formless, on_call_forms, formless_quiet, adopts_of_formless, tries_formless, mends_of_formless, framed_formless, inside_formless}
use Rattle.run_laws.proofs.Epochs.Parts.{every_both}
use Rattle.wire_messages.specs.Bodies.{kind_number}
use Rattle.run_laws.proofs.Epochs.Handlers.{leaves_of_epoch}
use Rattle.packet_laws.specs.Fitting.Fields.{IsSite, IsBoot, AreBoots}
use Rattle.packet_laws.proofs.Fitting.Meeting.{IsListed, IsAddressed, Meant, Meets, TableMeets, MeetingSite, listed_site, every_passing, not_none, meets_sync}
use Rattle.packet_laws.proofs.Fitting.SitesMeet.{FitsIn, FromMember, inside_meets, meeting_quiet, adopts_of_meet, tries_meet, mends_of_meet, call_meet, framed_meet}

-- ---- what a packet that forms an epoch says ----

abbrev pub Forms : Packet → Body → Type 0
Forms p body.Poll = IsAddressed p
Forms p (body.Promise reach) = IsAddressed p × (reach.0 < set_span)
Forms p (body.Refuse theirs) = IsAddressed p
Forms p (body.Install members) = IsAddressed p × AreBoots members.boot
Forms p body.Joined = IsAddressed p
Forms p (body.Report group copies) = IsAddressed p
Forms p (body.ReportOk group) = IsAddressed p × (group < 2 ^ 8)
Forms p (body.Open serial call process request file how) = IsAddressed p
Forms p (body.Opened inst answer) = IsAddressed p
Forms p (body.Closed inst made) = IsAddressed p
Forms p (body.ClosedOk inst) = IsAddressed p
Forms p (body.Look call process request take file what) = IsAddressed p
Forms p (body.Page file stamp page bytes) = IsAddressed p
Forms p (body.Delta file wanted pages) = IsAddressed p
Forms p (body.Have file stamp) = IsAddressed p
Forms p _ = Unit {0}

abbrev pub Formed : Packet → Type 0
Formed p = Forms p p.body

pub record Site (v : SiteView) : Type 0 where
  pub own : IsBoot v.boot
  pub round : (r : Round) → v.round ≡ Some r → AreBoots r.polled.boot
  pub inside : (e : InEpoch) → v.epoch ≡ Some e → AreBoots e.members.boot × Every (IsListed e.members.boot) v.installs
  pub tables : Every TableFormless v.tables
  pub meets : Every TableMeets v.tables

pub record Fine (o : Outcome SiteView) : Type 0 where
  pub view : Site o.view
  pub sent : Every Formed o.sent

-- ---- lists of boots ----

all_length : (f : ℕ → ℕ) → length (map f all_sites) ≡ sites_max
all_length f = refl

-- a list that is made of boots
pub made_boots : (f : ℕ → ℕ) → ((t : ℕ) → f t ≤ 134217730) → AreBoots (map f all_sites)
made_boots f h = (all_length f, boots_bounded f (λ t. 134217730) h)

keeping : {A : Type 0} (P : A → Type 0) (b : Bool) (x : A) (ys : List A) → P x → Every P ys → Every P (cond b (x ∷ ys) ys)
keeping P true x ys p h = (p, h)
keeping P false x ys p h = h

pub every_kept : {A : Type 0} (P : A → Type 0) (test : A → Bool) (xs : List A) → Every P xs → Every P (filter test xs)
every_kept P test [] h = tt
every_kept P test (x ∷ xs) h = keeping P (test x) x (filter test xs) h.0 (every_kept P test xs h.1)

map_every : {A B : Type 0} (Q : A → Type 0) (P : B → Type 0) (g : A → B) (xs : List A) → ((x : A) → Q x → P (g x)) → Every Q xs → Every P (map g xs)
map_every Q P g [] f h = tt
map_every Q P g (x ∷ xs) f h = (f x h.0, map_every Q P g xs f h.1)

polled_listed : (polled : Links) → Every (IsListed polled.boot) (polled_sites polled)
polled_listed polled = every_weaker (λ (s : ℕ). not (boot_in polled.boot s == 0) ≡ true) (IsListed polled.boot) (polled_sites polled) (λ s h. not_none (boot_in polled.boot s) h) (every_passing (λ (s : ℕ). not (boot_in polled.boot s == 0)) all_sites)

-- ---- what a site reaches ----

with_site_narrow : (set : Sites) (s : ℕ) → set.0 < set_span → 2 ^ (s - 1) < set_span → (with_site set s).0 < set_span
with_site_narrow set s h g = or_of_16 set.0 (2 ^ (s - 1)) h g

cond_narrow : (b : Bool) (set more : Sites) → set.0 < set_span → more.0 < set_span → (cond b set more).0 < set_span
cond_narrow true set more h g = h
cond_narrow false set more h g = g

-- each of these sites has a place among sixteen
abbrev AreSites : List ℕ → Type 0
AreSites ss = Every (λ (s : ℕ). 2 ^ (s - 1) < set_span) ss

abbrev reach_among : Links → List ℕ → Sites
reach_among links [] = record { 0 = 0 }
reach_among links (s ∷ ss) = cond (boot_in links.boot s == 0) (reach_among links ss) (with_site (reach_among links ss) s)

reach_narrow : (links : Links) (ss : List ℕ) → AreSites ss → (reach_among links ss).0 < set_span
reach_narrow links [] h = omega arith
reach_narrow links (s ∷ ss) h = cond_narrow (boot_in links.boot s == 0) (reach_among links ss) (with_site (reach_among links ss) s) (reach_narrow links ss h.1) (with_site_narrow (reach_among links ss) s (reach_narrow links ss h.1) h.0)

each_is_site : AreSites all_sites
each_is_site = every_site (λ (s : ℕ). 2 ^ (s - 1) < set_span) (λ s low high. (let le : s - 1 ≤ sites_max - 1 = omega (arith, high) in let e : 2 ^ (s - 1) ≤ 2 ^ (sites_max - 1) = pow_mono le in omega (arith, e)))

reached_narrow : (links : Links) → (reached links).0 < set_span
reached_narrow links = reach_narrow links all_sites each_is_site

-- ---- outcomes ----

joined_fine : (o p : Outcome SiteView) → Fine o → Fine p → Fine (joined_to o p)
joined_fine o p h g = record { view = g.view; sent = every_append Formed o.sent p.sent h.sent g.sent }

then_fine : (o : Outcome SiteView) (f : SiteView → Outcome SiteView) → Fine o → (Site o.view → Fine (f o.view)) → Fine (and_then o f)
then_fine o f h g = joined_fine o (f o.view) h (g h.view)

sends_fine : (ps : List Packet) (v : SiteView) → Site v → Every Formed ps → Fine (sends ps v)
sends_fine ps v h e = record { view = h; sent = e }

quiet_fine : (v : SiteView) → Site v → Fine (quiet v)
quiet_fine v h = sends_fine [] v h tt

forms_none : (p : Packet) (b : Body) → FormsNone b → Meant p b → Forms p b
forms_none p body.Poll h k = absurd h
forms_none p (body.Promise reach) h k = absurd h
forms_none p (body.Refuse theirs) h k = absurd h
forms_none p (body.Install members) h k = absurd h
forms_none p body.Joined h k = absurd h
forms_none p (body.Report group copies) h k = k
forms_none p (body.ReportOk group) h k = k
forms_none p (body.Open serial call process request file how) h k = k
forms_none p (body.Opened inst answer) h k = k
forms_none p (body.Closed inst made) h k = k
forms_none p (body.ClosedOk inst) h k = k
forms_none p (body.Look call process request take file what) h k = k
forms_none p (body.Page file stamp page bytes) h k = k
forms_none p (body.Delta file wanted pages) h k = k
forms_none p (body.Have file stamp) h k = k
forms_none p _ h k = tt

formless_formed : (ps : List Packet) → Every Formless ps → Every Meets ps → Every Formed ps
formless_formed ps h k = every_both Formless Meets Formed ps (λ p a b. forms_none p p.body a b) h k

-- the members of the epoch that a site is in
pub fits_in : (v : SiteView) (o : Option InEpoch) → v.epoch ≡ o → Site v → FitsIn o
fits_in v None here h = tt
fits_in v (Some e) here h = (h.inside e here).0

pub inner_fine : (v : SiteView) (o : Outcome SiteView) → FormlessSite v o → MeetingSite v o → Site v → Fine o
inner_fine v o f m h = record {
  view = record {
    own = subst IsBoot (sym f.boot) h.own;
    round = λ r e. h.round r (sym f.round ∙ e);
    inside = λ x e. (let k : AreBoots x.members.boot × Every (IsListed x.members.boot) v.installs = h.inside x (sym f.epoch ∙ e) in (k.0, subst (λ (ss : List ℕ). Every (IsListed x.members.boot) ss) (sym m.installs) k.1));
    tables = f.tables;
    meets = m.tables;
  };
  sent = formless_formed o.sent f.still.0 m.sent;
}

-- ---- leaving, promising, polling ----

pub leaves_fine : (me : ℕ) (e : Option InEpoch) (v : SiteView) → Site v → Fine (leaves_of me e v)
leaves_fine me None v h = quiet_fine v h
leaves_fine me (Some e) v h = record { view = record { own = h.own; round = h.round; inside = λ x k. absurd (none_some x k); tables = tt; meets = tt }; sent = tt }

promises_fine : (me : ℕ) (id : EpochId) (reach : Sites) (v : SiteView) → Site v → Fine (promises me id reach v)
promises_fine me id reach v h =
    then_fine (leaves me v) (λ now. tells (Promises me id reach ∷ []) (promised_view id now)) (leaves_fine me v.epoch v h)
    (λ g. record {
      view = record { own = g.own; round = λ r e. absurd (none_some r e); inside = λ x e. absurd (none_some x (sym (leaves_of_epoch me v.epoch v refl) ∙ e)); tables = g.tables; meets = g.meets };
      sent = tt;
    })

poll_formed : (me boot : ℕ) (id : EpochId) (polled : Links) (ss : List ℕ) → AreBoots polled.boot → Every (IsListed polled.boot) ss → Every Formed (map (poll_packet me boot id polled) ss)
poll_formed me boot id polled ss fit h = map_every (IsListed polled.boot) Formed (poll_packet me boot id polled) ss (λ s k. listed_site polled.boot s fit k) h

pub begins_fine : (me : ℕ) (links : Links) (number : ℕ) (polled : Links) (v : SiteView) → AreBoots polled.boot → Site v → Fine (begins_round me links number polled v)
begins_fine me links number polled v fit h =
    let id : EpochId = round_id me number v in
    let o : Outcome SiteView = promises me id (reached links) v in
    then_fine o (polls me id polled) (promises_fine me id (reached links) v h)
    (λ g. sends_fine (map (poll_packet me o.view.boot id polled) (polled_sites polled)) (record o.view { round = Some (new_round id polled) })
    (record { own = g.own; round = λ r e. subst (λ (x : Round). AreBoots x.polled.boot) (some_same (new_round id polled) r e) fit; inside = g.inside; tables = g.tables; meets = g.meets })
    (poll_formed me o.view.boot id polled (polled_sites polled) fit (polled_listed polled)))

pub starts_part_fine : (me : ℕ) (links : Links) (e : Option InEpoch) (v : SiteView) → v.epoch ≡ e → Site v → Fine (starts_part_of me links e v)
starts_part_fine me links None v here h = quiet_fine v h
starts_part_fine me links (Some e) v here h = begins_fine me links (v.promised.number + 1) (boots_where (part_boot me links e.members)) v (made_boots (part_boot me links e.members) (λ t. cond_at_most ((t == me) || not (boot_in links.boot t == boot_in e.members.boot t)) 0 (boot_in e.members.boot t) 134217730 (omega arith) ((h.inside e here).0.1 t))) h

-- ---- Poll, Promise, Refuse ----

on_poll_fine : (me : ℕ) (links : Links) (from from_boot : ℕ) (id : EpochId) (v : SiteView) → IsSite from → IsBoot from_boot → Site v → Fine (on_poll me links from from_boot id v)
on_poll_fine me links from from_boot id v site boot h =
    elim (is_epoch_below v.promised id) as (λ t. Fine (elim t [ true ↦ and_then (promises me id (reached links) v) (λ now. sends (promise_packet me links from from_boot id now) now) | false ↦ sends (cond (same_epoch id v.promised && not v.installed) (promise_packet me links from from_boot id v) (refuse_packet me from from_boot id v)) v ])) [
      | true ↦ then_fine (promises me id (reached links) v) (λ now. sends (promise_packet me links from from_boot id now) now) (promises_fine me id (reached links) v h)
          (λ g. sends_fine (promise_packet me links from from_boot id (promises me id (reached links) v).view) (promises me id (reached links) v).view g (((site, boot), reached_narrow links), tt))
      | false ↦ sends_fine (cond (same_epoch id v.promised && not v.installed) (promise_packet me links from from_boot id v) (refuse_packet me from from_boot id v)) v h
          (every_cond Formed (same_epoch id v.promised && not v.installed) (promise_packet me links from from_boot id v) (refuse_packet me from from_boot id v) (((site, boot), reached_narrow links), tt) ((site, boot), tt))
    ]

-- the round goes on with these boots
goes_on_round : (q : Round) (v : SiteView) → AreBoots q.polled.boot → Site v → Fine (quiet (record v { round = Some q }))
goes_on_round q v fit h = record {
  view = record { own = h.own; round = λ x e. subst (λ (y : Round). AreBoots y.polled.boot) (some_same q x e) fit; inside = h.inside; tables = h.tables; meets = h.meets };
  sent = tt;
}

on_promise_fine : (from from_boot : ℕ) (id : EpochId) (reach : Sites) (o : Option Round) (v : SiteView) → Site v → v.round ≡ o → Fine (on_promise_of from from_boot id reach o v)
on_promise_fine from from_boot id reach None v h e = quiet_fine v h
on_promise_fine from from_boot id reach (Some r) v h e = by_test (counts_promise from from_boot id r)
  where
    by_test : (b : Bool) → Fine (quiet (record v { round = Some (cond b (with_promise from reach r) r) }))
    by_test true = goes_on_round (with_promise from reach r) v (h.round r e) h
    by_test false = goes_on_round r v (h.round r e) h

on_refuse_fine : (me : ℕ) (links : Links) (id theirs : EpochId) (o : Option Round) (v : SiteView) → Site v → v.round ≡ o → Fine (on_refuse_of me links id theirs o v)
on_refuse_fine me links id theirs None v h here = quiet_fine v h
on_refuse_fine me links id theirs (Some r) v h here =
    elim (same_epoch r.id id) as (λ t. Fine (elim t [ true ↦ begins_round me links (theirs.number + 1) r.polled v | false ↦ quiet v ])) [
      | true ↦ begins_fine me links (theirs.number + 1) r.polled v (h.round r here) h
      | false ↦ quiet_fine v h
    ]

-- ---- joining ----

some_report : (f : Frame) (fit : AreBoots f.members.boot) (group : ℕ) (v : SiteView) → Every Formed (report_packets f v group)
some_report f fit group v = formless_formed (report_packets f v group) (sync_formless f group _ tt) (meets_sync f fit group (body.Report group (report_of group v.store.copies)) tt)

joins_fine : (me : ℕ) (c : Config) (id : EpochId) (m : Members) (v : SiteView) → IsBoot v.boot → AreBoots m.boot → Fine (joins c me id m v)
joins_fine me c id m v own fit =
    let e : InEpoch = record { id = id; members = m } in
    record {
      view = record {
        own = own;
        round = λ r f. absurd (none_some r f);
        inside = λ x f. subst (λ (y : InEpoch). AreBoots y.members.boot × Every (IsListed y.members.boot) []) (some_same e x f) (fit, tt);
        tables = every_map TableFormless new_table _ (λ g. tt);
        meets = map_every (λ (g : ℕ). g < 2 ^ 8) TableMeets new_table _ (λ g k. (tt, k)) (every_kept (λ (g : ℕ). g < 2 ^ 8) (is_sync_site c me m) (own_groups c me) (every_kept (λ (g : ℕ). g < 2 ^ 8) (λ g. has (pack_sites c g) me) all_groups (omega arith, (omega arith, (omega arith, (omega arith, tt))))));
      };
      sent = every_flat_map Formed (report_packets (frame_in c me v.boot e) (joined_view c me id m v)) (joined_view c me id m v).reports
          (λ g. some_report (frame_in c me v.boot e) fit g (joined_view c me id m v));
    }

on_install_fine : (me : ℕ) (c : Config) (from from_boot : ℕ) (id : EpochId) (m : Members) (v : SiteView) → IsSite from → IsBoot from_boot → AreBoots m.boot → Site v → Fine (on_install c me from from_boot id m v)
on_install_fine me c from from_boot id m v site boot fit h =
    elim (may_install me id m v) as (λ t. Fine (elim t [ true ↦ and_then (joins c me id m v) (λ now. sends (joined_packet me from from_boot id now) now) | false ↦ sends (cond (is_in id v.epoch) (joined_packet me from from_boot id v) []) v ])) [
      | true ↦ then_fine (joins c me id m v) (λ now. sends (joined_packet me from from_boot id now) now) (joins_fine me c id m v h.own fit)
          (λ g. sends_fine (joined_packet me from from_boot id (joins c me id m v).view) (joins c me id m v).view g ((site, boot), tt))
      | false ↦ sends_fine (cond (is_in id v.epoch) (joined_packet me from from_boot id v) []) v h (every_cond Formed (is_in id v.epoch) (joined_packet me from from_boot id v) [] ((site, boot), tt) tt)
    ]

on_joined_fine : (from : ℕ) (id : EpochId) (v : SiteView) → Site v → Fine (on_joined from id v)
on_joined_fine from id v h =
    elim (is_in id v.epoch) as (λ b. Fine (quiet (cond b (record v { installs = without_row (λ s. s) from v.installs }) v))) [
      | true ↦ quiet_fine (record v { installs = without_row (λ s. s) from v.installs })
          (record { own = h.own; round = h.round; inside = λ e here. ((h.inside e here).0, every_without (IsListed e.members.boot) (λ s. s) from v.installs (h.inside e here).1); tables = h.tables; meets = h.meets })
      | false ↦ quiet_fine v h
    ]

-- ---- the decision, and the end of an event ----

other_test : (n : ℕ) (b : Bool) → not ((n == 0) || b) ≡ true → 1 ≤ n
other_test n true h = grind (arith, nat_tests)
other_test n false h = grind (arith, nat_tests)

others_listed : (me : ℕ) (m : Members) → Every (IsListed m.boot) (others_of me m)
others_listed me m = every_weaker (λ (s : ℕ). not ((boot_in m.boot s == 0) || (s == me)) ≡ true) (IsListed m.boot) (others_of me m) (λ s h. other_test (boot_in m.boot s) (s == me) h) (every_passing (λ (s : ℕ). not ((boot_in m.boot s == 0) || (s == me))) all_sites)

installs_formed : (me boot : ℕ) (id : EpochId) (m : Members) (ss : List ℕ) → AreBoots m.boot → Every (IsListed m.boot) ss → Every Formed (map (install_packet me boot id m) ss)
installs_formed me boot id m ss fit h = map_every (IsListed m.boot) Formed (install_packet me boot id m) ss (λ s k. (listed_site m.boot s fit k, fit)) h

decides_fine : (me : ℕ) (c : Config) (id : EpochId) (m : Members) (v : SiteView) → IsBoot v.boot → AreBoots m.boot → Fine (decides c me id m v)
decides_fine me c id m v own fit =
    then_fine (joins c me id m v) (installs_all me id m) (joins_fine me c id m v own fit)
    (λ g. sends_fine (map (install_packet me (joins c me id m v).view.boot id m) (others_of me m)) (record (joins c me id m v).view { installs = others_of me m })
    (record { own = g.own; round = g.round; inside = λ e here. subst (λ (y : InEpoch). AreBoots y.members.boot × Every (IsListed y.members.boot) (others_of me m)) (some_same (record { id = id; members = m }) e here) (fit, others_listed me m); tables = g.tables; meets = g.meets })
    (installs_formed me (joins c me id m v).view.boot id m (others_of me m) fit (others_listed me m)))

pub chosen_boots : (me boot : ℕ) (q : Round) (set : Sites) → IsBoot boot → AreBoots q.polled.boot → AreBoots (chosen_members me boot q set).boot
chosen_boots me boot q set own fit = made_boots (member_boot me boot q set) (λ t. cond_at_most (has set t) (polled_boot me boot q t) 0 134217730 (cond_at_most (t == me) boot (boot_in q.polled.boot t) 134217730 own.1 (fit.1 t)) (omega arith))

passed_fine : (me : ℕ) (c : Config) (links : Links) (q : Round) (xs : List ℕ) (v : SiteView) → AreBoots q.polled.boot → Site v → Fine (decides_if c me links q xs v)
passed_fine me c links q [] v fit h = decides_fine me c q.id (chosen_members me v.boot q (chosen_set me links q)) v h.own (chosen_boots me v.boot q (chosen_set me links q) h.own fit)
passed_fine me c links q (x ∷ xs) v fit h = goes_on_round q v fit h

pub left_boots : (links polled : Links) → AreBoots polled.boot → AreBoots (boots_where (left_boot links polled)).boot
left_boots links polled fit = made_boots (left_boot links polled) (λ t. cond_at_most (boot_in links.boot t == boot_in polled.boot t) (boot_in polled.boot t) 0 134217730 (fit.1 t) (omega arith))

pub passes_over_fine : (me : ℕ) (c : Config) (links : Links) (o : Option Round) (v : SiteView) → Site v → v.round ≡ o → Fine (passes_over_of c me links o v)
passes_over_fine me c links None v h here = quiet_fine v h
passes_over_fine me c links (Some r) v h here = passed_fine me c links (passed_over links r) (unanswered (passed_over links r)) v (left_boots links r.polled (h.round r here)) h

ends_fine : (me : ℕ) (c : Config) (links : Links) (v : SiteView) → Site v → Fine (ends_event c me links v)
ends_fine me c links v h =
    let o : Outcome SiteView = passes_over c me links v in
    then_fine o (λ now. starts_mends_of c me now.epoch now) (passes_over_fine me c links v.round v h refl)
    (λ g. inner_fine o.view (starts_mends_of c me o.view.epoch o.view) (mends_of_formless c me o.view.epoch o.view g.tables) (mends_of_meet c me o.view.epoch o.view (fits_in o.view o.view.epoch refl g) g.meets) g)

-- ---- a packet ----

-- what the header and the body of the packet say that comes
abbrev pub PacketComes : Packet → Type 0
PacketComes p = IsSite p.from × IsBoot p.from_boot × Formed p

-- a packet that forms no epoch is from a member
abbrev pub IsAsked : Body → Option InEpoch → ℕ → Type 0
IsAsked body.Poll e from = Unit {0}
IsAsked (body.Promise reach) e from = Unit {0}
IsAsked (body.Refuse theirs) e from = Unit {0}
IsAsked (body.Install members) e from = Unit {0}
IsAsked body.Joined e from = Unit {0}
IsAsked _ e from = FromMember e from

from_member : (p : Packet) (e : Option InEpoch) → is_framed p e ≡ true → IsBoot p.from_boot → FromMember e p.from
from_member p None h own = tt
from_member p (Some e) h own = let k : boot_in e.members.boot p.from ≡ p.from_boot = equal (boot_in e.members.boot p.from) p.from_boot (both_true (same_epoch e.id p.epoch) (boot_in e.members.boot p.from == p.from_boot) h).1 in omega (arith, k, own.0)

asked_of : (b : Body) (e : Option InEpoch) (from : ℕ) (framed : Bool) → (nat_lt (kind_number b) 6 || framed) ≡ true → (framed ≡ true → FromMember e from) → IsAsked b e from
asked_of body.Poll e from framed h k = tt
asked_of (body.Promise reach) e from framed h k = tt
asked_of (body.Refuse theirs) e from framed h k = tt
asked_of (body.Install members) e from framed h k = tt
asked_of body.Joined e from framed h k = tt
asked_of _ e from framed h k = k h

pub is_asked : (p : Packet) (v : SiteView) → is_dropped p v ≡ false → IsBoot p.from_boot → IsAsked p.body v.epoch p.from
is_asked p v kept own = asked_of p.body v.epoch p.from (is_framed p v.epoch) (both_true (p.to_boot == v.boot) (is_forming p || is_framed p v.epoch) (not_false ((p.to_boot == v.boot) && (is_forming p || is_framed p v.epoch)) kept)).1 (λ h. from_member p v.epoch h own)

pub takes_fine : (me : ℕ) (c : Config) (links : Links) (p : Packet) (x : Body) (v : SiteView) → IsSite p.from → IsBoot p.from_boot → Forms p x → IsAsked x v.epoch p.from → Site v → Fine (takes c me links p x v)
takes_fine me c links p body.Poll v site boot k asked h = on_poll_fine me links p.from p.from_boot p.epoch v site boot h
takes_fine me c links p (body.Promise reach) v site boot k asked h = on_promise_fine p.from p.from_boot p.epoch reach v.round v h refl
takes_fine me c links p (body.Refuse promised) v site boot k asked h = on_refuse_fine me links p.epoch promised v.round v h refl
takes_fine me c links p (body.Install members) v site boot k asked h = on_install_fine me c p.from p.from_boot p.epoch members v site boot k.1 h
takes_fine me c links p body.Joined v site boot k asked h = on_joined_fine p.from p.epoch v h
takes_fine me c links p _ v site boot k asked h = inner_fine v (takes_framed c me p v.epoch v) (framed_formless c me p v.epoch v h.tables) (framed_meet c me p v.epoch v (fits_in v v.epoch refl h) asked h.meets) h

-- ---- an event and its end ----

whole_fine : (me : ℕ) (c : Config) (links : Links) (o : Outcome SiteView) (tries : SiteView → Outcome SiteView) → Fine o → ((u : SiteView) → Every TableFormless u.tables → FormlessSite u (tries u)) → ((u : SiteView) → FitsIn u.epoch → Every TableMeets u.tables → MeetingSite u (tries u)) → Fine (whole c me links o tries)
whole_fine me c links o tries h formless meets =
    let a : Outcome SiteView = tries o.view in
    let k : FormlessSite o.view a = formless o.view h.view.tables in
    let f : Fine a = inner_fine o.view a k (meets o.view (fits_in o.view o.view.epoch refl h.view) h.view.meets) h.view in
    let last : Outcome SiteView = ends_event c me links a.view in
    let e : Fine last = ends_fine me c links a.view f.view in
    record {
      view = e.view;
      sent = every_append Formed a.sent (in_order (o.sent ++ last.sent)) f.sent (order_sent Formed (o.sent ++ last.sent) (every_append Formed o.sent last.sent h.sent e.sent));
    }

polls_formed : (me : ℕ) (v : SiteView) (r : Option Round) → v.round ≡ r → Site v → Every Formed (poll_repeats me v r)
polls_formed me v None here h = tt
polls_formed me v (Some r) here h = poll_formed me v.boot r.id r.polled (unanswered r) (h.round r here) (every_kept (IsListed r.polled.boot) (λ (s : ℕ). not (has_promised r s)) (polled_sites r.polled) (polled_listed r.polled))

repeats_formed : (me : ℕ) (c : Config) (o : Option InEpoch) (v : SiteView) → v.epoch ≡ o → Site v → Every Formed (repeats_of c me o v)
repeats_formed me c None v here h = order_sent Formed (poll_repeats me v v.round) (polls_formed me v v.round refl h)
repeats_formed me c (Some e) v here h =
    every_append Formed (in_order (poll_repeats me v v.round ++ install_repeats me v e)) (repeats_inside (frame_in c me v.boot e) e v)
    (order_sent Formed (poll_repeats me v v.round ++ install_repeats me v e) (every_append Formed (poll_repeats me v v.round) (install_repeats me v e) (polls_formed me v v.round refl h)
    (installs_formed me v.boot e.id e.members v.installs (h.inside e here).0 (h.inside e here).1)))
    (formless_formed (repeats_inside (frame_in c me v.boot e) e v) (inside_formless (frame_in c me v.boot e) e v) (inside_meets (frame_in c me v.boot e) (h.inside e here).0 e v))

ticks_fine : (me : ℕ) (c : Config) (links : Links) (a : Outcome SiteView) → Fine a → Fine (ticks_after c me links a)
ticks_fine me c links a f =
    let last : Outcome SiteView = ends_event c me links a.view in
    let e : Fine last = ends_fine me c links a.view f.view in
    record {
      view = e.view;
      sent = every_append Formed a.sent (repeats c me a.view ++ in_order last.sent) f.sent
          (every_append Formed (repeats c me a.view) (in_order last.sent) (repeats_formed me c a.view.epoch a.view refl f.view) (order_sent Formed last.sent e.sent));
    }

-- ---- the step ----

abbrev pub Comes : Event → Type 0
Comes (Receives p) = PacketComes p
Comes _ = Unit {0}

pub step_fine : (me : ℕ) (c : Config) (links : Links) (v : SiteView) (e : Event) → ((t : ℕ) → boot_in links.boot t ≤ 134217730) → Comes e → Site v → Fine (step c me links v e)
step_fine me c links v (Calls process words) had k h =
    whole_fine me c links (takes_call c me process words v) quiet
    (inner_fine v (takes_call c me process words v) (record { boot = refl; round = refl; promised = refl; epoch = refl; tables = h.tables; still = on_call_forms (call_frame c me v.boot v.epoch) (epoch_id v.epoch) process words v.users }) (call_meet c me process words v (fits_in v v.epoch refl h) h.meets) h)
    formless_quiet (λ u fit ok. meeting_quiet u ok)
step_fine me c links v (Receives p) had k h =
    (elim (is_dropped p v) as (λ t. is_dropped p v ≡ t → Fine (elim t [ true ↦ quiet v | false ↦ whole c me links (takes c me links p p.body v) (tries_at c me p.body) ])) [
      | true ↦ λ e. quiet_fine v h
      | false ↦ λ e. whole_fine me c links (takes c me links p p.body v) (tries_at c me p.body) (takes_fine me c links p p.body v k.0 k.1 k.2 (is_asked p v e k.1) h) (tries_formless c me p.body) (tries_meet c me p.body)
    ]) refl
step_fine me c links v Ticks had k h = ticks_fine me c links (adopts_in c me v) (inner_fine v (adopts_in c me v) (adopts_of_formless c me v.epoch v h.tables) (adopts_of_meet c me v.epoch v (fits_in v v.epoch refl h) h.meets) h)
step_fine me c links v Parts had k h = whole_fine me c links (starts_part me links v) quiet (starts_part_fine me links v.epoch v refl h) formless_quiet (λ u fit ok. meeting_quiet u ok)
step_fine me c links v Merges had k h =
    whole_fine me c links (starts_merge me links v) quiet
    (begins_fine me links (v.promised.number + 1) (boots_where (merge_boot me links)) v (made_boots (merge_boot me links) (λ t. cond_at_most (t == me) 0 (boot_in links.boot t) 134217730 (omega arith) (had t))) h)
    formless_quiet (λ u fit ok. meeting_quiet u ok)
step_fine me c links v GivesUp had k h = whole_fine me c links (leaves me v) quiet (leaves_fine me v.epoch v h) formless_quiet (λ u fit ok. meeting_quiet u ok)
