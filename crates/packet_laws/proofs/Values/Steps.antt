-- A step of a site: where what comes is of the format, what is sent is, and so is what the site has then.
use Rattle.std.proofs.Common.{◌≡◌, ◌≤◌, ◌<◌, ◌^◌, ◌⊎◌, ℕ, ◌+◌, ◌==◌, Bool, true, false, cond, not, ◌&&◌, ◌||◌, List, [], ◌∷◌, ◌++◌, filter, map, Option, None, Some, refl, sym, ◌∙◌, subst, arith, inl, inr, zero, suc, nat_lt}
use Rattle.role_steps.proofs.of_plain_facts.Numbers.{equal}
use Rattle.role_steps.proofs.of_plain_facts.Options.{none_some}
use Rattle.role_steps.proofs.of_plain_facts.Tests.{both_true}
use Rattle.locus_ids.specs.Sites.{has}
use Rattle.locus_ids.specs.declared.config.Config.{Config}
use Rattle.locus_ids.specs.declared.ids.EpochId.{EpochId}
use Rattle.locus_ids.specs.declared.sites.Links.{Links}
use Rattle.locus_ids.specs.declared.sites.Members.{Members}
use Rattle.locus_ids.specs.declared.sites.Sites.{Sites}
use Rattle.schedule_lines.specs.Ranges.{fits_call}
use Rattle.trace_book.specs.Same.{same_epoch}
use Rattle.trace_book.specs.declared.call.Call.{Call}
use Rattle.trace_book.specs.Names.{is_name}
use Rattle.trace_book.specs.Messages.{message_name}
use Rattle.wire_fields.specs.Parts.{processes}
use Rattle.wire_messages.specs.Bodies.{kind_number}
use Rattle.wire_messages.specs.declared.body.Body.{Body}
use Rattle.wire_messages.specs.declared.body.Body.TheVariants as body
use Rattle.wire_messages.specs.declared.packet.Packet.{Packet}
use Rattle.role_steps.specs.Epochs.{all_reports, begins_round, boots_where, chosen_members, chosen_set, decides, decides_if, frame_in, install_packet, install_repeats, installs_all, is_epoch_below, is_in, is_sync_site, joined_packet, joined_view, joins, leaves, leaves_of, may_install, merge_boot, on_install, on_joined, on_poll, on_promise_of, on_refuse_of, others_of, own_groups, part_boot, passed_over, passes_over, passes_over_of, poll_packet, poll_repeats, polled_sites, polls, promise_packet, promised_view, promises, reached, refuse_packet, round_id, starts_merge, starts_part, starts_part_of, unanswered}
use Rattle.role_steps.specs.Own.{Every}
use Rattle.role_steps.specs.Reports.{new_table}
use Rattle.role_steps.specs.Views.{Calls, Event, Frame, GivesUp, Merges, Outcome, Parts, Promises, Receives, SiteView, Ticks, all_groups, and_then, boot_in, pack_sites, quiet, sends, tells, Store, Users}
use Rattle.role_steps.specs.declared.pulls.Pull.{Pull}
use Rattle.role_steps.specs.declared.rounds.InEpoch.{InEpoch}
use Rattle.role_steps.specs.declared.rounds.Round.{Round}
use Rattle.role_steps.proofs.Sending.{every_append, every_cond, every_map}
use Rattle.the_run.specs.Steps.{adopts_in, adopts_of, call_frame, ends_event, epoch_id, in_order, is_dropped, is_forming, is_framed, repeats, repeats_inside, repeats_of, starts_mends_of, step, takes, takes_call, takes_framed, ticks_after, tries_at, whole, at_users}
use Rattle.the_run.proofs.Boots.{every_weaker}
use Rattle.the_run.proofs.StepSends.{order_sent}
use Rattle.run_laws.specs.Epochs.Forming.{FormlessSite, FormsNone}
use Rattle.run_laws.proofs.Epochs.Handlers.{leaves_of_epoch}
use Rattle.run_laws.proofs.Epochs.Parts.{every_both}
use Rattle.run_laws.proofs.Epochs.Forms.{adopts_of_formless, framed_formless, mends_of_formless, tries_formless, on_call_forms}
use Rattle.run_laws.specs.Naming.{IsInEpoch}
use Rattle.run_laws.proofs.InsideSteps.{adopts_of_inner, call_inner, framed_inner, repeats_in_epoch}
use Rattle.packet_laws.specs.Fitting.Fields.{AreBoots, IsSite, IsBoot}
use Rattle.packet_laws.proofs.Fitting.Meeting.{IsAddressed, listed_site}
use Rattle.packet_laws.specs.Values.Bodies.{FitsBut, IsListed, NamesListed, NamesNone}
use Rattle.packet_laws.specs.Values.Values.{Grounds, KeptAt, SentFits, SiteValues, TableFits, boots_in, AskingFits, HasOpen, InstanceFits, PullFits, StoreFits, UsersFit, WaitingFits}
use Rattle.packet_laws.proofs.Values.Fields.{AskedFits, every_some}
use Rattle.packet_laws.proofs.Values.Users.{entries_fit}
use Rattle.packet_laws.proofs.Values.Inside.{AskingDone, SiteDone, adopts_first_done, call_done, call_fits, inside_done, inside_repeats, mends_done, quiet_asking, quiet_done, reports_fit}
use Rattle.role_steps.specs.Requests.{descriptors_of}
use Rattle.role_steps.specs.Tables.{without_row}
use Rattle.role_steps.specs.Using.{on_call, own_call}
use Rattle.role_steps.specs.Mends.{starts_mends}
use Rattle.role_steps.specs.declared.users.Asking.{Asking}
use Rattle.role_steps.specs.declared.users.Asking.TheVariants as asking
use Rattle.run_laws.proofs.Epochs.Boots.{cond_at_most}
use Rattle.packet_laws.proofs.Fitting.Lists.{Comes, Forms, Site, begins_fine, chosen_boots, every_kept, fits_in, inner_fine, is_asked, leaves_fine, left_boots, made_boots, passes_over_fine, starts_part_fine, takes_fine}
use Rattle.packet_laws.proofs.Fitting.SitesMeet.{adopts_of_meet, call_meet, tries_meet}

-- ---- packets ----

-- the body names no member, or is of this epoch and names members of it
abbrev pub NamesIn : Option InEpoch → Packet → Type 0
NamesIn None p = ⊥
NamesIn (Some e) p = (p.epoch ≡ e.id) × NamesListed e.members.boot p.body

-- a packet that a site sends which was in this epoch
pub record Sent (o : Option InEpoch) (p : Packet) : Type 0 where
  pub body : FitsBut p.body
  pub to : FormsNone p.body → IsAddressed p
  pub names : NamesNone p.body ⊎ NamesIn o p

-- the members of the epoch have boots
abbrev pub HasBoots : Option InEpoch → Type 0
HasBoots None = Unit {0}
HasBoots (Some e) = AreBoots e.members.boot

-- the site is one of them
abbrev pub HasOwn : ℕ → Option InEpoch → Type 0
HasOwn me None = Unit {0}
HasOwn me (Some e) = IsListed e.members.boot me

-- what comes to a site
abbrev pub NamesHere : Option InEpoch → Body → Type 0
NamesHere None b = Unit {0}
NamesHere (Some e) b = NamesListed e.members.boot b

abbrev pub EventFits : Config → SiteView → Event → Type 0
EventFits c v (Calls process words) = processes.Fits process × (fits_call c.sites words ≡ true)
EventFits c v (Receives p) = FitsBut p.body × (is_framed p v.epoch ≡ true → NamesHere v.epoch p.body × KeptAt v p.from p.body)
EventFits c v _ = Unit {0}

-- the site's next call would give its message a good name
abbrev pub IsNextNamed : ℕ → SiteView → Type 0
IsNextNamed me v = is_name (message_name (own_call me v.boot (v.users.calls + 1))) ≡ true

addressed : (boots : List ℕ) (p : Packet) → AreBoots boots → SentFits boots p → IsAddressed p
addressed boots p fit k = let l : IsSite p.to × IsBoot (boot_in boots p.to) = listed_site boots p.to fit k.to in (l.0, subst IsBoot (sym k.boot) l.1)

sent_in : (e : InEpoch) (p : Packet) → AreBoots e.members.boot → SentFits e.members.boot p → p.epoch ≡ e.id → Sent (Some e) p
sent_in e p fit k at = record { body = k.body; to = λ n. addressed e.members.boot p fit k; names = inr (at, k.names) }

sent_asked : (o : Option InEpoch) (boots : List ℕ) (p : Packet) → AreBoots boots → AskedFits boots p → Sent o p
sent_asked o boots p fit k = record { body = k.0.body; to = λ n. addressed boots p fit k.0; names = inl k.1 }

all_asked : (o : Option InEpoch) (boots : List ℕ) (ps : List Packet) → AreBoots boots → Every (AskedFits boots) ps → Every (Sent o) ps
all_asked o boots ps fit h = every_weaker (AskedFits boots) (Sent o) ps (λ p k. sent_asked o boots p fit k) h

-- what an outcome of a site that was in this epoch sends and leaves
pub record Done (c : Config) (o0 : Option InEpoch) (o : Outcome SiteView) : Type 0 where
  pub view : SiteValues c (boots_in o.view.epoch) o.view
  pub sent : Every (Sent o0) o.sent
  -- a round goes on in no epoch
  pub apart : (r : Round) → o.view.round ≡ Some r → o.view.epoch ≡ None

abbrev pub Apart : SiteView → Type 0
Apart v = (r : Round) → v.round ≡ Some r → v.epoch ≡ None

has_boots : (v : SiteView) (o : Option InEpoch) → v.epoch ≡ o → Site v → HasBoots o
has_boots v None here h = tt
has_boots v (Some e) here h = (h.inside e here).0

-- an outcome in the epoch of the site
inner_done : (c : Config) (o0 : Option InEpoch) (v : SiteView) (o : Outcome SiteView) → o.view.epoch ≡ v.epoch → o.view.round ≡ v.round → Apart v → SiteValues c (boots_in v.epoch) o.view → Every (Sent o0) o.sent → Done c o0 o
inner_done c o0 v o same round apart h k = record { view = subst (λ (x : Option InEpoch). SiteValues c (boots_in x) o.view) (sym same) h; sent = k; apart = λ r e. same ∙ apart r (sym round ∙ e) }

values_at : (c : Config) (v : SiteView) (o : Option InEpoch) (u : SiteView) → v.epoch ≡ o → SiteValues c (boots_in o) u → SiteValues c (boots_in v.epoch) u
values_at c v o u here h = subst (λ (x : Option InEpoch). SiteValues c (boots_in x) u) (sym here) h

values_of : (c : Config) (v : SiteView) (o : Option InEpoch) → v.epoch ≡ o → SiteValues c (boots_in v.epoch) v → SiteValues c (boots_in o) v
values_of c v o here h = subst (λ (x : Option InEpoch). SiteValues c (boots_in x) v) here h

module _ (c : Config) (me : ℕ) (o0 : Option InEpoch) where
  still : (v : SiteView) → Apart v → SiteValues c (boots_in v.epoch) v → Done c o0 (quiet v)
  still v apart h = record { view = h; sent = tt; apart = apart }

  then_done : (o : Outcome SiteView) (f : SiteView → Outcome SiteView) → Done c o0 o → Done c o0 (f o.view) → Done c o0 (and_then o f)
  then_done o f h k = record { view = k.view; sent = every_append (Sent o0) o.sent (f o.view).sent h.sent k.sent; apart = k.apart }

  -- ---- leaving, promising, polling ----

  leaves_done : (e : Option InEpoch) (v : SiteView) → Apart v → SiteValues c (boots_in v.epoch) v → Done c o0 (leaves_of me e v)
  leaves_done None v apart h = still v apart h
  leaves_done (Some e) v apart h = record { view = record { store = record { copies = h.store.copies; instances = tt }; users = record { waiting = tt; instances = tt; descriptors = h.users.descriptors }; tables = tt; pulls = tt; reports = tt }; sent = tt; apart = λ r k. refl }

  -- after a promise the site is in no epoch
  promises_done : (id : EpochId) (reach : Sites) (v : SiteView) → Apart v → SiteValues c (boots_in v.epoch) v → Done c o0 (promises me id reach v)
  promises_done id reach v apart h =
      let o : Done c o0 (leaves me v) = leaves_done v.epoch v apart h in
      then_done (leaves me v) (λ now. tells (Promises me id reach ∷ []) (promised_view id now)) o (record { view = record { store = o.view.store; users = o.view.users; tables = o.view.tables; pulls = o.view.pulls; reports = o.view.reports }; sent = tt; apart = λ r k. absurd (none_some r k) })

  poll_sent : (boot : ℕ) (id : EpochId) (polled : Links) (ss : List ℕ) → Every (Sent o0) (map (poll_packet me boot id polled) ss)
  poll_sent boot id polled ss = every_map (Sent o0) (poll_packet me boot id polled) ss (λ s. record { body = tt; to = λ n. absurd n; names = inl (λ boots. tt) })

  begins_done : (links : Links) (number : ℕ) (polled : Links) (v : SiteView) → Apart v → SiteValues c (boots_in v.epoch) v → Done c o0 (begins_round me links number polled v)
  begins_done links number polled v apart h =
      let id : EpochId = round_id me number v in
      let o : Done c o0 (promises me id (reached links) v) = promises_done id (reached links) v apart h in
      then_done (promises me id (reached links) v) (polls me id polled) o
      (record { view = record { store = o.view.store; users = o.view.users; tables = o.view.tables; pulls = o.view.pulls; reports = o.view.reports }; sent = poll_sent (promises me id (reached links) v).view.boot id polled (polled_sites polled); apart = λ r k. leaves_of_epoch me v.epoch v refl })

  part_done : (links : Links) (e : Option InEpoch) (v : SiteView) → Apart v → SiteValues c (boots_in v.epoch) v → Done c o0 (starts_part_of me links e v)
  part_done links None v apart h = still v apart h
  part_done links (Some e) v apart h = begins_done links (v.promised.number + 1) (boots_where (part_boot me links e.members)) v apart h

  -- ---- Poll, Promise, Refuse ----

  promised_sent : (links : Links) (from from_boot : ℕ) (id : EpochId) (v : SiteView) → Every (Sent o0) (promise_packet me links from from_boot id v)
  promised_sent links from from_boot id v = (record { body = tt; to = λ n. absurd n; names = inl (λ boots. tt) }, tt)

  refused_sent : (from from_boot : ℕ) (id : EpochId) (v : SiteView) → Every (Sent o0) (refuse_packet me from from_boot id v)
  refused_sent from from_boot id v = (record { body = tt; to = λ n. absurd n; names = inl (λ boots. tt) }, tt)

  on_poll_done : (links : Links) (from from_boot : ℕ) (id : EpochId) (v : SiteView) → Apart v → SiteValues c (boots_in v.epoch) v → Done c o0 (on_poll me links from from_boot id v)
  on_poll_done links from from_boot id v apart h = over (is_epoch_below v.promised id) (promises_done id (reached links) v apart h)
    where
      over : (b : Bool) → Done c o0 (promises me id (reached links) v) → Done c o0 (elim b as (λ (t : Bool). Outcome SiteView) [ true ↦ and_then (promises me id (reached links) v) (λ now. sends (promise_packet me links from from_boot id now) now) | false ↦ sends (cond (same_epoch id v.promised && not v.installed) (promise_packet me links from from_boot id v) (refuse_packet me from from_boot id v)) v ])
      over true o = then_done (promises me id (reached links) v) (λ now. sends (promise_packet me links from from_boot id now) now) o (record { view = o.view; sent = promised_sent links from from_boot id (promises me id (reached links) v).view; apart = o.apart })
      over false o = record { view = h; sent = every_cond (Sent o0) (same_epoch id v.promised && not v.installed) (promise_packet me links from from_boot id v) (refuse_packet me from from_boot id v) (promised_sent links from from_boot id v) (refused_sent from from_boot id v); apart = apart }

  on_promise_done : (from from_boot : ℕ) (id : EpochId) (reach : Sites) (o : Option Round) (v : SiteView) → v.round ≡ o → Apart v → SiteValues c (boots_in v.epoch) v → Done c o0 (on_promise_of from from_boot id reach o v)
  on_promise_done from from_boot id reach None v here apart h = still v apart h
  on_promise_done from from_boot id reach (Some r) v here apart h = record { view = record { store = h.store; users = h.users; tables = h.tables; pulls = h.pulls; reports = h.reports }; sent = tt; apart = λ q k. apart r here }

  on_refuse_done : (links : Links) (id theirs : EpochId) (o : Option Round) (v : SiteView) → Apart v → SiteValues c (boots_in v.epoch) v → Done c o0 (on_refuse_of me links id theirs o v)
  on_refuse_done links id theirs None v apart h = still v apart h
  on_refuse_done links id theirs (Some r) v apart h = over (same_epoch r.id id)
    where
      over : (b : Bool) → Done c o0 (elim b as (λ (t : Bool). Outcome SiteView) [ true ↦ begins_round me links (theirs.number + 1) r.polled v | false ↦ quiet v ])
      over true = begins_done links (theirs.number + 1) r.polled v apart h
      over false = still v apart h

-- ---- joining ----

-- nobody is listed in no epoch
nobody : (s : ℕ) → IsListed [] s → ⊥
nobody zero h = omega (arith, h)
nobody (suc k) h = omega (arith, h)

asking_lifted : (boots : List ℕ) (a : Asking) → AskingFits [] a → AskingFits boots a
asking_lifted boots (asking.Look file what take) h = h
asking_lifted boots (asking.Open serial file it) h = h
asking_lifted boots (asking.Op serial ss number o seen) h = absurd (nobody ss h.1)
asking_lifted boots (asking.Close serial ss) h = absurd (nobody ss h.1)

module _ (c : Config) (boots : List ℕ) where
  store_lifted : (s : Store) → StoreFits [] s → StoreFits boots s
  store_lifted s h = record { copies = h.copies; instances = every_weaker (InstanceFits []) (InstanceFits boots) s.instances (λ i k. absurd (nobody i.inst.us k.listed)) h.instances }

  users_lifted : (u : Users) → UsersFit c [] u → UsersFit c boots u
  users_lifted u h = record {
    waiting = every_weaker (WaitingFits c []) (WaitingFits c boots) u.waiting (λ w k. record { process = k.process; words = k.words; answers = k.answers; asking = asking_lifted boots w.asking k.asking }) h.waiting;
    instances = every_weaker (HasOpen []) (HasOpen boots) u.instances (λ i k. absurd (nobody i.ss k.ss)) h.instances;
    descriptors = h.descriptors;
  }

  pulls_lifted : (ps : List Pull) → Every (PullFits []) ps → Every (PullFits boots) ps
  pulls_lifted ps h = every_weaker (PullFits []) (PullFits boots) ps (λ p k. absurd (nobody p.holder k.holder)) h

low_groups : Every (λ (n : ℕ). n < 2 ^ 8) all_groups
low_groups = (omega arith, (omega arith, (omega arith, (omega arith, tt))))

own_low : (c : Config) (me : ℕ) → Every (λ (n : ℕ). n < 2 ^ 8) (own_groups c me)
own_low c me = every_kept (λ (n : ℕ). n < 2 ^ 8) (λ (n : ℕ). has (pack_sites c n) me) all_groups low_groups

new_fits : (boots : List ℕ) (group : ℕ) → group < 2 ^ 8 → TableFits boots (new_table group)
new_fits boots group low = record { group = low; early = tt; files = tt; opens = tt; looks = tt }

joined_values : (c : Config) (me : ℕ) (id : EpochId) (m : Members) (v : SiteView) → SiteValues c [] v → SiteValues c m.boot (joined_view c me id m v)
joined_values c me id m v h = record {
  store = store_lifted c m.boot v.store h.store;
  users = users_lifted c m.boot v.users h.users;
  tables = every_some (λ (n : ℕ). n < 2 ^ 8) (TableFits m.boot) new_table (filter (is_sync_site c me m) (own_groups c me)) (new_fits m.boot) (every_kept (λ (n : ℕ). n < 2 ^ 8) (is_sync_site c me m) (own_groups c me) (own_low c me));
  pulls = pulls_lifted c m.boot v.pulls h.pulls;
  reports = own_low c me;
}

module _ (c : Config) (me : ℕ) (g : Grounds c) (o0 : Option InEpoch) where
  joins_done : (id : EpochId) (m : Members) (v : SiteView) → AreBoots m.boot → v.epoch ≡ None → SiteValues c (boots_in v.epoch) v → Done c o0 (joins c me id m v)
  joins_done id m v fit outside h =
      let now : SiteValues c m.boot (joined_view c me id m v) = joined_values c me id m v (values_of c v None outside h) in
      record { view = now; sent = all_asked o0 m.boot (all_reports (frame_in c me v.boot (record { id = id; members = m })) (joined_view c me id m v)) fit (reports_fit (frame_in c me v.boot (record { id = id; members = m })) g (joined_view c me id m v) now); apart = λ r e. absurd (none_some r e) }

  joined_sent : (from from_boot : ℕ) (id : EpochId) (v : SiteView) → Every (Sent o0) (joined_packet me from from_boot id v)
  joined_sent from from_boot id v = (record { body = tt; to = λ n. absurd n; names = inl (λ boots. tt) }, tt)

  on_install_done : (from from_boot : ℕ) (id : EpochId) (m : Members) (v : SiteView) → AreBoots m.boot → (v.installed ≡ false → v.epoch ≡ None) → Apart v → SiteValues c (boots_in v.epoch) v → Done c o0 (on_install c me from from_boot id m v)
  on_install_done from from_boot id m v fit outside apart h = over (may_install me id m v) refl
    where
      new : may_install me id m v ≡ true → v.installed ≡ false
      new e = not_is v.installed (both_true (not v.installed) _ (both_true (same_epoch id v.promised) _ e).1).0
        where
          not_is : (b : Bool) → not b ≡ true → b ≡ false
          not_is true k = absurd (cc)
          not_is false k = refl

      over : (b : Bool) → may_install me id m v ≡ b → Done c o0 (elim b as (λ (t : Bool). Outcome SiteView) [ true ↦ and_then (joins c me id m v) (λ now. sends (joined_packet me from from_boot id now) now) | false ↦ sends (cond (is_in id v.epoch) (joined_packet me from from_boot id v) []) v ])
      over true e =
          let o : Done c o0 (joins c me id m v) = joins_done id m v fit (outside (new e)) h in
          then_done c me o0 (joins c me id m v) (λ now. sends (joined_packet me from from_boot id now) now) o (record { view = o.view; sent = joined_sent from from_boot id (joins c me id m v).view; apart = o.apart })
      over false e = record { view = h; sent = every_cond (Sent o0) (is_in id v.epoch) (joined_packet me from from_boot id v) [] (joined_sent from from_boot id v) tt; apart = apart }

  on_joined_done : (from : ℕ) (id : EpochId) (v : SiteView) → Apart v → SiteValues c (boots_in v.epoch) v → Done c o0 (on_joined from id v)
  on_joined_done from id v apart h = over (is_in id v.epoch)
    where
      over : (b : Bool) → Done c o0 (quiet (cond b (record v { installs = without_row (λ s. s) from v.installs }) v))
      over true = record { view = record { store = h.store; users = h.users; tables = h.tables; pulls = h.pulls; reports = h.reports }; sent = tt; apart = apart }
      over false = still c me o0 v apart h

  -- ---- the decision, and the end of an event ----

  install_sent : (boot : ℕ) (id : EpochId) (m : Members) (ss : List ℕ) → Every (Sent o0) (map (install_packet me boot id m) ss)
  install_sent boot id m ss = every_map (Sent o0) (install_packet me boot id m) ss (λ s. record { body = tt; to = λ n. absurd n; names = inl (λ boots. tt) })

  decides_done : (id : EpochId) (m : Members) (v : SiteView) → AreBoots m.boot → v.epoch ≡ None → SiteValues c (boots_in v.epoch) v → Done c o0 (decides c me id m v)
  decides_done id m v fit outside h =
      let o : Done c o0 (joins c me id m v) = joins_done id m v fit outside h in
      then_done c me o0 (joins c me id m v) (installs_all me id m) o (record { view = record { store = o.view.store; users = o.view.users; tables = o.view.tables; pulls = o.view.pulls; reports = o.view.reports }; sent = install_sent (joins c me id m v).view.boot id m (others_of me m); apart = o.apart })

  decides_if_done : (links : Links) (q : Round) (xs : List ℕ) (v : SiteView) → IsBoot v.boot → AreBoots q.polled.boot → v.epoch ≡ None → SiteValues c (boots_in v.epoch) v → Done c o0 (decides_if c me links q xs v)
  decides_if_done links q [] v boot fit outside h = decides_done q.id (chosen_members me v.boot q (chosen_set me links q)) v (chosen_boots me v.boot q (chosen_set me links q) boot fit) outside h
  decides_if_done links q (x ∷ xs) v boot fit outside h = record { view = record { store = h.store; users = h.users; tables = h.tables; pulls = h.pulls; reports = h.reports }; sent = tt; apart = λ r e. outside }

  passes_over_done : (links : Links) (o : Option Round) (v : SiteView) → v.round ≡ o → Site v → Apart v → SiteValues c (boots_in v.epoch) v → Done c o0 (passes_over_of c me links o v)
  passes_over_done links None v here s apart h = still c me o0 v apart h
  passes_over_done links (Some r) v here s apart h = decides_if_done links (passed_over links r) (unanswered (passed_over links r)) v s.own (left_boots links r.polled (s.round r here)) (apart r here) h

  mends_of_done : (o : Option InEpoch) (v : SiteView) → v.epoch ≡ o → HasBoots o → SiteValues c (boots_in o) v → (starts_mends_of c me o v).view.epoch ≡ v.epoch → (starts_mends_of c me o v).view.round ≡ v.round → Apart v → Done c o0 (starts_mends_of c me o v)
  mends_of_done None v here fit h same round apart = still c me o0 v apart (values_at c v None v here h)
  mends_of_done (Some e) v here fit h same round apart =
      let f : Frame = frame_in c me v.boot e in
      let k : AskingDone c e.members.boot (starts_mends f v) = mends_done f g v.tables v h.tables h in
      inner_done c o0 v (starts_mends f v) same round apart (values_at c v (Some e) (starts_mends f v).view here k.view) (all_asked o0 e.members.boot (starts_mends f v).sent fit k.sent)

  ends_done : (links : Links) (v : SiteView) → Site v → Apart v → SiteValues c (boots_in v.epoch) v → Done c o0 (ends_event c me links v)
  ends_done links v s apart h =
      let o : Outcome SiteView = passes_over c me links v in
      let k : Done c o0 o = passes_over_done links v.round v refl s apart h in
      let t : Site o.view = (passes_over_fine me c links v.round v s refl).view in
      let form : FormlessSite o.view (starts_mends_of c me o.view.epoch o.view) = mends_of_formless c me o.view.epoch o.view t.tables in
      then_done c me o0 o (λ now. starts_mends_of c me now.epoch now) k (mends_of_done o.view.epoch o.view refl (has_boots o.view o.view.epoch refl t) k.view form.epoch form.round k.apart)

-- ---- the lists of boots that a site has ----

call_site : (me : ℕ) (c : Config) (process : ℕ) (words : Call) (v : SiteView) → Site v → Site (takes_call c me process words v).view
call_site me c process words v s = (inner_fine v (takes_call c me process words v) (record { boot = refl; round = refl; promised = refl; epoch = refl; tables = s.tables; still = on_call_forms (call_frame c me v.boot v.epoch) (epoch_id v.epoch) process words v.users }) (call_meet c me process words v (fits_in v v.epoch refl s) s.meets) s).view

tries_site : (me : ℕ) (c : Config) (x : Body) (u : SiteView) → Site u → Site (tries_at c me x u).view
tries_site me c x u s = (inner_fine u (tries_at c me x u) (tries_formless c me x u s.tables) (tries_meet c me x u (fits_in u u.epoch refl s) s.meets) s).view

adopts_site_of : (me : ℕ) (c : Config) (v : SiteView) → Site v → Site (adopts_in c me v).view
adopts_site_of me c v s = (inner_fine v (adopts_in c me v) (adopts_of_formless c me v.epoch v s.tables) (adopts_of_meet c me v.epoch v (fits_in v v.epoch refl s) s.meets) s).view

merges_site : (me : ℕ) (links : Links) (v : SiteView) → ((t : ℕ) → boot_in links.boot t ≤ 134217730) → Site v → Site (starts_merge me links v).view
merges_site me links v low s = (begins_fine me links (v.promised.number + 1) (boots_where (merge_boot me links)) v (made_boots (merge_boot me links) (λ t. cond_at_most (t == me) 0 (boot_in links.boot t) 134217730 (omega arith) (low t))) s).view

-- ---- packets in the epoch of the site ----

in_epoch : (o : Option InEpoch) (ps : List Packet) → HasBoots o → Every (SentFits (boots_in o)) ps → Every (IsInEpoch o) ps → Every (Sent o) ps
in_epoch None ps fit h k = every_weaker (IsInEpoch None) (Sent None) ps (λ p q. absurd q) k
in_epoch (Some e) ps fit h k = every_both (SentFits e.members.boot) (IsInEpoch (Some e)) (Sent (Some e)) ps (λ p a b. sent_in e p fit a b) h k

-- the sender is a member
abbrev pub FromListed : Option InEpoch → ℕ → Type 0
FromListed None from = Unit {0}
FromListed (Some e) from = IsListed e.members.boot from

module _ (c : Config) (me : ℕ) (site : IsSite me) (g : Grounds c) where
  framed_site : (p : Packet) (o : Option InEpoch) (v : SiteView) → HasBoots o → HasOwn me o → FromListed o p.from → FitsBut p.body → NamesHere o p.body → KeptAt v p.from p.body → SiteValues c (boots_in o) v → SiteDone c (boots_in o) (takes_framed c me p o v)
  framed_site p None v fit own from k names kept h = quiet_done c [] v h
  framed_site p (Some e) v fit own from k names kept h = inside_done (frame_in c me v.boot e) fit own site g p.from p.body v from k names kept h

  framed_done : (p : Packet) (v : SiteView) → Site v → Apart v → HasOwn me v.epoch → FromListed v.epoch p.from → FitsBut p.body → NamesHere v.epoch p.body → KeptAt v p.from p.body → SiteValues c (boots_in v.epoch) v → Done c v.epoch (takes_framed c me p v.epoch v)
  framed_done p v s apart own from k names kept h =
      let o : Outcome SiteView = takes_framed c me p v.epoch v in
      let d : SiteDone c (boots_in v.epoch) o = framed_site p v.epoch v (has_boots v v.epoch refl s) own from k names kept h in
      let form : FormlessSite v o = framed_formless c me p v.epoch v s.tables in
      inner_done c v.epoch v o form.epoch form.round apart d.view (in_epoch v.epoch o.sent (has_boots v v.epoch refl s) d.sent (framed_inner c me p v.epoch v refl).sent)

  adopts_site : (o : Option InEpoch) (v : SiteView) → HasBoots o → HasOwn me o → SiteValues c (boots_in o) v → AskingDone c (boots_in o) (adopts_of c me o v)
  adopts_site None v fit own h = quiet_asking c [] v h
  adopts_site (Some e) v fit own h = adopts_first_done (frame_in c me v.boot e) fit own site g v.pulls v h.pulls h

  no_asks : (o : Option InEpoch) (o0 : Option InEpoch) (ps : List Packet) → HasBoots o → Every (AskedFits (boots_in o)) ps → Every (IsInEpoch o) ps → Every (Sent o0) ps
  no_asks None o0 ps fit h k = every_weaker (IsInEpoch None) (Sent o0) ps (λ p q. absurd q) k
  no_asks (Some e) o0 ps fit h k = all_asked o0 e.members.boot ps fit h

  adopts_done : (o0 : Option InEpoch) (v : SiteView) → Site v → Apart v → HasOwn me v.epoch → SiteValues c (boots_in v.epoch) v → Done c o0 (adopts_in c me v)
  adopts_done o0 v s apart own h =
      let o : Outcome SiteView = adopts_in c me v in
      let d : AskingDone c (boots_in v.epoch) o = adopts_site v.epoch v (has_boots v v.epoch refl s) own h in
      let form : FormlessSite v o = adopts_of_formless c me v.epoch v s.tables in
      inner_done c o0 v o form.epoch form.round apart d.view (no_asks v.epoch o0 o.sent (has_boots v v.epoch refl s) d.sent (adopts_of_inner c me v.epoch v refl).sent)

  -- where an adoption is tried, the site is one of the members
  abbrev OwnAt : Body → SiteView → Type 0
  OwnAt (body.Notify file kind set size stamp vector holder) u = HasOwn me u.epoch
  OwnAt (body.Page file stamp page bytes) u = HasOwn me u.epoch
  OwnAt (body.Delta file wanted pages) u = HasOwn me u.epoch
  OwnAt _ u = Unit {0}

  tries_done : (o0 : Option InEpoch) (x : Body) (u : SiteView) → Site u → Apart u → OwnAt x u → SiteValues c (boots_in u.epoch) u → Done c o0 (tries_at c me x u)
  tries_done o0 (body.Notify file kind set size stamp vector holder) u s apart own h = adopts_done o0 u s apart own h
  tries_done o0 (body.Page file stamp page bytes) u s apart own h = adopts_done o0 u s apart own h
  tries_done o0 (body.Delta file wanted pages) u s apart own h = adopts_done o0 u s apart own h
  tries_done o0 _ u s apart own h = still c me o0 u apart h

  own_stays : (v u : SiteView) → u.epoch ≡ v.epoch → HasOwn me v.epoch → HasOwn me u.epoch
  own_stays v u e own = subst (HasOwn me) (sym e) own

  own_at : (links : Links) (p : Packet) (x : Body) (v : SiteView) → Site v → HasOwn me v.epoch → OwnAt x (takes c me links p x v).view
  own_at links p (body.Notify file kind set size stamp vector holder) v s own = own_stays v (takes_framed c me p v.epoch v).view (framed_formless c me p v.epoch v s.tables).epoch own
  own_at links p (body.Page file stamp page bytes) v s own = own_stays v (takes_framed c me p v.epoch v).view (framed_formless c me p v.epoch v s.tables).epoch own
  own_at links p (body.Delta file wanted pages) v s own = own_stays v (takes_framed c me p v.epoch v).view (framed_formless c me p v.epoch v s.tables).epoch own
  own_at links p _ v s own = tt

  -- what a packet has to say in the epoch, or as one that forms an epoch
  abbrev TakenFits : Packet → Body → SiteView → Type 0
  TakenFits p body.Poll v = Unit {0}
  TakenFits p (body.Promise reach) v = Unit {0}
  TakenFits p (body.Refuse promised) v = Unit {0}
  TakenFits p (body.Install members) v = AreBoots members.boot
  TakenFits p body.Joined v = Unit {0}
  TakenFits p x v = FromListed v.epoch p.from × FitsBut x × NamesHere v.epoch x × KeptAt v p.from x

  takes_done : (links : Links) (p : Packet) (x : Body) (v : SiteView) → p.body ≡ x → Site v → Apart v → (v.installed ≡ false → v.epoch ≡ None) → HasOwn me v.epoch → TakenFits p x v → SiteValues c (boots_in v.epoch) v → Done c v.epoch (takes c me links p x v)
  takes_done links p body.Poll v is s apart outside own k h = on_poll_done c me v.epoch links p.from p.from_boot p.epoch v apart h
  takes_done links p (body.Promise reach) v is s apart outside own k h = on_promise_done c me v.epoch p.from p.from_boot p.epoch reach v.round v refl apart h
  takes_done links p (body.Refuse promised) v is s apart outside own k h = on_refuse_done c me v.epoch links p.epoch promised v.round v apart h
  takes_done links p (body.Install members) v is s apart outside own k h = on_install_done c me g v.epoch p.from p.from_boot p.epoch members v k outside apart h
  takes_done links p body.Joined v is s apart outside own k h = on_joined_done c me g v.epoch p.from p.epoch v apart h
  takes_done links p x v is s apart outside own k h = framed_done p v s apart own k.0 (subst FitsBut (sym is) k.1) (subst (NamesHere v.epoch) (sym is) k.2) (subst (KeptAt v p.from) (sym is) k.3) h

  -- ---- an event and its end ----

  whole_done : (links : Links) (o0 : Option InEpoch) (o : Outcome SiteView) (tries : SiteView → Outcome SiteView) → Site (tries o.view).view → Done c o0 o → Done c o0 (tries o.view) → Done c o0 (whole c me links o tries)
  whole_done links o0 o tries s h k =
      let a : Outcome SiteView = tries o.view in
      let last : Outcome SiteView = ends_event c me links a.view in
      let e : Done c o0 last = ends_done c me g o0 links a.view s k.apart k.view in
      record {
        view = e.view;
        sent = every_append (Sent o0) a.sent (in_order (o.sent ++ last.sent)) k.sent (order_sent (Sent o0) (o.sent ++ last.sent) (every_append (Sent o0) o.sent last.sent h.sent e.sent));
        apart = e.apart;
      }

  quiet_whole : (links : Links) (o0 : Option InEpoch) (o : Outcome SiteView) → Site o.view → Done c o0 o → Done c o0 (whole c me links o quiet)
  quiet_whole links o0 o s h = whole_done links o0 o quiet s h (still c me o0 o.view h.apart h.view)

  call_sent : (o : Option InEpoch) (v : SiteView) (process : ℕ) (words : Call) → HasBoots o → v.epoch ≡ o → processes.Fits process → fits_call c.sites words ≡ true → IsNextNamed me v → SiteValues c (boots_in o) v → AskingDone c (boots_in o) (at_users (on_call (call_frame c me v.boot o) (epoch_id o) process words) v)
  call_sent None v process words fit here p k named h = call_done (call_frame c me v.boot None) g None process words v p (call_fits c (descriptors_of v.users process) None (own_call me v.boot (v.users.calls + 1)) words (λ fd. entries_fit c (boots_in None) v.users process fd h.users) k named) h
  call_sent (Some e) v process words fit here p k named h = call_done (frame_in c me v.boot e) g (Some e.id) process words v p (call_fits c (descriptors_of v.users process) (Some e.id) (own_call me v.boot (v.users.calls + 1)) words (λ fd. entries_fit c (boots_in (Some e)) v.users process fd h.users) k named) h

  calls_done : (process : ℕ) (words : Call) (v : SiteView) → Site v → Apart v → processes.Fits process → fits_call c.sites words ≡ true → IsNextNamed me v → SiteValues c (boots_in v.epoch) v → Done c v.epoch (takes_call c me process words v)
  calls_done process words v s apart p k named h =
      let o : Outcome SiteView = takes_call c me process words v in
      let d : AskingDone c (boots_in v.epoch) o = call_sent v.epoch v process words (has_boots v v.epoch refl s) refl p k named h in
      inner_done c v.epoch v o refl refl apart d.view (no_asks v.epoch v.epoch o.sent (has_boots v v.epoch refl s) d.sent (call_inner c me process words v).sent)

  -- ---- a tick ----

  polls_sent : (o0 : Option InEpoch) (v : SiteView) (r : Option Round) → Every (Sent o0) (poll_repeats me v r)
  polls_sent o0 v None = tt
  polls_sent o0 v (Some r) = poll_sent c me o0 v.boot r.id r.polled (unanswered r)

  repeats_sent : (o : Option InEpoch) (v : SiteView) → v.epoch ≡ o → HasBoots o → HasOwn me o → SiteValues c (boots_in o) v → Every (Sent o) (repeats_of c me o v)
  repeats_sent None v here fit own h = order_sent (Sent None) (poll_repeats me v v.round) (polls_sent None v v.round)
  repeats_sent (Some e) v here fit own h =
      every_append (Sent (Some e)) (in_order (poll_repeats me v v.round ++ install_repeats me v e)) (repeats_inside (frame_in c me v.boot e) e v)
      (order_sent (Sent (Some e)) (poll_repeats me v v.round ++ install_repeats me v e) (every_append (Sent (Some e)) (poll_repeats me v v.round) (install_repeats me v e) (polls_sent (Some e) v v.round) (install_sent c me g (Some e) v.boot e.id e.members v.installs)))
      (in_epoch (Some e) (repeats_inside (frame_in c me v.boot e) e v) fit (inside_repeats (frame_in c me v.boot e) g fit own e v h) (repeats_in_epoch c me v.boot e v))

  ticks_done : (links : Links) (v : SiteView) → Site v → Apart v → HasOwn me v.epoch → SiteValues c (boots_in v.epoch) v → Site (adopts_in c me v).view → Done c v.epoch (ticks_after c me links (adopts_in c me v))
  ticks_done links v s apart own h t =
      let a : Outcome SiteView = adopts_in c me v in
      let d : Done c v.epoch a = adopts_done v.epoch v s apart own h in
      let same : a.view.epoch ≡ v.epoch = (adopts_of_formless c me v.epoch v s.tables).epoch in
      let last : Outcome SiteView = ends_event c me links a.view in
      let e : Done c v.epoch last = ends_done c me g v.epoch links a.view t d.apart d.view in
      let again : Every (Sent a.view.epoch) (repeats c me a.view) = repeats_sent a.view.epoch a.view refl (has_boots a.view a.view.epoch refl t) (own_stays v a.view same own) d.view in
      record {
        view = e.view;
        sent = every_append (Sent v.epoch) a.sent (repeats c me a.view ++ in_order last.sent) d.sent
            (every_append (Sent v.epoch) (repeats c me a.view) (in_order last.sent) (subst (λ (x : Option InEpoch). Every (Sent x) (repeats c me a.view)) same again) (order_sent (Sent v.epoch) last.sent e.sent));
        apart = e.apart;
      }

  -- ---- the step ----

  member_listed : (p : Packet) (o : Option InEpoch) → is_framed p o ≡ true → IsBoot p.from_boot → FromListed o p.from
  member_listed p None h own = tt
  member_listed p (Some e) h own = let k : boot_in e.members.boot p.from ≡ p.from_boot = equal (boot_in e.members.boot p.from) p.from_boot (both_true (same_epoch e.id p.epoch) (boot_in e.members.boot p.from == p.from_boot) h).1 in omega (arith, k, own.0)

  taken_of : (p : Packet) (x : Body) (v : SiteView) → (nat_lt (kind_number x) 6 || is_framed p v.epoch) ≡ true → IsBoot p.from_boot → Forms p x → FitsBut x → (is_framed p v.epoch ≡ true → NamesHere v.epoch x × KeptAt v p.from x) → TakenFits p x v
  taken_of p body.Poll v t boot forms k names = tt
  taken_of p (body.Promise reach) v t boot forms k names = tt
  taken_of p (body.Refuse promised) v t boot forms k names = tt
  taken_of p (body.Install members) v t boot forms k names = forms.1
  taken_of p body.Joined v t boot forms k names = tt
  taken_of p x v t boot forms k names = (member_listed p v.epoch t boot, k, (names t).0, (names t).1)

  not_false : (a : Bool) → not a ≡ false → a ≡ true
  not_false true h = refl
  not_false false h = absurd (cc)

  pub step_done : (links : Links) (v : SiteView) (e : Event) → ((t : ℕ) → boot_in links.boot t ≤ 134217730) → Comes e → Site v → Apart v → (v.installed ≡ false → v.epoch ≡ None) → HasOwn me v.epoch → EventFits c v e → IsNextNamed me v → SiteValues c (boots_in v.epoch) v → Done c v.epoch (step c me links v e)
  step_done links v (Calls process words) low comes s apart outside own k named h = quiet_whole links v.epoch (takes_call c me process words v) (call_site me c process words v s) (calls_done process words v s apart k.0 k.1 named h)
  step_done links v (Receives p) low comes s apart outside own k named h =
      (elim (is_dropped p v) as (λ t. is_dropped p v ≡ t → Done c v.epoch (elim t as (λ (b : Bool). Outcome SiteView) [ true ↦ quiet v | false ↦ whole c me links (takes c me links p p.body v) (tries_at c me p.body) ])) [
        | true ↦ λ e. still c me v.epoch v apart h
        | false ↦ λ e. (
            let t : (is_forming p || is_framed p v.epoch) ≡ true = (both_true (p.to_boot == v.boot) (is_forming p || is_framed p v.epoch) (not_false ((p.to_boot == v.boot) && (is_forming p || is_framed p v.epoch)) e)).1 in
            let o : Outcome SiteView = takes c me links p p.body v in
            let so : Site o.view = (takes_fine me c links p p.body v comes.0 comes.1 comes.2 (is_asked p v e comes.1) s).view in
            let d : Done c v.epoch o = takes_done links p p.body v refl s apart outside own (taken_of p p.body v t comes.1 comes.2 k.0 k.1) h in
            whole_done links v.epoch o (tries_at c me p.body) (tries_site me c p.body o.view so) d (tries_done v.epoch p.body o.view so d.apart (own_at links p p.body v s own) d.view)
            )
      ]) refl
  step_done links v Ticks low comes s apart outside own k named h = ticks_done links v s apart own h (adopts_site_of me c v s)
  step_done links v Parts low comes s apart outside own k named h = quiet_whole links v.epoch (starts_part me links v) (starts_part_fine me links v.epoch v refl s).view (part_done c me v.epoch links v.epoch v apart h)
  step_done links v Merges low comes s apart outside own k named h = quiet_whole links v.epoch (starts_merge me links v) (merges_site me links v low s) (begins_done c me v.epoch links (v.promised.number + 1) (boots_where (merge_boot me links)) v apart h)
  step_done links v GivesUp low comes s apart outside own k named h = quiet_whole links v.epoch (leaves me v) (leaves_fine me v.epoch v s).view (leaves_done c me v.epoch v.epoch v apart h)
