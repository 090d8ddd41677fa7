-- What a step of a site names: ids of epochs that were known, or the new one that it begins a round with.
use Rattle.std.proofs.Common.{◌≡◌, ℕ, ◌+◌, ◌⊎◌, Bool, true, false, cond, ◌&&◌, not, List, [], ◌∷◌, ◌++◌, map, Option, Some, None, refl, sym, ◌∙◌, subst, inl, inr}
use Rattle.role_steps.proofs.of_plain_facts.Options.{none_some, some_same}
use Rattle.role_steps.proofs.of_plain_facts.Tests.{true_false}
use Rattle.locus_ids.specs.declared.ids.EpochId.{EpochId}
use Rattle.locus_ids.specs.declared.sites.Sites.{Sites}
use Rattle.locus_ids.specs.declared.sites.Members.{Members}
use Rattle.locus_ids.specs.declared.sites.Links.{Links}
use Rattle.locus_ids.specs.declared.config.Config.{Config}
use Rattle.trace_book.specs.Same.{same_epoch}
use Rattle.wire_messages.specs.declared.packet.Packet.{Packet}
use Rattle.wire_messages.specs.declared.body.Body.{Body}
use Rattle.wire_messages.specs.declared.body.Body.TheVariants as body
use Rattle.role_steps.specs.Own.{Every}
use Rattle.role_steps.specs.Tables.{without_row}
use Rattle.role_steps.specs.Views.{Frame, SiteView, Promises, Outcome, Event, Calls, Receives, Ticks, Parts, Merges, GivesUp, quiet, sends, tells, joined_to, and_then, to_some, sync_site}
use Rattle.role_steps.specs.Reports.{new_table}
use Rattle.role_steps.specs.Storage.{report_of}
use Rattle.role_steps.specs.Epochs.{is_epoch_below, frame_in, leaves_of, leaves, promises, promised_view, reached, new_round, poll_packet, polled_sites, polls, round_id, begins_round, starts_merge, boots_where, merge_boot, part_boot, starts_part_of, starts_part, promise_packet, refuse_packet, on_poll, counts_promise, with_promise, on_promise_of, on_refuse_of, joined_view, report_packets, joins, may_install, is_in, joined_packet, on_install, on_joined, passed_over, unanswered, chosen_members, chosen_set, others_of, install_packet, installs_all, decides, decides_if, passes_over_of, passes_over, poll_repeats, install_repeats}
use Rattle.role_steps.specs.declared.rounds.InEpoch.{InEpoch}
use Rattle.role_steps.specs.declared.rounds.Round.{Round}
use Rattle.role_steps.proofs.Sending.{every_append, every_cond, every_map, every_flat_map}
use Rattle.the_run.specs.Steps.{in_order, is_dropped, takes_framed, takes, tries_at, adopts_in, starts_mends_of, ends_event, whole, repeats_inside, repeats_of, repeats, ticks_after, call_frame, epoch_id, takes_call, step}
use Rattle.the_run.specs.Worlds.{no_epoch}
use Rattle.the_run.proofs.StepSends.{order_sent}
use Rattle.run_laws.specs.Naming.{IsInEpoch, Inner}
use Rattle.run_laws.proofs.InsideSteps.{framed_inner, adopts_of_inner, tries_inner, mends_of_inner, quiet_inner, call_inner, repeats_in_epoch}
use Rattle.run_laws.specs.Epochs.Forming.{FormsNone, Formless, TableFormless, FormlessSite}
use Rattle.run_laws.proofs.Epochs.Handlers.{leaves_of_epoch}
use Rattle.run_laws.proofs.Epochs.Parts.{every_both}
use Rattle.run_laws.proofs.Epochs.Forms.{on_call_forms, formless_quiet, adopts_of_formless, tries_formless, mends_of_formless, framed_formless, inside_formless}

-- ---- ids that are known ----

abbrev pub Ids : Type 1
Ids = EpochId → Type 0

-- a refusal names one more
abbrev pub Names : Ids → Body → Type 0
Names P (body.Refuse theirs) = P theirs
Names P _ = Unit {0}

abbrev pub Named : Ids → Packet → Type 0
Named P p = P p.epoch × Names P p.body

pub record Site (P : Ids) (v : SiteView) : Type 0 where
  pub promised : (v.promised ≡ no_epoch) ⊎ P v.promised
  pub round : (r : Round) → v.round ≡ Some r → P r.id
  pub inside : (e : InEpoch) → v.epoch ≡ Some e → P e.id
  pub tables : Every TableFormless v.tables

pub record Fine (P : Ids) (o : Outcome SiteView) : Type 0 where
  pub view : Site P o.view
  pub sent : Every (Named P) o.sent

-- each is above that of no epoch
abbrev pub AreAbove : Ids → Type 0
AreAbove P = (id : EpochId) → P id → is_epoch_below no_epoch id ≡ true

-- ---- outcomes ----

joined_fine : (P : Ids) (o p : Outcome SiteView) → Fine P o → Fine P p → Fine P (joined_to o p)
joined_fine P o p h g = record { view = g.view; sent = every_append (Named P) o.sent p.sent h.sent g.sent }

then_fine : (P : Ids) (o : Outcome SiteView) (f : SiteView → Outcome SiteView) → Fine P o → (Site P o.view → Fine P (f o.view)) → Fine P (and_then o f)
then_fine P o f h g = joined_fine P o (f o.view) h (g h.view)

sends_fine : (P : Ids) (ps : List Packet) (v : SiteView) → Site P v → Every (Named P) ps → Fine P (sends ps v)
sends_fine P ps v h e = record { view = h; sent = e }

quiet_fine : (P : Ids) (v : SiteView) → Site P v → Fine P (quiet v)
quiet_fine P v h = sends_fine P [] v h tt

-- ---- what a site does inside its epoch ----

names_none : (P : Ids) (b : Body) → FormsNone b → Names P b
names_none P (body.Refuse theirs) h = absurd h
names_none P _ h = tt

in_epoch : (P : Ids) (v : SiteView) (o : Option InEpoch) → v.epoch ≡ o → Site P v → (p : Packet) → IsInEpoch o p → Formless p → Named P p
in_epoch P v None here h p k f = absurd k
in_epoch P v (Some e) here h p k f = (subst P (sym k) (h.inside e here), names_none P p.body f)

inner_sent : (P : Ids) (v : SiteView) (ps : List Packet) → Site P v → Every (IsInEpoch v.epoch) ps → Every Formless ps → Every (Named P) ps
inner_sent P v ps h e f = every_both (IsInEpoch v.epoch) Formless (Named P) ps (in_epoch P v v.epoch refl h) e f

inner_fine : (P : Ids) (v : SiteView) (o : Outcome SiteView) → FormlessSite v o → Inner v o → Site P v → Fine P o
inner_fine P v o f i h = record {
  view = record {
    promised = subst (λ (id : EpochId). (id ≡ no_epoch) ⊎ P id) (sym f.promised) h.promised;
    round = λ r e. h.round r (sym f.round ∙ e);
    inside = λ x e. h.inside x (sym f.epoch ∙ e);
    tables = f.tables;
  };
  sent = inner_sent P v o.sent h i.sent f.still.0;
}

-- ---- leaving, promising, polling ----

leaves_fine : (P : Ids) (me : ℕ) (e : Option InEpoch) (v : SiteView) → Site P v → Fine P (leaves_of me e v)
leaves_fine P me None v h = quiet_fine P v h
leaves_fine P me (Some e) v h = record {
  view = record { promised = h.promised; round = h.round; inside = λ x k. absurd (none_some x k); tables = tt };
  sent = tt;
}

promises_fine : (P : Ids) (me : ℕ) (id : EpochId) (reach : Sites) (v : SiteView) → Site P v → P id → Fine P (promises me id reach v)
promises_fine P me id reach v h known =
    then_fine P (leaves me v) (λ now. tells (Promises me id reach ∷ []) (promised_view id now)) (leaves_fine P me v.epoch v h)
    (λ g. record {
      view = record { promised = inr known; round = λ r e. absurd (none_some r e); inside = λ x e. absurd (none_some x (sym (leaves_of_epoch me v.epoch v refl) ∙ e)); tables = g.tables };
      sent = tt;
    })

pub begins_fine : (P : Ids) (me : ℕ) (links : Links) (number : ℕ) (polled : Links) (v : SiteView) → Site P v → P (round_id me number v) → Fine P (begins_round me links number polled v)
begins_fine P me links number polled v h known =
    let id : EpochId = round_id me number v in
    let o : Outcome SiteView = promises me id (reached links) v in
    then_fine P o (polls me id polled) (promises_fine P me id (reached links) v h known)
    (λ g. sends_fine P (map (poll_packet me o.view.boot id polled) (polled_sites polled)) (record o.view { round = Some (new_round id polled) })
    (record { promised = g.promised; round = λ r e. subst (λ (x : Round). P x.id) (some_same (new_round id polled) r e) known; inside = g.inside; tables = g.tables })
    (every_map (Named P) (poll_packet me o.view.boot id polled) (polled_sites polled) (λ t. (known, tt))))

starts_part_fine : (P : Ids) (me : ℕ) (links : Links) (e : Option InEpoch) (v : SiteView) → ((x : InEpoch) → e ≡ Some x → P (round_id me (v.promised.number + 1) v)) → Site P v → Fine P (starts_part_of me links e v)
starts_part_fine P me links None v may h = quiet_fine P v h
starts_part_fine P me links (Some e) v may h = begins_fine P me links (v.promised.number + 1) (boots_where (part_boot me links e.members)) v h (may e refl)

-- ---- Poll, Promise, Refuse ----

has_promised_one : (P : Ids) → AreAbove P → (id : EpochId) (v : SiteView) → P id → is_epoch_below v.promised id ≡ false → (v.promised ≡ no_epoch) ⊎ P v.promised → P v.promised
has_promised_one P above id v known e (inl none) = absurd (true_false (sym (above id known) ∙ subst (λ (x : EpochId). is_epoch_below x id ≡ false) none e))
has_promised_one P above id v known e (inr k) = k

on_poll_fine : (P : Ids) → AreAbove P → (me : ℕ) (links : Links) (from from_boot : ℕ) (id : EpochId) (v : SiteView) → Site P v → P id → Fine P (on_poll me links from from_boot id v)
on_poll_fine P above me links from from_boot id v h known =
    (elim (is_epoch_below v.promised id) as (λ t. is_epoch_below v.promised id ≡ t → Fine P (elim t [ true ↦ and_then (promises me id (reached links) v) (λ now. sends (promise_packet me links from from_boot id now) now) | false ↦ sends (cond (same_epoch id v.promised && not v.installed) (promise_packet me links from from_boot id v) (refuse_packet me from from_boot id v)) v ])) [
      | true ↦ λ e. then_fine P (promises me id (reached links) v) (λ now. sends (promise_packet me links from from_boot id now) now) (promises_fine P me id (reached links) v h known)
          (λ g. sends_fine P (promise_packet me links from from_boot id (promises me id (reached links) v).view) (promises me id (reached links) v).view g ((known, tt), tt))
      | false ↦ λ e. sends_fine P (cond (same_epoch id v.promised && not v.installed) (promise_packet me links from from_boot id v) (refuse_packet me from from_boot id v)) v h
          (every_cond (Named P) (same_epoch id v.promised && not v.installed) (promise_packet me links from from_boot id v) (refuse_packet me from from_boot id v) ((known, tt), tt) ((known, has_promised_one P above id v known e h.promised), tt))
    ]) refl

-- the round goes on under the same id
goes_on_round : (P : Ids) (r q : Round) (v : SiteView) → Site P v → v.round ≡ Some r → q.id ≡ r.id → Fine P (quiet (record v { round = Some q }))
goes_on_round P r q v h here same = record {
  view = record { promised = h.promised; round = λ x e. subst (λ (y : Round). P y.id) (some_same q x e) (subst P (sym same) (h.round r here)); inside = h.inside; tables = h.tables };
  sent = tt;
}

on_promise_fine : (P : Ids) (from from_boot : ℕ) (id : EpochId) (reach : Sites) (o : Option Round) (v : SiteView) → Site P v → v.round ≡ o → Fine P (on_promise_of from from_boot id reach o v)
on_promise_fine P from from_boot id reach None v h e = quiet_fine P v h
on_promise_fine P from from_boot id reach (Some r) v h e = by_test (counts_promise from from_boot id r)
  where
    by_test : (b : Bool) → Fine P (quiet (record v { round = Some (cond b (with_promise from reach r) r) }))
    by_test true = goes_on_round P r (with_promise from reach r) v h e refl
    by_test false = goes_on_round P r r v h e refl

on_refuse_fine : (P : Ids) (me : ℕ) (links : Links) (id theirs : EpochId) (o : Option Round) (v : SiteView) → Site P v → ((r : Round) → o ≡ Some r → same_epoch r.id id ≡ true → P (round_id me (theirs.number + 1) v)) → Fine P (on_refuse_of me links id theirs o v)
on_refuse_fine P me links id theirs None v h may = quiet_fine P v h
on_refuse_fine P me links id theirs (Some r) v h may =
    (elim (same_epoch r.id id) as (λ t. same_epoch r.id id ≡ t → Fine P (elim t [ true ↦ begins_round me links (theirs.number + 1) r.polled v | false ↦ quiet v ])) [
      | true ↦ λ e. begins_fine P me links (theirs.number + 1) r.polled v h (may r refl e)
      | false ↦ λ e. quiet_fine P v h
    ]) refl

-- ---- joining ----

some_report : (P : Ids) (f : Frame) (group : ℕ) (v : SiteView) (o : Option ℕ) → P f.epoch → Every (Named P) (to_some f (body.Report group (report_of group v.store.copies)) o)
some_report P f group v None h = tt
some_report P f group v (Some to) h = ((h, tt), tt)

joins_fine : (P : Ids) (me : ℕ) (c : Config) (id : EpochId) (m : Members) (v : SiteView) → Site P v → P id → Fine P (joins c me id m v)
joins_fine P me c id m v h known =
    let e : InEpoch = record { id = id; members = m } in
    record {
      view = record {
        promised = h.promised;
        round = λ r f. absurd (none_some r f);
        inside = λ x f. subst (λ (y : InEpoch). P y.id) (some_same e x f) known;
        tables = every_map TableFormless new_table _ (λ g. tt);
      };
      sent = every_flat_map (Named P) (report_packets (frame_in c me v.boot e) (joined_view c me id m v)) (joined_view c me id m v).reports
          (λ g. some_report P (frame_in c me v.boot e) g (joined_view c me id m v) (sync_site c m g) known);
    }

on_install_fine : (P : Ids) (me : ℕ) (c : Config) (from from_boot : ℕ) (id : EpochId) (m : Members) (v : SiteView) → Site P v → P id → Fine P (on_install c me from from_boot id m v)
on_install_fine P me c from from_boot id m v h known =
    elim (may_install me id m v) as (λ t. Fine P (elim t [ true ↦ and_then (joins c me id m v) (λ now. sends (joined_packet me from from_boot id now) now) | false ↦ sends (cond (is_in id v.epoch) (joined_packet me from from_boot id v) []) v ])) [
      | true ↦ then_fine P (joins c me id m v) (λ now. sends (joined_packet me from from_boot id now) now) (joins_fine P me c id m v h known)
          (λ g. sends_fine P (joined_packet me from from_boot id (joins c me id m v).view) (joins c me id m v).view g ((known, tt), tt))
      | false ↦ sends_fine P (cond (is_in id v.epoch) (joined_packet me from from_boot id v) []) v h (every_cond (Named P) (is_in id v.epoch) (joined_packet me from from_boot id v) [] ((known, tt), tt) tt)
    ]

site_alike : (P : Ids) (v : SiteView) (xs : List ℕ) → Site P v → Site P (record v { installs = xs })
site_alike P v xs h = record { promised = h.promised; round = h.round; inside = h.inside; tables = h.tables }

on_joined_fine : (P : Ids) (from : ℕ) (id : EpochId) (v : SiteView) → Site P v → Fine P (on_joined from id v)
on_joined_fine P from id v h =
    elim (is_in id v.epoch) as (λ b. Fine P (quiet (cond b (record v { installs = without_row (λ s. s) from v.installs }) v))) [
      | true ↦ quiet_fine P (record v { installs = without_row (λ s. s) from v.installs }) (site_alike P v (without_row (λ s. s) from v.installs) h)
      | false ↦ quiet_fine P v h
    ]

-- ---- the decision, and the end of an event ----

decides_fine : (P : Ids) (me : ℕ) (c : Config) (id : EpochId) (m : Members) (v : SiteView) → Site P v → P id → Fine P (decides c me id m v)
decides_fine P me c id m v h known =
    then_fine P (joins c me id m v) (installs_all me id m) (joins_fine P me c id m v h known)
    (λ g. sends_fine P (map (install_packet me (joins c me id m v).view.boot id m) (others_of me m)) (record (joins c me id m v).view { installs = others_of me m }) (site_alike P (joins c me id m v).view (others_of me m) g)
    (every_map (Named P) (install_packet me (joins c me id m v).view.boot id m) (others_of me m) (λ t. (known, tt))))

passed_fine : (P : Ids) (me : ℕ) (c : Config) (links : Links) (r q : Round) (xs : List ℕ) (v : SiteView) → Site P v → v.round ≡ Some r → q.id ≡ r.id → Fine P (decides_if c me links q xs v)
passed_fine P me c links r q [] v h here same = decides_fine P me c q.id (chosen_members me v.boot q (chosen_set me links q)) v h (subst P (sym same) (h.round r here))
passed_fine P me c links r q (x ∷ xs) v h here same = goes_on_round P r q v h here same

passes_over_fine : (P : Ids) (me : ℕ) (c : Config) (links : Links) (o : Option Round) (v : SiteView) → Site P v → v.round ≡ o → Fine P (passes_over_of c me links o v)
passes_over_fine P me c links None v h here = quiet_fine P v h
passes_over_fine P me c links (Some r) v h here = passed_fine P me c links r (passed_over links r) (unanswered (passed_over links r)) v h here refl

ends_fine : (P : Ids) (me : ℕ) (c : Config) (links : Links) (v : SiteView) → Site P v → Fine P (ends_event c me links v)
ends_fine P me c links v h =
    let o : Outcome SiteView = passes_over c me links v in
    then_fine P o (λ now. starts_mends_of c me now.epoch now) (passes_over_fine P me c links v.round v h refl)
    (λ g. inner_fine P o.view (starts_mends_of c me o.view.epoch o.view) (mends_of_formless c me o.view.epoch o.view g.tables) (mends_of_inner c me o.view.epoch o.view refl) g)

-- ---- a packet ----

-- where a refusal of its round comes, the id of the next one is known
abbrev pub BeginsAgain : Ids → ℕ → SiteView → EpochId → Body → Type 0
BeginsAgain P me v id (body.Refuse theirs) = (r : Round) → v.round ≡ Some r → same_epoch r.id id ≡ true → P (round_id me (theirs.number + 1) v)
BeginsAgain P me v id _ = Unit {0}

takes_fine : (P : Ids) → AreAbove P → (me : ℕ) (c : Config) (links : Links) (p : Packet) (x : Body) (v : SiteView) → Site P v → P p.epoch → BeginsAgain P me v p.epoch x → Fine P (takes c me links p x v)
takes_fine P above me c links p body.Poll v h k b = on_poll_fine P above me links p.from p.from_boot p.epoch v h k
takes_fine P above me c links p (body.Promise reach) v h k b = on_promise_fine P p.from p.from_boot p.epoch reach v.round v h refl
takes_fine P above me c links p (body.Refuse promised) v h k b = on_refuse_fine P me links p.epoch promised v.round v h b
takes_fine P above me c links p (body.Install members) v h k b = on_install_fine P me c p.from p.from_boot p.epoch members v h k
takes_fine P above me c links p body.Joined v h k b = on_joined_fine P p.from p.epoch v h
takes_fine P above me c links p _ v h k b = inner_fine P v (takes_framed c me p v.epoch v) (framed_formless c me p v.epoch v h.tables) (framed_inner c me p v.epoch v refl) h

-- ---- an event and its end ----

whole_fine : (P : Ids) (me : ℕ) (c : Config) (links : Links) (o : Outcome SiteView) (tries : SiteView → Outcome SiteView) → Fine P o → ((u : SiteView) → Every TableFormless u.tables → FormlessSite u (tries u)) → ((u : SiteView) → Inner u (tries u)) → Fine P (whole c me links o tries)
whole_fine P me c links o tries h formless inner =
    let a : Outcome SiteView = tries o.view in
    let f : Fine P a = inner_fine P o.view a (formless o.view h.view.tables) (inner o.view) h.view in
    let last : Outcome SiteView = ends_event c me links a.view in
    let e : Fine P last = ends_fine P me c links a.view f.view in
    record {
      view = e.view;
      sent = every_append (Named P) a.sent (in_order (o.sent ++ last.sent)) f.sent (order_sent (Named P) (o.sent ++ last.sent) (every_append (Named P) o.sent last.sent h.sent e.sent));
    }

polls_named : (P : Ids) (me : ℕ) (v : SiteView) (r : Option Round) → v.round ≡ r → Site P v → Every (Named P) (poll_repeats me v r)
polls_named P me v None here h = tt
polls_named P me v (Some r) here h = every_map (Named P) (poll_packet me v.boot r.id r.polled) (unanswered r) (λ t. (h.round r here, tt))

repeats_named : (P : Ids) (me : ℕ) (c : Config) (o : Option InEpoch) (v : SiteView) → v.epoch ≡ o → Site P v → Every (Named P) (repeats_of c me o v)
repeats_named P me c None v here h = order_sent (Named P) (poll_repeats me v v.round) (polls_named P me v v.round refl h)
repeats_named P me c (Some e) v here h =
    every_append (Named P) (in_order (poll_repeats me v v.round ++ install_repeats me v e)) (repeats_inside (frame_in c me v.boot e) e v)
    (order_sent (Named P) (poll_repeats me v v.round ++ install_repeats me v e) (every_append (Named P) (poll_repeats me v v.round) (install_repeats me v e) (polls_named P me v v.round refl h)
    (every_map (Named P) (install_packet me v.boot e.id e.members) v.installs (λ t. (h.inside e here, tt)))))
    (inner_sent P v (repeats_inside (frame_in c me v.boot e) e v) h (subst (λ (x : Option InEpoch). Every (IsInEpoch x) (repeats_inside (frame_in c me v.boot e) e v)) (sym here) (repeats_in_epoch c me v.boot e v)) (inside_formless (frame_in c me v.boot e) e v))

ticks_fine : (P : Ids) (me : ℕ) (c : Config) (links : Links) (a : Outcome SiteView) → Fine P a → Fine P (ticks_after c me links a)
ticks_fine P me c links a f =
    let last : Outcome SiteView = ends_event c me links a.view in
    let e : Fine P last = ends_fine P me c links a.view f.view in
    record {
      view = e.view;
      sent = every_append (Named P) a.sent (repeats c me a.view ++ in_order last.sent) f.sent
          (every_append (Named P) (repeats c me a.view) (in_order last.sent) (repeats_named P me c a.view.epoch a.view refl f.view) (order_sent (Named P) last.sent e.sent));
    }

-- ---- the step ----

-- what the packet of an event says, and that the id of a round which the event begins is known
abbrev pub EventFact : Ids → ℕ → SiteView → Event → Type 0
EventFact P me v (Receives p) = P p.epoch × (is_dropped p v ≡ false → BeginsAgain P me v p.epoch p.body)
EventFact P me v Parts = (e : InEpoch) → v.epoch ≡ Some e → P (round_id me (v.promised.number + 1) v)
EventFact P me v Merges = P (round_id me (v.promised.number + 1) v)
EventFact P me v _ = Unit {0}

pub step_fine : (P : Ids) → AreAbove P → (me : ℕ) (c : Config) (links : Links) (v : SiteView) (e : Event) → Site P v → EventFact P me v e → Fine P (step c me links v e)
step_fine P above me c links v (Calls process words) h k =
    whole_fine P me c links (takes_call c me process words v) quiet
    (inner_fine P v (takes_call c me process words v) (record { boot = refl; round = refl; promised = refl; epoch = refl; tables = h.tables; still = on_call_forms (call_frame c me v.boot v.epoch) (epoch_id v.epoch) process words v.users }) (call_inner c me process words v) h)
    formless_quiet quiet_inner
step_fine P above me c links v (Receives p) h k =
    (elim (is_dropped p v) as (λ t. is_dropped p v ≡ t → Fine P (elim t [ true ↦ quiet v | false ↦ whole c me links (takes c me links p p.body v) (tries_at c me p.body) ])) [
      | true ↦ λ e. quiet_fine P v h
      | false ↦ λ e. whole_fine P me c links (takes c me links p p.body v) (tries_at c me p.body) (takes_fine P above me c links p p.body v h k.0 (k.1 e)) (tries_formless c me p.body) (tries_inner c me p.body)
    ]) refl
step_fine P above me c links v Ticks h k = ticks_fine P me c links (adopts_in c me v) (inner_fine P v (adopts_in c me v) (adopts_of_formless c me v.epoch v h.tables) (adopts_of_inner c me v.epoch v refl) h)
step_fine P above me c links v Parts h k = whole_fine P me c links (starts_part me links v) quiet (starts_part_fine P me links v.epoch v k h) formless_quiet quiet_inner
step_fine P above me c links v Merges h k = whole_fine P me c links (starts_merge me links v) quiet (begins_fine P me links (v.promised.number + 1) (boots_where (merge_boot me links)) v h k) formless_quiet quiet_inner
step_fine P above me c links v GivesUp h k = whole_fine P me c links (leaves me v) quiet (leaves_fine P me v.epoch v h) formless_quiet quiet_inner
