-- The step of a site names known ids, and leaves a round in which an answer is missing.
use Rattle.std.proofs.Common.{◌≡◌, ℕ, ◌≤◌, true, false, List, [], ◌∷◌, ◌++◌, Option, Some, None, refl, sym, ◌∙◌, subst}
use Rattle.the_run.proofs.of_plain_facts.Options.{none_some, some_same}
use Rattle.locus_ids.specs.declared.ids.EpochId.{EpochId}
use Rattle.locus_ids.specs.declared.sites.Links.{Links}
use Rattle.locus_ids.specs.declared.config.Config.{Config}
use Rattle.wire_messages.specs.declared.packet.Packet.{Packet}
use Rattle.the_run.specs.of_role_steps.Own.{Every}
use Rattle.the_run.specs.of_role_steps.Views.{SiteView, Outcome, Event, Calls, Receives, Ticks, Parts, Merges, GivesUp, quiet, boot_in}
use Rattle.the_run.specs.of_role_steps.Reports.{new_table}
use Rattle.the_run.specs.of_role_steps.Epochs.{frame_in, leaves, starts_merge, starts_part, poll_packet, install_packet, unanswered, decides_if, passed_over, passes_over_of, passes_over, poll_repeats, install_repeats}
use Rattle.the_run.specs.of_role_steps.declared.rounds.InEpoch.{InEpoch}
use Rattle.the_run.specs.of_role_steps.declared.rounds.Round.{Round}
use Rattle.the_run.proofs.of_role_steps.Sending.{every_append, every_map}
use Rattle.the_run.specs.Steps.{in_order, is_dropped, takes, tries_at, adopts_in, ends_event, whole, repeats_inside, repeats_of, repeats, ticks_after, call_frame, epoch_id, takes_call, step}
use Rattle.the_run.proofs.StepSends.{order_sent}
use Rattle.run_laws.specs.Naming.{IsInEpoch, Inner}
use Rattle.run_laws.proofs.InsideSteps.{quiet_inner, adopts_of_inner, tries_inner, call_inner, repeats_in_epoch}
use Rattle.run_laws.specs.Epochs.Forming.{TableFormless, FormlessSite}
use Rattle.run_laws.specs.Epochs.Known.{IsOwnRound, FormFact}
use Rattle.run_laws.proofs.Epochs.Boots.{at_most_trans}
use Rattle.run_laws.proofs.Epochs.Forms.{on_call_forms, inside_formless, formless_quiet, adopts_of_formless, tries_formless, mends_of_formless}
use Rattle.run_laws.proofs.Epochs.Parts.{Ids, Now, SentFact, Site, Fine, sent_higher, quiet_fine, inner_sent, inner_fine}
use Rattle.run_laws.proofs.Epochs.Handlers.{leaves_of_fine, starts_part_fine, starts_merge_fine, ends_fine, takes_fine}

-- ---- an event and its end ----

whole_fine : (K : Ids) (boots : ℕ → ℕ) (me boot : ℕ) (low : EpochId) (c : Config) (links : Links) (o : Outcome SiteView) (tries : SiteView → Outcome SiteView) → Fine K boots me boot low o → ((u : SiteView) → Every TableFormless u.tables → FormlessSite u (tries u)) → ((u : SiteView) → Inner u (tries u)) →
    Fine K boots me boot low (whole c me links o tries)
whole_fine K boots me boot low c links o tries h formless inner =
    let a : Outcome SiteView = tries o.view in
    let f : Fine K boots me boot o.view.promised a = inner_fine K boots me boot o.view a (formless o.view h.view.tables) (inner o.view) h.view in
    let last : Outcome SiteView = ends_event c me links a.view in
    let e : Fine K boots me boot a.view.promised last = ends_fine K boots me boot c links a.view f.view in
    let top : EpochId = last.view.promised in
    record {
      view = e.view;
      rises = at_most_trans low o.view.promised top h.rises (at_most_trans o.view.promised a.view.promised top f.rises e.rises);
      sent = every_append (SentFact K boots me boot top) a.sent (in_order (o.sent ++ last.sent)) (sent_higher K boots me boot a.view.promised top a.sent e.rises f.sent)
          (order_sent (SentFact K boots me boot top) (o.sent ++ last.sent) (every_append (SentFact K boots me boot top) o.sent last.sent
          (sent_higher K boots me boot o.view.promised top o.sent (at_most_trans o.view.promised a.view.promised top f.rises e.rises) h.sent) e.sent));
    }

-- ---- a tick ----

polls_known : (K : Ids) (boots : ℕ → ℕ) (me boot : ℕ) (v : SiteView) (r : Option Round) → v.round ≡ r → Site K boots me boot v → Every (SentFact K boots me boot v.promised) (poll_repeats me v r)
polls_known K boots me boot v None here h = tt
polls_known K boots me boot v (Some r) here h =
    let k : IsOwnRound boots me v r = h.round r here in
    every_map (SentFact K boots me boot v.promised) (poll_packet me v.boot r.id r.polled) (unanswered r)
    (λ t. (subst (λ (i : EpochId). Now K me boot v.promised i) (sym k.promised) h.known, record { site = k.site; boot = k.boot; had = k.had t }))

repeats_known : (K : Ids) (boots : ℕ → ℕ) (me boot : ℕ) (c : Config) (o : Option InEpoch) (v : SiteView) → v.epoch ≡ o → Site K boots me boot v → Every (SentFact K boots me boot v.promised) (repeats_of c me o v)
repeats_known K boots me boot c None v here h = order_sent (SentFact K boots me boot v.promised) (poll_repeats me v v.round) (polls_known K boots me boot v v.round refl h)
repeats_known K boots me boot c (Some e) v here h =
    every_append S (in_order (poll_repeats me v v.round ++ install_repeats me v e)) (repeats_inside (frame_in c me v.boot e) e v)
    (order_sent S (poll_repeats me v v.round ++ install_repeats me v e) (every_append S (poll_repeats me v v.round) (install_repeats me v e) (polls_known K boots me boot v v.round refl h)
    (every_map S (install_packet me v.boot e.id e.members) v.installs (λ t. (subst (λ (i : EpochId). Now K me boot v.promised i) (sym (h.inside e here).0) h.known, tt)))))
    (inner_sent K boots me boot v (repeats_inside (frame_in c me v.boot e) e v) h (subst (λ (x : Option InEpoch). Every (IsInEpoch x) (repeats_inside (frame_in c me v.boot e) e v)) (sym here) (repeats_in_epoch c me v.boot e v)) (inside_formless (frame_in c me v.boot e) e v))
  where
    S : Packet → Type 0
    S = SentFact K boots me boot v.promised

ticks_fine : (K : Ids) (boots : ℕ → ℕ) (me boot : ℕ) (low : EpochId) (c : Config) (links : Links) (a : Outcome SiteView) → Fine K boots me boot low a → Fine K boots me boot low (ticks_after c me links a)
ticks_fine K boots me boot low c links a f =
    let last : Outcome SiteView = ends_event c me links a.view in
    let e : Fine K boots me boot a.view.promised last = ends_fine K boots me boot c links a.view f.view in
    let top : EpochId = last.view.promised in
    record {
      view = e.view;
      rises = at_most_trans low a.view.promised top f.rises e.rises;
      sent = every_append (SentFact K boots me boot top) a.sent (repeats c me a.view ++ in_order last.sent) (sent_higher K boots me boot a.view.promised top a.sent e.rises f.sent)
          (every_append (SentFact K boots me boot top) (repeats c me a.view) (in_order last.sent) (sent_higher K boots me boot a.view.promised top (repeats c me a.view) e.rises (repeats_known K boots me boot c a.view.epoch a.view refl f.view))
          (order_sent (SentFact K boots me boot top) last.sent e.sent));
    }

-- ---- the step ----

-- what the packet of an event says
abbrev pub EventFact : Ids → (ℕ → ℕ) → Event → Type 0
EventFact K boots (Receives p) = K p.epoch × FormFact boots p p.body
EventFact K boots _ = Unit {0}

pub step_fine : (K : Ids) (boots : ℕ → ℕ) (me boot : ℕ) (c : Config) (links : Links) (v : SiteView) (e : Event) → ((t : ℕ) → boot_in links.boot t ≤ boots t) → Site K boots me boot v → EventFact K boots e → Fine K boots me boot v.promised (step c me links v e)
step_fine K boots me boot c links v (Calls process words) had h k =
    whole_fine K boots me boot v.promised c links (takes_call c me process words v) quiet
    (inner_fine K boots me boot v (takes_call c me process words v) (record { boot = refl; round = refl; promised = refl; epoch = refl; tables = h.tables; still = on_call_forms (call_frame c me v.boot v.epoch) (epoch_id v.epoch) process words v.users }) (call_inner c me process words v) h)
    formless_quiet quiet_inner
step_fine K boots me boot c links v (Receives p) had h k =
    elim (is_dropped p v) as (λ t. Fine K boots me boot v.promised (elim t [ true ↦ quiet v | false ↦ whole c me links (takes c me links p p.body v) (tries_at c me p.body) ])) [
      | true ↦ quiet_fine K boots me boot v h
      | false ↦ whole_fine K boots me boot v.promised c links (takes c me links p p.body v) (tries_at c me p.body) (takes_fine K boots me boot c links p p.body v h k.0 k.1) (tries_formless c me p.body) (tries_inner c me p.body)
    ]
step_fine K boots me boot c links v Ticks had h k = ticks_fine K boots me boot v.promised c links (adopts_in c me v) (inner_fine K boots me boot v (adopts_in c me v) (adopts_of_formless c me v.epoch v h.tables) (adopts_of_inner c me v.epoch v refl) h)
step_fine K boots me boot c links v Parts had h k = whole_fine K boots me boot v.promised c links (starts_part me links v) quiet (starts_part_fine K boots me boot links v.epoch v had h) formless_quiet quiet_inner
step_fine K boots me boot c links v Merges had h k = whole_fine K boots me boot v.promised c links (starts_merge me links v) quiet (starts_merge_fine K boots me boot links v had h) formless_quiet quiet_inner
step_fine K boots me boot c links v GivesUp had h k = whole_fine K boots me boot v.promised c links (leaves me v) quiet (leaves_of_fine K boots me boot v.epoch v h) formless_quiet quiet_inner

-- ---- after an event of a site with a round an answer is missing ----

abbrev pub Missing : SiteView → Type 0
Missing v = (r : Round) → v.round ≡ Some r → unanswered r ≡ [] → ⊥

none_missing : (v : SiteView) → v.round ≡ None → Missing v
none_missing v e r here = absurd (none_some r (sym e ∙ here))

some_missing : (x : ℕ) (xs : List ℕ) → ◌≡◌ {A = List ℕ} (x ∷ xs) [] → ⊥
some_missing x xs e = cc

decides_missing : (c : Config) (me : ℕ) (links : Links) (q : Round) (xs : List ℕ) (v : SiteView) → unanswered q ≡ xs → Missing (decides_if c me links q xs v).view
decides_missing c me links q [] v e r here none = absurd (none_some r here)
decides_missing c me links q (x ∷ xs) v e r here none = some_missing x xs (sym e ∙ subst (λ (y : Round). unanswered y ≡ []) (sym (some_same q r here)) none)

passes_missing : (c : Config) (me : ℕ) (links : Links) (o : Option Round) (v : SiteView) → v.round ≡ o → Missing (passes_over_of c me links o v).view
passes_missing c me links None v here = none_missing v here
passes_missing c me links (Some r) v here = decides_missing c me links (passed_over links r) (unanswered (passed_over links r)) v refl

same_missing : (v u : SiteView) → u.round ≡ v.round → Missing v → Missing u
same_missing v u e h r here = h r (sym e ∙ here)

ends_missing : (c : Config) (me : ℕ) (links : Links) (v : SiteView) → Every TableFormless (passes_over c me links v).view.tables → Missing (ends_event c me links v).view
ends_missing c me links v ok =
    let o : Outcome SiteView = passes_over c me links v in
    same_missing o.view (ends_event c me links v).view (mends_of_formless c me o.view.epoch o.view ok).round (passes_missing c me links v.round v refl)

joined_tables : (c : Config) (me : ℕ) (links : Links) (q : Round) (xs : List ℕ) (v : SiteView) → Every TableFormless v.tables → Every TableFormless (decides_if c me links q xs v).view.tables
joined_tables c me links q [] v ok = every_map TableFormless new_table _ (λ g. tt)
joined_tables c me links q (x ∷ xs) v ok = ok

pub passed_tables : (c : Config) (me : ℕ) (links : Links) (o : Option Round) (v : SiteView) → Every TableFormless v.tables → Every TableFormless (passes_over_of c me links o v).view.tables
passed_tables c me links None v ok = ok
passed_tables c me links (Some r) v ok = joined_tables c me links (passed_over links r) (unanswered (passed_over links r)) v ok

last_missing : (c : Config) (me : ℕ) (links : Links) (v : SiteView) → Every TableFormless v.tables → Missing (ends_event c me links v).view
last_missing c me links v ok = ends_missing c me links v (passed_tables c me links v.round v ok)

whole_missing : (K : Ids) (boots : ℕ → ℕ) (me boot : ℕ) (low : EpochId) (c : Config) (links : Links) (o : Outcome SiteView) (tries : SiteView → Outcome SiteView) → Fine K boots me boot low o → ((u : SiteView) → Every TableFormless u.tables → FormlessSite u (tries u)) → Missing (whole c me links o tries).view
whole_missing K boots me boot low c links o tries h formless = last_missing c me links (tries o.view).view (formless o.view h.view.tables).tables

abbrev MissingAfter : Outcome SiteView → Type 0
MissingAfter o = Missing o.view

pub step_missing : (K : Ids) (boots : ℕ → ℕ) (me boot : ℕ) (c : Config) (links : Links) (v : SiteView) (e : Event) → ((t : ℕ) → boot_in links.boot t ≤ boots t) → Site K boots me boot v → EventFact K boots e → Missing v → Missing (step c me links v e).view
step_missing K boots me boot c links v (Calls process words) had h k m =
    last_missing c me links (takes_call c me process words v).view h.tables
step_missing K boots me boot c links v (Receives p) had h k m =
    elim (is_dropped p v) as (λ t. MissingAfter (elim t [ true ↦ quiet v | false ↦ whole c me links (takes c me links p p.body v) (tries_at c me p.body) ])) [
      | true ↦ m
      | false ↦ whole_missing K boots me boot v.promised c links (takes c me links p p.body v) (tries_at c me p.body) (takes_fine K boots me boot c links p p.body v h k.0 k.1) (tries_formless c me p.body)
    ]
step_missing K boots me boot c links v Ticks had h k m = last_missing c me links (adopts_in c me v).view (adopts_of_formless c me v.epoch v h.tables).tables
step_missing K boots me boot c links v Parts had h k m = whole_missing K boots me boot v.promised c links (starts_part me links v) quiet (starts_part_fine K boots me boot links v.epoch v had h) formless_quiet
step_missing K boots me boot c links v Merges had h k m = whole_missing K boots me boot v.promised c links (starts_merge me links v) quiet (starts_merge_fine K boots me boot links v had h) formless_quiet
step_missing K boots me boot c links v GivesUp had h k m = whole_missing K boots me boot v.promised c links (leaves me v) quiet (leaves_of_fine K boots me boot v.epoch v h) formless_quiet
