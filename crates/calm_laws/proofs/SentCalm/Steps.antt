-- A step of a site keeps what it has answered, what it reports and what its users have.
use Rattle.std.proofs.Common.{◌≡◌, ℕ, ◌≤◌, true, false, ◌++◌, Option, Some, None, refl}
use Rattle.std.specs.List.{flat_map}
use Rattle.locus_ids.specs.declared.config.Config.{Config}
use Rattle.locus_ids.specs.declared.ids.EpochId.{EpochId}
use Rattle.locus_ids.specs.declared.sites.Links.{Links}
use Rattle.wire_messages.specs.declared.body.Body.{Body}
use Rattle.wire_messages.specs.declared.body.Body.TheVariants as body
use Rattle.wire_messages.specs.declared.packet.Packet.{Packet}
use Rattle.role_steps.specs.Epochs.{frame_in, leaves, starts_merge, starts_part, poll_packet, install_packet, all_reports, unanswered, passes_over, poll_repeats, install_repeats}
use Rattle.role_steps.specs.Own.{Every}
use Rattle.role_steps.specs.Pulling.{pull_repeats}
use Rattle.role_steps.specs.Reports.{sync_repeats}
use Rattle.role_steps.specs.Requests.{users_repeats}
use Rattle.role_steps.specs.Storage.{store_repeats}
use Rattle.role_steps.specs.Views.{Frame, SiteView, Outcome, Event, Calls, Receives, Ticks, Parts, Merges, GivesUp, quiet}
use Rattle.role_steps.specs.declared.rounds.InEpoch.{InEpoch}
use Rattle.role_steps.specs.declared.rounds.Round.{Round}
use Rattle.role_steps.proofs.Sending.{every_append, every_flat_map, every_map}
use Rattle.the_run.specs.Steps.{in_order, is_dropped, takes, tries_at, adopts_in, starts_mends_of, ends_event, whole, repeats_inside, repeats_of, repeats, ticks_after, call_frame, epoch_id, takes_call, step}
use Rattle.the_run.proofs.StepSends.{order_sent}
use Rattle.calm_laws.proofs.SentCalm.Answerless.{Answerless, users_repeats_answerless, pull_repeats_answerless, on_call_answerless}
use Rattle.calm_laws.proofs.SentCalm.Closing.{Begun, store_repeats_closes}
use Rattle.calm_laws.proofs.SentCalm.Forming.{reports_answerless, part_of_fine, merge_fine, leaving_fine, on_poll_fine, on_promise_fine, on_refuse_fine, on_install_fine, on_joined_fine, passes_over_fine}
use Rattle.calm_laws.proofs.SentCalm.Sites.{Brings, HasBegun, adopts_begun, adopts_of_fine, tries_fine, mends_of_fine, framed_fine}
use Rattle.calm_laws.proofs.SentCalm.Tables.{sync_repeats_answerless}
use Rattle.calm_laws.proofs.SentCalm.Users.{on_call_holds}
use Rattle.calm_laws.proofs.SentCalm.Views.{Known, In, SentStands, Orderly, Heard, Fine, quiet_fine, then_fine, part_fine, sent_goes, all_close, all_stand, goes_then}

-- ---- a tick ----

polls_answerless : (me : ℕ) (v : SiteView) (o : Option Round) → Every Answerless (poll_repeats me v o)
polls_answerless me v None = tt
polls_answerless me v (Some r) = every_map Answerless (poll_packet me v.boot r.id r.polled) (unanswered r) (λ s. tt)

-- what is sent again answers nothing, and closes what was begun
module _ (B : Begun) (c : Config) (me : ℕ) where
  inside_stand : (e : InEpoch) (v : SiteView) → v.epoch ≡ Some e → HasBegun B v → Orderly v → Every (SentStands B c v) (repeats_inside (frame_in c me v.boot e) e v)
  inside_stand e v here d h =
      let f : Frame = frame_in c me v.boot e in
      let P : Packet → Type 0 = SentStands B c v in
      every_append P (in_order (all_reports f v)) _ (order_sent P (all_reports f v) (all_stand B c v (all_reports f v) (reports_answerless f v)))
      (every_append P (users_repeats f v.users) _ (all_stand B c v (users_repeats f v.users) (users_repeats_answerless f v.users))
      (every_append P (in_order (store_repeats f v.store)) _ (order_sent P (store_repeats f v.store) (all_close B c me v e (store_repeats f v.store) h here (store_repeats_closes B f v.store (d e here))))
      (every_append P (in_order (pull_repeats f v.pulls)) _ (order_sent P (pull_repeats f v.pulls) (all_stand B c v (pull_repeats f v.pulls) (pull_repeats_answerless f v.pulls)))
      (order_sent P (flat_map (sync_repeats f) v.tables) (all_stand B c v (flat_map (sync_repeats f) v.tables) (every_flat_map Answerless (sync_repeats f) v.tables (sync_repeats_answerless f)))))))

  repeats_stand : (o : Option InEpoch) (v : SiteView) → v.epoch ≡ o → HasBegun B v → Orderly v → Every (SentStands B c v) (repeats_of c me o v)
  repeats_stand None v here d h = all_stand B c v (in_order (poll_repeats me v v.round)) (order_sent Answerless (poll_repeats me v v.round) (polls_answerless me v v.round))
  repeats_stand (Some e) v here d h =
      every_append (SentStands B c v) (in_order (poll_repeats me v v.round ++ install_repeats me v e)) (repeats_inside (frame_in c me v.boot e) e v)
      (all_stand B c v (in_order (poll_repeats me v v.round ++ install_repeats me v e)) (order_sent Answerless (poll_repeats me v v.round ++ install_repeats me v e) (every_append Answerless (poll_repeats me v v.round) (install_repeats me v e) (polls_answerless me v v.round) (every_map Answerless (install_packet me v.boot e.id e.members) v.installs (λ s. tt)))))
      (inside_stand e v here d h)

-- ---- the packet of an event ----

-- a refusal is by an id whose number isn't lower
abbrev pub NumberFact : EpochId → Body → Type 0
NumberFact id (body.Refuse theirs) = id.number ≤ theirs.number
NumberFact id _ = Unit {0}

abbrev pub EventFact : Known → Known → SiteView → Event → Type 0
EventFact R S v (Receives p) = NumberFact p.epoch p.body × (is_dropped p v ≡ false → (e : InEpoch) → v.epoch ≡ Some e → Brings R S e p.body)
EventFact R S v _ = Unit {0}

module _ (R S : Known) (B : Begun) (c : Config) (me : ℕ) where
  -- ---- the end of an event ----

  ends_fine : (links : Links) (v : SiteView) → Orderly v → Heard R S c me v → Fine R S B c me v (ends_event c me links v)
  ends_fine links v h k = then_fine R S B c me v (passes_over c me links v) (λ now. starts_mends_of c me now.epoch now) (passes_over_fine R S B c me links v h k)
      (λ g l. mends_of_fine R S B c me (passes_over c me links v).view.epoch (passes_over c me links v).view g l)

  whole_fine : (links : Links) (v : SiteView) (o : Outcome SiteView) (tries : SiteView → Outcome SiteView) → Fine R S B c me v o → ((u : SiteView) → Orderly u → Heard R S c me u → Fine R S B c me u (tries u)) → Fine R S B c me v (whole c me links o tries)
  whole_fine links v o tries h t =
      let a : Fine R S B c me o.view (tries o.view) = t o.view h.orderly h.heard in
      let last : Outcome SiteView = ends_event c me links (tries o.view).view in
      let l : Fine R S B c me (tries o.view).view last = ends_fine links (tries o.view).view a.orderly a.heard in
      let go : _ = goes_then o.view (tries o.view).view last.view a.goes l.goes in
      record {
        orderly = l.orderly;
        heard = l.heard;
        goes = goes_then v o.view last.view h.goes go;
        sent = every_append (SentStands B c last.view) (tries o.view).sent (in_order (o.sent ++ last.sent)) (sent_goes B c (tries o.view).view last.view (tries o.view).sent l.goes a.sent)
            (order_sent (SentStands B c last.view) (o.sent ++ last.sent) (every_append (SentStands B c last.view) o.sent last.sent (sent_goes B c o.view last.view o.sent go h.sent) l.sent));
      }

  ticks_fine : (links : Links) (v : SiteView) (a : Outcome SiteView) → HasBegun B a.view → Fine R S B c me v a → Fine R S B c me v (ticks_after c me links a)
  ticks_fine links v a d h =
      let last : Outcome SiteView = ends_event c me links a.view in
      let l : Fine R S B c me a.view last = ends_fine links a.view h.orderly h.heard in
      record {
        orderly = l.orderly;
        heard = l.heard;
        goes = goes_then v a.view last.view h.goes l.goes;
        sent = every_append (SentStands B c last.view) a.sent (repeats c me a.view ++ in_order last.sent) (sent_goes B c a.view last.view a.sent l.goes h.sent)
            (every_append (SentStands B c last.view) (repeats c me a.view) (in_order last.sent) (sent_goes B c a.view last.view (repeats c me a.view) l.goes (repeats_stand B c me a.view.epoch a.view refl d h.orderly)) (order_sent (SentStands B c last.view) last.sent l.sent));
      }

  -- ---- the step ----

  takes_fine : (links : Links) (p : Packet) (x : Body) (v : SiteView) → NumberFact p.epoch x → ((e : InEpoch) → v.epoch ≡ Some e → Brings R S e p.body) → HasBegun B v → Orderly v → Heard R S c me v → Fine R S B c me v (takes c me links p x v)
  takes_fine links p body.Poll v n b d h k = on_poll_fine R S B c me links p.from p.from_boot p.epoch v h k
  takes_fine links p (body.Promise reach) v n b d h k = on_promise_fine R S B c me p.from p.from_boot p.epoch reach v.round v refl h k
  takes_fine links p (body.Refuse promised) v n b d h k = on_refuse_fine R S B c me links p.epoch promised v.round v refl n h k
  takes_fine links p (body.Install members) v n b d h k = on_install_fine R S B c me p.from p.from_boot p.epoch members v h k
  takes_fine links p body.Joined v n b d h k = on_joined_fine R S B c me p.from p.epoch v h k
  takes_fine links p _ v n b d h k = framed_fine R S B c me p v.epoch v refl b d h k

  pub step_fine : (links : Links) (v : SiteView) (e : Event) → EventFact R S v e → HasBegun B v → Orderly v → Heard R S c me v → Fine R S B c me v (step c me links v e)
  step_fine links v (Calls process words) b d h k = whole_fine links v (takes_call c me process words v) quiet
      (part_fine R S B c me v (takes_call c me process words v) h (record { reports = k.reports; instances = on_call_holds (In S v.epoch) (call_frame c me v.boot v.epoch) (epoch_id v.epoch) process words v.users k.instances }) refl refl refl refl refl (on_call_answerless (call_frame c me v.boot v.epoch) (epoch_id v.epoch) process words v.users))
      (quiet_fine R S B c me)
  step_fine links v (Receives p) b d h k =
      (elim (is_dropped p v) as (λ t. is_dropped p v ≡ t → Fine R S B c me v (elim t [ true ↦ quiet v | false ↦ whole c me links (takes c me links p p.body v) (tries_at c me p.body) ])) [
        | true ↦ λ e. quiet_fine R S B c me v h k
        | false ↦ λ e. whole_fine links v (takes c me links p p.body v) (tries_at c me p.body) (takes_fine links p p.body v b.0 (b.1 e) d h k) (tries_fine R S B c me p.body)
      ]) refl
  step_fine links v Ticks b d h k = ticks_fine links v (adopts_in c me v) (adopts_begun B c me v d) (adopts_of_fine R S B c me v.epoch v h k)
  step_fine links v Parts b d h k = whole_fine links v (starts_part me links v) quiet (part_of_fine R S B c me links v.epoch v h k) (quiet_fine R S B c me)
  step_fine links v Merges b d h k = whole_fine links v (starts_merge me links v) quiet (merge_fine R S B c me links v h k) (quiet_fine R S B c me)
  step_fine links v GivesUp b d h k = whole_fine links v (leaves me v) quiet (leaving_fine R S B c me v h k) (quiet_fine R S B c me)
