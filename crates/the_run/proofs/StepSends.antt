-- A step of a site keeps its boot number, and what it sends is its own.
use Rattle.std.proofs.Common.{◌≡◌, ℕ, true, false, ◌++◌, Option, Some, None, refl, ◌∙◌}
use Rattle.locus_ids.specs.declared.sites.Links.{Links}
use Rattle.locus_ids.specs.declared.config.Config.{Config}
use Rattle.role_steps.specs.of_wire_messages.declared.packet.Packet.{Packet}
use Rattle.role_steps.specs.of_wire_messages.declared.body.Body.{Body}
use Rattle.role_steps.specs.of_wire_messages.declared.body.Body.TheVariants as body
use Rattle.role_steps.specs.Views.{SiteView, Outcome, Event, Calls, Receives, Ticks, Parts, Merges, GivesUp, quiet}
use Rattle.role_steps.specs.Epochs.{frame_in, leaves, starts_merge, starts_part, passes_over, poll_repeats, install_repeats}
use Rattle.role_steps.specs.declared.rounds.InEpoch.{InEpoch}
use Rattle.role_steps.specs.Own.{Every, IsOwn, Sends}
use Rattle.role_steps.proofs.Sending.{OfFrame, every_append}
use Rattle.role_steps.proofs.SiteSends.{frame_own, and_then_sends, quiet_sends, leaves_sends, starts_merge_sends, starts_part_sends, on_poll_sends, on_promise_of_sends, on_refuse_of_sends, on_install_sends, on_joined_sends, passes_over_sends, poll_repeats_sent, install_repeats_sent}
use Rattle.the_run.specs.Steps.{in_order, is_dropped, takes_framed, takes, adopts_of, tries_at, adopts_in, starts_mends_of, ends_event, whole, repeats_inside, repeats_of, repeats, ticks_after, call_frame, epoch_id, takes_call, step}
use Rattle.the_run.specs.KindLaws.{Law, frame_law, SiteKeeps, SiteAnswers, Stays}
use Rattle.the_run.proofs.Premises.{every_unit, frame_keeps, frame_answers, frame_users}
use Rattle.the_run.proofs.RoleWalks.{on_call_walk}
use Rattle.the_run.proofs.SiteWalks.{adopts_of_walk, tries_walk, mends_of_walk, framed_walk, repeats_inside_walk}
pub use Rattle.the_run.proofs.Rows.{order_sent}

-- ---- the law by kinds: what is sent is of this boot of this site ----

abbrev own_law : ℕ → ℕ → Law
own_law me boot = frame_law (IsOwn me boot) (λ t. Unit {0}) (λ w. Unit {0})

own_keeps : (c : Config) (me boot : ℕ) (v : SiteView) → v.boot ≡ boot → (e : InEpoch) → SiteKeeps (own_law me boot) (frame_in c me v.boot e)
own_keeps c me boot v b e = frame_keeps (IsOwn me boot) (λ t. Unit {0}) (λ w. Unit {0}) (frame_in c me v.boot e) (frame_own c me boot v e b) (λ t k. tt) (λ r k. tt) tt (λ d k. tt)

own_answers : (c : Config) (me boot : ℕ) (v : SiteView) → v.boot ≡ boot → (from : ℕ) (e : InEpoch) → SiteAnswers (own_law me boot) (frame_in c me v.boot e) from
own_answers c me boot v b from e = frame_answers (IsOwn me boot) (λ t. Unit {0}) (λ w. Unit {0}) (frame_in c me v.boot e) (frame_own c me boot v e b) from

stays_sends : (me boot : ℕ) (v : SiteView) (o : Outcome SiteView) → v.boot ≡ boot → Stays (own_law me boot) v o → Sends me boot o
stays_sends me boot v o b h = record { view = h.leaves.boot ∙ b; sent = h.part.0 }

-- ---- packets ----

takes_framed_sends : (c : Config) (me boot : ℕ) (p : Packet) (e : Option InEpoch) (v : SiteView) → v.boot ≡ boot → Sends me boot (takes_framed c me p e v)
takes_framed_sends c me boot p e v b = stays_sends me boot v (takes_framed c me p e v) b (framed_walk (own_law me boot) c me p e v tt (λ x is. own_keeps c me boot v b x) (λ x is. own_answers c me boot v b p.from x) (every_unit v.tables))

takes_sends : (c : Config) (me boot : ℕ) (links : Links) (p : Packet) (x : Body) (v : SiteView) → v.boot ≡ boot → Sends me boot (takes c me links p x v)
takes_sends c me boot links p body.Poll v b = on_poll_sends me boot links p.from p.from_boot p.epoch v b
takes_sends c me boot links p (body.Promise reach) v b = on_promise_of_sends me boot p.from p.from_boot p.epoch reach v.round v b
takes_sends c me boot links p (body.Refuse promised) v b = on_refuse_of_sends me boot links p.epoch promised v.round v b
takes_sends c me boot links p (body.Install members) v b = on_install_sends c me boot p.from p.from_boot p.epoch members v b
takes_sends c me boot links p body.Joined v b = on_joined_sends me boot p.from p.epoch v b
takes_sends c me boot links p _ v b = takes_framed_sends c me boot p v.epoch v b

-- ---- the end of an event ----

adopts_of_sends : (c : Config) (me boot : ℕ) (e : Option InEpoch) (v : SiteView) → v.boot ≡ boot → Sends me boot (adopts_of c me e v)
adopts_of_sends c me boot e v b = stays_sends me boot v (adopts_of c me e v) b (adopts_of_walk (own_law me boot) c me e v tt (λ x is. own_keeps c me boot v b x) (every_unit v.tables))

tries_sends : (c : Config) (me boot : ℕ) (x : Body) (v : SiteView) → v.boot ≡ boot → Sends me boot (tries_at c me x v)
tries_sends c me boot x v b = stays_sends me boot v (tries_at c me x v) b (tries_walk (own_law me boot) c me x v tt (λ e is. own_keeps c me boot v b e) (every_unit v.tables))

mends_of_sends : (c : Config) (me boot : ℕ) (e : Option InEpoch) (v : SiteView) → v.boot ≡ boot → Sends me boot (starts_mends_of c me e v)
mends_of_sends c me boot e v b = stays_sends me boot v (starts_mends_of c me e v) b (mends_of_walk (own_law me boot) c me e v tt (λ x is. own_keeps c me boot v b x) (every_unit v.tables))

ends_sends : (c : Config) (me boot : ℕ) (links : Links) (v : SiteView) → v.boot ≡ boot → Sends me boot (ends_event c me links v)
ends_sends c me boot links v b = and_then_sends me boot (passes_over c me links v) (λ now. starts_mends_of c me now.epoch now) (passes_over_sends c me boot links v b) (λ now e. mends_of_sends c me boot now.epoch now e)

whole_sends : (c : Config) (me boot : ℕ) (links : Links) (o : Outcome SiteView) (tries : SiteView → Outcome SiteView) → Sends me boot o → ((v : SiteView) → v.boot ≡ boot → Sends me boot (tries v)) → Sends me boot (whole c me links o tries)
whole_sends c me boot links o tries h t =
    let a : Sends me boot (tries o.view) = t o.view h.view in
    let l : Sends me boot (ends_event c me links (tries o.view).view) = ends_sends c me boot links (tries o.view).view a.view in
    record {
      view = l.view;
      sent = every_append (IsOwn me boot) (tries o.view).sent (in_order (o.sent ++ (ends_event c me links (tries o.view).view).sent)) a.sent
          (order_sent (IsOwn me boot) (o.sent ++ (ends_event c me links (tries o.view).view).sent) (every_append (IsOwn me boot) o.sent (ends_event c me links (tries o.view).view).sent h.sent l.sent));
    }

-- ---- a tick ----

repeats_sent : (c : Config) (me boot : ℕ) (e : Option InEpoch) (v : SiteView) → v.boot ≡ boot → Every (IsOwn me boot) (repeats_of c me e v)
repeats_sent c me boot None v b = order_sent (IsOwn me boot) (poll_repeats me v v.round) (poll_repeats_sent me boot v v.round b)
repeats_sent c me boot (Some e) v b =
    every_append (IsOwn me boot) (in_order (poll_repeats me v v.round ++ install_repeats me v e)) (repeats_inside (frame_in c me v.boot e) e v)
    (order_sent (IsOwn me boot) (poll_repeats me v v.round ++ install_repeats me v e) (every_append (IsOwn me boot) (poll_repeats me v v.round) (install_repeats me v e) (poll_repeats_sent me boot v v.round b) (install_repeats_sent me boot v e b)))
    (repeats_inside_walk (own_law me boot) (frame_in c me v.boot e) (own_keeps c me boot v b e) e v)

ticks_sends : (c : Config) (me boot : ℕ) (links : Links) (a : Outcome SiteView) → Sends me boot a → Sends me boot (ticks_after c me links a)
ticks_sends c me boot links a h =
    let l : Sends me boot (ends_event c me links a.view) = ends_sends c me boot links a.view h.view in
    record {
      view = l.view;
      sent = every_append (IsOwn me boot) a.sent (repeats c me a.view ++ in_order (ends_event c me links a.view).sent) h.sent
          (every_append (IsOwn me boot) (repeats c me a.view) (in_order (ends_event c me links a.view).sent) (repeats_sent c me boot a.view.epoch a.view h.view)
          (order_sent (IsOwn me boot) (ends_event c me links a.view).sent l.sent));
    }

-- ---- the step ----

call_own : (c : Config) (me boot : ℕ) (v : SiteView) (e : Option InEpoch) → v.boot ≡ boot → OfFrame (IsOwn me boot) (call_frame c me v.boot e)
call_own c me boot v None b = λ to x. record { site = refl; number = b }
call_own c me boot v (Some e) b = frame_own c me boot v e b

pub step_sends : (c : Config) (me boot : ℕ) (links : Links) (v : SiteView) (e : Event) → v.boot ≡ boot → Sends me boot (step c me links v e)
step_sends c me boot links v (Calls process words) b =
    whole_sends c me boot links (takes_call c me process words v) quiet (record { view = b; sent = (on_call_walk (own_law me boot) (call_frame c me v.boot v.epoch) (frame_users (IsOwn me boot) (λ t. Unit {0}) (λ w. Unit {0}) (call_frame c me v.boot v.epoch) (call_own c me boot v v.epoch b) (λ t k. tt) tt) (epoch_id v.epoch) process words v.users (λ n. tt)).0 }) (λ u e. quiet_sends me boot u e)
step_sends c me boot links v (Receives p) b =
    elim (is_dropped p v) as (λ t. Sends me boot (elim t [ true ↦ quiet v | false ↦ whole c me links (takes c me links p p.body v) (tries_at c me p.body) ])) [
      | true ↦ quiet_sends me boot v b
      | false ↦ whole_sends c me boot links (takes c me links p p.body v) (tries_at c me p.body) (takes_sends c me boot links p p.body v b) (λ u e. tries_sends c me boot p.body u e)
    ]
step_sends c me boot links v Ticks b = ticks_sends c me boot links (adopts_in c me v) (adopts_of_sends c me boot v.epoch v b)
step_sends c me boot links v Parts b = whole_sends c me boot links (starts_part me links v) quiet (starts_part_sends me boot links v b) (λ u e. quiet_sends me boot u e)
step_sends c me boot links v Merges b = whole_sends c me boot links (starts_merge me links v) quiet (starts_merge_sends me boot links v b) (λ u e. quiet_sends me boot u e)
step_sends c me boot links v GivesUp b = whole_sends c me boot links (leaves me v) quiet (leaves_sends me boot v b) (λ u e. quiet_sends me boot u e)
