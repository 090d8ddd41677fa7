-- What an event of a site tells and sends, by the event.
use Rattle.std.proofs.Common.{◌≡◌, ℕ, true, false, ◌++◌, Option, Some, None, refl, sym, subst, inl, inr}
use Rattle.locus_ids.specs.declared.sites.Links.{Links}
use Rattle.locus_ids.specs.declared.sites.Members.{Members}
use Rattle.locus_ids.specs.declared.config.Config.{Config}
use Rattle.trace_book.specs.declared.call.Call.{Call}
use Rattle.wire_messages.specs.declared.packet.Packet.{Packet}
use Rattle.wire_messages.specs.declared.body.Body.{Body}
use Rattle.wire_messages.specs.declared.body.Body.TheVariants as body
use Rattle.role_steps.specs.Own.{Every}
use Rattle.role_steps.specs.Views.{SiteView, Outcome, Event, Calls, Receives, Ticks, Parts, Merges, GivesUp, quiet}
use Rattle.role_steps.specs.Epochs.{frame_in, leaves, starts_merge, starts_part, passes_over, poll_repeats, install_packet, install_repeats}
use Rattle.role_steps.specs.declared.rounds.InEpoch.{InEpoch}
use Rattle.role_steps.specs.declared.rounds.Round.{Round}
use Rattle.role_steps.proofs.Sending.{every_append, every_map}
use Rattle.site_laws.specs.of_the_run.Steps.{in_order, is_dropped, takes_framed, takes, tries_at, adopts_in, starts_mends_of, ends_event, whole, repeats_inside, repeats_of, repeats, call_frame, epoch_id, takes_call, step}
use Rattle.site_laws.proofs.of_the_run.Boots.{every_weaker}
use Rattle.site_laws.proofs.of_the_run.StepSends.{order_sent}
use Rattle.site_laws.specs.of_run_laws.Naming.{Deeds, ViewOk}
use Rattle.row_laws.specs.Inward.{RoleTold, LooksInward, Indoors}
use Rattle.row_laws.specs.Events.{IsPoll, HasRound, ListsItself, IsShort, Causes, SiteTold, FormingFact, FormingPacket, Comes, RoundFact, ListIsShort, ViewForms, Forms, causes_of}
use Rattle.row_laws.proofs.Walks.{no_first, on_call_rest, inside_inward, adopts_of_indoors, tries_indoors, mends_of_indoors, framed_indoors, quiet_indoors}
use Rattle.row_laws.proofs.Forming.{IsIn, role_told, inward_polls, indoors_forms, quiet_forms, then_forms, leaves_of_forms, round_polls, starts_merge_forms, starts_part_forms, on_poll_forms, on_promise_forms, on_refuse_forms, on_install_forms, on_joined_forms, passes_over_forms}

-- ---- a round finds the site in no epoch ----

none_is_in : (o : Option InEpoch) → o ≡ None → IsIn o → ⊥
none_is_in o e i = subst IsIn e i

some_round : (K : Deeds) (v : SiteView) (o : Option Round) → v.round ≡ o → ViewOk K v → HasRound o → v.epoch ≡ None
some_round K v None here h r = absurd r
some_round K v (Some x) here h r = (h.waits (h.round_is x here).1).0

-- ---- the end of an event ----

pub ends_forms : (me boot : ℕ) (k : Causes) (c : Config) (links : Links) (v : SiteView) → ((m : Members) → ListsItself me boot links m → IsShort m → k.join m) → v.boot ≡ boot → ViewForms me v → Forms me boot k (ends_event c me links v)
ends_forms me boot k c links v j here h =
    then_forms me boot k (passes_over c me links v) (λ now. starts_mends_of c me now.epoch now) (passes_over_forms me boot k c links v.round v j refl here h)
    (λ b f. let now : SiteView = (passes_over c me links v).view in indoors_forms me boot k now (starts_mends_of c me now.epoch now) (mends_of_indoors c me now.epoch now f.tables) b f)

whole_forms : (me boot : ℕ) (k : Causes) (c : Config) (links : Links) (o : Outcome SiteView) (tries : SiteView → Outcome SiteView) → ((m : Members) → ListsItself me boot links m → IsShort m → k.join m) → Forms me boot k o → ((u : SiteView) → Every LooksInward u.tables → Indoors u (tries u)) → Forms me boot k (whole c me links o tries)
whole_forms me boot k c links o tries j h t =
    let a : Outcome SiteView = tries o.view in
    let g : Forms me boot k a = indoors_forms me boot k o.view a (t o.view h.view.tables) h.boot_is h.view in
    let last : Outcome SiteView = ends_event c me links a.view in
    let e : Forms me boot k last = ends_forms me boot k c links a.view j g.boot_is g.view in
    record {
      boot_is = e.boot_is;
      view = e.view;
      told = every_append (SiteTold me k) a.told (o.told ++ last.told) g.told (every_append (SiteTold me k) o.told last.told h.told e.told);
      sent = every_append FormingPacket a.sent (in_order (o.sent ++ last.sent)) g.sent (order_sent FormingPacket (o.sent ++ last.sent) (every_append FormingPacket o.sent last.sent h.sent e.sent));
      written = no_first a.written _ g.written (no_first o.written last.written h.written e.written);
    }

-- ---- a tick ----

polls_again : (me : ℕ) (v : SiteView) (o : Option Round) → v.round ≡ o → ViewForms me v → Every FormingPacket (poll_repeats me v o)
polls_again me v None e h = tt
polls_again me v (Some r) e h = round_polls me v.boot r (subst (RoundFact me v.boot) e h.round)

repeats_form : (c : Config) (me : ℕ) (o : Option InEpoch) (v : SiteView) → ListIsShort o → ViewForms me v → Every FormingPacket (repeats_of c me o v)
repeats_form c me None v short h = order_sent FormingPacket (poll_repeats me v v.round) (polls_again me v v.round refl h)
repeats_form c me (Some e) v short h =
    every_append FormingPacket (in_order (poll_repeats me v v.round ++ install_repeats me v e)) (repeats_inside (frame_in c me v.boot e) e v)
    (order_sent FormingPacket (poll_repeats me v v.round ++ install_repeats me v e) (every_append FormingPacket (poll_repeats me v v.round) (install_repeats me v e) (polls_again me v v.round refl h) (every_map FormingPacket (install_packet me v.boot e.id e.members) v.installs (λ s. short))))
    (inward_polls _ (inside_inward (frame_in c me v.boot e) e v))

-- ---- a packet ----

takes_forms : (K : Deeds) (me : ℕ) (c : Config) (links : Links) (p : Packet) (x : Body) (v : SiteView) → p.body ≡ x → FormingFact p x → ViewOk K v → ViewForms me v → Forms me v.boot (causes_of me links v (Receives p)) (takes c me links p x v)
takes_forms K me c links p body.Poll v is comes ok h = on_poll_forms me v.boot (causes_of me links v (Receives p)) links p.from p.from_boot p.epoch v (subst IsPoll (sym is) tt) (inl (subst IsPoll (sym is) tt, refl)) refl h
takes_forms K me c links p (body.Promise reach) v is comes ok h = on_promise_forms me v.boot _ p.from p.from_boot p.epoch reach v.round v refl refl h
takes_forms K me c links p (body.Refuse promised) v is comes ok h = on_refuse_forms me v.boot (causes_of me links v (Receives p)) links p.epoch promised v.round v (λ r i. absurd (none_is_in v.epoch (some_round K v v.round refl ok r) i)) (λ r id own. inr (r, own)) refl refl h
takes_forms K me c links p (body.Install members) v is comes ok h = on_install_forms me v.boot (causes_of me links v (Receives p)) c p.from p.from_boot p.epoch members v (λ e. (λ high same. e, comes)) comes refl h
takes_forms K me c links p body.Joined v is comes ok h = on_joined_forms me v.boot _ p.from p.epoch v refl h
takes_forms K me c links p _ v is comes ok h = indoors_forms me v.boot _ v (takes_framed c me p v.epoch v) (framed_indoors c me p v.epoch v h.tables) refl h

-- ---- the step ----

call_forms : (c : Config) (me process : ℕ) (links : Links) (words : Call) (v : SiteView) → ViewForms me v → Forms me v.boot (causes_of me links v (Calls process words)) (takes_call c me process words v)
call_forms c me process links words v h =
    let k : Causes = causes_of me links v (Calls process words) in
    let rest : _ = on_call_rest (call_frame c me v.boot v.epoch) (epoch_id v.epoch) process words v.users in
    record {
      boot_is = refl;
      view = record { round = h.round; tables = h.tables; epoch = h.epoch };
      told = (inr (refl_of v.epoch, (refl, refl)), every_weaker RoleTold (SiteTold me k) _ (role_told me k) rest.1);
      sent = inward_polls _ rest.0;
      written = rest.2;
    }
  where
    refl_of : (e : Option InEpoch) → (call_frame c me v.boot e).me ≡ me
    refl_of None = refl
    refl_of (Some e) = refl

pub step_forms : (K : Deeds) (me : ℕ) (c : Config) (links : Links) (v : SiteView) (e : Event) → ViewOk K v → ViewForms me v → Comes e → Forms me v.boot (causes_of me links v e) (step c me links v e)
step_forms K me c links v (Calls process words) ok h comes = whole_forms me v.boot (causes_of me links v (Calls process words)) c links (takes_call c me process words v) quiet (λ m j short. (j, short)) (call_forms c me process links words v h) quiet_indoors
step_forms K me c links v (Receives p) ok h comes =
    elim (is_dropped p v) as (λ t. Forms me v.boot (causes_of me links v (Receives p)) (elim t [ true ↦ quiet v | false ↦ whole c me links (takes c me links p p.body v) (tries_at c me p.body) ])) [
      | true ↦ quiet_forms me v.boot (causes_of me links v (Receives p)) v refl h
      | false ↦ whole_forms me v.boot (causes_of me links v (Receives p)) c links (takes c me links p p.body v) (tries_at c me p.body) (λ m j short. (j, short)) (takes_forms K me c links p p.body v refl comes ok h) (tries_indoors c me p.body)
    ]
step_forms K me c links v Ticks ok h comes =
    let k : Causes = causes_of me links v Ticks in
    let a : Outcome SiteView = adopts_in c me v in
    let g : Forms me v.boot k a = indoors_forms me v.boot k v a (adopts_of_indoors c me v.epoch v h.tables) refl h in
    let last : Outcome SiteView = ends_event c me links a.view in
    let e : Forms me v.boot k last = ends_forms me v.boot k c links a.view (λ m j short. (j, short)) g.boot_is g.view in
    record {
      boot_is = e.boot_is;
      view = e.view;
      told = every_append (SiteTold me k) a.told last.told g.told e.told;
      sent = every_append FormingPacket a.sent (repeats c me a.view ++ in_order last.sent) g.sent (every_append FormingPacket (repeats c me a.view) (in_order last.sent) (repeats_form c me a.view.epoch a.view g.view.epoch g.view) (order_sent FormingPacket last.sent e.sent));
      written = no_first a.written last.written g.written e.written;
    }
step_forms K me c links v Parts ok h comes = whole_forms me v.boot (causes_of me links v Parts) c links (starts_part me links v) quiet (λ m j short. (j, short)) (starts_part_forms me v.boot (causes_of me links v Parts) links v (λ i. tt) (λ id own. own) refl h) quiet_indoors
step_forms K me c links v Merges ok h comes = whole_forms me v.boot (causes_of me links v Merges) c links (starts_merge me links v) quiet (λ m j short. (j, short)) (starts_merge_forms me v.boot (causes_of me links v Merges) links v (λ i. tt) (λ id own. own) refl h) quiet_indoors
step_forms K me c links v GivesUp ok h comes = whole_forms me v.boot (causes_of me links v GivesUp) c links (leaves me v) quiet (λ m j short. (j, short)) (leaves_of_forms me v.boot (causes_of me links v GivesUp) v.epoch v (λ i. tt) refl h) quiet_indoors
