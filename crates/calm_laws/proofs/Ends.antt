-- What an event of a member does after its handler: an adoption, and mends that start, leave all that carries requests.
use Rattle.std.proofs.Common.{◌≡◌, ℕ, Bool, true, false, List, ◌++◌, Option, Some, None, refl, sym, ◌∙◌, ap, subst}
use Rattle.role_steps.proofs.of_plain_facts.Options.{none_some, some_same}
use Rattle.role_steps.proofs.of_plain_facts.Tests.{true_false}
use Rattle.locus_ids.specs.declared.config.Config.{Config}
use Rattle.locus_ids.specs.declared.sites.Links.{Links}
use Rattle.wire_messages.specs.declared.body.Body.{Body}
use Rattle.wire_messages.specs.declared.body.Body.TheVariants as body
use Rattle.wire_messages.specs.declared.packet.Packet.{Packet}
use Rattle.role_steps.specs.Epochs.{frame_in, passes_over_of}
use Rattle.role_steps.specs.Views.{Frame, SiteView, Outcome, Receives, quiet, and_then, joined_to, boot_in}
use Rattle.role_steps.specs.declared.rounds.InEpoch.{InEpoch}
use Rattle.role_steps.specs.declared.rounds.Round.{Round}
use Rattle.role_steps.specs.declared.users.WaitingCall.{WaitingCall}
use Rattle.the_run.specs.Kept.{Among}
use Rattle.the_run.specs.Steps.{in_order, is_dropped, takes, takes_framed, takes_inside, tries_at, starts_mends_of, ends_event, whole, step}
use Rattle.run_laws.specs.Epochs.Forming.{FormsNone}
use Rattle.row_laws.proofs.Orderly.Formed.{among_left, among_right, order_has}
use Rattle.calm_laws.specs.Carrying.{frame_of}
use Rattle.calm_laws.proofs.Calls.{CallsAsk, OnlyCalls, mends_calls, calls_wider}
use Rattle.calm_laws.proofs.Keeping.{KeepsRoles, all_itself, roles_then}

some_none : (r : Round) → ◌≡◌ {A = Option Round} (Some r) None → ⊥
some_none r e = cc

-- ---- mends that start ----

-- the end of an event of a site in its epoch, without a round
pub ends_calls : (c : Config) (me : ℕ) (links : Links) (v : SiteView) (e : InEpoch) → v.round ≡ None → v.epoch ≡ Some e → OnlyCalls (frame_in c me v.boot e) v (ends_event c me links v)
ends_calls c me links v e none inside = by_round v.round none
  where
    by_epoch : (o : Option InEpoch) → o ≡ Some e → OnlyCalls (frame_in c me v.boot e) v (joined_to (quiet v) (starts_mends_of c me o v))
    by_epoch None h = absurd (none_some e h)
    by_epoch (Some d) h =
        let k : OnlyCalls (frame_in c me v.boot d) v (starts_mends_of c me (Some d) v) = mends_calls (frame_in c me v.boot d) v in
        subst (λ (i : InEpoch). OnlyCalls (frame_in c me v.boot i) v (joined_to (quiet v) (starts_mends_of c me (Some d) v))) (some_same d e h) (record { same = k.same; calls = k.calls })

    by_round : (r : Option Round) → r ≡ None → OnlyCalls (frame_in c me v.boot e) v (and_then (passes_over_of c me links r v) (λ now. starts_mends_of c me now.epoch now))
    by_round None h = by_epoch v.epoch inside
    by_round (Some r) h = absurd (some_none r h)

only_keeps : (f : Frame) (v : SiteView) (o : Outcome SiteView) → OnlyCalls f v o → KeepsRoles v o.view
only_keeps f v o h = subst (λ (u : SiteView). KeepsRoles v u) (sym h.same) (record { tables = all_itself v.tables; instances = refl })

-- ---- a whole event after its handler ----

-- from the view that the handler leaves: all that carries requests stays, new calls ask, and what the handler sends is sent
pub record After (f : Frame) (mid : SiteView) (sent : List Packet) (o : Outcome SiteView) : Type 0 where
  pub keeps : KeepsRoles mid o.view
  pub calls : CallsAsk f mid.users.waiting o.view.users.waiting o.sent
  pub sends : (q : Packet) → Among q sent → Among q o.sent

pub whole_after : (c : Config) (me : ℕ) (links : Links) (o : Outcome SiteView) (tries : SiteView → Outcome SiteView) (e : InEpoch) → (tries o.view).view.round ≡ None → (tries o.view).view.epoch ≡ Some e → KeepsRoles o.view (tries o.view).view → (tries o.view).view.users ≡ o.view.users →
    After (frame_in c me (tries o.view).view.boot e) o.view o.sent (whole c me links o tries)
whole_after c me links o tries e none inside keeps users = record {
  keeps = roles_then o.view a.view last.view keeps (only_keeps f a.view last k);
  calls = calls_wider f o.view.users.waiting last.view.users.waiting last.sent (whole c me links o tries).sent
      (λ q m. among_right q a.sent (in_order (o.sent ++ last.sent)) (order_has q (o.sent ++ last.sent) (among_right q o.sent last.sent m)))
      (subst (λ (xs : List WaitingCall). CallsAsk f xs last.view.users.waiting last.sent) (ap (λ (u : _). u.waiting) users) k.calls);
  sends = λ q m. among_right q a.sent (in_order (o.sent ++ last.sent)) (order_has q (o.sent ++ last.sent) (among_left q o.sent last.sent m));
}
  where
    a : Outcome SiteView
    a = tries o.view

    last : Outcome SiteView
    last = ends_event c me links a.view

    f : Frame
    f = frame_in c me a.view.boot e

    k : OnlyCalls f a.view last
    k = ends_calls c me links a.view e none inside

-- ---- the handler of a packet of the epoch ----

takes_as : (c : Config) (me : ℕ) (links : Links) (p : Packet) (b : Body) (v : SiteView) → FormsNone b → takes c me links p b v ≡ takes_framed c me p v.epoch v
takes_as c me links p body.Poll v h = absurd h
takes_as c me links p (body.Promise reach) v h = absurd h
takes_as c me links p (body.Refuse theirs) v h = absurd h
takes_as c me links p (body.Install members) v h = absurd h
takes_as c me links p body.Joined v h = absurd h
takes_as c me links p _ v h = refl

-- what a member does with a packet that it takes
abbrev pub handles : Config → InEpoch → ℕ → Packet → SiteView → Outcome SiteView
handles c e m p v = takes_inside (frame_of c e m) p.from p.body v

pub takes_is : (c : Config) (e : InEpoch) (m : ℕ) (links : Links) (p : Packet) (v : SiteView) → FormsNone p.body → v.epoch ≡ Some e → v.boot ≡ boot_in e.members.boot m → takes c m links p p.body v ≡ handles c e m p v
takes_is c e m links p v forms inside boot = takes_as c m links p p.body v forms ∙ (ap (λ (o : Option InEpoch). takes_framed c m p o v) inside ∙ ap (λ (b : ℕ). takes_inside (frame_in c m b e) p.from p.body v) boot)

pub step_is : (c : Config) (e : InEpoch) (m : ℕ) (links : Links) (p : Packet) (v : SiteView) → FormsNone p.body → v.epoch ≡ Some e → v.boot ≡ boot_in e.members.boot m → is_dropped p v ≡ false → step c m links v (Receives p) ≡ whole c m links (handles c e m p v) (tries_at c m p.body)
step_is c e m links p v forms inside boot taken = by_test (is_dropped p v) taken ∙ ap (λ (o : Outcome SiteView). whole c m links o (tries_at c m p.body)) (takes_is c e m links p v forms inside boot)
  where
    by_test : (b : Bool) → b ≡ false → ◌≡◌ {A = Outcome SiteView} (elim b [ true ↦ quiet v | false ↦ whole c m links (takes c m links p p.body v) (tries_at c m p.body) ]) (whole c m links (takes c m links p p.body v) (tries_at c m p.body))
    by_test true h = absurd (true_false h)
    by_test false h = refl
