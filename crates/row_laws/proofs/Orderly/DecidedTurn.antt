-- A site that has decided stays so in its own events.
use Rattle.std.proofs.Common.{◌≡◌, ◌≢◌, ℕ, ◌⊎◌, true, false, Some, sym, ◌∙◌, ap, subst, inl, inr}
use Rattle.locus_ids.specs.declared.sites.Links.{Links}
use Rattle.locus_ids.specs.declared.config.Config.{Config}
use Rattle.wire_messages.specs.declared.packet.Packet.{Packet}
use Rattle.wire_messages.specs.declared.body.Body.{Body}
use Rattle.wire_messages.specs.declared.body.Body.TheVariants as body
use Rattle.role_steps.specs.Views.{SiteView, Outcome, Event, Receives, boot_in}
use Rattle.role_steps.specs.Epochs.{is_epoch_below}
use Rattle.role_steps.specs.declared.rounds.InEpoch.{InEpoch}
use Rattle.the_run.specs.Steps.{step}
use Rattle.the_run.specs.Worlds.{World, place_at, links_of}
use Rattle.the_run.proofs.Boots.{at_each, every_weaker}
use Rattle.run_laws.proofs.Run.{found_among}
use Rattle.run_laws.specs.Epochs.Known.{Good}
use Rattle.row_laws.specs.Orderly.Effects.{Promised, Change, SentCase, Sent, Roundless}
use Rattle.row_laws.specs.Orderly.Quiet.{IsDead, OnPoll}
use Rattle.row_laws.specs.Orderly.Settling.{Starts, AreApart, IsInstallBody, Carried, Follows, DecidedBody, DecidedFact, Decided, IsLive, PollOk, Settling}
use Rattle.row_laws.specs.Orderly.Turn.{Comes, Turn}
use Rattle.row_laws.proofs.Orderly.Places.{view_eq}
use Rattle.row_laws.proofs.Orderly.Turns.{greater_not, come, not_left, carried_on, under_now}

-- a site that has decided stays so in its own events
pub decided_own : (c : Config) (first w u : World) (R : Starts) (s : ℕ) (v : SiteView) (e : Event) → AreApart first R → Settling first R w → Good w → Turn c first w u s v e → Roundless s (links_of first s) v e (step c s (links_of first s) v e) →
    (P : Links) (d : InEpoch) → R s P → Decided first (place_at w) w.underway s P v d → Decided first (place_at u) u.underway s P (step c s (links_of first s) v e).view d
decided_own c first w u R s v e apart st good t rl P d start h = by_change rl.change
  where
    o : Outcome SiteView
    o = step c s (links_of first s) v e

    true_not : true ≡ false → ⊥
    true_not q = cc

    promised_here : Promised v e o.view → ⊥
    promised_here p = by_poll (subst (OnPoll (IsDead (place_at w) k.letter.packet ⊎ IsLive first R k.letter.packet)) (ap (λ (q : Packet). q.body) k.is ∙ p.is_poll) (found_among (PollOk first R (place_at w)) k.letter w.underway st.underway k.there))
      where
        k : Comes w s v p.poll
        k = come c first w u s v e p.poll t p.comes

        by_poll : IsDead (place_at w) k.letter.packet ⊎ IsLive first R k.letter.packet → ⊥
        by_poll (inl x) = greater_not v.promised k.letter.packet.epoch (x v (ap (place_at w) (ap (λ (q : Packet). q.to) k.is ∙ k.to) ∙ t.here) (sym (ap (λ (q : Packet). q.to_boot) k.is ∙ p.to_boot))) (ap (λ (q : Packet). is_epoch_below v.promised q.epoch) k.is ∙ p.greater)
        by_poll (inr l) = l.some (sym l.asked ∙ (ap (boot_in l.polled.boot) (ap (λ (q : Packet). q.to) k.is ∙ k.to) ∙ apart.others s P k.letter.packet.epoch.site l.polled start l.starts))

    by_change : Change s v e o.view → Decided first (place_at u) u.underway s P o.view d
    by_change (inr (inl k)) = absurd (not_left c first w u s v e t k.comes)
    by_change (inr (inr (inl k))) = absurd (promised_here k)
    by_change (inr (inr (inr k))) = absurd (true_not (sym ((good.views s v t.here).inside d h.epoch).1 ∙ k.waits))
    by_change (inl k) = record {
      epoch = k.epoch ∙ h.epoch;
      own = h.own;
      exactly = h.exactly;
      follows = λ y some. others y (λ eq. some (sym (ap (boot_in P.boot) eq) ∙ apart.others s P s P start start)) (h.follows y some);
      packets = under_now c first w u s v e t (DecidedFact d) (λ (q : Packet). q.epoch ≡ d.id → DecidedBody d q.body) (λ y a. found_among (DecidedFact d) y w.underway h.packets a) (λ y g. g)
          (every_weaker (Sent s (links_of first s) v e o.view) (λ (q : Packet). q.epoch ≡ d.id → DecidedBody d q.body) o.sent (λ q g i. sent q q.body i g) rl.sent);
      alike = λ y z f here inside i. at_each s y (f ≡ d)
          (λ eq. h.alike s v f t.here (sym k.epoch ∙ subst (λ (q : SiteView). q.epoch ≡ Some f) (view_eq (place_at u s) z o.view (ap (place_at u) eq ∙ here) t.now) inside) i)
          (λ other. h.alike y z f (sym (t.others y other) ∙ here) inside i);
    }
      where
        sent : (q : Packet) (b : Body) → q.epoch ≡ d.id → SentCase s (links_of first s) v e o.view q b → DecidedBody d b
        sent q (body.Install members) i g = g.same ∙ ap (λ (f : InEpoch). f.members) (h.alike s v g.epoch t.here g.inside (sym g.id ∙ i))
        sent q _ i g = tt

        others : (y : ℕ) → s ≢ y → Follows (place_at w) w.underway s v.boot P d y → Follows (place_at u) u.underway s o.view.boot P d y
        others y other f = record { view = f.view; here = t.others y other ∙ f.here; boot_is = f.boot_is; promised = f.promised; state = by_state f.state }
          where
            goes : Carried w.underway d.id s v.boot y (boot_in P.boot y) IsInstallBody → Carried u.underway d.id s o.view.boot y (boot_in P.boot y) IsInstallBody
            goes m = subst (λ (b : ℕ). Carried u.underway d.id s b y (boot_in P.boot y) IsInstallBody) (sym k.boot) (by_case (carried_on c first w u s v e t d.id s v.boot y (boot_in P.boot y) IsInstallBody m))
              where
                by_case : Carried u.underway d.id s v.boot y (boot_in P.boot y) IsInstallBody ⊎ (e ≡ Receives m.letter.packet) → Carried u.underway d.id s v.boot y (boot_in P.boot y) IsInstallBody
                by_case (inl g) = g
                by_case (inr is) = absurd (other (sym (come c first w u s v e m.letter.packet t is).to ∙ m.to_is))

            by_state : ((boot_in d.members.boot y ≡ boot_in P.boot y) × (f.view.epoch ≡ Some d)) ⊎ ((f.view.installed ≡ false) × (boot_in d.members.boot y ≢ 0 → (boot_in d.members.boot y ≡ boot_in P.boot y) × Carried w.underway d.id s v.boot y (boot_in P.boot y) IsInstallBody)) →
                ((boot_in d.members.boot y ≡ boot_in P.boot y) × (f.view.epoch ≡ Some d)) ⊎ ((f.view.installed ≡ false) × (boot_in d.members.boot y ≢ 0 → (boot_in d.members.boot y ≡ boot_in P.boot y) × Carried u.underway d.id s o.view.boot y (boot_in P.boot y) IsInstallBody))
            by_state (inl g) = inl g
            by_state (inr g) = inr (g.0, λ m. ((g.1 m).0, goes (g.1 m).1))
