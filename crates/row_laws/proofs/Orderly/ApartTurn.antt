-- What one event leaves of the facts on a site that starts, where a site that it doesn't ask has the event and a round of its own.
use Rattle.std.proofs.Common.{◌≡◌, ◌≢◌, ℕ, ◌⊎◌, false, Some, sym, ◌∙◌, ap, subst, inl, inr}
use Rattle.locus_ids.specs.declared.ids.EpochId.{EpochId}
use Rattle.locus_ids.specs.declared.sites.Links.{Links}
use Rattle.locus_ids.specs.declared.config.Config.{Config}
use Rattle.wire_messages.specs.declared.packet.Packet.{Packet}
use Rattle.wire_messages.specs.declared.body.Body.{Body}
use Rattle.wire_messages.specs.declared.body.Body.TheVariants as body
use Rattle.role_steps.specs.Own.{Every}
use Rattle.role_steps.specs.Views.{SiteView, Outcome, Event, Receives, boot_in}
use Rattle.role_steps.specs.declared.rounds.InEpoch.{InEpoch}
use Rattle.role_steps.specs.declared.rounds.Round.{Round}
use Rattle.the_run.specs.Steps.{step}
use Rattle.the_run.specs.Worlds.{World, Running, place_at, links_of}
use Rattle.the_run.proofs.Boots.{at_each, every_weaker}
use Rattle.run_laws.proofs.Run.{found_among}
use Rattle.row_laws.specs.Orderly.Effects.{IsAnswer}
use Rattle.row_laws.specs.Orderly.Settling.{IsPollBody, IsInstallBody, Carried, Holds, Covered, IsTrue, OpenBody, OpenFact, Undecided, Follows, DecidedBody, DecidedFact, Decided, RowState}
use Rattle.row_laws.specs.Orderly.Turn.{Turn}
use Rattle.row_laws.proofs.Orderly.Places.{view_eq}
use Rattle.row_laws.proofs.Orderly.Turns.{come, carried_on, under_now, open_later}

-- what such a site sends: installs of its own epochs, and promises of its own
abbrev pub ApartCase : ℕ → Packet → Body → Type 0
ApartCase s p (body.Promise reach) = (p.from ≡ s) × (p.from_boot ≢ 0)
ApartCase s p (body.Install members) = p.epoch.site ≡ s
ApartCase s p _ = Unit {0}

-- it sends so, and joins none but its own epochs
pub record ActsApart (s : ℕ) (o : Outcome SiteView) : Type 0 where
  pub sent : Every (λ (p : Packet). ApartCase s p p.body) o.sent
  pub joins : (f : InEpoch) → o.view.epoch ≡ Some f → f.id.site ≡ s

pub row_apart : (c : Config) (first w u : World) (s : ℕ) (v : SiteView) (e : Event) → Turn c first w u s v e → ActsApart s (step c s (links_of first s) v e) → (X : ℕ) (P : Links) → s ≢ X → boot_in P.boot s ≡ 0 →
    ((x : SiteView) (r : Round) → place_at w X ≡ Some (Running x) → x.round ≡ Some r → r.id.site ≡ X) → RowState first (place_at w) w.underway X P → RowState first (place_at u) u.underway X P
row_apart c first w u s v e t acts X P ne unasked own row = record { view = row.view; here = t.others X ne ∙ row.here; state = by_state row.state }
  where
    o : Outcome SiteView
    o = step c s (links_of first s) v e

    x : SiteView
    x = row.view

    other_of : (y : ℕ) → boot_in P.boot y ≢ 0 → s ≢ y
    other_of y some eq = some (sym (ap (boot_in P.boot) eq) ∙ unasked)

    holds : (y boot : ℕ) (id : EpochId) → s ≢ y → Holds (place_at w) y boot id → Holds (place_at u) y boot id
    holds y boot id other k = record { view = k.view; here = t.others y other ∙ k.here; boot_is = k.boot_is; promised = k.promised; waits = k.waits }

    carried : (id : EpochId) (from from_boot to to_boot : ℕ) (kind : Body → Type 0) → s ≢ to → Carried w.underway id from from_boot to to_boot kind → Carried u.underway id from from_boot to to_boot kind
    carried id from from_boot to to_boot kind other k = by_case (carried_on c first w u s v e t id from from_boot to to_boot kind k)
      where
        by_case : Carried u.underway id from from_boot to to_boot kind ⊎ (e ≡ Receives k.letter.packet) → Carried u.underway id from from_boot to to_boot kind
        by_case (inl m) = m
        by_case (inr is) = absurd (other (sym (come c first w u s v e k.letter.packet t is).to ∙ k.to_is))

    undecided : (r : Round) → Undecided first (place_at w) w.underway X P x r → Undecided first (place_at u) u.underway X P x r
    undecided r h = record {
      round = h.round;
      polled = h.polled;
      covered = λ y some. covers y some (h.covered y some);
      taken = every_weaker (IsTrue first (place_at w) P r.id) (IsTrue first (place_at u) P r.id) r.promises (λ p k. (k.0, holds p.site (boot_in P.boot p.site) r.id (other_of p.site k.0) k.1, k.2)) h.taken;
      ascend = h.ascend;
      packets = under_now c first w u s v e t (OpenFact first (place_at u) P r.id) (λ (p : Packet). p.epoch ≡ r.id → OpenBody first (place_at u) P r.id p p.body)
          (λ y a i. open_later first (place_at w) (place_at u) P r.id y.packet y.packet.body (λ z k. holds y.packet.from y.packet.from_boot r.id (other_of y.packet.from z) k) (found_among (OpenFact first (place_at w) P r.id) y w.underway h.packets a i))
          (λ y k. k)
          (every_weaker (λ (p : Packet). ApartCase s p p.body) (λ (p : Packet). p.epoch ≡ r.id → OpenBody first (place_at u) P r.id p p.body) o.sent (λ p k i. opened p p.body i k) acts.sent);
      nobody = λ y z f here inside i. at_each s y ⊥
          (λ eq. ne (sym (acts.joins f (subst (λ (q : SiteView). q.epoch ≡ Some f) (view_eq (place_at u s) z o.view (ap (place_at u) eq ∙ here) t.now) inside)) ∙ (ap (λ (j : EpochId). j.site) i ∙ mine)))
          (λ other. h.nobody y z f (sym (t.others y other) ∙ here) inside i);
    }
      where
        mine : r.id.site ≡ X
        mine = own x r row.here h.round

        covers : (y : ℕ) → boot_in P.boot y ≢ 0 → Covered w.underway X x.boot P r y → Covered u.underway X x.boot P r y
        covers y some (inl k) = inl k
        covers y some (inr (inl k)) = inr (inl (carried r.id X x.boot y (boot_in P.boot y) IsPollBody (other_of y some) k))
        covers y some (inr (inr k)) = inr (inr (carried r.id y (boot_in P.boot y) X x.boot IsAnswer ne k))

        opened : (p : Packet) (b : Body) → p.epoch ≡ r.id → ApartCase s p b → OpenBody first (place_at u) P r.id p b
        opened p (body.Promise reach) i k = (k.1, λ same. absurd (k.1 (sym same ∙ (ap (boot_in P.boot) k.0 ∙ unasked))))
        opened p (body.Install members) i k = ne (sym k ∙ (ap (λ (j : EpochId). j.site) i ∙ mine))
        opened p _ i k = tt

    decided : (d : InEpoch) → Decided first (place_at w) w.underway X P x d → Decided first (place_at u) u.underway X P x d
    decided d h = record {
      epoch = h.epoch;
      own = h.own;
      exactly = h.exactly;
      follows = λ y some. follows y (other_of y some) (h.follows y some);
      packets = under_now c first w u s v e t (DecidedFact d) (λ (p : Packet). p.epoch ≡ d.id → DecidedBody d p.body) (λ y a. found_among (DecidedFact d) y w.underway h.packets a) (λ y k. k)
          (every_weaker (λ (p : Packet). ApartCase s p p.body) (λ (p : Packet). p.epoch ≡ d.id → DecidedBody d p.body) o.sent (λ p k i. sent p p.body i k) acts.sent);
      alike = λ y z f here inside i. at_each s y (f ≡ d)
          (λ eq. absurd (ne (sym (acts.joins f (subst (λ (q : SiteView). q.epoch ≡ Some f) (view_eq (place_at u s) z o.view (ap (place_at u) eq ∙ here) t.now) inside)) ∙ (ap (λ (j : EpochId). j.site) i ∙ h.own))))
          (λ other. h.alike y z f (sym (t.others y other) ∙ here) inside i);
    }
      where
        sent : (p : Packet) (b : Body) → p.epoch ≡ d.id → ApartCase s p b → DecidedBody d b
        sent p (body.Install members) i k = absurd (ne (sym k ∙ (ap (λ (j : EpochId). j.site) i ∙ h.own)))
        sent p _ i k = tt

        follows : (y : ℕ) → s ≢ y → Follows (place_at w) w.underway X x.boot P d y → Follows (place_at u) u.underway X x.boot P d y
        follows y other f = record { view = f.view; here = t.others y other ∙ f.here; boot_is = f.boot_is; promised = f.promised; state = by_member f.state }
          where
            by_member : ((boot_in d.members.boot y ≡ boot_in P.boot y) × (f.view.epoch ≡ Some d)) ⊎ ((f.view.installed ≡ false) × (boot_in d.members.boot y ≢ 0 → (boot_in d.members.boot y ≡ boot_in P.boot y) × Carried w.underway d.id X x.boot y (boot_in P.boot y) IsInstallBody)) →
                ((boot_in d.members.boot y ≡ boot_in P.boot y) × (f.view.epoch ≡ Some d)) ⊎ ((f.view.installed ≡ false) × (boot_in d.members.boot y ≢ 0 → (boot_in d.members.boot y ≡ boot_in P.boot y) × Carried u.underway d.id X x.boot y (boot_in P.boot y) IsInstallBody))
            by_member (inl g) = inl g
            by_member (inr g) = inr (g.0, λ m. ((g.1 m).0, carried d.id X x.boot y (boot_in P.boot y) IsInstallBody other (g.1 m).1))

    by_state : ((r : Round) × Undecided first (place_at w) w.underway X P x r) ⊎ ((d : InEpoch) × Decided first (place_at w) w.underway X P x d) → ((r : Round) × Undecided first (place_at u) u.underway X P x r) ⊎ ((d : InEpoch) × Decided first (place_at u) u.underway X P x d)
    by_state (inl k) = inl (k.0, undecided k.0 k.1)
    by_state (inr k) = inr (k.0, decided k.0 k.1)
