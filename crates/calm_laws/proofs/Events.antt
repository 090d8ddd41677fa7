-- What an event of a site leaves of the world, where no limit is passed by it.
use Rattle.std.proofs.Common.{◌≡◌, ◌≢◌, ℕ, ◌+◌, ◌⊎◌, true, false, List, [], Option, Some, None, refl, sym, ◌∙◌, ap, subst, inl, inr}
use Rattle.locus_ids.specs.declared.config.Config.{Config}
use Rattle.wire_messages.specs.declared.packet.Packet.{Packet}
use Rattle.role_steps.specs.Views.{SiteView, Outcome, Receives}
use Rattle.the_run.specs.Disks.{Disk, cut_disk}
use Rattle.the_run.specs.Kept.{Among}
use Rattle.the_run.specs.Steps.{is_dropped, step}
use Rattle.the_run.specs.Worlds.{World, Limit, Place, Running, Stopped, Numbered, place_at, links_of, numbered_from, told_onto, puts, arms, passed, stops_with, cut_told, runs_on, acts, happens, happens_at}
use Rattle.the_run.specs.Runs.{arrives_at, arrives}
use Rattle.the_run.proofs.Boots.{acts_cases, at_each}
use Rattle.the_run.proofs.Events.{puts_other, puts_same}
use Rattle.row_laws.specs.Orderly.Numbers.{NumbersAscend}
use Rattle.row_laws.proofs.Orderly.Formed.{among_left, among_right}
use Rattle.row_laws.proofs.Orderly.Numbers.{one_of_number, stays_without}
use Rattle.row_laws.proofs.Orderly.Rounds.{happened_cases}
use Rattle.row_laws.proofs.Orderly.Turns.{among_numbered}

-- a packet is under way
pub record Under (under : List Numbered) (p : Packet) : Type 0 where
  pub letter : Numbered
  pub there : Among letter under
  pub is : letter.packet ≡ p

-- the site runs on, and all that it sends is under way
pub record RunsOn (n s : ℕ) (o : Outcome SiteView) (w u : World) : Type 0 where
  pub trace : u.trace ≡ told_onto n o.told w.trace
  pub here : place_at u s ≡ Some (Running o.view)
  pub sent : (p : Packet) → Among p o.sent → Under u.underway p

-- the event of the site made one world of the other: it runs on, or has stopped in the event
pub record Moved (n s : ℕ) (o : Outcome SiteView) (w u : World) : Type 0 where
  pub within : w.over ≡ None
  pub others : (t : ℕ) → s ≢ t → place_at u t ≡ place_at w t
  pub stays : (y : Numbered) → Among y w.underway → Among y u.underway
  pub ran : RunsOn n s o w u ⊎ ((d : Disk) × (place_at u s ≡ Some (Stopped d)))

some_limit : (l : Limit) → ◌≡◌ {A = Option Limit} (Some l) None → ⊥
some_limit l e = cc

pub acts_moved : (n s : ℕ) (v : SiteView) (o : Outcome SiteView) (w : World) → (acts n s v o w).over ≡ None → Moved n s o w (acts n s v o w)
acts_moved n s v o w =
    acts_cases (λ u. u.over ≡ None → Moved n s o w u) n s v o w
    (runs (λ now. now) (λ t. refl) refl)
    (λ a. runs (arms a) (λ t. refl) refl)
    (λ d a e. happened_cases (λ u. u.over ≡ None → Moved n s o w u) n [] (cut_told s v.store d a.how a.left) (stops_with s (cut_disk v.boot v.store d a.how a.left)) w
    (λ l e k. absurd (some_limit l (sym e ∙ k)))
    (λ l k. absurd (some_limit l k))
    (λ k b t e h. record {
      within = e;
      others = λ x ne. puts_other s x (Stopped (cut_disk v.boot v.store d a.how a.left)) w ne;
      stays = λ y m. among_left y w.underway [] m;
      ran = inr (cut_disk v.boot v.store d a.how a.left, puts_same s (Stopped (cut_disk v.boot v.store d a.how a.left)) w);
    }))
  where
    runs : (change : World → World) → ((t : ℕ) → place_at (change w) t ≡ place_at w t) → (change w).underway ≡ w.underway → (runs_on n s o change w).over ≡ None → Moved n s o w (runs_on n s o change w)
    runs change places under =
        happened_cases (λ u. u.over ≡ None → Moved n s o w u) n o.sent o.told (λ now. puts s (Running o.view) (change now)) w
        (λ l e k. absurd (some_limit l (sym e ∙ k)))
        (λ l k. absurd (some_limit l k))
        (λ k b t e h. record {
          within = e;
          others = λ x ne. puts_other s x (Running o.view) (change w) ne ∙ places x;
          stays = λ y m. among_left y (change w).underway (numbered_from (w.packets + 1) o.sent) (subst (λ (xs : List Numbered). Among y xs) (sym under) m);
          ran = inl (record {
            trace = refl;
            here = puts_same s (Running o.view) (change w);
            sent = λ p m. (let r : (y : Numbered) × (Among y (numbered_from (w.packets + 1) o.sent)) × (y.packet ≡ p) = among_numbered p (w.packets + 1) o.sent m in record { letter = r.0; there = among_right r.0 (change w).underway (numbered_from (w.packets + 1) o.sent) r.1; is = r.2 });
          });
        })

-- ---- a packet comes ----

running_view : (v u : SiteView) → ◌≡◌ {A = Option Place} (Some (Running v)) (Some (Running u)) → v ≡ u
running_view v u e = cc

not_running : (v : SiteView) → ◌≡◌ {A = Option Place} None (Some (Running v)) → ⊥
not_running v e = cc

stopped_running : (d : Disk) (v : SiteView) → ◌≡◌ {A = Option Place} (Some (Stopped d)) (Some (Running v)) → ⊥
stopped_running d v e = cc

-- its site takes it, or it is gone and nothing has happened
pub arrives_cases : (P : World → Type 0) (c : Config) (n : ℕ) (x : Numbered) (w : World) →
    ((v : SiteView) → place_at w x.packet.to ≡ Some (Running v) → is_dropped x.packet v ≡ false → P (acts n x.packet.to v (step c x.packet.to (links_of (passed x.number w) x.packet.to) v (Receives x.packet)) (passed x.number w))) →
    (((v : SiteView) → place_at w x.packet.to ≡ Some (Running v) → is_dropped x.packet v ≡ true) → P (passed x.number w)) → P (arrives c n x w)
arrives_cases P c n x w takes drops = by_place (place_at w x.packet.to) refl
  where
    none : (o : Option Place) → place_at w x.packet.to ≡ o → ((v : SiteView) → o ≡ Some (Running v) → ⊥) → (v : SiteView) → place_at w x.packet.to ≡ Some (Running v) → is_dropped x.packet v ≡ true
    none o e never v here = absurd (never v (sym e ∙ here))

    happening : (v : SiteView) → place_at w x.packet.to ≡ Some (Running v) → is_dropped x.packet v ≡ false → P (happens_at c n x.packet.to (Receives x.packet) (place_at w x.packet.to) (passed x.number w))
    happening v e undropped = subst (λ (o : Option Place). P (happens_at c n x.packet.to (Receives x.packet) o (passed x.number w))) (sym e) (takes v e undropped)

    by_place : (o : Option Place) → place_at w x.packet.to ≡ o → P (arrives_at c n x.packet o (passed x.number w))
    by_place None e = drops (none None e not_running)
    by_place (Some (Stopped d)) e = drops (none (Some (Stopped d)) e (stopped_running d))
    by_place (Some (Running v)) e =
        (elim (is_dropped x.packet v) as (λ b. is_dropped x.packet v ≡ b → P (elim b [ true ↦ passed x.number w | false ↦ happens c n x.packet.to (Receives x.packet) (passed x.number w) ])) [
          | true ↦ λ d. drops (λ u here. subst (λ (y : SiteView). is_dropped x.packet y ≡ true) (running_view v u (sym e ∙ here)) d)
          | false ↦ λ d. happening v e d
        ]) refl

-- what was under way is so still, apart from the packet that comes
pub others_stay : (x : Numbered) (w : World) → NumbersAscend w → Among x w.underway → (y : Numbered) → Among y w.underway → Among y (passed x.number w).underway ⊎ (y.packet ≡ x.packet)
others_stay x w ascend a y m = by_number (number_test y.number x.number)
  where
    number_test : (i j : ℕ) → (i ≡ j) ⊎ (i ≡ j → ⊥)
    number_test i j = at_each i j ((i ≡ j) ⊎ (i ≡ j → ⊥)) (λ eq. inl eq) (λ ne. inr ne)

    by_number : (y.number ≡ x.number) ⊎ (y.number ≡ x.number → ⊥) → Among y (passed x.number w).underway ⊎ (y.packet ≡ x.packet)
    by_number (inl e) = inr (ap (λ (z : Numbered). z.packet) (one_of_number w.underway ascend.ascend y x m a e))
    by_number (inr ne) = inl (stays_without x.number w.underway y m ne)
