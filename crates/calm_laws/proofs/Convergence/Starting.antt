-- The second round begins where the first one ended, and its ticks leave a version that is held or pulled whole so.
use Rattle.std.proofs.Common.{◌≡◌, ℕ, zero, suc, ◌+◌, ◌-◌, ◌<◌, ◌≤◌, ◌⊎◌, List, [], ◌∷◌, Option, Some, None, refl, sym, ◌∙◌, ap, subst, inl, inr, arith}
use Rattle.locus_ids.specs.declared.config.Config.{Config}
use Rattle.locus_ids.specs.declared.sites.Links.{Links}
use Rattle.schedule_lines.specs.declared.line.Line.{Line as LineWords}
use Rattle.schedule_lines.specs.declared.line.Line.TheVariants as line
use Rattle.schedule_lines.specs.declared.line.ScheduleLine.{ScheduleLine}
use Rattle.schedule_lines.specs.declared.line.ScheduleLine.TheVariants.{Passed, Event as EventLine}
use Rattle.role_steps.specs.Views.{SiteView, Outcome, Ticks, all_sites}
use Rattle.role_steps.specs.declared.rounds.InEpoch.{InEpoch}
use Rattle.the_run.specs.Disks.{Disk}
use Rattle.the_run.specs.Kept.{Among}
use Rattle.the_run.specs.Runs.{arrives, next_packet, ends_round, goes_round, delivers, ticks_to, acts_line, run_in}
use Rattle.the_run.specs.Steps.{step}
use Rattle.the_run.specs.Worlds.{World, Place, Running, Stopped, Numbered, place_at, links_of, acts, happens, happens_at}
use Rattle.the_run.proofs.Boots.{at_each}
use Rattle.lawful_trace.specs.Places.{lines_before}
use Rattle.row_laws.specs.Orderly.Calm.{delivers_next, delivered}
use Rattle.row_laws.proofs.Orderly.Rounds.{ticks_kept}
use Rattle.row_laws.proofs.OrderlyRows.Spans.{world, next_world}
use Rattle.calm_laws.specs.Rounds.{after, IsCalm}
use Rattle.calm_laws.proofs.Rounds.{delivered_kept, delivered_then}
use Rattle.calm_laws.proofs.Ticks.{AreApart, over_round}
use Rattle.calm_laws.specs.Convergence.Rounds.{AreDirectRounds}
use Rattle.calm_laws.proofs.Convergence.Events.{RunsOn, Moved, acts_moved}
use Rattle.calm_laws.proofs.Convergence.Repeating.{ticks_touch, tick_touches}

-- ---- where the second round begins ----

nothing_more : (c : Config) (n k : ℕ) (w : World) → next_packet w ≡ None → delivered c n k w ≡ w
nothing_more c n zero w e = refl
nothing_more c n (suc k) w e = ap (λ (o : Option Numbered). delivered c n k (delivers_next c n w o)) e ∙ nothing_more c n k w e

-- a round whose packets are all delivered within its budget ends so
delivers_all : (c : Config) (n k budget : ℕ) (w : World) → k ≤ budget → next_packet (delivered c n k w) ≡ None → delivers c n budget w ≡ delivered c n k w
delivers_all c n zero zero w le e = ap (ends_round n w) e
delivers_all c n zero (suc b) w le e = ap (goes_round c n (delivers c n b) w) e
delivers_all c n (suc k) zero w le e = absurd (omega (arith, le))
delivers_all c n (suc k) (suc b) w le e = by_next (next_packet w) refl (λ u q. delivers_all c n k b u (omega (arith, le)) q)
  where
    by_next : (o : Option Numbered) → next_packet w ≡ o → ((u : World) → next_packet (delivered c n k u) ≡ None → delivers c n b u ≡ delivered c n k u) → delivers c n (suc b) w ≡ delivered c n (suc k) w
    by_next None q f = ap (goes_round c n (delivers c n b) w) q ∙ sym (ap (λ (o : Option Numbered). delivered c n k (delivers_next c n w o)) q ∙ nothing_more c n k w q)
    by_next (Some x) q f =
        let is : delivered c n (suc k) w ≡ delivered c n k (arrives c n x w) = ap (λ (o : Option Numbered). delivered c n k (delivers_next c n w o)) q in
        ap (goes_round c n (delivers c n b) w) q ∙ (f (arrives c n x w) (ap next_packet (sym is) ∙ e) ∙ sym is)

passed_event : (l : LineWords) → Passed ≡ EventLine l → ⊥
passed_event l e = cc

-- its line ends in the round's last world
pub round_ends : (c : Config) (lines : List ScheduleLine) (n : ℕ) (e : InEpoch) (k : ℕ) → IsCalm c lines n e k → world c lines n ≡ after c lines n k
round_ends c lines zero e k h = absurd (passed_event (line.Settle h.most) h.settles)
round_ends c lines (suc p) e k h =
    next_world c lines p ∙ (ap (λ (l : ScheduleLine). acts_line c (suc p) l (world c lines p)) h.settles
    ∙ (ap (λ (j : ℕ). delivers c (suc p) h.most (ticks_to c (suc p) all_sites (world c lines j))) {x = p} {y = suc p - 1} (omega arith) ∙ delivers_all c (suc p) k h.most (ticks_to c (suc p) all_sites (run_in c (lines_before lines (suc p)))) h.few h.ended))

pub second_begins : (c : Config) (lines : List ScheduleLine) (n m : ℕ) (e : InEpoch) (k l : ℕ) → AreDirectRounds c lines n m e k l → run_in c (lines_before lines m) ≡ after c lines n k
second_begins c lines n m e k l h = ap (world c lines) {x = m - 1} {y = n + (m - 1 - n)} (let low : n < m = h.rounds.order in omega (arith, low)) ∙ (stays (m - 1 - n) (let low : n < m = h.rounds.order in omega (arith, low)) ∙ round_ends c lines n e k h.rounds.first)
  where
    stays : (i : ℕ) → n + i < m → world c lines (n + i) ≡ world c lines n
    stays zero low = ap (world c lines) {x = n + 0} {y = n} (omega arith)
    stays (suc i) low = ap (world c lines) {x = n + suc i} {y = suc (n + i)} (omega arith) ∙ (next_world c lines (n + i) ∙ (ap (λ (x : ScheduleLine). acts_line c (suc (n + i)) x (world c lines (n + i))) (h.directly (suc (n + i)) (omega arith) (omega (arith, low))) ∙ stays i (omega (arith, low))))

-- ---- a site's own tick ----

none_running : (v : SiteView) → ◌≡◌ {A = Option Place} None (Some (Running v)) → ⊥
none_running v e = cc

stopped_running : (d : Disk) (v : SiteView) → ◌≡◌ {A = Option Place} (Some (Stopped d)) (Some (Running v)) → ⊥
stopped_running d v e = cc

running_view : (v u : SiteView) → ◌≡◌ {A = Option Place} (Some (Running v)) (Some (Running u)) → v ≡ u
running_view v u e = cc

-- the tick was of this view, and left that one
pub record HasTicked (c : Config) (s : ℕ) (v u : SiteView) : Type 0 where
  pub links : Links
  pub left : u ≡ (step c s links v Ticks).view

own_tick : (c : Config) (n s : ℕ) (w : World) (v u : SiteView) → place_at w s ≡ Some (Running v) → place_at (happens c n s Ticks w) s ≡ Some (Running u) → (happens c n s Ticks w).over ≡ None → HasTicked c s v u
own_tick c n s w v u here there within = by_place (place_at w s) here there within
  where
    by_place : (o : Option Place) → o ≡ Some (Running v) → place_at (happens_at c n s Ticks o w) s ≡ Some (Running u) → (happens_at c n s Ticks o w).over ≡ None → HasTicked c s v u
    by_place None e t q = absurd (none_running v e)
    by_place (Some (Stopped d)) e t q = absurd (stopped_running d v e)
    by_place (Some (Running z)) e t q = over moved.ran
      where
        o : Outcome SiteView
        o = step c s (links_of w s) z Ticks

        moved : Moved s o w (acts n s z o w)
        moved = acts_moved n s z o w q

        over : RunsOn s o (acts n s z o w) moved.more ⊎ ((d : Disk) × (place_at (acts n s z o w) s ≡ Some (Stopped d))) → HasTicked c s v u
        over (inl r) = record { links = links_of w s; left = running_view u o.view (sym t ∙ r.here) ∙ ap (λ (y : SiteView). (step c s (links_of w s) y Ticks).view) (running_view z v e) }
        over (inr stop) = absurd (stopped_running stop.0 u (sym stop.1 ∙ t))

pub ticks_leave : (c : Config) (n : ℕ) (ss : List ℕ) (w : World) (s : ℕ) (v u : SiteView) → AreApart ss → Among s ss → place_at w s ≡ Some (Running v) → place_at (ticks_to c n ss w) s ≡ Some (Running u) → (ticks_to c n ss w).over ≡ None → HasTicked c s v u
ticks_leave c n [] w s v u apart a here there within = absurd a
ticks_leave c n (t ∷ ts) w s v u apart a here there within = at_each t s (HasTicked c s v u) mine (λ ne. theirs ne (λ z. ticks_leave c n ts (happens c n t Ticks w) s v u apart.1 z))
  where
    within_one : (happens c n t Ticks w).over ≡ None
    within_one = ticks_kept c n (λ (z : World). z.over ≡ None → (happens c n t Ticks w).over ≡ None) (over_round c n (happens c n t Ticks w)) ts (happens c n t Ticks w) (λ z. z) within

    mine : t ≡ s → HasTicked c s v u
    mine eq = own_tick c n s w v u here
        (subst (λ (x : ℕ). place_at (happens c n x Ticks w) s ≡ Some (Running u)) eq (sym (ticks_touch c n ts s (happens c n t Ticks w) (λ b. apart.0 (subst (λ (x : ℕ). Among x ts) (sym eq) b))) ∙ there))
        (subst (λ (x : ℕ). (happens c n x Ticks w).over ≡ None) eq within_one)

    theirs : (t ≡ s → ⊥) → (Among s ts → place_at (happens c n t Ticks w) s ≡ Some (Running v) → place_at (ticks_to c n ts (happens c n t Ticks w)) s ≡ Some (Running u) → (ticks_to c n ts (happens c n t Ticks w)).over ≡ None → HasTicked c s v u) → HasTicked c s v u
    theirs ne rest = rest (later a) (tick_touches c n t s w ne ∙ here) there within
      where
        later : Among s (t ∷ ts) → Among s ts
        later (inl eq) = absurd (ne (sym eq))
        later (inr b) = b

-- ---- limits ----

within_before : (c : Config) (n j k : ℕ) (w : World) → j ≤ k → (delivered c n k w).over ≡ None → (delivered c n j w).over ≡ None
within_before c n j k w le h =
    let u : World = delivered c n j w in
    delivered_kept c n (λ (z : World). z.over ≡ None → u.over ≡ None) (over_round c n u) (k - j) u (λ z. z)
    (ap (λ (z : World). z.over) (sym (delivered_then c n j (k - j) w) ∙ ap (λ (i : ℕ). delivered c n i w) {x = j + (k - j)} {y = k} (omega (arith, le))) ∙ h)

-- no limit is passed in a calm round
pub within_after : (c : Config) (lines : List ScheduleLine) (n : ℕ) (e : InEpoch) (k : ℕ) → IsCalm c lines n e k → (j : ℕ) → j ≤ k → (after c lines n j).over ≡ None
within_after c lines n e k calm j le = within_before c n j k (ticks_to c n all_sites (run_in c (lines_before lines n))) le calm.within
