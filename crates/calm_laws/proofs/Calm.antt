-- A calm round: its ticks put all requests and reports under way, each delivery hands on what it carries, and at its end nobody waits.
use Rattle.std.proofs.Common.{◌≡◌, ℕ, zero, suc, ◌+◌, ◌-◌, ◌≤◌, ◌⊎◌, List, Option, Some, None, refl, sym, ◌∙◌, ap, subst, inl, inr, arith}
use Rattle.locus_ids.specs.declared.config.Config.{Config}
use Rattle.schedule_lines.specs.declared.line.ScheduleLine.{ScheduleLine}
use Rattle.wire_messages.specs.declared.body.Body.{Body}
use Rattle.wire_messages.specs.declared.body.Body.TheVariants as body
use Rattle.wire_messages.specs.declared.packet.Packet.{Packet}
use Rattle.role_steps.specs.Requests.{request_packets}
use Rattle.role_steps.specs.Storage.{report_of}
use Rattle.role_steps.specs.Views.{packet, sync_site, all_sites}
use Rattle.role_steps.specs.declared.rounds.InEpoch.{InEpoch}
use Rattle.role_steps.specs.declared.users.WaitingCall.{WaitingCall}
use Rattle.the_run.specs.Kept.{Among}
use Rattle.the_run.specs.Runs.{arrives, next_packet, ticks_to, run_in}
use Rattle.the_run.specs.Worlds.{World, Numbered, place_at}
use Rattle.lawful_trace.specs.Places.{lines_before}
use Rattle.run_laws.proofs.Epochs.Run.{run_good}
use Rattle.row_laws.specs.Orderly.Calm.{IsInside, AreTogether, delivers_next, delivered}
use Rattle.calm_laws.specs.Carrying.{IsMember, frame_of, Carries, IsCarried, HasReported, Reports, IsAllCarried}
use Rattle.calm_laws.specs.Rounds.{after, IsInRound, IsCalm, CalmLeft, CalmRoundsLeaveNobody}
use Rattle.calm_laws.proofs.Deliveries.{one_delivery}
use Rattle.calm_laws.proofs.Ending.{nobody_waits}
use Rattle.calm_laws.proofs.Events.{Under}
use Rattle.calm_laws.proofs.Members.{sync_is}
use Rattle.calm_laws.proofs.Requests.{to_some_has, Requested, request_carries}
use Rattle.calm_laws.proofs.Rounds.{delivered_kept, delivered_then, one_more}
use Rattle.calm_laws.proofs.Packed.{all_go}
use Rattle.calm_laws.proofs.StartsRun.{groups_start}
use Rattle.calm_laws.proofs.Ticks.{HasAsked, over_round, ticks_ask, sites_apart}
use Rattle.calm_laws.proofs.SentFacts.{known}

-- ---- deliveries ----

within_before : (c : Config) (n j k : ℕ) (w : World) → j ≤ k → (delivered c n k w).over ≡ None → (delivered c n j w).over ≡ None
within_before c n j k w le h =
    let u : World = delivered c n j w in
    delivered_kept c n (λ (z : World). z.over ≡ None → u.over ≡ None) (over_round c n u) (k - j) u (λ z. z)
    (ap (λ (z : World). z.over) (sym (delivered_then c n j (k - j) w) ∙ ap (λ (i : ℕ). delivered c n i w) {x = j + (k - j)} {y = k} (omega (arith, le))) ∙ h)

-- ---- the round ----

-- after each of its deliveries the world is in it
pub calm_in_round : (c : Config) (lines : List ScheduleLine) (n : ℕ) (e : InEpoch) (k j : ℕ) → IsCalm c lines n e k → j ≤ k → IsInRound c lines n (after c lines n j)
calm_in_round c lines n e k j h le = record { fit = h.fit; packs = h.packs; groups = h.groups; few = few h.few; most = h.most; settles = h.settles; deliveries = j; is_world = refl }
  where
    few : k ≤ h.most → j ≤ h.most
    few top = omega (arith, le, top)

-- and all that waits is carried
pub round_carries : (c : Config) → CalmLeft c → (lines : List ScheduleLine) (n : ℕ) (e : InEpoch) (k j : ℕ) → IsCalm c lines n e k → j ≤ k → IsAllCarried c e (after c lines n j)
round_carries c left lines n e k j h low = carried j low
  where
    round : (j : ℕ) → j ≤ k → IsInRound c lines n (after c lines n j)
    round j le = calm_in_round c lines n e k j h le

    w : World
    w = run_in c (lines_before lines n)

    first : World
    first = after c lines n 0

    within : (j : ℕ) → j ≤ k → (after c lines n j).over ≡ None
    within j le = within_before c n j k (ticks_to c n all_sites w) le h.within

    asked : (s : ℕ) → IsMember e s → HasAsked c e first s
    asked s m = ticks_ask c e n all_sites w (run_good c (lines_before lines n)) sites_apart (λ t a i. h.first.inside t i) (λ t a i. (h.each 0 (omega arith)).inside t i) (within 0 (omega arith)) s m (inl (h.sites s m))

    start : IsAllCarried c e first
    start = record {
      calls = λ s v x m here a. call s x (request_carries c e (place_at first) s x x.asking m ((all_go c) lines n e first (round 0 (omega arith)) (h.each 0 (omega arith)) s v x m here a)) (λ p b. (asked s m).calls v x here a p b);
      reports = λ group css s sync m packed. (let i : IsInside first e s = (h.each 0 (omega arith)).inside s m in
          report group css s sync m i (known c lines n e first (round 0 (omega arith)) (h.each 0 (omega arith)) group css s i.view sync m packed i.here));
    }
      where
        call : (s : ℕ) (x : WaitingCall) (r : Requested c e (place_at first) s x x.asking) → ((p : Packet) → Among p (request_packets (frame_of c e s) x x.asking) → Under first.underway p) → IsCarried c e (place_at first) first.underway s x
        call s x r f = (let u : Under first.underway r.letter = f r.letter r.there in inl (record { letter = u.letter; there = u.there; carries = subst (λ (q : Packet). Carries c e (place_at first) s x x.asking q) (sym u.is) r.carries }))

        report : (group css s : ℕ) → sync_site c e.members group ≡ Some css → IsMember e s → (i : IsInside first e s) → Among group i.view.reports ⊎ HasReported (place_at first) css group s → HasReported (place_at first) css group s ⊎ Reports c e first.underway css group s
        report group css s sync m i (inr r) = inl r
        report group css s sync m i (inl a) =
            let b : Body = body.Report group (report_of group i.view.store.copies) in
            let u : Under first.underway (packet (frame_of c e s) css b) = (asked s m).reports i.view group i.here a (packet (frame_of c e s) css b) (to_some_has c e s css b (sync_site c e.members group) sync) in
            inr (record { letter = u.letter; there = u.there; copies = report_of group i.view.store.copies; goes = record { sender = m; receiver = (sync_is c e group css sync).1; is = u.is } })

    carried_on : (j : ℕ) → suc j ≤ k → IsAllCarried c e (after c lines n j) → IsAllCarried c e (after c lines n (suc j))
    carried_on j le old = by_next (next_packet (after c lines n j)) refl (one_more c n j (ticks_to c n all_sites w))
      where
        by_next : (o : Option Numbered) → next_packet (after c lines n j) ≡ o → after c lines n (suc j) ≡ delivers_next c n (after c lines n j) (next_packet (after c lines n j)) → IsAllCarried c e (after c lines n (suc j))
        by_next None is eq = subst (λ (z : World). IsAllCarried c e z) (sym (eq ∙ ap (delivers_next c n (after c lines n j)) is)) old
        by_next (Some x) is eq =
            let now : after c lines n (suc j) ≡ arrives c n x (after c lines n j) = eq ∙ ap (delivers_next c n (after c lines n j)) is in
            subst (λ (z : World). IsAllCarried c e z) (sym now)
            (one_delivery c left lines n e x (after c lines n j) (round j (omega (arith, le))) is (subst (λ (z : World). IsInRound c lines n z) now (round (suc j) le)) (h.each j (omega (arith, le))) (subst (λ (z : World). AreTogether z e) now (h.each (suc j) le)) (ap (λ (z : World). z.over) (sym now) ∙ within (suc j) le) old)

    carried : (j : ℕ) → j ≤ k → IsAllCarried c e (after c lines n j)
    carried zero le = start
    carried (suc j) le = carried_on j le (carried j (omega (arith, le)))

pub calm_round : (c : Config) → CalmLeft c → CalmRoundsLeaveNobody c
calm_round c left lines n e k h = nobody_waits c e (after c lines n k) (h.each k (omega arith)) h.reach h.within h.ended (groups_start c lines n (after c lines n k) (calm_in_round c lines n e k k h (omega arith))) (round_carries c left lines n e k k h (omega arith))
