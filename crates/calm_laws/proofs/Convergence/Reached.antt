-- After a calm round in which nobody has a file open a member that is to hold its only kept version has it, or pulls it over its copy.
use Rattle.std.proofs.Common.{List, None, Option, Some, [], ap, arith, inl, inr, refl, subst, suc, sym, true, zero, ℕ, ◌∙◌, ◌≡◌, ◌≤◌, ◌⊎◌}
use Rattle.calm_laws.proofs.Calm.{calm_in_round}
use Rattle.calm_laws.proofs.Rounds.{in_round, one_more}
use Rattle.calm_laws.specs.Carrying.{IsMember}
use Rattle.calm_laws.specs.Rounds.{Delivery, IsCalm, IsInRound, after}
use Rattle.calm_laws.proofs.Convergence.Due.{HasIt, IsDueTo, ticks_name}
use Rattle.calm_laws.proofs.Convergence.DueSteps.{passed_due}
use Rattle.calm_laws.proofs.Convergence.Ending.{for_none, none_named}
use Rattle.calm_laws.proofs.Convergence.Passing.{IsPassed, taken_or_passed}
use Rattle.calm_laws.proofs.Convergence.Reaching.{IsReached, PullsIt, named_or_comes, reached_by, reached_then}
use Rattle.calm_laws.proofs.Convergence.Resting.{last_offer}
use Rattle.calm_laws.proofs.Convergence.Starting.{within_after}
use Rattle.calm_laws.specs.Convergence.Offers.{Offer, is_for, named, notice_in}
use Rattle.calm_laws.specs.Convergence.Rounds.{IsUndisturbed}
use Rattle.lawful_trace.specs.Places.{lines_before}
use Rattle.locus_ids.specs.declared.config.Config.{Config}
use Rattle.locus_ids.specs.declared.ids.FileId.{FileId}
use Rattle.row_laws.specs.Orderly.Calm.{AreTogether, delivers_next}
use Rattle.site_laws.proofs.Makes.SendersRun.{first_sent, sent_kept}
use Rattle.site_laws.specs.Makes.Made.{NumberedSender, WorldSent}
use Rattle.role_steps.specs.Own.{Every}
use Rattle.role_steps.specs.Views.{all_sites}
use Rattle.role_steps.specs.declared.rounds.InEpoch.{InEpoch}
use Rattle.role_steps.specs.declared.synchronizing.VersionRow.{VersionRow}
use Rattle.schedule_lines.specs.declared.line.ScheduleLine.{ScheduleLine}
use Rattle.the_run.specs.Kept.{Among}
use Rattle.the_run.specs.Runs.{arrives, next_packet, run_in, ticks_to}
use Rattle.the_run.specs.Worlds.{Numbered, World}

-- at the end of a calm round no notice is under way to a member
pub nothing_named : (c : Config) (lines : List ScheduleLine) (n : ℕ) (e : InEpoch) (k : ℕ) → IsCalm c lines n e k → (s : ℕ) → IsMember e s → named e s (after c lines n k).underway ≡ []
nothing_named c lines n e k calm s member = none_named e s w.underway (for_none c e w s (calm.each k (omega arith)) calm.reach calm.within calm.ended senders member)
  where
    w : World
    w = after c lines n k

    senders : Every NumberedSender w.underway
    senders = (in_round c WorldSent (sent_kept c) (first_sent c) lines n w (calm_in_round c lines n e k k calm (omega arith))).underway

pub passed_reaches : (c : Config) (lines : List ScheduleLine) (n : ℕ) (e : InEpoch) (x : Numbered) (w : World) → IsInRound c lines n w → next_packet w ≡ Some x → IsPassed c n e x w → (s : ℕ) → IsMember e s → (file : FileId) (v : VersionRow) → IsReached e w s file v → IsReached e (arrives c n x w) s file v
passed_reaches c lines n e x w round next k s member file v old = by_reached old
  where
    u : World
    u = arrives c n x w

    comes_or : Among (last_offer file v) (named e s u.underway) ⊎ ((x.packet.to ≡ s) × Among (last_offer file v) (notice_in x.packet.body) × (is_for e s x.packet ≡ true)) → IsReached e u s file v
    comes_or (inl a) = inr (inr a)
    comes_or (inr a) = absurd (k.not_for s member a.2)

    by_reached : IsReached e w s file v → IsReached e u s file v
    by_reached (inl a) = inl (record { view = a.view; here = k.passes.same s member ∙ a.here; low = a.low })
    by_reached (inr (inl p)) = inr (inl (record { view = p.view; here = k.passes.same s member ∙ p.here; pulls = p.pulls }))
    by_reached (inr (inr a)) = comes_or (named_or_comes c lines n e s x w u.underway k.passes.more (last_offer file v) round next k.passes.underway a)

module _ (c : Config) (lines : List ScheduleLine) (n : ℕ) (e : InEpoch) (k : ℕ) (calm : IsCalm c lines n e k) (file : FileId) (undisturbed : IsUndisturbed c lines n e k file) (s : ℕ) (member : IsMember e s) (v : VersionRow) where
  abbrev at : ℕ → World
  at j = after c lines n j

  abbrev d : Offer
  d = last_offer file v

  round : (j : ℕ) → j ≤ k → IsInRound c lines n (at j)
  round j le = calm_in_round c lines n e k j calm le

  abbrev Reached : ℕ → Type 0
  Reached j = IsDueTo c e (at j) s d → IsReached e (at j) s file v

  reaches : (j : ℕ) → j ≤ k → Reached j
  reaches zero le = λ due. reached_by e (at 0) s file v (ticks_name c lines n e k calm s d member due)
  reaches (suc j) le = by_next (next_packet w) refl (one_more c n j (ticks_to c n all_sites (run_in c (lines_before lines n)))) (reaches j (omega (arith, le)))
    where
      w : World
      w = at j

      low : j ≤ k
      low = omega (arith, le)

      ReachedIn : World → Type 0
      ReachedIn z = IsDueTo c e z s d → IsReached e z s file v

      by_next : (o : Option Numbered) → next_packet w ≡ o → at (suc j) ≡ delivers_next c n w (next_packet w) → ReachedIn w → ReachedIn (at (suc j))
      by_next None is eq old = subst ReachedIn (sym (eq ∙ ap (delivers_next c n w) is)) old
      by_next (Some x) is eq old = subst ReachedIn (sym now) (over (taken_or_passed c lines n e x w (round j low) is (subst (λ (z : World). IsInRound c lines n z) now (round (suc j) le)) (calm.each j low) (subst (λ (z : World). AreTogether z e) now (calm.each (suc j) le)) (ap (λ (z : World). z.over) (sym now) ∙ within_after c lines n e k calm (suc j) le)))
        where
          now : at (suc j) ≡ arrives c n x w
          now = eq ∙ ap (delivers_next c n w) is

          over : Delivery c lines n e x w ⊎ IsPassed c n e x w → ReachedIn (arrives c n x w)
          over (inl g) = reached_then c lines n e x w g s file v member (calm.sites s member) (undisturbed w (inr (j, low, refl))) old
          over (inr p) = λ due. passed_reaches c lines n e x w (round j low) is p s member file v (old (passed_due c n e x w p s d due))

  -- at its end no notice is under way any more
  pub has_or_pulls : IsDueTo c e (at k) s d → HasIt (at k) s d ⊎ PullsIt (at k) s file v
  has_or_pulls due = over (reaches k (omega arith) due)
    where
      w : World
      w = at k

      nothing : named e s w.underway ≡ []
      nothing = nothing_named c lines n e k calm s member

      over : IsReached e w s file v → HasIt w s d ⊎ PullsIt w s file v
      over (inl a) = inl a
      over (inr (inl p)) = inr p
      over (inr (inr a)) = absurd (subst (λ (l : List Offer). Among d l) nothing a)
