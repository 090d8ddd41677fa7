-- A moment of a round is the end of a shorter one, and what every event keeps holds there.
use Rattle.std.proofs.Common.{◌≡◌, ◌≤◌, ℕ, zero, suc, ◌+◌, ◌-◌, ◌⊎◌, List, [], ◌∷◌, ◌++◌, length, take, sym, ◌∙◌, ap, subst, inl, inr, arith}
use Rattle.locus_ids.specs.declared.config.Config.{Config}
use Rattle.schedule_lines.specs.declared.line.Line.{Line as LineWords}
use Rattle.schedule_lines.specs.declared.line.Line.TheVariants as line
use Rattle.schedule_lines.specs.declared.line.ScheduleLine.{ScheduleLine}
use Rattle.schedule_lines.specs.declared.line.ScheduleLine.TheVariants.{Passed, Event as EventLine}
use Rattle.role_steps.specs.Views.{all_sites}
use Rattle.the_run.specs.Kept.{Kept}
use Rattle.the_run.specs.Runs.{budget_ends, delivers, ticks_to, run_in}
use Rattle.the_run.specs.Worlds.{World, first_world}
use Rattle.the_run.proofs.Runs.{every_run}
use Rattle.lawful_trace.specs.Places.{line_at, lines_before}
use Rattle.row_laws.specs.Orderly.Calm.{delivered}
use Rattle.row_laws.proofs.Orderly.Rounds.{ticks_kept}
use Rattle.calm_laws.proofs.Limits.{line_there, take_length}
use Rattle.calm_laws.proofs.Rounds.{round_kept, delivered_kept}
use Rattle.calm_laws.proofs.Twins.{delivers_as, round_run}
use Rattle.headline_laws.specs.Promises.Moments.{IsAfterEvent, MomentsEndRounds}

-- ---- the end of a shorter round ----

passed_event : (l : LineWords) → Passed ≡ EventLine l → ⊥
passed_event l e = cc

size_of : (lines : List ScheduleLine) (n most : ℕ) → line_at lines n ≡ EventLine (line.Settle most) → 1 + length (lines_before lines n) ≡ n
size_of lines zero most e = absurd (passed_event (line.Settle most) e)
size_of lines (suc k) most e =
    let there : suc k ≤ length lines = line_there lines k (line.Settle most) e in
    let l : length (take (suc k - 1) lines) ≡ suc k - 1 = take_length (suc k - 1) lines (omega (arith, there)) in omega (arith, l)

pub moments_end : (c : Config) (lines : List ScheduleLine) → MomentsEndRounds c lines
moments_end c lines w k = by_end (delivers_as c k.n k.deliveries start)
  where
    start : World
    start = ticks_to c k.n all_sites (run_in c (lines_before lines k.n))

    runs : run_in c (lines_before lines k.n ++ EventLine (line.Settle k.deliveries) ∷ []) ≡ delivers c k.n k.deliveries start
    runs = round_run c (lines_before lines k.n) k.n k.deliveries (size_of lines k.n k.most k.settles)

    by_end : (delivers c k.n k.deliveries start ≡ delivered c k.n k.deliveries start) ⊎ (delivers c k.n k.deliveries start ≡ budget_ends k.n (delivered c k.n k.deliveries start)) →
        (run_in c (lines_before lines k.n ++ EventLine (line.Settle k.deliveries) ∷ []) ≡ w) ⊎ (run_in c (lines_before lines k.n ++ EventLine (line.Settle k.deliveries) ∷ []) ≡ budget_ends k.n w)
    by_end (inl e) = inl (runs ∙ (e ∙ sym k.is_world))
    by_end (inr e) = inr (runs ∙ (e ∙ ap (budget_ends k.n) (sym k.is_world)))

-- ---- what every event keeps ----

pub kept_after : (c : Config) (P : World → Type 0) → Kept c P → P (first_world c) → (lines : List ScheduleLine) (w : World) → IsAfterEvent c lines w → P w
kept_after c P k first lines w (inl h) = subst P (sym h.1) (every_run c P k first (take h.0 lines))
kept_after c P k first lines w (inr (inl h)) = subst P (sym h.is_world) (ticks_kept c h.n P (round_kept c h.n P k) (take h.ticks all_sites) (run_in c (lines_before lines h.n)) (every_run c P k first (lines_before lines h.n)))
kept_after c P k first lines w (inr (inr h)) = subst P (sym h.is_world) (delivered_kept c h.n P (round_kept c h.n P k) h.deliveries (ticks_to c h.n all_sites (run_in c (lines_before lines h.n)))
    (ticks_kept c h.n P (round_kept c h.n P k) all_sites (run_in c (lines_before lines h.n)) (every_run c P k first (lines_before lines h.n))))
