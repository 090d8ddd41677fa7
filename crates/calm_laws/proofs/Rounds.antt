-- What every run keeps stands in each world of a round.
use Rattle.std.proofs.Common.{◌≡◌, ℕ, zero, suc, ◌+◌, List, Option, Some, None, refl, sym, ◌∙◌, ap, subst, inr, arith}
use Rattle.locus_ids.specs.declared.config.Config.{Config}
use Rattle.schedule_lines.specs.declared.line.ScheduleLine.{ScheduleLine}
use Rattle.role_steps.specs.Views.{Ticks, all_sites}
use Rattle.the_run.specs.Kept.{Kept}
use Rattle.the_run.specs.Runs.{next_packet, ticks_to, run_in}
use Rattle.the_run.specs.Worlds.{World, Numbered, first_world}
use Rattle.the_run.proofs.Runs.{every_run}
use Rattle.lawful_trace.specs.Places.{lines_before}
use Rattle.row_laws.specs.Orderly.Calm.{delivers_next, delivered}
use Rattle.row_laws.proofs.Orderly.Rounds.{RoundKept, arrives_kept, next_among, ticks_kept}
use Rattle.calm_laws.specs.Rounds.{IsInRound}

-- what each event keeps, each of a round does
pub round_kept : (c : Config) (n : ℕ) (P : World → Type 0) → Kept c P → RoundKept c n P
round_kept c n P k = record {
  ticks = λ s v w here p. k.steps n s Ticks v w here tt p;
  receives = λ x v w here a undropped p. k.receives n x v w here (inr a) p;
  drops = λ x w a dropped p. k.passes x.number w p;
  budgets = λ w p. k.budgets n w p;
}

next_kept : (c : Config) (n : ℕ) (P : World → Type 0) → RoundKept c n P → (w : World) (o : Option Numbered) → next_packet w ≡ o → P w → P (delivers_next c n w o)
next_kept c n P k w None e p = p
next_kept c n P k w (Some x) e p = arrives_kept c n P k x w (next_among w w.over x e) p

pub delivered_kept : (c : Config) (n : ℕ) (P : World → Type 0) → RoundKept c n P → (k : ℕ) (w : World) → P w → P (delivered c n k w)
delivered_kept c n P r zero w p = p
delivered_kept c n P r (suc k) w p = delivered_kept c n P r k (delivers_next c n w (next_packet w)) (next_kept c n P r w (next_packet w) refl p)

pub in_round : (c : Config) (P : World → Type 0) → Kept c P → P (first_world c) → (lines : List ScheduleLine) (n : ℕ) (w : World) → IsInRound c lines n w → P w
in_round c P k first lines n w h =
    subst P (sym h.is_world) (delivered_kept c n P (round_kept c n P k) h.deliveries (ticks_to c n all_sites (run_in c (lines_before lines n))) (ticks_kept c n P (round_kept c n P k) all_sites (run_in c (lines_before lines n)) (every_run c P k first (lines_before lines n))))

-- ---- deliveries ----

-- first some, and then some more
pub delivered_then : (c : Config) (n j i : ℕ) (w : World) → delivered c n (j + i) w ≡ delivered c n i (delivered c n j w)
delivered_then c n zero i w = ap (λ (k : ℕ). delivered c n k w) {x = 0 + i} {y = i} (omega arith)
delivered_then c n (suc j) i w = ap (λ (k : ℕ). delivered c n k w) {x = suc j + i} {y = suc (j + i)} (omega arith) ∙ delivered_then c n j i (delivers_next c n w (next_packet w))

-- the last one
pub one_more : (c : Config) (n j : ℕ) (w : World) → delivered c n (suc j) w ≡ delivers_next c n (delivered c n j w) (next_packet (delivered c n j w))
one_more c n j w = ap (λ (k : ℕ). delivered c n k w) {x = suc j} {y = j + 1} (omega arith) ∙ delivered_then c n j 1 w
