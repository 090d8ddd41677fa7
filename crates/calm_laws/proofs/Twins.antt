-- Each world of a round is, but for the record that a round ended by its budget, the world of a schedule that ends with a round of so
-- many deliveries.
use Rattle.std.proofs.Common.{◌≡◌, ℕ, zero, suc, ◌+◌, ◌⊎◌, List, [], ◌∷◌, ◌++◌, length, Option, Some, None, refl, sym, ◌∙◌, ap, subst, inl, inr}
use Rattle.locus_ids.specs.declared.config.Config.{Config}
use Rattle.schedule_lines.specs.declared.line.Line.TheVariants as line
use Rattle.schedule_lines.specs.declared.line.ScheduleLine.{ScheduleLine}
use Rattle.schedule_lines.specs.declared.line.ScheduleLine.TheVariants.{Event as EventLine}
use Rattle.trace_book.specs.declared.record.Record.TheVariants as says
use Rattle.role_steps.specs.Views.{Shown, all_sites}
use Rattle.tree_model.specs.Folds.{Trace}
use Rattle.the_run.specs.Runs.{arrives, next_packet, goes_round, budget_ends, ends_round, delivers, ticks_to, settles, run_in}
use Rattle.the_run.specs.Worlds.{World, Numbered, place_at, first_world}
use Rattle.the_run.proofs.Growing.{run_splits}
use Rattle.row_laws.specs.Shown.{trace_of}
use Rattle.row_laws.specs.Orderly.Calm.{delivers_next, delivered}
use Rattle.row_laws.proofs.Orderly.Rounds.{happened_cases}

-- ---- a round of so many deliveries ----

-- where nothing can come nothing is delivered
pub nothing_more : (c : Config) (n k : ℕ) (w : World) → next_packet w ≡ None → delivered c n k w ≡ w
nothing_more c n zero w e = refl
nothing_more c n (suc k) w e = ap (λ (o : Option Numbered). delivered c n k (delivers_next c n w o)) e ∙ nothing_more c n k w e

abbrev pub EndsAs : ℕ → World → World → Type 0
EndsAs n u w = (u ≡ w) ⊎ (u ≡ budget_ends n w)

-- so many packets are delivered; then the round may end by its budget
pub delivers_as : (c : Config) (n budget : ℕ) (w : World) → EndsAs n (delivers c n budget w) (delivered c n budget w)
delivers_as c n zero w = by_next (next_packet w)
  where
    by_next : (o : Option Numbered) → EndsAs n (ends_round n w o) w
    by_next None = inl refl
    by_next (Some x) = inr refl
delivers_as c n (suc budget) w = by_next (next_packet w) refl (λ u. delivers_as c n budget u)
  where
    by_next : (o : Option Numbered) → next_packet w ≡ o → ((u : World) → EndsAs n (delivers c n budget u) (delivered c n budget u)) → EndsAs n (goes_round c n (delivers c n budget) w o) (delivered c n budget (delivers_next c n w (next_packet w)))
    by_next None e f = inl (sym (nothing_more c n budget w e) ∙ ap (λ (o : Option Numbered). delivered c n budget (delivers_next c n w o)) (sym e))
    by_next (Some x) e f = subst (λ (u : World). EndsAs n (delivers c n budget (arrives c n x w)) u) (ap (λ (o : Option Numbered). delivered c n budget (delivers_next c n w o)) (sym e)) (f (arrives c n x w))

-- ---- that it ended by its budget ----

-- it changes no place, and nothing that the records fold to, but what looks for it
pub budget_place : (n : ℕ) (w : World) (s : ℕ) → place_at (budget_ends n w) s ≡ place_at w s
budget_place n w s = happened_cases (λ u. place_at u s ≡ place_at w s) n [] (Shown says.Budget ∷ []) (λ now. now) w (λ l e. refl) (λ l. refl) (λ k b t e. refl)

pub budget_fold : {A : Type 0} (f : Trace → A) → ((n : ℕ) (older : Trace) → f (record { line = n; what = says.Budget } ∷ older) ≡ f older) → (n : ℕ) (w : World) → f (trace_of (budget_ends n w)) ≡ f (trace_of w)
budget_fold f h n w = happened_cases (λ u. f (trace_of u) ≡ f (trace_of w)) n [] (Shown says.Budget ∷ []) (λ now. now) w (λ l e. refl) (λ l. refl) (λ k b t e. h n (trace_of w))

-- ---- the schedule ----

-- these lines, and then a round of so many deliveries
abbrev pub with_round : List ScheduleLine → ℕ → List ScheduleLine
with_round lines j = lines ++ EventLine (line.Settle j) ∷ []

pub round_run : (c : Config) (lines : List ScheduleLine) (n j : ℕ) → 1 + length lines ≡ n → run_in c (with_round lines j) ≡ settles c n j (run_in c lines)
round_run c lines n j e = run_splits c 1 lines (EventLine (line.Settle j) ∷ []) (first_world c) ∙ ap (λ (k : ℕ). settles c k j (run_in c lines)) e

-- the world of the lines with some more has the places of this world, and all that records fold to
pub record Twin (c : Config) (lines more : List ScheduleLine) (w : World) : Type 1 where
  pub places : (s : ℕ) → place_at (run_in c (lines ++ more)) s ≡ place_at w s
  pub folds : {A : Type 0} (f : Trace → A) → ((n : ℕ) (older : Trace) → f (record { line = n; what = says.Budget } ∷ older) ≡ f older) → f (trace_of (run_in c (lines ++ more))) ≡ f (trace_of w)

no_more : (lines : List ScheduleLine) → lines ++ [] ≡ lines
no_more [] = refl
no_more (x ∷ xs) = ap (λ (ys : List ScheduleLine). x ∷ ys) (no_more xs)

-- the world that the lines leave
pub first_twin : (c : Config) (lines : List ScheduleLine) → Twin c lines [] (run_in c lines)
first_twin c lines = record { places = λ s. ap (λ (ls : List ScheduleLine). place_at (run_in c ls) s) (no_more lines); folds = λ f h. ap (λ (ls : List ScheduleLine). f (trace_of (run_in c ls))) (no_more lines) }

pub twin : (c : Config) (lines : List ScheduleLine) (n j : ℕ) → 1 + length lines ≡ n → Twin c lines (EventLine (line.Settle j) ∷ []) (delivered c n j (ticks_to c n all_sites (run_in c lines)))
twin c lines n j e = by_end (delivers_as c n j (ticks_to c n all_sites (run_in c lines)))
  where
    w : World
    w = delivered c n j (ticks_to c n all_sites (run_in c lines))

    run : run_in c (with_round lines j) ≡ delivers c n j (ticks_to c n all_sites (run_in c lines))
    run = round_run c lines n j e

    by_end : EndsAs n (delivers c n j (ticks_to c n all_sites (run_in c lines))) w → Twin c lines (EventLine (line.Settle j) ∷ []) w
    by_end (inl h) = record { places = λ s. ap (λ (u : World). place_at u s) (run ∙ h); folds = λ f k. ap (λ (u : World). f (trace_of u)) (run ∙ h) }
    by_end (inr h) = record { places = λ s. ap (λ (u : World). place_at u s) (run ∙ h) ∙ budget_place n w s; folds = λ f k. ap (λ (u : World). f (trace_of u)) (run ∙ h) ∙ budget_fold f k n w }
