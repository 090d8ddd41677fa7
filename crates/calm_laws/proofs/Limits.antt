-- A run that passes no limit passes none by any of its lines; and what lines and records have of their first ones.
use Rattle.std.proofs.Common.{◌≡◌, ℕ, zero, suc, ◌≤◌, nat_lt, Bool, true, false, cond, ◌||◌, List, [], ◌∷◌, length, take, Some, None, refl, ◌∙◌, ap, slice_index_or, arith}
use Rattle.std.specs.List.{list_any}
use Rattle.role_steps.proofs.of_plain_facts.Tests.{or_neither}
use Rattle.locus_ids.specs.declared.config.Config.{Config}
use Rattle.schedule_lines.specs.declared.line.Line.{Line as LineWords}
use Rattle.schedule_lines.specs.declared.line.ScheduleLine.{ScheduleLine}
use Rattle.schedule_lines.specs.declared.line.ScheduleLine.TheVariants.{Passed, Event as EventLine}
use Rattle.trace_book.specs.declared.entry.Entry.{Entry}
use Rattle.role_steps.specs.Views.{SiteView, Outcome}
use Rattle.tree_model.specs.Folds.{Trace, before_line}
use Rattle.the_run.specs.Disks.{Booted, Whole, CutOff, boots}
use Rattle.the_run.specs.Kept.{Kept}
use Rattle.the_run.specs.Runs.{boots_as, run_in}
use Rattle.the_run.specs.Steps.{step}
use Rattle.the_run.specs.Worlds.{World, links_of, script_of, puts, arms, passed, stops_with, disk_of, acts}
use Rattle.the_run.proofs.Events.{acts_keeps}
use Rattle.the_run.proofs.Runs.{run_from_keeps}
use Rattle.row_laws.specs.Voids.{LinesFit}
use Rattle.row_laws.proofs.Orderly.Blocks.{happened_within}
use Rattle.row_laws.proofs.OrderlyRows.Spans.{world, span, whole_run}

-- ---- limits ----

acts_over : (n s : ℕ) (v : SiteView) (o : Outcome SiteView) (w : World) → (acts n s v o w).over ≡ None → w.over ≡ None
acts_over n s v o w = acts_keeps (λ (u : World). u.over ≡ None → w.over ≡ None) n s v o w
    (λ ps told place. happened_within n ps told (λ now. puts s place now) w)
    (λ ps told place a. happened_within n ps told (λ now. puts s place (arms a now)) w)
    (λ ps told d. happened_within n ps told (stops_with s d) w)

as_over : (n s : ℕ) (x : Booted) (w : World) → (boots_as n s x w).over ≡ None → w.over ≡ None
as_over n s (Whole y None) w = happened_within n [] _ _ w
as_over n s (Whole y (Some a)) w = happened_within n [] _ _ w
as_over n s (CutOff y how) w = happened_within n [] _ _ w

over_kept : (c : Config) (first : World) → Kept c (λ (u : World). u.over ≡ None → first.over ≡ None)
over_kept c first = record {
  steps = λ n s e v w here own p k. p (acts_over n s v (step c s (links_of w s) v e) w k);
  receives = λ n x v w here sent p k. p (acts_over n x.packet.to v _ (passed x.number w) k);
  passes = λ j w p k. p k;
  drops = λ j w p k. p k;
  recuts = λ xs w p k. p k;
  arming = λ a w p k. p k;
  voiding = λ n w p k. p (happened_within n [] _ (λ now. now) w k);
  budgets = λ n w p k. p (happened_within n [] _ (λ now. now) w k);
  pending = λ n w p k. p (happened_within n [] _ (λ now. now) w k);
  stopping = λ n s v w here p k. p (happened_within n [] _ (stops_with s (disk_of v)) w k);
  booting = λ n s d w here p k. p (as_over n s (boots (script_of w s) d) w k);
}

pub world_within : (c : Config) (lines : List ScheduleLine) (k : ℕ) → (run_in c lines).over ≡ None → (world c lines k).over ≡ None
world_within c lines k h = run_from_keeps c (λ (u : World). u.over ≡ None → (world c lines k).over ≡ None) (over_kept c (world c lines k)) (suc k) (span lines k (length lines)) (world c lines k) (λ e. e) (ap (λ (u : World). u.over) (whole_run c lines k) ∙ h)

-- ---- the first lines ----

passed_event : (l : LineWords) → Passed ≡ EventLine l → ⊥
passed_event l e = cc

-- a line that is there is one of so many
pub line_there : (lines : List ScheduleLine) (k : ℕ) (l : LineWords) → slice_index_or lines k Passed ≡ EventLine l → suc k ≤ length lines
line_there [] k l e = absurd (passed_event l e)
line_there (x ∷ xs) zero l e = omega arith
line_there (x ∷ xs) (suc k) l e = (let h : suc k ≤ length xs = line_there xs k l e in omega (arith, h))

pub take_length : {A : Type 0} (k : ℕ) (xs : List A) → k ≤ length xs → length (take k xs) ≡ k
take_length zero xs h = refl
take_length (suc k) [] h = absurd (omega (arith, h))
take_length (suc k) (x ∷ xs) h = ap suc (take_length k xs (omega (arith, h)))

take_line : (m k : ℕ) (lines : List ScheduleLine) (l : LineWords) → slice_index_or (take m lines) k Passed ≡ EventLine l → slice_index_or lines k Passed ≡ EventLine l
take_line zero k lines l e = absurd (passed_event l e)
take_line (suc m) k [] l e = absurd (passed_event l e)
take_line (suc m) zero (x ∷ xs) l e = e
take_line (suc m) (suc k) (x ∷ xs) l e = take_line m k xs l e

pub take_fit : (c : Config) (lines : List ScheduleLine) (m : ℕ) → LinesFit c lines → LinesFit c (take m lines)
take_fit c lines m h zero l e = absurd (passed_event l e)
take_fit c lines m h (suc k) l e = h (suc k) l (take_line m k lines l e)

-- ---- the first records ----

-- records before a line are some of all
pub before_any : (p : Entry → Bool) (trace : Trace) (n : ℕ) → list_any p trace ≡ false → list_any p (before_line trace n) ≡ false
before_any p [] n h = refl
before_any p (r ∷ older) n h =
    elim (nat_lt r.line n) as (λ b. list_any p (cond b (r ∷ older) (before_line older n)) ≡ false) [
      | true ↦ h
      | false ↦ before_any p older n (or_neither (p r) (list_any p older) h).1
    ]
