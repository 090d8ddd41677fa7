-- Each part of the trace that ends between the end of one line and the start of a later one is a moment of a line between them, or of the
-- later one: so what is shut at all these moments is shut by each such part.
use Rattle.std.proofs.Common.{List, [], append_assoc, ap, arith, inl, inr, refl, suc, sym, zero, ℕ, ◌++◌, ◌+◌, ◌-◌, ◌<◌, ◌∙◌, ◌∷◌, ◌≡◌, ◌≤◌, ◌⊎◌}
use Rattle.row_laws.proofs.OrderlyRows.Spans.{before_at, one_more, world}
use Rattle.rest_laws.proofs.Shown.{shown_entries}
use Rattle.row_laws.specs.OrderlyRows.Agreeing.{IsWithin}
use Rattle.calm_laws.proofs.Convergence.Late.{world_grows}
use Rattle.lawful_trace.specs.Calm as traced
use Rattle.lawful_trace.specs.Places.{lines_before}
use Rattle.locus_ids.specs.declared.config.Config.{Config}
use Rattle.locus_ids.specs.declared.ids.EpochId.{EpochId}
use Rattle.locus_ids.specs.declared.ids.FileId.{FileId}
use Rattle.row_laws.specs.Shown.{shown, trace_of, with_told}
use Rattle.role_steps.specs.Views.{Shown, Told}
use Rattle.schedule_lines.specs.Cluster.{config_of}
use Rattle.schedule_lines.specs.Schedule.{AreInOrder}
use Rattle.schedule_lines.specs.declared.line.ScheduleLine.{ScheduleLine}
use Rattle.the_run.specs.Runs.{run, run_in}
use Rattle.the_run.specs.Worlds.{Line}
use Rattle.tree_laws.specs.Printed.{entries}
use Rattle.tree_model.specs.Folds.{Trace, before_line}
use Rattle.tree_model.specs.State.{openers}
use Rattle.tree_model.specs.Tree.{tree_of}

-- ---- lists ----

same_rest : (x y : Line) (xs ys : List Line) → x ∷ xs ≡ y ∷ ys → xs ≡ ys
same_rest x y xs ys e = cc

-- of two ends of one list each goes on from the other, or the other from it
either_end : (a b c d : List Line) → a ++ b ≡ c ++ d → ((x : List Line) × (b ≡ x ++ d)) ⊎ ((x : List Line) × (d ≡ x ++ b))
either_end [] b c d e = inl (c, e)
either_end (x ∷ a) b [] d e = inr (x ∷ a, sym e)
either_end (x ∷ a) b (y ∷ c) d e = either_end a b c d (same_rest x y (a ++ b) (c ++ d) e)

shown_both : (xs ys : List Line) → shown (xs ++ ys) ≡ shown xs ++ shown ys
shown_both [] ys = refl
shown_both (x ∷ xs) ys = over x.told (shown_both xs ys)
  where
    over : (t : Told) → shown (xs ++ ys) ≡ shown xs ++ shown ys → with_told x.number t (shown (xs ++ ys)) ≡ with_told x.number t (shown xs) ++ shown ys
    over (Shown r) e = ap (λ (z : Trace). record { line = x.number; what = r } ∷ z) e
    over _ e = e

-- ---- parts of the trace ----

module _ (lines : List ScheduleLine) (e : EpochId) (f : FileId) (n m : ℕ) (shut : (p : ℕ) (now : Trace) → n ≤ p → p ≤ m → traced.IsMoment (trace_of (run lines)) p now → openers (tree_of (config_of lines) e f.group now) f ≡ []) where
  abbrev c : Config
  c = config_of lines

  -- what is told by so many lines
  abbrev told : ℕ → List Line
  told k = (world c lines k).trace

  -- what ends between the start of a line and its end is a moment of it
  moment_at : (k : ℕ) (now since later : List Line) → now ≡ since ++ told k → told (suc k) ≡ later ++ now → traced.IsMoment (trace_of (run lines)) (suc k) (shown now)
  moment_at k now since later begun ends = record {
    so_far = shown since;
    later = shown later;
    begun = ap shown begun ∙ (shown_both since (told k) ∙ ap (λ (z : Trace). shown since ++ z) (sym (before_at c lines k)));
    ends = ap (before_line (trace_of (run lines))) (one_more (suc k)) ∙ (before_at c lines (suc k) ∙ (ap shown ends ∙ shown_both later now));
  }

  shut_at : (k : ℕ) (now since later : List Line) → n ≤ k → suc k ≤ m → now ≡ since ++ told k → told (suc k) ≡ later ++ now → openers (tree_of c e f.group (entries now)) f ≡ []
  shut_at k now since later low high begun ends = ap (λ (t : Trace). openers (tree_of c e f.group t) f) (sym (shown_entries now)) ∙ shut (suc k) (shown now) (omega (arith, low)) high (moment_at k now since later begun ends)

  -- the lines are gone through up to the one in which the part ends
  by_lines : (left k : ℕ) (now since more : List Line) → n ≤ k → k + left + 1 ≡ m → now ≡ since ++ told k → told (k + left) ≡ more ++ now → openers (tree_of c e f.group (entries now)) f ≡ []
  by_lines zero k now since more low last begun ends = shut_at k now since (next.0 ++ more) low (omega (arith, last)) begun all
    where
      next : (next : List Line) × (told (k + 1) ≡ next ++ told k)
      next = world_grows c lines k 1

      here : told k ≡ more ++ now
      here = ap told {x = k} {y = k + 0} (omega arith) ∙ ends

      all : told (suc k) ≡ (next.0 ++ more) ++ now
      all = ap told {x = suc k} {y = k + 1} (omega arith) ∙ (next.1 ∙ (ap (λ (z : List Line). next.0 ++ z) here ∙ sym (append_assoc next.0 more now)))
  by_lines (suc left) k now since more low last begun ends = over (λ x q. by_lines left (suc k) now x more (omega (arith, low)) (omega (arith, last)) q later) (either_end more now rest.0 (told (suc k)) (sym later ∙ rest.1))
    where
      later : told (suc k + left) ≡ more ++ now
      later = ap told {x = suc k + left} {y = k + suc left} (omega arith) ∙ ends

      rest : (rest : List Line) × (told (suc k + left) ≡ rest ++ told (suc k))
      rest = world_grows c lines (suc k) left

      over : ((x : List Line) → now ≡ x ++ told (suc k) → openers (tree_of c e f.group (entries now)) f ≡ []) → ((x : List Line) × (now ≡ x ++ told (suc k))) ⊎ ((x : List Line) × (told (suc k) ≡ x ++ now)) → openers (tree_of c e f.group (entries now)) f ≡ []
      over further (inl k1) = further k1.0 k1.1
      over further (inr k1) = shut_at k now since k1.0 low (omega (arith, last)) begun k1.1

pub shut_between : (lines : List ScheduleLine) → AreInOrder lines → IsWithin lines → (n m : ℕ) → n < m → (e : EpochId) (f : FileId) → ((p : ℕ) (now : Trace) → n ≤ p → p ≤ m → traced.IsMoment (trace_of (run lines)) p now → openers (tree_of (config_of lines) e f.group now) f ≡ []) →
    (more since now : List Line) → (run_in (config_of lines) (lines_before lines m)).trace ≡ more ++ now → now ≡ since ++ (world (config_of lines) lines n).trace → openers (tree_of (config_of lines) e f.group (entries now)) f ≡ []
shut_between lines order within n m late e f shut more since now ends begun = by_lines lines e f n m shut (m - 1 - n) n now since more (omega arith) (omega (arith, late)) begun whole
  where
    whole : (world (config_of lines) lines (n + (m - 1 - n))).trace ≡ more ++ now
    whole = ap (λ (k : ℕ). (world (config_of lines) lines k).trace) {x = n + (m - 1 - n)} {y = m - 1} (omega (arith, late)) ∙ ends
