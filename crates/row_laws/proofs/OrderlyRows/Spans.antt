-- The lines of a schedule by their numbers: the world after each, and the records before each.
use Rattle.std.proofs.Common.{◌≡◌, ℕ, zero, suc, ◌+◌, ◌≤◌, List, [], ◌∷◌, length, take, refl, sym, ◌∙◌, ap, slice_index_or, arith}
use Rattle.locus_ids.specs.declared.config.Config.{Config}
use Rattle.schedule_lines.specs.declared.line.ScheduleLine.{ScheduleLine}
use Rattle.schedule_lines.specs.declared.line.ScheduleLine.TheVariants.{Passed}
use Rattle.tree_model.specs.Folds.{before_line}
use Rattle.lawful_trace.specs.Places.{line_at}
use Rattle.the_run.specs.Worlds.{World, first_world}
use Rattle.the_run.specs.Runs.{acts_line, run_from, run_in}
use Rattle.row_laws.specs.Shown.{trace_of}
use Rattle.row_laws.proofs.AskedRun.{run_courses}
use Rattle.row_laws.proofs.Tracing.{before_all, ascends_later}
use Rattle.row_laws.proofs.OrderlyRows.Told.{lines_before}

-- ---- lists ----

pub take_length : {A : Type 0} (k : ℕ) (xs : List A) → length (take k xs) ≤ k
take_length zero xs = omega arith
take_length (suc k) [] = omega arith
take_length (suc k) (x ∷ xs) = (let h : length (take k xs) ≤ k = take_length k xs in omega (arith, h))

pub take_whole : {A : Type 0} (k : ℕ) (xs : List A) → length xs ≤ k → take k xs ≡ xs
take_whole zero [] h = refl
take_whole (suc k) [] h = refl
take_whole zero (x ∷ xs) h = absurd (omega (arith, h))
take_whole (suc k) (x ∷ xs) h = ap (λ ys. x ∷ ys) (take_whole k xs (omega (arith, h)))

pub one_more : (n : ℕ) → n + 1 ≡ suc n
one_more n = omega arith

-- ---- worlds ----

-- the world after so many lines
abbrev pub world : Config → List ScheduleLine → ℕ → World
world c lines k = run_in c (take k lines)

run_more : (c : Config) (m k : ℕ) (xs : List ScheduleLine) (w : World) → run_from c m (take (suc k) xs) w ≡ acts_line c (m + k) (slice_index_or xs k Passed) (run_from c m (take k xs) w)
run_more c m zero [] w = refl
run_more c m (suc k) [] w = refl
run_more c m zero (x ∷ xs) w = ap (λ (j : ℕ). acts_line c j x w) {x = m} {y = m + 0} (omega arith)
run_more c m (suc k) (x ∷ xs) w = run_more c (m + 1) k xs (acts_line c m x w) ∙ ap (λ (j : ℕ). acts_line c j (slice_index_or xs k Passed) (run_from c (m + 1) (take k xs) (acts_line c m x w))) {x = (m + 1) + k} {y = m + suc k} (omega arith)

pub next_world : (c : Config) (lines : List ScheduleLine) (k : ℕ) → world c lines (suc k) ≡ acts_line c (suc k) (line_at lines (suc k)) (world c lines k)
next_world c lines k = run_more c 1 k lines (first_world c) ∙ ap (λ (j : ℕ). acts_line c j (slice_index_or lines k Passed) (world c lines k)) {x = 1 + k} {y = suc k} (omega arith)

-- so many lines after the first k
abbrev pub span : List ScheduleLine → ℕ → ℕ → List ScheduleLine
span lines k zero = []
span lines k (suc j) = line_at lines (suc k) ∷ span lines (suc k) j

pub span_world : (c : Config) (lines : List ScheduleLine) (k j : ℕ) → run_from c (suc k) (span lines k j) (world c lines k) ≡ world c lines (k + j)
span_world c lines k zero = ap (world c lines) {x = k} {y = k + 0} (omega arith)
span_world c lines k (suc j) =
    ap (λ (n : ℕ). run_from c n (span lines (suc k) j) (acts_line c (suc k) (line_at lines (suc k)) (world c lines k))) (one_more (suc k))
    ∙ (ap (λ (w : World). run_from c (suc (suc k)) (span lines (suc k) j) w) (sym (next_world c lines k))
    ∙ (span_world c lines (suc k) j ∙ ap (world c lines) {x = suc k + j} {y = k + suc j} (omega arith)))

-- ---- records ----

pub whole_run : (c : Config) (lines : List ScheduleLine) (k : ℕ) → run_from c (suc k) (span lines k (length lines)) (world c lines k) ≡ run_in c lines
whole_run c lines k = span_world c lines k (length lines) ∙ ap (run_in c) (take_whole (k + length lines) lines (omega arith))

-- the records before a line are those of the world that it finds
pub before_at : (c : Config) (lines : List ScheduleLine) (k : ℕ) → before_line (trace_of (run_in c lines)) (suc k) ≡ trace_of (world c lines k)
before_at c lines k =
    ap (λ (u : World). before_line (trace_of u) (suc k)) (sym (whole_run c lines k))
    ∙ (lines_before c (suc k) (suc k) (span lines k (length lines)) (world c lines k) (omega arith)
    ∙ before_all k (suc k) (world c lines k).trace (ascends_later (length (take k lines)) k (world c lines k).trace (take_length k lines) (run_courses c (take k lines)).course.ascends) (omega arith))
