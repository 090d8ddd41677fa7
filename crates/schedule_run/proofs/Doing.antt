-- One line more, some lines more, and the header alone.
use Rattle.std.proofs.Common.{◌≡◌, ℕ, ◌+◌, List, [], ◌∷◌, ◌++◌, length, refl, sym, ap, subst, ◌∙◌, append_assoc, length-append, arith}
use Rattle.std.proofs.lemmas.List.{append-nil}
use Rattle.locus_ids.specs.declared.config.Config.{Config}
use Rattle.schedule_lines.specs.Cluster.{config_of}
use Rattle.schedule_lines.specs.declared.line.Line.{Line}
use Rattle.schedule_lines.specs.declared.line.ScheduleLine.{ScheduleLine}
use Rattle.schedule_lines.specs.declared.line.ScheduleLine.TheVariants.{Event}
use Rattle.the_run.specs.Worlds.{World as RunWorld, first_world}
use Rattle.the_run.specs.Runs.{act, run}
use Rattle.generated_load.specs.Pieces.{events_of, header_lines}
use Rattle.world.specs.States.{state_of}
use Rattle.world.specs.Shown.{Taken, Shows, Follows}
use Rattle.schedule_run.proofs.Growing.{config_more, run_more}
use Rattle.schedule_run.specs.declared.opened.OpenedRun.{OpenedRun}
use Rattle.schedule_run.specs.Opened.{HasDone}

-- a line more was done
pub one_more : (lines : List ScheduleLine) (taken : Taken) (number : ℕ) (e : Line) (old new : OpenedRun) → number ≡ old.lines + 1 → new.lines ≡ number
    → Follows (λ c w. act c number e w) (state_of old.world) (state_of new.world) → HasDone lines taken old → HasDone (lines ++ Event e ∷ []) taken new
one_more lines taken number e old new en el f h =
    let o : old.lines ≡ length lines = h.count in
    let n : number ≡ length lines + 1 = omega arith in
    let c = config_more lines (Event e) in
    let r = run_more lines (Event e) number n c in
    record {
      count = omega (arith, length-append lines (Event e ∷ []));
      world = subst (λ (k : Config). Shows k taken (run (lines ++ Event e ∷ [])) (state_of new.world)) (sym c)
          (subst (λ (w : RunWorld). Shows (config_of lines) taken w (state_of new.world)) (sym r) (f (config_of lines) taken (run lines) h.world));
    }

-- all that was done before, these event lines, and these
abbrev pub Does : List Line → OpenedRun → OpenedRun → Type 0
Does events old new = (lines : List ScheduleLine) (taken : Taken) → HasDone lines taken old → HasDone (lines ++ events_of events) taken new

pub does_none : (r : OpenedRun) → Does [] r r
does_none r lines taken h = subst (λ (ls : List ScheduleLine). HasDone ls taken r) (sym (append-nil lines)) h

pub events_more : (lines : List ScheduleLine) (es : List Line) (e : Line) → (lines ++ events_of es) ++ Event e ∷ [] ≡ lines ++ events_of (es ++ e ∷ [])
events_more lines es e = append_assoc lines (events_of es) (Event e ∷ []) ∙ ap (λ (ls : List ScheduleLine). lines ++ ls) (pushed es)
  where
    pushed : (xs : List Line) → events_of xs ++ Event e ∷ [] ≡ events_of (xs ++ e ∷ [])
    pushed [] = refl
    pushed (x ∷ xs) = ap (λ (ls : List ScheduleLine). Event x ∷ ls) (pushed xs)

pub does_more : (es : List Line) (e : Line) (first old new : OpenedRun) → Does es first old
    → ((lines : List ScheduleLine) (taken : Taken) → HasDone lines taken old → HasDone (lines ++ Event e ∷ []) taken new) → Does (es ++ e ∷ []) first new
does_more es e first old new before last lines taken h =
    subst (λ (ls : List ScheduleLine). HasDone ls taken new) (events_more lines es e) (last (lines ++ events_of es) taken (before lines taken h))

-- the first world of the cluster, where the header lines were read
pub header_done : (taken : Taken) (config : Config) (r : OpenedRun) → config ≡ config_of header_lines → r.lines ≡ 4 → Shows config taken (first_world config) (state_of r.world) → HasDone header_lines taken r
header_done taken config r ec el sh = record {
  count = el;
  world = subst (λ (k : Config). Shows k taken (first_world k) (state_of r.world)) ec sh;
}

-- ---- the items of an iterator, and their number ----

pub items_next : (all es before after : List Line) (e : Line) (size left : ℕ) → es ++ before ≡ all → size ≡ length before → (before ≡ e ∷ after) × (left + 1 ≡ size)
    → ((es ++ e ∷ []) ++ after ≡ all) × (left ≡ length after)
items_next all es before after e size left rest many steps = (
  append_assoc es (e ∷ []) after ∙ (ap (λ (xs : List Line). es ++ xs) (sym steps.0) ∙ rest),
  let n : length before ≡ length (e ∷ after) = ap length steps.0 in let m : left + 1 ≡ size = steps.1 in omega arith,
)

none_of : (xs : List Line) → length xs ≡ 0 → xs ≡ []
none_of [] h = refl
none_of (x ∷ xs) h = absurd (omega arith)

pub items_end : (all es before : List Line) (size : ℕ) → es ++ before ≡ all → size ≡ length before → size ≡ 0 → es ≡ all
items_end all es before size rest many none = sym (append-nil es) ∙ (ap (λ (xs : List Line). es ++ xs) (sym (none_of before (sym many ∙ none))) ∙ rest)
