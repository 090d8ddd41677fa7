-- The load with one event done, and with all.
use Rattle.std.specs.Prelude.{IfSome}
use Rattle.std.proofs.Common.{◌≡◌, ℕ, zero, suc, ◌+◌, ◌-◌, ◌≤◌, Option, Some, List, ◌++◌, sym, ap, subst, ◌∙◌, append_assoc, arith}
use Rattle.schedule_lines.specs.declared.line.Line.{Line}
use Rattle.schedule_lines.specs.declared.line.ScheduleLine.{ScheduleLine}
use Rattle.rand_pcg.specs.Lcg.{Lcg}
use Rattle.the_run.specs.Commands.{closing_lines, load_events, load_lines, opening_lines}
use Rattle.generated_load.specs.Draws.{draw, draws_from, draws_of}
use Rattle.generated_load.specs.Pieces.{LoadLeft, events_of, first_left, lines_left, lines_of, moved, next_lines}
use Rattle.world.specs.Shown.{Taken}
use Rattle.schedule_run.specs.declared.opened.OpenedRun.{OpenedRun}
use Rattle.schedule_run.specs.Opened.{HasDone}

pub left_next : (event left : ℕ) (g : Lcg) → 1 ≤ left → lines_left (record { event = event; left = left; generator = g }) ≡ next_lines (record { event = event; left = left; generator = g }) ++ lines_left (moved (record { event = event; left = left; generator = g }))
left_next event zero g h = absurd (omega arith)
left_next event (suc k) g h = let e : k ≡ suc k - 1 = omega arith in ap (λ j. lines_of event (draw g).0 ++ load_events (event + 1) (draws_from j (draw g).1)) e

-- some events of the load were done, and these are left
abbrev pub Does : LoadLeft → LoadLeft → OpenedRun → OpenedRun → Type 0
Does first l old new = (lines : List ScheduleLine) (taken : Taken) → HasDone lines taken old → (done : List ScheduleLine) × (done ++ lines_left l ≡ lines_left first) × HasDone (lines ++ done) taken new

pub does_next : (first l m : LoadLeft) (events : List Line) (start old new : OpenedRun) → 1 ≤ l.left → events_of events ≡ next_lines l → m ≡ moved l → Does first l start old
    → ((lines : List ScheduleLine) (taken : Taken) → HasDone lines taken old → HasDone (lines ++ events_of events) taken new) → Does first m start new
does_next first l m events start old new some ee em before last lines taken h =
    let b = before lines taken h in
    let next : lines_left l ≡ next_lines l ++ lines_left (moved l) = left_next l.event l.left l.generator some in (
      b.0 ++ next_lines l,
      append_assoc b.0 (next_lines l) (lines_left m) ∙ (ap (λ (k : LoadLeft). b.0 ++ (next_lines l ++ lines_left k)) em ∙ (ap (λ (ls : List ScheduleLine). b.0 ++ ls) (sym next) ∙ b.1)),
      subst (λ (ls : List ScheduleLine). HasDone ls taken new) (append_assoc lines b.0 (next_lines l))
          (subst (λ (ls : List ScheduleLine). HasDone ((lines ++ b.0) ++ ls) taken new) ee (last (lines ++ b.0) taken b.2)),
    )

-- the whole load
pub load_whole : (number events : ℕ) (left closing : List ScheduleLine) → left ≡ lines_left (first_left number events) → closing ≡ closing_lines → (opening_lines 20000 ++ left) ++ closing ≡ load_lines (draws_of number events)
load_whole number events left closing el ec =
    append_assoc (opening_lines 20000) left closing
    ∙ (ap (λ (ls : List ScheduleLine). opening_lines 20000 ++ (ls ++ closing)) el ∙ ap (λ (ls : List ScheduleLine). opening_lines 20000 ++ (lines_left (first_left number events) ++ ls)) ec)

pub some_has : {V : Type 0} (P : V → Type 0) (made : Option V) (x : V) → made ≡ Some x → IfSome made P → P x
some_has {V} P made x e h = subst (λ (o : Option V). IfSome o P) e h
