-- The runner after one line more.
use Rattle.std.proofs.Common.{◌≡◌, ℕ, ◌+◌, true, false, Bool, not, ◌&&◌, ◌||◌, List, [], ◌∷◌, ◌++◌, length, Option, None, Some, Result, Ok, Err, refl, sym, ap, subst, ◌∙◌}
use Rattle.std.specs.Prelude.{OnOk}
use Rattle.locus_ids.specs.declared.config.Config.{Config}
use Rattle.schedule_lines.specs.Cluster.{config_of, with_line}
use Rattle.schedule_lines.specs.Schedule.{has_begun, is_event}
use Rattle.schedule_lines.specs.declared.line.Line.{Line}
use Rattle.schedule_lines.specs.declared.line.ScheduleLine.{ScheduleLine}
use Rattle.schedule_lines.specs.declared.line.ScheduleLine.TheVariants.{Passed, Event}
use Rattle.the_run.specs.Worlds.{World as RunWorld, first_world}
use Rattle.the_run.specs.Runs.{act, run, printed}
use Rattle.world.specs.declared.world.World.{World}
use Rattle.world.specs.States.{WorldState, state_of}
use Rattle.world.specs.Shown.{Taken, all_taken, Shows, Follows}
use Rattle.line_text.specs.ReadSoFar.{ReadsNext}
use Rattle.line_text.specs.declared.schedule_reader.LineRead.TheVariants as told
use Rattle.line_text.specs.declared.schedule_reader.ScheduleReader.{ScheduleReader}
use Rattle.schedule_run.specs.declared.fault.RunFault.{RunFault}
use Rattle.schedule_run.specs.declared.runner.ScheduleRunner.{ScheduleRunner}
use Rattle.schedule_run.specs.Standing.{text_taken, StandsAs, HasRun, RunsNext}
use Rattle.schedule_run.proofs.Growing.{config_more, begun_more, run_more, run_quiet}

pub untrue : (a b : Bool) → (not a && b) ≡ true → a ≡ false
untrue true b e = absurd (cc)
untrue false b e = refl

not_begun : (lines : List ScheduleLine) (l : ScheduleLine) → has_begun lines ≡ false → is_event l ≡ false → has_begun (lines ++ l ∷ []) ≡ false
not_begun lines l e f = begun_more lines l ∙ rw (e, f) refl

begun : (lines : List ScheduleLine) (l : ScheduleLine) → has_begun lines ≡ true → has_begun (lines ++ l ∷ []) ≡ true
begun lines l e = begun_more lines l ∙ ap (λ b. b || is_event l) e

-- an empty line or a comment
pub passed_stands : (lines : List ScheduleLine) (taken : List ℕ) (number : ℕ) (w : Option World) → number ≡ length lines + 1 → StandsAs lines taken w → StandsAs (lines ++ Passed ∷ []) taken w
passed_stands lines taken number None e s = (not_begun lines Passed s.0 refl, s.1)
passed_stands lines taken number (Some x) e s =
    let c = config_more lines Passed in
    let r = run_more lines Passed number e c in
    (begun lines Passed s.0, subst (λ (k : Config). Shows k (text_taken taken) (run (lines ++ Passed ∷ [])) (state_of x)) (sym c) (subst (λ (w : RunWorld). Shows (config_of lines) (text_taken taken) w (state_of x)) (sym r) s.1))

is_begun : (lines : List ScheduleLine) (e : Line) → has_begun (lines ++ Event e ∷ []) ≡ true
is_begun lines e = begun_more lines (Event e) ∙ or_true (has_begun lines) where
  or_true : (b : Bool) → (b || true) ≡ true
  or_true true = refl
  or_true false = refl

-- an event line, done in a world that shows the run
pub event_stands : (lines : List ScheduleLine) (taken : List ℕ) (number : ℕ) (e : Line) (x y : World) → number ≡ length lines + 1 → Shows (config_of lines) (text_taken taken) (run lines) (state_of x) → Follows (λ c w. act c number e w) (state_of x) (state_of y) → StandsAs (lines ++ Event e ∷ []) taken (Some y)
event_stands lines taken number e x y en sh f =
    let c = config_more lines (Event e) in
    let r = run_more lines (Event e) number en c in
    (is_begun lines e, subst (λ (k : Config). Shows k (text_taken taken) (run (lines ++ Event e ∷ [])) (state_of y)) (sym c) (subst (λ (w : RunWorld). Shows (config_of lines) (text_taken taken) w (state_of y)) (sym r) (f (config_of lines) (text_taken taken) (run lines) sh)))

-- the first world, before the first event line
pub first_stands : (lines : List ScheduleLine) (taken : List ℕ) (config : Config) (x : WorldState) → has_begun lines ≡ false → taken ≡ [] → config ≡ config_of lines → Shows config (text_taken []) (first_world config) x → Shows (config_of lines) (text_taken taken) (run lines) x
first_stands lines taken config x b t c sh =
    subst (λ (w : RunWorld). Shows (config_of lines) (text_taken taken) w x) (sym (run_quiet lines b))
    (subst (λ (ts : List ℕ). Shows (config_of lines) (text_taken ts) (first_world (config_of lines)) x) (sym t)
    (subst (λ (k : Config). Shows k (text_taken []) (first_world k) x) c sh))

-- what is told before the first event line: nothing
pub nothing_told : (lines : List ScheduleLine) → has_begun lines ≡ false → printed (run lines) ≡ []
nothing_told lines b = ap printed (run_quiet lines b)

-- the runner after an empty line or a comment
pub passed_next : (lines : List ScheduleLine) (bytes taken : List ℕ) (number : ℕ) (r new : ScheduleRunner) → number ≡ length lines + 1 → HasRun lines taken r → ReadsNext lines bytes told.Passed new.reader → new.world ≡ r.world → RunsNext lines bytes taken new
passed_next lines bytes taken number r new en h n same = record {
  line = n.line;
  reads = n.reads;
  ran = record {
    reader = n.next;
    world = subst (λ (x : Option World). StandsAs (lines ++ n.line ∷ []) taken x) (sym same)
        (subst (λ (l : ScheduleLine). StandsAs (lines ++ l ∷ []) taken r.world) (sym n.tells) (passed_stands lines taken number r.world en h.world));
  };
}

-- what an event line does in a world that stands as the run does: where the event goes well, the runner is the one after it
pub event_next : (lines : List ScheduleLine) (bytes taken : List ℕ) (number : ℕ) (e : Line) (r mid new : ScheduleRunner) (f : Result (Unit {0}) RunFault) →
    number ≡ length lines + 1 → HasRun lines taken r → ReadsNext lines bytes (told.Event e) mid.reader → mid.world ≡ r.world → OnOk f (new.reader ≡ mid.reader)
    → ((ls : List ScheduleLine) (ts : List ℕ) → number ≡ length ls + 1 → mid.reader.header.config ≡ config_of ls → StandsAs ls ts mid.world → OnOk f (StandsAs (ls ++ Event e ∷ []) ts new.world))
    → OnOk f (RunsNext lines bytes taken new)
event_next lines bytes taken number e r mid new (Err x) en h n same kept acts = tt
event_next lines bytes taken number e r mid new (Ok x) en h n same kept acts =
    let config : mid.reader.header.config ≡ config_of lines = ap (λ (k : ScheduleReader). k.header.config) n.next ∙ (config_more lines n.line ∙ ap (with_line (config_of lines)) n.tells) in
    let stood : StandsAs lines taken mid.world = subst (λ (y : Option World). StandsAs lines taken y) (sym same) h.world in
    record {
      line = n.line;
      reads = n.reads;
      ran = record {
        reader = kept ∙ n.next;
        world = subst (λ (l : ScheduleLine). StandsAs (lines ++ l ∷ []) taken new.world) (sym n.tells) (acts lines taken en config stood);
      };
    }

-- the runner whose text was taken
pub taken_stands : (lines : List ScheduleLine) (taken : List ℕ) (x y : World) → StandsAs lines taken (Some x)
    → ((c : Config) (ts : Taken) (v : RunWorld) → Shows c ts v (state_of x) → Shows c (all_taken ts.writing v) v (state_of y)) → StandsAs lines (printed (run lines)) (Some y)
taken_stands lines taken x y s f = (s.0, f (config_of lines) (text_taken taken) (run lines) s.1)

pub none_stands : (lines : List ScheduleLine) (taken : List ℕ) → StandsAs lines taken None → StandsAs lines (printed (run lines)) None
none_stands lines taken s = (s.0, nothing_told lines s.0)

-- without a world there is no limit
pub none_over : (lines : List ScheduleLine) → has_begun lines ≡ false → None ≡ (run lines).over
none_over lines b = ap (λ (w : RunWorld). w.over) (sym (run_quiet lines b))
