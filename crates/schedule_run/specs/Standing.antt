-- Where a runner stands after some lines of a schedule.
use Rattle.std.specs.Prelude.{◌≡◌, ℕ, true, false, List, [], ◌∷◌, ◌++◌, Option, None, Some}
use Rattle.schedule_lines.specs.Cluster.{config_of}
use Rattle.schedule_lines.specs.Schedule.{has_begun, Reads}
use Rattle.schedule_lines.specs.declared.line.ScheduleLine.{ScheduleLine}
use Rattle.line_text.specs.ReadSoFar.{reader_after}
use Rattle.the_run.specs.Runs.{run}
use Rattle.run_book.specs.declared.writing.Writing.TheVariants.{Trace}
use Rattle.world.specs.States.{state_of}
use Rattle.world.specs.Shown.{Taken, Shows}
use Rattle.world.specs.declared.world.World.{World}
use Rattle.schedule_run.specs.declared.runner.ScheduleRunner.{ScheduleRunner}

-- these bytes of the trace's text were taken
abbrev pub text_taken : List ℕ → Taken
text_taken bytes = record { writing = Trace; bytes = bytes }

-- before the first event line there is no world, and nothing is told; then the world shows the run
abbrev pub StandsAs : List ScheduleLine → List ℕ → Option World → Type 0
StandsAs lines taken None = (has_begun lines ≡ false) × (taken ≡ [])
StandsAs lines taken (Some x) = (has_begun lines ≡ true) × Shows (config_of lines) (text_taken taken) (run lines) (state_of x)

-- the world shows the run of these lines
abbrev pub ShowsRun : List ScheduleLine → List ℕ → Option World → Type 0
ShowsRun lines taken None = ⊥
ShowsRun lines taken (Some x) = Shows (config_of lines) (text_taken taken) (run lines) (state_of x)

-- the runner after these lines, where these bytes of the trace's text were taken
pub record HasRun (lines : List ScheduleLine) (taken : List ℕ) (r : ScheduleRunner) : Type 0 where
  pub reader : r.reader ≡ reader_after lines
  pub world : StandsAs lines taken r.world

-- the bytes are a line that may stand after these lines
pub record MayStand (lines : List ScheduleLine) (bytes : List ℕ) : Type 0 where
  pub line : ScheduleLine
  pub reads : Reads lines bytes line

-- the bytes are a line that may stand after these lines, and the runner is then the one after it
pub record RunsNext (lines : List ScheduleLine) (bytes taken : List ℕ) (new : ScheduleRunner) : Type 0 where
  pub line : ScheduleLine
  pub reads : Reads lines bytes line
  pub ran : HasRun (lines ++ line ∷ []) taken new
