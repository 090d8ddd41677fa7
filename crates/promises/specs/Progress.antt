-- That sites agree and calls are answered: of the lines of a schedule, and of the records of its trace.
use Rattle.std.specs.Prelude.{ℕ, ◌≡◌, ◌≤◌, false, List}
use Rattle.std.specs.List.{list_any}
use Rattle.schedule_lines.specs.declared.line.Line.TheVariants as line
use Rattle.schedule_lines.specs.declared.line.ScheduleLine.{ScheduleLine}
use Rattle.schedule_lines.specs.declared.line.ScheduleLine.TheVariants.{Event}
use Rattle.lawful_trace.specs.of_tree_model.Folds.{Trace}
use Rattle.lawful_trace.specs.Calm.{CalmRoundsAnswer, tells_budget}
use Rattle.lawful_trace.specs.Orderly.{LeavesAreOwn, OrderlyBlocksForm}
use Rattle.lawful_trace.specs.Places.{line_at}

-- A round with a budget of 262,144 or more doesn't end by it: a run that passes no limit sends no more packets, and a round delivers
-- each once at most.
abbrev pub LargeRoundsEnd : List ScheduleLine → Trace → Type 0
LargeRoundsEnd lines trace = (n most : ℕ) → line_at lines n ≡ Event (line.Settle most) → 262144 ≤ most → list_any (tells_budget n) trace ≡ false

-- What comes about in a run that passes no limit.
pub record Progress (lines : List ScheduleLine) (trace : Trace) : Type 0 where
  -- in an orderly schedule each block of lines that part and merge forms just the epochs that it should
  pub formed : OrderlyBlocksForm lines trace
  -- and a site leaves its epoch by its own line, or where it is asked to another
  pub leaves : LeavesAreOwn lines trace
  -- after a calm round no call of a member waits, mends included
  pub answers : CalmRoundsAnswer lines trace
  -- a round whose budget is no less than the packets that there may be doesn't end by it
  pub rounds : LargeRoundsEnd lines trace
