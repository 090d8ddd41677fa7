-- What the lines of a command's input are.
use Rattle.std.specs.Prelude.{ℕ, ◌≡◌, List, [], ◌∷◌, Option, None, Some}
use Rattle.schedule_lines.specs.declared.line.ScheduleLine.{ScheduleLine}
use Rattle.schedule_lines.specs.Schedule.{IsSchedule, MayEnd}
use Rattle.the_run.specs.Commands.{Asked, opening_lines, tree_lines}
use Rattle.the_run.specs.Asking.{Asks}

-- the lines of `run` are a schedule, those of `tree` are calls on the fixed cluster
pub data Input : Type 0 where
  Schedule : Input
  Calls : Input

-- a call before others, or nothing
abbrev pub before_calls : Option Asked → List Asked → List Asked
before_calls None calls = calls
before_calls (Some a) calls = a ∷ calls

-- each of these lines of bytes asks the next of these calls, or, empty or a comment, nothing
abbrev pub AskAll : List (List ℕ) → List Asked → Type 0
AskAll [] [] = Unit {0}
AskAll [] (a ∷ calls) = ⊥
AskAll (bytes ∷ rest) calls = (asked : Option Asked) × (later : List Asked) × Asks bytes asked × AskAll rest later × (calls ≡ before_calls asked later)

-- these lines of bytes are those of a tree, and these are the lines of its run
pub record AreCalls (bytes : List (List ℕ)) (lines : List ScheduleLine) : Type 0 where
  pub calls : List Asked
  pub asked : AskAll bytes calls
  pub run : lines ≡ tree_lines calls

-- these lines of the input stand for these lines of a run
abbrev pub StandsFor : Input → List (List ℕ) → List ScheduleLine → Type 0
StandsFor Schedule bytes lines = IsSchedule bytes lines
StandsFor Calls bytes lines = AreCalls bytes lines

-- the input may end where it stands for these lines: a schedule has its whole header, and calls may end anywhere
abbrev pub MayEndAfter : Input → List ScheduleLine → Type 0
MayEndAfter Schedule lines = MayEnd lines
MayEndAfter Calls lines = Unit {0}

-- the lines that are run before the first of the input
unfoldable pub opening_of : Input → List ScheduleLine
opening_of Schedule = []
opening_of Calls = opening_lines 100000
