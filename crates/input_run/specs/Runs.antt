-- What the run of an input has written when it ends, and where it ends.
use Rattle.std.specs.Prelude.{ℕ, ◌≡◌, ◌<◌, ◌≤◌, ◌+◌, ◌⊎◌, List, [], ◌∷◌, ◌++◌, length, take, flat_map, None, Some}
use Rattle.std.specs.declared.option.Option.{Option}
use Rattle.std.specs.List.{AllByRecursion}
use Rattle.std.specs.Io.KnownBytes.{Appends}
use Rattle.locus_io.specs.Causes.{AppendsFront}
use Rattle.line_reader.specs.Reading.{whole_lines}
use Rattle.schedule_lines.specs.declared.line.ScheduleLine.{ScheduleLine}
use Rattle.the_run.specs.Worlds.{Limit}
use Rattle.the_run.specs.Runs.{run, printed, entries_of_run}
use Rattle.the_run.specs.Commands.{reply_line}
use Rattle.trace_book.specs.declared.entry.Entry.{Entry}
use Rattle.input_run.specs.Inputs.Input.{Schedule, Calls}
use Rattle.input_run.specs.Inputs.{Input, StandsFor, MayEndAfter, opening_of}

-- the replies of the run of these lines, without line numbers
abbrev pub replies_of : List ScheduleLine → List ℕ
replies_of lines = flat_map (λ (e : Entry). reply_line e.what) (entries_of_run (run lines))

-- what is written of the run of these lines: its trace, or its replies
abbrev pub output_of : Input → List ScheduleLine → List ℕ
output_of Schedule lines = printed (run lines)
output_of Calls lines = replies_of lines

-- there are at most 1,000,000 lines, of at most 16,384 bytes each
pub record IsWithinLimits (lines : List (List ℕ)) : Type 0 where
  pub few : length lines ≤ 1000000
  pub short : AllByRecursion (λ line. length line ≤ 16384) lines

-- the run of these lines passes no limit, and its output is written
pub record Writes (input : Input) (lines : List ScheduleLine) (before after : Option (List ℕ)) : Type 0 where
  pub within : (run lines).over ≡ None
  pub written : Appends before after (output_of input lines)

-- the lines of bytes are those of the input, and their run is written
pub record AreRun (input : Input) (all : List (List ℕ)) (before after : Option (List ℕ)) : Type 0 where
  pub lines : List ScheduleLine
  pub stands : StandsFor input all lines
  pub within : IsWithinLimits all
  pub writes : Writes input lines before after

-- the lines of bytes stand for these lines, after which the input may end, and are within the limits
pub record IsAccepted (input : Input) (all : List (List ℕ)) (lines : List ScheduleLine) : Type 0 where
  pub stands : StandsFor input all lines
  pub ends : MayEndAfter input lines
  pub within : IsWithinLimits all

-- the lines of bytes are accepted, and their run is written
pub record IsWholeRun (input : Input) (all : List (List ℕ)) (before after : Option (List ℕ)) : Type 0 where
  pub lines : List ScheduleLine
  pub accepted : IsAccepted input all lines
  pub writes : Writes input lines before after

-- the line may not stand after the earlier ones: with it they stand for no lines of a run
abbrev pub Refuses : Input → List (List ℕ) → List ℕ → Type 0
Refuses input earlier bytes = (lines : List ScheduleLine) → StandsFor input (earlier ++ bytes ∷ []) lines → ⊥

-- what is left after the earlier lines begins with a line that may not stand there; or nothing is left, and the input may not end
-- there
abbrev pub IsBadAfter : Input → List (List ℕ) → List ScheduleLine → List (List ℕ) → Type 0
IsBadAfter input earlier lines [] = MayEndAfter input lines → ⊥
IsBadAfter input earlier lines (bytes ∷ rest) = Refuses input earlier bytes

-- The program stops at the first bad line, which has this number from 1, and the run of the lines before it is written.
pub record StopsAtBad (input : Input) (all : List (List ℕ)) (number : ℕ) (before after : Option (List ℕ)) : Type 0 where
  pub earlier : List (List ℕ)
  pub later : List (List ℕ)
  pub split : all ≡ earlier ++ later
  pub numbered : number ≡ length earlier + 1
  pub lines : List ScheduleLine
  pub stands : StandsFor input earlier lines
  pub bad : IsBadAfter input earlier lines later
  pub within : IsWithinLimits (take number all)
  pub writes : Writes input lines before after

-- the program stops at a line that is too long
pub record StopsAtLong (input : Input) (all : List (List ℕ)) (before after : Option (List ℕ)) : Type 0 where
  pub earlier : List (List ℕ)
  pub line : List ℕ
  pub later : List (List ℕ)
  pub split : all ≡ earlier ++ line ∷ later
  pub few : length earlier < 1000000
  pub long : 16384 < length line
  pub runs : AreRun input earlier before after

-- the program stops at a line past the last that there may be
pub record StopsAtCount (input : Input) (all : List (List ℕ)) (before after : Option (List ℕ)) : Type 0 where
  pub earlier : List (List ℕ)
  pub later : List (List ℕ)
  pub split : all ≡ earlier ++ later
  pub full : length earlier ≡ 1000000
  pub more : 0 < length later
  pub runs : AreRun input earlier before after

-- The program stops where the source fails. Of the bytes that were taken from it, the lines that end with a line feed were
-- run, and no other.
pub record StopsAtFault (input : Input) (bytes left : List ℕ) (before after : Option (List ℕ)) : Type 0 where
  pub taken : List ℕ
  pub split : bytes ≡ taken ++ left
  pub read : List (List ℕ)
  pub whole : read ≡ whole_lines taken
  pub runs : AreRun input read before after

-- the run of the opening passes the limit, and its output is written
pub record PassesInOpening (input : Input) (limit : Limit) (before after : Option (List ℕ)) : Type 0 where
  pub passes : (run (opening_of input)).over ≡ Some limit
  pub written : Appends before after (output_of input (opening_of input))

-- The run passes the limit in this line and not before. Its output is written: it has the events before the one that passes the
-- limit.
pub record PassesAtLine (input : Input) (all : List (List ℕ)) (limit : Limit) (before after : Option (List ℕ)) : Type 0 where
  pub earlier : List (List ℕ)
  pub bytes : List ℕ
  pub later : List (List ℕ)
  pub split : all ≡ earlier ++ bytes ∷ later
  pub small : IsWithinLimits (earlier ++ bytes ∷ [])
  pub lines : List ScheduleLine
  pub stands : StandsFor input earlier lines
  pub within : (run lines).over ≡ None
  pub longer : List ScheduleLine
  pub next : StandsFor input (earlier ++ bytes ∷ []) longer
  pub passes : (run longer).over ≡ Some limit
  pub fresh : List ℕ
  pub more : output_of input longer ≡ output_of input lines ++ fresh
  pub written : Appends before after (output_of input longer)

-- the program stops where the run passes this limit
abbrev pub StopsAtLimit : Input → List (List ℕ) → Limit → Option (List ℕ) → Option (List ℕ) → Type 0
StopsAtLimit input all limit before after = PassesInOpening input limit before after ⊎ PassesAtLine input all limit before after

-- a front of the output of the run of some first lines is written
pub record WritesFront (input : Input) (all : List (List ℕ)) (before after : Option (List ℕ)) : Type 0 where
  pub earlier : List (List ℕ)
  pub later : List (List ℕ)
  pub split : all ≡ earlier ++ later
  pub lines : List ScheduleLine
  pub stands : StandsFor input earlier lines
  pub written : AppendsFront before after (output_of input lines)
