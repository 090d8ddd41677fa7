-- That what a command writes is of a trace of which a promise holds. These words don't name the run.
use Rattle.std.specs.Prelude.{ℕ, ◌≡◌, ◌<◌, ◌+◌, ◌⊎◌, Bool, true, false, List, [], ◌∷◌, ◌++◌, length, flat_map, reverse, Option, IfSome}
use Rattle.std.specs.Io.KnownBytes.{Appends}
use Rattle.schedule_lines.specs.declared.line.ScheduleLine.{ScheduleLine}
use Rattle.trace_book.specs.declared.entry.Entry.{Entry}
use Rattle.the_run.specs.Commands.{reply_line, counts_text, counts_onto, no_counts, load_lines}
use Rattle.headline_laws.specs.of_tree_model.Folds.{Trace, told}
use Rattle.generated_load.specs.Draws.{draws_of}
use Rattle.command_words.specs.Words.{IsCommand}
use Rattle.command_words.specs.declared.command.Command.{Command}
use Rattle.command_words.specs.declared.command.Command.TheVariants as command
use Rattle.line_reader.specs.Reading.{lines_of}
use Rattle.locus_io.specs.Causes.{AppendsFront}
use Rattle.input_run.specs.Inputs.{Input, StandsFor}
use Rattle.input_run.specs.Inputs.Input.{Schedule, Calls}
use Rattle.input_run.specs.declared.status.Status.{Status}
use Rattle.input_run.specs.declared.status.Status.TheVariants as status
use Rattle.input_run.specs.declared.status.Limited.TheVariants.{Line, Lines}

-- what is promised of lines and of a trace, the latest record first
abbrev pub Promise : Type 1
Promise = List ScheduleLine → Trace → Type 0

-- the command that reads such an input
abbrev pub command_of : Input → Command
command_of Schedule = command.Run
command_of Calls = command.Tree

-- what is written of a trace: its text, or its replies, or of a load's trace its counts
abbrev pub written_of : Input → Trace → List ℕ
written_of Schedule trace = told trace
written_of Calls trace = flat_map (λ (e : Entry). reply_line e.what) (reverse trace)

abbrev pub counts_of : List ScheduleLine → Trace → List ℕ
counts_of lines trace = counts_text (length lines) (counts_onto no_counts (reverse trace))

-- its input ends the command, or a read that fails: no limit of the run does, no fault of the sink, and no want of memory
abbrev pub ends_by_input : Status → Bool
ends_by_input status.Ok = true
ends_by_input (status.BadLine line) = true
ends_by_input status.ReadFault = true
ends_by_input (status.Limit Line) = true
ends_by_input (status.Limit Lines) = true
ends_by_input _ = false

-- all is written: no fault of the sink ends the command, and no want of memory
abbrev pub ends_told : Status → Bool
ends_told (status.Limit what) = true
ends_told s = ends_by_input s

-- the first of these lines is too long
abbrev pub IsFirstLong : List (List ℕ) → Type 0
IsFirstLong [] = ⊥
IsFirstLong (line ∷ later) = 16384 < length line

-- how many lines the command has run, and why no more: where it ends well they are all
abbrev pub EndsAt : Status → (earlier later : List (List ℕ)) → Type 0
EndsAt status.Ok earlier later = later ≡ []
EndsAt (status.BadLine number) earlier later = number ≡ length earlier + 1
EndsAt (status.Limit Line) earlier later = IsFirstLong later
EndsAt (status.Limit Lines) earlier later = length earlier ≡ 1000000
EndsAt _ earlier later = Unit {0}

-- The promise holds of a trace of all these lines but the last: what is written of it stands before what that one adds.
pub record KeepsBefore (Within : Promise) (input : Input) (run : List (List ℕ)) (before after : Option (List ℕ)) : Type 0 where
  pub earlier : List (List ℕ)
  pub last : List ℕ
  pub split : run ≡ earlier ++ last ∷ []
  pub lines : List ScheduleLine
  pub stands : StandsFor input earlier lines
  pub trace : Trace
  pub holds : Within lines trace
  pub fresh : List ℕ
  pub written : Appends before after (written_of input trace ++ fresh)

-- The first promise holds of a trace of the first lines of an input, and a front of what is written of it stands: all of it, unless the
-- sink or the memory ends the command. Where the input ends it the second promise holds of the trace too, and where a limit does, it holds
-- before the line that passes it.
pub record Keeps (P Within : Promise) (input : Input) (result : Status) (all : List (List ℕ)) (before after : Option (List ℕ)) : Type 0 where
  pub earlier : List (List ℕ)
  pub later : List (List ℕ)
  pub split : all ≡ earlier ++ later
  pub ends : EndsAt result earlier later
  pub lines : List ScheduleLine
  pub stands : StandsFor input earlier lines
  pub trace : Trace
  pub holds : P lines trace
  pub within : ends_by_input result ≡ true → Within lines trace
  pub until : ends_by_input result ≡ false → ends_told result ≡ true → (earlier ≡ []) ⊎ KeepsBefore Within input earlier before after
  pub front : AppendsFront before after (written_of input trace)
  pub written : ends_told result ≡ true → Appends before after (written_of input trace)

-- the same of a generated load, which has no input: of all its lines
pub record LoadKeeps (P Within : Promise) (lines : List ScheduleLine) (result : Status) (before after : Option (List ℕ)) : Type 0 where
  pub trace : Trace
  pub holds : P lines trace
  pub within : result ≡ status.Ok → Within lines trace
  pub front : AppendsFront before after (counts_of lines trace)
  pub written : result ≡ status.Ok → Appends before after (counts_of lines trace)

-- the command that these words are keeps both promises, whichever of the three it is
pub record CommandKeeps (P Within : Promise) (words : List (List ℕ)) (result : Status) (source before after : Option (List ℕ)) : Type 0 where
  pub lines : (input : Input) → IsCommand words (command_of input) → IfSome source (λ bytes. Keeps P Within input result (lines_of bytes) before after)
  pub load : (number events : ℕ) → IsCommand words (command.Make number events) → LoadKeeps P Within (load_lines (draws_of number events)) result before after

-- what holds of the lines for which each first part of the input stands, or of those of the load
pub record CommandRuns (P : List ScheduleLine → Type 0) (words : List (List ℕ)) (source : Option (List ℕ)) : Type 0 where
  pub lines : (input : Input) → IsCommand words (command_of input) → IfSome source (λ bytes. (earlier later : List (List ℕ)) (lines : List ScheduleLine) → lines_of bytes ≡ earlier ++ later → StandsFor input earlier lines → P lines)
  pub load : (number events : ℕ) → IsCommand words (command.Make number events) → P (load_lines (draws_of number events))
