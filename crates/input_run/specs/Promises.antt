-- What each command promises.
use Rattle.std.specs.Prelude.{ℕ, ◌≡◌, ◌≢◌, ◌⊎◌, true, List, None, Some, IfSome}
use Rattle.std.specs.declared.option.Option.{Option}
use Rattle.std.specs.Io.KnownBytes.{Appends, Keeps, IsAtEnd}
use Rattle.locus_io.specs.Causes.{AppendsFront}
use Rattle.line_reader.specs.Reading.{lines_of, Between}
use Rattle.schedule_lines.specs.declared.line.ScheduleLine.{ScheduleLine}
use Rattle.the_run.specs.Worlds.{Limit}
use Rattle.the_run.specs.Runs.{run}
use Rattle.input_run.specs.declared.status.Status.{Status}
use Rattle.input_run.specs.declared.status.Status.TheVariants as status
use Rattle.input_run.specs.declared.status.Limited.TheVariants.{Line, Lines}
use Rattle.input_run.specs.Codes.{limited, ends_load}
use Rattle.input_run.specs.Inputs.{Input}
use Rattle.input_run.specs.Runs.{IsAccepted, IsWholeRun, StopsAtBad, StopsAtLong, StopsAtCount, StopsAtFault, StopsAtLimit, WritesFront}

-- a command came to its end, or found no memory
abbrev pub ComesThrough : Status → Type 0
ComesThrough result = (result ≡ status.Ok) ⊎ (result ≡ status.NoMemory)

-- What a command that reads lines promises of its status, of the bytes of its source before and after, and of those that its sink
-- has taken before and after.
pub record LinePromises (input : Input) (result : Status) (source left before after : Option (List ℕ)) : Type 0 where
  -- the whole input is accepted, its run passes no limit, and the output is written
  pub whole : result ≡ status.Ok → IfSome source (λ bytes. IsAtEnd left × IsWholeRun input (lines_of bytes) before after)
  -- why it ends otherwise, and what is written then
  pub bad_line : (line : ℕ) → result ≡ status.BadLine line → IfSome source (λ bytes. StopsAtBad input (lines_of bytes) line before after)
  pub cut_off : result ≡ status.ReadFault → Between source left (λ bytes rest. StopsAtFault input bytes rest before after)
  pub long_line : result ≡ status.Limit Line → IfSome source (λ bytes. StopsAtLong input (lines_of bytes) before after)
  pub many_lines : result ≡ status.Limit Lines → IfSome source (λ bytes. StopsAtCount input (lines_of bytes) before after)
  pub limit : (l : Limit) → result ≡ status.Limit (limited l) → IfSome source (λ bytes. StopsAtLimit input (lines_of bytes) l before after)
  -- whatever comes, a front of the output of some first lines is written
  pub front : IfSome source (λ bytes. WritesFront input (lines_of bytes) before after)
  -- an accepted input within the limits is run to its end where nothing fails
  pub complete : (bytes : List ℕ) (lines : List ScheduleLine) → source ≡ Some bytes → IsAccepted input (lines_of bytes) lines
      → (run lines).over ≡ None → result ≢ status.ReadFault → result ≢ status.WriteFault → ComesThrough result

-- What `make` promises of its status, and of the bytes that its sink has taken before and after, where the run of its load passes this
-- limit or none and this is the text of its counts.
pub record LoadPromises (over : Option Limit) (text : List ℕ) (result : Status) (before after : Option (List ℕ)) : Type 0 where
  -- no limit is passed, and the counts are written
  pub within : result ≡ status.Ok → over ≡ None
  pub whole : result ≡ status.Ok → Appends before after text
  -- a limit is answered where the run passes it
  pub limit : (l : Limit) → result ≡ status.Limit (limited l) → over ≡ Some l
  -- nothing is written where a limit is passed
  pub stops : (l : Limit) → over ≡ Some l → Keeps before after
  -- no status comes that a reader or bad words have, and whatever comes, a front of the counts is written
  pub only : ends_load result ≡ true
  pub front : AppendsFront before after text
  -- a load whose run passes no limit comes to its end where no write fails
  pub complete : over ≡ None → result ≢ status.WriteFault → ComesThrough result
