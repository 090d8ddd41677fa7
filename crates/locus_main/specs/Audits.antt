-- What the audit of an input promises.
use Rattle.std.specs.Prelude.{ℕ, ◌≡◌, ◌≢◌, ◌⊎◌, Bool, true, false, List, Some, IfSome}
use Rattle.std.specs.declared.option.Option.{Option}
use Rattle.std.specs.Io.KnownBytes.{Appends, Keeps, IsAtEnd}
use Rattle.locus_io.specs.Causes.{AppendsFront}
use Rattle.line_reader.specs.Reading.{lines_of}
use Rattle.audit_run.specs.of_audit_input.Input.{IsInput}
use Rattle.audit_run.specs.of_audit_input.declared.audit_reader.AuditLine.{AuditLine}
use Rattle.audit_run.specs.of_audit_answers.Answers.{answer_text}
use Rattle.audit_run.specs.of_audit_answers.declared.answer.Answer.{Answer}
use Rattle.audit_run.specs.Ends.{AreAnswered, IsWithinLimits, StopsAtBad, StopsAtCount, StopsAtLong}
use Rattle.audit_run.specs.declared.fault.AuditFault.{AuditFault}
use Rattle.audit_run.specs.declared.fault.AuditFault.TheVariants as fault
use Rattle.input_run.specs.declared.status.Status.{Status}
use Rattle.input_run.specs.declared.status.Status.TheVariants as status
use Rattle.input_run.specs.declared.status.Limited.TheVariants.{Line, Lines}
use Rattle.input_run.specs.Promises.{ComesThrough}

-- what an audit comes to where there is no answer
abbrev pub status_of_audit : AuditFault → Status
status_of_audit (fault.BadLine line) = status.BadLine line
status_of_audit fault.LongLine = status.Limit Line
status_of_audit fault.ManyLines = status.Limit Lines
status_of_audit fault.ReadFault = status.ReadFault
status_of_audit fault.NoMemory = status.NoMemory

-- an audit may end so
abbrev pub ends_audit : Status → Bool
ends_audit status.Ok = true
ends_audit status.BadWords = false
ends_audit (status.BadLine line) = true
ends_audit status.ReadFault = true
ends_audit status.WriteFault = true
ends_audit status.NoMemory = true
ends_audit (status.Limit Line) = true
ends_audit (status.Limit Lines) = true
ends_audit (status.Limit _) = false

-- and where it ends so nothing is answered
abbrev pub ends_unanswered : Status → Bool
ends_unanswered (status.BadLine line) = true
ends_unanswered status.ReadFault = true
ends_unanswered (status.Limit what) = true
ends_unanswered _ = false

-- the lines of bytes are an input within the limits, and its answer is written
pub record WritesAnswer (all : List (List ℕ)) (before after : Option (List ℕ)) : Type 0 where
  pub answer : Answer
  pub answered : AreAnswered all answer
  pub written : Appends before after (answer_text answer)

-- or a front of it
pub record WritesFrontOfAnswer (all : List (List ℕ)) (before after : Option (List ℕ)) : Type 0 where
  pub answer : Answer
  pub answered : AreAnswered all answer
  pub written : AppendsFront before after (answer_text answer)

-- What `audit` promises of its status, of the bytes of its source before and after, and of those that its sink has taken before and after.
pub record AuditPromises (result : Status) (source left before after : Option (List ℕ)) : Type 0 where
  -- the whole input is read, and its answer is written
  pub whole : result ≡ status.Ok → IfSome source (λ bytes. IsAtEnd left × WritesAnswer (lines_of bytes) before after)
  -- why it ends otherwise
  pub bad_line : (line : ℕ) → result ≡ status.BadLine line → IfSome source (λ bytes. StopsAtBad (lines_of bytes) line)
  pub long_line : result ≡ status.Limit Line → IfSome source (λ bytes. StopsAtLong (lines_of bytes))
  pub many_lines : result ≡ status.Limit Lines → IfSome source (λ bytes. StopsAtCount (lines_of bytes))
  pub only : ends_audit result ≡ true
  -- nothing is written then, and whatever comes, nothing before the input was read to its end
  pub silent : ends_unanswered result ≡ true → Keeps before after
  pub front : Keeps before after ⊎ IfSome source (λ bytes. WritesFrontOfAnswer (lines_of bytes) before after)
  -- an input within the limits is answered where nothing fails
  pub complete : (bytes : List ℕ) (lines : List AuditLine) → source ≡ Some bytes → IsInput (lines_of bytes) lines → IsWithinLimits (lines_of bytes)
      → result ≢ status.ReadFault → result ≢ status.WriteFault → ComesThrough result
