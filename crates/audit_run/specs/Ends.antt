-- How the audit of an input ends.
use Rattle.std.specs.Prelude.{ℕ, ◌≡◌, ◌≢◌, ◌<◌, ◌≤◌, ◌⊎◌, List, ◌∷◌, ◌++◌, length, take, Result, Ok, Err, Some, IfSome}
use Rattle.std.specs.declared.option.Option.{Option}
use Rattle.std.specs.List.{AllByRecursion}
use Rattle.std.specs.Io.KnownBytes.{IsAtEnd}
use Rattle.line_reader.specs.Reading.{lines_of}
use Rattle.audit_input.specs.Input.{IsBadAt, IsInput, ReadsAll, nothing_read}
use Rattle.audit_input.specs.declared.audit_reader.AuditLine.{AuditLine}
use Rattle.audit_input.specs.declared.audit_reader.AuditReader.{AuditReader}
use Rattle.audit_answers.specs.Answers.{IsAnswered}
use Rattle.audit_answers.specs.declared.answer.Answer.{Answer}
use Rattle.audit_run.specs.declared.fault.AuditFault.{AuditFault}
use Rattle.audit_run.specs.declared.fault.AuditFault.TheVariants.{BadLine, LongLine, ManyLines, NoMemory, ReadFault}

-- there are at most 1,000,000 lines, of at most 4,194,304 bytes each
pub record IsWithinLimits (lines : List (List ℕ)) : Type 0 where
  pub few : length lines ≤ 1000000
  pub short : AllByRecursion (λ line. length line ≤ 4194304) lines

-- these lines of bytes may stand as the first of an input, and are within the limits
pub record AreRead (bytes : List (List ℕ)) : Type 0 where
  pub lines : List AuditLine
  pub after : AuditReader
  pub reads : ReadsAll nothing_read bytes lines after
  pub within : IsWithinLimits bytes

-- the whole input is read, and has this answer
pub record AreAnswered (all : List (List ℕ)) (a : Answer) : Type 0 where
  pub answered : IsAnswered all a
  pub within : IsWithinLimits all

-- the audit stops at the first bad line, which has this number from 1
pub record StopsAtBad (all : List (List ℕ)) (number : ℕ) : Type 0 where
  pub bad : IsBadAt all number
  pub within : IsWithinLimits (take number all)

-- at a line that is too long
pub record StopsAtLong (all : List (List ℕ)) : Type 0 where
  pub earlier : List (List ℕ)
  pub line : List ℕ
  pub later : List (List ℕ)
  pub split : all ≡ earlier ++ line ∷ later
  pub few : length earlier < 1000000
  pub long : 4194304 < length line
  pub read : AreRead earlier

-- at a line past the last that there may be
pub record StopsAtCount (all : List (List ℕ)) : Type 0 where
  pub earlier : List (List ℕ)
  pub later : List (List ℕ)
  pub split : all ≡ earlier ++ later
  pub full : length earlier ≡ 1000000
  pub more : 0 < length later
  pub read : AreRead earlier

-- What the audit promises of its result, and of the bytes that its source has left before and after.
pub record Ends (result : Result Answer AuditFault) (source left : Option (List ℕ)) : Type 0 where
  -- the whole input is answered
  pub answered : (a : Answer) → result ≡ Ok a → IfSome source (λ bytes. IsAtEnd left × AreAnswered (lines_of bytes) a)
  -- why there is no answer
  pub bad_line : (n : ℕ) → result ≡ Err (BadLine n) → IfSome source (λ bytes. StopsAtBad (lines_of bytes) n)
  pub long_line : result ≡ Err LongLine → IfSome source (λ bytes. StopsAtLong (lines_of bytes))
  pub many_lines : result ≡ Err ManyLines → IfSome source (λ bytes. StopsAtCount (lines_of bytes))
  -- an input within the limits is answered where nothing fails
  pub complete : (bytes : List ℕ) (lines : List AuditLine) → source ≡ Some bytes → IsInput (lines_of bytes) lines → IsWithinLimits (lines_of bytes)
      → result ≢ Err ReadFault → ((a : Answer) × (result ≡ Ok a)) ⊎ (result ≡ Err NoMemory)
