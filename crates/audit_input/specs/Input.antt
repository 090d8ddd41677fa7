-- What the input of an audit is: header lines, the line `trace`, and lines of a trace; empty lines and comments before `trace`.
use Rattle.std.specs.Prelude.{ℕ, ◌≡◌, ◌+◌, true, false, List, [], ◌∷◌, ◌++◌, codes, length}
use Rattle.schedule_lines.specs.Cluster.{header_of, no_cluster, with_header}
use Rattle.schedule_lines.specs.Spelling.{is_passed}
use Rattle.schedule_lines.specs.declared.header.HeaderLine.{HeaderLine}
use Rattle.line_text.specs.Reading.{IsHeaderLineOf}
use Rattle.record_reading.specs.Reading.{IsLineRead}
use Rattle.audit_input.specs.declared.audit_reader.AuditLine.{AuditLine}
use Rattle.audit_input.specs.declared.audit_reader.AuditLine.TheVariants as line
use Rattle.audit_input.specs.declared.audit_reader.AuditReader.{AuditReader}

-- before the first line
abbrev pub nothing_read : AuditReader
nothing_read = record { header = header_of no_cluster; traced = false }

-- the bytes are a header line that may stand next, and the header is the next one
abbrev pub TakesHeader : AuditReader → List ℕ → AuditReader → Type 0
TakesHeader before bytes after = (l : HeaderLine) × IsHeaderLineOf before.header bytes l × (after ≡ record { header = header_of (with_header before.header.config l); traced = false })

-- the bytes are this line, as a line of a trace is read
abbrev pub IsRecordOf : List ℕ → AuditLine → Type 0
IsRecordOf bytes line.Passed = ⊥
IsRecordOf bytes line.Header = ⊥
IsRecordOf bytes line.Trace = ⊥
IsRecordOf bytes (line.Record n r) = IsLineRead bytes n r

-- the bytes are a line that may stand next: what it says, and what is known after it
abbrev pub Takes : AuditReader → List ℕ → AuditLine → AuditReader → Type 0
Takes before bytes line.Passed after = (before.traced ≡ false) × (is_passed bytes ≡ true) × (after ≡ before)
Takes before bytes line.Header after = (before.traced ≡ false) × TakesHeader before bytes after
Takes before bytes line.Trace after = (before.traced ≡ false) × (bytes ≡ codes "trace") × (before.header.whole ≡ true) × (after ≡ record { header = before.header; traced = true })
Takes before bytes (line.Record n r) after = (before.traced ≡ true) × IsLineRead bytes n r × (after ≡ before)

-- these lines may stand one after another
abbrev pub ReadsAll : AuditReader → List (List ℕ) → List AuditLine → AuditReader → Type 0
ReadsAll before [] [] after = after ≡ before
ReadsAll before (bytes ∷ rest) (l ∷ ls) after = (next : AuditReader) × Takes before bytes l next × ReadsAll next rest ls after
ReadsAll before [] (l ∷ ls) after = ⊥
ReadsAll before (bytes ∷ rest) [] after = ⊥

-- these lines of bytes are a whole input, with the line `trace` in it
pub record IsInput (bytes : List (List ℕ)) (lines : List AuditLine) : Type 0 where
  pub after : AuditReader
  pub reads : ReadsAll nothing_read bytes lines after
  pub traced : after.traced ≡ true

-- no line that may stand next has these bytes, or there are none any more and `trace` is missing
abbrev pub IsBadNext : AuditReader → List (List ℕ) → Type 0
IsBadNext before [] = before.traced ≡ false
IsBadNext before (bytes ∷ rest) = (l : AuditLine) (after : AuditReader) → Takes before bytes l after → ⊥

-- line n, from 1, is the first that is bad; the number one past the last stands for a missing `trace`
pub record IsBadAt (bytes : List (List ℕ)) (n : ℕ) : Type 0 where
  pub good : List (List ℕ)
  pub rest : List (List ℕ)
  pub lines : List AuditLine
  pub after : AuditReader
  pub split : bytes ≡ good ++ rest
  pub place : n ≡ length good + 1
  pub reads : ReadsAll nothing_read good lines after
  pub bad : IsBadNext after rest
