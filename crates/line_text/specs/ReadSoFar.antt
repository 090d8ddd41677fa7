-- What a reader of schedule lines keeps, and what it tells of the next line.
use Rattle.std.specs.Prelude.{ℕ, ◌≡◌, List, [], ◌∷◌, ◌++◌}
use Rattle.schedule_lines.specs.Cluster.{config_of, header_of}
use Rattle.schedule_lines.specs.Schedule.{Reads, has_begun}
use Rattle.schedule_lines.specs.declared.header.HeaderLine.{HeaderLine}
use Rattle.schedule_lines.specs.declared.line.ScheduleLine.{ScheduleLine}
use Rattle.schedule_lines.specs.declared.line.ScheduleLine.TheVariants as line
use Rattle.line_text.specs.declared.headers.HeaderStep.{HeaderStep}
use Rattle.line_text.specs.declared.headers.HeaderStep.TheVariants as step
use Rattle.line_text.specs.declared.schedule_reader.LineRead.{LineRead}
use Rattle.line_text.specs.declared.schedule_reader.LineRead.TheVariants.{Passed, Header, Event}
use Rattle.line_text.specs.declared.schedule_reader.ScheduleReader.{ScheduleReader}

-- after these lines: the header that they make, and whether an event line stands among them
abbrev pub reader_after : List ScheduleLine → ScheduleReader
reader_after lines = record { header = header_of (config_of lines); begun = has_begun lines }

-- what is told is said of this line
abbrev pub Tells : LineRead → ScheduleLine → Type 0
Tells Passed l = l ≡ line.Passed
Tells Header l = (h : HeaderLine) × (l ≡ line.Header h)
Tells (Event e) l = l ≡ line.Event e

-- the bytes are a line that may stand after the earlier ones; the reader tells of it, and is then the one after it
pub record ReadsNext (earlier : List ScheduleLine) (bytes : List ℕ) (told : LineRead) (after : ScheduleReader) : Type 0 where
  pub line : ScheduleLine
  pub tells : Tells told line
  pub reads : Reads earlier bytes line
  pub next : after ≡ reader_after (earlier ++ line ∷ [])

-- a header line is taken; or the bytes are no header line that may stand here
abbrev pub TakesHeader : List ScheduleLine → List ℕ → ScheduleReader → HeaderStep → Type 0
TakesHeader earlier bytes after step.Taken = ReadsNext earlier bytes Header after
TakesHeader earlier bytes after step.NotHeader = (h : HeaderLine) → Reads earlier bytes (line.Header h) → ⊥
