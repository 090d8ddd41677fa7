-- The input of an audit that a trace makes with the header lines of its schedule.
use Rattle.std.specs.Prelude.{ℕ, ◌&&◌, Bool, List, [], ◌∷◌, ◌++◌, codes, map}
use Rattle.std.specs.List.{list_all}
use Rattle.trace_book.specs.Text.{gap, number, record_text}
use Rattle.trace_book.specs.declared.entry.Entry.{Entry}
use Rattle.schedule_lines.specs.Spelling.{header_spelling}
use Rattle.schedule_lines.specs.declared.line.ScheduleLine.{ScheduleLine}
use Rattle.schedule_lines.specs.declared.line.ScheduleLine.TheVariants as schedule
use Rattle.record_reading.specs.Ranges.{is_counted, is_record}

-- the header lines among these, as they are spelled
abbrev pub header_texts : List ScheduleLine → List (List ℕ)
header_texts [] = []
header_texts (schedule.Header h ∷ lines) = header_spelling h ∷ header_texts lines
header_texts (schedule.Passed ∷ lines) = header_texts lines
header_texts (schedule.Event e ∷ lines) = header_texts lines

-- a line of a trace, without its line feed
abbrev pub entry_line : Entry → List ℕ
entry_line e = number e.line ++ gap ++ record_text e.what

-- the header lines of a schedule, the line `trace`, and a trace
abbrev pub input_of : List ScheduleLine → List Entry → List (List ℕ)
input_of lines trace = header_texts lines ++ codes "trace" ∷ map entry_line trace

-- each record is well-formed, and so is the number of its line
abbrev pub are_texts : List Entry → Bool
are_texts trace = list_all (λ (e : Entry). is_counted e.line && is_record e.what) trace
