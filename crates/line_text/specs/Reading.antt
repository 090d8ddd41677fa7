-- What the parser promises, in the words of the schedule's lines.
use Rattle.std.specs.Prelude.{ℕ, ◌≡◌, true, false, List}
use Rattle.trace_book.specs.Text.{call_words}
use Rattle.trace_book.specs.declared.call.Call.{Call}
use Rattle.schedule_lines.specs.Cluster.{header_of, may_join, with_header}
use Rattle.schedule_lines.specs.Ranges.{fits_call, fits_event}
use Rattle.schedule_lines.specs.Spelling.{event_spelling, header_spelling}
use Rattle.schedule_lines.specs.declared.header.Header.{Header}
use Rattle.schedule_lines.specs.declared.header.HeaderLine.{HeaderLine}
use Rattle.schedule_lines.specs.declared.line.Line.{Line}
use Rattle.line_text.specs.HeaderReader.{begins_header}
use Rattle.line_text.specs.declared.headers.HeaderStep.{HeaderStep}
use Rattle.line_text.specs.declared.headers.HeaderStep.TheVariants.{Taken, NotHeader}

-- the words are this call, with its operands in range in a cluster of n sites
abbrev pub IsCallOf : ℕ → List ℕ → Call → Type 0
IsCallOf n words c = (words ≡ call_words c) × (fits_call n c ≡ true)

-- the bytes are this event line, which may stand after this header
abbrev pub IsLineOf : Header → List ℕ → Line → Type 0
IsLineOf h bytes l = (bytes ≡ event_spelling l) × (h.whole ≡ true) × (fits_event h.config.sites l ≡ true)

-- the bytes are this header line, which may stand next
abbrev pub IsHeaderLineOf : Header → List ℕ → HeaderLine → Type 0
IsHeaderLineOf h bytes l = (bytes ≡ header_spelling l) × (may_join h.config l ≡ true)

-- a header line is taken, and the header is the next one; another line leaves it as it was
abbrev pub DoesHeaderStep : Header → List ℕ → Header → HeaderStep → Type 0
DoesHeaderStep old bytes new Taken = (begins_header bytes ≡ true) × (l : HeaderLine) × IsHeaderLineOf old bytes l × (new ≡ header_of (with_header old.config l))
DoesHeaderStep old bytes new NotHeader = (begins_header bytes ≡ false) × (new ≡ old)
