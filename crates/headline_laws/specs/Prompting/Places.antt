-- At which lines records stand.
use Rattle.std.specs.Prelude.{◌≡◌, true, List}
use Rattle.trace_book.specs.declared.entry.Entry.{Entry}
use Rattle.schedule_lines.specs.declared.line.ScheduleLine.{ScheduleLine}
use Rattle.tree_model.specs.Folds.{Trace}
use Rattle.lawful_trace.specs.Places.{line_at}
use Rattle.lawful_trace.specs.Prompt.{stands_at}

-- The record stands at a line at which it may, by what the line has sites do: steps of calls, commits and starts where packets are
-- delivered; adoptions and mends there or where a site ticks; joins where a site has an event by which a round may be decided.
abbrev pub StandsWhereItMay : List ScheduleLine → Trace → Entry → Type 0
StandsWhereItMay lines before r = stands_at (line_at lines r.line) r.what ≡ true
