-- Two sites form epochs of one number; a third leaves the first and joins the second, which is above it by its site.
use Rattle.std.specs.Prelude.{List, [], ◌∷◌}
use Rattle.schedule_lines.specs.declared.header.HeaderLine.TheVariants as header
use Rattle.schedule_lines.specs.declared.line.Line.TheVariants as line
use Rattle.trace_book.specs.declared.record.Record.TheVariants.{Leave, Join, Start}
use Rattle.trace_book.specs.declared.entry.Entry.{Entry}
use Rattle.schedule_lines.specs.declared.line.ScheduleLine.{ScheduleLine}
use Rattle.schedule_lines.specs.declared.line.ScheduleLine.TheVariants.{Passed, Header, Event}
use Rattle.promise_samples.specs.Examples.{Example}
use Rattle.lawful_trace.specs.Samples.{at, epoch, stamp, brought, members}

abbrev same_number_lines : List ScheduleLine
same_number_lines =
    Passed ∷
    Header (header.Sites 3) ∷
    Header (header.Group 0 (record { 0 = 7 })) ∷
    Event (line.Down 1 2) ∷
    Event (line.Down 2 3) ∷
    Event (line.Merge 1) ∷
    Event (line.Settle 1000) ∷
    Event (line.Down 1 3) ∷
    Event (line.Up 2 3) ∷
    Event (line.Merge 2) ∷
    Event (line.Settle 1000) ∷
    []

abbrev same_number_trace : List Entry
same_number_trace =
    at 7 (Join 1 (epoch 1 1 1) (members (1 ∷ 0 ∷ 1 ∷ []))) ∷
    at 7 (Join 3 (epoch 1 1 1) (members (1 ∷ 0 ∷ 1 ∷ []))) ∷
    at 7 (Start (epoch 1 1 1) 0 (brought 1 (stamp 0 0) ∷ [])) ∷
    at 11 (Leave 3 (epoch 1 1 1)) ∷
    at 11 (Join 2 (epoch 1 2 1) (members (0 ∷ 1 ∷ 1 ∷ []))) ∷
    at 11 (Join 3 (epoch 1 2 1) (members (0 ∷ 1 ∷ 1 ∷ []))) ∷
    at 11 (Start (epoch 1 2 1) 0 (brought 1 (stamp 0 0) ∷ [])) ∷
    []

abbrev pub same_number : Example
same_number = record { lines = same_number_lines; trace = same_number_trace }
