-- Orderly lines: each block forms its epochs by the end of the round that ends it.
use Rattle.std.specs.Prelude.{List, [], ◌∷◌}
use Rattle.schedule_lines.specs.declared.header.HeaderLine.TheVariants as header
use Rattle.schedule_lines.specs.declared.line.Line.TheVariants as line
use Rattle.trace_book.specs.declared.record.Record.TheVariants.{Leave, Join, Start}
use Rattle.trace_book.specs.declared.entry.Entry.{Entry}
use Rattle.schedule_lines.specs.declared.line.ScheduleLine.{ScheduleLine}
use Rattle.schedule_lines.specs.declared.line.ScheduleLine.TheVariants.{Passed, Header, Event}
use Rattle.promise_samples.specs.Examples.{Example}
use Rattle.lawful_trace.specs.Samples.{at, epoch, stamp, brought, members}

abbrev orderly_blocks_lines : List ScheduleLine
orderly_blocks_lines =
    Passed ∷
    Header (header.Sites 4) ∷
    Header (header.Group 0 (record { 0 = 15 })) ∷
    Passed ∷
    Event (line.Down 1 3) ∷
    Event (line.Down 1 4) ∷
    Event (line.Down 2 3) ∷
    Event (line.Down 2 4) ∷
    Passed ∷
    Event (line.Merge 1) ∷
    Event (line.Merge 3) ∷
    Passed ∷
    Event (line.Settle 1000) ∷
    Event (line.Up 1 3) ∷
    Event (line.Up 1 4) ∷
    Event (line.Up 2 3) ∷
    Event (line.Up 2 4) ∷
    Passed ∷
    Event (line.Merge 4) ∷
    Passed ∷
    Event (line.Settle 1000) ∷
    []

abbrev orderly_blocks_trace : List Entry
orderly_blocks_trace =
    at 13 (Join 1 (epoch 1 1 1) (members (1 ∷ 1 ∷ []))) ∷
    at 13 (Join 3 (epoch 1 3 1) (members (0 ∷ 0 ∷ 1 ∷ 1 ∷ []))) ∷
    at 13 (Join 2 (epoch 1 1 1) (members (1 ∷ 1 ∷ []))) ∷
    at 13 (Join 4 (epoch 1 3 1) (members (0 ∷ 0 ∷ 1 ∷ 1 ∷ []))) ∷
    at 13 (Start (epoch 1 1 1) 0 (brought 1 (stamp 0 0) ∷ [])) ∷
    at 13 (Start (epoch 1 3 1) 0 (brought 1 (stamp 0 0) ∷ [])) ∷
    at 19 (Leave 4 (epoch 1 3 1)) ∷
    at 21 (Leave 1 (epoch 1 1 1)) ∷
    at 21 (Leave 2 (epoch 1 1 1)) ∷
    at 21 (Leave 3 (epoch 1 3 1)) ∷
    at 21 (Join 4 (epoch 2 4 1) (members (1 ∷ 1 ∷ 1 ∷ 1 ∷ []))) ∷
    at 21 (Join 1 (epoch 2 4 1) (members (1 ∷ 1 ∷ 1 ∷ 1 ∷ []))) ∷
    at 21 (Join 2 (epoch 2 4 1) (members (1 ∷ 1 ∷ 1 ∷ 1 ∷ []))) ∷
    at 21 (Join 3 (epoch 2 4 1) (members (1 ∷ 1 ∷ 1 ∷ 1 ∷ []))) ∷
    at 21 (Start (epoch 2 4 1) 0 (brought 1 (stamp 0 0) ∷ [])) ∷
    []

abbrev pub orderly_blocks : Example
orderly_blocks = record { lines = orderly_blocks_lines; trace = orderly_blocks_trace }
