-- Lines that have no effect.
use Rattle.std.specs.Prelude.{List, [], ◌∷◌, codes}
use Rattle.locus_ids.specs.declared.refusal.Refusal.TheVariants as refusal
use Rattle.trace_book.specs.declared.call.Call.TheVariants as call
use Rattle.trace_book.specs.declared.reply.Reply.TheVariants as reply
use Rattle.trace_book.specs.declared.record.StopCause.TheVariants as cause
use Rattle.schedule_lines.specs.declared.header.HeaderLine.TheVariants as header
use Rattle.schedule_lines.specs.declared.line.Line.TheVariants as line
use Rattle.trace_book.specs.declared.record.Record.TheVariants.{Up, Stopped, Join, Start, Accept, Answer, Void}
use Rattle.trace_book.specs.declared.entry.Entry.{Entry}
use Rattle.schedule_lines.specs.declared.line.ScheduleLine.{ScheduleLine}
use Rattle.schedule_lines.specs.declared.line.ScheduleLine.TheVariants.{Passed, Header, Event}
use Rattle.promise_samples.specs.Examples.{Example}
use Rattle.lawful_trace.specs.Samples.{at, epoch, caller, stamp, brought, members}

abbrev void_lines_lines : List ScheduleLine
void_lines_lines =
    Passed ∷
    Header (header.Sites 2) ∷
    Header (header.Group 0 (record { 0 = 3 })) ∷
    Event (line.Part 1) ∷
    Event (line.GiveUp 1) ∷
    Event (line.Up 1 2) ∷
    Event (line.Boot 1) ∷
    Event (line.Stop 2) ∷
    Event (line.Stop 2) ∷
    Event (line.Part 2) ∷
    Event (line.Merge 2) ∷
    Event (line.Tick 2) ∷
    Event (line.Call 2 1 (call.List (codes "/"))) ∷
    Event (line.Boot 2) ∷
    Event (line.Call 1 1 (call.List (codes "/"))) ∷
    Event (line.Merge 1) ∷
    Event (line.Settle 1000) ∷
    Event (line.Down 1 2) ∷
    Event (line.Down 1 2) ∷
    Event (line.Call 1 1 (call.List (codes "/"))) ∷
    Event (line.Call 1 1 (call.List (codes "/"))) ∷
    Event (line.Lose 900) ∷
    Event (line.Deliver 900) ∷
    []

abbrev void_lines_trace : List Entry
void_lines_trace =
    at 4 (Void) ∷
    at 5 (Void) ∷
    at 6 (Void) ∷
    at 7 (Void) ∷
    at 8 (Stopped 2 cause.Asked) ∷
    at 9 (Void) ∷
    at 10 (Void) ∷
    at 11 (Void) ∷
    at 12 (Void) ∷
    at 13 (Void) ∷
    at 14 (Up 2 2) ∷
    at 15 (Accept 1 1 (caller 1 1 1) (call.List (codes "/"))) ∷
    at 15 (Answer 1 1 (caller 1 1 1) (reply.No refusal.NoPartition)) ∷
    at 17 (Join 1 (epoch 1 1 1) (members (1 ∷ 2 ∷ []))) ∷
    at 17 (Join 2 (epoch 1 1 1) (members (1 ∷ 2 ∷ []))) ∷
    at 17 (Start (epoch 1 1 1) 0 (brought 1 (stamp 0 0) ∷ [])) ∷
    at 19 (Void) ∷
    at 20 (Accept 1 1 (caller 1 1 2) (call.List (codes "/"))) ∷
    at 21 (Void) ∷
    at 22 (Void) ∷
    at 23 (Void) ∷
    []

abbrev pub void_lines : Example
void_lines = record { lines = void_lines_lines; trace = void_lines_trace }
