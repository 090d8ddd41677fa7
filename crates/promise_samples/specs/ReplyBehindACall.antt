-- A call is answered directly after another call is accepted.
use Rattle.std.specs.Prelude.{List, [], ◌∷◌, codes}
use Rattle.trace_book.specs.declared.call.Call.TheVariants as call
use Rattle.trace_book.specs.declared.operation.What.TheVariants as what
use Rattle.trace_book.specs.declared.operation.Served.TheVariants as served
use Rattle.trace_book.specs.declared.reply.Reply.TheVariants as reply
use Rattle.schedule_lines.specs.declared.header.HeaderLine.TheVariants as header
use Rattle.schedule_lines.specs.declared.line.Line.TheVariants as line
use Rattle.trace_book.specs.declared.record.Record.TheVariants.{Join, Start, Accept, Look, Answer}
use Rattle.trace_book.specs.declared.entry.Entry.{Entry}
use Rattle.schedule_lines.specs.declared.line.ScheduleLine.{ScheduleLine}
use Rattle.schedule_lines.specs.declared.line.ScheduleLine.TheVariants.{Passed, Header, Event}
use Rattle.promise_samples.specs.Examples.{Example}
use Rattle.lawful_trace.specs.Samples.{at, epoch, caller, file, stamp, brought, members}

abbrev reply_behind_a_call_lines : List ScheduleLine
reply_behind_a_call_lines =
    Passed ∷
    Header (header.Sites 1) ∷
    Header (header.Group 0 (record { 0 = 1 })) ∷
    Event (line.Merge 1) ∷
    Event (line.Settle 1000) ∷
    Event (line.Call 1 1 (call.List (codes "/"))) ∷
    Event (line.Deliver 5) ∷
    Event (line.Deliver 6) ∷
    Event (line.Call 1 2 (call.List (codes "/"))) ∷
    Event (line.Deliver 7) ∷
    Event (line.Deliver 8) ∷
    []

abbrev reply_behind_a_call_trace : List Entry
reply_behind_a_call_trace =
    at 4 (Join 1 (epoch 1 1 1) (members (1 ∷ []))) ∷
    at 5 (Start (epoch 1 1 1) 0 (brought 1 (stamp 0 0) ∷ [])) ∷
    at 6 (Accept 1 1 (caller 1 1 1) (call.List (codes "/"))) ∷
    at 7 (Look (epoch 1 1 1) (caller 1 1 1) 1 (file 0 1) what.List (served.At (stamp 0 0))) ∷
    at 9 (Accept 1 2 (caller 1 1 2) (call.List (codes "/"))) ∷
    at 10 (Answer 1 1 (caller 1 1 1) (reply.Names [])) ∷
    at 11 (Look (epoch 1 1 1) (caller 1 1 2) 1 (file 0 1) what.List (served.At (stamp 0 0))) ∷
    []

abbrev pub reply_behind_a_call : Example
reply_behind_a_call = record { lines = reply_behind_a_call_lines; trace = reply_behind_a_call_trace }
