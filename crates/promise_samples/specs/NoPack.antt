-- A group of which no pack can be reached: what leads there is refused at once, though another partition has it.
use Rattle.std.specs.Prelude.{List, [], ◌∷◌, codes}
use Rattle.locus_ids.specs.declared.ids.Kind.TheVariants as kind
use Rattle.locus_ids.specs.declared.refusal.Refusal.TheVariants as refusal
use Rattle.trace_book.specs.declared.call.Call.TheVariants as call
use Rattle.trace_book.specs.declared.operation.What.TheVariants as what
use Rattle.trace_book.specs.declared.operation.Served.TheVariants as served
use Rattle.trace_book.specs.declared.reply.Reply.TheVariants as reply
use Rattle.schedule_lines.specs.declared.header.HeaderLine.TheVariants as header
use Rattle.schedule_lines.specs.declared.line.Line.TheVariants as line
use Rattle.trace_book.specs.declared.record.Record.TheVariants.{Join, Start, Accept, Look, Answer}
use Rattle.trace_book.specs.declared.entry.Entry.{Entry}
use Rattle.schedule_lines.specs.declared.line.ScheduleLine.{ScheduleLine}
use Rattle.schedule_lines.specs.declared.line.ScheduleLine.TheVariants.{Passed, Header, Event}
use Rattle.promise_samples.specs.Examples.{Example}
use Rattle.lawful_trace.specs.Samples.{at, epoch, caller, file, stamp, brought, members}

abbrev no_pack_lines : List ScheduleLine
no_pack_lines =
    Passed ∷
    Header (header.Sites 2) ∷
    Header (header.Group 0 (record { 0 = 3 })) ∷
    Header (header.Group 1 (record { 0 = 2 })) ∷
    Header (header.Mount 1 (codes "usr")) ∷
    Passed ∷
    Event (line.Down 1 2) ∷
    Event (line.Merge 1) ∷
    Event (line.Merge 2) ∷
    Event (line.Settle 1000) ∷
    Passed ∷
    Event (line.Call 1 1 (call.Stat (codes "/usr"))) ∷
    Event (line.Call 1 1 (call.List (codes "/"))) ∷
    Event (line.Settle 1000) ∷
    Passed ∷
    Event (line.Call 2 1 (call.Stat (codes "/usr"))) ∷
    Event (line.Settle 1000) ∷
    []

abbrev no_pack_trace : List Entry
no_pack_trace =
    at 8 (Join 1 (epoch 1 1 1) (members (1 ∷ []))) ∷
    at 9 (Join 2 (epoch 1 2 1) (members (0 ∷ 1 ∷ []))) ∷
    at 10 (Start (epoch 1 1 1) 0 (brought 1 (stamp 0 0) ∷ [])) ∷
    at 10 (Start (epoch 1 2 1) 0 (brought 1 (stamp 0 0) ∷ [])) ∷
    at 10 (Start (epoch 1 2 1) 1 (brought 1 (stamp 0 0) ∷ [])) ∷
    at 12 (Accept 1 1 (caller 1 1 1) (call.Stat (codes "/usr"))) ∷
    at 12 (Answer 1 1 (caller 1 1 1) (reply.No refusal.NoStorage)) ∷
    at 13 (Accept 1 1 (caller 1 1 2) (call.List (codes "/"))) ∷
    at 14 (Look (epoch 1 1 1) (caller 1 1 2) 1 (file 0 1) what.List (served.At (stamp 0 0))) ∷
    at 14 (Answer 1 1 (caller 1 1 2) (reply.Names ((codes "usr") ∷ []))) ∷
    at 16 (Accept 2 1 (caller 2 1 1) (call.Stat (codes "/usr"))) ∷
    at 17 (Look (epoch 1 2 1) (caller 2 1 1) 1 (file 1 1) what.Stat (served.At (stamp 0 0))) ∷
    at 17 (Answer 2 1 (caller 2 1 1) (reply.Stat kind.Dir (file 1 1) 0 (stamp 0 0))) ∷
    []

abbrev pub no_pack : Example
no_pack = record { lines = no_pack_lines; trace = no_pack_trace }
