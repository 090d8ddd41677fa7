-- Packets one by one: one is lost, a tick sends it again, and one comes twice.
use Rattle.std.specs.Prelude.{List, [], ◌∷◌, codes}
use Rattle.locus_ids.specs.declared.ids.Kind.TheVariants as kind
use Rattle.trace_book.specs.declared.call.Call.TheVariants as call
use Rattle.trace_book.specs.declared.operation.What.TheVariants as what
use Rattle.trace_book.specs.declared.operation.Served.TheVariants as served
use Rattle.trace_book.specs.declared.reply.Reply.TheVariants as reply
use Rattle.trace_book.specs.declared.packet_kind.PacketKind.TheVariants as packet
use Rattle.schedule_lines.specs.declared.header.HeaderLine.TheVariants as header
use Rattle.schedule_lines.specs.declared.line.Line.TheVariants as line
use Rattle.trace_book.specs.declared.record.Record.TheVariants.{Join, Start, Accept, Look, Answer, Packet}
use Rattle.trace_book.specs.declared.entry.Entry.{Entry}
use Rattle.schedule_lines.specs.declared.line.ScheduleLine.{ScheduleLine}
use Rattle.schedule_lines.specs.declared.line.ScheduleLine.TheVariants.{Passed, Header, Event}
use Rattle.promise_samples.specs.Examples.{Example}
use Rattle.lawful_trace.specs.Samples.{at, epoch, caller, file, stamp, brought, members}

abbrev lost_and_late_lines : List ScheduleLine
lost_and_late_lines =
    Passed ∷
    Header (header.Sites 2) ∷
    Header (header.Group 0 (record { 0 = 3 })) ∷
    Event (line.Merge 1) ∷
    Event (line.Settle 1000) ∷
    Passed ∷
    Event (line.Call 2 1 (call.Stat (codes "/"))) ∷
    Event line.Pending ∷
    Passed ∷
    Event (line.Lose 11) ∷
    Event (line.Tick 2) ∷
    Event line.Pending ∷
    Passed ∷
    Event (line.Deliver 12) ∷
    Event (line.Deliver 12) ∷
    Event (line.Settle 1000) ∷
    []

abbrev lost_and_late_trace : List Entry
lost_and_late_trace =
    at 5 (Join 1 (epoch 1 1 1) (members (1 ∷ 1 ∷ []))) ∷
    at 5 (Join 2 (epoch 1 1 1) (members (1 ∷ 1 ∷ []))) ∷
    at 5 (Start (epoch 1 1 1) 0 (brought 1 (stamp 0 0) ∷ [])) ∷
    at 7 (Accept 2 1 (caller 2 1 1) (call.Stat (codes "/"))) ∷
    at 8 (Packet 11 2 1 packet.Look) ∷
    at 12 (Packet 12 2 1 packet.Look) ∷
    at 14 (Look (epoch 1 1 1) (caller 2 1 1) 1 (file 0 1) what.Stat (served.At (stamp 0 0))) ∷
    at 16 (Answer 2 1 (caller 2 1 1) (reply.Stat kind.Dir (file 0 1) 0 (stamp 0 0))) ∷
    []

abbrev pub lost_and_late : Example
lost_and_late = record { lines = lost_and_late_lines; trace = lost_and_late_trace }
