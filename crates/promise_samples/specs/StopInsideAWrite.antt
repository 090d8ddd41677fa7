-- A site stops inside the disk calls of a commit. Afterwards the file is wholly old, here, or wholly new.
use Rattle.std.specs.Prelude.{List, [], ◌∷◌, None, Some, codes}
use Rattle.locus_ids.specs.declared.ids.Kind.TheVariants as kind
use Rattle.locus_ids.specs.declared.ids.Mode.TheVariants as mode
use Rattle.trace_book.specs.declared.call.Call.TheVariants as call
use Rattle.trace_book.specs.declared.call.OpenMode.TheVariants as how
use Rattle.trace_book.specs.declared.operation.Op.TheVariants as op
use Rattle.trace_book.specs.declared.operation.Outcome.TheVariants as outcome
use Rattle.trace_book.specs.declared.operation.What.TheVariants as what
use Rattle.trace_book.specs.declared.operation.Served.TheVariants as served
use Rattle.trace_book.specs.declared.reply.Reply.TheVariants as reply
use Rattle.trace_book.specs.declared.record.StopCause.TheVariants as cause
use Rattle.schedule_lines.specs.declared.header.HeaderLine.TheVariants as header
use Rattle.schedule_lines.specs.declared.line.Leave.TheVariants as leave
use Rattle.schedule_lines.specs.declared.line.Line.TheVariants as line
use Rattle.trace_book.specs.declared.record.Record.TheVariants.{Up, Stopped, Join, Start, Accept, Look, Grant, Act, Commit, Release, Answer}
use Rattle.trace_book.specs.declared.entry.Entry.{Entry}
use Rattle.schedule_lines.specs.declared.line.ScheduleLine.{ScheduleLine}
use Rattle.schedule_lines.specs.declared.line.ScheduleLine.TheVariants.{Passed, Header, Event}
use Rattle.promise_samples.specs.Examples.{Example}
use Rattle.lawful_trace.specs.Samples.{at, epoch, caller, inst, file, stamp, brought, members}

abbrev stop_inside_a_write_lines : List ScheduleLine
stop_inside_a_write_lines =
    Passed ∷
    Header (header.Sites 1) ∷
    Header (header.Group 0 (record { 0 = 1 })) ∷
    Event (line.Merge 1) ∷
    Event (line.Settle 1000) ∷
    Event (line.Call 1 1 (call.Create (codes "/a") None)) ∷
    Event (line.Settle 1000) ∷
    Event (line.Call 1 1 (call.Open (codes "/a") how.Write)) ∷
    Event (line.Settle 1000) ∷
    Event (line.Call 1 1 (call.Write 0 0 (111 ∷ 108 ∷ 100 ∷ []))) ∷
    Event (line.Settle 1000) ∷
    Event (line.Call 1 1 (call.Close 0)) ∷
    Event (line.Settle 1000) ∷
    Event (line.Call 1 1 (call.Open (codes "/a") how.Write)) ∷
    Event (line.Settle 1000) ∷
    Event (line.Call 1 1 (call.Write 0 0 (110 ∷ 101 ∷ 119 ∷ []))) ∷
    Event (line.Settle 1000) ∷
    Passed ∷
    Passed ∷
    Event (line.ArmStop 1 3 leave.Old) ∷
    Event (line.Call 1 1 (call.Close 0)) ∷
    Event (line.Settle 1000) ∷
    Passed ∷
    Event (line.Boot 1) ∷
    Event (line.Merge 1) ∷
    Event (line.Settle 1000) ∷
    Event (line.Call 1 1 (call.Open (codes "/a") how.Read)) ∷
    Event (line.Settle 1000) ∷
    Event (line.Call 1 1 (call.Read 0 0 9)) ∷
    Event (line.Settle 1000) ∷
    []

abbrev stop_inside_a_write_trace : List Entry
stop_inside_a_write_trace =
    at 4 (Join 1 (epoch 1 1 1) (members (1 ∷ []))) ∷
    at 5 (Start (epoch 1 1 1) 0 (brought 1 (stamp 0 0) ∷ [])) ∷
    at 6 (Accept 1 1 (caller 1 1 1) (call.Create (codes "/a") None)) ∷
    at 7 (Grant (epoch 1 1 1) (caller 1 1 1) 1 (inst 1 1) mode.Write (file 0 1) (Some (stamp 0 0)) 1) ∷
    at 7 (Act (epoch 1 1 1) (inst 1 1) 1 (op.Probe (codes "a")) outcome.Done) ∷
    at 7 (Grant (epoch 1 1 1) (caller 1 1 1) 3 (inst 1 2) mode.Make (file 0 2) None 1) ∷
    at 7 (Commit (file 0 2) 1 (stamp 1 1) [] []) ∷
    at 7 (Release (epoch 1 1 1) (inst 1 2) (file 0 2) (Some (stamp 1 1))) ∷
    at 7 (Act (epoch 1 1 1) (inst 1 1) 2 (op.Insert (codes "a") 2 kind.File) outcome.Done) ∷
    at 7 (Commit (file 0 1) 1 (stamp 1 1) ((stamp 0 0) ∷ []) (1 ∷ 97 ∷ 0 ∷ 2 ∷ 1 ∷ 0 ∷ 0 ∷ 0 ∷ 1 ∷ [])) ∷
    at 7 (Release (epoch 1 1 1) (inst 1 1) (file 0 1) (Some (stamp 1 1))) ∷
    at 7 (Answer 1 1 (caller 1 1 1) (reply.Made 2)) ∷
    at 8 (Accept 1 1 (caller 1 1 2) (call.Open (codes "/a") how.Write)) ∷
    at 9 (Look (epoch 1 1 1) (caller 1 1 2) 1 (file 0 1) (what.Name (codes "a")) (served.At (stamp 1 1))) ∷
    at 9 (Grant (epoch 1 1 1) (caller 1 1 2) 2 (inst 1 3) mode.Write (file 0 2) (Some (stamp 1 1)) 1) ∷
    at 9 (Answer 1 1 (caller 1 1 2) (reply.Opened 0)) ∷
    at 10 (Accept 1 1 (caller 1 1 3) (call.Write 0 0 (111 ∷ 108 ∷ 100 ∷ []))) ∷
    at 11 (Act (epoch 1 1 1) (inst 1 3) 1 (op.Write 0 (111 ∷ 108 ∷ 100 ∷ [])) outcome.Done) ∷
    at 11 (Answer 1 1 (caller 1 1 3) reply.Done) ∷
    at 12 (Accept 1 1 (caller 1 1 4) (call.Close 0)) ∷
    at 13 (Commit (file 0 2) 1 (stamp 1 2) ((stamp 1 1) ∷ []) (111 ∷ 108 ∷ 100 ∷ [])) ∷
    at 13 (Release (epoch 1 1 1) (inst 1 3) (file 0 2) (Some (stamp 1 2))) ∷
    at 13 (Answer 1 1 (caller 1 1 4) (reply.Closed (Some (stamp 1 2)))) ∷
    at 14 (Accept 1 1 (caller 1 1 5) (call.Open (codes "/a") how.Write)) ∷
    at 15 (Look (epoch 1 1 1) (caller 1 1 5) 1 (file 0 1) (what.Name (codes "a")) (served.At (stamp 1 1))) ∷
    at 15 (Grant (epoch 1 1 1) (caller 1 1 5) 2 (inst 1 4) mode.Write (file 0 2) (Some (stamp 1 2)) 1) ∷
    at 15 (Answer 1 1 (caller 1 1 5) (reply.Opened 0)) ∷
    at 16 (Accept 1 1 (caller 1 1 6) (call.Write 0 0 (110 ∷ 101 ∷ 119 ∷ []))) ∷
    at 17 (Act (epoch 1 1 1) (inst 1 4) 1 (op.Write 0 (110 ∷ 101 ∷ 119 ∷ [])) outcome.Done) ∷
    at 17 (Answer 1 1 (caller 1 1 6) reply.Done) ∷
    at 21 (Accept 1 1 (caller 1 1 7) (call.Close 0)) ∷
    at 22 (Stopped 1 cause.Fuse) ∷
    at 24 (Up 1 2) ∷
    at 25 (Join 1 (epoch 1 1 2) (members (2 ∷ []))) ∷
    at 26 (Start (epoch 1 1 2) 0 (brought 1 (stamp 1 1) ∷ brought 2 (stamp 1 2) ∷ [])) ∷
    at 27 (Accept 1 1 (caller 1 2 1) (call.Open (codes "/a") how.Read)) ∷
    at 28 (Look (epoch 1 1 2) (caller 1 2 1) 1 (file 0 1) (what.Name (codes "a")) (served.At (stamp 1 1))) ∷
    at 28 (Grant (epoch 1 1 2) (caller 1 2 1) 2 (inst 1 1) mode.Read (file 0 2) (Some (stamp 1 2)) 1) ∷
    at 28 (Answer 1 1 (caller 1 2 1) (reply.Opened 0)) ∷
    at 29 (Accept 1 1 (caller 1 2 2) (call.Read 0 0 9)) ∷
    at 30 (Act (epoch 1 1 2) (inst 1 1) 1 (op.Read 0 9) (outcome.Data (111 ∷ 108 ∷ 100 ∷ []))) ∷
    at 30 (Answer 1 1 (caller 1 2 2) (reply.Data (111 ∷ 108 ∷ 100 ∷ []))) ∷
    []

abbrev pub stop_inside_a_write : Example
stop_inside_a_write = record { lines = stop_inside_a_write_lines; trace = stop_inside_a_write_trace }
