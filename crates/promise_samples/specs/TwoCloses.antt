-- Two calls close two changed files at once, and the first version is cut.
use Rattle.std.specs.Prelude.{List, [], ◌∷◌, None, Some, codes}
use Rattle.locus_ids.specs.declared.ids.Kind.TheVariants as kind
use Rattle.locus_ids.specs.declared.ids.Mode.TheVariants as mode
use Rattle.trace_book.specs.declared.call.Call.TheVariants as call
use Rattle.trace_book.specs.declared.call.OpenMode.TheVariants as how
use Rattle.trace_book.specs.declared.operation.Op.TheVariants as op
use Rattle.trace_book.specs.declared.operation.Outcome.TheVariants as outcome
use Rattle.trace_book.specs.declared.operation.What.TheVariants as what
use Rattle.trace_book.specs.declared.operation.Served.TheVariants as served
use Rattle.trace_book.specs.declared.reply.Reply.TheVariants as reply
use Rattle.trace_book.specs.declared.record.StopCause.TheVariants as cause
use Rattle.schedule_lines.specs.declared.header.HeaderLine.TheVariants as header
use Rattle.schedule_lines.specs.declared.line.Leave.TheVariants as leave
use Rattle.schedule_lines.specs.declared.line.Line.TheVariants as line
use Rattle.trace_book.specs.declared.record.Record.TheVariants.{Stopped, Join, Start, Accept, Look, Grant, Act, Commit, Release, Answer}
use Rattle.trace_book.specs.declared.entry.Entry.{Entry}
use Rattle.schedule_lines.specs.declared.line.ScheduleLine.{ScheduleLine}
use Rattle.schedule_lines.specs.declared.line.ScheduleLine.TheVariants.{Passed, Header, Event}
use Rattle.promise_samples.specs.Examples.{Example}
use Rattle.lawful_trace.specs.Samples.{at, epoch, caller, inst, file, stamp, brought, members}

abbrev two_closes_lines : List ScheduleLine
two_closes_lines =
    Passed ∷
    Header (header.Sites 1) ∷
    Header (header.Group 0 (record { 0 = 1 })) ∷
    Event (line.Merge 1) ∷
    Event (line.Settle 1000) ∷
    Event (line.Call 1 1 (call.Create (codes "/a") None)) ∷
    Event (line.Settle 1000) ∷
    Event (line.Call 1 2 (call.Create (codes "/b") None)) ∷
    Event (line.Settle 1000) ∷
    Event (line.Call 1 1 (call.Open (codes "/a") how.Write)) ∷
    Event (line.Call 1 2 (call.Open (codes "/b") how.Write)) ∷
    Event (line.Settle 1000) ∷
    Event (line.Call 1 1 (call.Write 0 0 (97 ∷ []))) ∷
    Event (line.Call 1 2 (call.Write 0 0 (98 ∷ []))) ∷
    Event (line.Settle 1000) ∷
    Event (line.ArmStop 1 3 leave.Old) ∷
    Event (line.Call 1 1 (call.Close 0)) ∷
    Event (line.Call 1 2 (call.Close 0)) ∷
    Event (line.Settle 1000) ∷
    []

abbrev two_closes_trace : List Entry
two_closes_trace =
    at 4 (Join 1 (epoch 1 1 1) (members (1 ∷ []))) ∷
    at 5 (Start (epoch 1 1 1) 0 (brought 1 (stamp 0 0) ∷ [])) ∷
    at 6 (Accept 1 1 (caller 1 1 1) (call.Create (codes "/a") None)) ∷
    at 7 (Grant (epoch 1 1 1) (caller 1 1 1) 1 (inst 1 1) mode.Write (file 0 1) (Some (stamp 0 0)) 1) ∷
    at 7 (Act (epoch 1 1 1) (inst 1 1) 1 (op.Probe (codes "a")) outcome.Done) ∷
    at 7 (Grant (epoch 1 1 1) (caller 1 1 1) 3 (inst 1 2) mode.Make (file 0 2) None 1) ∷
    at 7 (Commit (file 0 2) 1 (stamp 1 1) [] []) ∷
    at 7 (Release (epoch 1 1 1) (inst 1 2) (file 0 2) (Some (stamp 1 1))) ∷
    at 7 (Act (epoch 1 1 1) (inst 1 1) 2 (op.Insert (codes "a") 2 kind.File) outcome.Done) ∷
    at 7 (Commit (file 0 1) 1 (stamp 1 1) ((stamp 0 0) ∷ []) (1 ∷ 97 ∷ 0 ∷ 2 ∷ 1 ∷ 0 ∷ 0 ∷ 0 ∷ 1 ∷ [])) ∷
    at 7 (Release (epoch 1 1 1) (inst 1 1) (file 0 1) (Some (stamp 1 1))) ∷
    at 7 (Answer 1 1 (caller 1 1 1) (reply.Made 2)) ∷
    at 8 (Accept 1 2 (caller 1 1 2) (call.Create (codes "/b") None)) ∷
    at 9 (Grant (epoch 1 1 1) (caller 1 1 2) 1 (inst 1 3) mode.Write (file 0 1) (Some (stamp 1 1)) 1) ∷
    at 9 (Act (epoch 1 1 1) (inst 1 3) 1 (op.Probe (codes "b")) outcome.Done) ∷
    at 9 (Grant (epoch 1 1 1) (caller 1 1 2) 3 (inst 1 4) mode.Make (file 0 3) None 1) ∷
    at 9 (Commit (file 0 3) 1 (stamp 1 1) [] []) ∷
    at 9 (Release (epoch 1 1 1) (inst 1 4) (file 0 3) (Some (stamp 1 1))) ∷
    at 9 (Act (epoch 1 1 1) (inst 1 3) 2 (op.Insert (codes "b") 3 kind.File) outcome.Done) ∷
    at 9 (Commit (file 0 1) 1 (stamp 1 2) ((stamp 1 1) ∷ []) (1 ∷ 97 ∷ 0 ∷ 2 ∷ 1 ∷ 0 ∷ 0 ∷ 0 ∷ 1 ∷ 1 ∷ 98 ∷ 0 ∷ 3 ∷ 1 ∷ 0 ∷ 0 ∷ 0 ∷ 1 ∷ [])) ∷
    at 9 (Release (epoch 1 1 1) (inst 1 3) (file 0 1) (Some (stamp 1 2))) ∷
    at 9 (Answer 1 2 (caller 1 1 2) (reply.Made 3)) ∷
    at 10 (Accept 1 1 (caller 1 1 3) (call.Open (codes "/a") how.Write)) ∷
    at 11 (Accept 1 2 (caller 1 1 4) (call.Open (codes "/b") how.Write)) ∷
    at 12 (Look (epoch 1 1 1) (caller 1 1 3) 1 (file 0 1) (what.Name (codes "a")) (served.At (stamp 1 2))) ∷
    at 12 (Look (epoch 1 1 1) (caller 1 1 4) 1 (file 0 1) (what.Name (codes "b")) (served.At (stamp 1 2))) ∷
    at 12 (Grant (epoch 1 1 1) (caller 1 1 3) 2 (inst 1 5) mode.Write (file 0 2) (Some (stamp 1 1)) 1) ∷
    at 12 (Grant (epoch 1 1 1) (caller 1 1 4) 2 (inst 1 6) mode.Write (file 0 3) (Some (stamp 1 1)) 1) ∷
    at 12 (Answer 1 1 (caller 1 1 3) (reply.Opened 0)) ∷
    at 12 (Answer 1 2 (caller 1 1 4) (reply.Opened 0)) ∷
    at 13 (Accept 1 1 (caller 1 1 5) (call.Write 0 0 (97 ∷ []))) ∷
    at 14 (Accept 1 2 (caller 1 1 6) (call.Write 0 0 (98 ∷ []))) ∷
    at 15 (Act (epoch 1 1 1) (inst 1 5) 1 (op.Write 0 (97 ∷ [])) outcome.Done) ∷
    at 15 (Act (epoch 1 1 1) (inst 1 6) 1 (op.Write 0 (98 ∷ [])) outcome.Done) ∷
    at 15 (Answer 1 1 (caller 1 1 5) reply.Done) ∷
    at 15 (Answer 1 2 (caller 1 1 6) reply.Done) ∷
    at 17 (Accept 1 1 (caller 1 1 7) (call.Close 0)) ∷
    at 18 (Accept 1 2 (caller 1 1 8) (call.Close 0)) ∷
    at 19 (Stopped 1 cause.Fuse) ∷
    []

abbrev pub two_closes : Example
two_closes = record { lines = two_closes_lines; trace = two_closes_trace }
