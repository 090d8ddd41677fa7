-- Stops in versions and in boots, each followed by a boot that is armed for just as many disk calls as it should make, or one fewer.
use Rattle.std.specs.Prelude.{List, [], ◌∷◌, None, Some, codes}
use Rattle.locus_ids.specs.declared.ids.Kind.TheVariants as kind
use Rattle.locus_ids.specs.declared.ids.Mode.TheVariants as mode
use Rattle.trace_book.specs.declared.call.Call.TheVariants as call
use Rattle.trace_book.specs.declared.call.OpenMode.TheVariants as how
use Rattle.trace_book.specs.declared.operation.Op.TheVariants as op
use Rattle.trace_book.specs.declared.operation.Outcome.TheVariants as outcome
use Rattle.trace_book.specs.declared.operation.What.TheVariants as what
use Rattle.trace_book.specs.declared.operation.Served.TheVariants as served
use Rattle.trace_book.specs.declared.reply.Reply.TheVariants as reply
use Rattle.trace_book.specs.declared.record.StopCause.TheVariants as cause
use Rattle.schedule_lines.specs.declared.header.HeaderLine.TheVariants as header
use Rattle.schedule_lines.specs.declared.line.Leave.TheVariants as leave
use Rattle.schedule_lines.specs.declared.line.Line.TheVariants as line
use Rattle.trace_book.specs.declared.record.Record.TheVariants.{Up, Stopped, Join, Start, Accept, Look, Grant, Act, Commit, Release, Answer}
use Rattle.trace_book.specs.declared.entry.Entry.{Entry}
use Rattle.schedule_lines.specs.declared.line.ScheduleLine.{ScheduleLine}
use Rattle.schedule_lines.specs.declared.line.ScheduleLine.TheVariants.{Passed, Header, Event}
use Rattle.promise_samples.specs.Examples.{Example}
use Rattle.lawful_trace.specs.Samples.{at, epoch, caller, inst, file, stamp, brought, members}

abbrev armed_boots_lines : List ScheduleLine
armed_boots_lines =
    Passed ∷
    Header (header.Sites 1) ∷
    Header (header.Group 0 (record { 0 = 1 })) ∷
    Event (line.Merge 1) ∷
    Event (line.Settle 1000) ∷
    Passed ∷
    Event (line.ArmStop 1 3 leave.New) ∷
    Event (line.Call 1 1 (call.Create (codes "/a") None)) ∷
    Event (line.Settle 1000) ∷
    Event (line.ArmStop 1 6 leave.Old) ∷
    Event (line.Boot 1) ∷
    Event (line.ArmStop 1 1000 leave.Old) ∷
    Event (line.Merge 1) ∷
    Event (line.Settle 1000) ∷
    Event (line.Call 1 1 (call.Create (codes "/b") None)) ∷
    Event (line.Settle 1000) ∷
    Event (line.Call 1 1 (call.Open (codes "/b") how.Write)) ∷
    Event (line.Settle 1000) ∷
    Event (line.Call 1 1 (call.Write 0 0 (97 ∷ []))) ∷
    Event (line.Settle 1000) ∷
    Passed ∷
    Event (line.ArmStop 1 5 leave.Old) ∷
    Event (line.Call 1 1 (call.Close 0)) ∷
    Event (line.Settle 1000) ∷
    Event (line.ArmStop 1 7 leave.Old) ∷
    Event (line.Boot 1) ∷
    Event (line.ArmStop 1 8 leave.Old) ∷
    Event (line.Boot 1) ∷
    Event (line.ArmStop 1 1000 leave.Old) ∷
    Event (line.Merge 1) ∷
    Event (line.Settle 1000) ∷
    Event (line.Call 1 1 (call.Open (codes "/b") how.Write)) ∷
    Event (line.Settle 1000) ∷
    Event (line.Call 1 1 (call.Write 0 0 (98 ∷ []))) ∷
    Event (line.Settle 1000) ∷
    Passed ∷
    Event (line.ArmStop 1 6 leave.New) ∷
    Event (line.Call 1 1 (call.Close 0)) ∷
    Event (line.Settle 1000) ∷
    Event (line.ArmStop 1 6 leave.Old) ∷
    Event (line.Boot 1) ∷
    Passed ∷
    Event (line.Stop 1) ∷
    Event (line.ArmStop 1 5 leave.Old) ∷
    Event (line.Boot 1) ∷
    Event (line.ArmStop 1 7 leave.Old) ∷
    Event (line.Boot 1) ∷
    Event (line.ArmStop 1 2 leave.Old) ∷
    Event (line.Boot 1) ∷
    Event (line.ArmStop 1 6 leave.Old) ∷
    Event (line.Boot 1) ∷
    []

abbrev armed_boots_trace : List Entry
armed_boots_trace =
    at 4 (Join 1 (epoch 1 1 1) (members (1 ∷ []))) ∷
    at 5 (Start (epoch 1 1 1) 0 (brought 1 (stamp 0 0) ∷ [])) ∷
    at 8 (Accept 1 1 (caller 1 1 1) (call.Create (codes "/a") None)) ∷
    at 9 (Grant (epoch 1 1 1) (caller 1 1 1) 1 (inst 1 1) mode.Write (file 0 1) (Some (stamp 0 0)) 1) ∷
    at 9 (Act (epoch 1 1 1) (inst 1 1) 1 (op.Probe (codes "a")) outcome.Done) ∷
    at 9 (Grant (epoch 1 1 1) (caller 1 1 1) 3 (inst 1 2) mode.Make (file 0 2) None 1) ∷
    at 9 (Commit (file 0 2) 1 (stamp 1 1) [] []) ∷
    at 9 (Stopped 1 cause.Fuse) ∷
    at 11 (Up 1 2) ∷
    at 13 (Join 1 (epoch 1 1 2) (members (2 ∷ []))) ∷
    at 14 (Start (epoch 1 1 2) 0 (brought 1 (stamp 0 0) ∷ brought 2 (stamp 1 1) ∷ [])) ∷
    at 15 (Accept 1 1 (caller 1 2 1) (call.Create (codes "/b") None)) ∷
    at 16 (Grant (epoch 1 1 2) (caller 1 2 1) 1 (inst 1 1) mode.Write (file 0 1) (Some (stamp 0 0)) 1) ∷
    at 16 (Act (epoch 1 1 2) (inst 1 1) 1 (op.Probe (codes "b")) outcome.Done) ∷
    at 16 (Grant (epoch 1 1 2) (caller 1 2 1) 3 (inst 1 2) mode.Make (file 0 3) None 1) ∷
    at 16 (Commit (file 0 3) 1 (stamp 1 1) [] []) ∷
    at 16 (Release (epoch 1 1 2) (inst 1 2) (file 0 3) (Some (stamp 1 1))) ∷
    at 16 (Act (epoch 1 1 2) (inst 1 1) 2 (op.Insert (codes "b") 3 kind.File) outcome.Done) ∷
    at 16 (Commit (file 0 1) 1 (stamp 1 1) ((stamp 0 0) ∷ []) (1 ∷ 98 ∷ 0 ∷ 3 ∷ 1 ∷ 0 ∷ 0 ∷ 0 ∷ 1 ∷ [])) ∷
    at 16 (Release (epoch 1 1 2) (inst 1 1) (file 0 1) (Some (stamp 1 1))) ∷
    at 16 (Answer 1 1 (caller 1 2 1) (reply.Made 3)) ∷
    at 17 (Accept 1 1 (caller 1 2 2) (call.Open (codes "/b") how.Write)) ∷
    at 18 (Look (epoch 1 1 2) (caller 1 2 2) 1 (file 0 1) (what.Name (codes "b")) (served.At (stamp 1 1))) ∷
    at 18 (Grant (epoch 1 1 2) (caller 1 2 2) 2 (inst 1 3) mode.Write (file 0 3) (Some (stamp 1 1)) 1) ∷
    at 18 (Answer 1 1 (caller 1 2 2) (reply.Opened 0)) ∷
    at 19 (Accept 1 1 (caller 1 2 3) (call.Write 0 0 (97 ∷ []))) ∷
    at 20 (Act (epoch 1 1 2) (inst 1 3) 1 (op.Write 0 (97 ∷ [])) outcome.Done) ∷
    at 20 (Answer 1 1 (caller 1 2 3) reply.Done) ∷
    at 23 (Accept 1 1 (caller 1 2 4) (call.Close 0)) ∷
    at 24 (Commit (file 0 3) 1 (stamp 1 2) ((stamp 1 1) ∷ []) (97 ∷ [])) ∷
    at 24 (Stopped 1 cause.Fuse) ∷
    at 26 (Stopped 1 cause.Fuse) ∷
    at 28 (Up 1 4) ∷
    at 30 (Join 1 (epoch 1 1 4) (members (4 ∷ []))) ∷
    at 31 (Start (epoch 1 1 4) 0 (brought 1 (stamp 1 1) ∷ brought 2 (stamp 1 1) ∷ brought 3 (stamp 1 2) ∷ [])) ∷
    at 32 (Accept 1 1 (caller 1 4 1) (call.Open (codes "/b") how.Write)) ∷
    at 33 (Look (epoch 1 1 4) (caller 1 4 1) 1 (file 0 1) (what.Name (codes "b")) (served.At (stamp 1 1))) ∷
    at 33 (Grant (epoch 1 1 4) (caller 1 4 1) 2 (inst 1 1) mode.Write (file 0 3) (Some (stamp 1 2)) 1) ∷
    at 33 (Answer 1 1 (caller 1 4 1) (reply.Opened 0)) ∷
    at 34 (Accept 1 1 (caller 1 4 2) (call.Write 0 0 (98 ∷ []))) ∷
    at 35 (Act (epoch 1 1 4) (inst 1 1) 1 (op.Write 0 (98 ∷ [])) outcome.Done) ∷
    at 35 (Answer 1 1 (caller 1 4 2) reply.Done) ∷
    at 38 (Accept 1 1 (caller 1 4 3) (call.Close 0)) ∷
    at 39 (Commit (file 0 3) 1 (stamp 1 3) ((stamp 1 2) ∷ []) (98 ∷ [])) ∷
    at 39 (Stopped 1 cause.Fuse) ∷
    at 41 (Up 1 5) ∷
    at 43 (Stopped 1 cause.Asked) ∷
    at 45 (Stopped 1 cause.Fuse) ∷
    at 47 (Stopped 1 cause.Fuse) ∷
    at 49 (Stopped 1 cause.Fuse) ∷
    at 51 (Up 1 8) ∷
    []

abbrev pub armed_boots : Example
armed_boots = record { lines = armed_boots_lines; trace = armed_boots_trace }
