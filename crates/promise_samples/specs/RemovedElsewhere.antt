-- The side without the synchronization site removes a file that the other side changes.
use Rattle.std.specs.Prelude.{List, [], ◌∷◌, None, Some, codes}
use Rattle.locus_ids.specs.declared.ids.Kind.TheVariants as kind
use Rattle.locus_ids.specs.declared.ids.Mode.TheVariants as mode
use Rattle.trace_book.specs.declared.call.Call.TheVariants as call
use Rattle.trace_book.specs.declared.call.OpenMode.TheVariants as how
use Rattle.trace_book.specs.declared.operation.Op.TheVariants as op
use Rattle.trace_book.specs.declared.operation.Outcome.TheVariants as outcome
use Rattle.trace_book.specs.declared.operation.What.TheVariants as what
use Rattle.trace_book.specs.declared.operation.Served.TheVariants as served
use Rattle.trace_book.specs.declared.reply.Reply.TheVariants as reply
use Rattle.schedule_lines.specs.declared.header.HeaderLine.TheVariants as header
use Rattle.schedule_lines.specs.declared.line.Line.TheVariants as line
use Rattle.trace_book.specs.declared.record.Record.TheVariants.{Leave, Join, Start, Accept, Look, Grant, Act, Commit, Release, Adopt, Answer}
use Rattle.trace_book.specs.declared.entry.Entry.{Entry}
use Rattle.schedule_lines.specs.declared.line.ScheduleLine.{ScheduleLine}
use Rattle.schedule_lines.specs.declared.line.ScheduleLine.TheVariants.{Passed, Header, Event}
use Rattle.promise_samples.specs.Examples.{Example}
use Rattle.lawful_trace.specs.Samples.{at, epoch, caller, inst, file, stamp, brought, members}

abbrev removed_elsewhere_lines : List ScheduleLine
removed_elsewhere_lines =
    Passed ∷
    Header (header.Sites 2) ∷
    Header (header.Group 0 (record { 0 = 3 })) ∷
    Event (line.Merge 1) ∷
    Event (line.Settle 1000) ∷
    Event (line.Call 1 1 (call.Create (codes "/f") None)) ∷
    Event (line.Settle 1000) ∷
    Event (line.Down 1 2) ∷
    Event (line.Part 1) ∷
    Event (line.Part 2) ∷
    Event (line.Settle 1000) ∷
    Event (line.Call 2 1 (call.Unlink (codes "/f"))) ∷
    Event (line.Settle 1000) ∷
    Event (line.Call 1 1 (call.Open (codes "/f") how.Write)) ∷
    Event (line.Settle 1000) ∷
    Event (line.Call 1 1 (call.Write 0 0 (99 ∷ []))) ∷
    Event (line.Settle 1000) ∷
    Event (line.Call 1 1 (call.Close 0)) ∷
    Event (line.Settle 1000) ∷
    Event (line.Up 1 2) ∷
    Event (line.Merge 1) ∷
    Event (line.Settle 1000) ∷
    []

abbrev removed_elsewhere_trace : List Entry
removed_elsewhere_trace =
    at 5 (Join 1 (epoch 1 1 1) (members (1 ∷ 1 ∷ []))) ∷
    at 5 (Join 2 (epoch 1 1 1) (members (1 ∷ 1 ∷ []))) ∷
    at 5 (Start (epoch 1 1 1) 0 (brought 1 (stamp 0 0) ∷ [])) ∷
    at 6 (Accept 1 1 (caller 1 1 1) (call.Create (codes "/f") None)) ∷
    at 7 (Grant (epoch 1 1 1) (caller 1 1 1) 1 (inst 1 1) mode.Write (file 0 1) (Some (stamp 0 0)) 1) ∷
    at 7 (Act (epoch 1 1 1) (inst 1 1) 1 (op.Probe (codes "f")) outcome.Done) ∷
    at 7 (Grant (epoch 1 1 1) (caller 1 1 1) 3 (inst 1 2) mode.Make (file 0 2) None 1) ∷
    at 7 (Commit (file 0 2) 1 (stamp 1 1) [] []) ∷
    at 7 (Release (epoch 1 1 1) (inst 1 2) (file 0 2) (Some (stamp 1 1))) ∷
    at 7 (Adopt (file 0 2) 2 (stamp 1 1)) ∷
    at 7 (Act (epoch 1 1 1) (inst 1 1) 2 (op.Insert (codes "f") 2 kind.File) outcome.Done) ∷
    at 7 (Commit (file 0 1) 1 (stamp 1 1) ((stamp 0 0) ∷ []) (1 ∷ 102 ∷ 0 ∷ 2 ∷ 1 ∷ 0 ∷ 0 ∷ 0 ∷ 1 ∷ [])) ∷
    at 7 (Release (epoch 1 1 1) (inst 1 1) (file 0 1) (Some (stamp 1 1))) ∷
    at 7 (Answer 1 1 (caller 1 1 1) (reply.Made 2)) ∷
    at 7 (Adopt (file 0 1) 2 (stamp 1 1)) ∷
    at 9 (Leave 1 (epoch 1 1 1)) ∷
    at 9 (Join 1 (epoch 2 1 1) (members (1 ∷ []))) ∷
    at 10 (Leave 2 (epoch 1 1 1)) ∷
    at 10 (Join 2 (epoch 2 2 1) (members (0 ∷ 1 ∷ []))) ∷
    at 11 (Start (epoch 2 1 1) 0 (brought 1 (stamp 1 1) ∷ brought 2 (stamp 1 1) ∷ [])) ∷
    at 11 (Start (epoch 2 2 1) 0 (brought 1 (stamp 1 1) ∷ brought 2 (stamp 1 1) ∷ [])) ∷
    at 12 (Accept 2 1 (caller 2 1 1) (call.Unlink (codes "/f"))) ∷
    at 13 (Grant (epoch 2 2 1) (caller 2 1 1) 1 (inst 2 1) mode.Write (file 0 1) (Some (stamp 1 1)) 2) ∷
    at 13 (Act (epoch 2 2 1) (inst 2 1) 1 (op.Find (codes "f")) (outcome.Found 2 kind.File)) ∷
    at 13 (Grant (epoch 2 2 1) (caller 2 1 1) 3 (inst 2 2) mode.Write (file 0 2) (Some (stamp 1 1)) 2) ∷
    at 13 (Act (epoch 2 2 1) (inst 2 1) 2 (op.Remove (codes "f") 2) outcome.Done) ∷
    at 13 (Commit (file 0 1) 2 (stamp 2 1) ((stamp 1 1) ∷ []) (1 ∷ 102 ∷ 0 ∷ 2 ∷ 1 ∷ 0 ∷ 0 ∷ 0 ∷ 2 ∷ 0 ∷ 0 ∷ 0 ∷ 1 ∷ 0 ∷ 0 ∷ 0 ∷ 0 ∷ 0 ∷ 0 ∷ 0 ∷ 0 ∷ 0 ∷ 0 ∷ 0 ∷ 0 ∷ 0 ∷ 0 ∷ 0 ∷ 0 ∷ 0 ∷ 0 ∷ 0 ∷ 0 ∷ 0 ∷ 0 ∷ 0 ∷ 0 ∷ 0 ∷ 0 ∷ 0 ∷ 0 ∷ 0 ∷ 0 ∷ 0 ∷ 0 ∷ 0 ∷ 0 ∷ 0 ∷ 0 ∷ 0 ∷ 0 ∷ 0 ∷ 0 ∷ 0 ∷ 0 ∷ 0 ∷ 0 ∷ 0 ∷ 0 ∷ 0 ∷ 0 ∷ 0 ∷ 0 ∷ 0 ∷ 0 ∷ 0 ∷ 0 ∷ 0 ∷ 0 ∷ 0 ∷ 0 ∷ 0 ∷ 0 ∷ [])) ∷
    at 13 (Release (epoch 2 2 1) (inst 2 1) (file 0 1) (Some (stamp 2 1))) ∷
    at 13 (Release (epoch 2 2 1) (inst 2 2) (file 0 2) None) ∷
    at 13 (Answer 2 1 (caller 2 1 1) reply.Done) ∷
    at 14 (Accept 1 1 (caller 1 1 2) (call.Open (codes "/f") how.Write)) ∷
    at 15 (Look (epoch 2 1 1) (caller 1 1 2) 1 (file 0 1) (what.Name (codes "f")) (served.At (stamp 1 1))) ∷
    at 15 (Grant (epoch 2 1 1) (caller 1 1 2) 2 (inst 1 3) mode.Write (file 0 2) (Some (stamp 1 1)) 1) ∷
    at 15 (Answer 1 1 (caller 1 1 2) (reply.Opened 0)) ∷
    at 16 (Accept 1 1 (caller 1 1 3) (call.Write 0 0 (99 ∷ []))) ∷
    at 17 (Act (epoch 2 1 1) (inst 1 3) 1 (op.Write 0 (99 ∷ [])) outcome.Done) ∷
    at 17 (Answer 1 1 (caller 1 1 3) reply.Done) ∷
    at 18 (Accept 1 1 (caller 1 1 4) (call.Close 0)) ∷
    at 19 (Commit (file 0 2) 1 (stamp 1 2) ((stamp 1 1) ∷ []) (99 ∷ [])) ∷
    at 19 (Release (epoch 2 1 1) (inst 1 3) (file 0 2) (Some (stamp 1 2))) ∷
    at 19 (Answer 1 1 (caller 1 1 4) (reply.Closed (Some (stamp 1 2)))) ∷
    at 21 (Leave 1 (epoch 2 1 1)) ∷
    at 22 (Leave 2 (epoch 2 2 1)) ∷
    at 22 (Join 1 (epoch 3 1 1) (members (1 ∷ 1 ∷ []))) ∷
    at 22 (Join 2 (epoch 3 1 1) (members (1 ∷ 1 ∷ []))) ∷
    at 22 (Start (epoch 3 1 1) 0 (brought 1 (stamp 1 1) ∷ brought 1 (stamp 2 1) ∷ brought 2 (stamp 1 1) ∷ brought 2 (stamp 1 2) ∷ [])) ∷
    at 22 (Adopt (file 0 1) 1 (stamp 2 1)) ∷
    at 22 (Accept 1 0 (caller 1 1 5) (call.Mend (file 0 1))) ∷
    at 22 (Adopt (file 0 2) 2 (stamp 1 2)) ∷
    at 22 (Grant (epoch 3 1 1) (caller 1 1 5) 1 (inst 1 4) mode.Mend (file 0 1) (Some (stamp 2 1)) 1) ∷
    at 22 (Look (epoch 3 1 1) (caller 1 1 5) 2 (file 0 1) (what.Whole (stamp 2 1)) (served.At (stamp 2 1))) ∷
    at 22 (Act (epoch 3 1 1) (inst 1 4) 1 op.Mend outcome.Done) ∷
    at 22 (Commit (file 0 1) 1 (stamp 1 2) ((stamp 2 1) ∷ []) (1 ∷ 102 ∷ 0 ∷ 2 ∷ 1 ∷ 0 ∷ 0 ∷ 0 ∷ 3 ∷ [])) ∷
    at 22 (Release (epoch 3 1 1) (inst 1 4) (file 0 1) (Some (stamp 1 2))) ∷
    at 22 (Answer 1 0 (caller 1 1 5) (reply.Closed (Some (stamp 1 2)))) ∷
    at 22 (Adopt (file 0 1) 2 (stamp 1 2)) ∷
    []

abbrev pub removed_elsewhere : Example
removed_elsewhere = record { lines = removed_elsewhere_lines; trace = removed_elsewhere_trace }
