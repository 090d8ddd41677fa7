-- One side removes a file that the other side changes. The change wins: the name is there again when they meet.
use Rattle.std.specs.Prelude.{List, [], ◌∷◌, None, Some, codes}
use Rattle.locus_ids.specs.declared.ids.Kind.TheVariants as kind
use Rattle.locus_ids.specs.declared.ids.Mode.TheVariants as mode
use Rattle.trace_book.specs.declared.call.Call.TheVariants as call
use Rattle.trace_book.specs.declared.call.OpenMode.TheVariants as how
use Rattle.trace_book.specs.declared.operation.Op.TheVariants as op
use Rattle.trace_book.specs.declared.operation.Outcome.TheVariants as outcome
use Rattle.trace_book.specs.declared.operation.What.TheVariants as what
use Rattle.trace_book.specs.declared.operation.Served.TheVariants as served
use Rattle.trace_book.specs.declared.reply.Reply.TheVariants as reply
use Rattle.schedule_lines.specs.declared.header.HeaderLine.TheVariants as header
use Rattle.schedule_lines.specs.declared.line.Line.TheVariants as line
use Rattle.trace_book.specs.declared.record.Record.TheVariants.{Leave, Join, Start, Accept, Look, Grant, Act, Commit, Release, Adopt, Answer}
use Rattle.trace_book.specs.declared.entry.Entry.{Entry}
use Rattle.schedule_lines.specs.declared.line.ScheduleLine.{ScheduleLine}
use Rattle.schedule_lines.specs.declared.line.ScheduleLine.TheVariants.{Passed, Header, Event}
use Rattle.promise_samples.specs.Examples.{Example}
use Rattle.lawful_trace.specs.Samples.{at, epoch, caller, inst, file, stamp, brought, members}

abbrev removed_and_changed_lines : List ScheduleLine
removed_and_changed_lines =
    Passed ∷
    Header (header.Sites 3) ∷
    Header (header.Group 0 (record { 0 = 7 })) ∷
    Event (line.Merge 1) ∷
    Event (line.Settle 1000) ∷
    Event (line.Call 1 1 (call.Create (codes "/f") None)) ∷
    Event (line.Settle 1000) ∷
    Event (line.Down 1 3) ∷
    Event (line.Down 2 3) ∷
    Event (line.Part 1) ∷
    Event (line.Part 3) ∷
    Event (line.Settle 1000) ∷
    Passed ∷
    Event (line.Call 1 1 (call.Unlink (codes "/f"))) ∷
    Event (line.Settle 1000) ∷
    Event (line.Call 1 1 (call.List (codes "/"))) ∷
    Event (line.Settle 1000) ∷
    Passed ∷
    Event (line.Call 3 1 (call.Open (codes "/f") how.Write)) ∷
    Event (line.Settle 1000) ∷
    Event (line.Call 3 1 (call.Write 0 0 (99 ∷ []))) ∷
    Event (line.Settle 1000) ∷
    Event (line.Call 3 1 (call.Close 0)) ∷
    Event (line.Settle 1000) ∷
    Passed ∷
    Event (line.Up 1 3) ∷
    Event (line.Up 2 3) ∷
    Event (line.Merge 1) ∷
    Event (line.Settle 1000) ∷
    Event (line.Call 2 1 (call.List (codes "/"))) ∷
    Event (line.Settle 1000) ∷
    Event (line.Call 2 1 (call.Open (codes "/f") how.Read)) ∷
    Event (line.Settle 1000) ∷
    Event (line.Call 2 1 (call.Read 0 0 10)) ∷
    Event (line.Settle 1000) ∷
    []

abbrev removed_and_changed_trace : List Entry
removed_and_changed_trace =
    at 5 (Join 1 (epoch 1 1 1) (members (1 ∷ 1 ∷ 1 ∷ []))) ∷
    at 5 (Join 2 (epoch 1 1 1) (members (1 ∷ 1 ∷ 1 ∷ []))) ∷
    at 5 (Join 3 (epoch 1 1 1) (members (1 ∷ 1 ∷ 1 ∷ []))) ∷
    at 5 (Start (epoch 1 1 1) 0 (brought 1 (stamp 0 0) ∷ [])) ∷
    at 6 (Accept 1 1 (caller 1 1 1) (call.Create (codes "/f") None)) ∷
    at 7 (Grant (epoch 1 1 1) (caller 1 1 1) 1 (inst 1 1) mode.Write (file 0 1) (Some (stamp 0 0)) 1) ∷
    at 7 (Act (epoch 1 1 1) (inst 1 1) 1 (op.Probe (codes "f")) outcome.Done) ∷
    at 7 (Grant (epoch 1 1 1) (caller 1 1 1) 3 (inst 1 2) mode.Make (file 0 2) None 1) ∷
    at 7 (Commit (file 0 2) 1 (stamp 1 1) [] []) ∷
    at 7 (Release (epoch 1 1 1) (inst 1 2) (file 0 2) (Some (stamp 1 1))) ∷
    at 7 (Adopt (file 0 2) 2 (stamp 1 1)) ∷
    at 7 (Adopt (file 0 2) 3 (stamp 1 1)) ∷
    at 7 (Act (epoch 1 1 1) (inst 1 1) 2 (op.Insert (codes "f") 2 kind.File) outcome.Done) ∷
    at 7 (Commit (file 0 1) 1 (stamp 1 1) ((stamp 0 0) ∷ []) (1 ∷ 102 ∷ 0 ∷ 2 ∷ 1 ∷ 0 ∷ 0 ∷ 0 ∷ 1 ∷ [])) ∷
    at 7 (Release (epoch 1 1 1) (inst 1 1) (file 0 1) (Some (stamp 1 1))) ∷
    at 7 (Answer 1 1 (caller 1 1 1) (reply.Made 2)) ∷
    at 7 (Adopt (file 0 1) 2 (stamp 1 1)) ∷
    at 7 (Adopt (file 0 1) 3 (stamp 1 1)) ∷
    at 10 (Leave 1 (epoch 1 1 1)) ∷
    at 11 (Leave 3 (epoch 1 1 1)) ∷
    at 11 (Join 3 (epoch 2 3 1) (members (0 ∷ 0 ∷ 1 ∷ []))) ∷
    at 12 (Leave 2 (epoch 1 1 1)) ∷
    at 12 (Start (epoch 2 3 1) 0 (brought 1 (stamp 1 1) ∷ brought 2 (stamp 1 1) ∷ [])) ∷
    at 12 (Join 1 (epoch 2 1 1) (members (1 ∷ 1 ∷ []))) ∷
    at 12 (Join 2 (epoch 2 1 1) (members (1 ∷ 1 ∷ []))) ∷
    at 12 (Start (epoch 2 1 1) 0 (brought 1 (stamp 1 1) ∷ brought 2 (stamp 1 1) ∷ [])) ∷
    at 14 (Accept 1 1 (caller 1 1 2) (call.Unlink (codes "/f"))) ∷
    at 15 (Grant (epoch 2 1 1) (caller 1 1 2) 1 (inst 1 3) mode.Write (file 0 1) (Some (stamp 1 1)) 1) ∷
    at 15 (Act (epoch 2 1 1) (inst 1 3) 1 (op.Find (codes "f")) (outcome.Found 2 kind.File)) ∷
    at 15 (Grant (epoch 2 1 1) (caller 1 1 2) 3 (inst 1 4) mode.Write (file 0 2) (Some (stamp 1 1)) 1) ∷
    at 15 (Act (epoch 2 1 1) (inst 1 3) 2 (op.Remove (codes "f") 2) outcome.Done) ∷
    at 15 (Commit (file 0 1) 1 (stamp 1 2) ((stamp 1 1) ∷ []) (1 ∷ 102 ∷ 0 ∷ 2 ∷ 1 ∷ 0 ∷ 0 ∷ 0 ∷ 2 ∷ 0 ∷ 0 ∷ 0 ∷ 1 ∷ 0 ∷ 0 ∷ 0 ∷ 0 ∷ 0 ∷ 0 ∷ 0 ∷ 0 ∷ 0 ∷ 0 ∷ 0 ∷ 0 ∷ 0 ∷ 0 ∷ 0 ∷ 0 ∷ 0 ∷ 0 ∷ 0 ∷ 0 ∷ 0 ∷ 0 ∷ 0 ∷ 0 ∷ 0 ∷ 0 ∷ 0 ∷ 0 ∷ 0 ∷ 0 ∷ 0 ∷ 0 ∷ 0 ∷ 0 ∷ 0 ∷ 0 ∷ 0 ∷ 0 ∷ 0 ∷ 0 ∷ 0 ∷ 0 ∷ 0 ∷ 0 ∷ 0 ∷ 0 ∷ 0 ∷ 0 ∷ 0 ∷ 0 ∷ 0 ∷ 0 ∷ 0 ∷ 0 ∷ 0 ∷ 0 ∷ 0 ∷ 0 ∷ 0 ∷ 0 ∷ [])) ∷
    at 15 (Release (epoch 2 1 1) (inst 1 3) (file 0 1) (Some (stamp 1 2))) ∷
    at 15 (Release (epoch 2 1 1) (inst 1 4) (file 0 2) None) ∷
    at 15 (Adopt (file 0 1) 2 (stamp 1 2)) ∷
    at 15 (Answer 1 1 (caller 1 1 2) reply.Done) ∷
    at 16 (Accept 1 1 (caller 1 1 3) (call.List (codes "/"))) ∷
    at 17 (Look (epoch 2 1 1) (caller 1 1 3) 1 (file 0 1) what.List (served.At (stamp 1 2))) ∷
    at 17 (Answer 1 1 (caller 1 1 3) (reply.Names [])) ∷
    at 19 (Accept 3 1 (caller 3 1 1) (call.Open (codes "/f") how.Write)) ∷
    at 20 (Look (epoch 2 3 1) (caller 3 1 1) 1 (file 0 1) (what.Name (codes "f")) (served.At (stamp 1 1))) ∷
    at 20 (Grant (epoch 2 3 1) (caller 3 1 1) 2 (inst 3 1) mode.Write (file 0 2) (Some (stamp 1 1)) 3) ∷
    at 20 (Answer 3 1 (caller 3 1 1) (reply.Opened 0)) ∷
    at 21 (Accept 3 1 (caller 3 1 2) (call.Write 0 0 (99 ∷ []))) ∷
    at 22 (Act (epoch 2 3 1) (inst 3 1) 1 (op.Write 0 (99 ∷ [])) outcome.Done) ∷
    at 22 (Answer 3 1 (caller 3 1 2) reply.Done) ∷
    at 23 (Accept 3 1 (caller 3 1 3) (call.Close 0)) ∷
    at 24 (Commit (file 0 2) 3 (stamp 3 1) ((stamp 1 1) ∷ []) (99 ∷ [])) ∷
    at 24 (Release (epoch 2 3 1) (inst 3 1) (file 0 2) (Some (stamp 3 1))) ∷
    at 24 (Answer 3 1 (caller 3 1 3) (reply.Closed (Some (stamp 3 1)))) ∷
    at 28 (Leave 1 (epoch 2 1 1)) ∷
    at 29 (Leave 2 (epoch 2 1 1)) ∷
    at 29 (Leave 3 (epoch 2 3 1)) ∷
    at 29 (Join 1 (epoch 3 1 1) (members (1 ∷ 1 ∷ 1 ∷ []))) ∷
    at 29 (Join 2 (epoch 3 1 1) (members (1 ∷ 1 ∷ 1 ∷ []))) ∷
    at 29 (Join 3 (epoch 3 1 1) (members (1 ∷ 1 ∷ 1 ∷ []))) ∷
    at 29 (Start (epoch 3 1 1) 0 (brought 1 (stamp 1 1) ∷ brought 1 (stamp 1 2) ∷ brought 2 (stamp 1 1) ∷ brought 2 (stamp 3 1) ∷ [])) ∷
    at 29 (Accept 1 0 (caller 1 1 4) (call.Mend (file 0 1))) ∷
    at 29 (Grant (epoch 3 1 1) (caller 1 1 4) 1 (inst 1 5) mode.Mend (file 0 1) (Some (stamp 1 2)) 1) ∷
    at 29 (Look (epoch 3 1 1) (caller 1 1 4) 2 (file 0 1) (what.Whole (stamp 1 2)) (served.At (stamp 1 2))) ∷
    at 29 (Adopt (file 0 2) 1 (stamp 3 1)) ∷
    at 29 (Adopt (file 0 2) 2 (stamp 3 1)) ∷
    at 29 (Adopt (file 0 1) 3 (stamp 1 2)) ∷
    at 29 (Act (epoch 3 1 1) (inst 1 5) 1 op.Mend outcome.Done) ∷
    at 29 (Commit (file 0 1) 1 (stamp 1 3) ((stamp 1 2) ∷ []) (1 ∷ 102 ∷ 0 ∷ 2 ∷ 1 ∷ 0 ∷ 0 ∷ 0 ∷ 3 ∷ [])) ∷
    at 29 (Release (epoch 3 1 1) (inst 1 5) (file 0 1) (Some (stamp 1 3))) ∷
    at 29 (Answer 1 0 (caller 1 1 4) (reply.Closed (Some (stamp 1 3)))) ∷
    at 29 (Adopt (file 0 1) 2 (stamp 1 3)) ∷
    at 29 (Adopt (file 0 1) 3 (stamp 1 3)) ∷
    at 30 (Accept 2 1 (caller 2 1 1) (call.List (codes "/"))) ∷
    at 31 (Look (epoch 3 1 1) (caller 2 1 1) 1 (file 0 1) what.List (served.At (stamp 1 3))) ∷
    at 31 (Answer 2 1 (caller 2 1 1) (reply.Names ((codes "f") ∷ []))) ∷
    at 32 (Accept 2 1 (caller 2 1 2) (call.Open (codes "/f") how.Read)) ∷
    at 33 (Look (epoch 3 1 1) (caller 2 1 2) 1 (file 0 1) (what.Name (codes "f")) (served.At (stamp 1 3))) ∷
    at 33 (Grant (epoch 3 1 1) (caller 2 1 2) 2 (inst 2 1) mode.Read (file 0 2) (Some (stamp 3 1)) 2) ∷
    at 33 (Answer 2 1 (caller 2 1 2) (reply.Opened 0)) ∷
    at 34 (Accept 2 1 (caller 2 1 3) (call.Read 0 0 10)) ∷
    at 35 (Act (epoch 3 1 1) (inst 2 1) 1 (op.Read 0 10) (outcome.Data (99 ∷ []))) ∷
    at 35 (Answer 2 1 (caller 2 1 3) (reply.Data (99 ∷ []))) ∷
    []

abbrev pub removed_and_changed : Example
removed_and_changed = record { lines = removed_and_changed_lines; trace = removed_and_changed_trace }
