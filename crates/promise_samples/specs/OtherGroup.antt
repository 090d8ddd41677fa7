-- Two files of one number, each in a group of its own: the one is changed, the other removed.
use Rattle.std.specs.Prelude.{List, [], ◌∷◌, None, Some, codes}
use Rattle.locus_ids.specs.declared.ids.Kind.TheVariants as kind
use Rattle.locus_ids.specs.declared.ids.Mode.TheVariants as mode
use Rattle.trace_book.specs.declared.call.Call.TheVariants as call
use Rattle.trace_book.specs.declared.call.OpenMode.TheVariants as how
use Rattle.trace_book.specs.declared.operation.Op.TheVariants as op
use Rattle.trace_book.specs.declared.operation.Outcome.TheVariants as outcome
use Rattle.trace_book.specs.declared.operation.What.TheVariants as what
use Rattle.trace_book.specs.declared.operation.Served.TheVariants as served
use Rattle.trace_book.specs.declared.reply.Reply.TheVariants as reply
use Rattle.schedule_lines.specs.declared.header.HeaderLine.TheVariants as header
use Rattle.schedule_lines.specs.declared.line.Line.TheVariants as line
use Rattle.trace_book.specs.declared.record.Record.TheVariants.{Join, Start, Accept, Look, Grant, Act, Commit, Release, Answer}
use Rattle.trace_book.specs.declared.entry.Entry.{Entry}
use Rattle.schedule_lines.specs.declared.line.ScheduleLine.{ScheduleLine}
use Rattle.schedule_lines.specs.declared.line.ScheduleLine.TheVariants.{Passed, Header, Event}
use Rattle.promise_samples.specs.Examples.{Example}
use Rattle.lawful_trace.specs.Samples.{at, epoch, caller, inst, file, stamp, brought, members}

abbrev other_group_lines : List ScheduleLine
other_group_lines =
    Passed ∷
    Header (header.Sites 1) ∷
    Header (header.Group 0 (record { 0 = 1 })) ∷
    Header (header.Group 1 (record { 0 = 1 })) ∷
    Header (header.Mount 1 (codes "usr")) ∷
    Event (line.Merge 1) ∷
    Event (line.Settle 1000) ∷
    Event (line.Call 1 1 (call.Create (codes "/a") None)) ∷
    Event (line.Settle 1000) ∷
    Event (line.Call 1 1 (call.Create (codes "/usr/b") None)) ∷
    Event (line.Settle 1000) ∷
    Event (line.Call 1 1 (call.Open (codes "/usr/b") how.Write)) ∷
    Event (line.Settle 1000) ∷
    Event (line.Call 1 1 (call.Write 0 0 (98 ∷ []))) ∷
    Event (line.Settle 1000) ∷
    Event (line.Call 1 1 (call.Close 0)) ∷
    Event (line.Settle 1000) ∷
    Event (line.Call 1 1 (call.Unlink (codes "/a"))) ∷
    Event (line.Settle 1000) ∷
    Event (line.Tick 1) ∷
    []

abbrev other_group_trace : List Entry
other_group_trace =
    at 6 (Join 1 (epoch 1 1 1) (members (1 ∷ []))) ∷
    at 7 (Start (epoch 1 1 1) 0 (brought 1 (stamp 0 0) ∷ [])) ∷
    at 7 (Start (epoch 1 1 1) 1 (brought 1 (stamp 0 0) ∷ [])) ∷
    at 8 (Accept 1 1 (caller 1 1 1) (call.Create (codes "/a") None)) ∷
    at 9 (Grant (epoch 1 1 1) (caller 1 1 1) 1 (inst 1 1) mode.Write (file 0 1) (Some (stamp 0 0)) 1) ∷
    at 9 (Act (epoch 1 1 1) (inst 1 1) 1 (op.Probe (codes "a")) outcome.Done) ∷
    at 9 (Grant (epoch 1 1 1) (caller 1 1 1) 3 (inst 1 2) mode.Make (file 0 2) None 1) ∷
    at 9 (Commit (file 0 2) 1 (stamp 1 1) [] []) ∷
    at 9 (Release (epoch 1 1 1) (inst 1 2) (file 0 2) (Some (stamp 1 1))) ∷
    at 9 (Act (epoch 1 1 1) (inst 1 1) 2 (op.Insert (codes "a") 2 kind.File) outcome.Done) ∷
    at 9 (Commit (file 0 1) 1 (stamp 1 1) ((stamp 0 0) ∷ []) (1 ∷ 97 ∷ 0 ∷ 2 ∷ 1 ∷ 0 ∷ 0 ∷ 0 ∷ 1 ∷ [])) ∷
    at 9 (Release (epoch 1 1 1) (inst 1 1) (file 0 1) (Some (stamp 1 1))) ∷
    at 9 (Answer 1 1 (caller 1 1 1) (reply.Made 2)) ∷
    at 10 (Accept 1 1 (caller 1 1 2) (call.Create (codes "/usr/b") None)) ∷
    at 11 (Grant (epoch 1 1 1) (caller 1 1 2) 1 (inst 1 3) mode.Write (file 1 1) (Some (stamp 0 0)) 1) ∷
    at 11 (Act (epoch 1 1 1) (inst 1 3) 1 (op.Probe (codes "b")) outcome.Done) ∷
    at 11 (Grant (epoch 1 1 1) (caller 1 1 2) 3 (inst 1 4) mode.Make (file 1 2) None 1) ∷
    at 11 (Commit (file 1 2) 1 (stamp 1 1) [] []) ∷
    at 11 (Release (epoch 1 1 1) (inst 1 4) (file 1 2) (Some (stamp 1 1))) ∷
    at 11 (Act (epoch 1 1 1) (inst 1 3) 2 (op.Insert (codes "b") 2 kind.File) outcome.Done) ∷
    at 11 (Commit (file 1 1) 1 (stamp 1 1) ((stamp 0 0) ∷ []) (1 ∷ 98 ∷ 0 ∷ 2 ∷ 1 ∷ 0 ∷ 0 ∷ 0 ∷ 1 ∷ [])) ∷
    at 11 (Release (epoch 1 1 1) (inst 1 3) (file 1 1) (Some (stamp 1 1))) ∷
    at 11 (Answer 1 1 (caller 1 1 2) (reply.Made 2)) ∷
    at 12 (Accept 1 1 (caller 1 1 3) (call.Open (codes "/usr/b") how.Write)) ∷
    at 13 (Look (epoch 1 1 1) (caller 1 1 3) 1 (file 1 1) (what.Name (codes "b")) (served.At (stamp 1 1))) ∷
    at 13 (Grant (epoch 1 1 1) (caller 1 1 3) 2 (inst 1 5) mode.Write (file 1 2) (Some (stamp 1 1)) 1) ∷
    at 13 (Answer 1 1 (caller 1 1 3) (reply.Opened 0)) ∷
    at 14 (Accept 1 1 (caller 1 1 4) (call.Write 0 0 (98 ∷ []))) ∷
    at 15 (Act (epoch 1 1 1) (inst 1 5) 1 (op.Write 0 (98 ∷ [])) outcome.Done) ∷
    at 15 (Answer 1 1 (caller 1 1 4) reply.Done) ∷
    at 16 (Accept 1 1 (caller 1 1 5) (call.Close 0)) ∷
    at 17 (Commit (file 1 2) 1 (stamp 1 2) ((stamp 1 1) ∷ []) (98 ∷ [])) ∷
    at 17 (Release (epoch 1 1 1) (inst 1 5) (file 1 2) (Some (stamp 1 2))) ∷
    at 17 (Answer 1 1 (caller 1 1 5) (reply.Closed (Some (stamp 1 2)))) ∷
    at 18 (Accept 1 1 (caller 1 1 6) (call.Unlink (codes "/a"))) ∷
    at 19 (Grant (epoch 1 1 1) (caller 1 1 6) 1 (inst 1 6) mode.Write (file 0 1) (Some (stamp 1 1)) 1) ∷
    at 19 (Act (epoch 1 1 1) (inst 1 6) 1 (op.Find (codes "a")) (outcome.Found 2 kind.File)) ∷
    at 19 (Grant (epoch 1 1 1) (caller 1 1 6) 3 (inst 1 7) mode.Write (file 0 2) (Some (stamp 1 1)) 1) ∷
    at 19 (Act (epoch 1 1 1) (inst 1 6) 2 (op.Remove (codes "a") 2) outcome.Done) ∷
    at 19 (Commit (file 0 1) 1 (stamp 1 2) ((stamp 1 1) ∷ []) (1 ∷ 97 ∷ 0 ∷ 2 ∷ 1 ∷ 0 ∷ 0 ∷ 0 ∷ 2 ∷ 0 ∷ 0 ∷ 0 ∷ 1 ∷ 0 ∷ 0 ∷ 0 ∷ 0 ∷ 0 ∷ 0 ∷ 0 ∷ 0 ∷ 0 ∷ 0 ∷ 0 ∷ 0 ∷ 0 ∷ 0 ∷ 0 ∷ 0 ∷ 0 ∷ 0 ∷ 0 ∷ 0 ∷ 0 ∷ 0 ∷ 0 ∷ 0 ∷ 0 ∷ 0 ∷ 0 ∷ 0 ∷ 0 ∷ 0 ∷ 0 ∷ 0 ∷ 0 ∷ 0 ∷ 0 ∷ 0 ∷ 0 ∷ 0 ∷ 0 ∷ 0 ∷ 0 ∷ 0 ∷ 0 ∷ 0 ∷ 0 ∷ 0 ∷ 0 ∷ 0 ∷ 0 ∷ 0 ∷ 0 ∷ 0 ∷ 0 ∷ 0 ∷ 0 ∷ 0 ∷ 0 ∷ 0 ∷ 0 ∷ 0 ∷ [])) ∷
    at 19 (Release (epoch 1 1 1) (inst 1 6) (file 0 1) (Some (stamp 1 2))) ∷
    at 19 (Release (epoch 1 1 1) (inst 1 7) (file 0 2) None) ∷
    at 19 (Answer 1 1 (caller 1 1 6) reply.Done) ∷
    []

abbrev pub other_group : Example
other_group = record { lines = other_group_lines; trace = other_group_trace }
