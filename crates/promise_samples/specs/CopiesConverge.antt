-- Three calm rounds leave the only kept version of a file with each member of its set, where nobody has it open from the first to the third.
use Rattle.std.specs.Prelude.{List, [], ◌∷◌, None, Some, codes}
use Rattle.locus_ids.specs.declared.ids.Kind.TheVariants as kind
use Rattle.locus_ids.specs.declared.ids.Mode.TheVariants as mode
use Rattle.trace_book.specs.declared.call.Call.TheVariants as call
use Rattle.trace_book.specs.declared.call.OpenMode.TheVariants as how
use Rattle.trace_book.specs.declared.operation.Op.TheVariants as op
use Rattle.trace_book.specs.declared.operation.Outcome.TheVariants as outcome
use Rattle.trace_book.specs.declared.operation.What.TheVariants as what
use Rattle.trace_book.specs.declared.operation.Served.TheVariants as served
use Rattle.trace_book.specs.declared.reply.Reply.TheVariants as reply
use Rattle.schedule_lines.specs.declared.header.HeaderLine.TheVariants as header
use Rattle.schedule_lines.specs.declared.line.Line.TheVariants as line
use Rattle.trace_book.specs.declared.record.Record.TheVariants.{Join, Start, Accept, Look, Grant, Act, Commit, Release, Adopt, Answer}
use Rattle.trace_book.specs.declared.entry.Entry.{Entry}
use Rattle.schedule_lines.specs.declared.line.ScheduleLine.{ScheduleLine}
use Rattle.schedule_lines.specs.declared.line.ScheduleLine.TheVariants.{Passed, Header, Event}
use Rattle.promise_samples.specs.Examples.{Example}
use Rattle.lawful_trace.specs.Samples.{at, epoch, caller, inst, file, stamp, brought, members}

abbrev copies_converge_lines : List ScheduleLine
copies_converge_lines =
    Passed ∷
    Header (header.Sites 2) ∷
    Header (header.Group 0 (record { 0 = 3 })) ∷
    Event (line.Merge 1) ∷
    Event (line.Settle 1000) ∷
    Event (line.Call 1 1 (call.Create (codes "/f") None)) ∷
    Event (line.Settle 1000) ∷
    Passed ∷
    Event (line.Call 2 1 (call.Open (codes "/f") how.Read)) ∷
    Event (line.Settle 1000) ∷
    Event (line.Call 2 1 (call.Close 0)) ∷
    Event (line.Deliver 52) ∷
    Event (line.Deliver 53) ∷
    Event (line.Lose 54) ∷
    Passed ∷
    Event (line.Down 1 2) ∷
    Event (line.Call 1 1 (call.Open (codes "/f") how.Write)) ∷
    Event (line.Settle 1000) ∷
    Event (line.Call 1 1 (call.Write 0 0 (97 ∷ []))) ∷
    Event (line.Settle 1000) ∷
    Event (line.Call 1 1 (call.Cut 0 0)) ∷
    Event (line.Settle 1000) ∷
    Event (line.Call 1 1 (call.Close 0)) ∷
    Event (line.Settle 1000) ∷
    Event (line.Up 1 2) ∷
    Passed ∷
    Event (line.Settle 1000) ∷
    Passed ∷
    Event (line.Call 2 1 (call.MakeDir (codes "/d"))) ∷
    Event (line.Settle 1000) ∷
    Event (line.Settle 1000) ∷
    []

abbrev copies_converge_trace : List Entry
copies_converge_trace =
    at 5 (Join 1 (epoch 1 1 1) (members (1 ∷ 1 ∷ []))) ∷
    at 5 (Join 2 (epoch 1 1 1) (members (1 ∷ 1 ∷ []))) ∷
    at 5 (Start (epoch 1 1 1) 0 (brought 1 (stamp 0 0) ∷ [])) ∷
    at 6 (Accept 1 1 (caller 1 1 1) (call.Create (codes "/f") None)) ∷
    at 7 (Grant (epoch 1 1 1) (caller 1 1 1) 1 (inst 1 1) mode.Write (file 0 1) (Some (stamp 0 0)) 1) ∷
    at 7 (Act (epoch 1 1 1) (inst 1 1) 1 (op.Probe (codes "f")) outcome.Done) ∷
    at 7 (Grant (epoch 1 1 1) (caller 1 1 1) 3 (inst 1 2) mode.Make (file 0 2) None 1) ∷
    at 7 (Commit (file 0 2) 1 (stamp 1 1) [] []) ∷
    at 7 (Release (epoch 1 1 1) (inst 1 2) (file 0 2) (Some (stamp 1 1))) ∷
    at 7 (Adopt (file 0 2) 2 (stamp 1 1)) ∷
    at 7 (Act (epoch 1 1 1) (inst 1 1) 2 (op.Insert (codes "f") 2 kind.File) outcome.Done) ∷
    at 7 (Commit (file 0 1) 1 (stamp 1 1) ((stamp 0 0) ∷ []) (1 ∷ 102 ∷ 0 ∷ 2 ∷ 1 ∷ 0 ∷ 0 ∷ 0 ∷ 1 ∷ [])) ∷
    at 7 (Release (epoch 1 1 1) (inst 1 1) (file 0 1) (Some (stamp 1 1))) ∷
    at 7 (Answer 1 1 (caller 1 1 1) (reply.Made 2)) ∷
    at 7 (Adopt (file 0 1) 2 (stamp 1 1)) ∷
    at 9 (Accept 2 1 (caller 2 1 1) (call.Open (codes "/f") how.Read)) ∷
    at 10 (Look (epoch 1 1 1) (caller 2 1 1) 1 (file 0 1) (what.Name (codes "f")) (served.At (stamp 1 1))) ∷
    at 10 (Grant (epoch 1 1 1) (caller 2 1 1) 2 (inst 2 1) mode.Read (file 0 2) (Some (stamp 1 1)) 2) ∷
    at 10 (Answer 2 1 (caller 2 1 1) (reply.Opened 0)) ∷
    at 11 (Accept 2 1 (caller 2 1 2) (call.Close 0)) ∷
    at 13 (Release (epoch 1 1 1) (inst 2 1) (file 0 2) None) ∷
    at 17 (Accept 1 1 (caller 1 1 2) (call.Open (codes "/f") how.Write)) ∷
    at 18 (Look (epoch 1 1 1) (caller 1 1 2) 1 (file 0 1) (what.Name (codes "f")) (served.At (stamp 1 1))) ∷
    at 18 (Grant (epoch 1 1 1) (caller 1 1 2) 2 (inst 1 3) mode.Write (file 0 2) (Some (stamp 1 1)) 1) ∷
    at 18 (Answer 1 1 (caller 1 1 2) (reply.Opened 0)) ∷
    at 19 (Accept 1 1 (caller 1 1 3) (call.Write 0 0 (97 ∷ []))) ∷
    at 20 (Act (epoch 1 1 1) (inst 1 3) 1 (op.Write 0 (97 ∷ [])) outcome.Done) ∷
    at 20 (Answer 1 1 (caller 1 1 3) reply.Done) ∷
    at 21 (Accept 1 1 (caller 1 1 4) (call.Cut 0 0)) ∷
    at 22 (Act (epoch 1 1 1) (inst 1 3) 2 (op.Cut 0) outcome.Done) ∷
    at 22 (Answer 1 1 (caller 1 1 4) reply.Done) ∷
    at 23 (Accept 1 1 (caller 1 1 5) (call.Close 0)) ∷
    at 24 (Commit (file 0 2) 1 (stamp 1 2) ((stamp 1 1) ∷ []) []) ∷
    at 24 (Release (epoch 1 1 1) (inst 1 3) (file 0 2) (Some (stamp 1 2))) ∷
    at 24 (Answer 1 1 (caller 1 1 5) (reply.Closed (Some (stamp 1 2)))) ∷
    at 27 (Answer 2 1 (caller 2 1 2) (reply.Closed None)) ∷
    at 27 (Adopt (file 0 2) 2 (stamp 1 2)) ∷
    at 29 (Accept 2 1 (caller 2 1 3) (call.MakeDir (codes "/d"))) ∷
    at 30 (Grant (epoch 1 1 1) (caller 2 1 3) 1 (inst 2 2) mode.Write (file 0 1) (Some (stamp 1 1)) 2) ∷
    at 30 (Act (epoch 1 1 1) (inst 2 2) 1 (op.Probe (codes "d")) outcome.Done) ∷
    at 30 (Grant (epoch 1 1 1) (caller 2 1 3) 3 (inst 2 3) mode.Make (file 0 65) None 2) ∷
    at 30 (Commit (file 0 65) 2 (stamp 2 1) [] []) ∷
    at 30 (Release (epoch 1 1 1) (inst 2 3) (file 0 65) (Some (stamp 2 1))) ∷
    at 30 (Adopt (file 0 65) 1 (stamp 2 1)) ∷
    at 30 (Act (epoch 1 1 1) (inst 2 2) 2 (op.Insert (codes "d") 65 kind.Dir) outcome.Done) ∷
    at 30 (Commit (file 0 1) 2 (stamp 2 1) ((stamp 1 1) ∷ []) (1 ∷ 100 ∷ 0 ∷ 65 ∷ 2 ∷ 0 ∷ 0 ∷ 0 ∷ 1 ∷ 1 ∷ 102 ∷ 0 ∷ 2 ∷ 1 ∷ 0 ∷ 0 ∷ 0 ∷ 1 ∷ [])) ∷
    at 30 (Release (epoch 1 1 1) (inst 2 2) (file 0 1) (Some (stamp 2 1))) ∷
    at 30 (Answer 2 1 (caller 2 1 3) (reply.Made 65)) ∷
    at 30 (Adopt (file 0 1) 1 (stamp 2 1)) ∷
    []

abbrev pub copies_converge : Example
copies_converge = record { lines = copies_converge_lines; trace = copies_converge_trace }
