-- Three sites are cut in two. One side changes a file; when they meet again the other side has the change.
use Rattle.std.specs.Prelude.{List, [], ◌∷◌, None, Some, codes}
use Rattle.locus_ids.specs.declared.ids.Kind.TheVariants as kind
use Rattle.locus_ids.specs.declared.ids.Mode.TheVariants as mode
use Rattle.trace_book.specs.declared.call.Call.TheVariants as call
use Rattle.trace_book.specs.declared.call.OpenMode.TheVariants as how
use Rattle.trace_book.specs.declared.operation.Op.TheVariants as op
use Rattle.trace_book.specs.declared.operation.Outcome.TheVariants as outcome
use Rattle.trace_book.specs.declared.operation.What.TheVariants as what
use Rattle.trace_book.specs.declared.operation.Served.TheVariants as served
use Rattle.trace_book.specs.declared.reply.Reply.TheVariants as reply
use Rattle.schedule_lines.specs.declared.header.HeaderLine.TheVariants as header
use Rattle.schedule_lines.specs.declared.line.Line.TheVariants as line
use Rattle.trace_book.specs.declared.record.Record.TheVariants.{Leave, Join, Start, Accept, Look, Grant, Act, Commit, Release, Adopt, Answer}
use Rattle.trace_book.specs.declared.entry.Entry.{Entry}
use Rattle.schedule_lines.specs.declared.line.ScheduleLine.{ScheduleLine}
use Rattle.schedule_lines.specs.declared.line.ScheduleLine.TheVariants.{Passed, Header, Event}
use Rattle.promise_samples.specs.Examples.{Example}
use Rattle.lawful_trace.specs.Samples.{at, epoch, caller, inst, file, stamp, brought, members}

abbrev cut_and_heal_lines : List ScheduleLine
cut_and_heal_lines =
    Passed ∷
    Header (header.Sites 3) ∷
    Header (header.Group 0 (record { 0 = 7 })) ∷
    Event (line.Merge 1) ∷
    Event (line.Settle 1000) ∷
    Passed ∷
    Event (line.Call 1 1 (call.Create (codes "/f") None)) ∷
    Event (line.Settle 1000) ∷
    Passed ∷
    Event (line.Down 1 3) ∷
    Event (line.Down 2 3) ∷
    Event (line.Part 1) ∷
    Event (line.Part 3) ∷
    Event (line.Settle 1000) ∷
    Passed ∷
    Event (line.Call 1 1 (call.Open (codes "/f") how.Write)) ∷
    Event (line.Settle 1000) ∷
    Event (line.Call 1 1 (call.Write 0 0 (97 ∷ []))) ∷
    Event (line.Settle 1000) ∷
    Event (line.Call 1 1 (call.Close 0)) ∷
    Event (line.Settle 1000) ∷
    Passed ∷
    Event (line.Call 3 1 (call.Open (codes "/f") how.Read)) ∷
    Event (line.Settle 1000) ∷
    Event (line.Call 3 1 (call.Read 0 0 10)) ∷
    Event (line.Settle 1000) ∷
    Event (line.Call 3 1 (call.Close 0)) ∷
    Event (line.Settle 1000) ∷
    Passed ∷
    Event (line.Up 1 3) ∷
    Event (line.Up 2 3) ∷
    Event (line.Merge 1) ∷
    Event (line.Settle 1000) ∷
    Event (line.Call 3 1 (call.Open (codes "/f") how.Read)) ∷
    Event (line.Settle 1000) ∷
    Event (line.Call 3 1 (call.Read 0 0 10)) ∷
    Event (line.Settle 1000) ∷
    []

abbrev cut_and_heal_trace : List Entry
cut_and_heal_trace =
    at 5 (Join 1 (epoch 1 1 1) (members (1 ∷ 1 ∷ 1 ∷ []))) ∷
    at 5 (Join 2 (epoch 1 1 1) (members (1 ∷ 1 ∷ 1 ∷ []))) ∷
    at 5 (Join 3 (epoch 1 1 1) (members (1 ∷ 1 ∷ 1 ∷ []))) ∷
    at 5 (Start (epoch 1 1 1) 0 (brought 1 (stamp 0 0) ∷ [])) ∷
    at 7 (Accept 1 1 (caller 1 1 1) (call.Create (codes "/f") None)) ∷
    at 8 (Grant (epoch 1 1 1) (caller 1 1 1) 1 (inst 1 1) mode.Write (file 0 1) (Some (stamp 0 0)) 1) ∷
    at 8 (Act (epoch 1 1 1) (inst 1 1) 1 (op.Probe (codes "f")) outcome.Done) ∷
    at 8 (Grant (epoch 1 1 1) (caller 1 1 1) 3 (inst 1 2) mode.Make (file 0 2) None 1) ∷
    at 8 (Commit (file 0 2) 1 (stamp 1 1) [] []) ∷
    at 8 (Release (epoch 1 1 1) (inst 1 2) (file 0 2) (Some (stamp 1 1))) ∷
    at 8 (Adopt (file 0 2) 2 (stamp 1 1)) ∷
    at 8 (Adopt (file 0 2) 3 (stamp 1 1)) ∷
    at 8 (Act (epoch 1 1 1) (inst 1 1) 2 (op.Insert (codes "f") 2 kind.File) outcome.Done) ∷
    at 8 (Commit (file 0 1) 1 (stamp 1 1) ((stamp 0 0) ∷ []) (1 ∷ 102 ∷ 0 ∷ 2 ∷ 1 ∷ 0 ∷ 0 ∷ 0 ∷ 1 ∷ [])) ∷
    at 8 (Release (epoch 1 1 1) (inst 1 1) (file 0 1) (Some (stamp 1 1))) ∷
    at 8 (Answer 1 1 (caller 1 1 1) (reply.Made 2)) ∷
    at 8 (Adopt (file 0 1) 2 (stamp 1 1)) ∷
    at 8 (Adopt (file 0 1) 3 (stamp 1 1)) ∷
    at 12 (Leave 1 (epoch 1 1 1)) ∷
    at 13 (Leave 3 (epoch 1 1 1)) ∷
    at 13 (Join 3 (epoch 2 3 1) (members (0 ∷ 0 ∷ 1 ∷ []))) ∷
    at 14 (Leave 2 (epoch 1 1 1)) ∷
    at 14 (Start (epoch 2 3 1) 0 (brought 1 (stamp 1 1) ∷ brought 2 (stamp 1 1) ∷ [])) ∷
    at 14 (Join 1 (epoch 2 1 1) (members (1 ∷ 1 ∷ []))) ∷
    at 14 (Join 2 (epoch 2 1 1) (members (1 ∷ 1 ∷ []))) ∷
    at 14 (Start (epoch 2 1 1) 0 (brought 1 (stamp 1 1) ∷ brought 2 (stamp 1 1) ∷ [])) ∷
    at 16 (Accept 1 1 (caller 1 1 2) (call.Open (codes "/f") how.Write)) ∷
    at 17 (Look (epoch 2 1 1) (caller 1 1 2) 1 (file 0 1) (what.Name (codes "f")) (served.At (stamp 1 1))) ∷
    at 17 (Grant (epoch 2 1 1) (caller 1 1 2) 2 (inst 1 3) mode.Write (file 0 2) (Some (stamp 1 1)) 1) ∷
    at 17 (Answer 1 1 (caller 1 1 2) (reply.Opened 0)) ∷
    at 18 (Accept 1 1 (caller 1 1 3) (call.Write 0 0 (97 ∷ []))) ∷
    at 19 (Act (epoch 2 1 1) (inst 1 3) 1 (op.Write 0 (97 ∷ [])) outcome.Done) ∷
    at 19 (Answer 1 1 (caller 1 1 3) reply.Done) ∷
    at 20 (Accept 1 1 (caller 1 1 4) (call.Close 0)) ∷
    at 21 (Commit (file 0 2) 1 (stamp 1 2) ((stamp 1 1) ∷ []) (97 ∷ [])) ∷
    at 21 (Release (epoch 2 1 1) (inst 1 3) (file 0 2) (Some (stamp 1 2))) ∷
    at 21 (Answer 1 1 (caller 1 1 4) (reply.Closed (Some (stamp 1 2)))) ∷
    at 21 (Adopt (file 0 2) 2 (stamp 1 2)) ∷
    at 23 (Accept 3 1 (caller 3 1 1) (call.Open (codes "/f") how.Read)) ∷
    at 24 (Look (epoch 2 3 1) (caller 3 1 1) 1 (file 0 1) (what.Name (codes "f")) (served.At (stamp 1 1))) ∷
    at 24 (Grant (epoch 2 3 1) (caller 3 1 1) 2 (inst 3 1) mode.Read (file 0 2) (Some (stamp 1 1)) 3) ∷
    at 24 (Answer 3 1 (caller 3 1 1) (reply.Opened 0)) ∷
    at 25 (Accept 3 1 (caller 3 1 2) (call.Read 0 0 10)) ∷
    at 26 (Act (epoch 2 3 1) (inst 3 1) 1 (op.Read 0 10) (outcome.Data [])) ∷
    at 26 (Answer 3 1 (caller 3 1 2) (reply.Data [])) ∷
    at 27 (Accept 3 1 (caller 3 1 3) (call.Close 0)) ∷
    at 28 (Release (epoch 2 3 1) (inst 3 1) (file 0 2) None) ∷
    at 28 (Answer 3 1 (caller 3 1 3) (reply.Closed None)) ∷
    at 32 (Leave 1 (epoch 2 1 1)) ∷
    at 33 (Leave 2 (epoch 2 1 1)) ∷
    at 33 (Leave 3 (epoch 2 3 1)) ∷
    at 33 (Join 1 (epoch 3 1 1) (members (1 ∷ 1 ∷ 1 ∷ []))) ∷
    at 33 (Join 2 (epoch 3 1 1) (members (1 ∷ 1 ∷ 1 ∷ []))) ∷
    at 33 (Join 3 (epoch 3 1 1) (members (1 ∷ 1 ∷ 1 ∷ []))) ∷
    at 33 (Start (epoch 3 1 1) 0 (brought 1 (stamp 1 1) ∷ brought 2 (stamp 1 1) ∷ brought 2 (stamp 1 2) ∷ [])) ∷
    at 33 (Adopt (file 0 2) 3 (stamp 1 2)) ∷
    at 34 (Accept 3 1 (caller 3 1 4) (call.Open (codes "/f") how.Read)) ∷
    at 35 (Look (epoch 3 1 1) (caller 3 1 4) 1 (file 0 1) (what.Name (codes "f")) (served.At (stamp 1 1))) ∷
    at 35 (Grant (epoch 3 1 1) (caller 3 1 4) 2 (inst 3 2) mode.Read (file 0 2) (Some (stamp 1 2)) 3) ∷
    at 35 (Answer 3 1 (caller 3 1 4) (reply.Opened 0)) ∷
    at 36 (Accept 3 1 (caller 3 1 5) (call.Read 0 0 10)) ∷
    at 37 (Act (epoch 3 1 1) (inst 3 2) 1 (op.Read 0 10) (outcome.Data (97 ∷ []))) ∷
    at 37 (Answer 3 1 (caller 3 1 5) (reply.Data (97 ∷ []))) ∷
    []

abbrev pub cut_and_heal : Example
cut_and_heal = record { lines = cut_and_heal_lines; trace = cut_and_heal_trace }
