-- Three sites part. Two write one file beside each other, and two make a file each; the first site does neither of the latter.
use Rattle.std.specs.Prelude.{List, [], ◌∷◌, None, Some, codes}
use Rattle.locus_ids.specs.declared.ids.Kind.TheVariants as kind
use Rattle.locus_ids.specs.declared.ids.Mode.TheVariants as mode
use Rattle.trace_book.specs.declared.call.Call.TheVariants as call
use Rattle.trace_book.specs.declared.call.OpenMode.TheVariants as how
use Rattle.trace_book.specs.declared.operation.Op.TheVariants as op
use Rattle.trace_book.specs.declared.operation.Outcome.TheVariants as outcome
use Rattle.trace_book.specs.declared.operation.What.TheVariants as what
use Rattle.trace_book.specs.declared.operation.Served.TheVariants as served
use Rattle.trace_book.specs.declared.reply.Reply.TheVariants as reply
use Rattle.schedule_lines.specs.declared.header.HeaderLine.TheVariants as header
use Rattle.schedule_lines.specs.declared.line.Line.TheVariants as line
use Rattle.trace_book.specs.declared.record.Record.TheVariants.{Leave, Join, Start, Accept, Look, Grant, Act, Commit, Release, Adopt, Answer}
use Rattle.trace_book.specs.declared.entry.Entry.{Entry}
use Rattle.schedule_lines.specs.declared.line.ScheduleLine.{ScheduleLine}
use Rattle.schedule_lines.specs.declared.line.ScheduleLine.TheVariants.{Passed, Header, Event}
use Rattle.promise_samples.specs.Examples.{Example}
use Rattle.lawful_trace.specs.Samples.{at, epoch, caller, inst, file, stamp, brought, members}

abbrev three_ways_lines : List ScheduleLine
three_ways_lines =
    Passed ∷
    Header (header.Sites 3) ∷
    Header (header.Group 0 (record { 0 = 7 })) ∷
    Event (line.Merge 1) ∷
    Event (line.Settle 1000) ∷
    Event (line.Call 1 1 (call.Create (codes "/f") None)) ∷
    Event (line.Settle 1000) ∷
    Event (line.Down 1 2) ∷
    Event (line.Down 1 3) ∷
    Event (line.Down 2 3) ∷
    Event (line.Part 1) ∷
    Event (line.Part 2) ∷
    Event (line.Part 3) ∷
    Event (line.Settle 1000) ∷
    Event (line.Call 1 1 (call.Open (codes "/f") how.Write)) ∷
    Event (line.Call 3 1 (call.Open (codes "/f") how.Write)) ∷
    Event (line.Settle 1000) ∷
    Event (line.Call 1 1 (call.Write 0 0 (97 ∷ []))) ∷
    Event (line.Call 3 1 (call.Write 0 0 (99 ∷ []))) ∷
    Event (line.Settle 1000) ∷
    Event (line.Call 1 1 (call.Close 0)) ∷
    Event (line.Call 3 1 (call.Close 0)) ∷
    Event (line.Settle 1000) ∷
    Event (line.Call 2 1 (call.Create (codes "/b") None)) ∷
    Event (line.Call 3 1 (call.Create (codes "/c") None)) ∷
    Event (line.Settle 1000) ∷
    Event (line.Up 1 2) ∷
    Event (line.Up 1 3) ∷
    Event (line.Up 2 3) ∷
    Event (line.Merge 1) ∷
    Event (line.Settle 1000) ∷
    []

abbrev three_ways_trace : List Entry
three_ways_trace =
    at 5 (Join 1 (epoch 1 1 1) (members (1 ∷ 1 ∷ 1 ∷ []))) ∷
    at 5 (Join 2 (epoch 1 1 1) (members (1 ∷ 1 ∷ 1 ∷ []))) ∷
    at 5 (Join 3 (epoch 1 1 1) (members (1 ∷ 1 ∷ 1 ∷ []))) ∷
    at 5 (Start (epoch 1 1 1) 0 (brought 1 (stamp 0 0) ∷ [])) ∷
    at 6 (Accept 1 1 (caller 1 1 1) (call.Create (codes "/f") None)) ∷
    at 7 (Grant (epoch 1 1 1) (caller 1 1 1) 1 (inst 1 1) mode.Write (file 0 1) (Some (stamp 0 0)) 1) ∷
    at 7 (Act (epoch 1 1 1) (inst 1 1) 1 (op.Probe (codes "f")) outcome.Done) ∷
    at 7 (Grant (epoch 1 1 1) (caller 1 1 1) 3 (inst 1 2) mode.Make (file 0 2) None 1) ∷
    at 7 (Commit (file 0 2) 1 (stamp 1 1) [] []) ∷
    at 7 (Release (epoch 1 1 1) (inst 1 2) (file 0 2) (Some (stamp 1 1))) ∷
    at 7 (Adopt (file 0 2) 2 (stamp 1 1)) ∷
    at 7 (Adopt (file 0 2) 3 (stamp 1 1)) ∷
    at 7 (Act (epoch 1 1 1) (inst 1 1) 2 (op.Insert (codes "f") 2 kind.File) outcome.Done) ∷
    at 7 (Commit (file 0 1) 1 (stamp 1 1) ((stamp 0 0) ∷ []) (1 ∷ 102 ∷ 0 ∷ 2 ∷ 1 ∷ 0 ∷ 0 ∷ 0 ∷ 1 ∷ [])) ∷
    at 7 (Release (epoch 1 1 1) (inst 1 1) (file 0 1) (Some (stamp 1 1))) ∷
    at 7 (Answer 1 1 (caller 1 1 1) (reply.Made 2)) ∷
    at 7 (Adopt (file 0 1) 2 (stamp 1 1)) ∷
    at 7 (Adopt (file 0 1) 3 (stamp 1 1)) ∷
    at 11 (Leave 1 (epoch 1 1 1)) ∷
    at 11 (Join 1 (epoch 2 1 1) (members (1 ∷ []))) ∷
    at 12 (Leave 2 (epoch 1 1 1)) ∷
    at 12 (Join 2 (epoch 2 2 1) (members (0 ∷ 1 ∷ []))) ∷
    at 13 (Leave 3 (epoch 1 1 1)) ∷
    at 13 (Join 3 (epoch 2 3 1) (members (0 ∷ 0 ∷ 1 ∷ []))) ∷
    at 14 (Start (epoch 2 1 1) 0 (brought 1 (stamp 1 1) ∷ brought 2 (stamp 1 1) ∷ [])) ∷
    at 14 (Start (epoch 2 2 1) 0 (brought 1 (stamp 1 1) ∷ brought 2 (stamp 1 1) ∷ [])) ∷
    at 14 (Start (epoch 2 3 1) 0 (brought 1 (stamp 1 1) ∷ brought 2 (stamp 1 1) ∷ [])) ∷
    at 15 (Accept 1 1 (caller 1 1 2) (call.Open (codes "/f") how.Write)) ∷
    at 16 (Accept 3 1 (caller 3 1 1) (call.Open (codes "/f") how.Write)) ∷
    at 17 (Look (epoch 2 1 1) (caller 1 1 2) 1 (file 0 1) (what.Name (codes "f")) (served.At (stamp 1 1))) ∷
    at 17 (Look (epoch 2 3 1) (caller 3 1 1) 1 (file 0 1) (what.Name (codes "f")) (served.At (stamp 1 1))) ∷
    at 17 (Grant (epoch 2 1 1) (caller 1 1 2) 2 (inst 1 3) mode.Write (file 0 2) (Some (stamp 1 1)) 1) ∷
    at 17 (Grant (epoch 2 3 1) (caller 3 1 1) 2 (inst 3 1) mode.Write (file 0 2) (Some (stamp 1 1)) 3) ∷
    at 17 (Answer 1 1 (caller 1 1 2) (reply.Opened 0)) ∷
    at 17 (Answer 3 1 (caller 3 1 1) (reply.Opened 0)) ∷
    at 18 (Accept 1 1 (caller 1 1 3) (call.Write 0 0 (97 ∷ []))) ∷
    at 19 (Accept 3 1 (caller 3 1 2) (call.Write 0 0 (99 ∷ []))) ∷
    at 20 (Act (epoch 2 1 1) (inst 1 3) 1 (op.Write 0 (97 ∷ [])) outcome.Done) ∷
    at 20 (Act (epoch 2 3 1) (inst 3 1) 1 (op.Write 0 (99 ∷ [])) outcome.Done) ∷
    at 20 (Answer 1 1 (caller 1 1 3) reply.Done) ∷
    at 20 (Answer 3 1 (caller 3 1 2) reply.Done) ∷
    at 21 (Accept 1 1 (caller 1 1 4) (call.Close 0)) ∷
    at 22 (Accept 3 1 (caller 3 1 3) (call.Close 0)) ∷
    at 23 (Commit (file 0 2) 1 (stamp 1 2) ((stamp 1 1) ∷ []) (97 ∷ [])) ∷
    at 23 (Commit (file 0 2) 3 (stamp 3 1) ((stamp 1 1) ∷ []) (99 ∷ [])) ∷
    at 23 (Release (epoch 2 1 1) (inst 1 3) (file 0 2) (Some (stamp 1 2))) ∷
    at 23 (Release (epoch 2 3 1) (inst 3 1) (file 0 2) (Some (stamp 3 1))) ∷
    at 23 (Answer 1 1 (caller 1 1 4) (reply.Closed (Some (stamp 1 2)))) ∷
    at 23 (Answer 3 1 (caller 3 1 3) (reply.Closed (Some (stamp 3 1)))) ∷
    at 24 (Accept 2 1 (caller 2 1 1) (call.Create (codes "/b") None)) ∷
    at 25 (Accept 3 1 (caller 3 1 4) (call.Create (codes "/c") None)) ∷
    at 26 (Grant (epoch 2 2 1) (caller 2 1 1) 1 (inst 2 1) mode.Write (file 0 1) (Some (stamp 1 1)) 2) ∷
    at 26 (Grant (epoch 2 3 1) (caller 3 1 4) 1 (inst 3 2) mode.Write (file 0 1) (Some (stamp 1 1)) 3) ∷
    at 26 (Act (epoch 2 2 1) (inst 2 1) 1 (op.Probe (codes "b")) outcome.Done) ∷
    at 26 (Act (epoch 2 3 1) (inst 3 2) 1 (op.Probe (codes "c")) outcome.Done) ∷
    at 26 (Grant (epoch 2 2 1) (caller 2 1 1) 3 (inst 2 2) mode.Make (file 0 65) None 2) ∷
    at 26 (Grant (epoch 2 3 1) (caller 3 1 4) 3 (inst 3 3) mode.Make (file 0 129) None 3) ∷
    at 26 (Commit (file 0 65) 2 (stamp 2 1) [] []) ∷
    at 26 (Commit (file 0 129) 3 (stamp 3 1) [] []) ∷
    at 26 (Release (epoch 2 2 1) (inst 2 2) (file 0 65) (Some (stamp 2 1))) ∷
    at 26 (Release (epoch 2 3 1) (inst 3 3) (file 0 129) (Some (stamp 3 1))) ∷
    at 26 (Act (epoch 2 2 1) (inst 2 1) 2 (op.Insert (codes "b") 65 kind.File) outcome.Done) ∷
    at 26 (Act (epoch 2 3 1) (inst 3 2) 2 (op.Insert (codes "c") 129 kind.File) outcome.Done) ∷
    at 26 (Commit (file 0 1) 2 (stamp 2 1) ((stamp 1 1) ∷ []) (1 ∷ 98 ∷ 0 ∷ 65 ∷ 1 ∷ 0 ∷ 0 ∷ 0 ∷ 1 ∷ 1 ∷ 102 ∷ 0 ∷ 2 ∷ 1 ∷ 0 ∷ 0 ∷ 0 ∷ 1 ∷ [])) ∷
    at 26 (Commit (file 0 1) 3 (stamp 3 1) ((stamp 1 1) ∷ []) (1 ∷ 99 ∷ 0 ∷ 129 ∷ 1 ∷ 0 ∷ 0 ∷ 0 ∷ 1 ∷ 1 ∷ 102 ∷ 0 ∷ 2 ∷ 1 ∷ 0 ∷ 0 ∷ 0 ∷ 1 ∷ [])) ∷
    at 26 (Release (epoch 2 2 1) (inst 2 1) (file 0 1) (Some (stamp 2 1))) ∷
    at 26 (Release (epoch 2 3 1) (inst 3 2) (file 0 1) (Some (stamp 3 1))) ∷
    at 26 (Answer 2 1 (caller 2 1 1) (reply.Made 65)) ∷
    at 26 (Answer 3 1 (caller 3 1 4) (reply.Made 129)) ∷
    at 30 (Leave 1 (epoch 2 1 1)) ∷
    at 31 (Leave 2 (epoch 2 2 1)) ∷
    at 31 (Leave 3 (epoch 2 3 1)) ∷
    at 31 (Join 1 (epoch 3 1 1) (members (1 ∷ 1 ∷ 1 ∷ []))) ∷
    at 31 (Join 2 (epoch 3 1 1) (members (1 ∷ 1 ∷ 1 ∷ []))) ∷
    at 31 (Join 3 (epoch 3 1 1) (members (1 ∷ 1 ∷ 1 ∷ []))) ∷
    at 31 (Start (epoch 3 1 1) 0 (brought 1 (stamp 1 1) ∷ brought 1 (stamp 2 1) ∷ brought 1 (stamp 3 1) ∷ brought 2 (stamp 1 1) ∷ brought 2 (stamp 1 2) ∷ brought 2 (stamp 3 1) ∷ brought 65 (stamp 2 1) ∷ brought 129 (stamp 3 1) ∷ [])) ∷
    at 31 (Accept 1 0 (caller 1 1 5) (call.Mend (file 0 1))) ∷
    at 31 (Grant (epoch 3 1 1) (caller 1 1 5) 1 (inst 1 4) mode.Mend (file 0 1) (Some (stamp 1 1)) 1) ∷
    at 31 (Adopt (file 0 65) 1 (stamp 2 1)) ∷
    at 31 (Adopt (file 0 129) 1 (stamp 3 1)) ∷
    at 31 (Adopt (file 0 129) 2 (stamp 3 1)) ∷
    at 31 (Adopt (file 0 65) 3 (stamp 2 1)) ∷
    at 31 (Look (epoch 3 1 1) (caller 1 1 5) 2 (file 0 1) (what.Whole (stamp 2 1)) (served.At (stamp 2 1))) ∷
    at 31 (Look (epoch 3 1 1) (caller 1 1 5) 3 (file 0 1) (what.Whole (stamp 3 1)) (served.At (stamp 3 1))) ∷
    at 31 (Act (epoch 3 1 1) (inst 1 4) 1 op.Mend outcome.Done) ∷
    at 31 (Commit (file 0 1) 1 (stamp 1 2) ((stamp 2 1) ∷ (stamp 3 1) ∷ []) (1 ∷ 98 ∷ 0 ∷ 65 ∷ 1 ∷ 0 ∷ 0 ∷ 0 ∷ 1 ∷ 1 ∷ 99 ∷ 0 ∷ 129 ∷ 1 ∷ 0 ∷ 0 ∷ 0 ∷ 1 ∷ 1 ∷ 102 ∷ 0 ∷ 2 ∷ 1 ∷ 0 ∷ 0 ∷ 0 ∷ 1 ∷ [])) ∷
    at 31 (Release (epoch 3 1 1) (inst 1 4) (file 0 1) (Some (stamp 1 2))) ∷
    at 31 (Answer 1 0 (caller 1 1 5) (reply.Closed (Some (stamp 1 2)))) ∷
    at 31 (Adopt (file 0 1) 2 (stamp 1 2)) ∷
    at 31 (Adopt (file 0 1) 3 (stamp 1 2)) ∷
    []

abbrev pub three_ways : Example
three_ways = record { lines = three_ways_lines; trace = three_ways_trace }
