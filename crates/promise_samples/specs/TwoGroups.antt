-- Two sites that don't reach each other make files in two groups. Then they merge, and both directories are mended at once; and again.
use Rattle.std.specs.Prelude.{List, [], ◌∷◌, None, Some, codes}
use Rattle.locus_ids.specs.declared.ids.Kind.TheVariants as kind
use Rattle.locus_ids.specs.declared.ids.Mode.TheVariants as mode
use Rattle.trace_book.specs.declared.call.Call.TheVariants as call
use Rattle.trace_book.specs.declared.operation.Op.TheVariants as op
use Rattle.trace_book.specs.declared.operation.Outcome.TheVariants as outcome
use Rattle.trace_book.specs.declared.operation.What.TheVariants as what
use Rattle.trace_book.specs.declared.operation.Served.TheVariants as served
use Rattle.trace_book.specs.declared.reply.Reply.TheVariants as reply
use Rattle.schedule_lines.specs.declared.header.HeaderLine.TheVariants as header
use Rattle.schedule_lines.specs.declared.line.Line.TheVariants as line
use Rattle.trace_book.specs.declared.record.Record.TheVariants.{Leave, Join, Start, Accept, Look, Grant, Act, Commit, Release, Adopt, Answer}
use Rattle.trace_book.specs.declared.entry.Entry.{Entry}
use Rattle.schedule_lines.specs.declared.line.ScheduleLine.{ScheduleLine}
use Rattle.schedule_lines.specs.declared.line.ScheduleLine.TheVariants.{Passed, Header, Event}
use Rattle.promise_samples.specs.Examples.{Example}
use Rattle.lawful_trace.specs.Samples.{at, epoch, caller, inst, file, stamp, brought, members}

abbrev two_groups_lines : List ScheduleLine
two_groups_lines =
    Passed ∷
    Header (header.Sites 2) ∷
    Header (header.Group 0 (record { 0 = 3 })) ∷
    Header (header.Group 1 (record { 0 = 3 })) ∷
    Header (header.Mount 1 (codes "usr")) ∷
    Event (line.Down 1 2) ∷
    Event (line.Merge 1) ∷
    Event (line.Merge 2) ∷
    Event (line.Settle 1000) ∷
    Event (line.Call 1 1 (call.Create (codes "/a") None)) ∷
    Event (line.Call 2 1 (call.Create (codes "/b") None)) ∷
    Event (line.Call 1 2 (call.Create (codes "/usr/c") None)) ∷
    Event (line.Call 2 2 (call.Create (codes "/usr/d") None)) ∷
    Event (line.Settle 1000) ∷
    Event (line.Up 1 2) ∷
    Event (line.Merge 1) ∷
    Event (line.Settle 1000) ∷
    Event (line.Down 1 2) ∷
    Event (line.Part 1) ∷
    Event (line.Part 2) ∷
    Event (line.Settle 1000) ∷
    Event (line.Call 1 1 (call.Create (codes "/e") None)) ∷
    Event (line.Call 2 1 (call.Create (codes "/f") None)) ∷
    Event (line.Settle 1000) ∷
    Event (line.Up 1 2) ∷
    Event (line.Merge 1) ∷
    Event (line.Settle 1000) ∷
    []

abbrev two_groups_trace : List Entry
two_groups_trace =
    at 7 (Join 1 (epoch 1 1 1) (members (1 ∷ []))) ∷
    at 8 (Join 2 (epoch 1 2 1) (members (0 ∷ 1 ∷ []))) ∷
    at 9 (Start (epoch 1 1 1) 0 (brought 1 (stamp 0 0) ∷ [])) ∷
    at 9 (Start (epoch 1 1 1) 1 (brought 1 (stamp 0 0) ∷ [])) ∷
    at 9 (Start (epoch 1 2 1) 0 (brought 1 (stamp 0 0) ∷ [])) ∷
    at 9 (Start (epoch 1 2 1) 1 (brought 1 (stamp 0 0) ∷ [])) ∷
    at 10 (Accept 1 1 (caller 1 1 1) (call.Create (codes "/a") None)) ∷
    at 11 (Accept 2 1 (caller 2 1 1) (call.Create (codes "/b") None)) ∷
    at 12 (Accept 1 2 (caller 1 1 2) (call.Create (codes "/usr/c") None)) ∷
    at 13 (Accept 2 2 (caller 2 1 2) (call.Create (codes "/usr/d") None)) ∷
    at 14 (Grant (epoch 1 1 1) (caller 1 1 1) 1 (inst 1 1) mode.Write (file 0 1) (Some (stamp 0 0)) 1) ∷
    at 14 (Grant (epoch 1 2 1) (caller 2 1 1) 1 (inst 2 1) mode.Write (file 0 1) (Some (stamp 0 0)) 2) ∷
    at 14 (Grant (epoch 1 1 1) (caller 1 1 2) 1 (inst 1 2) mode.Write (file 1 1) (Some (stamp 0 0)) 1) ∷
    at 14 (Grant (epoch 1 2 1) (caller 2 1 2) 1 (inst 2 2) mode.Write (file 1 1) (Some (stamp 0 0)) 2) ∷
    at 14 (Act (epoch 1 1 1) (inst 1 1) 1 (op.Probe (codes "a")) outcome.Done) ∷
    at 14 (Act (epoch 1 2 1) (inst 2 1) 1 (op.Probe (codes "b")) outcome.Done) ∷
    at 14 (Act (epoch 1 1 1) (inst 1 2) 1 (op.Probe (codes "c")) outcome.Done) ∷
    at 14 (Act (epoch 1 2 1) (inst 2 2) 1 (op.Probe (codes "d")) outcome.Done) ∷
    at 14 (Grant (epoch 1 1 1) (caller 1 1 1) 3 (inst 1 3) mode.Make (file 0 2) None 1) ∷
    at 14 (Grant (epoch 1 2 1) (caller 2 1 1) 3 (inst 2 3) mode.Make (file 0 65) None 2) ∷
    at 14 (Grant (epoch 1 1 1) (caller 1 1 2) 3 (inst 1 4) mode.Make (file 1 2) None 1) ∷
    at 14 (Grant (epoch 1 2 1) (caller 2 1 2) 3 (inst 2 4) mode.Make (file 1 65) None 2) ∷
    at 14 (Commit (file 0 2) 1 (stamp 1 1) [] []) ∷
    at 14 (Commit (file 0 65) 2 (stamp 2 1) [] []) ∷
    at 14 (Commit (file 1 2) 1 (stamp 1 1) [] []) ∷
    at 14 (Commit (file 1 65) 2 (stamp 2 1) [] []) ∷
    at 14 (Release (epoch 1 1 1) (inst 1 3) (file 0 2) (Some (stamp 1 1))) ∷
    at 14 (Release (epoch 1 2 1) (inst 2 3) (file 0 65) (Some (stamp 2 1))) ∷
    at 14 (Release (epoch 1 1 1) (inst 1 4) (file 1 2) (Some (stamp 1 1))) ∷
    at 14 (Release (epoch 1 2 1) (inst 2 4) (file 1 65) (Some (stamp 2 1))) ∷
    at 14 (Act (epoch 1 1 1) (inst 1 1) 2 (op.Insert (codes "a") 2 kind.File) outcome.Done) ∷
    at 14 (Act (epoch 1 2 1) (inst 2 1) 2 (op.Insert (codes "b") 65 kind.File) outcome.Done) ∷
    at 14 (Act (epoch 1 1 1) (inst 1 2) 2 (op.Insert (codes "c") 2 kind.File) outcome.Done) ∷
    at 14 (Act (epoch 1 2 1) (inst 2 2) 2 (op.Insert (codes "d") 65 kind.File) outcome.Done) ∷
    at 14 (Commit (file 0 1) 1 (stamp 1 1) ((stamp 0 0) ∷ []) (1 ∷ 97 ∷ 0 ∷ 2 ∷ 1 ∷ 0 ∷ 0 ∷ 0 ∷ 1 ∷ [])) ∷
    at 14 (Commit (file 0 1) 2 (stamp 2 1) ((stamp 0 0) ∷ []) (1 ∷ 98 ∷ 0 ∷ 65 ∷ 1 ∷ 0 ∷ 0 ∷ 0 ∷ 1 ∷ [])) ∷
    at 14 (Commit (file 1 1) 1 (stamp 1 1) ((stamp 0 0) ∷ []) (1 ∷ 99 ∷ 0 ∷ 2 ∷ 1 ∷ 0 ∷ 0 ∷ 0 ∷ 1 ∷ [])) ∷
    at 14 (Commit (file 1 1) 2 (stamp 2 1) ((stamp 0 0) ∷ []) (1 ∷ 100 ∷ 0 ∷ 65 ∷ 1 ∷ 0 ∷ 0 ∷ 0 ∷ 1 ∷ [])) ∷
    at 14 (Release (epoch 1 1 1) (inst 1 1) (file 0 1) (Some (stamp 1 1))) ∷
    at 14 (Release (epoch 1 2 1) (inst 2 1) (file 0 1) (Some (stamp 2 1))) ∷
    at 14 (Release (epoch 1 1 1) (inst 1 2) (file 1 1) (Some (stamp 1 1))) ∷
    at 14 (Release (epoch 1 2 1) (inst 2 2) (file 1 1) (Some (stamp 2 1))) ∷
    at 14 (Answer 1 1 (caller 1 1 1) (reply.Made 2)) ∷
    at 14 (Answer 2 1 (caller 2 1 1) (reply.Made 65)) ∷
    at 14 (Answer 1 2 (caller 1 1 2) (reply.Made 2)) ∷
    at 14 (Answer 2 2 (caller 2 1 2) (reply.Made 65)) ∷
    at 16 (Leave 1 (epoch 1 1 1)) ∷
    at 17 (Leave 2 (epoch 1 2 1)) ∷
    at 17 (Join 1 (epoch 2 1 1) (members (1 ∷ 1 ∷ []))) ∷
    at 17 (Join 2 (epoch 2 1 1) (members (1 ∷ 1 ∷ []))) ∷
    at 17 (Start (epoch 2 1 1) 0 (brought 1 (stamp 1 1) ∷ brought 1 (stamp 2 1) ∷ brought 2 (stamp 1 1) ∷ brought 65 (stamp 2 1) ∷ [])) ∷
    at 17 (Accept 1 0 (caller 1 1 3) (call.Mend (file 0 1))) ∷
    at 17 (Start (epoch 2 1 1) 1 (brought 1 (stamp 1 1) ∷ brought 1 (stamp 2 1) ∷ brought 2 (stamp 1 1) ∷ brought 65 (stamp 2 1) ∷ [])) ∷
    at 17 (Accept 1 0 (caller 1 1 4) (call.Mend (file 1 1))) ∷
    at 17 (Grant (epoch 2 1 1) (caller 1 1 3) 1 (inst 1 5) mode.Mend (file 0 1) (Some (stamp 1 1)) 1) ∷
    at 17 (Adopt (file 0 65) 1 (stamp 2 1)) ∷
    at 17 (Adopt (file 0 2) 2 (stamp 1 1)) ∷
    at 17 (Grant (epoch 2 1 1) (caller 1 1 4) 1 (inst 1 6) mode.Mend (file 1 1) (Some (stamp 1 1)) 1) ∷
    at 17 (Adopt (file 1 65) 1 (stamp 2 1)) ∷
    at 17 (Adopt (file 1 2) 2 (stamp 1 1)) ∷
    at 17 (Look (epoch 2 1 1) (caller 1 1 3) 2 (file 0 1) (what.Whole (stamp 1 1)) (served.At (stamp 1 1))) ∷
    at 17 (Look (epoch 2 1 1) (caller 1 1 4) 2 (file 1 1) (what.Whole (stamp 1 1)) (served.At (stamp 1 1))) ∷
    at 17 (Look (epoch 2 1 1) (caller 1 1 3) 3 (file 0 1) (what.Whole (stamp 2 1)) (served.At (stamp 2 1))) ∷
    at 17 (Look (epoch 2 1 1) (caller 1 1 4) 3 (file 1 1) (what.Whole (stamp 2 1)) (served.At (stamp 2 1))) ∷
    at 17 (Act (epoch 2 1 1) (inst 1 5) 1 op.Mend outcome.Done) ∷
    at 17 (Act (epoch 2 1 1) (inst 1 6) 1 op.Mend outcome.Done) ∷
    at 17 (Commit (file 0 1) 1 (stamp 1 2) ((stamp 1 1) ∷ (stamp 2 1) ∷ []) (1 ∷ 97 ∷ 0 ∷ 2 ∷ 1 ∷ 0 ∷ 0 ∷ 0 ∷ 1 ∷ 1 ∷ 98 ∷ 0 ∷ 65 ∷ 1 ∷ 0 ∷ 0 ∷ 0 ∷ 1 ∷ [])) ∷
    at 17 (Commit (file 1 1) 1 (stamp 1 2) ((stamp 1 1) ∷ (stamp 2 1) ∷ []) (1 ∷ 99 ∷ 0 ∷ 2 ∷ 1 ∷ 0 ∷ 0 ∷ 0 ∷ 1 ∷ 1 ∷ 100 ∷ 0 ∷ 65 ∷ 1 ∷ 0 ∷ 0 ∷ 0 ∷ 1 ∷ [])) ∷
    at 17 (Release (epoch 2 1 1) (inst 1 5) (file 0 1) (Some (stamp 1 2))) ∷
    at 17 (Release (epoch 2 1 1) (inst 1 6) (file 1 1) (Some (stamp 1 2))) ∷
    at 17 (Answer 1 0 (caller 1 1 3) (reply.Closed (Some (stamp 1 2)))) ∷
    at 17 (Answer 1 0 (caller 1 1 4) (reply.Closed (Some (stamp 1 2)))) ∷
    at 17 (Adopt (file 0 1) 2 (stamp 1 2)) ∷
    at 17 (Adopt (file 1 1) 2 (stamp 1 2)) ∷
    at 19 (Leave 1 (epoch 2 1 1)) ∷
    at 19 (Join 1 (epoch 3 1 1) (members (1 ∷ []))) ∷
    at 20 (Leave 2 (epoch 2 1 1)) ∷
    at 20 (Join 2 (epoch 3 2 1) (members (0 ∷ 1 ∷ []))) ∷
    at 21 (Start (epoch 3 1 1) 0 (brought 1 (stamp 1 2) ∷ brought 2 (stamp 1 1) ∷ brought 65 (stamp 2 1) ∷ [])) ∷
    at 21 (Start (epoch 3 1 1) 1 (brought 1 (stamp 1 2) ∷ brought 2 (stamp 1 1) ∷ brought 65 (stamp 2 1) ∷ [])) ∷
    at 21 (Start (epoch 3 2 1) 0 (brought 1 (stamp 1 2) ∷ brought 2 (stamp 1 1) ∷ brought 65 (stamp 2 1) ∷ [])) ∷
    at 21 (Start (epoch 3 2 1) 1 (brought 1 (stamp 1 2) ∷ brought 2 (stamp 1 1) ∷ brought 65 (stamp 2 1) ∷ [])) ∷
    at 22 (Accept 1 1 (caller 1 1 5) (call.Create (codes "/e") None)) ∷
    at 23 (Accept 2 1 (caller 2 1 3) (call.Create (codes "/f") None)) ∷
    at 24 (Grant (epoch 3 1 1) (caller 1 1 5) 1 (inst 1 7) mode.Write (file 0 1) (Some (stamp 1 2)) 1) ∷
    at 24 (Grant (epoch 3 2 1) (caller 2 1 3) 1 (inst 2 5) mode.Write (file 0 1) (Some (stamp 1 2)) 2) ∷
    at 24 (Act (epoch 3 1 1) (inst 1 7) 1 (op.Probe (codes "e")) outcome.Done) ∷
    at 24 (Act (epoch 3 2 1) (inst 2 5) 1 (op.Probe (codes "f")) outcome.Done) ∷
    at 24 (Grant (epoch 3 1 1) (caller 1 1 5) 3 (inst 1 8) mode.Make (file 0 3) None 1) ∷
    at 24 (Grant (epoch 3 2 1) (caller 2 1 3) 3 (inst 2 6) mode.Make (file 0 66) None 2) ∷
    at 24 (Commit (file 0 3) 1 (stamp 1 1) [] []) ∷
    at 24 (Commit (file 0 66) 2 (stamp 2 1) [] []) ∷
    at 24 (Release (epoch 3 1 1) (inst 1 8) (file 0 3) (Some (stamp 1 1))) ∷
    at 24 (Release (epoch 3 2 1) (inst 2 6) (file 0 66) (Some (stamp 2 1))) ∷
    at 24 (Act (epoch 3 1 1) (inst 1 7) 2 (op.Insert (codes "e") 3 kind.File) outcome.Done) ∷
    at 24 (Act (epoch 3 2 1) (inst 2 5) 2 (op.Insert (codes "f") 66 kind.File) outcome.Done) ∷
    at 24 (Commit (file 0 1) 1 (stamp 1 3) ((stamp 1 2) ∷ []) (1 ∷ 97 ∷ 0 ∷ 2 ∷ 1 ∷ 0 ∷ 0 ∷ 0 ∷ 1 ∷ 1 ∷ 98 ∷ 0 ∷ 65 ∷ 1 ∷ 0 ∷ 0 ∷ 0 ∷ 1 ∷ 1 ∷ 101 ∷ 0 ∷ 3 ∷ 1 ∷ 0 ∷ 0 ∷ 0 ∷ 1 ∷ [])) ∷
    at 24 (Commit (file 0 1) 2 (stamp 2 2) ((stamp 1 2) ∷ []) (1 ∷ 97 ∷ 0 ∷ 2 ∷ 1 ∷ 0 ∷ 0 ∷ 0 ∷ 1 ∷ 1 ∷ 98 ∷ 0 ∷ 65 ∷ 1 ∷ 0 ∷ 0 ∷ 0 ∷ 1 ∷ 1 ∷ 102 ∷ 0 ∷ 66 ∷ 1 ∷ 0 ∷ 0 ∷ 0 ∷ 1 ∷ [])) ∷
    at 24 (Release (epoch 3 1 1) (inst 1 7) (file 0 1) (Some (stamp 1 3))) ∷
    at 24 (Release (epoch 3 2 1) (inst 2 5) (file 0 1) (Some (stamp 2 2))) ∷
    at 24 (Answer 1 1 (caller 1 1 5) (reply.Made 3)) ∷
    at 24 (Answer 2 1 (caller 2 1 3) (reply.Made 66)) ∷
    at 26 (Leave 1 (epoch 3 1 1)) ∷
    at 27 (Leave 2 (epoch 3 2 1)) ∷
    at 27 (Join 1 (epoch 4 1 1) (members (1 ∷ 1 ∷ []))) ∷
    at 27 (Join 2 (epoch 4 1 1) (members (1 ∷ 1 ∷ []))) ∷
    at 27 (Start (epoch 4 1 1) 0 (brought 1 (stamp 1 3) ∷ brought 1 (stamp 2 2) ∷ brought 2 (stamp 1 1) ∷ brought 3 (stamp 1 1) ∷ brought 65 (stamp 2 1) ∷ brought 66 (stamp 2 1) ∷ [])) ∷
    at 27 (Accept 1 0 (caller 1 1 6) (call.Mend (file 0 1))) ∷
    at 27 (Start (epoch 4 1 1) 1 (brought 1 (stamp 1 2) ∷ brought 2 (stamp 1 1) ∷ brought 65 (stamp 2 1) ∷ [])) ∷
    at 27 (Grant (epoch 4 1 1) (caller 1 1 6) 1 (inst 1 9) mode.Mend (file 0 1) (Some (stamp 1 3)) 1) ∷
    at 27 (Adopt (file 0 66) 1 (stamp 2 1)) ∷
    at 27 (Adopt (file 0 3) 2 (stamp 1 1)) ∷
    at 27 (Look (epoch 4 1 1) (caller 1 1 6) 2 (file 0 1) (what.Whole (stamp 1 3)) (served.At (stamp 1 3))) ∷
    at 27 (Look (epoch 4 1 1) (caller 1 1 6) 3 (file 0 1) (what.Whole (stamp 2 2)) (served.At (stamp 2 2))) ∷
    at 27 (Act (epoch 4 1 1) (inst 1 9) 1 op.Mend outcome.Done) ∷
    at 27 (Commit (file 0 1) 1 (stamp 1 4) ((stamp 1 3) ∷ (stamp 2 2) ∷ []) (1 ∷ 97 ∷ 0 ∷ 2 ∷ 1 ∷ 0 ∷ 0 ∷ 0 ∷ 1 ∷ 1 ∷ 98 ∷ 0 ∷ 65 ∷ 1 ∷ 0 ∷ 0 ∷ 0 ∷ 1 ∷ 1 ∷ 101 ∷ 0 ∷ 3 ∷ 1 ∷ 0 ∷ 0 ∷ 0 ∷ 1 ∷ 1 ∷ 102 ∷ 0 ∷ 66 ∷ 1 ∷ 0 ∷ 0 ∷ 0 ∷ 1 ∷ [])) ∷
    at 27 (Release (epoch 4 1 1) (inst 1 9) (file 0 1) (Some (stamp 1 4))) ∷
    at 27 (Answer 1 0 (caller 1 1 6) (reply.Closed (Some (stamp 1 4)))) ∷
    at 27 (Adopt (file 0 1) 2 (stamp 1 4)) ∷
    []

abbrev pub two_groups : Example
two_groups = record { lines = two_groups_lines; trace = two_groups_trace }
