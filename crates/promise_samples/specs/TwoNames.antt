-- A file renamed on both sides, to two names: it has both.
use Rattle.std.specs.Prelude.{List, [], ◌∷◌, None, Some, codes}
use Rattle.locus_ids.specs.declared.ids.Kind.TheVariants as kind
use Rattle.locus_ids.specs.declared.ids.Mode.TheVariants as mode
use Rattle.trace_book.specs.declared.call.Call.TheVariants as call
use Rattle.trace_book.specs.declared.operation.Op.TheVariants as op
use Rattle.trace_book.specs.declared.operation.Outcome.TheVariants as outcome
use Rattle.trace_book.specs.declared.operation.What.TheVariants as what
use Rattle.trace_book.specs.declared.operation.Served.TheVariants as served
use Rattle.trace_book.specs.declared.reply.Reply.TheVariants as reply
use Rattle.schedule_lines.specs.declared.header.HeaderLine.TheVariants as header
use Rattle.schedule_lines.specs.declared.line.Line.TheVariants as line
use Rattle.trace_book.specs.declared.record.Record.TheVariants.{Leave, Join, Start, Accept, Look, Grant, Act, Commit, Release, Adopt, Answer}
use Rattle.trace_book.specs.declared.entry.Entry.{Entry}
use Rattle.schedule_lines.specs.declared.line.ScheduleLine.{ScheduleLine}
use Rattle.schedule_lines.specs.declared.line.ScheduleLine.TheVariants.{Passed, Header, Event}
use Rattle.promise_samples.specs.Examples.{Example}
use Rattle.lawful_trace.specs.Samples.{at, epoch, caller, inst, file, stamp, brought, members}

abbrev two_names_lines : List ScheduleLine
two_names_lines =
    Passed ∷
    Header (header.Sites 2) ∷
    Header (header.Group 0 (record { 0 = 3 })) ∷
    Event (line.Merge 1) ∷
    Event (line.Settle 1000) ∷
    Passed ∷
    Event (line.Call 1 1 (call.Create (codes "/f") None)) ∷
    Event (line.Settle 1000) ∷
    Passed ∷
    Event (line.Down 1 2) ∷
    Event (line.Part 1) ∷
    Event (line.Part 2) ∷
    Event (line.Settle 1000) ∷
    Passed ∷
    Event (line.Call 1 1 (call.Rename (codes "/f") (codes "g"))) ∷
    Event (line.Settle 1000) ∷
    Passed ∷
    Event (line.Call 2 1 (call.Rename (codes "/f") (codes "h"))) ∷
    Event (line.Settle 1000) ∷
    Passed ∷
    Event (line.Up 1 2) ∷
    Event (line.Merge 1) ∷
    Event (line.Settle 1000) ∷
    Event (line.Settle 1000) ∷
    Event (line.Settle 1000) ∷
    Passed ∷
    Event (line.Call 2 1 (call.List (codes "/"))) ∷
    Event (line.Settle 1000) ∷
    Event (line.Call 2 1 (call.Stat (codes "/g"))) ∷
    Event (line.Settle 1000) ∷
    Event (line.Call 2 1 (call.Stat (codes "/h"))) ∷
    Event (line.Settle 1000) ∷
    Event (line.Call 2 1 (call.Unlink (codes "/g"))) ∷
    Event (line.Settle 1000) ∷
    []

abbrev two_names_trace : List Entry
two_names_trace =
    at 5 (Join 1 (epoch 1 1 1) (members (1 ∷ 1 ∷ []))) ∷
    at 5 (Join 2 (epoch 1 1 1) (members (1 ∷ 1 ∷ []))) ∷
    at 5 (Start (epoch 1 1 1) 0 (brought 1 (stamp 0 0) ∷ [])) ∷
    at 7 (Accept 1 1 (caller 1 1 1) (call.Create (codes "/f") None)) ∷
    at 8 (Grant (epoch 1 1 1) (caller 1 1 1) 1 (inst 1 1) mode.Write (file 0 1) (Some (stamp 0 0)) 1) ∷
    at 8 (Act (epoch 1 1 1) (inst 1 1) 1 (op.Probe (codes "f")) outcome.Done) ∷
    at 8 (Grant (epoch 1 1 1) (caller 1 1 1) 3 (inst 1 2) mode.Make (file 0 2) None 1) ∷
    at 8 (Commit (file 0 2) 1 (stamp 1 1) [] []) ∷
    at 8 (Release (epoch 1 1 1) (inst 1 2) (file 0 2) (Some (stamp 1 1))) ∷
    at 8 (Adopt (file 0 2) 2 (stamp 1 1)) ∷
    at 8 (Act (epoch 1 1 1) (inst 1 1) 2 (op.Insert (codes "f") 2 kind.File) outcome.Done) ∷
    at 8 (Commit (file 0 1) 1 (stamp 1 1) ((stamp 0 0) ∷ []) (1 ∷ 102 ∷ 0 ∷ 2 ∷ 1 ∷ 0 ∷ 0 ∷ 0 ∷ 1 ∷ [])) ∷
    at 8 (Release (epoch 1 1 1) (inst 1 1) (file 0 1) (Some (stamp 1 1))) ∷
    at 8 (Answer 1 1 (caller 1 1 1) (reply.Made 2)) ∷
    at 8 (Adopt (file 0 1) 2 (stamp 1 1)) ∷
    at 11 (Leave 1 (epoch 1 1 1)) ∷
    at 11 (Join 1 (epoch 2 1 1) (members (1 ∷ []))) ∷
    at 12 (Leave 2 (epoch 1 1 1)) ∷
    at 12 (Join 2 (epoch 2 2 1) (members (0 ∷ 1 ∷ []))) ∷
    at 13 (Start (epoch 2 1 1) 0 (brought 1 (stamp 1 1) ∷ brought 2 (stamp 1 1) ∷ [])) ∷
    at 13 (Start (epoch 2 2 1) 0 (brought 1 (stamp 1 1) ∷ brought 2 (stamp 1 1) ∷ [])) ∷
    at 15 (Accept 1 1 (caller 1 1 2) (call.Rename (codes "/f") (codes "g"))) ∷
    at 16 (Grant (epoch 2 1 1) (caller 1 1 2) 1 (inst 1 3) mode.Write (file 0 1) (Some (stamp 1 1)) 1) ∷
    at 16 (Act (epoch 2 1 1) (inst 1 3) 1 (op.Rename (codes "f") (codes "g")) outcome.Done) ∷
    at 16 (Commit (file 0 1) 1 (stamp 1 2) ((stamp 1 1) ∷ []) (1 ∷ 102 ∷ 0 ∷ 2 ∷ 1 ∷ 0 ∷ 0 ∷ 0 ∷ 2 ∷ 0 ∷ 0 ∷ 0 ∷ 0 ∷ 0 ∷ 0 ∷ 0 ∷ 0 ∷ 0 ∷ 0 ∷ 0 ∷ 0 ∷ 0 ∷ 0 ∷ 0 ∷ 0 ∷ 0 ∷ 0 ∷ 0 ∷ 0 ∷ 0 ∷ 0 ∷ 0 ∷ 0 ∷ 0 ∷ 0 ∷ 0 ∷ 0 ∷ 0 ∷ 0 ∷ 0 ∷ 0 ∷ 0 ∷ 0 ∷ 0 ∷ 0 ∷ 0 ∷ 0 ∷ 0 ∷ 0 ∷ 0 ∷ 0 ∷ 0 ∷ 0 ∷ 0 ∷ 0 ∷ 0 ∷ 0 ∷ 0 ∷ 0 ∷ 0 ∷ 0 ∷ 0 ∷ 0 ∷ 0 ∷ 0 ∷ 0 ∷ 0 ∷ 0 ∷ 0 ∷ 0 ∷ 0 ∷ 0 ∷ 0 ∷ 1 ∷ 103 ∷ 0 ∷ 2 ∷ 1 ∷ 0 ∷ 0 ∷ 0 ∷ 1 ∷ [])) ∷
    at 16 (Release (epoch 2 1 1) (inst 1 3) (file 0 1) (Some (stamp 1 2))) ∷
    at 16 (Answer 1 1 (caller 1 1 2) reply.Done) ∷
    at 18 (Accept 2 1 (caller 2 1 1) (call.Rename (codes "/f") (codes "h"))) ∷
    at 19 (Grant (epoch 2 2 1) (caller 2 1 1) 1 (inst 2 1) mode.Write (file 0 1) (Some (stamp 1 1)) 2) ∷
    at 19 (Act (epoch 2 2 1) (inst 2 1) 1 (op.Rename (codes "f") (codes "h")) outcome.Done) ∷
    at 19 (Commit (file 0 1) 2 (stamp 2 1) ((stamp 1 1) ∷ []) (1 ∷ 102 ∷ 0 ∷ 2 ∷ 1 ∷ 0 ∷ 0 ∷ 0 ∷ 2 ∷ 0 ∷ 0 ∷ 0 ∷ 0 ∷ 0 ∷ 0 ∷ 0 ∷ 0 ∷ 0 ∷ 0 ∷ 0 ∷ 0 ∷ 0 ∷ 0 ∷ 0 ∷ 0 ∷ 0 ∷ 0 ∷ 0 ∷ 0 ∷ 0 ∷ 0 ∷ 0 ∷ 0 ∷ 0 ∷ 0 ∷ 0 ∷ 0 ∷ 0 ∷ 0 ∷ 0 ∷ 0 ∷ 0 ∷ 0 ∷ 0 ∷ 0 ∷ 0 ∷ 0 ∷ 0 ∷ 0 ∷ 0 ∷ 0 ∷ 0 ∷ 0 ∷ 0 ∷ 0 ∷ 0 ∷ 0 ∷ 0 ∷ 0 ∷ 0 ∷ 0 ∷ 0 ∷ 0 ∷ 0 ∷ 0 ∷ 0 ∷ 0 ∷ 0 ∷ 0 ∷ 0 ∷ 0 ∷ 0 ∷ 0 ∷ 1 ∷ 104 ∷ 0 ∷ 2 ∷ 1 ∷ 0 ∷ 0 ∷ 0 ∷ 1 ∷ [])) ∷
    at 19 (Release (epoch 2 2 1) (inst 2 1) (file 0 1) (Some (stamp 2 1))) ∷
    at 19 (Answer 2 1 (caller 2 1 1) reply.Done) ∷
    at 22 (Leave 1 (epoch 2 1 1)) ∷
    at 23 (Leave 2 (epoch 2 2 1)) ∷
    at 23 (Join 1 (epoch 3 1 1) (members (1 ∷ 1 ∷ []))) ∷
    at 23 (Join 2 (epoch 3 1 1) (members (1 ∷ 1 ∷ []))) ∷
    at 23 (Start (epoch 3 1 1) 0 (brought 1 (stamp 1 2) ∷ brought 1 (stamp 2 1) ∷ brought 2 (stamp 1 1) ∷ [])) ∷
    at 23 (Accept 1 0 (caller 1 1 3) (call.Mend (file 0 1))) ∷
    at 23 (Grant (epoch 3 1 1) (caller 1 1 3) 1 (inst 1 4) mode.Mend (file 0 1) (Some (stamp 1 2)) 1) ∷
    at 23 (Look (epoch 3 1 1) (caller 1 1 3) 2 (file 0 1) (what.Whole (stamp 1 2)) (served.At (stamp 1 2))) ∷
    at 23 (Look (epoch 3 1 1) (caller 1 1 3) 3 (file 0 1) (what.Whole (stamp 2 1)) (served.At (stamp 2 1))) ∷
    at 23 (Act (epoch 3 1 1) (inst 1 4) 1 op.Mend outcome.Done) ∷
    at 23 (Commit (file 0 1) 1 (stamp 1 3) ((stamp 1 2) ∷ (stamp 2 1) ∷ []) (1 ∷ 102 ∷ 0 ∷ 2 ∷ 1 ∷ 0 ∷ 0 ∷ 0 ∷ 2 ∷ 0 ∷ 0 ∷ 0 ∷ 0 ∷ 0 ∷ 0 ∷ 0 ∷ 0 ∷ 0 ∷ 0 ∷ 0 ∷ 0 ∷ 0 ∷ 0 ∷ 0 ∷ 0 ∷ 0 ∷ 0 ∷ 0 ∷ 0 ∷ 0 ∷ 0 ∷ 0 ∷ 0 ∷ 0 ∷ 0 ∷ 0 ∷ 0 ∷ 0 ∷ 0 ∷ 0 ∷ 0 ∷ 0 ∷ 0 ∷ 0 ∷ 0 ∷ 0 ∷ 0 ∷ 0 ∷ 0 ∷ 0 ∷ 0 ∷ 0 ∷ 0 ∷ 0 ∷ 0 ∷ 0 ∷ 0 ∷ 0 ∷ 0 ∷ 0 ∷ 0 ∷ 0 ∷ 0 ∷ 0 ∷ 0 ∷ 0 ∷ 0 ∷ 0 ∷ 0 ∷ 0 ∷ 0 ∷ 0 ∷ 0 ∷ 1 ∷ 103 ∷ 0 ∷ 2 ∷ 1 ∷ 0 ∷ 0 ∷ 0 ∷ 1 ∷ 1 ∷ 104 ∷ 0 ∷ 2 ∷ 1 ∷ 0 ∷ 0 ∷ 0 ∷ 1 ∷ [])) ∷
    at 23 (Release (epoch 3 1 1) (inst 1 4) (file 0 1) (Some (stamp 1 3))) ∷
    at 23 (Answer 1 0 (caller 1 1 3) (reply.Closed (Some (stamp 1 3)))) ∷
    at 23 (Adopt (file 0 1) 2 (stamp 1 3)) ∷
    at 27 (Accept 2 1 (caller 2 1 2) (call.List (codes "/"))) ∷
    at 28 (Look (epoch 3 1 1) (caller 2 1 2) 1 (file 0 1) what.List (served.At (stamp 1 3))) ∷
    at 28 (Answer 2 1 (caller 2 1 2) (reply.Names ((codes "g") ∷ (codes "h") ∷ []))) ∷
    at 29 (Accept 2 1 (caller 2 1 3) (call.Stat (codes "/g"))) ∷
    at 30 (Look (epoch 3 1 1) (caller 2 1 3) 1 (file 0 1) (what.Name (codes "g")) (served.At (stamp 1 3))) ∷
    at 30 (Look (epoch 3 1 1) (caller 2 1 3) 2 (file 0 2) what.Stat (served.At (stamp 1 1))) ∷
    at 30 (Answer 2 1 (caller 2 1 3) (reply.Stat kind.File (file 0 2) 0 (stamp 1 1))) ∷
    at 31 (Accept 2 1 (caller 2 1 4) (call.Stat (codes "/h"))) ∷
    at 32 (Look (epoch 3 1 1) (caller 2 1 4) 1 (file 0 1) (what.Name (codes "h")) (served.At (stamp 1 3))) ∷
    at 32 (Look (epoch 3 1 1) (caller 2 1 4) 2 (file 0 2) what.Stat (served.At (stamp 1 1))) ∷
    at 32 (Answer 2 1 (caller 2 1 4) (reply.Stat kind.File (file 0 2) 0 (stamp 1 1))) ∷
    at 33 (Accept 2 1 (caller 2 1 5) (call.Unlink (codes "/g"))) ∷
    at 34 (Grant (epoch 3 1 1) (caller 2 1 5) 1 (inst 2 2) mode.Write (file 0 1) (Some (stamp 1 3)) 2) ∷
    at 34 (Act (epoch 3 1 1) (inst 2 2) 1 (op.Find (codes "g")) (outcome.Found 2 kind.File)) ∷
    at 34 (Grant (epoch 3 1 1) (caller 2 1 5) 3 (inst 2 3) mode.Write (file 0 2) (Some (stamp 1 1)) 2) ∷
    at 34 (Act (epoch 3 1 1) (inst 2 2) 2 (op.Remove (codes "g") 2) outcome.Done) ∷
    at 34 (Commit (file 0 1) 2 (stamp 2 2) ((stamp 1 3) ∷ []) (1 ∷ 102 ∷ 0 ∷ 2 ∷ 1 ∷ 0 ∷ 0 ∷ 0 ∷ 2 ∷ 0 ∷ 0 ∷ 0 ∷ 0 ∷ 0 ∷ 0 ∷ 0 ∷ 0 ∷ 0 ∷ 0 ∷ 0 ∷ 0 ∷ 0 ∷ 0 ∷ 0 ∷ 0 ∷ 0 ∷ 0 ∷ 0 ∷ 0 ∷ 0 ∷ 0 ∷ 0 ∷ 0 ∷ 0 ∷ 0 ∷ 0 ∷ 0 ∷ 0 ∷ 0 ∷ 0 ∷ 0 ∷ 0 ∷ 0 ∷ 0 ∷ 0 ∷ 0 ∷ 0 ∷ 0 ∷ 0 ∷ 0 ∷ 0 ∷ 0 ∷ 0 ∷ 0 ∷ 0 ∷ 0 ∷ 0 ∷ 0 ∷ 0 ∷ 0 ∷ 0 ∷ 0 ∷ 0 ∷ 0 ∷ 0 ∷ 0 ∷ 0 ∷ 0 ∷ 0 ∷ 0 ∷ 0 ∷ 0 ∷ 0 ∷ 1 ∷ 103 ∷ 0 ∷ 2 ∷ 1 ∷ 0 ∷ 0 ∷ 0 ∷ 2 ∷ 0 ∷ 0 ∷ 0 ∷ 1 ∷ 0 ∷ 0 ∷ 0 ∷ 0 ∷ 0 ∷ 0 ∷ 0 ∷ 0 ∷ 0 ∷ 0 ∷ 0 ∷ 0 ∷ 0 ∷ 0 ∷ 0 ∷ 0 ∷ 0 ∷ 0 ∷ 0 ∷ 0 ∷ 0 ∷ 0 ∷ 0 ∷ 0 ∷ 0 ∷ 0 ∷ 0 ∷ 0 ∷ 0 ∷ 0 ∷ 0 ∷ 0 ∷ 0 ∷ 0 ∷ 0 ∷ 0 ∷ 0 ∷ 0 ∷ 0 ∷ 0 ∷ 0 ∷ 0 ∷ 0 ∷ 0 ∷ 0 ∷ 0 ∷ 0 ∷ 0 ∷ 0 ∷ 0 ∷ 0 ∷ 0 ∷ 0 ∷ 0 ∷ 0 ∷ 0 ∷ 0 ∷ 0 ∷ 0 ∷ 0 ∷ 1 ∷ 104 ∷ 0 ∷ 2 ∷ 1 ∷ 0 ∷ 0 ∷ 0 ∷ 1 ∷ [])) ∷
    at 34 (Release (epoch 3 1 1) (inst 2 2) (file 0 1) (Some (stamp 2 2))) ∷
    at 34 (Release (epoch 3 1 1) (inst 2 3) (file 0 2) None) ∷
    at 34 (Adopt (file 0 1) 1 (stamp 2 2)) ∷
    at 34 (Answer 2 1 (caller 2 1 5) reply.Done) ∷
    []

abbrev pub two_names : Example
two_names = record { lines = two_names_lines; trace = two_names_trace }
