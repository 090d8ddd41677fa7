-- Both sides of a cut change one file. When they meet, the file is flagged; somebody who looks at it settles the conflict.
use Rattle.std.specs.Prelude.{List, [], ◌∷◌, None, Some, codes}
use Rattle.locus_ids.specs.declared.ids.Kind.TheVariants as kind
use Rattle.locus_ids.specs.declared.ids.Mode.TheVariants as mode
use Rattle.locus_ids.specs.declared.refusal.Refusal.TheVariants as refusal
use Rattle.trace_book.specs.declared.call.Call.TheVariants as call
use Rattle.trace_book.specs.declared.call.OpenMode.TheVariants as how
use Rattle.trace_book.specs.declared.operation.Op.TheVariants as op
use Rattle.trace_book.specs.declared.operation.Outcome.TheVariants as outcome
use Rattle.trace_book.specs.declared.operation.What.TheVariants as what
use Rattle.trace_book.specs.declared.operation.Served.TheVariants as served
use Rattle.trace_book.specs.declared.reply.Reply.TheVariants as reply
use Rattle.schedule_lines.specs.declared.header.HeaderLine.TheVariants as header
use Rattle.schedule_lines.specs.declared.line.Line.TheVariants as line
use Rattle.trace_book.specs.declared.record.Record.TheVariants.{Leave, Join, Start, Accept, Look, Grant, Refuse, Act, Commit, Release, Adopt, Answer}
use Rattle.trace_book.specs.declared.entry.Entry.{Entry}
use Rattle.schedule_lines.specs.declared.line.ScheduleLine.{ScheduleLine}
use Rattle.schedule_lines.specs.declared.line.ScheduleLine.TheVariants.{Passed, Header, Event}
use Rattle.promise_samples.specs.Examples.{Example}
use Rattle.lawful_trace.specs.Samples.{at, epoch, caller, inst, file, stamp, brought, members}

abbrev conflict_and_resolve_lines : List ScheduleLine
conflict_and_resolve_lines =
    Passed ∷
    Header (header.Sites 3) ∷
    Header (header.Group 0 (record { 0 = 7 })) ∷
    Event (line.Merge 1) ∷
    Event (line.Settle 1000) ∷
    Event (line.Call 1 1 (call.Create (codes "/f") None)) ∷
    Event (line.Settle 1000) ∷
    Passed ∷
    Event (line.Down 1 3) ∷
    Event (line.Down 2 3) ∷
    Event (line.Part 1) ∷
    Event (line.Part 3) ∷
    Event (line.Settle 1000) ∷
    Passed ∷
    Event (line.Call 1 1 (call.Open (codes "/f") how.Write)) ∷
    Event (line.Settle 1000) ∷
    Event (line.Call 1 1 (call.Write 0 0 (97 ∷ []))) ∷
    Event (line.Settle 1000) ∷
    Event (line.Call 1 1 (call.Close 0)) ∷
    Event (line.Settle 1000) ∷
    Passed ∷
    Event (line.Call 3 1 (call.Open (codes "/f") how.Write)) ∷
    Event (line.Settle 1000) ∷
    Event (line.Call 3 1 (call.Write 0 0 (99 ∷ []))) ∷
    Event (line.Settle 1000) ∷
    Event (line.Call 3 1 (call.Close 0)) ∷
    Event (line.Settle 1000) ∷
    Passed ∷
    Event (line.Up 1 3) ∷
    Event (line.Up 2 3) ∷
    Event (line.Merge 1) ∷
    Event (line.Settle 1000) ∷
    Passed ∷
    Event (line.Call 1 1 (call.Open (codes "/f") how.Read)) ∷
    Event (line.Settle 1000) ∷
    Passed ∷
    Event (line.Call 1 1 (call.Open (codes "/f") (how.Resolve 3))) ∷
    Event (line.Settle 1000) ∷
    Event (line.Call 1 1 (call.Close 0)) ∷
    Event (line.Settle 1000) ∷
    Passed ∷
    Event (line.Call 2 1 (call.Open (codes "/f") how.Read)) ∷
    Event (line.Settle 1000) ∷
    Event (line.Call 2 1 (call.Read 0 0 10)) ∷
    Event (line.Settle 1000) ∷
    []

abbrev conflict_and_resolve_trace : List Entry
conflict_and_resolve_trace =
    at 5 (Join 1 (epoch 1 1 1) (members (1 ∷ 1 ∷ 1 ∷ []))) ∷
    at 5 (Join 2 (epoch 1 1 1) (members (1 ∷ 1 ∷ 1 ∷ []))) ∷
    at 5 (Join 3 (epoch 1 1 1) (members (1 ∷ 1 ∷ 1 ∷ []))) ∷
    at 5 (Start (epoch 1 1 1) 0 (brought 1 (stamp 0 0) ∷ [])) ∷
    at 6 (Accept 1 1 (caller 1 1 1) (call.Create (codes "/f") None)) ∷
    at 7 (Grant (epoch 1 1 1) (caller 1 1 1) 1 (inst 1 1) mode.Write (file 0 1) (Some (stamp 0 0)) 1) ∷
    at 7 (Act (epoch 1 1 1) (inst 1 1) 1 (op.Probe (codes "f")) outcome.Done) ∷
    at 7 (Grant (epoch 1 1 1) (caller 1 1 1) 3 (inst 1 2) mode.Make (file 0 2) None 1) ∷
    at 7 (Commit (file 0 2) 1 (stamp 1 1) [] []) ∷
    at 7 (Release (epoch 1 1 1) (inst 1 2) (file 0 2) (Some (stamp 1 1))) ∷
    at 7 (Adopt (file 0 2) 2 (stamp 1 1)) ∷
    at 7 (Adopt (file 0 2) 3 (stamp 1 1)) ∷
    at 7 (Act (epoch 1 1 1) (inst 1 1) 2 (op.Insert (codes "f") 2 kind.File) outcome.Done) ∷
    at 7 (Commit (file 0 1) 1 (stamp 1 1) ((stamp 0 0) ∷ []) (1 ∷ 102 ∷ 0 ∷ 2 ∷ 1 ∷ 0 ∷ 0 ∷ 0 ∷ 1 ∷ [])) ∷
    at 7 (Release (epoch 1 1 1) (inst 1 1) (file 0 1) (Some (stamp 1 1))) ∷
    at 7 (Answer 1 1 (caller 1 1 1) (reply.Made 2)) ∷
    at 7 (Adopt (file 0 1) 2 (stamp 1 1)) ∷
    at 7 (Adopt (file 0 1) 3 (stamp 1 1)) ∷
    at 11 (Leave 1 (epoch 1 1 1)) ∷
    at 12 (Leave 3 (epoch 1 1 1)) ∷
    at 12 (Join 3 (epoch 2 3 1) (members (0 ∷ 0 ∷ 1 ∷ []))) ∷
    at 13 (Leave 2 (epoch 1 1 1)) ∷
    at 13 (Start (epoch 2 3 1) 0 (brought 1 (stamp 1 1) ∷ brought 2 (stamp 1 1) ∷ [])) ∷
    at 13 (Join 1 (epoch 2 1 1) (members (1 ∷ 1 ∷ []))) ∷
    at 13 (Join 2 (epoch 2 1 1) (members (1 ∷ 1 ∷ []))) ∷
    at 13 (Start (epoch 2 1 1) 0 (brought 1 (stamp 1 1) ∷ brought 2 (stamp 1 1) ∷ [])) ∷
    at 15 (Accept 1 1 (caller 1 1 2) (call.Open (codes "/f") how.Write)) ∷
    at 16 (Look (epoch 2 1 1) (caller 1 1 2) 1 (file 0 1) (what.Name (codes "f")) (served.At (stamp 1 1))) ∷
    at 16 (Grant (epoch 2 1 1) (caller 1 1 2) 2 (inst 1 3) mode.Write (file 0 2) (Some (stamp 1 1)) 1) ∷
    at 16 (Answer 1 1 (caller 1 1 2) (reply.Opened 0)) ∷
    at 17 (Accept 1 1 (caller 1 1 3) (call.Write 0 0 (97 ∷ []))) ∷
    at 18 (Act (epoch 2 1 1) (inst 1 3) 1 (op.Write 0 (97 ∷ [])) outcome.Done) ∷
    at 18 (Answer 1 1 (caller 1 1 3) reply.Done) ∷
    at 19 (Accept 1 1 (caller 1 1 4) (call.Close 0)) ∷
    at 20 (Commit (file 0 2) 1 (stamp 1 2) ((stamp 1 1) ∷ []) (97 ∷ [])) ∷
    at 20 (Release (epoch 2 1 1) (inst 1 3) (file 0 2) (Some (stamp 1 2))) ∷
    at 20 (Answer 1 1 (caller 1 1 4) (reply.Closed (Some (stamp 1 2)))) ∷
    at 20 (Adopt (file 0 2) 2 (stamp 1 2)) ∷
    at 22 (Accept 3 1 (caller 3 1 1) (call.Open (codes "/f") how.Write)) ∷
    at 23 (Look (epoch 2 3 1) (caller 3 1 1) 1 (file 0 1) (what.Name (codes "f")) (served.At (stamp 1 1))) ∷
    at 23 (Grant (epoch 2 3 1) (caller 3 1 1) 2 (inst 3 1) mode.Write (file 0 2) (Some (stamp 1 1)) 3) ∷
    at 23 (Answer 3 1 (caller 3 1 1) (reply.Opened 0)) ∷
    at 24 (Accept 3 1 (caller 3 1 2) (call.Write 0 0 (99 ∷ []))) ∷
    at 25 (Act (epoch 2 3 1) (inst 3 1) 1 (op.Write 0 (99 ∷ [])) outcome.Done) ∷
    at 25 (Answer 3 1 (caller 3 1 2) reply.Done) ∷
    at 26 (Accept 3 1 (caller 3 1 3) (call.Close 0)) ∷
    at 27 (Commit (file 0 2) 3 (stamp 3 1) ((stamp 1 1) ∷ []) (99 ∷ [])) ∷
    at 27 (Release (epoch 2 3 1) (inst 3 1) (file 0 2) (Some (stamp 3 1))) ∷
    at 27 (Answer 3 1 (caller 3 1 3) (reply.Closed (Some (stamp 3 1)))) ∷
    at 31 (Leave 1 (epoch 2 1 1)) ∷
    at 32 (Leave 2 (epoch 2 1 1)) ∷
    at 32 (Leave 3 (epoch 2 3 1)) ∷
    at 32 (Join 1 (epoch 3 1 1) (members (1 ∷ 1 ∷ 1 ∷ []))) ∷
    at 32 (Join 2 (epoch 3 1 1) (members (1 ∷ 1 ∷ 1 ∷ []))) ∷
    at 32 (Join 3 (epoch 3 1 1) (members (1 ∷ 1 ∷ 1 ∷ []))) ∷
    at 32 (Start (epoch 3 1 1) 0 (brought 1 (stamp 1 1) ∷ brought 2 (stamp 1 2) ∷ brought 2 (stamp 3 1) ∷ [])) ∷
    at 34 (Accept 1 1 (caller 1 1 5) (call.Open (codes "/f") how.Read)) ∷
    at 35 (Look (epoch 3 1 1) (caller 1 1 5) 1 (file 0 1) (what.Name (codes "f")) (served.At (stamp 1 1))) ∷
    at 35 (Refuse (epoch 3 1 1) (caller 1 1 5) 2 (inst 1 4) mode.Read (file 0 2) (refusal.Conflict (stamp 1 2) (stamp 3 1))) ∷
    at 35 (Answer 1 1 (caller 1 1 5) (reply.No (refusal.Conflict (stamp 1 2) (stamp 3 1)))) ∷
    at 37 (Accept 1 1 (caller 1 1 6) (call.Open (codes "/f") (how.Resolve 3))) ∷
    at 38 (Look (epoch 3 1 1) (caller 1 1 6) 1 (file 0 1) (what.Name (codes "f")) (served.At (stamp 1 1))) ∷
    at 38 (Grant (epoch 3 1 1) (caller 1 1 6) 2 (inst 1 5) mode.Resolve (file 0 2) (Some (stamp 3 1)) 3) ∷
    at 38 (Answer 1 1 (caller 1 1 6) (reply.Opened 0)) ∷
    at 39 (Accept 1 1 (caller 1 1 7) (call.Close 0)) ∷
    at 40 (Commit (file 0 2) 3 (stamp 3 2) ((stamp 1 2) ∷ (stamp 3 1) ∷ []) (99 ∷ [])) ∷
    at 40 (Release (epoch 3 1 1) (inst 1 5) (file 0 2) (Some (stamp 3 2))) ∷
    at 40 (Answer 1 1 (caller 1 1 7) (reply.Closed (Some (stamp 3 2)))) ∷
    at 40 (Adopt (file 0 2) 1 (stamp 3 2)) ∷
    at 40 (Adopt (file 0 2) 2 (stamp 3 2)) ∷
    at 42 (Accept 2 1 (caller 2 1 1) (call.Open (codes "/f") how.Read)) ∷
    at 43 (Look (epoch 3 1 1) (caller 2 1 1) 1 (file 0 1) (what.Name (codes "f")) (served.At (stamp 1 1))) ∷
    at 43 (Grant (epoch 3 1 1) (caller 2 1 1) 2 (inst 2 1) mode.Read (file 0 2) (Some (stamp 3 2)) 2) ∷
    at 43 (Answer 2 1 (caller 2 1 1) (reply.Opened 0)) ∷
    at 44 (Accept 2 1 (caller 2 1 2) (call.Read 0 0 10)) ∷
    at 45 (Act (epoch 3 1 1) (inst 2 1) 1 (op.Read 0 10) (outcome.Data (99 ∷ []))) ∷
    at 45 (Answer 2 1 (caller 2 1 2) (reply.Data (99 ∷ []))) ∷
    []

abbrev pub conflict_and_resolve : Example
conflict_and_resolve = record { lines = conflict_and_resolve_lines; trace = conflict_and_resolve_trace }
