-- After calm rounds no directory is flagged, and none wants a rescue.
use Rattle.std.specs.Prelude.{List, [], ◌∷◌, None, Some, codes}
use Rattle.locus_ids.specs.declared.ids.Kind.TheVariants as kind
use Rattle.locus_ids.specs.declared.ids.Mode.TheVariants as mode
use Rattle.trace_book.specs.declared.call.Call.TheVariants as call
use Rattle.trace_book.specs.declared.call.OpenMode.TheVariants as how
use Rattle.trace_book.specs.declared.operation.Op.TheVariants as op
use Rattle.trace_book.specs.declared.operation.Outcome.TheVariants as outcome
use Rattle.trace_book.specs.declared.operation.What.TheVariants as what
use Rattle.trace_book.specs.declared.operation.Served.TheVariants as served
use Rattle.trace_book.specs.declared.reply.Reply.TheVariants as reply
use Rattle.schedule_lines.specs.declared.header.HeaderLine.TheVariants as header
use Rattle.schedule_lines.specs.declared.line.Line.TheVariants as line
use Rattle.trace_book.specs.declared.record.Record.TheVariants.{Leave, Join, Start, Accept, Look, Grant, Act, Commit, Release, Adopt, Answer}
use Rattle.trace_book.specs.declared.entry.Entry.{Entry}
use Rattle.schedule_lines.specs.declared.line.ScheduleLine.{ScheduleLine}
use Rattle.schedule_lines.specs.declared.line.ScheduleLine.TheVariants.{Passed, Header, Event}
use Rattle.promise_samples.specs.Examples.{Example}
use Rattle.lawful_trace.specs.Samples.{at, epoch, caller, inst, file, stamp, brought, members}

abbrev directories_rest_lines : List ScheduleLine
directories_rest_lines =
    Passed ∷
    Header (header.Sites 3) ∷
    Header (header.Group 0 (record { 0 = 7 })) ∷
    Event (line.Merge 1) ∷
    Event (line.Settle 1000) ∷
    Event (line.Call 1 1 (call.Create (codes "/a") None)) ∷
    Event (line.Settle 1000) ∷
    Event (line.Call 1 1 (call.Open (codes "/a") how.Write)) ∷
    Event (line.Settle 1000) ∷
    Passed ∷
    Event (line.Down 1 3) ∷
    Event (line.Down 2 3) ∷
    Event (line.Part 1) ∷
    Event (line.Settle 1000) ∷
    Event (line.Part 3) ∷
    Event (line.Settle 1000) ∷
    Passed ∷
    Event (line.Call 2 1 (call.Unlink (codes "/a"))) ∷
    Event (line.Settle 1000) ∷
    Event (line.Call 2 1 (call.Create (codes "/b") None)) ∷
    Event (line.Settle 1000) ∷
    Event (line.Call 3 1 (call.Open (codes "/a") how.Write)) ∷
    Event (line.Settle 1000) ∷
    Event (line.Call 3 1 (call.Write 0 0 (104 ∷ 105 ∷ []))) ∷
    Event (line.Settle 1000) ∷
    Event (line.Call 3 1 (call.Close 0)) ∷
    Event (line.Settle 1000) ∷
    Event (line.Call 3 1 (call.Create (codes "/c") None)) ∷
    Event (line.Settle 1000) ∷
    Passed ∷
    Event (line.Up 1 3) ∷
    Event (line.Up 2 3) ∷
    Event (line.Merge 1) ∷
    Passed ∷
    Passed ∷
    Event (line.Settle 1000) ∷
    Passed ∷
    Passed ∷
    Event (line.Settle 1000) ∷
    Event (line.Settle 1000) ∷
    Event (line.Settle 1000) ∷
    Event (line.Call 2 1 (call.List (codes "/"))) ∷
    Event (line.Settle 1000) ∷
    []

abbrev directories_rest_trace : List Entry
directories_rest_trace =
    at 5 (Join 1 (epoch 1 1 1) (members (1 ∷ 1 ∷ 1 ∷ []))) ∷
    at 5 (Join 2 (epoch 1 1 1) (members (1 ∷ 1 ∷ 1 ∷ []))) ∷
    at 5 (Join 3 (epoch 1 1 1) (members (1 ∷ 1 ∷ 1 ∷ []))) ∷
    at 5 (Start (epoch 1 1 1) 0 (brought 1 (stamp 0 0) ∷ [])) ∷
    at 6 (Accept 1 1 (caller 1 1 1) (call.Create (codes "/a") None)) ∷
    at 7 (Grant (epoch 1 1 1) (caller 1 1 1) 1 (inst 1 1) mode.Write (file 0 1) (Some (stamp 0 0)) 1) ∷
    at 7 (Act (epoch 1 1 1) (inst 1 1) 1 (op.Probe (codes "a")) outcome.Done) ∷
    at 7 (Grant (epoch 1 1 1) (caller 1 1 1) 3 (inst 1 2) mode.Make (file 0 2) None 1) ∷
    at 7 (Commit (file 0 2) 1 (stamp 1 1) [] []) ∷
    at 7 (Release (epoch 1 1 1) (inst 1 2) (file 0 2) (Some (stamp 1 1))) ∷
    at 7 (Adopt (file 0 2) 2 (stamp 1 1)) ∷
    at 7 (Adopt (file 0 2) 3 (stamp 1 1)) ∷
    at 7 (Act (epoch 1 1 1) (inst 1 1) 2 (op.Insert (codes "a") 2 kind.File) outcome.Done) ∷
    at 7 (Commit (file 0 1) 1 (stamp 1 1) ((stamp 0 0) ∷ []) (1 ∷ 97 ∷ 0 ∷ 2 ∷ 1 ∷ 0 ∷ 0 ∷ 0 ∷ 1 ∷ [])) ∷
    at 7 (Release (epoch 1 1 1) (inst 1 1) (file 0 1) (Some (stamp 1 1))) ∷
    at 7 (Answer 1 1 (caller 1 1 1) (reply.Made 2)) ∷
    at 7 (Adopt (file 0 1) 2 (stamp 1 1)) ∷
    at 7 (Adopt (file 0 1) 3 (stamp 1 1)) ∷
    at 8 (Accept 1 1 (caller 1 1 2) (call.Open (codes "/a") how.Write)) ∷
    at 9 (Look (epoch 1 1 1) (caller 1 1 2) 1 (file 0 1) (what.Name (codes "a")) (served.At (stamp 1 1))) ∷
    at 9 (Grant (epoch 1 1 1) (caller 1 1 2) 2 (inst 1 3) mode.Write (file 0 2) (Some (stamp 1 1)) 1) ∷
    at 9 (Answer 1 1 (caller 1 1 2) (reply.Opened 0)) ∷
    at 13 (Leave 1 (epoch 1 1 1)) ∷
    at 14 (Leave 2 (epoch 1 1 1)) ∷
    at 14 (Join 1 (epoch 2 1 1) (members (1 ∷ 1 ∷ []))) ∷
    at 14 (Join 2 (epoch 2 1 1) (members (1 ∷ 1 ∷ []))) ∷
    at 14 (Start (epoch 2 1 1) 0 (brought 1 (stamp 1 1) ∷ brought 2 (stamp 1 1) ∷ [])) ∷
    at 15 (Leave 3 (epoch 1 1 1)) ∷
    at 15 (Join 3 (epoch 2 3 1) (members (0 ∷ 0 ∷ 1 ∷ []))) ∷
    at 16 (Start (epoch 2 3 1) 0 (brought 1 (stamp 1 1) ∷ brought 2 (stamp 1 1) ∷ [])) ∷
    at 18 (Accept 2 1 (caller 2 1 1) (call.Unlink (codes "/a"))) ∷
    at 19 (Grant (epoch 2 1 1) (caller 2 1 1) 1 (inst 2 1) mode.Write (file 0 1) (Some (stamp 1 1)) 2) ∷
    at 19 (Act (epoch 2 1 1) (inst 2 1) 1 (op.Find (codes "a")) (outcome.Found 2 kind.File)) ∷
    at 19 (Grant (epoch 2 1 1) (caller 2 1 1) 3 (inst 2 2) mode.Write (file 0 2) (Some (stamp 1 1)) 2) ∷
    at 19 (Act (epoch 2 1 1) (inst 2 1) 2 (op.Remove (codes "a") 2) outcome.Done) ∷
    at 19 (Commit (file 0 1) 2 (stamp 2 1) ((stamp 1 1) ∷ []) (1 ∷ 97 ∷ 0 ∷ 2 ∷ 1 ∷ 0 ∷ 0 ∷ 0 ∷ 2 ∷ 0 ∷ 0 ∷ 0 ∷ 1 ∷ 0 ∷ 0 ∷ 0 ∷ 0 ∷ 0 ∷ 0 ∷ 0 ∷ 0 ∷ 0 ∷ 0 ∷ 0 ∷ 0 ∷ 0 ∷ 0 ∷ 0 ∷ 0 ∷ 0 ∷ 0 ∷ 0 ∷ 0 ∷ 0 ∷ 0 ∷ 0 ∷ 0 ∷ 0 ∷ 0 ∷ 0 ∷ 0 ∷ 0 ∷ 0 ∷ 0 ∷ 0 ∷ 0 ∷ 0 ∷ 0 ∷ 0 ∷ 0 ∷ 0 ∷ 0 ∷ 0 ∷ 0 ∷ 0 ∷ 0 ∷ 0 ∷ 0 ∷ 0 ∷ 0 ∷ 0 ∷ 0 ∷ 0 ∷ 0 ∷ 0 ∷ 0 ∷ 0 ∷ 0 ∷ 0 ∷ 0 ∷ 0 ∷ 0 ∷ 0 ∷ [])) ∷
    at 19 (Release (epoch 2 1 1) (inst 2 1) (file 0 1) (Some (stamp 2 1))) ∷
    at 19 (Release (epoch 2 1 1) (inst 2 2) (file 0 2) None) ∷
    at 19 (Adopt (file 0 1) 1 (stamp 2 1)) ∷
    at 19 (Answer 2 1 (caller 2 1 1) reply.Done) ∷
    at 20 (Accept 2 1 (caller 2 1 2) (call.Create (codes "/b") None)) ∷
    at 21 (Grant (epoch 2 1 1) (caller 2 1 2) 1 (inst 2 3) mode.Write (file 0 1) (Some (stamp 2 1)) 2) ∷
    at 21 (Act (epoch 2 1 1) (inst 2 3) 1 (op.Probe (codes "b")) outcome.Done) ∷
    at 21 (Grant (epoch 2 1 1) (caller 2 1 2) 3 (inst 2 4) mode.Make (file 0 65) None 2) ∷
    at 21 (Commit (file 0 65) 2 (stamp 2 1) [] []) ∷
    at 21 (Release (epoch 2 1 1) (inst 2 4) (file 0 65) (Some (stamp 2 1))) ∷
    at 21 (Adopt (file 0 65) 1 (stamp 2 1)) ∷
    at 21 (Act (epoch 2 1 1) (inst 2 3) 2 (op.Insert (codes "b") 65 kind.File) outcome.Done) ∷
    at 21 (Commit (file 0 1) 2 (stamp 2 2) ((stamp 2 1) ∷ []) (1 ∷ 97 ∷ 0 ∷ 2 ∷ 1 ∷ 0 ∷ 0 ∷ 0 ∷ 2 ∷ 0 ∷ 0 ∷ 0 ∷ 1 ∷ 0 ∷ 0 ∷ 0 ∷ 0 ∷ 0 ∷ 0 ∷ 0 ∷ 0 ∷ 0 ∷ 0 ∷ 0 ∷ 0 ∷ 0 ∷ 0 ∷ 0 ∷ 0 ∷ 0 ∷ 0 ∷ 0 ∷ 0 ∷ 0 ∷ 0 ∷ 0 ∷ 0 ∷ 0 ∷ 0 ∷ 0 ∷ 0 ∷ 0 ∷ 0 ∷ 0 ∷ 0 ∷ 0 ∷ 0 ∷ 0 ∷ 0 ∷ 0 ∷ 0 ∷ 0 ∷ 0 ∷ 0 ∷ 0 ∷ 0 ∷ 0 ∷ 0 ∷ 0 ∷ 0 ∷ 0 ∷ 0 ∷ 0 ∷ 0 ∷ 0 ∷ 0 ∷ 0 ∷ 0 ∷ 0 ∷ 0 ∷ 0 ∷ 0 ∷ 0 ∷ 1 ∷ 98 ∷ 0 ∷ 65 ∷ 1 ∷ 0 ∷ 0 ∷ 0 ∷ 1 ∷ [])) ∷
    at 21 (Release (epoch 2 1 1) (inst 2 3) (file 0 1) (Some (stamp 2 2))) ∷
    at 21 (Answer 2 1 (caller 2 1 2) (reply.Made 65)) ∷
    at 21 (Adopt (file 0 1) 1 (stamp 2 2)) ∷
    at 22 (Accept 3 1 (caller 3 1 1) (call.Open (codes "/a") how.Write)) ∷
    at 23 (Look (epoch 2 3 1) (caller 3 1 1) 1 (file 0 1) (what.Name (codes "a")) (served.At (stamp 1 1))) ∷
    at 23 (Grant (epoch 2 3 1) (caller 3 1 1) 2 (inst 3 1) mode.Write (file 0 2) (Some (stamp 1 1)) 3) ∷
    at 23 (Answer 3 1 (caller 3 1 1) (reply.Opened 0)) ∷
    at 24 (Accept 3 1 (caller 3 1 2) (call.Write 0 0 (104 ∷ 105 ∷ []))) ∷
    at 25 (Act (epoch 2 3 1) (inst 3 1) 1 (op.Write 0 (104 ∷ 105 ∷ [])) outcome.Done) ∷
    at 25 (Answer 3 1 (caller 3 1 2) reply.Done) ∷
    at 26 (Accept 3 1 (caller 3 1 3) (call.Close 0)) ∷
    at 27 (Commit (file 0 2) 3 (stamp 3 1) ((stamp 1 1) ∷ []) (104 ∷ 105 ∷ [])) ∷
    at 27 (Release (epoch 2 3 1) (inst 3 1) (file 0 2) (Some (stamp 3 1))) ∷
    at 27 (Answer 3 1 (caller 3 1 3) (reply.Closed (Some (stamp 3 1)))) ∷
    at 28 (Accept 3 1 (caller 3 1 4) (call.Create (codes "/c") None)) ∷
    at 29 (Grant (epoch 2 3 1) (caller 3 1 4) 1 (inst 3 2) mode.Write (file 0 1) (Some (stamp 1 1)) 3) ∷
    at 29 (Act (epoch 2 3 1) (inst 3 2) 1 (op.Probe (codes "c")) outcome.Done) ∷
    at 29 (Grant (epoch 2 3 1) (caller 3 1 4) 3 (inst 3 3) mode.Make (file 0 129) None 3) ∷
    at 29 (Commit (file 0 129) 3 (stamp 3 1) [] []) ∷
    at 29 (Release (epoch 2 3 1) (inst 3 3) (file 0 129) (Some (stamp 3 1))) ∷
    at 29 (Act (epoch 2 3 1) (inst 3 2) 2 (op.Insert (codes "c") 129 kind.File) outcome.Done) ∷
    at 29 (Commit (file 0 1) 3 (stamp 3 1) ((stamp 1 1) ∷ []) (1 ∷ 97 ∷ 0 ∷ 2 ∷ 1 ∷ 0 ∷ 0 ∷ 0 ∷ 1 ∷ 1 ∷ 99 ∷ 0 ∷ 129 ∷ 1 ∷ 0 ∷ 0 ∷ 0 ∷ 1 ∷ [])) ∷
    at 29 (Release (epoch 2 3 1) (inst 3 2) (file 0 1) (Some (stamp 3 1))) ∷
    at 29 (Answer 3 1 (caller 3 1 4) (reply.Made 129)) ∷
    at 33 (Leave 1 (epoch 2 1 1)) ∷
    at 36 (Leave 2 (epoch 2 1 1)) ∷
    at 36 (Leave 3 (epoch 2 3 1)) ∷
    at 36 (Join 1 (epoch 3 1 1) (members (1 ∷ 1 ∷ 1 ∷ []))) ∷
    at 36 (Join 2 (epoch 3 1 1) (members (1 ∷ 1 ∷ 1 ∷ []))) ∷
    at 36 (Join 3 (epoch 3 1 1) (members (1 ∷ 1 ∷ 1 ∷ []))) ∷
    at 36 (Start (epoch 3 1 1) 0 (brought 1 (stamp 2 2) ∷ brought 1 (stamp 3 1) ∷ brought 2 (stamp 1 1) ∷ brought 2 (stamp 3 1) ∷ brought 65 (stamp 2 1) ∷ brought 129 (stamp 3 1) ∷ [])) ∷
    at 36 (Accept 1 0 (caller 1 1 3) (call.Mend (file 0 1))) ∷
    at 36 (Grant (epoch 3 1 1) (caller 1 1 3) 1 (inst 1 4) mode.Mend (file 0 1) (Some (stamp 2 2)) 1) ∷
    at 36 (Adopt (file 0 129) 1 (stamp 3 1)) ∷
    at 36 (Adopt (file 0 129) 2 (stamp 3 1)) ∷
    at 36 (Adopt (file 0 65) 3 (stamp 2 1)) ∷
    at 36 (Look (epoch 3 1 1) (caller 1 1 3) 2 (file 0 1) (what.Whole (stamp 2 2)) (served.At (stamp 2 2))) ∷
    at 36 (Adopt (file 0 2) 1 (stamp 3 1)) ∷
    at 36 (Adopt (file 0 2) 2 (stamp 3 1)) ∷
    at 36 (Look (epoch 3 1 1) (caller 1 1 3) 3 (file 0 1) (what.Whole (stamp 3 1)) (served.At (stamp 3 1))) ∷
    at 36 (Act (epoch 3 1 1) (inst 1 4) 1 op.Mend outcome.Done) ∷
    at 36 (Commit (file 0 1) 1 (stamp 1 2) ((stamp 2 2) ∷ (stamp 3 1) ∷ []) (1 ∷ 97 ∷ 0 ∷ 2 ∷ 1 ∷ 0 ∷ 0 ∷ 0 ∷ 3 ∷ 1 ∷ 98 ∷ 0 ∷ 65 ∷ 1 ∷ 0 ∷ 0 ∷ 0 ∷ 1 ∷ 1 ∷ 99 ∷ 0 ∷ 129 ∷ 1 ∷ 0 ∷ 0 ∷ 0 ∷ 1 ∷ [])) ∷
    at 36 (Release (epoch 3 1 1) (inst 1 4) (file 0 1) (Some (stamp 1 2))) ∷
    at 36 (Answer 1 0 (caller 1 1 3) (reply.Closed (Some (stamp 1 2)))) ∷
    at 36 (Adopt (file 0 1) 2 (stamp 1 2)) ∷
    at 36 (Adopt (file 0 1) 3 (stamp 1 2)) ∷
    at 42 (Accept 2 1 (caller 2 1 3) (call.List (codes "/"))) ∷
    at 43 (Look (epoch 3 1 1) (caller 2 1 3) 1 (file 0 1) what.List (served.At (stamp 1 2))) ∷
    at 43 (Answer 2 1 (caller 2 1 3) (reply.Names ((codes "a") ∷ (codes "b") ∷ (codes "c") ∷ []))) ∷
    []

abbrev pub directories_rest : Example
directories_rest = record { lines = directories_rest_lines; trace = directories_rest_trace }
