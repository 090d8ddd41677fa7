-- Both sides of a cut mail into one box. When they meet, the system joins the box, and it has each message once; one that is then removed stays away.
use Rattle.std.specs.Prelude.{List, [], ◌∷◌, None, Some, codes}
use Rattle.locus_ids.specs.declared.ids.Kind.TheVariants as kind
use Rattle.locus_ids.specs.declared.ids.Mode.TheVariants as mode
use Rattle.trace_book.specs.declared.call.Call.TheVariants as call
use Rattle.trace_book.specs.declared.operation.Op.TheVariants as op
use Rattle.trace_book.specs.declared.operation.Outcome.TheVariants as outcome
use Rattle.trace_book.specs.declared.operation.What.TheVariants as what
use Rattle.trace_book.specs.declared.operation.Served.TheVariants as served
use Rattle.trace_book.specs.declared.reply.Reply.TheVariants as reply
use Rattle.schedule_lines.specs.declared.header.HeaderLine.TheVariants as header
use Rattle.schedule_lines.specs.declared.line.Line.TheVariants as line
use Rattle.trace_book.specs.declared.record.Record.TheVariants.{Leave, Join, Start, Accept, Look, Grant, Act, Commit, Release, Adopt, Answer}
use Rattle.trace_book.specs.declared.entry.Entry.{Entry}
use Rattle.schedule_lines.specs.declared.line.ScheduleLine.{ScheduleLine}
use Rattle.schedule_lines.specs.declared.line.ScheduleLine.TheVariants.{Passed, Header, Event}
use Rattle.promise_samples.specs.Examples.{Example}
use Rattle.lawful_trace.specs.Samples.{at, epoch, caller, inst, file, stamp, brought, members}

abbrev boxes_meet_lines : List ScheduleLine
boxes_meet_lines =
    Passed ∷
    Header (header.Sites 3) ∷
    Header (header.Group 0 (record { 0 = 7 })) ∷
    Event (line.Merge 1) ∷
    Event (line.Settle 1000) ∷
    Passed ∷
    Event (line.Call 1 1 (call.MakeDir (codes "/box"))) ∷
    Event (line.Settle 1000) ∷
    Passed ∷
    Event (line.Down 1 3) ∷
    Event (line.Down 2 3) ∷
    Event (line.Part 1) ∷
    Event (line.Part 3) ∷
    Event (line.Settle 1000) ∷
    Passed ∷
    Event (line.Call 1 1 (call.Mail (codes "/box") (104 ∷ 105 ∷ []))) ∷
    Event (line.Settle 1000) ∷
    Event (line.Call 3 1 (call.Mail (codes "/box") (121 ∷ []))) ∷
    Event (line.Settle 1000) ∷
    Passed ∷
    Event (line.Up 1 3) ∷
    Event (line.Up 2 3) ∷
    Event (line.Merge 1) ∷
    Event (line.Settle 1000) ∷
    Event (line.Call 2 1 (call.Mails (codes "/box"))) ∷
    Event (line.Settle 1000) ∷
    Passed ∷
    Event (line.Call 2 1 (call.Unlink (codes "/box/m1.1.2"))) ∷
    Event (line.Settle 1000) ∷
    Event (line.Call 1 1 (call.Mails (codes "/box"))) ∷
    Event (line.Settle 1000) ∷
    []

abbrev boxes_meet_trace : List Entry
boxes_meet_trace =
    at 5 (Join 1 (epoch 1 1 1) (members (1 ∷ 1 ∷ 1 ∷ []))) ∷
    at 5 (Join 2 (epoch 1 1 1) (members (1 ∷ 1 ∷ 1 ∷ []))) ∷
    at 5 (Join 3 (epoch 1 1 1) (members (1 ∷ 1 ∷ 1 ∷ []))) ∷
    at 5 (Start (epoch 1 1 1) 0 (brought 1 (stamp 0 0) ∷ [])) ∷
    at 7 (Accept 1 1 (caller 1 1 1) (call.MakeDir (codes "/box"))) ∷
    at 8 (Grant (epoch 1 1 1) (caller 1 1 1) 1 (inst 1 1) mode.Write (file 0 1) (Some (stamp 0 0)) 1) ∷
    at 8 (Act (epoch 1 1 1) (inst 1 1) 1 (op.Probe (codes "box")) outcome.Done) ∷
    at 8 (Grant (epoch 1 1 1) (caller 1 1 1) 3 (inst 1 2) mode.Make (file 0 2) None 1) ∷
    at 8 (Commit (file 0 2) 1 (stamp 1 1) [] []) ∷
    at 8 (Release (epoch 1 1 1) (inst 1 2) (file 0 2) (Some (stamp 1 1))) ∷
    at 8 (Adopt (file 0 2) 2 (stamp 1 1)) ∷
    at 8 (Adopt (file 0 2) 3 (stamp 1 1)) ∷
    at 8 (Act (epoch 1 1 1) (inst 1 1) 2 (op.Insert (codes "box") 2 kind.Dir) outcome.Done) ∷
    at 8 (Commit (file 0 1) 1 (stamp 1 1) ((stamp 0 0) ∷ []) (3 ∷ 98 ∷ 111 ∷ 120 ∷ 0 ∷ 2 ∷ 2 ∷ 0 ∷ 0 ∷ 0 ∷ 1 ∷ [])) ∷
    at 8 (Release (epoch 1 1 1) (inst 1 1) (file 0 1) (Some (stamp 1 1))) ∷
    at 8 (Answer 1 1 (caller 1 1 1) (reply.Made 2)) ∷
    at 8 (Adopt (file 0 1) 2 (stamp 1 1)) ∷
    at 8 (Adopt (file 0 1) 3 (stamp 1 1)) ∷
    at 12 (Leave 1 (epoch 1 1 1)) ∷
    at 13 (Leave 3 (epoch 1 1 1)) ∷
    at 13 (Join 3 (epoch 2 3 1) (members (0 ∷ 0 ∷ 1 ∷ []))) ∷
    at 14 (Leave 2 (epoch 1 1 1)) ∷
    at 14 (Start (epoch 2 3 1) 0 (brought 1 (stamp 1 1) ∷ brought 2 (stamp 1 1) ∷ [])) ∷
    at 14 (Join 1 (epoch 2 1 1) (members (1 ∷ 1 ∷ []))) ∷
    at 14 (Join 2 (epoch 2 1 1) (members (1 ∷ 1 ∷ []))) ∷
    at 14 (Start (epoch 2 1 1) 0 (brought 1 (stamp 1 1) ∷ brought 2 (stamp 1 1) ∷ [])) ∷
    at 16 (Accept 1 1 (caller 1 1 2) (call.Mail (codes "/box") (104 ∷ 105 ∷ []))) ∷
    at 17 (Look (epoch 2 1 1) (caller 1 1 2) 1 (file 0 1) (what.Name (codes "box")) (served.At (stamp 1 1))) ∷
    at 17 (Grant (epoch 2 1 1) (caller 1 1 2) 2 (inst 1 3) mode.Write (file 0 2) (Some (stamp 1 1)) 1) ∷
    at 17 (Act (epoch 2 1 1) (inst 1 3) 1 (op.Probe (codes "m1.1.2")) outcome.Done) ∷
    at 17 (Grant (epoch 2 1 1) (caller 1 1 2) 4 (inst 1 4) mode.Make (file 0 3) None 1) ∷
    at 17 (Act (epoch 2 1 1) (inst 1 4) 1 (op.Write 0 (104 ∷ 105 ∷ [])) outcome.Done) ∷
    at 17 (Commit (file 0 3) 1 (stamp 1 1) [] (104 ∷ 105 ∷ [])) ∷
    at 17 (Release (epoch 2 1 1) (inst 1 4) (file 0 3) (Some (stamp 1 1))) ∷
    at 17 (Act (epoch 2 1 1) (inst 1 3) 2 (op.Insert (codes "m1.1.2") 3 kind.File) outcome.Done) ∷
    at 17 (Adopt (file 0 3) 2 (stamp 1 1)) ∷
    at 17 (Commit (file 0 2) 1 (stamp 1 2) ((stamp 1 1) ∷ []) (6 ∷ 109 ∷ 49 ∷ 46 ∷ 49 ∷ 46 ∷ 50 ∷ 0 ∷ 3 ∷ 1 ∷ 0 ∷ 0 ∷ 0 ∷ 1 ∷ [])) ∷
    at 17 (Release (epoch 2 1 1) (inst 1 3) (file 0 2) (Some (stamp 1 2))) ∷
    at 17 (Answer 1 1 (caller 1 1 2) (reply.Names ((codes "m1.1.2") ∷ []))) ∷
    at 17 (Adopt (file 0 2) 2 (stamp 1 2)) ∷
    at 18 (Accept 3 1 (caller 3 1 1) (call.Mail (codes "/box") (121 ∷ []))) ∷
    at 19 (Look (epoch 2 3 1) (caller 3 1 1) 1 (file 0 1) (what.Name (codes "box")) (served.At (stamp 1 1))) ∷
    at 19 (Grant (epoch 2 3 1) (caller 3 1 1) 2 (inst 3 1) mode.Write (file 0 2) (Some (stamp 1 1)) 3) ∷
    at 19 (Act (epoch 2 3 1) (inst 3 1) 1 (op.Probe (codes "m3.1.1")) outcome.Done) ∷
    at 19 (Grant (epoch 2 3 1) (caller 3 1 1) 4 (inst 3 2) mode.Make (file 0 129) None 3) ∷
    at 19 (Act (epoch 2 3 1) (inst 3 2) 1 (op.Write 0 (121 ∷ [])) outcome.Done) ∷
    at 19 (Commit (file 0 129) 3 (stamp 3 1) [] (121 ∷ [])) ∷
    at 19 (Release (epoch 2 3 1) (inst 3 2) (file 0 129) (Some (stamp 3 1))) ∷
    at 19 (Act (epoch 2 3 1) (inst 3 1) 2 (op.Insert (codes "m3.1.1") 129 kind.File) outcome.Done) ∷
    at 19 (Commit (file 0 2) 3 (stamp 3 1) ((stamp 1 1) ∷ []) (6 ∷ 109 ∷ 51 ∷ 46 ∷ 49 ∷ 46 ∷ 49 ∷ 0 ∷ 129 ∷ 1 ∷ 0 ∷ 0 ∷ 0 ∷ 1 ∷ [])) ∷
    at 19 (Release (epoch 2 3 1) (inst 3 1) (file 0 2) (Some (stamp 3 1))) ∷
    at 19 (Answer 3 1 (caller 3 1 1) (reply.Names ((codes "m3.1.1") ∷ []))) ∷
    at 23 (Leave 1 (epoch 2 1 1)) ∷
    at 24 (Leave 2 (epoch 2 1 1)) ∷
    at 24 (Leave 3 (epoch 2 3 1)) ∷
    at 24 (Join 1 (epoch 3 1 1) (members (1 ∷ 1 ∷ 1 ∷ []))) ∷
    at 24 (Join 2 (epoch 3 1 1) (members (1 ∷ 1 ∷ 1 ∷ []))) ∷
    at 24 (Join 3 (epoch 3 1 1) (members (1 ∷ 1 ∷ 1 ∷ []))) ∷
    at 24 (Start (epoch 3 1 1) 0 (brought 1 (stamp 1 1) ∷ brought 2 (stamp 1 2) ∷ brought 2 (stamp 3 1) ∷ brought 3 (stamp 1 1) ∷ brought 129 (stamp 3 1) ∷ [])) ∷
    at 24 (Accept 1 0 (caller 1 1 3) (call.Mend (file 0 2))) ∷
    at 24 (Grant (epoch 3 1 1) (caller 1 1 3) 1 (inst 1 5) mode.Mend (file 0 2) (Some (stamp 1 2)) 1) ∷
    at 24 (Adopt (file 0 129) 1 (stamp 3 1)) ∷
    at 24 (Adopt (file 0 129) 2 (stamp 3 1)) ∷
    at 24 (Adopt (file 0 3) 3 (stamp 1 1)) ∷
    at 24 (Look (epoch 3 1 1) (caller 1 1 3) 2 (file 0 2) (what.Whole (stamp 1 2)) (served.At (stamp 1 2))) ∷
    at 24 (Look (epoch 3 1 1) (caller 1 1 3) 3 (file 0 2) (what.Whole (stamp 3 1)) (served.At (stamp 3 1))) ∷
    at 24 (Act (epoch 3 1 1) (inst 1 5) 1 op.Mend outcome.Done) ∷
    at 24 (Commit (file 0 2) 1 (stamp 1 3) ((stamp 1 2) ∷ (stamp 3 1) ∷ []) (6 ∷ 109 ∷ 49 ∷ 46 ∷ 49 ∷ 46 ∷ 50 ∷ 0 ∷ 3 ∷ 1 ∷ 0 ∷ 0 ∷ 0 ∷ 1 ∷ 6 ∷ 109 ∷ 51 ∷ 46 ∷ 49 ∷ 46 ∷ 49 ∷ 0 ∷ 129 ∷ 1 ∷ 0 ∷ 0 ∷ 0 ∷ 1 ∷ [])) ∷
    at 24 (Release (epoch 3 1 1) (inst 1 5) (file 0 2) (Some (stamp 1 3))) ∷
    at 24 (Answer 1 0 (caller 1 1 3) (reply.Closed (Some (stamp 1 3)))) ∷
    at 24 (Adopt (file 0 2) 2 (stamp 1 3)) ∷
    at 24 (Adopt (file 0 2) 3 (stamp 1 3)) ∷
    at 25 (Accept 2 1 (caller 2 1 1) (call.Mails (codes "/box"))) ∷
    at 26 (Look (epoch 3 1 1) (caller 2 1 1) 1 (file 0 1) (what.Name (codes "box")) (served.At (stamp 1 1))) ∷
    at 26 (Look (epoch 3 1 1) (caller 2 1 1) 2 (file 0 2) what.List (served.At (stamp 1 3))) ∷
    at 26 (Answer 2 1 (caller 2 1 1) (reply.Names ((codes "m1.1.2") ∷ (codes "m3.1.1") ∷ []))) ∷
    at 28 (Accept 2 1 (caller 2 1 2) (call.Unlink (codes "/box/m1.1.2"))) ∷
    at 29 (Look (epoch 3 1 1) (caller 2 1 2) 1 (file 0 1) (what.Name (codes "box")) (served.At (stamp 1 1))) ∷
    at 29 (Grant (epoch 3 1 1) (caller 2 1 2) 2 (inst 2 1) mode.Write (file 0 2) (Some (stamp 1 3)) 2) ∷
    at 29 (Act (epoch 3 1 1) (inst 2 1) 1 (op.Find (codes "m1.1.2")) (outcome.Found 3 kind.File)) ∷
    at 29 (Grant (epoch 3 1 1) (caller 2 1 2) 4 (inst 2 2) mode.Write (file 0 3) (Some (stamp 1 1)) 2) ∷
    at 29 (Act (epoch 3 1 1) (inst 2 1) 2 (op.Remove (codes "m1.1.2") 3) outcome.Done) ∷
    at 29 (Commit (file 0 2) 2 (stamp 2 1) ((stamp 1 3) ∷ []) (6 ∷ 109 ∷ 49 ∷ 46 ∷ 49 ∷ 46 ∷ 50 ∷ 0 ∷ 3 ∷ 1 ∷ 0 ∷ 0 ∷ 0 ∷ 2 ∷ 0 ∷ 0 ∷ 0 ∷ 1 ∷ 0 ∷ 0 ∷ 0 ∷ 0 ∷ 0 ∷ 0 ∷ 0 ∷ 0 ∷ 0 ∷ 0 ∷ 0 ∷ 0 ∷ 0 ∷ 0 ∷ 0 ∷ 0 ∷ 0 ∷ 0 ∷ 0 ∷ 0 ∷ 0 ∷ 0 ∷ 0 ∷ 0 ∷ 0 ∷ 0 ∷ 0 ∷ 0 ∷ 0 ∷ 0 ∷ 0 ∷ 0 ∷ 0 ∷ 0 ∷ 0 ∷ 0 ∷ 0 ∷ 0 ∷ 0 ∷ 0 ∷ 0 ∷ 0 ∷ 0 ∷ 0 ∷ 0 ∷ 0 ∷ 0 ∷ 0 ∷ 0 ∷ 0 ∷ 0 ∷ 0 ∷ 0 ∷ 0 ∷ 0 ∷ 0 ∷ 0 ∷ 0 ∷ 0 ∷ 0 ∷ 6 ∷ 109 ∷ 51 ∷ 46 ∷ 49 ∷ 46 ∷ 49 ∷ 0 ∷ 129 ∷ 1 ∷ 0 ∷ 0 ∷ 0 ∷ 1 ∷ [])) ∷
    at 29 (Release (epoch 3 1 1) (inst 2 1) (file 0 2) (Some (stamp 2 1))) ∷
    at 29 (Release (epoch 3 1 1) (inst 2 2) (file 0 3) None) ∷
    at 29 (Adopt (file 0 2) 1 (stamp 2 1)) ∷
    at 29 (Adopt (file 0 2) 3 (stamp 2 1)) ∷
    at 29 (Answer 2 1 (caller 2 1 2) reply.Done) ∷
    at 30 (Accept 1 1 (caller 1 1 4) (call.Mails (codes "/box"))) ∷
    at 31 (Look (epoch 3 1 1) (caller 1 1 4) 1 (file 0 1) (what.Name (codes "box")) (served.At (stamp 1 1))) ∷
    at 31 (Look (epoch 3 1 1) (caller 1 1 4) 2 (file 0 2) what.List (served.At (stamp 2 1))) ∷
    at 31 (Answer 1 1 (caller 1 1 4) (reply.Names ((codes "m3.1.1") ∷ []))) ∷
    []

abbrev pub boxes_meet : Example
boxes_meet = record { lines = boxes_meet_lines; trace = boxes_meet_trace }
