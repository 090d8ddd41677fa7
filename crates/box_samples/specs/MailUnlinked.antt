-- A run of mail, the case unlinked-on-one-side: both sides of a cut mail into one box, and it is joined; then one side of a second cut takes a
-- message out while the other puts another one in, and it is joined again. `tools/sample-trace` writes the values.
use Rattle.std.specs.Prelude.{List, [], ◌∷◌, None, Some, codes}
use Rattle.locus_ids.specs.declared.ids.Kind.TheVariants as kind
use Rattle.locus_ids.specs.declared.ids.Mode.TheVariants as mode
use Rattle.trace_book.specs.declared.call.Call.TheVariants as call
use Rattle.trace_book.specs.declared.operation.Op.TheVariants as op
use Rattle.trace_book.specs.declared.operation.Outcome.TheVariants as outcome
use Rattle.trace_book.specs.declared.operation.What.TheVariants as what
use Rattle.trace_book.specs.declared.operation.Served.TheVariants as served
use Rattle.trace_book.specs.declared.reply.Reply.TheVariants as reply
use Rattle.schedule_lines.specs.declared.header.HeaderLine.TheVariants as header
use Rattle.schedule_lines.specs.declared.line.Line.TheVariants as line
use Rattle.trace_book.specs.declared.record.Record.TheVariants.{Leave, Join, Start, Accept, Look, Grant, Act, Commit, Release, Adopt, Answer}
use Rattle.trace_book.specs.declared.entry.Entry.{Entry}
use Rattle.schedule_lines.specs.declared.line.ScheduleLine.{ScheduleLine}
use Rattle.schedule_lines.specs.declared.line.ScheduleLine.TheVariants.{Header, Event}
use Rattle.box_samples.specs.Judged.{Sample}
use Rattle.lawful_trace.specs.Samples.{at, epoch, caller, inst, file, stamp, brought, members}

abbrev mail_unlinked_lines : List ScheduleLine
mail_unlinked_lines =
    Header (header.Sites 3) ∷
    Header (header.Group 0 (record { 0 = 7 })) ∷
    Event (line.Merge 1) ∷
    Event (line.Settle 1000) ∷
    Event (line.Call 1 1 (call.MakeDir (codes "/box"))) ∷
    Event (line.Settle 1000) ∷
    Event (line.Down 1 3) ∷
    Event (line.Down 2 3) ∷
    Event (line.Part 1) ∷
    Event (line.Part 3) ∷
    Event (line.Settle 1000) ∷
    Event (line.Call 1 1 (call.Mail (codes "/box") (104 ∷ 105 ∷ []))) ∷
    Event (line.Settle 1000) ∷
    Event (line.Call 3 1 (call.Mail (codes "/box") (121 ∷ []))) ∷
    Event (line.Settle 1000) ∷
    Event (line.Up 1 3) ∷
    Event (line.Up 2 3) ∷
    Event (line.Merge 1) ∷
    Event (line.Settle 1000) ∷
    Event (line.Call 2 1 (call.Mails (codes "/box"))) ∷
    Event (line.Settle 1000) ∷
    Event (line.Down 1 3) ∷
    Event (line.Down 2 3) ∷
    Event (line.Part 1) ∷
    Event (line.Part 3) ∷
    Event (line.Settle 1000) ∷
    Event (line.Call 1 1 (call.Unlink (codes "/box/m3.1.1"))) ∷
    Event (line.Settle 1000) ∷
    Event (line.Call 3 1 (call.Mail (codes "/box") (122 ∷ 122 ∷ []))) ∷
    Event (line.Settle 1000) ∷
    Event (line.Call 3 1 (call.Mails (codes "/box"))) ∷
    Event (line.Settle 1000) ∷
    Event (line.Call 1 1 (call.Mails (codes "/box"))) ∷
    Event (line.Settle 1000) ∷
    Event (line.Up 1 3) ∷
    Event (line.Up 2 3) ∷
    Event (line.Merge 1) ∷
    Event (line.Settle 1000) ∷
    Event (line.Call 2 1 (call.Mails (codes "/box"))) ∷
    Event (line.Settle 1000) ∷
    []

abbrev mail_unlinked_trace : List Entry
mail_unlinked_trace =
    at 4 (Join 1 (epoch 1 1 1) (members (1 ∷ 1 ∷ 1 ∷ []))) ∷
    at 4 (Join 2 (epoch 1 1 1) (members (1 ∷ 1 ∷ 1 ∷ []))) ∷
    at 4 (Join 3 (epoch 1 1 1) (members (1 ∷ 1 ∷ 1 ∷ []))) ∷
    at 4 (Start (epoch 1 1 1) 0 (brought 1 (stamp 0 0) ∷ [])) ∷
    at 5 (Accept 1 1 (caller 1 1 1) (call.MakeDir (codes "/box"))) ∷
    at 6 (Grant (epoch 1 1 1) (caller 1 1 1) 1 (inst 1 1) mode.Write (file 0 1) (Some (stamp 0 0)) 1) ∷
    at 6 (Act (epoch 1 1 1) (inst 1 1) 1 (op.Probe (codes "box")) outcome.Done) ∷
    at 6 (Grant (epoch 1 1 1) (caller 1 1 1) 3 (inst 1 2) mode.Make (file 0 2) None 1) ∷
    at 6 (Commit (file 0 2) 1 (stamp 1 1) [] []) ∷
    at 6 (Release (epoch 1 1 1) (inst 1 2) (file 0 2) (Some (stamp 1 1))) ∷
    at 6 (Adopt (file 0 2) 2 (stamp 1 1)) ∷
    at 6 (Adopt (file 0 2) 3 (stamp 1 1)) ∷
    at 6 (Act (epoch 1 1 1) (inst 1 1) 2 (op.Insert (codes "box") 2 kind.Dir) outcome.Done) ∷
    at 6 (Commit (file 0 1) 1 (stamp 1 1) ((stamp 0 0) ∷ []) (3 ∷ 98 ∷ 111 ∷ 120 ∷ 0 ∷ 2 ∷ 2 ∷ 0 ∷ 0 ∷ 0 ∷ 1 ∷ [])) ∷
    at 6 (Release (epoch 1 1 1) (inst 1 1) (file 0 1) (Some (stamp 1 1))) ∷
    at 6 (Answer 1 1 (caller 1 1 1) (reply.Made 2)) ∷
    at 6 (Adopt (file 0 1) 2 (stamp 1 1)) ∷
    at 6 (Adopt (file 0 1) 3 (stamp 1 1)) ∷
    at 9 (Leave 1 (epoch 1 1 1)) ∷
    at 10 (Leave 3 (epoch 1 1 1)) ∷
    at 10 (Join 3 (epoch 2 3 1) (members (0 ∷ 0 ∷ 1 ∷ []))) ∷
    at 11 (Leave 2 (epoch 1 1 1)) ∷
    at 11 (Start (epoch 2 3 1) 0 (brought 1 (stamp 1 1) ∷ brought 2 (stamp 1 1) ∷ [])) ∷
    at 11 (Join 1 (epoch 2 1 1) (members (1 ∷ 1 ∷ []))) ∷
    at 11 (Join 2 (epoch 2 1 1) (members (1 ∷ 1 ∷ []))) ∷
    at 11 (Start (epoch 2 1 1) 0 (brought 1 (stamp 1 1) ∷ brought 2 (stamp 1 1) ∷ [])) ∷
    at 12 (Accept 1 1 (caller 1 1 2) (call.Mail (codes "/box") (104 ∷ 105 ∷ []))) ∷
    at 13 (Look (epoch 2 1 1) (caller 1 1 2) 1 (file 0 1) (what.Name (codes "box")) (served.At (stamp 1 1))) ∷
    at 13 (Grant (epoch 2 1 1) (caller 1 1 2) 2 (inst 1 3) mode.Write (file 0 2) (Some (stamp 1 1)) 1) ∷
    at 13 (Act (epoch 2 1 1) (inst 1 3) 1 (op.Probe (codes "m1.1.2")) outcome.Done) ∷
    at 13 (Grant (epoch 2 1 1) (caller 1 1 2) 4 (inst 1 4) mode.Make (file 0 3) None 1) ∷
    at 13 (Act (epoch 2 1 1) (inst 1 4) 1 (op.Write 0 (104 ∷ 105 ∷ [])) outcome.Done) ∷
    at 13 (Commit (file 0 3) 1 (stamp 1 1) [] (104 ∷ 105 ∷ [])) ∷
    at 13 (Release (epoch 2 1 1) (inst 1 4) (file 0 3) (Some (stamp 1 1))) ∷
    at 13 (Act (epoch 2 1 1) (inst 1 3) 2 (op.Insert (codes "m1.1.2") 3 kind.File) outcome.Done) ∷
    at 13 (Adopt (file 0 3) 2 (stamp 1 1)) ∷
    at 13 (Commit (file 0 2) 1 (stamp 1 2) ((stamp 1 1) ∷ []) (6 ∷ 109 ∷ 49 ∷ 46 ∷ 49 ∷ 46 ∷ 50 ∷ 0 ∷ 3 ∷ 1 ∷ 0 ∷ 0 ∷ 0 ∷ 1 ∷ [])) ∷
    at 13 (Release (epoch 2 1 1) (inst 1 3) (file 0 2) (Some (stamp 1 2))) ∷
    at 13 (Answer 1 1 (caller 1 1 2) (reply.Names ((codes "m1.1.2") ∷ []))) ∷
    at 13 (Adopt (file 0 2) 2 (stamp 1 2)) ∷
    at 14 (Accept 3 1 (caller 3 1 1) (call.Mail (codes "/box") (121 ∷ []))) ∷
    at 15 (Look (epoch 2 3 1) (caller 3 1 1) 1 (file 0 1) (what.Name (codes "box")) (served.At (stamp 1 1))) ∷
    at 15 (Grant (epoch 2 3 1) (caller 3 1 1) 2 (inst 3 1) mode.Write (file 0 2) (Some (stamp 1 1)) 3) ∷
    at 15 (Act (epoch 2 3 1) (inst 3 1) 1 (op.Probe (codes "m3.1.1")) outcome.Done) ∷
    at 15 (Grant (epoch 2 3 1) (caller 3 1 1) 4 (inst 3 2) mode.Make (file 0 129) None 3) ∷
    at 15 (Act (epoch 2 3 1) (inst 3 2) 1 (op.Write 0 (121 ∷ [])) outcome.Done) ∷
    at 15 (Commit (file 0 129) 3 (stamp 3 1) [] (121 ∷ [])) ∷
    at 15 (Release (epoch 2 3 1) (inst 3 2) (file 0 129) (Some (stamp 3 1))) ∷
    at 15 (Act (epoch 2 3 1) (inst 3 1) 2 (op.Insert (codes "m3.1.1") 129 kind.File) outcome.Done) ∷
    at 15 (Commit (file 0 2) 3 (stamp 3 1) ((stamp 1 1) ∷ []) (6 ∷ 109 ∷ 51 ∷ 46 ∷ 49 ∷ 46 ∷ 49 ∷ 0 ∷ 129 ∷ 1 ∷ 0 ∷ 0 ∷ 0 ∷ 1 ∷ [])) ∷
    at 15 (Release (epoch 2 3 1) (inst 3 1) (file 0 2) (Some (stamp 3 1))) ∷
    at 15 (Answer 3 1 (caller 3 1 1) (reply.Names ((codes "m3.1.1") ∷ []))) ∷
    at 18 (Leave 1 (epoch 2 1 1)) ∷
    at 19 (Leave 2 (epoch 2 1 1)) ∷
    at 19 (Leave 3 (epoch 2 3 1)) ∷
    at 19 (Join 1 (epoch 3 1 1) (members (1 ∷ 1 ∷ 1 ∷ []))) ∷
    at 19 (Join 2 (epoch 3 1 1) (members (1 ∷ 1 ∷ 1 ∷ []))) ∷
    at 19 (Join 3 (epoch 3 1 1) (members (1 ∷ 1 ∷ 1 ∷ []))) ∷
    at 19 (Start (epoch 3 1 1) 0 (brought 1 (stamp 1 1) ∷ brought 2 (stamp 1 2) ∷ brought 2 (stamp 3 1) ∷ brought 3 (stamp 1 1) ∷ brought 129 (stamp 3 1) ∷ [])) ∷
    at 19 (Accept 1 0 (caller 1 1 3) (call.Mend (file 0 2))) ∷
    at 19 (Grant (epoch 3 1 1) (caller 1 1 3) 1 (inst 1 5) mode.Mend (file 0 2) (Some (stamp 1 2)) 1) ∷
    at 19 (Adopt (file 0 129) 1 (stamp 3 1)) ∷
    at 19 (Adopt (file 0 129) 2 (stamp 3 1)) ∷
    at 19 (Adopt (file 0 3) 3 (stamp 1 1)) ∷
    at 19 (Look (epoch 3 1 1) (caller 1 1 3) 2 (file 0 2) (what.Whole (stamp 1 2)) (served.At (stamp 1 2))) ∷
    at 19 (Look (epoch 3 1 1) (caller 1 1 3) 3 (file 0 2) (what.Whole (stamp 3 1)) (served.At (stamp 3 1))) ∷
    at 19 (Act (epoch 3 1 1) (inst 1 5) 1 op.Mend outcome.Done) ∷
    at 19 (Commit (file 0 2) 1 (stamp 1 3) ((stamp 1 2) ∷ (stamp 3 1) ∷ []) (6 ∷ 109 ∷ 49 ∷ 46 ∷ 49 ∷ 46 ∷ 50 ∷ 0 ∷ 3 ∷ 1 ∷ 0 ∷ 0 ∷ 0 ∷ 1 ∷ 6 ∷ 109 ∷ 51 ∷ 46 ∷ 49 ∷ 46 ∷ 49 ∷ 0 ∷ 129 ∷ 1 ∷ 0 ∷ 0 ∷ 0 ∷ 1 ∷ [])) ∷
    at 19 (Release (epoch 3 1 1) (inst 1 5) (file 0 2) (Some (stamp 1 3))) ∷
    at 19 (Answer 1 0 (caller 1 1 3) (reply.Closed (Some (stamp 1 3)))) ∷
    at 19 (Adopt (file 0 2) 2 (stamp 1 3)) ∷
    at 19 (Adopt (file 0 2) 3 (stamp 1 3)) ∷
    at 20 (Accept 2 1 (caller 2 1 1) (call.Mails (codes "/box"))) ∷
    at 21 (Look (epoch 3 1 1) (caller 2 1 1) 1 (file 0 1) (what.Name (codes "box")) (served.At (stamp 1 1))) ∷
    at 21 (Look (epoch 3 1 1) (caller 2 1 1) 2 (file 0 2) what.List (served.At (stamp 1 3))) ∷
    at 21 (Answer 2 1 (caller 2 1 1) (reply.Names ((codes "m1.1.2") ∷ (codes "m3.1.1") ∷ []))) ∷
    at 24 (Leave 1 (epoch 3 1 1)) ∷
    at 25 (Leave 3 (epoch 3 1 1)) ∷
    at 25 (Join 3 (epoch 4 3 1) (members (0 ∷ 0 ∷ 1 ∷ []))) ∷
    at 26 (Leave 2 (epoch 3 1 1)) ∷
    at 26 (Start (epoch 4 3 1) 0 (brought 1 (stamp 1 1) ∷ brought 2 (stamp 1 3) ∷ brought 3 (stamp 1 1) ∷ brought 129 (stamp 3 1) ∷ [])) ∷
    at 26 (Join 1 (epoch 4 1 1) (members (1 ∷ 1 ∷ []))) ∷
    at 26 (Join 2 (epoch 4 1 1) (members (1 ∷ 1 ∷ []))) ∷
    at 26 (Start (epoch 4 1 1) 0 (brought 1 (stamp 1 1) ∷ brought 2 (stamp 1 3) ∷ brought 3 (stamp 1 1) ∷ brought 129 (stamp 3 1) ∷ [])) ∷
    at 27 (Accept 1 1 (caller 1 1 4) (call.Unlink (codes "/box/m3.1.1"))) ∷
    at 28 (Look (epoch 4 1 1) (caller 1 1 4) 1 (file 0 1) (what.Name (codes "box")) (served.At (stamp 1 1))) ∷
    at 28 (Grant (epoch 4 1 1) (caller 1 1 4) 2 (inst 1 6) mode.Write (file 0 2) (Some (stamp 1 3)) 1) ∷
    at 28 (Act (epoch 4 1 1) (inst 1 6) 1 (op.Find (codes "m3.1.1")) (outcome.Found 129 kind.File)) ∷
    at 28 (Grant (epoch 4 1 1) (caller 1 1 4) 4 (inst 1 7) mode.Write (file 0 129) (Some (stamp 3 1)) 1) ∷
    at 28 (Act (epoch 4 1 1) (inst 1 6) 2 (op.Remove (codes "m3.1.1") 129) outcome.Done) ∷
    at 28 (Commit (file 0 2) 1 (stamp 1 4) ((stamp 1 3) ∷ []) (6 ∷ 109 ∷ 49 ∷ 46 ∷ 49 ∷ 46 ∷ 50 ∷ 0 ∷ 3 ∷ 1 ∷ 0 ∷ 0 ∷ 0 ∷ 1 ∷ 6 ∷ 109 ∷ 51 ∷ 46 ∷ 49 ∷ 46 ∷ 49 ∷ 0 ∷ 129 ∷ 1 ∷ 0 ∷ 0 ∷ 0 ∷ 2 ∷ 0 ∷ 0 ∷ 0 ∷ 0 ∷ 0 ∷ 0 ∷ 0 ∷ 0 ∷ 0 ∷ 0 ∷ 0 ∷ 1 ∷ 0 ∷ 0 ∷ 0 ∷ 0 ∷ 0 ∷ 0 ∷ 0 ∷ 0 ∷ 0 ∷ 0 ∷ 0 ∷ 0 ∷ 0 ∷ 0 ∷ 0 ∷ 0 ∷ 0 ∷ 0 ∷ 0 ∷ 0 ∷ 0 ∷ 0 ∷ 0 ∷ 0 ∷ 0 ∷ 0 ∷ 0 ∷ 0 ∷ 0 ∷ 0 ∷ 0 ∷ 0 ∷ 0 ∷ 0 ∷ 0 ∷ 0 ∷ 0 ∷ 0 ∷ 0 ∷ 0 ∷ 0 ∷ 0 ∷ 0 ∷ 0 ∷ 0 ∷ 0 ∷ 0 ∷ 0 ∷ 0 ∷ 0 ∷ 0 ∷ 0 ∷ [])) ∷
    at 28 (Release (epoch 4 1 1) (inst 1 6) (file 0 2) (Some (stamp 1 4))) ∷
    at 28 (Adopt (file 0 2) 2 (stamp 1 4)) ∷
    at 28 (Release (epoch 4 1 1) (inst 1 7) (file 0 129) None) ∷
    at 28 (Answer 1 1 (caller 1 1 4) reply.Done) ∷
    at 29 (Accept 3 1 (caller 3 1 2) (call.Mail (codes "/box") (122 ∷ 122 ∷ []))) ∷
    at 30 (Look (epoch 4 3 1) (caller 3 1 2) 1 (file 0 1) (what.Name (codes "box")) (served.At (stamp 1 1))) ∷
    at 30 (Grant (epoch 4 3 1) (caller 3 1 2) 2 (inst 3 3) mode.Write (file 0 2) (Some (stamp 1 3)) 3) ∷
    at 30 (Act (epoch 4 3 1) (inst 3 3) 1 (op.Probe (codes "m3.1.2")) outcome.Done) ∷
    at 30 (Grant (epoch 4 3 1) (caller 3 1 2) 4 (inst 3 4) mode.Make (file 0 130) None 3) ∷
    at 30 (Act (epoch 4 3 1) (inst 3 4) 1 (op.Write 0 (122 ∷ 122 ∷ [])) outcome.Done) ∷
    at 30 (Commit (file 0 130) 3 (stamp 3 1) [] (122 ∷ 122 ∷ [])) ∷
    at 30 (Release (epoch 4 3 1) (inst 3 4) (file 0 130) (Some (stamp 3 1))) ∷
    at 30 (Act (epoch 4 3 1) (inst 3 3) 2 (op.Insert (codes "m3.1.2") 130 kind.File) outcome.Done) ∷
    at 30 (Commit (file 0 2) 3 (stamp 3 2) ((stamp 1 3) ∷ []) (6 ∷ 109 ∷ 49 ∷ 46 ∷ 49 ∷ 46 ∷ 50 ∷ 0 ∷ 3 ∷ 1 ∷ 0 ∷ 0 ∷ 0 ∷ 1 ∷ 6 ∷ 109 ∷ 51 ∷ 46 ∷ 49 ∷ 46 ∷ 49 ∷ 0 ∷ 129 ∷ 1 ∷ 0 ∷ 0 ∷ 0 ∷ 1 ∷ 6 ∷ 109 ∷ 51 ∷ 46 ∷ 49 ∷ 46 ∷ 50 ∷ 0 ∷ 130 ∷ 1 ∷ 0 ∷ 0 ∷ 0 ∷ 1 ∷ [])) ∷
    at 30 (Release (epoch 4 3 1) (inst 3 3) (file 0 2) (Some (stamp 3 2))) ∷
    at 30 (Answer 3 1 (caller 3 1 2) (reply.Names ((codes "m3.1.2") ∷ []))) ∷
    at 31 (Accept 3 1 (caller 3 1 3) (call.Mails (codes "/box"))) ∷
    at 32 (Look (epoch 4 3 1) (caller 3 1 3) 1 (file 0 1) (what.Name (codes "box")) (served.At (stamp 1 1))) ∷
    at 32 (Look (epoch 4 3 1) (caller 3 1 3) 2 (file 0 2) what.List (served.At (stamp 3 2))) ∷
    at 32 (Answer 3 1 (caller 3 1 3) (reply.Names ((codes "m1.1.2") ∷ (codes "m3.1.1") ∷ (codes "m3.1.2") ∷ []))) ∷
    at 33 (Accept 1 1 (caller 1 1 5) (call.Mails (codes "/box"))) ∷
    at 34 (Look (epoch 4 1 1) (caller 1 1 5) 1 (file 0 1) (what.Name (codes "box")) (served.At (stamp 1 1))) ∷
    at 34 (Look (epoch 4 1 1) (caller 1 1 5) 2 (file 0 2) what.List (served.At (stamp 1 4))) ∷
    at 34 (Answer 1 1 (caller 1 1 5) (reply.Names ((codes "m1.1.2") ∷ []))) ∷
    at 37 (Leave 1 (epoch 4 1 1)) ∷
    at 38 (Leave 2 (epoch 4 1 1)) ∷
    at 38 (Leave 3 (epoch 4 3 1)) ∷
    at 38 (Join 1 (epoch 5 1 1) (members (1 ∷ 1 ∷ 1 ∷ []))) ∷
    at 38 (Join 2 (epoch 5 1 1) (members (1 ∷ 1 ∷ 1 ∷ []))) ∷
    at 38 (Join 3 (epoch 5 1 1) (members (1 ∷ 1 ∷ 1 ∷ []))) ∷
    at 38 (Start (epoch 5 1 1) 0 (brought 1 (stamp 1 1) ∷ brought 2 (stamp 1 4) ∷ brought 2 (stamp 3 2) ∷ brought 3 (stamp 1 1) ∷ brought 129 (stamp 3 1) ∷ brought 130 (stamp 3 1) ∷ [])) ∷
    at 38 (Accept 1 0 (caller 1 1 6) (call.Mend (file 0 2))) ∷
    at 38 (Grant (epoch 5 1 1) (caller 1 1 6) 1 (inst 1 8) mode.Mend (file 0 2) (Some (stamp 1 4)) 1) ∷
    at 38 (Adopt (file 0 130) 1 (stamp 3 1)) ∷
    at 38 (Adopt (file 0 130) 2 (stamp 3 1)) ∷
    at 38 (Look (epoch 5 1 1) (caller 1 1 6) 2 (file 0 2) (what.Whole (stamp 1 4)) (served.At (stamp 1 4))) ∷
    at 38 (Look (epoch 5 1 1) (caller 1 1 6) 3 (file 0 2) (what.Whole (stamp 3 2)) (served.At (stamp 3 2))) ∷
    at 38 (Act (epoch 5 1 1) (inst 1 8) 1 op.Mend outcome.Done) ∷
    at 38 (Commit (file 0 2) 1 (stamp 1 5) ((stamp 1 4) ∷ (stamp 3 2) ∷ []) (6 ∷ 109 ∷ 49 ∷ 46 ∷ 49 ∷ 46 ∷ 50 ∷ 0 ∷ 3 ∷ 1 ∷ 0 ∷ 0 ∷ 0 ∷ 1 ∷ 6 ∷ 109 ∷ 51 ∷ 46 ∷ 49 ∷ 46 ∷ 49 ∷ 0 ∷ 129 ∷ 1 ∷ 0 ∷ 0 ∷ 0 ∷ 2 ∷ 0 ∷ 0 ∷ 0 ∷ 0 ∷ 0 ∷ 0 ∷ 0 ∷ 0 ∷ 0 ∷ 0 ∷ 0 ∷ 1 ∷ 0 ∷ 0 ∷ 0 ∷ 0 ∷ 0 ∷ 0 ∷ 0 ∷ 0 ∷ 0 ∷ 0 ∷ 0 ∷ 0 ∷ 0 ∷ 0 ∷ 0 ∷ 0 ∷ 0 ∷ 0 ∷ 0 ∷ 0 ∷ 0 ∷ 0 ∷ 0 ∷ 0 ∷ 0 ∷ 0 ∷ 0 ∷ 0 ∷ 0 ∷ 0 ∷ 0 ∷ 0 ∷ 0 ∷ 0 ∷ 0 ∷ 0 ∷ 0 ∷ 0 ∷ 0 ∷ 0 ∷ 0 ∷ 0 ∷ 0 ∷ 0 ∷ 0 ∷ 0 ∷ 0 ∷ 0 ∷ 0 ∷ 0 ∷ 0 ∷ 0 ∷ 6 ∷ 109 ∷ 51 ∷ 46 ∷ 49 ∷ 46 ∷ 50 ∷ 0 ∷ 130 ∷ 1 ∷ 0 ∷ 0 ∷ 0 ∷ 1 ∷ [])) ∷
    at 38 (Release (epoch 5 1 1) (inst 1 8) (file 0 2) (Some (stamp 1 5))) ∷
    at 38 (Answer 1 0 (caller 1 1 6) (reply.Closed (Some (stamp 1 5)))) ∷
    at 38 (Adopt (file 0 2) 2 (stamp 1 5)) ∷
    at 38 (Adopt (file 0 2) 3 (stamp 1 5)) ∷
    at 39 (Accept 2 1 (caller 2 1 2) (call.Mails (codes "/box"))) ∷
    at 40 (Look (epoch 5 1 1) (caller 2 1 2) 1 (file 0 1) (what.Name (codes "box")) (served.At (stamp 1 1))) ∷
    at 40 (Look (epoch 5 1 1) (caller 2 1 2) 2 (file 0 2) what.List (served.At (stamp 1 5))) ∷
    at 40 (Answer 2 1 (caller 2 1 2) (reply.Names ((codes "m1.1.2") ∷ (codes "m3.1.2") ∷ []))) ∷
    []

abbrev pub mail_unlinked : Sample
mail_unlinked = record { lines = mail_unlinked_lines; trace = mail_unlinked_trace }
