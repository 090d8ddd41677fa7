-- Both sides of a cut make a file of one name. When they meet, the system joins the directories, and both files stay.
use Rattle.std.specs.Prelude.{List, [], ◌∷◌, None, Some, codes}
use Rattle.locus_ids.specs.declared.ids.Kind.TheVariants as kind
use Rattle.locus_ids.specs.declared.ids.Mode.TheVariants as mode
use Rattle.locus_ids.specs.declared.refusal.Refusal.TheVariants as refusal
use Rattle.trace_book.specs.declared.call.Call.TheVariants as call
use Rattle.trace_book.specs.declared.operation.Op.TheVariants as op
use Rattle.trace_book.specs.declared.operation.Outcome.TheVariants as outcome
use Rattle.trace_book.specs.declared.operation.What.TheVariants as what
use Rattle.trace_book.specs.declared.operation.Served.TheVariants as served
use Rattle.trace_book.specs.declared.reply.Reply.TheVariants as reply
use Rattle.schedule_lines.specs.declared.header.HeaderLine.TheVariants as header
use Rattle.schedule_lines.specs.declared.line.Line.TheVariants as line
use Rattle.trace_book.specs.declared.record.Record.TheVariants.{Leave, Join, Start, Accept, Look, Grant, Act, Commit, Release, Adopt, Answer}
use Rattle.trace_book.specs.declared.entry.Entry.{Entry}
use Rattle.schedule_lines.specs.declared.line.ScheduleLine.{ScheduleLine}
use Rattle.schedule_lines.specs.declared.line.ScheduleLine.TheVariants.{Passed, Header, Event}
use Rattle.promise_samples.specs.Examples.{Example}
use Rattle.lawful_trace.specs.Samples.{at, epoch, caller, inst, file, stamp, brought, members}

abbrev directories_meet_lines : List ScheduleLine
directories_meet_lines =
    Passed ∷
    Header (header.Sites 3) ∷
    Header (header.Group 0 (record { 0 = 7 })) ∷
    Passed ∷
    Event (line.Down 1 3) ∷
    Event (line.Down 2 3) ∷
    Event (line.Merge 1) ∷
    Event (line.Merge 3) ∷
    Event (line.Settle 1000) ∷
    Event (line.Call 1 1 (call.Create (codes "/n") None)) ∷
    Event (line.Settle 1000) ∷
    Event (line.Call 3 1 (call.Create (codes "/n") None)) ∷
    Event (line.Settle 1000) ∷
    Passed ∷
    Event (line.Up 1 3) ∷
    Event (line.Up 2 3) ∷
    Event (line.Merge 1) ∷
    Event (line.Settle 1000) ∷
    Passed ∷
    Event (line.Call 2 1 (call.List (codes "/"))) ∷
    Event (line.Settle 1000) ∷
    Passed ∷
    Event (line.Call 2 1 (call.Stat (codes "/n"))) ∷
    Event (line.Settle 1000) ∷
    Event (line.Call 2 1 (call.Stat (codes "/n@129"))) ∷
    Event (line.Settle 1000) ∷
    []

abbrev directories_meet_trace : List Entry
directories_meet_trace =
    at 8 (Join 3 (epoch 1 3 1) (members (0 ∷ 0 ∷ 1 ∷ []))) ∷
    at 9 (Start (epoch 1 3 1) 0 (brought 1 (stamp 0 0) ∷ [])) ∷
    at 9 (Join 1 (epoch 1 1 1) (members (1 ∷ 1 ∷ []))) ∷
    at 9 (Join 2 (epoch 1 1 1) (members (1 ∷ 1 ∷ []))) ∷
    at 9 (Start (epoch 1 1 1) 0 (brought 1 (stamp 0 0) ∷ [])) ∷
    at 10 (Accept 1 1 (caller 1 1 1) (call.Create (codes "/n") None)) ∷
    at 11 (Grant (epoch 1 1 1) (caller 1 1 1) 1 (inst 1 1) mode.Write (file 0 1) (Some (stamp 0 0)) 1) ∷
    at 11 (Act (epoch 1 1 1) (inst 1 1) 1 (op.Probe (codes "n")) outcome.Done) ∷
    at 11 (Grant (epoch 1 1 1) (caller 1 1 1) 3 (inst 1 2) mode.Make (file 0 2) None 1) ∷
    at 11 (Commit (file 0 2) 1 (stamp 1 1) [] []) ∷
    at 11 (Release (epoch 1 1 1) (inst 1 2) (file 0 2) (Some (stamp 1 1))) ∷
    at 11 (Adopt (file 0 2) 2 (stamp 1 1)) ∷
    at 11 (Act (epoch 1 1 1) (inst 1 1) 2 (op.Insert (codes "n") 2 kind.File) outcome.Done) ∷
    at 11 (Commit (file 0 1) 1 (stamp 1 1) ((stamp 0 0) ∷ []) (1 ∷ 110 ∷ 0 ∷ 2 ∷ 1 ∷ 0 ∷ 0 ∷ 0 ∷ 1 ∷ [])) ∷
    at 11 (Release (epoch 1 1 1) (inst 1 1) (file 0 1) (Some (stamp 1 1))) ∷
    at 11 (Answer 1 1 (caller 1 1 1) (reply.Made 2)) ∷
    at 11 (Adopt (file 0 1) 2 (stamp 1 1)) ∷
    at 12 (Accept 3 1 (caller 3 1 1) (call.Create (codes "/n") None)) ∷
    at 13 (Grant (epoch 1 3 1) (caller 3 1 1) 1 (inst 3 1) mode.Write (file 0 1) (Some (stamp 0 0)) 3) ∷
    at 13 (Act (epoch 1 3 1) (inst 3 1) 1 (op.Probe (codes "n")) outcome.Done) ∷
    at 13 (Grant (epoch 1 3 1) (caller 3 1 1) 3 (inst 3 2) mode.Make (file 0 129) None 3) ∷
    at 13 (Commit (file 0 129) 3 (stamp 3 1) [] []) ∷
    at 13 (Release (epoch 1 3 1) (inst 3 2) (file 0 129) (Some (stamp 3 1))) ∷
    at 13 (Act (epoch 1 3 1) (inst 3 1) 2 (op.Insert (codes "n") 129 kind.File) outcome.Done) ∷
    at 13 (Commit (file 0 1) 3 (stamp 3 1) ((stamp 0 0) ∷ []) (1 ∷ 110 ∷ 0 ∷ 129 ∷ 1 ∷ 0 ∷ 0 ∷ 0 ∷ 1 ∷ [])) ∷
    at 13 (Release (epoch 1 3 1) (inst 3 1) (file 0 1) (Some (stamp 3 1))) ∷
    at 13 (Answer 3 1 (caller 3 1 1) (reply.Made 129)) ∷
    at 17 (Leave 1 (epoch 1 1 1)) ∷
    at 18 (Leave 2 (epoch 1 1 1)) ∷
    at 18 (Leave 3 (epoch 1 3 1)) ∷
    at 18 (Join 1 (epoch 2 1 1) (members (1 ∷ 1 ∷ 1 ∷ []))) ∷
    at 18 (Join 2 (epoch 2 1 1) (members (1 ∷ 1 ∷ 1 ∷ []))) ∷
    at 18 (Join 3 (epoch 2 1 1) (members (1 ∷ 1 ∷ 1 ∷ []))) ∷
    at 18 (Start (epoch 2 1 1) 0 (brought 1 (stamp 1 1) ∷ brought 1 (stamp 3 1) ∷ brought 2 (stamp 1 1) ∷ brought 129 (stamp 3 1) ∷ [])) ∷
    at 18 (Accept 1 0 (caller 1 1 2) (call.Mend (file 0 1))) ∷
    at 18 (Grant (epoch 2 1 1) (caller 1 1 2) 1 (inst 1 3) mode.Mend (file 0 1) (Some (stamp 1 1)) 1) ∷
    at 18 (Adopt (file 0 129) 1 (stamp 3 1)) ∷
    at 18 (Adopt (file 0 129) 2 (stamp 3 1)) ∷
    at 18 (Adopt (file 0 2) 3 (stamp 1 1)) ∷
    at 18 (Look (epoch 2 1 1) (caller 1 1 2) 2 (file 0 1) (what.Whole (stamp 1 1)) (served.At (stamp 1 1))) ∷
    at 18 (Look (epoch 2 1 1) (caller 1 1 2) 3 (file 0 1) (what.Whole (stamp 3 1)) (served.At (stamp 3 1))) ∷
    at 18 (Act (epoch 2 1 1) (inst 1 3) 1 op.Mend outcome.Done) ∷
    at 18 (Commit (file 0 1) 1 (stamp 1 2) ((stamp 1 1) ∷ (stamp 3 1) ∷ []) (1 ∷ 110 ∷ 0 ∷ 2 ∷ 1 ∷ 0 ∷ 0 ∷ 0 ∷ 1 ∷ 1 ∷ 110 ∷ 0 ∷ 129 ∷ 1 ∷ 0 ∷ 0 ∷ 0 ∷ 1 ∷ [])) ∷
    at 18 (Release (epoch 2 1 1) (inst 1 3) (file 0 1) (Some (stamp 1 2))) ∷
    at 18 (Answer 1 0 (caller 1 1 2) (reply.Closed (Some (stamp 1 2)))) ∷
    at 18 (Adopt (file 0 1) 2 (stamp 1 2)) ∷
    at 18 (Adopt (file 0 1) 3 (stamp 1 2)) ∷
    at 20 (Accept 2 1 (caller 2 1 1) (call.List (codes "/"))) ∷
    at 21 (Look (epoch 2 1 1) (caller 2 1 1) 1 (file 0 1) what.List (served.At (stamp 1 2))) ∷
    at 21 (Answer 2 1 (caller 2 1 1) (reply.Names ((codes "n@2") ∷ (codes "n@129") ∷ []))) ∷
    at 23 (Accept 2 1 (caller 2 1 2) (call.Stat (codes "/n"))) ∷
    at 24 (Look (epoch 2 1 1) (caller 2 1 2) 1 (file 0 1) (what.Name (codes "n")) (served.At (stamp 1 2))) ∷
    at 24 (Answer 2 1 (caller 2 1 2) (reply.No (refusal.Ambiguous 2 129))) ∷
    at 25 (Accept 2 1 (caller 2 1 3) (call.Stat (codes "/n@129"))) ∷
    at 26 (Look (epoch 2 1 1) (caller 2 1 3) 1 (file 0 1) (what.Name (codes "n@129")) (served.At (stamp 1 2))) ∷
    at 26 (Look (epoch 2 1 1) (caller 2 1 3) 2 (file 0 129) what.Stat (served.At (stamp 3 1))) ∷
    at 26 (Answer 2 1 (caller 2 1 3) (reply.Stat kind.File (file 0 129) 0 (stamp 3 1))) ∷
    []

abbrev pub directories_meet : Example
directories_meet = record { lines = directories_meet_lines; trace = directories_meet_trace }
