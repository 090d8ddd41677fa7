-- A reader that stays with its version through a cut, the case held-through-a-cut-then-another-version: site 2 opens a file steadily and reads it;
-- it is cut off and reads on, by an instance of its new epoch; then the groups meet, the file is changed, and the next read is told that it
-- is stale. `tools/sample-trace` writes the values.
use Rattle.std.specs.Prelude.{List, [], ◌∷◌, None, Some, codes}
use Rattle.locus_ids.specs.declared.ids.Kind.TheVariants as kind
use Rattle.locus_ids.specs.declared.ids.Mode.TheVariants as mode
use Rattle.locus_ids.specs.declared.refusal.Refusal.TheVariants as refusal
use Rattle.trace_book.specs.declared.call.Call.TheVariants as call
use Rattle.trace_book.specs.declared.call.OpenMode.TheVariants as how
use Rattle.trace_book.specs.declared.operation.Op.TheVariants as op
use Rattle.trace_book.specs.declared.operation.Outcome.TheVariants as outcome
use Rattle.trace_book.specs.declared.operation.What.TheVariants as what
use Rattle.trace_book.specs.declared.operation.Served.TheVariants as served
use Rattle.trace_book.specs.declared.reply.Reply.TheVariants as reply
use Rattle.schedule_lines.specs.declared.header.HeaderLine.TheVariants as header
use Rattle.schedule_lines.specs.declared.line.Line.TheVariants as line
use Rattle.trace_book.specs.declared.record.Record.TheVariants.{Leave, Join, Start, Accept, Look, Grant, Refuse, Act, Commit, Release, Adopt, Answer}
use Rattle.trace_book.specs.declared.entry.Entry.{Entry}
use Rattle.schedule_lines.specs.declared.line.ScheduleLine.{ScheduleLine}
use Rattle.schedule_lines.specs.declared.line.ScheduleLine.TheVariants.{Header, Event}
use Rattle.steady_samples.specs.Judged.{Sample}
use Rattle.lawful_trace.specs.Samples.{at, epoch, caller, inst, file, stamp, brought, members}

abbrev held_lines : List ScheduleLine
held_lines =
    Header (header.Sites 3) ∷
    Header (header.Group 0 (record { 0 = 7 })) ∷
    Event (line.Merge 1) ∷
    Event (line.Settle 1000) ∷
    Event (line.Call 1 1 (call.Create (codes "/f") None)) ∷
    Event (line.Settle 1000) ∷
    Event (line.Call 1 1 (call.Open (codes "/f") how.Write)) ∷
    Event (line.Settle 1000) ∷
    Event (line.Call 1 1 (call.Write 0 0 (97 ∷ []))) ∷
    Event (line.Settle 1000) ∷
    Event (line.Call 1 1 (call.Close 0)) ∷
    Event (line.Settle 1000) ∷
    Event (line.Call 2 1 (call.Open (codes "/f") how.Steady)) ∷
    Event (line.Settle 1000) ∷
    Event (line.Call 2 1 (call.Read 0 0 9)) ∷
    Event (line.Settle 1000) ∷
    Event (line.Down 1 3) ∷
    Event (line.Down 2 3) ∷
    Event (line.Part 1) ∷
    Event (line.Part 3) ∷
    Event (line.Settle 1000) ∷
    Event (line.Call 2 1 (call.Read 0 0 9)) ∷
    Event (line.Settle 1000) ∷
    Event (line.Call 1 1 (call.Open (codes "/f") how.Write)) ∷
    Event (line.Settle 1000) ∷
    Event (line.Up 1 3) ∷
    Event (line.Up 2 3) ∷
    Event (line.Merge 1) ∷
    Event (line.Settle 1000) ∷
    Event (line.Call 1 1 (call.Open (codes "/f") how.Write)) ∷
    Event (line.Settle 1000) ∷
    Event (line.Call 1 1 (call.Write 0 0 (98 ∷ []))) ∷
    Event (line.Settle 1000) ∷
    Event (line.Call 1 1 (call.Close 0)) ∷
    Event (line.Settle 1000) ∷
    Event (line.Call 2 1 (call.Read 0 0 9)) ∷
    Event (line.Settle 1000) ∷
    Event (line.Call 2 1 (call.Write 0 0 (97 ∷ []))) ∷
    Event (line.Settle 1000) ∷
    Event (line.Call 2 1 (call.Close 0)) ∷
    Event (line.Settle 1000) ∷
    []

abbrev held_trace : List Entry
held_trace =
    at 4 (Join 1 (epoch 1 1 1) (members (1 ∷ 1 ∷ 1 ∷ []))) ∷
    at 4 (Join 2 (epoch 1 1 1) (members (1 ∷ 1 ∷ 1 ∷ []))) ∷
    at 4 (Join 3 (epoch 1 1 1) (members (1 ∷ 1 ∷ 1 ∷ []))) ∷
    at 4 (Start (epoch 1 1 1) 0 (brought 1 (stamp 0 0) ∷ [])) ∷
    at 5 (Accept 1 1 (caller 1 1 1) (call.Create (codes "/f") None)) ∷
    at 6 (Grant (epoch 1 1 1) (caller 1 1 1) 1 (inst 1 1) mode.Write (file 0 1) (Some (stamp 0 0)) 1) ∷
    at 6 (Act (epoch 1 1 1) (inst 1 1) 1 (op.Probe (codes "f")) outcome.Done) ∷
    at 6 (Grant (epoch 1 1 1) (caller 1 1 1) 3 (inst 1 2) mode.Make (file 0 2) None 1) ∷
    at 6 (Commit (file 0 2) 1 (stamp 1 1) [] []) ∷
    at 6 (Release (epoch 1 1 1) (inst 1 2) (file 0 2) (Some (stamp 1 1))) ∷
    at 6 (Adopt (file 0 2) 2 (stamp 1 1)) ∷
    at 6 (Adopt (file 0 2) 3 (stamp 1 1)) ∷
    at 6 (Act (epoch 1 1 1) (inst 1 1) 2 (op.Insert (codes "f") 2 kind.File) outcome.Done) ∷
    at 6 (Commit (file 0 1) 1 (stamp 1 1) ((stamp 0 0) ∷ []) (1 ∷ 102 ∷ 0 ∷ 2 ∷ 1 ∷ 0 ∷ 0 ∷ 0 ∷ 1 ∷ [])) ∷
    at 6 (Release (epoch 1 1 1) (inst 1 1) (file 0 1) (Some (stamp 1 1))) ∷
    at 6 (Answer 1 1 (caller 1 1 1) (reply.Made 2)) ∷
    at 6 (Adopt (file 0 1) 2 (stamp 1 1)) ∷
    at 6 (Adopt (file 0 1) 3 (stamp 1 1)) ∷
    at 7 (Accept 1 1 (caller 1 1 2) (call.Open (codes "/f") how.Write)) ∷
    at 8 (Look (epoch 1 1 1) (caller 1 1 2) 1 (file 0 1) (what.Name (codes "f")) (served.At (stamp 1 1))) ∷
    at 8 (Grant (epoch 1 1 1) (caller 1 1 2) 2 (inst 1 3) mode.Write (file 0 2) (Some (stamp 1 1)) 1) ∷
    at 8 (Answer 1 1 (caller 1 1 2) (reply.Opened 0)) ∷
    at 9 (Accept 1 1 (caller 1 1 3) (call.Write 0 0 (97 ∷ []))) ∷
    at 10 (Act (epoch 1 1 1) (inst 1 3) 1 (op.Write 0 (97 ∷ [])) outcome.Done) ∷
    at 10 (Answer 1 1 (caller 1 1 3) reply.Done) ∷
    at 11 (Accept 1 1 (caller 1 1 4) (call.Close 0)) ∷
    at 12 (Commit (file 0 2) 1 (stamp 1 2) ((stamp 1 1) ∷ []) (97 ∷ [])) ∷
    at 12 (Release (epoch 1 1 1) (inst 1 3) (file 0 2) (Some (stamp 1 2))) ∷
    at 12 (Answer 1 1 (caller 1 1 4) (reply.Closed (Some (stamp 1 2)))) ∷
    at 12 (Adopt (file 0 2) 2 (stamp 1 2)) ∷
    at 12 (Adopt (file 0 2) 3 (stamp 1 2)) ∷
    at 13 (Accept 2 1 (caller 2 1 1) (call.Open (codes "/f") how.Steady)) ∷
    at 14 (Look (epoch 1 1 1) (caller 2 1 1) 1 (file 0 1) (what.Name (codes "f")) (served.At (stamp 1 1))) ∷
    at 14 (Grant (epoch 1 1 1) (caller 2 1 1) 2 (inst 2 1) mode.Read (file 0 2) (Some (stamp 1 2)) 2) ∷
    at 14 (Answer 2 1 (caller 2 1 1) (reply.Opened 0)) ∷
    at 15 (Accept 2 1 (caller 2 1 2) (call.Read 0 0 9)) ∷
    at 16 (Act (epoch 1 1 1) (inst 2 1) 1 (op.Read 0 9) (outcome.Data (97 ∷ []))) ∷
    at 16 (Answer 2 1 (caller 2 1 2) (reply.Data (97 ∷ []))) ∷
    at 19 (Leave 1 (epoch 1 1 1)) ∷
    at 20 (Leave 3 (epoch 1 1 1)) ∷
    at 20 (Join 3 (epoch 2 3 1) (members (0 ∷ 0 ∷ 1 ∷ []))) ∷
    at 21 (Leave 2 (epoch 1 1 1)) ∷
    at 21 (Start (epoch 2 3 1) 0 (brought 1 (stamp 1 1) ∷ brought 2 (stamp 1 2) ∷ [])) ∷
    at 21 (Join 1 (epoch 2 1 1) (members (1 ∷ 1 ∷ []))) ∷
    at 21 (Join 2 (epoch 2 1 1) (members (1 ∷ 1 ∷ []))) ∷
    at 21 (Start (epoch 2 1 1) 0 (brought 1 (stamp 1 1) ∷ brought 2 (stamp 1 2) ∷ [])) ∷
    at 22 (Accept 2 1 (caller 2 1 3) (call.Read 0 0 9)) ∷
    at 23 (Grant (epoch 2 1 1) (caller 2 1 3) 1 (inst 2 2) mode.Read (file 0 2) (Some (stamp 1 2)) 2) ∷
    at 23 (Act (epoch 2 1 1) (inst 2 2) 1 (op.Read 0 9) (outcome.Data (97 ∷ []))) ∷
    at 23 (Answer 2 1 (caller 2 1 3) (reply.Data (97 ∷ []))) ∷
    at 24 (Accept 1 1 (caller 1 1 5) (call.Open (codes "/f") how.Write)) ∷
    at 25 (Look (epoch 2 1 1) (caller 1 1 5) 1 (file 0 1) (what.Name (codes "f")) (served.At (stamp 1 1))) ∷
    at 25 (Refuse (epoch 2 1 1) (caller 1 1 5) 2 (inst 1 4) mode.Write (file 0 2) (refusal.Busy 2 1)) ∷
    at 25 (Answer 1 1 (caller 1 1 5) (reply.No (refusal.Busy 2 1))) ∷
    at 28 (Leave 1 (epoch 2 1 1)) ∷
    at 29 (Leave 2 (epoch 2 1 1)) ∷
    at 29 (Leave 3 (epoch 2 3 1)) ∷
    at 29 (Join 1 (epoch 3 1 1) (members (1 ∷ 1 ∷ 1 ∷ []))) ∷
    at 29 (Join 2 (epoch 3 1 1) (members (1 ∷ 1 ∷ 1 ∷ []))) ∷
    at 29 (Join 3 (epoch 3 1 1) (members (1 ∷ 1 ∷ 1 ∷ []))) ∷
    at 29 (Start (epoch 3 1 1) 0 (brought 1 (stamp 1 1) ∷ brought 2 (stamp 1 2) ∷ [])) ∷
    at 30 (Accept 1 1 (caller 1 1 6) (call.Open (codes "/f") how.Write)) ∷
    at 31 (Look (epoch 3 1 1) (caller 1 1 6) 1 (file 0 1) (what.Name (codes "f")) (served.At (stamp 1 1))) ∷
    at 31 (Grant (epoch 3 1 1) (caller 1 1 6) 2 (inst 1 5) mode.Write (file 0 2) (Some (stamp 1 2)) 1) ∷
    at 31 (Answer 1 1 (caller 1 1 6) (reply.Opened 0)) ∷
    at 32 (Accept 1 1 (caller 1 1 7) (call.Write 0 0 (98 ∷ []))) ∷
    at 33 (Act (epoch 3 1 1) (inst 1 5) 1 (op.Write 0 (98 ∷ [])) outcome.Done) ∷
    at 33 (Answer 1 1 (caller 1 1 7) reply.Done) ∷
    at 34 (Accept 1 1 (caller 1 1 8) (call.Close 0)) ∷
    at 35 (Commit (file 0 2) 1 (stamp 1 3) ((stamp 1 2) ∷ []) (98 ∷ [])) ∷
    at 35 (Release (epoch 3 1 1) (inst 1 5) (file 0 2) (Some (stamp 1 3))) ∷
    at 35 (Answer 1 1 (caller 1 1 8) (reply.Closed (Some (stamp 1 3)))) ∷
    at 35 (Adopt (file 0 2) 2 (stamp 1 3)) ∷
    at 35 (Adopt (file 0 2) 3 (stamp 1 3)) ∷
    at 36 (Accept 2 1 (caller 2 1 4) (call.Read 0 0 9)) ∷
    at 37 (Grant (epoch 3 1 1) (caller 2 1 4) 1 (inst 2 3) mode.Read (file 0 2) (Some (stamp 1 3)) 2) ∷
    at 37 (Release (epoch 3 1 1) (inst 2 3) (file 0 2) None) ∷
    at 37 (Answer 2 1 (caller 2 1 4) (reply.No (refusal.Stale (epoch 2 1 1)))) ∷
    at 38 (Accept 2 1 (caller 2 1 5) (call.Write 0 0 (97 ∷ []))) ∷
    at 38 (Answer 2 1 (caller 2 1 5) (reply.No refusal.ReadOnly)) ∷
    at 40 (Accept 2 1 (caller 2 1 6) (call.Close 0)) ∷
    at 40 (Answer 2 1 (caller 2 1 6) (reply.Closed None)) ∷
    []

abbrev pub held_through_a_cut : Sample
held_through_a_cut = record { lines = held_lines; trace = held_trace }
