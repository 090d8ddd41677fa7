-- Two sites part and write one file beside each other. Then they merge, and its open is refused as a conflict.
use Rattle.std.specs.Prelude.{List, [], ◌∷◌, None, Some, codes}
use Rattle.locus_ids.specs.declared.ids.Kind.TheVariants as kind
use Rattle.locus_ids.specs.declared.ids.Mode.TheVariants as mode
use Rattle.locus_ids.specs.declared.refusal.Refusal.TheVariants as refusal
use Rattle.trace_book.specs.declared.call.Call.TheVariants as call
use Rattle.trace_book.specs.declared.call.OpenMode.TheVariants as how
use Rattle.trace_book.specs.declared.operation.Op.TheVariants as op
use Rattle.trace_book.specs.declared.operation.Outcome.TheVariants as outcome
use Rattle.trace_book.specs.declared.operation.What.TheVariants as what
use Rattle.trace_book.specs.declared.operation.Served.TheVariants as served
use Rattle.trace_book.specs.declared.reply.Reply.TheVariants as reply
use Rattle.trace_book.specs.declared.record.Record.TheVariants.{Leave, Join, Start, Accept, Look, Grant, Refuse, Act, Commit, Release, Adopt, Answer}
use Rattle.schedule_lines.specs.declared.header.HeaderLine.TheVariants as header
use Rattle.schedule_lines.specs.declared.line.Line.TheVariants as line
use Rattle.schedule_lines.specs.declared.line.ScheduleLine.{ScheduleLine}
use Rattle.schedule_lines.specs.declared.line.ScheduleLine.TheVariants.{Header, Event}
use Rattle.tree_model.specs.Folds.{Trace}
use Rattle.lawful_trace.specs.Samples.{Sample, at, epoch, caller, inst, file, stamp, brought, members}

abbrev pub flagged_lines : List ScheduleLine
flagged_lines =
    Header (header.Sites 2) ∷
    Header (header.Group 0 (record { 0 = 3 })) ∷
    Event (line.Merge 1) ∷
    Event (line.Settle 1000) ∷
    Event (line.Call 1 1 (call.Create (codes "/a") None)) ∷
    Event (line.Settle 1000) ∷
    Event (line.Down 1 2) ∷
    Event (line.Part 1) ∷
    Event (line.Part 2) ∷
    Event (line.Settle 1000) ∷
    Event (line.Call 1 1 (call.Open (codes "/a") how.Write)) ∷
    Event (line.Call 2 1 (call.Open (codes "/a") how.Write)) ∷
    Event (line.Settle 1000) ∷
    Event (line.Call 1 1 (call.Write 0 0 (97 ∷ []))) ∷
    Event (line.Call 2 1 (call.Write 0 0 (98 ∷ []))) ∷
    Event (line.Settle 1000) ∷
    Event (line.Call 1 1 (call.Close 0)) ∷
    Event (line.Call 2 1 (call.Close 0)) ∷
    Event (line.Settle 1000) ∷
    Event (line.Up 1 2) ∷
    Event (line.Merge 1) ∷
    Event (line.Settle 1000) ∷
    Event (line.Call 1 1 (call.Open (codes "/a") how.Read)) ∷
    Event (line.Settle 1000) ∷
    []

-- the latest record first
abbrev pub flagged_trace : Trace
flagged_trace =
    at 24 (Answer 1 1 (caller 1 1 5) (reply.No (refusal.Conflict (stamp 1 2) (stamp 2 1)))) ∷
    at 24 (Refuse (epoch 3 1 1) (caller 1 1 5) 2 (inst 1 4) mode.Read (file 0 2) (refusal.Conflict (stamp 1 2) (stamp 2 1))) ∷
    at 24 (Look (epoch 3 1 1) (caller 1 1 5) 1 (file 0 1) (what.Name (codes "a")) (served.At (stamp 1 1))) ∷
    at 23 (Accept 1 1 (caller 1 1 5) (call.Open (codes "/a") how.Read)) ∷
    at 22 (Start (epoch 3 1 1) 0 (brought 1 (stamp 1 1) ∷ brought 2 (stamp 1 2) ∷ brought 2 (stamp 2 1) ∷ [])) ∷
    at 22 (Join 2 (epoch 3 1 1) (members (1 ∷ 1 ∷ []))) ∷
    at 22 (Join 1 (epoch 3 1 1) (members (1 ∷ 1 ∷ []))) ∷
    at 22 (Leave 2 (epoch 2 2 1)) ∷
    at 21 (Leave 1 (epoch 2 1 1)) ∷
    at 19 (Answer 2 1 (caller 2 1 3) (reply.Closed (Some (stamp 2 1)))) ∷
    at 19 (Answer 1 1 (caller 1 1 4) (reply.Closed (Some (stamp 1 2)))) ∷
    at 19 (Release (epoch 2 2 1) (inst 2 1) (file 0 2) (Some (stamp 2 1))) ∷
    at 19 (Release (epoch 2 1 1) (inst 1 3) (file 0 2) (Some (stamp 1 2))) ∷
    at 19 (Commit (file 0 2) 2 (stamp 2 1) ((stamp 1 1) ∷ []) (98 ∷ [])) ∷
    at 19 (Commit (file 0 2) 1 (stamp 1 2) ((stamp 1 1) ∷ []) (97 ∷ [])) ∷
    at 18 (Accept 2 1 (caller 2 1 3) (call.Close 0)) ∷
    at 17 (Accept 1 1 (caller 1 1 4) (call.Close 0)) ∷
    at 16 (Answer 2 1 (caller 2 1 2) reply.Done) ∷
    at 16 (Answer 1 1 (caller 1 1 3) reply.Done) ∷
    at 16 (Act (epoch 2 2 1) (inst 2 1) 1 (op.Write 0 (98 ∷ [])) outcome.Done) ∷
    at 16 (Act (epoch 2 1 1) (inst 1 3) 1 (op.Write 0 (97 ∷ [])) outcome.Done) ∷
    at 15 (Accept 2 1 (caller 2 1 2) (call.Write 0 0 (98 ∷ []))) ∷
    at 14 (Accept 1 1 (caller 1 1 3) (call.Write 0 0 (97 ∷ []))) ∷
    at 13 (Answer 2 1 (caller 2 1 1) (reply.Opened 0)) ∷
    at 13 (Answer 1 1 (caller 1 1 2) (reply.Opened 0)) ∷
    at 13 (Grant (epoch 2 2 1) (caller 2 1 1) 2 (inst 2 1) mode.Write (file 0 2) (Some (stamp 1 1)) 2) ∷
    at 13 (Grant (epoch 2 1 1) (caller 1 1 2) 2 (inst 1 3) mode.Write (file 0 2) (Some (stamp 1 1)) 1) ∷
    at 13 (Look (epoch 2 2 1) (caller 2 1 1) 1 (file 0 1) (what.Name (codes "a")) (served.At (stamp 1 1))) ∷
    at 13 (Look (epoch 2 1 1) (caller 1 1 2) 1 (file 0 1) (what.Name (codes "a")) (served.At (stamp 1 1))) ∷
    at 12 (Accept 2 1 (caller 2 1 1) (call.Open (codes "/a") how.Write)) ∷
    at 11 (Accept 1 1 (caller 1 1 2) (call.Open (codes "/a") how.Write)) ∷
    at 10 (Start (epoch 2 2 1) 0 (brought 1 (stamp 1 1) ∷ brought 2 (stamp 1 1) ∷ [])) ∷
    at 10 (Start (epoch 2 1 1) 0 (brought 1 (stamp 1 1) ∷ brought 2 (stamp 1 1) ∷ [])) ∷
    at 9 (Join 2 (epoch 2 2 1) (members (0 ∷ 1 ∷ []))) ∷
    at 9 (Leave 2 (epoch 1 1 1)) ∷
    at 8 (Join 1 (epoch 2 1 1) (members (1 ∷ []))) ∷
    at 8 (Leave 1 (epoch 1 1 1)) ∷
    at 6 (Adopt (file 0 1) 2 (stamp 1 1)) ∷
    at 6 (Answer 1 1 (caller 1 1 1) (reply.Made 2)) ∷
    at 6 (Release (epoch 1 1 1) (inst 1 1) (file 0 1) (Some (stamp 1 1))) ∷
    at 6 (Commit (file 0 1) 1 (stamp 1 1) ((stamp 0 0) ∷ []) (1 ∷ 97 ∷ 0 ∷ 2 ∷ 1 ∷ 0 ∷ 0 ∷ 0 ∷ 1 ∷ [])) ∷
    at 6 (Act (epoch 1 1 1) (inst 1 1) 2 (op.Insert (codes "a") 2 kind.File) outcome.Done) ∷
    at 6 (Adopt (file 0 2) 2 (stamp 1 1)) ∷
    at 6 (Release (epoch 1 1 1) (inst 1 2) (file 0 2) (Some (stamp 1 1))) ∷
    at 6 (Commit (file 0 2) 1 (stamp 1 1) [] []) ∷
    at 6 (Grant (epoch 1 1 1) (caller 1 1 1) 3 (inst 1 2) mode.Make (file 0 2) None 1) ∷
    at 6 (Act (epoch 1 1 1) (inst 1 1) 1 (op.Probe (codes "a")) outcome.Done) ∷
    at 6 (Grant (epoch 1 1 1) (caller 1 1 1) 1 (inst 1 1) mode.Write (file 0 1) (Some (stamp 0 0)) 1) ∷
    at 5 (Accept 1 1 (caller 1 1 1) (call.Create (codes "/a") None)) ∷
    at 4 (Start (epoch 1 1 1) 0 (brought 1 (stamp 0 0) ∷ [])) ∷
    at 4 (Join 2 (epoch 1 1 1) (members (1 ∷ 1 ∷ []))) ∷
    at 4 (Join 1 (epoch 1 1 1) (members (1 ∷ 1 ∷ []))) ∷
    []

abbrev pub flagged_run : Sample
flagged_run = record { lines = flagged_lines; trace = flagged_trace }
