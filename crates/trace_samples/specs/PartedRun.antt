-- Two sites that don't reach each other make a file each. Then they merge, and the root directory is mended.
use Rattle.std.specs.Prelude.{List, [], ◌∷◌, None, Some, codes}
use Rattle.locus_ids.specs.declared.ids.Kind.TheVariants as kind
use Rattle.locus_ids.specs.declared.ids.Mode.TheVariants as mode
use Rattle.trace_book.specs.declared.call.Call.TheVariants as call
use Rattle.trace_book.specs.declared.operation.Op.TheVariants as op
use Rattle.trace_book.specs.declared.operation.Outcome.TheVariants as outcome
use Rattle.trace_book.specs.declared.operation.What.TheVariants as what
use Rattle.trace_book.specs.declared.operation.Served.TheVariants as served
use Rattle.trace_book.specs.declared.reply.Reply.TheVariants as reply
use Rattle.trace_book.specs.declared.record.Record.TheVariants.{Leave, Join, Start, Accept, Look, Grant, Act, Commit, Release, Adopt, Answer}
use Rattle.schedule_lines.specs.declared.header.HeaderLine.TheVariants as header
use Rattle.schedule_lines.specs.declared.line.Line.TheVariants as line
use Rattle.schedule_lines.specs.declared.line.ScheduleLine.{ScheduleLine}
use Rattle.schedule_lines.specs.declared.line.ScheduleLine.TheVariants.{Header, Event}
use Rattle.tree_model.specs.Folds.{Trace}
use Rattle.lawful_trace.specs.Samples.{Sample, at, epoch, caller, inst, file, stamp, brought, members}

abbrev pub parted_lines : List ScheduleLine
parted_lines =
    Header (header.Sites 2) ∷
    Header (header.Group 0 (record { 0 = 3 })) ∷
    Event (line.Down 1 2) ∷
    Event (line.Merge 1) ∷
    Event (line.Merge 2) ∷
    Event (line.Settle 1000) ∷
    Event (line.Call 1 1 (call.Create (codes "/a") None)) ∷
    Event (line.Call 2 1 (call.Create (codes "/b") None)) ∷
    Event (line.Settle 1000) ∷
    Event (line.Up 1 2) ∷
    Event (line.Merge 1) ∷
    Event (line.Settle 1000) ∷
    []

-- the latest record first
abbrev pub parted_trace : Trace
parted_trace =
    at 12 (Adopt (file 0 1) 2 (stamp 1 2)) ∷
    at 12 (Answer 1 0 (caller 1 1 2) (reply.Closed (Some (stamp 1 2)))) ∷
    at 12 (Release (epoch 2 1 1) (inst 1 3) (file 0 1) (Some (stamp 1 2))) ∷
    at 12 (Commit (file 0 1) 1 (stamp 1 2) ((stamp 1 1) ∷ (stamp 2 1) ∷ []) (1 ∷ 97 ∷ 0 ∷ 2 ∷ 1 ∷ 0 ∷ 0 ∷ 0 ∷ 1 ∷ 1 ∷ 98 ∷ 0 ∷ 65 ∷ 1 ∷ 0 ∷ 0 ∷ 0 ∷ 1 ∷ [])) ∷
    at 12 (Act (epoch 2 1 1) (inst 1 3) 1 op.Mend outcome.Done) ∷
    at 12 (Look (epoch 2 1 1) (caller 1 1 2) 3 (file 0 1) (what.Whole (stamp 2 1)) (served.At (stamp 2 1))) ∷
    at 12 (Look (epoch 2 1 1) (caller 1 1 2) 2 (file 0 1) (what.Whole (stamp 1 1)) (served.At (stamp 1 1))) ∷
    at 12 (Adopt (file 0 2) 2 (stamp 1 1)) ∷
    at 12 (Adopt (file 0 65) 1 (stamp 2 1)) ∷
    at 12 (Grant (epoch 2 1 1) (caller 1 1 2) 1 (inst 1 3) mode.Mend (file 0 1) (Some (stamp 1 1)) 1) ∷
    at 12 (Accept 1 0 (caller 1 1 2) (call.Mend (file 0 1))) ∷
    at 12 (Start (epoch 2 1 1) 0 (brought 1 (stamp 1 1) ∷ brought 1 (stamp 2 1) ∷ brought 2 (stamp 1 1) ∷ brought 65 (stamp 2 1) ∷ [])) ∷
    at 12 (Join 2 (epoch 2 1 1) (members (1 ∷ 1 ∷ []))) ∷
    at 12 (Join 1 (epoch 2 1 1) (members (1 ∷ 1 ∷ []))) ∷
    at 12 (Leave 2 (epoch 1 2 1)) ∷
    at 11 (Leave 1 (epoch 1 1 1)) ∷
    at 9 (Answer 2 1 (caller 2 1 1) (reply.Made 65)) ∷
    at 9 (Answer 1 1 (caller 1 1 1) (reply.Made 2)) ∷
    at 9 (Release (epoch 1 2 1) (inst 2 1) (file 0 1) (Some (stamp 2 1))) ∷
    at 9 (Release (epoch 1 1 1) (inst 1 1) (file 0 1) (Some (stamp 1 1))) ∷
    at 9 (Commit (file 0 1) 2 (stamp 2 1) ((stamp 0 0) ∷ []) (1 ∷ 98 ∷ 0 ∷ 65 ∷ 1 ∷ 0 ∷ 0 ∷ 0 ∷ 1 ∷ [])) ∷
    at 9 (Commit (file 0 1) 1 (stamp 1 1) ((stamp 0 0) ∷ []) (1 ∷ 97 ∷ 0 ∷ 2 ∷ 1 ∷ 0 ∷ 0 ∷ 0 ∷ 1 ∷ [])) ∷
    at 9 (Act (epoch 1 2 1) (inst 2 1) 2 (op.Insert (codes "b") 65 kind.File) outcome.Done) ∷
    at 9 (Act (epoch 1 1 1) (inst 1 1) 2 (op.Insert (codes "a") 2 kind.File) outcome.Done) ∷
    at 9 (Release (epoch 1 2 1) (inst 2 2) (file 0 65) (Some (stamp 2 1))) ∷
    at 9 (Release (epoch 1 1 1) (inst 1 2) (file 0 2) (Some (stamp 1 1))) ∷
    at 9 (Commit (file 0 65) 2 (stamp 2 1) [] []) ∷
    at 9 (Commit (file 0 2) 1 (stamp 1 1) [] []) ∷
    at 9 (Grant (epoch 1 2 1) (caller 2 1 1) 3 (inst 2 2) mode.Make (file 0 65) None 2) ∷
    at 9 (Grant (epoch 1 1 1) (caller 1 1 1) 3 (inst 1 2) mode.Make (file 0 2) None 1) ∷
    at 9 (Act (epoch 1 2 1) (inst 2 1) 1 (op.Probe (codes "b")) outcome.Done) ∷
    at 9 (Act (epoch 1 1 1) (inst 1 1) 1 (op.Probe (codes "a")) outcome.Done) ∷
    at 9 (Grant (epoch 1 2 1) (caller 2 1 1) 1 (inst 2 1) mode.Write (file 0 1) (Some (stamp 0 0)) 2) ∷
    at 9 (Grant (epoch 1 1 1) (caller 1 1 1) 1 (inst 1 1) mode.Write (file 0 1) (Some (stamp 0 0)) 1) ∷
    at 8 (Accept 2 1 (caller 2 1 1) (call.Create (codes "/b") None)) ∷
    at 7 (Accept 1 1 (caller 1 1 1) (call.Create (codes "/a") None)) ∷
    at 6 (Start (epoch 1 2 1) 0 (brought 1 (stamp 0 0) ∷ [])) ∷
    at 6 (Start (epoch 1 1 1) 0 (brought 1 (stamp 0 0) ∷ [])) ∷
    at 5 (Join 2 (epoch 1 2 1) (members (0 ∷ 1 ∷ []))) ∷
    at 4 (Join 1 (epoch 1 1 1) (members (1 ∷ []))) ∷
    []

abbrev pub parted_run : Sample
parted_run = record { lines = parted_lines; trace = parted_trace }
