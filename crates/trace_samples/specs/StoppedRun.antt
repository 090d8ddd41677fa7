-- A site is stopped within the commit of a new file, and comes back with it; then a boot fails, and the next one is whole.
use Rattle.std.specs.Prelude.{List, [], ◌∷◌, None, Some, codes}
use Rattle.locus_ids.specs.declared.ids.Mode.TheVariants as mode
use Rattle.trace_book.specs.declared.call.Call.TheVariants as call
use Rattle.trace_book.specs.declared.operation.Op.TheVariants as op
use Rattle.trace_book.specs.declared.operation.Outcome.TheVariants as outcome
use Rattle.trace_book.specs.declared.operation.What.TheVariants as what
use Rattle.trace_book.specs.declared.operation.Served.TheVariants as served
use Rattle.trace_book.specs.declared.reply.Reply.TheVariants as reply
use Rattle.trace_book.specs.declared.record.StopCause.TheVariants as cause
use Rattle.trace_book.specs.declared.record.Record.TheVariants.{Up, Stopped, Join, Start, Accept, Look, Grant, Act, Commit, Answer}
use Rattle.schedule_lines.specs.declared.header.HeaderLine.TheVariants as header
use Rattle.schedule_lines.specs.declared.line.Leave.TheVariants as leave
use Rattle.schedule_lines.specs.declared.line.Line.TheVariants as line
use Rattle.schedule_lines.specs.declared.line.ScheduleLine.{ScheduleLine}
use Rattle.schedule_lines.specs.declared.line.ScheduleLine.TheVariants.{Header, Event}
use Rattle.tree_model.specs.Folds.{Trace}
use Rattle.lawful_trace.specs.Samples.{Sample, at, epoch, caller, inst, file, stamp, brought, members}

abbrev pub stopped_lines : List ScheduleLine
stopped_lines =
    Header (header.Sites 1) ∷
    Header (header.Group 0 (record { 0 = 1 })) ∷
    Event (line.Merge 1) ∷
    Event (line.Settle 1000) ∷
    Event (line.ArmStop 1 3 leave.New) ∷
    Event (line.Call 1 1 (call.Create (codes "/a") None)) ∷
    Event (line.Settle 1000) ∷
    Event (line.Boot 1) ∷
    Event (line.Stop 1) ∷
    Event (line.ArmFail 1 3) ∷
    Event (line.Boot 1) ∷
    Event (line.Boot 1) ∷
    Event (line.Merge 1) ∷
    Event (line.Settle 1000) ∷
    Event (line.Call 1 1 (call.List (codes "/"))) ∷
    Event (line.Settle 1000) ∷
    []

-- the latest record first
abbrev pub stopped_trace : Trace
stopped_trace =
    at 16 (Answer 1 1 (caller 1 4 1) (reply.Names [])) ∷
    at 16 (Look (epoch 1 1 4) (caller 1 4 1) 1 (file 0 1) what.List (served.At (stamp 0 0))) ∷
    at 15 (Accept 1 1 (caller 1 4 1) (call.List (codes "/"))) ∷
    at 14 (Start (epoch 1 1 4) 0 (brought 1 (stamp 0 0) ∷ brought 2 (stamp 1 1) ∷ [])) ∷
    at 13 (Join 1 (epoch 1 1 4) (members (4 ∷ []))) ∷
    at 12 (Up 1 4) ∷
    at 11 (Stopped 1 cause.Fault) ∷
    at 9 (Stopped 1 cause.Asked) ∷
    at 8 (Up 1 2) ∷
    at 7 (Stopped 1 cause.Fuse) ∷
    at 7 (Commit (file 0 2) 1 (stamp 1 1) [] []) ∷
    at 7 (Grant (epoch 1 1 1) (caller 1 1 1) 3 (inst 1 2) mode.Make (file 0 2) None 1) ∷
    at 7 (Act (epoch 1 1 1) (inst 1 1) 1 (op.Probe (codes "a")) outcome.Done) ∷
    at 7 (Grant (epoch 1 1 1) (caller 1 1 1) 1 (inst 1 1) mode.Write (file 0 1) (Some (stamp 0 0)) 1) ∷
    at 6 (Accept 1 1 (caller 1 1 1) (call.Create (codes "/a") None)) ∷
    at 4 (Start (epoch 1 1 1) 0 (brought 1 (stamp 0 0) ∷ [])) ∷
    at 3 (Join 1 (epoch 1 1 1) (members (1 ∷ []))) ∷
    []

abbrev pub stopped_run : Sample
stopped_run = record { lines = stopped_lines; trace = stopped_trace }
