-- Valid input within the limits is run to its end, whatever happens in it: the program ends with status 0, or for want of memory.
use Rattle.std.specs.Prelude.{List, [], ◌∷◌, None, Some, codes}
use Rattle.locus_ids.specs.declared.ids.Kind.TheVariants as kind
use Rattle.locus_ids.specs.declared.ids.Mode.TheVariants as mode
use Rattle.trace_book.specs.declared.call.Call.TheVariants as call
use Rattle.trace_book.specs.declared.operation.Op.TheVariants as op
use Rattle.trace_book.specs.declared.operation.Outcome.TheVariants as outcome
use Rattle.trace_book.specs.declared.operation.What.TheVariants as what
use Rattle.trace_book.specs.declared.operation.Served.TheVariants as served
use Rattle.trace_book.specs.declared.reply.Reply.TheVariants as reply
use Rattle.trace_book.specs.declared.record.StopCause.TheVariants as cause
use Rattle.schedule_lines.specs.declared.header.HeaderLine.TheVariants as header
use Rattle.schedule_lines.specs.declared.line.Line.TheVariants as line
use Rattle.trace_book.specs.declared.record.Record.TheVariants.{Up, Stopped, Leave, Join, Start, Accept, Look, Grant, Act, Commit, Release, Adopt, Answer, Void}
use Rattle.trace_book.specs.declared.entry.Entry.{Entry}
use Rattle.schedule_lines.specs.declared.line.ScheduleLine.{ScheduleLine}
use Rattle.schedule_lines.specs.declared.line.ScheduleLine.TheVariants.{Passed, Header, Event}
use Rattle.promise_samples.specs.Examples.{Example}
use Rattle.lawful_trace.specs.Samples.{at, epoch, caller, inst, file, stamp, brought, members}

abbrev whole_input_lines : List ScheduleLine
whole_input_lines =
    Passed ∷
    Header (header.Sites 3) ∷
    Header (header.Group 0 (record { 0 = 7 })) ∷
    Event (line.Merge 1) ∷
    Event (line.Settle 1000) ∷
    Event (line.Call 1 1 (call.Create (codes "/a") None)) ∷
    Event (line.Settle 1000) ∷
    Passed ∷
    Event (line.ArmFail 1 2) ∷
    Event (line.Call 1 1 (call.Create (codes "/b") None)) ∷
    Event (line.Settle 1000) ∷
    Passed ∷
    Event (line.Call 1 1 (call.Stat (codes "/a"))) ∷
    Event (line.Lose 9999) ∷
    Event (line.Boot 2) ∷
    Passed ∷
    Event (line.Boot 1) ∷
    Event (line.Merge 1) ∷
    Event (line.Settle 1000) ∷
    Event (line.Call 1 1 (call.List (codes "/"))) ∷
    Passed ∷
    Event (line.Settle 1000) ∷
    []

abbrev whole_input_trace : List Entry
whole_input_trace =
    at 5 (Join 1 (epoch 1 1 1) (members (1 ∷ 1 ∷ 1 ∷ []))) ∷
    at 5 (Join 2 (epoch 1 1 1) (members (1 ∷ 1 ∷ 1 ∷ []))) ∷
    at 5 (Join 3 (epoch 1 1 1) (members (1 ∷ 1 ∷ 1 ∷ []))) ∷
    at 5 (Start (epoch 1 1 1) 0 (brought 1 (stamp 0 0) ∷ [])) ∷
    at 6 (Accept 1 1 (caller 1 1 1) (call.Create (codes "/a") None)) ∷
    at 7 (Grant (epoch 1 1 1) (caller 1 1 1) 1 (inst 1 1) mode.Write (file 0 1) (Some (stamp 0 0)) 1) ∷
    at 7 (Act (epoch 1 1 1) (inst 1 1) 1 (op.Probe (codes "a")) outcome.Done) ∷
    at 7 (Grant (epoch 1 1 1) (caller 1 1 1) 3 (inst 1 2) mode.Make (file 0 2) None 1) ∷
    at 7 (Commit (file 0 2) 1 (stamp 1 1) [] []) ∷
    at 7 (Release (epoch 1 1 1) (inst 1 2) (file 0 2) (Some (stamp 1 1))) ∷
    at 7 (Adopt (file 0 2) 2 (stamp 1 1)) ∷
    at 7 (Adopt (file 0 2) 3 (stamp 1 1)) ∷
    at 7 (Act (epoch 1 1 1) (inst 1 1) 2 (op.Insert (codes "a") 2 kind.File) outcome.Done) ∷
    at 7 (Commit (file 0 1) 1 (stamp 1 1) ((stamp 0 0) ∷ []) (1 ∷ 97 ∷ 0 ∷ 2 ∷ 1 ∷ 0 ∷ 0 ∷ 0 ∷ 1 ∷ [])) ∷
    at 7 (Release (epoch 1 1 1) (inst 1 1) (file 0 1) (Some (stamp 1 1))) ∷
    at 7 (Answer 1 1 (caller 1 1 1) (reply.Made 2)) ∷
    at 7 (Adopt (file 0 1) 2 (stamp 1 1)) ∷
    at 7 (Adopt (file 0 1) 3 (stamp 1 1)) ∷
    at 10 (Accept 1 1 (caller 1 1 2) (call.Create (codes "/b") None)) ∷
    at 11 (Grant (epoch 1 1 1) (caller 1 1 2) 1 (inst 1 3) mode.Write (file 0 1) (Some (stamp 1 1)) 1) ∷
    at 11 (Act (epoch 1 1 1) (inst 1 3) 1 (op.Probe (codes "b")) outcome.Done) ∷
    at 11 (Grant (epoch 1 1 1) (caller 1 1 2) 3 (inst 1 4) mode.Make (file 0 3) None 1) ∷
    at 11 (Stopped 1 cause.Fault) ∷
    at 13 (Void) ∷
    at 14 (Void) ∷
    at 15 (Void) ∷
    at 17 (Up 1 2) ∷
    at 19 (Leave 2 (epoch 1 1 1)) ∷
    at 19 (Leave 3 (epoch 1 1 1)) ∷
    at 19 (Join 1 (epoch 1 1 2) (members (2 ∷ 1 ∷ 1 ∷ []))) ∷
    at 19 (Join 2 (epoch 1 1 2) (members (2 ∷ 1 ∷ 1 ∷ []))) ∷
    at 19 (Join 3 (epoch 1 1 2) (members (2 ∷ 1 ∷ 1 ∷ []))) ∷
    at 19 (Start (epoch 1 1 2) 0 (brought 1 (stamp 1 1) ∷ brought 2 (stamp 1 1) ∷ [])) ∷
    at 20 (Accept 1 1 (caller 1 2 1) (call.List (codes "/"))) ∷
    at 22 (Look (epoch 1 1 2) (caller 1 2 1) 1 (file 0 1) what.List (served.At (stamp 1 1))) ∷
    at 22 (Answer 1 1 (caller 1 2 1) (reply.Names ((codes "a") ∷ []))) ∷
    []

abbrev pub whole_input : Example
whole_input = record { lines = whole_input_lines; trace = whole_input_trace }
