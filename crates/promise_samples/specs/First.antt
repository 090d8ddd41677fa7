-- The printed example first.
use Rattle.std.specs.Prelude.{List, [], ◌∷◌, None, Some, codes}
use Rattle.locus_ids.specs.declared.ids.Kind.TheVariants as kind
use Rattle.locus_ids.specs.declared.ids.Mode.TheVariants as mode
use Rattle.trace_book.specs.declared.call.Call.TheVariants as call
use Rattle.trace_book.specs.declared.call.OpenMode.TheVariants as how
use Rattle.trace_book.specs.declared.operation.Op.TheVariants as op
use Rattle.trace_book.specs.declared.operation.Outcome.TheVariants as outcome
use Rattle.trace_book.specs.declared.operation.What.TheVariants as what
use Rattle.trace_book.specs.declared.operation.Served.TheVariants as served
use Rattle.trace_book.specs.declared.reply.Reply.TheVariants as reply
use Rattle.schedule_lines.specs.declared.header.HeaderLine.TheVariants as header
use Rattle.schedule_lines.specs.declared.line.Line.TheVariants as line
use Rattle.trace_book.specs.declared.record.Record.TheVariants.{Join, Start, Accept, Look, Grant, Act, Commit, Release, Answer}
use Rattle.trace_book.specs.declared.entry.Entry.{Entry}
use Rattle.schedule_lines.specs.declared.line.ScheduleLine.{ScheduleLine}
use Rattle.schedule_lines.specs.declared.line.ScheduleLine.TheVariants.{Passed, Header, Event}
use Rattle.promise_samples.specs.Examples.{Example}
use Rattle.lawful_trace.specs.Samples.{at, epoch, caller, inst, file, stamp, brought, members}

abbrev first_lines : List ScheduleLine
first_lines =
    Header (header.Sites 1) ∷
    Header (header.Group 0 (record { 0 = 1 })) ∷
    Event (line.Merge 1) ∷
    Event (line.Settle 1000) ∷
    Event (line.Call 1 1 (call.Create (codes "/a") None)) ∷
    Event (line.Settle 1000) ∷
    Event (line.Call 1 1 (call.Open (codes "/a") how.Write)) ∷
    Event (line.Settle 1000) ∷
    Event (line.Call 1 1 (call.Write 0 0 (104 ∷ 105 ∷ []))) ∷
    Event (line.Settle 1000) ∷
    Event (line.Call 1 1 (call.Close 0)) ∷
    Event (line.Settle 1000) ∷
    Event (line.Call 1 1 (call.Open (codes "/a") how.Read)) ∷
    Event (line.Settle 1000) ∷
    Event (line.Call 1 1 (call.Read 0 0 10)) ∷
    Event (line.Settle 1000) ∷
    Passed ∷
    Passed ∷
    Passed ∷
    Passed ∷
    Passed ∷
    Passed ∷
    Passed ∷
    []

abbrev first_trace : List Entry
first_trace =
    at 3 (Join 1 (epoch 1 1 1) (members (1 ∷ []))) ∷
    at 4 (Start (epoch 1 1 1) 0 (brought 1 (stamp 0 0) ∷ [])) ∷
    at 5 (Accept 1 1 (caller 1 1 1) (call.Create (codes "/a") None)) ∷
    at 6 (Grant (epoch 1 1 1) (caller 1 1 1) 1 (inst 1 1) mode.Write (file 0 1) (Some (stamp 0 0)) 1) ∷
    at 6 (Act (epoch 1 1 1) (inst 1 1) 1 (op.Probe (codes "a")) outcome.Done) ∷
    at 6 (Grant (epoch 1 1 1) (caller 1 1 1) 3 (inst 1 2) mode.Make (file 0 2) None 1) ∷
    at 6 (Commit (file 0 2) 1 (stamp 1 1) [] []) ∷
    at 6 (Release (epoch 1 1 1) (inst 1 2) (file 0 2) (Some (stamp 1 1))) ∷
    at 6 (Act (epoch 1 1 1) (inst 1 1) 2 (op.Insert (codes "a") 2 kind.File) outcome.Done) ∷
    at 6 (Commit (file 0 1) 1 (stamp 1 1) ((stamp 0 0) ∷ []) (1 ∷ 97 ∷ 0 ∷ 2 ∷ 1 ∷ 0 ∷ 0 ∷ 0 ∷ 1 ∷ [])) ∷
    at 6 (Release (epoch 1 1 1) (inst 1 1) (file 0 1) (Some (stamp 1 1))) ∷
    at 6 (Answer 1 1 (caller 1 1 1) (reply.Made 2)) ∷
    at 7 (Accept 1 1 (caller 1 1 2) (call.Open (codes "/a") how.Write)) ∷
    at 8 (Look (epoch 1 1 1) (caller 1 1 2) 1 (file 0 1) (what.Name (codes "a")) (served.At (stamp 1 1))) ∷
    at 8 (Grant (epoch 1 1 1) (caller 1 1 2) 2 (inst 1 3) mode.Write (file 0 2) (Some (stamp 1 1)) 1) ∷
    at 8 (Answer 1 1 (caller 1 1 2) (reply.Opened 0)) ∷
    at 9 (Accept 1 1 (caller 1 1 3) (call.Write 0 0 (104 ∷ 105 ∷ []))) ∷
    at 10 (Act (epoch 1 1 1) (inst 1 3) 1 (op.Write 0 (104 ∷ 105 ∷ [])) outcome.Done) ∷
    at 10 (Answer 1 1 (caller 1 1 3) reply.Done) ∷
    at 11 (Accept 1 1 (caller 1 1 4) (call.Close 0)) ∷
    at 12 (Commit (file 0 2) 1 (stamp 1 2) ((stamp 1 1) ∷ []) (104 ∷ 105 ∷ [])) ∷
    at 12 (Release (epoch 1 1 1) (inst 1 3) (file 0 2) (Some (stamp 1 2))) ∷
    at 12 (Answer 1 1 (caller 1 1 4) (reply.Closed (Some (stamp 1 2)))) ∷
    at 13 (Accept 1 1 (caller 1 1 5) (call.Open (codes "/a") how.Read)) ∷
    at 14 (Look (epoch 1 1 1) (caller 1 1 5) 1 (file 0 1) (what.Name (codes "a")) (served.At (stamp 1 1))) ∷
    at 14 (Grant (epoch 1 1 1) (caller 1 1 5) 2 (inst 1 4) mode.Read (file 0 2) (Some (stamp 1 2)) 1) ∷
    at 14 (Answer 1 1 (caller 1 1 5) (reply.Opened 0)) ∷
    at 15 (Accept 1 1 (caller 1 1 6) (call.Read 0 0 10)) ∷
    at 16 (Act (epoch 1 1 1) (inst 1 4) 1 (op.Read 0 10) (outcome.Data (104 ∷ 105 ∷ []))) ∷
    at 16 (Answer 1 1 (caller 1 1 6) (reply.Data (104 ∷ 105 ∷ []))) ∷
    []

abbrev pub first : Example
first = record { lines = first_lines; trace = first_trace }
