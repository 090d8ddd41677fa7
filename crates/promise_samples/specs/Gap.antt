-- A write past the end fills the gap with zeros.
use Rattle.std.specs.Prelude.{List, [], ◌∷◌, None, Some, codes}
use Rattle.locus_ids.specs.declared.ids.Kind.TheVariants as kind
use Rattle.locus_ids.specs.declared.ids.Mode.TheVariants as mode
use Rattle.trace_book.specs.declared.call.Call.TheVariants as call
use Rattle.trace_book.specs.declared.call.OpenMode.TheVariants as how
use Rattle.trace_book.specs.declared.operation.Op.TheVariants as op
use Rattle.trace_book.specs.declared.operation.Outcome.TheVariants as outcome
use Rattle.trace_book.specs.declared.operation.What.TheVariants as what
use Rattle.trace_book.specs.declared.operation.Served.TheVariants as served
use Rattle.trace_book.specs.declared.reply.Reply.TheVariants as reply
use Rattle.schedule_lines.specs.declared.header.HeaderLine.TheVariants as header
use Rattle.schedule_lines.specs.declared.line.Line.TheVariants as line
use Rattle.trace_book.specs.declared.record.Record.TheVariants.{Join, Start, Accept, Look, Grant, Act, Commit, Release, Answer}
use Rattle.trace_book.specs.declared.entry.Entry.{Entry}
use Rattle.schedule_lines.specs.declared.line.ScheduleLine.{ScheduleLine}
use Rattle.schedule_lines.specs.declared.line.ScheduleLine.TheVariants.{Passed, Header, Event}
use Rattle.promise_samples.specs.Examples.{Example}
use Rattle.lawful_trace.specs.Samples.{at, epoch, caller, inst, file, stamp, brought, members}

abbrev gap_lines : List ScheduleLine
gap_lines =
    Passed ∷
    Header (header.Sites 1) ∷
    Header (header.Group 0 (record { 0 = 1 })) ∷
    Event (line.Merge 1) ∷
    Event (line.Settle 1000) ∷
    Event (line.Call 1 1 (call.Create (codes "/a") None)) ∷
    Event (line.Settle 1000) ∷
    Event (line.Call 1 1 (call.Open (codes "/a") how.Write)) ∷
    Event (line.Settle 1000) ∷
    Passed ∷
    Event (line.Call 1 1 (call.Write 0 3 (255 ∷ []))) ∷
    Event (line.Settle 1000) ∷
    Passed ∷
    Event (line.Call 1 1 (call.Read 0 0 10)) ∷
    Event (line.Settle 1000) ∷
    Event (line.Call 1 1 (call.Close 0)) ∷
    Event (line.Settle 1000) ∷
    []

abbrev gap_trace : List Entry
gap_trace =
    at 4 (Join 1 (epoch 1 1 1) (members (1 ∷ []))) ∷
    at 5 (Start (epoch 1 1 1) 0 (brought 1 (stamp 0 0) ∷ [])) ∷
    at 6 (Accept 1 1 (caller 1 1 1) (call.Create (codes "/a") None)) ∷
    at 7 (Grant (epoch 1 1 1) (caller 1 1 1) 1 (inst 1 1) mode.Write (file 0 1) (Some (stamp 0 0)) 1) ∷
    at 7 (Act (epoch 1 1 1) (inst 1 1) 1 (op.Probe (codes "a")) outcome.Done) ∷
    at 7 (Grant (epoch 1 1 1) (caller 1 1 1) 3 (inst 1 2) mode.Make (file 0 2) None 1) ∷
    at 7 (Commit (file 0 2) 1 (stamp 1 1) [] []) ∷
    at 7 (Release (epoch 1 1 1) (inst 1 2) (file 0 2) (Some (stamp 1 1))) ∷
    at 7 (Act (epoch 1 1 1) (inst 1 1) 2 (op.Insert (codes "a") 2 kind.File) outcome.Done) ∷
    at 7 (Commit (file 0 1) 1 (stamp 1 1) ((stamp 0 0) ∷ []) (1 ∷ 97 ∷ 0 ∷ 2 ∷ 1 ∷ 0 ∷ 0 ∷ 0 ∷ 1 ∷ [])) ∷
    at 7 (Release (epoch 1 1 1) (inst 1 1) (file 0 1) (Some (stamp 1 1))) ∷
    at 7 (Answer 1 1 (caller 1 1 1) (reply.Made 2)) ∷
    at 8 (Accept 1 1 (caller 1 1 2) (call.Open (codes "/a") how.Write)) ∷
    at 9 (Look (epoch 1 1 1) (caller 1 1 2) 1 (file 0 1) (what.Name (codes "a")) (served.At (stamp 1 1))) ∷
    at 9 (Grant (epoch 1 1 1) (caller 1 1 2) 2 (inst 1 3) mode.Write (file 0 2) (Some (stamp 1 1)) 1) ∷
    at 9 (Answer 1 1 (caller 1 1 2) (reply.Opened 0)) ∷
    at 11 (Accept 1 1 (caller 1 1 3) (call.Write 0 3 (255 ∷ []))) ∷
    at 12 (Act (epoch 1 1 1) (inst 1 3) 1 (op.Write 3 (255 ∷ [])) outcome.Done) ∷
    at 12 (Answer 1 1 (caller 1 1 3) reply.Done) ∷
    at 14 (Accept 1 1 (caller 1 1 4) (call.Read 0 0 10)) ∷
    at 15 (Act (epoch 1 1 1) (inst 1 3) 2 (op.Read 0 10) (outcome.Data (0 ∷ 0 ∷ 0 ∷ 255 ∷ []))) ∷
    at 15 (Answer 1 1 (caller 1 1 4) (reply.Data (0 ∷ 0 ∷ 0 ∷ 255 ∷ []))) ∷
    at 16 (Accept 1 1 (caller 1 1 5) (call.Close 0)) ∷
    at 17 (Commit (file 0 2) 1 (stamp 1 2) ((stamp 1 1) ∷ []) (0 ∷ 0 ∷ 0 ∷ 255 ∷ [])) ∷
    at 17 (Release (epoch 1 1 1) (inst 1 3) (file 0 2) (Some (stamp 1 2))) ∷
    at 17 (Answer 1 1 (caller 1 1 5) (reply.Closed (Some (stamp 1 2)))) ∷
    []

abbrev pub gap : Example
gap = record { lines = gap_lines; trace = gap_trace }
