-- What a descriptor allows.
use Rattle.std.specs.Prelude.{List, [], ◌∷◌, None, Some, codes}
use Rattle.locus_ids.specs.declared.ids.Kind.TheVariants as kind
use Rattle.locus_ids.specs.declared.ids.Mode.TheVariants as mode
use Rattle.locus_ids.specs.declared.refusal.Refusal.TheVariants as refusal
use Rattle.trace_book.specs.declared.call.Call.TheVariants as call
use Rattle.trace_book.specs.declared.call.OpenMode.TheVariants as how
use Rattle.trace_book.specs.declared.operation.Op.TheVariants as op
use Rattle.trace_book.specs.declared.operation.Outcome.TheVariants as outcome
use Rattle.trace_book.specs.declared.operation.What.TheVariants as what
use Rattle.trace_book.specs.declared.operation.Served.TheVariants as served
use Rattle.trace_book.specs.declared.reply.Reply.TheVariants as reply
use Rattle.schedule_lines.specs.declared.header.HeaderLine.TheVariants as header
use Rattle.schedule_lines.specs.declared.line.Line.TheVariants as line
use Rattle.trace_book.specs.declared.record.Record.TheVariants.{Join, Start, Accept, Look, Grant, Act, Commit, Release, Answer}
use Rattle.trace_book.specs.declared.entry.Entry.{Entry}
use Rattle.schedule_lines.specs.declared.line.ScheduleLine.{ScheduleLine}
use Rattle.schedule_lines.specs.declared.line.ScheduleLine.TheVariants.{Passed, Header, Event}
use Rattle.promise_samples.specs.Examples.{Example}
use Rattle.lawful_trace.specs.Samples.{at, epoch, caller, inst, file, stamp, brought, members}

abbrev descriptors_lines : List ScheduleLine
descriptors_lines =
    Passed ∷
    Header (header.Sites 1) ∷
    Header (header.Group 0 (record { 0 = 1 })) ∷
    Event (line.Merge 1) ∷
    Event (line.Settle 1000) ∷
    Event (line.Call 1 1 (call.Create (codes "/a") None)) ∷
    Event (line.Settle 1000) ∷
    Passed ∷
    Event (line.Call 1 1 (call.Open (codes "/a") how.Read)) ∷
    Event (line.Settle 1000) ∷
    Event (line.Call 1 1 (call.Write 0 0 (97 ∷ []))) ∷
    Event (line.Settle 1000) ∷
    Passed ∷
    Event (line.Call 1 1 (call.Read 3 0 10)) ∷
    Event (line.Settle 1000) ∷
    Passed ∷
    Event (line.Call 1 1 (call.Read 0 0 10)) ∷
    Event (line.Settle 1000) ∷
    Passed ∷
    Event (line.Call 1 1 (call.Close 0)) ∷
    Event (line.Settle 1000) ∷
    Event (line.Call 1 1 (call.Read 0 0 10)) ∷
    Event (line.Settle 1000) ∷
    []

abbrev descriptors_trace : List Entry
descriptors_trace =
    at 4 (Join 1 (epoch 1 1 1) (members (1 ∷ []))) ∷
    at 5 (Start (epoch 1 1 1) 0 (brought 1 (stamp 0 0) ∷ [])) ∷
    at 6 (Accept 1 1 (caller 1 1 1) (call.Create (codes "/a") None)) ∷
    at 7 (Grant (epoch 1 1 1) (caller 1 1 1) 1 (inst 1 1) mode.Write (file 0 1) (Some (stamp 0 0)) 1) ∷
    at 7 (Act (epoch 1 1 1) (inst 1 1) 1 (op.Probe (codes "a")) outcome.Done) ∷
    at 7 (Grant (epoch 1 1 1) (caller 1 1 1) 3 (inst 1 2) mode.Make (file 0 2) None 1) ∷
    at 7 (Commit (file 0 2) 1 (stamp 1 1) [] []) ∷
    at 7 (Release (epoch 1 1 1) (inst 1 2) (file 0 2) (Some (stamp 1 1))) ∷
    at 7 (Act (epoch 1 1 1) (inst 1 1) 2 (op.Insert (codes "a") 2 kind.File) outcome.Done) ∷
    at 7 (Commit (file 0 1) 1 (stamp 1 1) ((stamp 0 0) ∷ []) (1 ∷ 97 ∷ 0 ∷ 2 ∷ 1 ∷ 0 ∷ 0 ∷ 0 ∷ 1 ∷ [])) ∷
    at 7 (Release (epoch 1 1 1) (inst 1 1) (file 0 1) (Some (stamp 1 1))) ∷
    at 7 (Answer 1 1 (caller 1 1 1) (reply.Made 2)) ∷
    at 9 (Accept 1 1 (caller 1 1 2) (call.Open (codes "/a") how.Read)) ∷
    at 10 (Look (epoch 1 1 1) (caller 1 1 2) 1 (file 0 1) (what.Name (codes "a")) (served.At (stamp 1 1))) ∷
    at 10 (Grant (epoch 1 1 1) (caller 1 1 2) 2 (inst 1 3) mode.Read (file 0 2) (Some (stamp 1 1)) 1) ∷
    at 10 (Answer 1 1 (caller 1 1 2) (reply.Opened 0)) ∷
    at 11 (Accept 1 1 (caller 1 1 3) (call.Write 0 0 (97 ∷ []))) ∷
    at 11 (Answer 1 1 (caller 1 1 3) (reply.No refusal.ReadOnly)) ∷
    at 14 (Accept 1 1 (caller 1 1 4) (call.Read 3 0 10)) ∷
    at 14 (Answer 1 1 (caller 1 1 4) (reply.No refusal.BadDescriptor)) ∷
    at 17 (Accept 1 1 (caller 1 1 5) (call.Read 0 0 10)) ∷
    at 18 (Act (epoch 1 1 1) (inst 1 3) 1 (op.Read 0 10) (outcome.Data [])) ∷
    at 18 (Answer 1 1 (caller 1 1 5) (reply.Data [])) ∷
    at 20 (Accept 1 1 (caller 1 1 6) (call.Close 0)) ∷
    at 21 (Release (epoch 1 1 1) (inst 1 3) (file 0 2) None) ∷
    at 21 (Answer 1 1 (caller 1 1 6) (reply.Closed None)) ∷
    at 22 (Accept 1 1 (caller 1 1 7) (call.Read 0 0 10)) ∷
    at 22 (Answer 1 1 (caller 1 1 7) (reply.No refusal.BadDescriptor)) ∷
    []

abbrev pub descriptors : Example
descriptors = record { lines = descriptors_lines; trace = descriptors_trace }
