-- Names that are there, and names that are not.
use Rattle.std.specs.Prelude.{List, [], ◌∷◌, None, Some, codes}
use Rattle.locus_ids.specs.declared.ids.Kind.TheVariants as kind
use Rattle.locus_ids.specs.declared.ids.Mode.TheVariants as mode
use Rattle.locus_ids.specs.declared.refusal.Refusal.TheVariants as refusal
use Rattle.trace_book.specs.declared.call.Call.TheVariants as call
use Rattle.trace_book.specs.declared.call.OpenMode.TheVariants as how
use Rattle.trace_book.specs.declared.operation.Op.TheVariants as op
use Rattle.trace_book.specs.declared.operation.Outcome.TheVariants as outcome
use Rattle.trace_book.specs.declared.operation.What.TheVariants as what
use Rattle.trace_book.specs.declared.operation.Served.TheVariants as served
use Rattle.trace_book.specs.declared.reply.Reply.TheVariants as reply
use Rattle.schedule_lines.specs.declared.header.HeaderLine.TheVariants as header
use Rattle.schedule_lines.specs.declared.line.Line.TheVariants as line
use Rattle.trace_book.specs.declared.record.Record.TheVariants.{Join, Start, Accept, Look, Grant, Act, Commit, Release, Answer}
use Rattle.trace_book.specs.declared.entry.Entry.{Entry}
use Rattle.schedule_lines.specs.declared.line.ScheduleLine.{ScheduleLine}
use Rattle.schedule_lines.specs.declared.line.ScheduleLine.TheVariants.{Passed, Header, Event}
use Rattle.promise_samples.specs.Examples.{Example}
use Rattle.lawful_trace.specs.Samples.{at, epoch, caller, inst, file, stamp, brought, members}

abbrev names_lines : List ScheduleLine
names_lines =
    Passed ∷
    Header (header.Sites 1) ∷
    Header (header.Group 0 (record { 0 = 1 })) ∷
    Event (line.Merge 1) ∷
    Event (line.Settle 1000) ∷
    Passed ∷
    Event (line.Call 1 1 (call.Open (codes "/a") how.Read)) ∷
    Event (line.Settle 1000) ∷
    Passed ∷
    Event (line.Call 1 1 (call.Create (codes "/a") None)) ∷
    Event (line.Settle 1000) ∷
    Passed ∷
    Event (line.Call 1 1 (call.Create (codes "/a") None)) ∷
    Event (line.Settle 1000) ∷
    Passed ∷
    Event (line.Call 1 1 (call.Create (codes "/b") None)) ∷
    Event (line.Settle 1000) ∷
    []

abbrev names_trace : List Entry
names_trace =
    at 4 (Join 1 (epoch 1 1 1) (members (1 ∷ []))) ∷
    at 5 (Start (epoch 1 1 1) 0 (brought 1 (stamp 0 0) ∷ [])) ∷
    at 7 (Accept 1 1 (caller 1 1 1) (call.Open (codes "/a") how.Read)) ∷
    at 8 (Look (epoch 1 1 1) (caller 1 1 1) 1 (file 0 1) (what.Name (codes "a")) (served.At (stamp 0 0))) ∷
    at 8 (Answer 1 1 (caller 1 1 1) (reply.No (refusal.Absent (codes "a")))) ∷
    at 10 (Accept 1 1 (caller 1 1 2) (call.Create (codes "/a") None)) ∷
    at 11 (Grant (epoch 1 1 1) (caller 1 1 2) 1 (inst 1 1) mode.Write (file 0 1) (Some (stamp 0 0)) 1) ∷
    at 11 (Act (epoch 1 1 1) (inst 1 1) 1 (op.Probe (codes "a")) outcome.Done) ∷
    at 11 (Grant (epoch 1 1 1) (caller 1 1 2) 3 (inst 1 2) mode.Make (file 0 2) None 1) ∷
    at 11 (Commit (file 0 2) 1 (stamp 1 1) [] []) ∷
    at 11 (Release (epoch 1 1 1) (inst 1 2) (file 0 2) (Some (stamp 1 1))) ∷
    at 11 (Act (epoch 1 1 1) (inst 1 1) 2 (op.Insert (codes "a") 2 kind.File) outcome.Done) ∷
    at 11 (Commit (file 0 1) 1 (stamp 1 1) ((stamp 0 0) ∷ []) (1 ∷ 97 ∷ 0 ∷ 2 ∷ 1 ∷ 0 ∷ 0 ∷ 0 ∷ 1 ∷ [])) ∷
    at 11 (Release (epoch 1 1 1) (inst 1 1) (file 0 1) (Some (stamp 1 1))) ∷
    at 11 (Answer 1 1 (caller 1 1 2) (reply.Made 2)) ∷
    at 13 (Accept 1 1 (caller 1 1 3) (call.Create (codes "/a") None)) ∷
    at 14 (Grant (epoch 1 1 1) (caller 1 1 3) 1 (inst 1 3) mode.Write (file 0 1) (Some (stamp 1 1)) 1) ∷
    at 14 (Act (epoch 1 1 1) (inst 1 3) 1 (op.Probe (codes "a")) (outcome.No (refusal.Exists 2))) ∷
    at 14 (Release (epoch 1 1 1) (inst 1 3) (file 0 1) None) ∷
    at 14 (Answer 1 1 (caller 1 1 3) (reply.No (refusal.Exists 2))) ∷
    at 16 (Accept 1 1 (caller 1 1 4) (call.Create (codes "/b") None)) ∷
    at 17 (Grant (epoch 1 1 1) (caller 1 1 4) 1 (inst 1 4) mode.Write (file 0 1) (Some (stamp 1 1)) 1) ∷
    at 17 (Act (epoch 1 1 1) (inst 1 4) 1 (op.Probe (codes "b")) outcome.Done) ∷
    at 17 (Grant (epoch 1 1 1) (caller 1 1 4) 3 (inst 1 5) mode.Make (file 0 3) None 1) ∷
    at 17 (Commit (file 0 3) 1 (stamp 1 1) [] []) ∷
    at 17 (Release (epoch 1 1 1) (inst 1 5) (file 0 3) (Some (stamp 1 1))) ∷
    at 17 (Act (epoch 1 1 1) (inst 1 4) 2 (op.Insert (codes "b") 3 kind.File) outcome.Done) ∷
    at 17 (Commit (file 0 1) 1 (stamp 1 2) ((stamp 1 1) ∷ []) (1 ∷ 97 ∷ 0 ∷ 2 ∷ 1 ∷ 0 ∷ 0 ∷ 0 ∷ 1 ∷ 1 ∷ 98 ∷ 0 ∷ 3 ∷ 1 ∷ 0 ∷ 0 ∷ 0 ∷ 1 ∷ [])) ∷
    at 17 (Release (epoch 1 1 1) (inst 1 4) (file 0 1) (Some (stamp 1 2))) ∷
    at 17 (Answer 1 1 (caller 1 1 4) (reply.Made 3)) ∷
    []

abbrev pub names : Example
names = record { lines = names_lines; trace = names_trace }
