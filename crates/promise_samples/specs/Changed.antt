-- A site leaves its partition while a call waits: the call may have taken effect, and its answer says that it can't be known.
use Rattle.std.specs.Prelude.{List, [], ◌∷◌, None, Some, codes}
use Rattle.locus_ids.specs.declared.ids.Kind.TheVariants as kind
use Rattle.locus_ids.specs.declared.ids.Mode.TheVariants as mode
use Rattle.locus_ids.specs.declared.refusal.Refusal.TheVariants as refusal
use Rattle.trace_book.specs.declared.call.Call.TheVariants as call
use Rattle.trace_book.specs.declared.call.OpenMode.TheVariants as how
use Rattle.trace_book.specs.declared.operation.Op.TheVariants as op
use Rattle.trace_book.specs.declared.operation.Outcome.TheVariants as outcome
use Rattle.trace_book.specs.declared.operation.What.TheVariants as what
use Rattle.trace_book.specs.declared.operation.Served.TheVariants as served
use Rattle.trace_book.specs.declared.reply.Reply.TheVariants as reply
use Rattle.schedule_lines.specs.declared.header.HeaderLine.TheVariants as header
use Rattle.schedule_lines.specs.declared.line.Line.TheVariants as line
use Rattle.trace_book.specs.declared.record.Record.TheVariants.{Leave, Join, Start, Accept, Look, Grant, Act, Commit, Release, Answer, Budget}
use Rattle.trace_book.specs.declared.entry.Entry.{Entry}
use Rattle.schedule_lines.specs.declared.line.ScheduleLine.{ScheduleLine}
use Rattle.schedule_lines.specs.declared.line.ScheduleLine.TheVariants.{Passed, Header, Event}
use Rattle.promise_samples.specs.Examples.{Example}
use Rattle.lawful_trace.specs.Samples.{at, epoch, caller, inst, file, stamp, brought, members}

abbrev changed_lines : List ScheduleLine
changed_lines =
    Passed ∷
    Header (header.Sites 2) ∷
    Header (header.Group 0 (record { 0 = 2 })) ∷
    Event (line.Merge 1) ∷
    Event (line.Settle 1000) ∷
    Event (line.Call 1 1 (call.Create (codes "/a") None)) ∷
    Event (line.Settle 1000) ∷
    Event (line.Call 1 1 (call.Open (codes "/a") how.Write)) ∷
    Event (line.Settle 1000) ∷
    Event (line.Call 1 1 (call.Write 0 0 (97 ∷ []))) ∷
    Event (line.Settle 1000) ∷
    Passed ∷
    Event (line.Call 1 1 (call.Commit 0)) ∷
    Event (line.Settle 1) ∷
    Passed ∷
    Event (line.GiveUp 1) ∷
    Passed ∷
    Event (line.Call 1 1 (call.Read 0 0 1)) ∷
    Event (line.Settle 1000) ∷
    []

abbrev changed_trace : List Entry
changed_trace =
    at 5 (Join 1 (epoch 1 1 1) (members (1 ∷ 1 ∷ []))) ∷
    at 5 (Join 2 (epoch 1 1 1) (members (1 ∷ 1 ∷ []))) ∷
    at 5 (Start (epoch 1 1 1) 0 (brought 1 (stamp 0 0) ∷ [])) ∷
    at 6 (Accept 1 1 (caller 1 1 1) (call.Create (codes "/a") None)) ∷
    at 7 (Grant (epoch 1 1 1) (caller 1 1 1) 1 (inst 1 1) mode.Write (file 0 1) (Some (stamp 0 0)) 2) ∷
    at 7 (Act (epoch 1 1 1) (inst 1 1) 1 (op.Probe (codes "a")) outcome.Done) ∷
    at 7 (Grant (epoch 1 1 1) (caller 1 1 1) 3 (inst 1 2) mode.Make (file 0 65) None 2) ∷
    at 7 (Commit (file 0 65) 2 (stamp 2 1) [] []) ∷
    at 7 (Release (epoch 1 1 1) (inst 1 2) (file 0 65) (Some (stamp 2 1))) ∷
    at 7 (Act (epoch 1 1 1) (inst 1 1) 2 (op.Insert (codes "a") 65 kind.File) outcome.Done) ∷
    at 7 (Commit (file 0 1) 2 (stamp 2 1) ((stamp 0 0) ∷ []) (1 ∷ 97 ∷ 0 ∷ 65 ∷ 1 ∷ 0 ∷ 0 ∷ 0 ∷ 1 ∷ [])) ∷
    at 7 (Release (epoch 1 1 1) (inst 1 1) (file 0 1) (Some (stamp 2 1))) ∷
    at 7 (Answer 1 1 (caller 1 1 1) (reply.Made 65)) ∷
    at 8 (Accept 1 1 (caller 1 1 2) (call.Open (codes "/a") how.Write)) ∷
    at 9 (Look (epoch 1 1 1) (caller 1 1 2) 1 (file 0 1) (what.Name (codes "a")) (served.At (stamp 2 1))) ∷
    at 9 (Grant (epoch 1 1 1) (caller 1 1 2) 2 (inst 1 3) mode.Write (file 0 65) (Some (stamp 2 1)) 2) ∷
    at 9 (Answer 1 1 (caller 1 1 2) (reply.Opened 0)) ∷
    at 10 (Accept 1 1 (caller 1 1 3) (call.Write 0 0 (97 ∷ []))) ∷
    at 11 (Act (epoch 1 1 1) (inst 1 3) 1 (op.Write 0 (97 ∷ [])) outcome.Done) ∷
    at 11 (Answer 1 1 (caller 1 1 3) reply.Done) ∷
    at 13 (Accept 1 1 (caller 1 1 4) (call.Commit 0)) ∷
    at 14 (Commit (file 0 65) 2 (stamp 2 2) ((stamp 2 1) ∷ []) (97 ∷ [])) ∷
    at 14 (Act (epoch 1 1 1) (inst 1 3) 2 op.Commit (outcome.Committed (stamp 2 2))) ∷
    at 14 (Budget) ∷
    at 16 (Leave 1 (epoch 1 1 1)) ∷
    at 16 (Answer 1 1 (caller 1 1 4) (reply.No (refusal.Changed (epoch 1 1 1)))) ∷
    at 18 (Accept 1 1 (caller 1 1 5) (call.Read 0 0 1)) ∷
    at 18 (Answer 1 1 (caller 1 1 5) (reply.No (refusal.Stale (epoch 1 1 1)))) ∷
    []

abbrev pub changed : Example
changed = record { lines = changed_lines; trace = changed_trace }
