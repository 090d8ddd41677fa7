-- Two processes of a site at once: the one makes a directory, the other opens a file and reads it.
use Rattle.std.specs.Prelude.{List, [], ◌∷◌, None, Some, codes}
use Rattle.locus_ids.specs.declared.ids.Kind.TheVariants as kind
use Rattle.locus_ids.specs.declared.ids.Mode.TheVariants as mode
use Rattle.trace_book.specs.declared.call.Call.TheVariants as call
use Rattle.trace_book.specs.declared.call.OpenMode.TheVariants as how
use Rattle.trace_book.specs.declared.operation.Op.TheVariants as op
use Rattle.trace_book.specs.declared.operation.Outcome.TheVariants as outcome
use Rattle.trace_book.specs.declared.operation.What.TheVariants as what
use Rattle.trace_book.specs.declared.operation.Served.TheVariants as served
use Rattle.trace_book.specs.declared.reply.Reply.TheVariants as reply
use Rattle.schedule_lines.specs.declared.header.HeaderLine.TheVariants as header
use Rattle.schedule_lines.specs.declared.line.Line.TheVariants as line
use Rattle.trace_book.specs.declared.record.Record.TheVariants.{Join, Start, Accept, Look, Grant, Act, Commit, Release, Adopt, Answer}
use Rattle.trace_book.specs.declared.entry.Entry.{Entry}
use Rattle.schedule_lines.specs.declared.line.ScheduleLine.{ScheduleLine}
use Rattle.schedule_lines.specs.declared.line.ScheduleLine.TheVariants.{Passed, Header, Event}
use Rattle.promise_samples.specs.Examples.{Example}
use Rattle.lawful_trace.specs.Samples.{at, epoch, caller, inst, file, stamp, brought, members}

abbrev at_once_lines : List ScheduleLine
at_once_lines =
    Passed ∷
    Header (header.Sites 2) ∷
    Header (header.Group 0 (record { 0 = 3 })) ∷
    Event (line.Merge 1) ∷
    Event (line.Settle 1000) ∷
    Event (line.Call 1 1 (call.Create (codes "/a") None)) ∷
    Event (line.Settle 1000) ∷
    Event (line.Call 2 1 (call.MakeDir (codes "/b"))) ∷
    Event (line.Call 2 2 (call.Open (codes "/a") how.Read)) ∷
    Event (line.Settle 1000) ∷
    Event (line.Call 2 1 (call.Open (codes "/a") how.Read)) ∷
    Event (line.Call 2 2 (call.Read 0 0 4)) ∷
    Event (line.Settle 1000) ∷
    Event (line.Call 2 2 (call.Close 0)) ∷
    Event (line.Call 2 1 (call.Read 0 0 4)) ∷
    Event (line.Settle 1000) ∷
    []

abbrev at_once_trace : List Entry
at_once_trace =
    at 5 (Join 1 (epoch 1 1 1) (members (1 ∷ 1 ∷ []))) ∷
    at 5 (Join 2 (epoch 1 1 1) (members (1 ∷ 1 ∷ []))) ∷
    at 5 (Start (epoch 1 1 1) 0 (brought 1 (stamp 0 0) ∷ [])) ∷
    at 6 (Accept 1 1 (caller 1 1 1) (call.Create (codes "/a") None)) ∷
    at 7 (Grant (epoch 1 1 1) (caller 1 1 1) 1 (inst 1 1) mode.Write (file 0 1) (Some (stamp 0 0)) 1) ∷
    at 7 (Act (epoch 1 1 1) (inst 1 1) 1 (op.Probe (codes "a")) outcome.Done) ∷
    at 7 (Grant (epoch 1 1 1) (caller 1 1 1) 3 (inst 1 2) mode.Make (file 0 2) None 1) ∷
    at 7 (Commit (file 0 2) 1 (stamp 1 1) [] []) ∷
    at 7 (Release (epoch 1 1 1) (inst 1 2) (file 0 2) (Some (stamp 1 1))) ∷
    at 7 (Adopt (file 0 2) 2 (stamp 1 1)) ∷
    at 7 (Act (epoch 1 1 1) (inst 1 1) 2 (op.Insert (codes "a") 2 kind.File) outcome.Done) ∷
    at 7 (Commit (file 0 1) 1 (stamp 1 1) ((stamp 0 0) ∷ []) (1 ∷ 97 ∷ 0 ∷ 2 ∷ 1 ∷ 0 ∷ 0 ∷ 0 ∷ 1 ∷ [])) ∷
    at 7 (Release (epoch 1 1 1) (inst 1 1) (file 0 1) (Some (stamp 1 1))) ∷
    at 7 (Answer 1 1 (caller 1 1 1) (reply.Made 2)) ∷
    at 7 (Adopt (file 0 1) 2 (stamp 1 1)) ∷
    at 8 (Accept 2 1 (caller 2 1 1) (call.MakeDir (codes "/b"))) ∷
    at 9 (Accept 2 2 (caller 2 1 2) (call.Open (codes "/a") how.Read)) ∷
    at 10 (Grant (epoch 1 1 1) (caller 2 1 1) 1 (inst 2 1) mode.Write (file 0 1) (Some (stamp 1 1)) 2) ∷
    at 10 (Look (epoch 1 1 1) (caller 2 1 2) 1 (file 0 1) (what.Name (codes "a")) (served.At (stamp 1 1))) ∷
    at 10 (Grant (epoch 1 1 1) (caller 2 1 2) 2 (inst 2 2) mode.Read (file 0 2) (Some (stamp 1 1)) 2) ∷
    at 10 (Act (epoch 1 1 1) (inst 2 1) 1 (op.Probe (codes "b")) outcome.Done) ∷
    at 10 (Answer 2 2 (caller 2 1 2) (reply.Opened 0)) ∷
    at 10 (Grant (epoch 1 1 1) (caller 2 1 1) 3 (inst 2 3) mode.Make (file 0 65) None 2) ∷
    at 10 (Commit (file 0 65) 2 (stamp 2 1) [] []) ∷
    at 10 (Release (epoch 1 1 1) (inst 2 3) (file 0 65) (Some (stamp 2 1))) ∷
    at 10 (Adopt (file 0 65) 1 (stamp 2 1)) ∷
    at 10 (Act (epoch 1 1 1) (inst 2 1) 2 (op.Insert (codes "b") 65 kind.Dir) outcome.Done) ∷
    at 10 (Commit (file 0 1) 2 (stamp 2 1) ((stamp 1 1) ∷ []) (1 ∷ 97 ∷ 0 ∷ 2 ∷ 1 ∷ 0 ∷ 0 ∷ 0 ∷ 1 ∷ 1 ∷ 98 ∷ 0 ∷ 65 ∷ 2 ∷ 0 ∷ 0 ∷ 0 ∷ 1 ∷ [])) ∷
    at 10 (Release (epoch 1 1 1) (inst 2 1) (file 0 1) (Some (stamp 2 1))) ∷
    at 10 (Answer 2 1 (caller 2 1 1) (reply.Made 65)) ∷
    at 10 (Adopt (file 0 1) 1 (stamp 2 1)) ∷
    at 11 (Accept 2 1 (caller 2 1 3) (call.Open (codes "/a") how.Read)) ∷
    at 12 (Accept 2 2 (caller 2 1 4) (call.Read 0 0 4)) ∷
    at 13 (Look (epoch 1 1 1) (caller 2 1 3) 1 (file 0 1) (what.Name (codes "a")) (served.At (stamp 2 1))) ∷
    at 13 (Act (epoch 1 1 1) (inst 2 2) 1 (op.Read 0 4) (outcome.Data [])) ∷
    at 13 (Answer 2 2 (caller 2 1 4) (reply.Data [])) ∷
    at 13 (Grant (epoch 1 1 1) (caller 2 1 3) 2 (inst 2 4) mode.Read (file 0 2) (Some (stamp 1 1)) 2) ∷
    at 13 (Answer 2 1 (caller 2 1 3) (reply.Opened 0)) ∷
    at 14 (Accept 2 2 (caller 2 1 5) (call.Close 0)) ∷
    at 15 (Accept 2 1 (caller 2 1 6) (call.Read 0 0 4)) ∷
    at 16 (Act (epoch 1 1 1) (inst 2 4) 1 (op.Read 0 4) (outcome.Data [])) ∷
    at 16 (Release (epoch 1 1 1) (inst 2 2) (file 0 2) None) ∷
    at 16 (Answer 2 1 (caller 2 1 6) (reply.Data [])) ∷
    at 16 (Answer 2 2 (caller 2 1 5) (reply.Closed None)) ∷
    []

abbrev pub at_once : Example
at_once = record { lines = at_once_lines; trace = at_once_trace }
