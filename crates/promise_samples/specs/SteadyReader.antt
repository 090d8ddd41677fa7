-- A steady descriptor reads one version, whatever partitions come and go; once its file has another version, its reads are refused as stale.
use Rattle.std.specs.Prelude.{List, [], ◌∷◌, None, Some, codes}
use Rattle.locus_ids.specs.declared.ids.Kind.TheVariants as kind
use Rattle.locus_ids.specs.declared.ids.Mode.TheVariants as mode
use Rattle.locus_ids.specs.declared.refusal.Refusal.TheVariants as refusal
use Rattle.trace_book.specs.declared.call.Call.TheVariants as call
use Rattle.trace_book.specs.declared.call.OpenMode.TheVariants as how
use Rattle.trace_book.specs.declared.operation.Op.TheVariants as op
use Rattle.trace_book.specs.declared.operation.Outcome.TheVariants as outcome
use Rattle.trace_book.specs.declared.operation.What.TheVariants as what
use Rattle.trace_book.specs.declared.operation.Served.TheVariants as served
use Rattle.trace_book.specs.declared.reply.Reply.TheVariants as reply
use Rattle.schedule_lines.specs.declared.header.HeaderLine.TheVariants as header
use Rattle.schedule_lines.specs.declared.line.Line.TheVariants as line
use Rattle.trace_book.specs.declared.record.Record.TheVariants.{Leave, Join, Start, Accept, Look, Grant, Refuse, Act, Commit, Release, Adopt, Answer}
use Rattle.trace_book.specs.declared.entry.Entry.{Entry}
use Rattle.schedule_lines.specs.declared.line.ScheduleLine.{ScheduleLine}
use Rattle.schedule_lines.specs.declared.line.ScheduleLine.TheVariants.{Passed, Header, Event}
use Rattle.promise_samples.specs.Examples.{Example}
use Rattle.lawful_trace.specs.Samples.{at, epoch, caller, inst, file, stamp, brought, members}

abbrev steady_reader_lines : List ScheduleLine
steady_reader_lines =
    Passed ∷
    Header (header.Sites 3) ∷
    Header (header.Group 0 (record { 0 = 7 })) ∷
    Event (line.Merge 1) ∷
    Event (line.Settle 1000) ∷
    Passed ∷
    Event (line.Call 1 1 (call.Create (codes "/f") None)) ∷
    Event (line.Settle 1000) ∷
    Event (line.Call 1 1 (call.Open (codes "/f") how.Write)) ∷
    Event (line.Settle 1000) ∷
    Event (line.Call 1 1 (call.Write 0 0 (97 ∷ []))) ∷
    Event (line.Settle 1000) ∷
    Event (line.Call 1 1 (call.Close 0)) ∷
    Event (line.Settle 1000) ∷
    Passed ∷
    Event (line.Call 2 1 (call.Open (codes "/f") how.Steady)) ∷
    Event (line.Call 2 2 (call.Open (codes "/f") how.Read)) ∷
    Event (line.Settle 1000) ∷
    Event (line.Call 2 1 (call.Read 0 0 9)) ∷
    Event (line.Settle 1000) ∷
    Passed ∷
    Event (line.Down 1 3) ∷
    Event (line.Down 2 3) ∷
    Event (line.Part 1) ∷
    Event (line.Part 3) ∷
    Event (line.Settle 1000) ∷
    Passed ∷
    Event (line.Call 2 1 (call.Read 0 0 9)) ∷
    Event (line.Call 2 2 (call.Read 0 0 9)) ∷
    Event (line.Settle 1000) ∷
    Passed ∷
    Event (line.Call 1 1 (call.Open (codes "/f") how.Write)) ∷
    Event (line.Settle 1000) ∷
    Passed ∷
    Event (line.Up 1 3) ∷
    Event (line.Up 2 3) ∷
    Event (line.Merge 1) ∷
    Event (line.Settle 1000) ∷
    Event (line.Call 1 1 (call.Open (codes "/f") how.Write)) ∷
    Event (line.Settle 1000) ∷
    Event (line.Call 1 1 (call.Write 0 0 (98 ∷ []))) ∷
    Event (line.Settle 1000) ∷
    Event (line.Call 1 1 (call.Close 0)) ∷
    Event (line.Settle 1000) ∷
    Passed ∷
    Event (line.Call 2 1 (call.Read 0 0 9)) ∷
    Event (line.Settle 1000) ∷
    Passed ∷
    Event (line.Call 2 1 (call.Write 0 0 (97 ∷ []))) ∷
    Event (line.Call 2 1 (call.Close 0)) ∷
    Event (line.Settle 1000) ∷
    []

abbrev steady_reader_trace : List Entry
steady_reader_trace =
    at 5 (Join 1 (epoch 1 1 1) (members (1 ∷ 1 ∷ 1 ∷ []))) ∷
    at 5 (Join 2 (epoch 1 1 1) (members (1 ∷ 1 ∷ 1 ∷ []))) ∷
    at 5 (Join 3 (epoch 1 1 1) (members (1 ∷ 1 ∷ 1 ∷ []))) ∷
    at 5 (Start (epoch 1 1 1) 0 (brought 1 (stamp 0 0) ∷ [])) ∷
    at 7 (Accept 1 1 (caller 1 1 1) (call.Create (codes "/f") None)) ∷
    at 8 (Grant (epoch 1 1 1) (caller 1 1 1) 1 (inst 1 1) mode.Write (file 0 1) (Some (stamp 0 0)) 1) ∷
    at 8 (Act (epoch 1 1 1) (inst 1 1) 1 (op.Probe (codes "f")) outcome.Done) ∷
    at 8 (Grant (epoch 1 1 1) (caller 1 1 1) 3 (inst 1 2) mode.Make (file 0 2) None 1) ∷
    at 8 (Commit (file 0 2) 1 (stamp 1 1) [] []) ∷
    at 8 (Release (epoch 1 1 1) (inst 1 2) (file 0 2) (Some (stamp 1 1))) ∷
    at 8 (Adopt (file 0 2) 2 (stamp 1 1)) ∷
    at 8 (Adopt (file 0 2) 3 (stamp 1 1)) ∷
    at 8 (Act (epoch 1 1 1) (inst 1 1) 2 (op.Insert (codes "f") 2 kind.File) outcome.Done) ∷
    at 8 (Commit (file 0 1) 1 (stamp 1 1) ((stamp 0 0) ∷ []) (1 ∷ 102 ∷ 0 ∷ 2 ∷ 1 ∷ 0 ∷ 0 ∷ 0 ∷ 1 ∷ [])) ∷
    at 8 (Release (epoch 1 1 1) (inst 1 1) (file 0 1) (Some (stamp 1 1))) ∷
    at 8 (Answer 1 1 (caller 1 1 1) (reply.Made 2)) ∷
    at 8 (Adopt (file 0 1) 2 (stamp 1 1)) ∷
    at 8 (Adopt (file 0 1) 3 (stamp 1 1)) ∷
    at 9 (Accept 1 1 (caller 1 1 2) (call.Open (codes "/f") how.Write)) ∷
    at 10 (Look (epoch 1 1 1) (caller 1 1 2) 1 (file 0 1) (what.Name (codes "f")) (served.At (stamp 1 1))) ∷
    at 10 (Grant (epoch 1 1 1) (caller 1 1 2) 2 (inst 1 3) mode.Write (file 0 2) (Some (stamp 1 1)) 1) ∷
    at 10 (Answer 1 1 (caller 1 1 2) (reply.Opened 0)) ∷
    at 11 (Accept 1 1 (caller 1 1 3) (call.Write 0 0 (97 ∷ []))) ∷
    at 12 (Act (epoch 1 1 1) (inst 1 3) 1 (op.Write 0 (97 ∷ [])) outcome.Done) ∷
    at 12 (Answer 1 1 (caller 1 1 3) reply.Done) ∷
    at 13 (Accept 1 1 (caller 1 1 4) (call.Close 0)) ∷
    at 14 (Commit (file 0 2) 1 (stamp 1 2) ((stamp 1 1) ∷ []) (97 ∷ [])) ∷
    at 14 (Release (epoch 1 1 1) (inst 1 3) (file 0 2) (Some (stamp 1 2))) ∷
    at 14 (Answer 1 1 (caller 1 1 4) (reply.Closed (Some (stamp 1 2)))) ∷
    at 14 (Adopt (file 0 2) 2 (stamp 1 2)) ∷
    at 14 (Adopt (file 0 2) 3 (stamp 1 2)) ∷
    at 16 (Accept 2 1 (caller 2 1 1) (call.Open (codes "/f") how.Steady)) ∷
    at 17 (Accept 2 2 (caller 2 1 2) (call.Open (codes "/f") how.Read)) ∷
    at 18 (Look (epoch 1 1 1) (caller 2 1 1) 1 (file 0 1) (what.Name (codes "f")) (served.At (stamp 1 1))) ∷
    at 18 (Look (epoch 1 1 1) (caller 2 1 2) 1 (file 0 1) (what.Name (codes "f")) (served.At (stamp 1 1))) ∷
    at 18 (Grant (epoch 1 1 1) (caller 2 1 1) 2 (inst 2 1) mode.Read (file 0 2) (Some (stamp 1 2)) 2) ∷
    at 18 (Grant (epoch 1 1 1) (caller 2 1 2) 2 (inst 2 2) mode.Read (file 0 2) (Some (stamp 1 2)) 2) ∷
    at 18 (Answer 2 1 (caller 2 1 1) (reply.Opened 0)) ∷
    at 18 (Answer 2 2 (caller 2 1 2) (reply.Opened 0)) ∷
    at 19 (Accept 2 1 (caller 2 1 3) (call.Read 0 0 9)) ∷
    at 20 (Act (epoch 1 1 1) (inst 2 1) 1 (op.Read 0 9) (outcome.Data (97 ∷ []))) ∷
    at 20 (Answer 2 1 (caller 2 1 3) (reply.Data (97 ∷ []))) ∷
    at 24 (Leave 1 (epoch 1 1 1)) ∷
    at 25 (Leave 3 (epoch 1 1 1)) ∷
    at 25 (Join 3 (epoch 2 3 1) (members (0 ∷ 0 ∷ 1 ∷ []))) ∷
    at 26 (Leave 2 (epoch 1 1 1)) ∷
    at 26 (Start (epoch 2 3 1) 0 (brought 1 (stamp 1 1) ∷ brought 2 (stamp 1 2) ∷ [])) ∷
    at 26 (Join 1 (epoch 2 1 1) (members (1 ∷ 1 ∷ []))) ∷
    at 26 (Join 2 (epoch 2 1 1) (members (1 ∷ 1 ∷ []))) ∷
    at 26 (Start (epoch 2 1 1) 0 (brought 1 (stamp 1 1) ∷ brought 2 (stamp 1 2) ∷ [])) ∷
    at 28 (Accept 2 1 (caller 2 1 4) (call.Read 0 0 9)) ∷
    at 29 (Accept 2 2 (caller 2 1 5) (call.Read 0 0 9)) ∷
    at 29 (Answer 2 2 (caller 2 1 5) (reply.No (refusal.Stale (epoch 1 1 1)))) ∷
    at 30 (Grant (epoch 2 1 1) (caller 2 1 4) 1 (inst 2 3) mode.Read (file 0 2) (Some (stamp 1 2)) 2) ∷
    at 30 (Act (epoch 2 1 1) (inst 2 3) 1 (op.Read 0 9) (outcome.Data (97 ∷ []))) ∷
    at 30 (Answer 2 1 (caller 2 1 4) (reply.Data (97 ∷ []))) ∷
    at 32 (Accept 1 1 (caller 1 1 5) (call.Open (codes "/f") how.Write)) ∷
    at 33 (Look (epoch 2 1 1) (caller 1 1 5) 1 (file 0 1) (what.Name (codes "f")) (served.At (stamp 1 1))) ∷
    at 33 (Refuse (epoch 2 1 1) (caller 1 1 5) 2 (inst 1 4) mode.Write (file 0 2) (refusal.Busy 2 1)) ∷
    at 33 (Answer 1 1 (caller 1 1 5) (reply.No (refusal.Busy 2 1))) ∷
    at 37 (Leave 1 (epoch 2 1 1)) ∷
    at 38 (Leave 2 (epoch 2 1 1)) ∷
    at 38 (Leave 3 (epoch 2 3 1)) ∷
    at 38 (Join 1 (epoch 3 1 1) (members (1 ∷ 1 ∷ 1 ∷ []))) ∷
    at 38 (Join 2 (epoch 3 1 1) (members (1 ∷ 1 ∷ 1 ∷ []))) ∷
    at 38 (Join 3 (epoch 3 1 1) (members (1 ∷ 1 ∷ 1 ∷ []))) ∷
    at 38 (Start (epoch 3 1 1) 0 (brought 1 (stamp 1 1) ∷ brought 2 (stamp 1 2) ∷ [])) ∷
    at 39 (Accept 1 1 (caller 1 1 6) (call.Open (codes "/f") how.Write)) ∷
    at 40 (Look (epoch 3 1 1) (caller 1 1 6) 1 (file 0 1) (what.Name (codes "f")) (served.At (stamp 1 1))) ∷
    at 40 (Grant (epoch 3 1 1) (caller 1 1 6) 2 (inst 1 5) mode.Write (file 0 2) (Some (stamp 1 2)) 1) ∷
    at 40 (Answer 1 1 (caller 1 1 6) (reply.Opened 0)) ∷
    at 41 (Accept 1 1 (caller 1 1 7) (call.Write 0 0 (98 ∷ []))) ∷
    at 42 (Act (epoch 3 1 1) (inst 1 5) 1 (op.Write 0 (98 ∷ [])) outcome.Done) ∷
    at 42 (Answer 1 1 (caller 1 1 7) reply.Done) ∷
    at 43 (Accept 1 1 (caller 1 1 8) (call.Close 0)) ∷
    at 44 (Commit (file 0 2) 1 (stamp 1 3) ((stamp 1 2) ∷ []) (98 ∷ [])) ∷
    at 44 (Release (epoch 3 1 1) (inst 1 5) (file 0 2) (Some (stamp 1 3))) ∷
    at 44 (Answer 1 1 (caller 1 1 8) (reply.Closed (Some (stamp 1 3)))) ∷
    at 44 (Adopt (file 0 2) 2 (stamp 1 3)) ∷
    at 44 (Adopt (file 0 2) 3 (stamp 1 3)) ∷
    at 46 (Accept 2 1 (caller 2 1 6) (call.Read 0 0 9)) ∷
    at 47 (Grant (epoch 3 1 1) (caller 2 1 6) 1 (inst 2 4) mode.Read (file 0 2) (Some (stamp 1 3)) 2) ∷
    at 47 (Release (epoch 3 1 1) (inst 2 4) (file 0 2) None) ∷
    at 47 (Answer 2 1 (caller 2 1 6) (reply.No (refusal.Stale (epoch 2 1 1)))) ∷
    at 49 (Accept 2 1 (caller 2 1 7) (call.Write 0 0 (97 ∷ []))) ∷
    at 49 (Answer 2 1 (caller 2 1 7) (reply.No refusal.ReadOnly)) ∷
    at 50 (Accept 2 1 (caller 2 1 8) (call.Close 0)) ∷
    at 50 (Answer 2 1 (caller 2 1 8) (reply.Closed None)) ∷
    []

abbrev pub steady_reader : Example
steady_reader = record { lines = steady_reader_lines; trace = steady_reader_trace }
