-- A file is made for a site that is no member of the epoch: no member can store it.
use Rattle.std.specs.Prelude.{List, [], ◌∷◌, None, Some, codes}
use Rattle.locus_ids.specs.declared.ids.Mode.TheVariants as mode
use Rattle.locus_ids.specs.declared.refusal.Refusal.TheVariants as refusal
use Rattle.trace_book.specs.declared.call.Call.TheVariants as call
use Rattle.trace_book.specs.declared.operation.Op.TheVariants as op
use Rattle.trace_book.specs.declared.operation.Outcome.TheVariants as outcome
use Rattle.trace_book.specs.declared.reply.Reply.TheVariants as reply
use Rattle.schedule_lines.specs.declared.header.HeaderLine.TheVariants as header
use Rattle.schedule_lines.specs.declared.line.Line.TheVariants as line
use Rattle.trace_book.specs.declared.record.Record.TheVariants.{Join, Start, Accept, Grant, Refuse, Act, Release, Answer}
use Rattle.trace_book.specs.declared.entry.Entry.{Entry}
use Rattle.schedule_lines.specs.declared.line.ScheduleLine.{ScheduleLine}
use Rattle.schedule_lines.specs.declared.line.ScheduleLine.TheVariants.{Passed, Header, Event}
use Rattle.promise_samples.specs.Examples.{Example}
use Rattle.lawful_trace.specs.Samples.{at, epoch, caller, inst, file, stamp, brought, members}

abbrev no_member_lines : List ScheduleLine
no_member_lines =
    Passed ∷
    Header (header.Sites 2) ∷
    Header (header.Group 0 (record { 0 = 3 })) ∷
    Event (line.Down 1 2) ∷
    Event (line.Merge 1) ∷
    Event (line.Settle 1000) ∷
    Event (line.Call 1 1 (call.Create (codes "/a") (Some (record { 0 = 2 })))) ∷
    Event (line.Settle 1000) ∷
    []

abbrev no_member_trace : List Entry
no_member_trace =
    at 5 (Join 1 (epoch 1 1 1) (members (1 ∷ []))) ∷
    at 6 (Start (epoch 1 1 1) 0 (brought 1 (stamp 0 0) ∷ [])) ∷
    at 7 (Accept 1 1 (caller 1 1 1) (call.Create (codes "/a") (Some (record { 0 = 2 })))) ∷
    at 8 (Grant (epoch 1 1 1) (caller 1 1 1) 1 (inst 1 1) mode.Write (file 0 1) (Some (stamp 0 0)) 1) ∷
    at 8 (Act (epoch 1 1 1) (inst 1 1) 1 (op.Probe (codes "a")) outcome.Done) ∷
    at 8 (Refuse (epoch 1 1 1) (caller 1 1 1) 3 (inst 1 2) mode.Make (file 0 0) refusal.NoStorage) ∷
    at 8 (Release (epoch 1 1 1) (inst 1 1) (file 0 1) None) ∷
    at 8 (Answer 1 1 (caller 1 1 1) (reply.No refusal.NoStorage)) ∷
    []

abbrev pub no_member : Example
no_member = record { lines = no_member_lines; trace = no_member_trace }
