-- A round with a large budget that starts calm stays calm to its end.
use Rattle.std.specs.Prelude.{List, [], ◌∷◌, None, Some, codes}
use Rattle.locus_ids.specs.declared.ids.Kind.TheVariants as kind
use Rattle.locus_ids.specs.declared.ids.Mode.TheVariants as mode
use Rattle.trace_book.specs.declared.call.Call.TheVariants as call
use Rattle.trace_book.specs.declared.operation.Op.TheVariants as op
use Rattle.trace_book.specs.declared.operation.Outcome.TheVariants as outcome
use Rattle.trace_book.specs.declared.reply.Reply.TheVariants as reply
use Rattle.schedule_lines.specs.declared.header.HeaderLine.TheVariants as header
use Rattle.schedule_lines.specs.declared.line.Line.TheVariants as line
use Rattle.trace_book.specs.declared.record.Record.TheVariants.{Join, Start, Accept, Grant, Act, Commit, Release, Adopt, Answer, Budget}
use Rattle.trace_book.specs.declared.entry.Entry.{Entry}
use Rattle.schedule_lines.specs.declared.line.ScheduleLine.{ScheduleLine}
use Rattle.schedule_lines.specs.declared.line.ScheduleLine.TheVariants.{Passed, Header, Event}
use Rattle.promise_samples.specs.Examples.{Example}
use Rattle.lawful_trace.specs.Samples.{at, epoch, caller, inst, file, stamp, brought, members}

abbrev stays_calm_lines : List ScheduleLine
stays_calm_lines =
    Passed ∷
    Header (header.Sites 3) ∷
    Header (header.Group 0 (record { 0 = 7 })) ∷
    Event (line.Merge 1) ∷
    Event (line.Settle 1000) ∷
    Event (line.Call 3 1 (call.Create (codes "/a") None)) ∷
    Passed ∷
    Event (line.Settle 2) ∷
    Passed ∷
    Passed ∷
    Passed ∷
    Event (line.Settle 262144) ∷
    []

abbrev stays_calm_trace : List Entry
stays_calm_trace =
    at 5 (Join 1 (epoch 1 1 1) (members (1 ∷ 1 ∷ 1 ∷ []))) ∷
    at 5 (Join 2 (epoch 1 1 1) (members (1 ∷ 1 ∷ 1 ∷ []))) ∷
    at 5 (Join 3 (epoch 1 1 1) (members (1 ∷ 1 ∷ 1 ∷ []))) ∷
    at 5 (Start (epoch 1 1 1) 0 (brought 1 (stamp 0 0) ∷ [])) ∷
    at 6 (Accept 3 1 (caller 3 1 1) (call.Create (codes "/a") None)) ∷
    at 8 (Grant (epoch 1 1 1) (caller 3 1 1) 1 (inst 3 1) mode.Write (file 0 1) (Some (stamp 0 0)) 3) ∷
    at 8 (Budget) ∷
    at 12 (Act (epoch 1 1 1) (inst 3 1) 1 (op.Probe (codes "a")) outcome.Done) ∷
    at 12 (Grant (epoch 1 1 1) (caller 3 1 1) 3 (inst 3 2) mode.Make (file 0 129) None 3) ∷
    at 12 (Commit (file 0 129) 3 (stamp 3 1) [] []) ∷
    at 12 (Release (epoch 1 1 1) (inst 3 2) (file 0 129) (Some (stamp 3 1))) ∷
    at 12 (Adopt (file 0 129) 1 (stamp 3 1)) ∷
    at 12 (Adopt (file 0 129) 2 (stamp 3 1)) ∷
    at 12 (Act (epoch 1 1 1) (inst 3 1) 2 (op.Insert (codes "a") 129 kind.File) outcome.Done) ∷
    at 12 (Commit (file 0 1) 3 (stamp 3 1) ((stamp 0 0) ∷ []) (1 ∷ 97 ∷ 0 ∷ 129 ∷ 1 ∷ 0 ∷ 0 ∷ 0 ∷ 1 ∷ [])) ∷
    at 12 (Release (epoch 1 1 1) (inst 3 1) (file 0 1) (Some (stamp 3 1))) ∷
    at 12 (Answer 3 1 (caller 3 1 1) (reply.Made 129)) ∷
    at 12 (Adopt (file 0 1) 1 (stamp 3 1)) ∷
    at 12 (Adopt (file 0 1) 2 (stamp 3 1)) ∷
    []

abbrev pub stays_calm : Example
stays_calm = record { lines = stays_calm_lines; trace = stays_calm_trace }
