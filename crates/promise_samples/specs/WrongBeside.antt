-- Traces that a promise beside the headline refuses; the rows let all through but one of a refused call.
use Rattle.std.specs.Prelude.{[], ◌∷◌, None, codes, drop}
use Rattle.locus_ids.specs.declared.refusal.Refusal.TheVariants as refusal
use Rattle.trace_book.specs.declared.reply.Reply.TheVariants as reply
use Rattle.trace_book.specs.declared.call.Call.TheVariants as call
use Rattle.trace_book.specs.declared.record.Record.TheVariants.{Accept, Commit, Answer, Budget}
use Rattle.schedule_lines.specs.declared.header.HeaderLine.TheVariants as header
use Rattle.schedule_lines.specs.declared.line.Line.TheVariants as line
use Rattle.schedule_lines.specs.declared.line.ScheduleLine.TheVariants.{Header, Event}
use Rattle.promise_samples.specs.Examples.{Example, first_of}
use Rattle.promise_samples.specs.Changed.{changed}
use Rattle.promise_samples.specs.First.{first}
use Rattle.lawful_trace.specs.Samples.{at, caller, file, stamp}

-- a version is committed directly after the write, so that an abort would drop nothing
abbrev pub commit_that_is_not_asked : Example
commit_that_is_not_asked = first_of 18 first (at 10 (Commit (file 0 2) 1 (stamp 1 2) (stamp 1 1 ∷ []) (104 ∷ 105 ∷ [])) ∷ [])

-- a site leaves its epoch, and the call that waits there isn't told
abbrev pub missing_changed : Example
missing_changed = first_of 25 changed (drop 26 changed.trace)

-- a create is refused, and its directory has the new name
abbrev pub refused_and_done : Example
refused_and_done = first_of 11 first (at 6 (Answer 1 1 (caller 1 1 1) (reply.No (refusal.NoSpace 1 0))) ∷ [])

-- each round ends by its budget, as large as that is, so that no site joins an epoch and each call is refused
abbrev pub rounds_without_end : Example
rounds_without_end = record {
  lines =
      Header (header.Sites 1) ∷
      Header (header.Group 0 (record { 0 = 1 })) ∷
      Event (line.Merge 1) ∷
      Event (line.Settle 262144) ∷
      Event (line.Call 1 1 (call.Create (codes "/a") None)) ∷
      Event (line.Settle 262144) ∷
      [];
  trace =
      at 4 Budget ∷
      at 5 (Accept 1 1 (caller 1 1 1) (call.Create (codes "/a") None)) ∷
      at 5 (Answer 1 1 (caller 1 1 1) (reply.No refusal.NoPartition)) ∷
      at 6 Budget ∷
      [];
}
