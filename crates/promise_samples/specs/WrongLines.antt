-- Traces whose records the rows let through, and that their lines don't ask for.
use Rattle.std.specs.Prelude.{ℕ, List, [], ◌∷◌, ◌++◌, take, Some, codes}
use Rattle.locus_ids.specs.declared.ids.Mode.TheVariants as mode
use Rattle.trace_book.specs.declared.call.Call.TheVariants as call
use Rattle.trace_book.specs.declared.call.OpenMode.TheVariants as how
use Rattle.trace_book.specs.declared.entry.Entry.{Entry}
use Rattle.trace_book.specs.declared.operation.Op.TheVariants as op
use Rattle.trace_book.specs.declared.operation.Outcome.TheVariants as outcome
use Rattle.trace_book.specs.declared.operation.What.TheVariants as what
use Rattle.trace_book.specs.declared.operation.Served.TheVariants as served
use Rattle.trace_book.specs.declared.reply.Reply.TheVariants as reply
use Rattle.trace_book.specs.declared.record.StopCause.TheVariants as cause
use Rattle.trace_book.specs.declared.record.Record.TheVariants.{Up, Stopped, Leave, Join, Start, Accept, Look, Grant, Act, Commit, Answer, Void, Budget}
use Rattle.schedule_lines.specs.declared.line.Leave.TheVariants as leave
use Rattle.schedule_lines.specs.declared.line.Line.TheVariants as line
use Rattle.schedule_lines.specs.declared.line.ScheduleLine.{ScheduleLine}
use Rattle.schedule_lines.specs.declared.line.ScheduleLine.TheVariants.{Event}
use Rattle.lawful_trace.specs.Samples.{at, epoch, caller, inst, file, stamp, brought, members}
use Rattle.promise_samples.specs.Examples.{Example, printed}
use Rattle.promise_samples.specs.First.{first}
use Rattle.promise_samples.specs.StopInsideAWrite.{stop_inside_a_write}
use Rattle.promise_samples.specs.TwoCloses.{two_closes}
use Rattle.trace_samples.specs.FlaggedRun.{flagged_run}

-- the first so many lines and records of an example, and these
abbrev pub begun : ℕ → ℕ → Example → List ScheduleLine → List Entry → Example
begun lines records x more after = record { lines = take lines x.lines ++ more; trace = take records x.trace ++ after }

-- Stops.

-- a version is told that its stop doesn't leave, and another version was underway then too
abbrev pub version_not_left_beside_another : Example
version_not_left_beside_another = begun 19 38 two_closes [] (at 19 (Commit (file 0 2) 1 (stamp 1 2) (stamp 1 1 ∷ []) (97 ∷ [])) ∷ at 19 (Stopped 1 cause.Fuse) ∷ [])

-- a site stops within a version at a line that delivers no packet
abbrev pub stop_where_nothing_is_delivered : Example
stop_where_nothing_is_delivered = begun 19 31 stop_inside_a_write (Event (line.ArmStop 1 0 leave.Old) ∷ Event (line.Call 1 1 (call.Close 0)) ∷ []) (at 21 (Stopped 1 cause.Fuse) ∷ [])

-- a site stops within a version that another site writes
abbrev pub stop_in_anothers_version : Example
stop_in_anothers_version = begun 6 15 (printed flagged_run)
    (Event (line.Call 1 1 (call.Open (codes "/a") how.Write)) ∷ Event (line.Settle 1000) ∷ Event (line.Call 1 1 (call.Write 0 0 (97 ∷ []))) ∷ Event (line.Settle 1000) ∷ Event (line.ArmStop 2 0 leave.Old) ∷ Event (line.Call 1 1 (call.Close 0)) ∷ Event (line.Settle 1000) ∷ [])
    (at 7 (Accept 1 1 (caller 1 1 2) (call.Open (codes "/a") how.Write))
    ∷ at 8 (Look (epoch 1 1 1) (caller 1 1 2) 1 (file 0 1) (what.Name (codes "a")) (served.At (stamp 1 1)))
    ∷ at 8 (Grant (epoch 1 1 1) (caller 1 1 2) 2 (inst 1 3) mode.Write (file 0 2) (Some (stamp 1 1)) 1)
    ∷ at 8 (Answer 1 1 (caller 1 1 2) (reply.Opened 0))
    ∷ at 9 (Accept 1 1 (caller 1 1 3) (call.Write 0 0 (97 ∷ [])))
    ∷ at 10 (Act (epoch 1 1 1) (inst 1 3) 1 (op.Write 0 (97 ∷ [])) outcome.Done)
    ∷ at 10 (Answer 1 1 (caller 1 1 3) reply.Done)
    ∷ at 12 (Accept 1 1 (caller 1 1 4) (call.Close 0))
    ∷ at 13 (Stopped 2 cause.Fuse)
    ∷ [])

-- a site stops within an adoption at a line that cuts a circuit
abbrev pub stop_in_an_adoption_where_no_site_ticks : Example
stop_in_an_adoption_where_no_site_ticks = begun 5 9 (printed flagged_run) (Event (line.Settle 20) ∷ Event (line.ArmStop 2 0 leave.Old) ∷ Event (line.Down 1 2) ∷ []) (at 6 Budget ∷ at 8 (Stopped 2 cause.Fuse) ∷ [])

-- a stopped site is stopped within a disk call at a line that doesn't boot it
abbrev pub stop_without_a_boot : Example
stop_without_a_boot = begun 4 2 first (Event (line.Stop 1) ∷ Event (line.ArmStop 1 0 leave.Old) ∷ Event (line.Settle 1000) ∷ []) (at 5 (Stopped 1 cause.Asked) ∷ at 7 (Stopped 1 cause.Fuse) ∷ [])

-- a boot makes six disk calls, and the site stops at the seventh
abbrev pub stop_after_a_boot : Example
stop_after_a_boot = begun 4 2 first (Event (line.Stop 1) ∷ Event (line.ArmStop 1 6 leave.Old) ∷ Event (line.Boot 1) ∷ []) (at 5 (Stopped 1 cause.Asked) ∷ at 7 (Stopped 1 cause.Fuse) ∷ [])

-- Protocols.

-- two sites join an epoch of the one that has asked for nothing
abbrev pub join_of_anothers_epoch : Example
join_of_anothers_epoch = begun 4 0 (printed flagged_run) [] (at 4 (Join 1 (epoch 1 2 1) (members (1 ∷ 1 ∷ []))) ∷ [])

-- a site parts, and joins an epoch of the other one, which has asked for nothing
abbrev pub join_of_anothers_part : Example
join_of_anothers_part = begun 6 15 (printed flagged_run) (Event (line.Part 1) ∷ []) (at 7 (Leave 1 (epoch 1 1 1)) ∷ at 7 (Join 1 (epoch 2 2 1) (members (1 ∷ []))) ∷ [])

-- a site joins an epoch that its own line to merge would have founded while it was stopped
abbrev pub join_by_a_void_merge : Example
join_by_a_void_merge = begun 2 0 (printed flagged_run) (Event (line.Stop 1) ∷ Event (line.Merge 1) ∷ Event (line.Settle 1000) ∷ []) (at 3 (Stopped 1 cause.Asked) ∷ at 4 Void ∷ at 5 (Join 2 (epoch 1 1 1) (members (1 ∷ 1 ∷ []))) ∷ [])

-- a site joins an epoch by a line to part while it was in none
abbrev pub join_by_a_void_part : Example
join_by_a_void_part = begun 2 0 first (Event (line.Part 1) ∷ Event (line.Settle 1000) ∷ []) (at 3 Void ∷ at 4 (Join 1 (epoch 1 1 1) (members (1 ∷ []))) ∷ [])

-- a site joins an epoch of a boot in which nothing was asked of it
abbrev pub join_of_a_boot_that_asked_nothing : Example
join_of_a_boot_that_asked_nothing = begun 3 0 first (Event (line.Stop 1) ∷ Event (line.Boot 1) ∷ Event (line.Settle 1000) ∷ []) (at 4 (Stopped 1 cause.Asked) ∷ at 5 (Up 1 2) ∷ at 6 (Join 1 (epoch 1 1 2) (members (2 ∷ []))) ∷ [])

-- What lines tell.

-- a call is answered at a line that is void
abbrev pub reply_beside_a_void : Example
reply_beside_a_void = begun 4 2 first
    (Event (line.Call 1 1 (call.List (codes "/"))) ∷ Event (line.Settle 2) ∷ Event (line.Boot 1) ∷ [])
    (at 5 (Accept 1 1 (caller 1 1 1) (call.List (codes "/"))) ∷ at 6 (Look (epoch 1 1 1) (caller 1 1 1) 1 (file 0 1) what.List (served.At (stamp 0 0))) ∷ at 6 Budget ∷ at 7 Void ∷ at 7 (Answer 1 1 (caller 1 1 1) (reply.Names [])) ∷ [])

-- and the line doesn't tell that it is void
abbrev pub reply_in_place_of_a_void : Example
reply_in_place_of_a_void = begun 4 2 first
    (Event (line.Call 1 1 (call.List (codes "/"))) ∷ Event (line.Settle 2) ∷ Event (line.Boot 1) ∷ [])
    (at 5 (Accept 1 1 (caller 1 1 1) (call.List (codes "/"))) ∷ at 6 (Look (epoch 1 1 1) (caller 1 1 1) 1 (file 0 1) what.List (served.At (stamp 0 0))) ∷ at 6 Budget ∷ at 7 (Answer 1 1 (caller 1 1 1) (reply.Names [])) ∷ [])

-- a round tells that it is void
abbrev pub void_round : Example
void_round = begun 4 2 first [] (at 4 Void ∷ [])

-- Order.

-- a record is of an earlier line than the one before it
abbrev pub record_of_an_earlier_line : Example
record_of_an_earlier_line = begun 4 0 first [] (at 4 (Join 1 (epoch 1 1 1) (members (1 ∷ []))) ∷ at 3 (Start (epoch 1 1 1) 0 (brought 1 (stamp 0 0) ∷ [])) ∷ [])

-- a record is of a line that isn't there
abbrev pub record_of_no_line : Example
record_of_no_line = begun 4 1 first [] (at 5 (Start (epoch 1 1 1) 0 (brought 1 (stamp 0 0) ∷ [])) ∷ [])
