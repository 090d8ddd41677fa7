-- Traces that break one phrase of the headline each, by their last record.
use Rattle.std.specs.Prelude.{[], ◌∷◌, None, Some, codes}
use Rattle.locus_ids.specs.declared.ids.Mode.TheVariants as mode
use Rattle.locus_ids.specs.declared.refusal.Refusal.TheVariants as refusal
use Rattle.trace_book.specs.declared.operation.What.TheVariants as what
use Rattle.trace_book.specs.declared.operation.Served.TheVariants as served
use Rattle.trace_book.specs.declared.reply.Reply.TheVariants as reply
use Rattle.trace_book.specs.declared.record.Record.TheVariants.{Look, Grant, Refuse, Adopt, Answer}
use Rattle.promise_samples.specs.Examples.{Example, first_of, printed}
use Rattle.promise_samples.specs.ConflictAndResolve.{conflict_and_resolve}
use Rattle.promise_samples.specs.First.{first}
use Rattle.trace_samples.specs.FlaggedRun.{flagged_run}
use Rattle.trace_samples.specs.PartedRun.{parted_run}
use Rattle.lawful_trace.specs.Samples.{at, epoch, caller, inst, file, stamp}

-- a site has a version that nobody has committed
abbrev pub version_of_nobody_held : Example
version_of_nobody_held = first_of 15 (printed flagged_run) (at 6 (Adopt (file 0 2) 2 (stamp 1 9)) ∷ [])

-- a look is served one
abbrev pub version_of_nobody_served : Example
version_of_nobody_served = first_of 13 first (at 8 (Look (epoch 1 1 1) (caller 1 1 2) 1 (file 0 1) (what.Name (codes "a")) (served.At (stamp 1 9))) ∷ [])

-- a file is opened on one
abbrev pub version_of_nobody_opened : Example
version_of_nobody_opened = first_of 14 first (at 8 (Grant (epoch 1 1 1) (caller 1 1 2) 2 (inst 1 3) mode.Write (file 0 2) (Some (stamp 1 9)) 1) ∷ [])

-- a close is acknowledged with one
abbrev pub version_of_nobody_acknowledged : Example
version_of_nobody_acknowledged = first_of 22 first (at 12 (Answer 1 1 (caller 1 1 4) (reply.Closed (Some (stamp 1 9)))) ∷ [])

-- a site takes an older version in place of the one that it has acknowledged
abbrev pub acknowledged_version_given_up : Example
acknowledged_version_given_up = first_of 23 first (at 12 (Adopt (file 0 2) 1 (stamp 1 1)) ∷ [])

-- a site takes a version beside its own, which no site has then
abbrev pub commit_given_up : Example
commit_given_up = first_of 29 (printed parted_run) (at 12 (Adopt (file 0 1) 2 (stamp 1 1)) ∷ [])

-- a file of which two versions are kept beside each other is opened to read
abbrev pub conflict_passed_over : Example
conflict_passed_over = first_of 50 (printed flagged_run) (at 24 (Grant (epoch 3 1 1) (caller 1 1 5) 2 (inst 1 4) mode.Read (file 0 2) (Some (stamp 1 2)) 1) ∷ [])

-- and to write
abbrev pub conflict_written_over : Example
conflict_written_over = first_of 50 (printed flagged_run) (at 24 (Grant (epoch 3 1 1) (caller 1 1 5) 2 (inst 1 4) mode.Write (file 0 2) (Some (stamp 1 2)) 1) ∷ [])

-- a look is served one of them
abbrev pub conflict_served : Example
conflict_served = first_of 50 (printed flagged_run) (at 24 (Look (epoch 3 1 1) (caller 1 1 5) 2 (file 0 2) what.Stat (served.At (stamp 1 2))) ∷ [])

-- a conflict is told of a file of which one version is kept
abbrev pub conflict_of_one_version : Example
conflict_of_one_version = first_of 14 first (at 8 (Refuse (epoch 1 1 1) (caller 1 1 2) 2 (inst 1 3) mode.Write (file 0 2) (refusal.Conflict (stamp 1 1) (stamp 2 1))) ∷ [])

-- a conflict names another version than the two least
abbrev pub conflict_of_others : Example
conflict_of_others = first_of 58 conflict_and_resolve (at 35 (Refuse (epoch 3 1 1) (caller 1 1 5) 2 (inst 1 4) mode.Read (file 0 2) (refusal.Conflict (stamp 1 1) (stamp 3 1))) ∷ [])

-- a look is told so
abbrev pub conflict_of_others_looked_at : Example
conflict_of_others_looked_at = first_of 58 conflict_and_resolve (at 35 (Look (epoch 3 1 1) (caller 1 1 5) 2 (file 0 2) what.Stat (served.No (refusal.Conflict (stamp 1 1) (stamp 3 1)))) ∷ [])
