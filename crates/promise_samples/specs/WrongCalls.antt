-- Wrong records of calls and mends. Each trace is right but for its last record; the comment says what is wrong.
use Rattle.std.specs.Prelude.{[], ◌∷◌, None, Some, codes}
use Rattle.locus_ids.specs.declared.ids.Mode.TheVariants as mode
use Rattle.trace_book.specs.declared.call.Call.TheVariants as call
use Rattle.trace_book.specs.declared.record.StopCause.TheVariants as cause
use Rattle.trace_book.specs.declared.record.Record.TheVariants.{Stopped, Leave, Accept, Grant}
use Rattle.promise_samples.specs.Examples.{Example, first_of, printed}
use Rattle.promise_samples.specs.First.{first}
use Rattle.promise_samples.specs.OtherGroup.{other_group}
use Rattle.trace_samples.specs.FlaggedRun.{flagged_run}
use Rattle.trace_samples.specs.PartedRun.{parted_run}
use Rattle.promise_samples.specs.RemovedAndChanged.{removed_and_changed}
use Rattle.promise_samples.specs.RemovedElsewhere.{removed_elsewhere}
use Rattle.lawful_trace.specs.Samples.{at, epoch, caller, inst, file, stamp}

-- a stopped site accepts a call
abbrev pub call_at_a_stopped_site : Example
call_at_a_stopped_site = first_of 2 first (at 5 (Stopped 1 cause.Asked) ∷ at 6 (Accept 1 1 (caller 1 1 1) (call.List (codes "/"))) ∷ [])

-- a process of a user mends a directory
abbrev pub mend_by_a_process : Example
mend_by_a_process = first_of 29 (printed parted_run) (at 12 (Accept 1 1 (caller 1 1 2) (call.Mend (file 0 1))) ∷ [])

-- a file is mended that is no directory
abbrev pub mend_of_a_file : Example
mend_of_a_file = first_of 48 (printed flagged_run) (at 22 (Accept 1 0 (caller 1 1 5) (call.Mend (file 0 2))) ∷ [])

-- a site mends a directory in an epoch that it has left
abbrev pub mend_outside_its_epoch : Example
mend_outside_its_epoch = first_of 29 (printed parted_run) (at 13 (Leave 1 (epoch 2 1 1)) ∷ at 13 (Accept 1 0 (caller 1 1 2) (call.Mend (file 0 1))) ∷ [])

-- a member mends a directory that isn't its group's synchronization site
abbrev pub mend_by_another_site : Example
mend_by_another_site = first_of 29 (printed parted_run) (at 12 (Accept 2 0 (caller 2 1 2) (call.Mend (file 0 1))) ∷ [])

-- a directory is mended before its group has started
abbrev pub mend_before_the_start : Example
mend_before_the_start = first_of 28 (printed parted_run) (at 12 (Accept 1 0 (caller 1 1 2) (call.Mend (file 0 1))) ∷ [])

-- a directory is mended that a call has open
abbrev pub mend_of_an_open_directory : Example
mend_of_an_open_directory = first_of 57 removed_and_changed (at 30 (Accept 2 1 (caller 2 1 1) (call.Create (codes "/g") None)) ∷ at 31 (Grant (epoch 3 1 1) (caller 2 1 1) 1 (inst 2 1) mode.Write (file 0 1) (Some (stamp 1 2)) 2) ∷ at 31 (Accept 1 0 (caller 1 1 4) (call.Mend (file 0 1))) ∷ [])

-- a rescue is begun at a site that hasn't the directory's only kept version yet
abbrev pub mend_from_an_older_copy : Example
mend_from_an_older_copy = first_of 46 removed_elsewhere (at 22 (Accept 1 0 (caller 1 1 5) (call.Mend (file 0 1))) ∷ [])

-- two mends of a group wait at one site
abbrev pub two_mends_at_once : Example
two_mends_at_once = first_of 30 (printed parted_run) (at 12 (Accept 1 0 (caller 1 1 3) (call.Mend (file 0 1))) ∷ [])

-- a mend has the number after the next
abbrev pub skipped_call_number_of_a_mend : Example
skipped_call_number_of_a_mend = first_of 29 (printed parted_run) (at 12 (Accept 1 0 (caller 1 1 3) (call.Mend (file 0 1))) ∷ [])

-- a directory is mended for a file of another group, which has the number of one that was removed in it
abbrev pub mend_for_another_group : Example
mend_for_another_group = first_of 43 other_group (at 20 (Accept 1 0 (caller 1 1 7) (call.Mend (file 0 1))) ∷ [])
