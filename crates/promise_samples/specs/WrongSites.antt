-- Wrong records of sites, epochs and starts of groups. Each trace is right but for its last record; the comment says what is wrong.
use Rattle.std.specs.Prelude.{[], ◌∷◌}
use Rattle.trace_book.specs.declared.record.StopCause.TheVariants as cause
use Rattle.trace_book.specs.declared.record.Record.TheVariants.{Up, Stopped, Leave, Join, Start}
use Rattle.promise_samples.specs.Examples.{Example, first_of, printed}
use Rattle.promise_samples.specs.First.{first}
use Rattle.trace_samples.specs.FlaggedRun.{flagged_run}
use Rattle.promise_samples.specs.RemovedAndChanged.{removed_and_changed}
use Rattle.lawful_trace.specs.Samples.{at, epoch, stamp, brought, members}

-- a site boots that is none of the cluster
abbrev pub boot_of_no_site : Example
boot_of_no_site = first_of 2 first (at 5 (Up 9 2) ∷ [])

-- a site boots that runs
abbrev pub boot_of_a_running_site : Example
boot_of_a_running_site = first_of 2 first (at 5 (Up 1 2) ∷ [])

-- a site is stopped that is stopped already
abbrev pub stop_of_a_stopped_site : Example
stop_of_a_stopped_site = first_of 2 first (at 5 (Stopped 1 cause.Asked) ∷ at 6 (Stopped 1 cause.Asked) ∷ [])

-- a site stops within a disk call that is none of the cluster
abbrev pub stop_of_no_site : Example
stop_of_no_site = first_of 2 first (at 5 (Stopped 9 cause.Fuse) ∷ [])

-- a site leaves an epoch that it isn't in
abbrev pub leave_of_another_epoch : Example
leave_of_another_epoch = first_of 2 first (at 5 (Leave 1 (epoch 2 1 1)) ∷ [])

-- a site joins an epoch while it is stopped
abbrev pub join_of_a_stopped_site : Example
join_of_a_stopped_site = first_of 1 (printed flagged_run) (at 5 (Stopped 2 cause.Asked) ∷ at 6 (Join 2 (epoch 1 1 1) (members (1 ∷ 1 ∷ []))) ∷ [])

-- a site joins an epoch and hasn't left the one that it is in
abbrev pub join_beside_an_epoch : Example
join_beside_an_epoch = first_of 2 first (at 5 (Join 1 (epoch 2 1 1) (members (1 ∷ []))) ∷ [])

-- a site joins an epoch below one that it has joined in the same boot
abbrev pub join_of_a_lower_epoch : Example
join_of_a_lower_epoch = first_of 57 removed_and_changed (at 30 (Leave 2 (epoch 3 1 1)) ∷ at 31 (Join 2 (epoch 2 2 1) (members (0 ∷ 1 ∷ []))) ∷ [])

-- a site joins an epoch whose list has another boot number of it
abbrev pub join_of_an_earlier_boot : Example
join_of_an_earlier_boot = first_of 0 first (at 3 (Join 1 (epoch 1 1 1) (members (2 ∷ []))) ∷ [])

-- a group starts twice in an epoch
abbrev pub start_twice : Example
start_twice = first_of 2 first (at 4 (Start (epoch 1 1 1) 0 (brought 1 (stamp 0 0) ∷ [])) ∷ [])

-- a group starts of which no member has a pack
abbrev pub start_of_a_group_without_a_pack : Example
start_of_a_group_without_a_pack = first_of 2 first (at 4 (Start (epoch 1 1 1) 1 []) ∷ [])

-- a group starts before a member with a pack has joined
abbrev pub start_before_all_are_in : Example
start_before_all_are_in = first_of 1 (printed flagged_run) (at 4 (Start (epoch 1 1 1) 0 (brought 1 (stamp 0 0) ∷ [])) ∷ [])

-- a site joins an epoch of the number that it has just left, which a lower site forms in a later boot
abbrev pub join_of_a_lower_site : Example
join_of_a_lower_site = first_of 53 removed_and_changed (at 29 (Join 3 (epoch 2 2 2) (members (0 ∷ 2 ∷ 1 ∷ []))) ∷ [])

-- a site joins an epoch of the number and the site that it has just left, of an earlier boot of that site
abbrev pub join_of_a_lower_boot : Example
join_of_a_lower_boot = first_of 57 removed_and_changed (at 30 (Stopped 1 cause.Asked) ∷ at 31 (Up 1 2) ∷ at 32 (Leave 2 (epoch 3 1 1)) ∷ at 33 (Join 2 (epoch 4 1 2) (members (2 ∷ 1 ∷ []))) ∷ at 34 (Leave 2 (epoch 4 1 2)) ∷ at 35 (Join 2 (epoch 4 1 1) (members (1 ∷ 1 ∷ []))) ∷ [])
