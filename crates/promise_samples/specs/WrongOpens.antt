-- Wrong grants and refusals. Each trace is right but for its last record; the comment says what is wrong.
use Rattle.std.specs.Prelude.{[], ◌∷◌, None, Some, codes}
use Rattle.locus_ids.specs.declared.ids.Mode.TheVariants as mode
use Rattle.locus_ids.specs.declared.refusal.Refusal.TheVariants as refusal
use Rattle.trace_book.specs.declared.call.Call.TheVariants as call
use Rattle.trace_book.specs.declared.call.OpenMode.TheVariants as how
use Rattle.trace_book.specs.declared.operation.Op.TheVariants as op
use Rattle.trace_book.specs.declared.operation.Outcome.TheVariants as outcome
use Rattle.trace_book.specs.declared.operation.What.TheVariants as what
use Rattle.trace_book.specs.declared.operation.Served.TheVariants as served
use Rattle.trace_book.specs.declared.record.Record.TheVariants.{Accept, Look, Grant, Refuse, Act}
use Rattle.promise_samples.specs.Examples.{Example, first_of, printed}
use Rattle.promise_samples.specs.BoundedRequests.{bounded_requests}
use Rattle.promise_samples.specs.Busy.{busy}
use Rattle.promise_samples.specs.Changed.{changed}
use Rattle.promise_samples.specs.ConflictAndResolve.{conflict_and_resolve}
use Rattle.promise_samples.specs.CutAndHeal.{cut_and_heal}
use Rattle.promise_samples.specs.First.{first}
use Rattle.trace_samples.specs.FlaggedRun.{flagged_run}
use Rattle.trace_samples.specs.PartedRun.{parted_run}
use Rattle.promise_samples.specs.ThreeWays.{three_ways}
use Rattle.lawful_trace.specs.Samples.{at, epoch, caller, inst, file, stamp}

-- an open is granted before its group has started
abbrev pub grant_before_the_start : Example
grant_before_the_start = first_of 1 first (at 4 (Accept 1 1 (caller 1 1 1) (call.Create (codes "/a") None)) ∷ at 5 (Grant (epoch 1 1 1) (caller 1 1 1) 1 (inst 1 1) mode.Write (file 0 1) (Some (stamp 0 0)) 1) ∷ [])

-- an open is granted an instance of another site than its call's
abbrev pub grant_of_anothers_instance : Example
grant_of_anothers_instance = first_of 3 first (at 6 (Grant (epoch 1 1 1) (caller 1 1 1) 1 (inst 2 1) mode.Write (file 0 1) (Some (stamp 0 0)) 1) ∷ [])

-- an open is granted an instance that was granted before
abbrev pub grant_of_an_instance_again : Example
grant_of_an_instance_again = first_of 5 first (at 6 (Grant (epoch 1 1 1) (caller 1 1 1) 3 (inst 1 1) mode.Make (file 0 2) None 1) ∷ [])

-- an open is granted under the number after the next
abbrev pub grant_with_a_skipped_number : Example
grant_with_a_skipped_number = first_of 3 first (at 6 (Grant (epoch 1 1 1) (caller 1 1 1) 2 (inst 1 1) mode.Write (file 0 1) (Some (stamp 0 0)) 1) ∷ [])

-- an open is granted to read, and its call asks to write
abbrev pub grant_in_another_mode : Example
grant_in_another_mode = first_of 3 first (at 6 (Grant (epoch 1 1 1) (caller 1 1 1) 1 (inst 1 1) mode.Read (file 0 1) (Some (stamp 0 0)) 1) ∷ [])

-- an open is granted that an open instance excludes
abbrev pub grant_of_a_busy_file : Example
grant_of_a_busy_file = first_of 18 busy (at 14 (Grant (epoch 1 1 1) (caller 1 1 3) 2 (inst 1 4) mode.Read (file 0 2) (Some (stamp 1 1)) 1) ∷ [])

-- a file is opened to read at a site on the version that it has, and another is kept
abbrev pub read_of_an_older_version : Example
read_of_an_older_version = first_of 55 cut_and_heal (at 34 (Accept 3 1 (caller 3 1 4) (call.Open (codes "/f") how.Read)) ∷ at 35 (Look (epoch 3 1 1) (caller 3 1 4) 1 (file 0 1) (what.Name (codes "f")) (served.At (stamp 1 1))) ∷ at 35 (Grant (epoch 3 1 1) (caller 3 1 4) 2 (inst 3 2) mode.Read (file 0 2) (Some (stamp 1 1)) 3) ∷ [])

-- a file is opened to read at a site that hasn't the kept version
abbrev pub read_where_the_version_is_not : Example
read_where_the_version_is_not = first_of 55 cut_and_heal (at 34 (Accept 3 1 (caller 3 1 4) (call.Open (codes "/f") how.Read)) ∷ at 35 (Look (epoch 3 1 1) (caller 3 1 4) 1 (file 0 1) (what.Name (codes "f")) (served.At (stamp 1 1))) ∷ at 35 (Grant (epoch 3 1 1) (caller 3 1 4) 2 (inst 3 2) mode.Read (file 0 2) (Some (stamp 1 2)) 3) ∷ [])

-- a file is opened to write at a site on the version that it has, and another is kept
abbrev pub write_of_an_older_version : Example
write_of_an_older_version = first_of 55 cut_and_heal (at 34 (Accept 3 1 (caller 3 1 4) (call.Open (codes "/f") how.Write)) ∷ at 35 (Look (epoch 3 1 1) (caller 3 1 4) 1 (file 0 1) (what.Name (codes "f")) (served.At (stamp 1 1))) ∷ at 35 (Grant (epoch 3 1 1) (caller 3 1 4) 2 (inst 3 2) mode.Write (file 0 2) (Some (stamp 1 1)) 3) ∷ [])

-- a file is opened to write at a site that hasn't the kept version
abbrev pub write_where_the_version_is_not : Example
write_where_the_version_is_not = first_of 55 cut_and_heal (at 34 (Accept 3 1 (caller 3 1 4) (call.Open (codes "/f") how.Write)) ∷ at 35 (Look (epoch 3 1 1) (caller 3 1 4) 1 (file 0 1) (what.Name (codes "f")) (served.At (stamp 1 1))) ∷ at 35 (Grant (epoch 3 1 1) (caller 3 1 4) 2 (inst 3 2) mode.Write (file 0 2) (Some (stamp 1 2)) 3) ∷ [])

-- a conflict is resolved from another site than the call names
abbrev pub resolution_at_another_site : Example
resolution_at_another_site = first_of 62 conflict_and_resolve (at 38 (Grant (epoch 3 1 1) (caller 1 1 6) 2 (inst 1 5) mode.Resolve (file 0 2) (Some (stamp 1 2)) 1) ∷ [])

-- a conflict is resolved from a version that the named site hasn't
abbrev pub resolution_of_anothers_version : Example
resolution_of_anothers_version = first_of 62 conflict_and_resolve (at 38 (Grant (epoch 3 1 1) (caller 1 1 6) 2 (inst 1 5) mode.Resolve (file 0 2) (Some (stamp 1 2)) 3) ∷ [])

-- a conflict is resolved from a site that has a version which isn't kept
abbrev pub resolution_from_an_older_version : Example
resolution_from_an_older_version = first_of 90 three_ways (at 32 (Accept 2 1 (caller 2 1 2) (call.Open (codes "/f") (how.Resolve 2))) ∷ at 33 (Look (epoch 3 1 1) (caller 2 1 2) 1 (file 0 1) (what.Name (codes "f")) (served.At (stamp 1 2))) ∷ at 33 (Grant (epoch 3 1 1) (caller 2 1 2) 2 (inst 2 3) mode.Resolve (file 0 2) (Some (stamp 1 1)) 2) ∷ [])

-- a mend is granted at a member that isn't the synchronization site
abbrev pub mend_at_another_site : Example
mend_at_another_site = first_of 30 (printed parted_run) (at 12 (Grant (epoch 2 1 1) (caller 1 1 2) 1 (inst 1 3) mode.Mend (file 0 1) (Some (stamp 2 1)) 2) ∷ [])

-- a mend is granted on a version that the synchronization site hasn't
abbrev pub mend_of_anothers_version : Example
mend_of_anothers_version = first_of 30 (printed parted_run) (at 12 (Grant (epoch 2 1 1) (caller 1 1 2) 1 (inst 1 3) mode.Mend (file 0 1) (Some (stamp 2 1)) 1) ∷ [])

-- a file is made at another site than its call's, which may store it
abbrev pub make_at_another_site : Example
make_at_another_site = first_of 6 (printed flagged_run) (at 6 (Grant (epoch 1 1 1) (caller 1 1 1) 3 (inst 1 2) mode.Make (file 0 65) None 2) ∷ [])

-- a made file has a number of another site
abbrev pub make_of_anothers_number : Example
make_of_anothers_number = first_of 6 (printed flagged_run) (at 6 (Grant (epoch 1 1 1) (caller 1 1 1) 3 (inst 1 2) mode.Make (file 0 65) None 1) ∷ [])

-- a made file has the number of a file that the site has
abbrev pub make_of_a_number_in_use : Example
make_of_a_number_in_use = first_of 21 (printed flagged_run) (at 11 (Accept 1 1 (caller 1 1 2) (call.Create (codes "/b") None)) ∷ at 12 (Grant (epoch 2 1 1) (caller 1 1 2) 1 (inst 1 3) mode.Write (file 0 1) (Some (stamp 1 1)) 1) ∷ at 12 (Act (epoch 2 1 1) (inst 1 3) 1 (op.Probe (codes "b")) outcome.Done) ∷ at 12 (Grant (epoch 2 1 1) (caller 1 1 2) 3 (inst 1 4) mode.Make (file 0 2) None 1) ∷ [])

-- two files being made have one number
abbrev pub make_of_a_number_being_made : Example
make_of_a_number_being_made = first_of 12 bounded_requests (at 10 (Accept 1 1 (caller 1 1 2) (call.Create (codes "/a") None)) ∷ at 11 (Grant (epoch 1 1 1) (caller 1 1 2) 1 (inst 1 3) mode.Write (file 0 1) (Some (stamp 1 1)) 1) ∷ at 11 (Act (epoch 1 1 1) (inst 1 3) 1 (op.Probe (codes "a")) outcome.Done) ∷ at 11 (Grant (epoch 1 1 1) (caller 1 1 2) 3 (inst 1 4) mode.Make (file 0 3) None 1) ∷ at 12 (Accept 1 2 (caller 1 1 3) (call.Create (codes "/d/b") None)) ∷ at 13 (Look (epoch 1 1 1) (caller 1 1 3) 1 (file 0 1) (what.Name (codes "d")) (served.At (stamp 1 1))) ∷ at 13 (Grant (epoch 1 1 1) (caller 1 1 3) 2 (inst 1 5) mode.Write (file 0 2) (Some (stamp 1 1)) 1) ∷ at 13 (Act (epoch 1 1 1) (inst 1 5) 1 (op.Probe (codes "b")) outcome.Done) ∷ at 13 (Grant (epoch 1 1 1) (caller 1 1 3) 4 (inst 1 6) mode.Make (file 0 3) None 1) ∷ [])

-- a make is granted on a version
abbrev pub make_on_a_version : Example
make_on_a_version = first_of 5 first (at 6 (Grant (epoch 1 1 1) (caller 1 1 1) 3 (inst 1 2) mode.Make (file 0 2) (Some (stamp 0 0)) 1) ∷ [])

-- a file is made for a site that has no pack of its group
abbrev pub make_for_a_site_without_a_pack : Example
make_for_a_site_without_a_pack = first_of 3 changed (at 6 (Accept 1 1 (caller 1 1 1) (call.Create (codes "/a") (Some (record { 0 = 3 })))) ∷ at 7 (Grant (epoch 1 1 1) (caller 1 1 1) 1 (inst 1 1) mode.Write (file 0 1) (Some (stamp 0 0)) 2) ∷ at 7 (Act (epoch 1 1 1) (inst 1 1) 1 (op.Probe (codes "a")) outcome.Done) ∷ at 7 (Grant (epoch 1 1 1) (caller 1 1 1) 3 (inst 1 2) mode.Make (file 0 2) None 1) ∷ [])

-- an open is refused before its group has started
abbrev pub refusal_before_the_start : Example
refusal_before_the_start = first_of 28 (printed parted_run) (at 13 (Accept 1 1 (caller 1 1 2) (call.Create (codes "/c") None)) ∷ at 14 (Refuse (epoch 2 1 1) (caller 1 1 2) 1 (inst 1 3) mode.Write (file 0 1) (refusal.Conflict (stamp 1 1) (stamp 2 1))) ∷ [])

-- a refused make names a number
abbrev pub refusal_of_a_number : Example
refusal_of_a_number = first_of 3 changed (at 6 (Accept 1 1 (caller 1 1 1) (call.Create (codes "/a") (Some (record { 0 = 1 })))) ∷ at 7 (Grant (epoch 1 1 1) (caller 1 1 1) 1 (inst 1 1) mode.Write (file 0 1) (Some (stamp 0 0)) 2) ∷ at 7 (Act (epoch 1 1 1) (inst 1 1) 1 (op.Probe (codes "a")) outcome.Done) ∷ at 7 (Refuse (epoch 1 1 1) (caller 1 1 1) 3 (inst 1 2) mode.Make (file 0 65) refusal.NoStorage) ∷ [])

-- an open is refused under the number after the next
abbrev pub refusal_with_a_skipped_number : Example
refusal_with_a_skipped_number = first_of 18 busy (at 14 (Refuse (epoch 1 1 1) (caller 1 1 3) 3 (inst 1 4) mode.Read (file 0 2) (refusal.Busy 1 1)) ∷ [])

-- an open is refused as busy, and names another process than has the file open
abbrev pub busy_for_another_process : Example
busy_for_another_process = first_of 18 busy (at 14 (Refuse (epoch 1 1 1) (caller 1 1 3) 2 (inst 1 4) mode.Read (file 0 2) (refusal.Busy 1 2)) ∷ [])

-- a make is refused for want of a number, and there are numbers
abbrev pub no_number_where_there_are : Example
no_number_where_there_are = first_of 5 first (at 6 (Refuse (epoch 1 1 1) (caller 1 1 1) 3 (inst 1 2) mode.Make (file 0 0) refusal.NoInode) ∷ [])
