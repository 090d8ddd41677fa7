-- Wrong words of records: numbers, names, kinds, places, versions. Each trace is right but for its last record; the comment says what is wrong.
use Rattle.std.specs.Prelude.{[], ◌∷◌, Some, codes}
use Rattle.locus_ids.specs.declared.ids.Kind.TheVariants as kind
use Rattle.locus_ids.specs.declared.ids.Mode.TheVariants as mode
use Rattle.locus_ids.specs.declared.refusal.Refusal.TheVariants as refusal
use Rattle.trace_book.specs.declared.call.Call.TheVariants as call
use Rattle.trace_book.specs.declared.operation.Op.TheVariants as op
use Rattle.trace_book.specs.declared.operation.Outcome.TheVariants as outcome
use Rattle.trace_book.specs.declared.operation.What.TheVariants as what
use Rattle.trace_book.specs.declared.operation.Served.TheVariants as served
use Rattle.trace_book.specs.declared.reply.Reply.TheVariants as reply
use Rattle.trace_book.specs.declared.record.Record.TheVariants.{Start, Accept, Look, Grant, Refuse, Act, Answer}
use Rattle.promise_samples.specs.Examples.{Example, first_of}
use Rattle.promise_samples.specs.BoundedRequests.{bounded_requests}
use Rattle.promise_samples.specs.BoxesMeet.{boxes_meet}
use Rattle.promise_samples.specs.Busy.{busy}
use Rattle.promise_samples.specs.ConflictAndResolve.{conflict_and_resolve}
use Rattle.promise_samples.specs.DirectoriesMeet.{directories_meet}
use Rattle.promise_samples.specs.First.{first}
use Rattle.promise_samples.specs.Names.{names}
use Rattle.promise_samples.specs.TwoNames.{two_names}
use Rattle.lawful_trace.specs.Samples.{at, epoch, caller, inst, file, stamp, brought}

-- an open of a flagged file is told of an older version and a kept one
abbrev pub conflict_with_an_older_version : Example
conflict_with_an_older_version = first_of 58 conflict_and_resolve (at 35 (Refuse (epoch 3 1 1) (caller 1 1 5) 2 (inst 1 4) mode.Read (file 0 2) (refusal.Conflict (stamp 1 1) (stamp 3 1))) ∷ [])

-- an open of a flagged file is told of a kept version and one that nobody committed
abbrev pub conflict_with_a_version_that_never_was : Example
conflict_with_a_version_that_never_was = first_of 58 conflict_and_resolve (at 35 (Refuse (epoch 3 1 1) (caller 1 1 5) 2 (inst 1 4) mode.Read (file 0 2) (refusal.Conflict (stamp 1 2) (stamp 3 2))) ∷ [])

-- an open is refused as busy, and names another site than has the file open
abbrev pub busy_at_another_site : Example
busy_at_another_site = first_of 18 busy (at 14 (Refuse (epoch 1 1 1) (caller 1 1 3) 2 (inst 1 4) mode.Read (file 0 2) (refusal.Busy 2 1)) ∷ [])

-- a name that two files have is told to be ambiguous, with another number than the first of them
abbrev pub ambiguous_with_another_first : Example
ambiguous_with_another_first = first_of 52 directories_meet (at 24 (Answer 2 1 (caller 2 1 2) (reply.No (refusal.Ambiguous 3 129))) ∷ [])

-- a name that two files have is told to be ambiguous, with another number than the second of them
abbrev pub ambiguous_with_another_second : Example
ambiguous_with_another_second = first_of 52 directories_meet (at 24 (Answer 2 1 (caller 2 1 2) (reply.No (refusal.Ambiguous 2 130))) ∷ [])

-- a stat of a file is answered that it is a directory
abbrev pub stat_of_another_kind : Example
stat_of_another_kind = first_of 56 directories_meet (at 26 (Answer 2 1 (caller 2 1 3) (reply.Stat kind.Dir (file 0 129) 0 (stamp 3 1))) ∷ [])

-- a stat is answered with another file than its path leads to
abbrev pub stat_of_another_file : Example
stat_of_another_file = first_of 56 directories_meet (at 26 (Answer 2 1 (caller 2 1 3) (reply.Stat kind.File (file 0 2) 0 (stamp 3 1))) ∷ [])

-- a stat is answered with another length than the file has
abbrev pub stat_of_another_length : Example
stat_of_another_length = first_of 56 directories_meet (at 26 (Answer 2 1 (caller 2 1 3) (reply.Stat kind.File (file 0 129) 1 (stamp 3 1))) ∷ [])

-- a stat is answered with another version than was served
abbrev pub stat_of_another_version : Example
stat_of_another_version = first_of 56 directories_meet (at 26 (Answer 2 1 (caller 2 1 3) (reply.Stat kind.File (file 0 129) 0 (stamp 1 1))) ∷ [])

-- a name is found in a directory, with another number than its entry has
abbrev pub entry_with_another_number : Example
entry_with_another_number = first_of 79 boxes_meet (at 29 (Act (epoch 3 1 1) (inst 2 1) 1 (op.Find (codes "m1.1.2")) (outcome.Found 4 kind.File)) ∷ [])

-- a name is found in a directory, as a directory, and its entry is of a file
abbrev pub entry_of_another_kind : Example
entry_of_another_kind = first_of 79 boxes_meet (at 29 (Act (epoch 3 1 1) (inst 2 1) 1 (op.Find (codes "m1.1.2")) (outcome.Found 3 kind.Dir)) ∷ [])

-- another name is inserted than the call asks
abbrev pub insert_of_another_name : Example
insert_of_another_name = first_of 8 first (at 6 (Act (epoch 1 1 1) (inst 1 1) 2 (op.Insert (codes "b") 2 kind.File) outcome.Done) ∷ [])

-- an entry is inserted with another number than was made
abbrev pub insert_of_another_number : Example
insert_of_another_number = first_of 8 first (at 6 (Act (epoch 1 1 1) (inst 1 1) 2 (op.Insert (codes "a") 3 kind.File) outcome.Done) ∷ [])

-- an entry of a made file is inserted as a directory
abbrev pub insert_of_another_kind : Example
insert_of_another_kind = first_of 8 first (at 6 (Act (epoch 1 1 1) (inst 1 1) 2 (op.Insert (codes "a") 2 kind.Dir) outcome.Done) ∷ [])

-- a read is done at another place than its call asks
abbrev pub read_at_another_place : Example
read_at_another_place = first_of 28 first (at 16 (Act (epoch 1 1 1) (inst 1 4) 1 (op.Read 1 10) (outcome.Data (105 ∷ []))) ∷ [])

-- a read is done of another length than its call asks
abbrev pub read_of_another_length : Example
read_of_another_length = first_of 28 first (at 16 (Act (epoch 1 1 1) (inst 1 4) 1 (op.Read 0 1) (outcome.Data (104 ∷ []))) ∷ [])

-- a write is done at another place than its call asks
abbrev pub write_at_another_place : Example
write_at_another_place = first_of 17 first (at 10 (Act (epoch 1 1 1) (inst 1 3) 1 (op.Write 1 (104 ∷ 105 ∷ [])) outcome.Done) ∷ [])

-- a directory is asked whether it has names, and that is done on the directory that it stands in
abbrev pub operation_on_another_instance : Example
operation_on_another_instance = first_of 16 bounded_requests (at 11 (Act (epoch 1 1 1) (inst 1 3) 2 op.Empty (outcome.No (refusal.NotEmpty (codes "d")))) ∷ [])

-- a look is served the version of another file than its call asks
abbrev pub look_at_another_file : Example
look_at_another_file = first_of 13 first (at 8 (Look (epoch 1 1 1) (caller 1 1 2) 1 (file 0 2) (what.Name (codes "a")) (served.At (stamp 1 1))) ∷ [])

-- a group starts with a version of another number than was brought
abbrev pub start_with_another_number : Example
start_with_another_number = first_of 55 conflict_and_resolve (at 32 (Start (epoch 3 1 1) 0 (brought 1 (stamp 1 1) ∷ brought 2 (stamp 1 2) ∷ brought 3 (stamp 3 1) ∷ [])) ∷ [])

-- a group starts with another version than was brought
abbrev pub start_with_another_version : Example
start_with_another_version = first_of 55 conflict_and_resolve (at 32 (Start (epoch 3 1 1) 0 (brought 1 (stamp 1 1) ∷ brought 2 (stamp 1 2) ∷ brought 2 (stamp 3 2) ∷ [])) ∷ [])

-- another entry is renamed than the call asks
abbrev pub rename_of_another_entry : Example
rename_of_another_entry = first_of 30 names (at 18 (Accept 1 1 (caller 1 1 5) (call.Rename (codes "/a") (codes "c"))) ∷ at 19 (Grant (epoch 1 1 1) (caller 1 1 5) 1 (inst 1 6) mode.Write (file 0 1) (Some (stamp 1 2)) 1) ∷ at 19 (Act (epoch 1 1 1) (inst 1 6) 1 (op.Rename (codes "b") (codes "c")) outcome.Done) ∷ [])

-- an entry is given another name than the call asks
abbrev pub rename_to_another_name : Example
rename_to_another_name = first_of 30 names (at 18 (Accept 1 1 (caller 1 1 5) (call.Rename (codes "/a") (codes "c"))) ∷ at 19 (Grant (epoch 1 1 1) (caller 1 1 5) 1 (inst 1 6) mode.Write (file 0 1) (Some (stamp 1 2)) 1) ∷ at 19 (Act (epoch 1 1 1) (inst 1 6) 1 (op.Rename (codes "a") (codes "d")) outcome.Done) ∷ [])

-- a file has two names, and the other one is removed than the call asks
abbrev pub remove_of_another_name : Example
remove_of_another_name = first_of 62 two_names (at 34 (Act (epoch 3 1 1) (inst 2 2) 2 (op.Remove (codes "h") 2) outcome.Done) ∷ [])
