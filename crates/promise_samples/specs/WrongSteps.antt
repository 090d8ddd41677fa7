-- Wrong operations and releases. Each trace is right but for its last record; the comment says what is wrong.
use Rattle.std.specs.Prelude.{[], ◌∷◌, None, Some, codes}
use Rattle.locus_ids.specs.declared.refusal.Refusal.TheVariants as refusal
use Rattle.trace_book.specs.declared.operation.Op.TheVariants as op
use Rattle.trace_book.specs.declared.operation.Outcome.TheVariants as outcome
use Rattle.trace_book.specs.declared.record.Record.TheVariants.{Act, Release}
use Rattle.promise_samples.specs.Examples.{Example, first_of}
use Rattle.promise_samples.specs.BoundedRequests.{bounded_requests}
use Rattle.promise_samples.specs.First.{first}
use Rattle.lawful_trace.specs.Samples.{at, epoch, inst, file, stamp}

-- an operation has the number and the result that it would have on another instance of its call
abbrev pub operation_judged_on_another : Example
operation_judged_on_another = first_of 16 bounded_requests (at 11 (Act (epoch 1 1 1) (inst 1 4) 2 op.Empty (outcome.No (refusal.NotEmpty (codes "d")))) ∷ [])

-- the first operation on an instance that a call opened for itself has the number 2
abbrev pub operation_with_the_number_after_the_next : Example
operation_with_the_number_after_the_next = first_of 4 first (at 6 (Act (epoch 1 1 1) (inst 1 1) 2 (op.Probe (codes "a")) outcome.Done) ∷ [])

-- an operation writes other bytes than its call asks
abbrev pub operation_that_is_not_asked : Example
operation_that_is_not_asked = first_of 17 first (at 10 (Act (epoch 1 1 1) (inst 1 3) 1 (op.Write 0 (97 ∷ 97 ∷ [])) outcome.Done) ∷ [])

-- a release tells the file and the version of another instance of its call
abbrev pub release_judged_on_another : Example
release_judged_on_another = first_of 19 bounded_requests (at 11 (Release (epoch 1 1 1) (inst 1 3) (file 0 2) None) ∷ [])

-- a release names another file than its instance is of
abbrev pub release_of_another_file : Example
release_of_another_file = first_of 7 first (at 6 (Release (epoch 1 1 1) (inst 1 2) (file 0 3) (Some (stamp 1 1))) ∷ [])

-- a release publishes another version than the last one that its instance committed
abbrev pub release_of_an_older_version : Example
release_of_an_older_version = first_of 21 first (at 12 (Release (epoch 1 1 1) (inst 1 3) (file 0 2) (Some (stamp 1 1))) ∷ [])

-- an instance is released, and no call asks for its close
abbrev pub release_that_is_not_asked : Example
release_that_is_not_asked = first_of 16 first (at 9 (Release (epoch 1 1 1) (inst 1 3) (file 0 2) None) ∷ [])
