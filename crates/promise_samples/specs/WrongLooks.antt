-- Wrong looks. Each trace is right but for its last record; the comment says what is wrong.
use Rattle.std.specs.Prelude.{[], ◌∷◌, codes}
use Rattle.locus_ids.specs.declared.refusal.Refusal.TheVariants as refusal
use Rattle.trace_book.specs.declared.call.Call.TheVariants as call
use Rattle.trace_book.specs.declared.operation.What.TheVariants as what
use Rattle.trace_book.specs.declared.operation.Served.TheVariants as served
use Rattle.trace_book.specs.declared.reply.Reply.TheVariants as reply
use Rattle.trace_book.specs.declared.record.Record.TheVariants.{Leave, Join, Start, Accept, Look, Answer}
use Rattle.promise_samples.specs.Examples.{Example, first_of}
use Rattle.promise_samples.specs.BoundedRequests.{bounded_requests}
use Rattle.promise_samples.specs.First.{first}
use Rattle.lawful_trace.specs.Samples.{at, epoch, caller, file, stamp, brought, members}

-- a look is served before its group has started
abbrev pub look_before_the_start : Example
look_before_the_start = first_of 1 first (at 4 (Accept 1 1 (caller 1 1 1) (call.List (codes "/"))) ∷ at 5 (Look (epoch 1 1 1) (caller 1 1 1) 1 (file 0 1) what.List (served.At (stamp 0 0))) ∷ [])

-- a look is served a version that is no longer kept
abbrev pub look_at_an_older_version : Example
look_at_an_older_version = first_of 24 first (at 14 (Look (epoch 1 1 1) (caller 1 1 5) 1 (file 0 1) (what.Name (codes "a")) (served.At (stamp 0 0))) ∷ [])

-- a look names a call that was never accepted
abbrev pub look_for_an_unknown_call : Example
look_for_an_unknown_call = first_of 13 first (at 8 (Look (epoch 1 1 1) (caller 1 1 9) 1 (file 0 1) (what.Name (codes "a")) (served.At (stamp 1 1))) ∷ [])

-- a look is served in another epoch than its call was accepted in
abbrev pub look_in_another_epoch : Example
look_in_another_epoch = first_of 2 first (at 5 (Accept 1 1 (caller 1 1 1) (call.List (codes "/"))) ∷ at 6 (Leave 1 (epoch 1 1 1)) ∷ at 6 (Answer 1 1 (caller 1 1 1) (reply.No (refusal.Changed (epoch 1 1 1)))) ∷ at 7 (Join 1 (epoch 2 1 1) (members (1 ∷ []))) ∷ at 7 (Start (epoch 2 1 1) 0 (brought 1 (stamp 0 0) ∷ [])) ∷ at 7 (Look (epoch 2 1 1) (caller 1 1 1) 1 (file 0 1) what.List (served.At (stamp 0 0))) ∷ [])

-- the first look of a call has the number 0
abbrev pub look_with_number_0 : Example
look_with_number_0 = first_of 13 first (at 8 (Look (epoch 1 1 1) (caller 1 1 2) 0 (file 0 1) (what.Name (codes "a")) (served.At (stamp 1 1))) ∷ [])

-- the first look of a call has the number 2
abbrev pub look_before_its_turn : Example
look_before_its_turn = first_of 13 first (at 8 (Look (epoch 1 1 1) (caller 1 1 2) 2 (file 0 1) (what.Name (codes "a")) (served.At (stamp 1 1))) ∷ [])

-- a look is taken again after the next request of its call
abbrev pub look_again_after_the_next : Example
look_again_after_the_next = first_of 12 bounded_requests (at 10 (Accept 1 1 (caller 1 1 2) (call.List (codes "/d"))) ∷ at 11 (Look (epoch 1 1 1) (caller 1 1 2) 1 (file 0 1) (what.Name (codes "d")) (served.At (stamp 1 1))) ∷ at 11 (Look (epoch 1 1 1) (caller 1 1 2) 2 (file 0 2) what.List (served.At (stamp 1 1))) ∷ at 11 (Look (epoch 1 1 1) (caller 1 1 2) 1 (file 0 1) (what.Name (codes "d")) (served.At (stamp 1 1))) ∷ [])

-- a look reads the names of a directory, and its call asks for one name in it
abbrev pub look_that_is_not_asked : Example
look_that_is_not_asked = first_of 13 first (at 8 (Look (epoch 1 1 1) (caller 1 1 2) 1 (file 0 1) what.List (served.At (stamp 1 1))) ∷ [])
