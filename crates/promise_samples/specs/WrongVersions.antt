-- Wrong commits and adoptions. Each trace is right but for its last record; the comment says what is wrong.
use Rattle.std.specs.Prelude.{[], ◌∷◌, None, Some, codes}
use Rattle.locus_ids.specs.declared.ids.Mode.TheVariants as mode
use Rattle.locus_ids.specs.declared.refusal.Refusal.TheVariants as refusal
use Rattle.trace_book.specs.declared.call.Call.TheVariants as call
use Rattle.trace_book.specs.declared.operation.Op.TheVariants as op
use Rattle.trace_book.specs.declared.operation.Outcome.TheVariants as outcome
use Rattle.trace_book.specs.declared.reply.Reply.TheVariants as reply
use Rattle.trace_book.specs.declared.record.Record.TheVariants.{Leave, Accept, Grant, Act, Commit, Release, Adopt, Answer}
use Rattle.promise_samples.specs.Examples.{Example, first_of, printed}
use Rattle.promise_samples.specs.ConflictAndResolve.{conflict_and_resolve}
use Rattle.promise_samples.specs.First.{first}
use Rattle.trace_samples.specs.FlaggedRun.{flagged_run}
use Rattle.promise_samples.specs.ThreeWays.{three_ways}
use Rattle.lawful_trace.specs.Samples.{at, epoch, caller, inst, file, stamp}

-- a version is committed at a site that has left the epoch of the instance
abbrev pub commit_after_leaving : Example
commit_after_leaving = first_of 20 first (at 12 (Leave 1 (epoch 1 1 1)) ∷ at 12 (Answer 1 1 (caller 1 1 4) (reply.No (refusal.Changed (epoch 1 1 1)))) ∷ at 13 (Commit (file 0 2) 1 (stamp 1 2) ((stamp 1 1) ∷ []) (104 ∷ 105 ∷ [])) ∷ [])

-- a version is committed at another site than its instance's storage site
abbrev pub commit_at_another_site : Example
commit_at_another_site = first_of 7 (printed flagged_run) (at 6 (Commit (file 0 2) 2 (stamp 2 1) [] []) ∷ [])

-- a version is committed of a file that nobody has changed
abbrev pub commit_of_nothing_new : Example
commit_of_nothing_new = first_of 16 first (at 9 (Commit (file 0 2) 1 (stamp 1 2) ((stamp 1 1) ∷ []) []) ∷ [])

-- a changed file is committed as if it had no version before
abbrev pub commit_on_no_parent : Example
commit_on_no_parent = first_of 20 first (at 12 (Commit (file 0 2) 1 (stamp 1 1) [] (104 ∷ 105 ∷ [])) ∷ [])

-- a resolution has one of the two versions beside each other as its parent
abbrev pub resolution_that_loses_a_version : Example
resolution_that_loses_a_version = first_of 65 conflict_and_resolve (at 40 (Commit (file 0 2) 3 (stamp 3 2) ((stamp 3 1) ∷ []) (99 ∷ [])) ∷ [])

-- a site adopts a version of an epoch that it has left
abbrev pub adoption_after_leaving : Example
adoption_after_leaving = first_of 9 (printed flagged_run) (at 7 (Leave 2 (epoch 1 1 1)) ∷ at 8 (Adopt (file 0 2) 2 (stamp 1 1)) ∷ [])

-- a site adopts a version that isn't published
abbrev pub adoption_before_publishing : Example
adoption_before_publishing = first_of 8 (printed flagged_run) (at 6 (Adopt (file 0 2) 2 (stamp 1 1)) ∷ [])

-- a site adopts a file that is made for others
abbrev pub adoption_of_a_file_for_others : Example
adoption_of_a_file_for_others = first_of 3 (printed flagged_run) (at 5 (Accept 1 1 (caller 1 1 1) (call.Create (codes "/a") (Some (record { 0 = 1 })))) ∷ at 6 (Grant (epoch 1 1 1) (caller 1 1 1) 1 (inst 1 1) mode.Write (file 0 1) (Some (stamp 0 0)) 1) ∷ at 6 (Act (epoch 1 1 1) (inst 1 1) 1 (op.Probe (codes "a")) outcome.Done) ∷ at 6 (Grant (epoch 1 1 1) (caller 1 1 1) 3 (inst 1 2) mode.Make (file 0 2) None 1) ∷ at 6 (Commit (file 0 2) 1 (stamp 1 1) [] []) ∷ at 6 (Release (epoch 1 1 1) (inst 1 2) (file 0 2) (Some (stamp 1 1))) ∷ at 6 (Adopt (file 0 2) 2 (stamp 1 1)) ∷ [])

-- a site adopts a version of a file that is open there
abbrev pub adoption_into_an_open_file : Example
adoption_into_an_open_file = first_of 78 three_ways (at 31 (Adopt (file 0 1) 1 (stamp 2 1)) ∷ [])

-- a version is committed of another file than the open instance is of
abbrev pub commit_of_another_file : Example
commit_of_another_file = first_of 20 first (at 12 (Commit (file 0 3) 1 (stamp 1 1) (stamp 1 1 ∷ []) (104 ∷ 105 ∷ [])) ∷ [])

-- a conflict is settled, and the next commit of the same open names the settled versions as its parents again
abbrev pub settled_again : Example
settled_again = first_of 63 conflict_and_resolve (at 38 (Answer 1 1 (caller 1 1 6) (reply.Opened 0)) ∷ at 39 (Accept 1 1 (caller 1 1 7) (call.Commit 0)) ∷ at 40 (Commit (file 0 2) 3 (stamp 3 2) (stamp 1 2 ∷ stamp 3 1 ∷ []) (99 ∷ [])) ∷ at 40 (Act (epoch 3 1 1) (inst 1 5) 1 op.Commit (outcome.Committed (stamp 3 2))) ∷ at 40 (Answer 1 1 (caller 1 1 7) (reply.Committed (stamp 3 2))) ∷ at 41 (Accept 1 1 (caller 1 1 8) (call.Write 0 0 (100 ∷ []))) ∷ at 42 (Act (epoch 3 1 1) (inst 1 5) 2 (op.Write 0 (100 ∷ [])) outcome.Done) ∷ at 42 (Answer 1 1 (caller 1 1 8) reply.Done) ∷ at 43 (Accept 1 1 (caller 1 1 9) (call.Close 0)) ∷ at 44 (Commit (file 0 2) 3 (stamp 3 2) (stamp 1 2 ∷ stamp 3 1 ∷ []) (100 ∷ [])) ∷ [])
