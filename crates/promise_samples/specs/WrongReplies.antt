-- Wrong replies. Each trace is right but for its last record; the comment says what is wrong.
use Rattle.std.specs.Prelude.{[], ◌∷◌, codes}
use Rattle.locus_ids.specs.declared.refusal.Refusal.TheVariants as refusal
use Rattle.trace_book.specs.declared.call.Call.TheVariants as call
use Rattle.trace_book.specs.declared.reply.Reply.TheVariants as reply
use Rattle.trace_book.specs.declared.record.Record.TheVariants.{Leave, Join, Accept, Answer, Void}
use Rattle.promise_samples.specs.Examples.{Example, first_of, printed}
use Rattle.promise_samples.specs.Changed.{changed}
use Rattle.promise_samples.specs.Descriptors.{descriptors}
use Rattle.promise_samples.specs.First.{first}
use Rattle.trace_samples.specs.FlaggedRun.{flagged_run}
use Rattle.lawful_trace.specs.Samples.{at, epoch, caller, stamp, members}

-- a reply names a call that was never accepted
abbrev pub reply_to_no_call : Example
reply_to_no_call = first_of 11 first (at 6 (Answer 1 1 (caller 1 1 9) (reply.Made 2)) ∷ [])

-- a reply goes to another process than its call is of
abbrev pub reply_to_another_process : Example
reply_to_another_process = first_of 11 first (at 6 (Answer 1 2 (caller 1 1 1) (reply.Made 2)) ∷ [])

-- a reply comes at another site than its call was accepted at
abbrev pub reply_at_another_site : Example
reply_at_another_site = first_of 13 (printed flagged_run) (at 6 (Answer 2 1 (caller 1 1 1) (reply.Made 2)) ∷ [])

-- an open is answered with a number that isn't the least free one
abbrev pub reply_with_another_number : Example
reply_with_another_number = first_of 15 first (at 8 (Answer 1 1 (caller 1 1 2) (reply.Opened 1)) ∷ [])

-- a create is answered as an open would be, with a reply of the same text
abbrev pub another_reply_of_the_same_text : Example
another_reply_of_the_same_text = first_of 11 first (at 6 (Answer 1 1 (caller 1 1 1) (reply.Opened 2)) ∷ [])

-- a call is answered by its script, and its site has left the epoch
abbrev pub reply_after_its_site_left : Example
reply_after_its_site_left = first_of 25 changed (at 16 (Answer 1 1 (caller 1 1 4) (reply.Committed (stamp 2 2))) ∷ [])

-- a refusal that needs no request comes after another record
abbrev pub late_local_refusal : Example
late_local_refusal = first_of 17 descriptors (at 12 (Void) ∷ at 13 (Answer 1 1 (caller 1 1 3) (reply.No refusal.ReadOnly)) ∷ [])

-- a call is told that an epoch has changed which it wasn't accepted in
abbrev pub changed_of_another_epoch : Example
changed_of_another_epoch = first_of 25 changed (at 16 (Answer 1 1 (caller 1 1 4) (reply.No (refusal.Changed (epoch 2 1 1)))) ∷ [])

-- a call is told that its epoch has changed after a record that isn't such a reply
abbrev pub late_changed : Example
late_changed = first_of 25 changed (at 17 (Void) ∷ at 18 (Answer 1 1 (caller 1 1 4) (reply.No (refusal.Changed (epoch 1 1 1)))) ∷ [])

-- a call is told that its epoch has changed when another site leaves it
abbrev pub changed_at_anothers_leave : Example
changed_at_anothers_leave = first_of 3 (printed flagged_run) (at 5 (Accept 1 1 (caller 1 1 1) (call.List (codes "/"))) ∷ at 6 (Leave 1 (epoch 1 1 1)) ∷ at 7 (Leave 2 (epoch 1 1 1)) ∷ at 7 (Answer 1 1 (caller 1 1 1) (reply.No (refusal.Changed (epoch 1 1 1)))) ∷ [])

-- a call is told that its epoch has changed only when its site leaves another one
abbrev pub changed_at_a_later_leave : Example
changed_at_a_later_leave = first_of 2 first (at 5 (Accept 1 1 (caller 1 1 1) (call.List (codes "/"))) ∷ at 6 (Leave 1 (epoch 1 1 1)) ∷ at 7 (Join 1 (epoch 2 1 1) (members (1 ∷ []))) ∷ at 8 (Leave 1 (epoch 2 1 1)) ∷ at 8 (Answer 1 1 (caller 1 1 1) (reply.No (refusal.Changed (epoch 1 1 1)))) ∷ [])

-- a call is told that an epoch has changed which its site joined after it was accepted
abbrev pub changed_of_a_later_epoch : Example
changed_of_a_later_epoch = first_of 2 first (at 5 (Accept 1 1 (caller 1 1 1) (call.List (codes "/"))) ∷ at 6 (Leave 1 (epoch 1 1 1)) ∷ at 7 (Join 1 (epoch 2 1 1) (members (1 ∷ []))) ∷ at 8 (Leave 1 (epoch 2 1 1)) ∷ at 8 (Answer 1 1 (caller 1 1 1) (reply.No (refusal.Changed (epoch 2 1 1)))) ∷ [])

-- two calls are told that their epoch has changed, the one of the greater process first
abbrev pub changed_out_of_order : Example
changed_out_of_order = first_of 2 first (at 5 (Accept 1 1 (caller 1 1 1) (call.List (codes "/"))) ∷ at 6 (Accept 1 2 (caller 1 1 2) (call.List (codes "/"))) ∷ at 7 (Leave 1 (epoch 1 1 1)) ∷ at 7 (Answer 1 2 (caller 1 1 2) (reply.No (refusal.Changed (epoch 1 1 1)))) ∷ at 7 (Answer 1 1 (caller 1 1 1) (reply.No (refusal.Changed (epoch 1 1 1)))) ∷ [])
