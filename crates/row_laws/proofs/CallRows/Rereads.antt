-- A version that is opened again is read by one operation, and what that gives is the reply.
use Rattle.std.proofs.Common.{◌≡◌, ℕ, Bool, true, false, cond, List, [], ◌∷◌, Option}
use Rattle.locus_ids.specs.declared.ids.EpochId.{EpochId}
use Rattle.locus_ids.specs.declared.ids.Serial.{Serial}
use Rattle.locus_ids.specs.declared.config.Mount.{Mount}
use Rattle.locus_ids.specs.declared.refusal.Refusal.{Refusal}
use Rattle.locus_ids.specs.declared.refusal.Refusal.TheVariants as refusal
use Rattle.commit_graph.specs.Versions.{same_stamp}
use Rattle.trace_book.specs.declared.call.Call.{Call}
use Rattle.trace_book.specs.declared.call.Call.TheVariants as call
use Rattle.trace_book.specs.declared.descriptor.Beginning.{Beginning}
use Rattle.trace_book.specs.declared.descriptor.Beginning.TheVariants as begins
use Rattle.trace_book.specs.declared.descriptor.OneVersion.{OneVersion}
use Rattle.trace_book.specs.declared.operation.Outcome.TheVariants as outcome
use Rattle.trace_book.specs.declared.reply.Reply.TheVariants as reply
use Rattle.call_rules.specs.declared.answer.Answer.{Answer}
use Rattle.call_rules.specs.declared.answer.Answer.TheVariants as answer
use Rattle.call_rules.specs.declared.want.Want.{Want}
use Rattle.call_rules.specs.declared.want.Want.TheVariants as want
use Rattle.call_rules.specs.Closing.{Unchanged, give_up}
use Rattle.call_rules.specs.Reopening.{reads_again, reopen_wants}
use Rattle.call_rules.specs.Scripts.{begun_wants, named_wants, in_group, where_packed, wants}
use Rattle.call_rules.specs.Words.{is_badly_named}
use Rattle.row_laws.specs.CallRows.Scripts.{GivesRead}

give_up_read : (kept : OneVersion) (last : EpochId) (all : List Answer) (i : Serial) (why : Refusal) (answers : List Answer) → GivesRead (begins.Reopens kept last) all (give_up (Unchanged i ∷ []) why answers)
give_up_read kept last all i why [] = tt
give_up_read kept last all i why (answer.Ended stamp ∷ []) = tt
give_up_read kept last all i why (answer.Ended stamp ∷ b ∷ rest) = tt
give_up_read kept last all i why (answer.Refused other ∷ []) = tt
give_up_read kept last all i why (answer.Refused other ∷ b ∷ rest) = tt
give_up_read kept last all i why (_ ∷ rest) = tt

again_read : (kept granted : OneVersion) (last : EpochId) (i : Serial) (at len : ℕ) (answers : List Answer) → GivesRead (begins.Reopens kept last) (answer.Reading i granted ∷ answers) (reads_again i at len answers)
again_read kept granted last i at len [] = tt
again_read kept granted last i at len (answer.Did outcome.Done ∷ []) = tt
again_read kept granted last i at len (answer.Did (outcome.Found ino k) ∷ []) = tt
again_read kept granted last i at len (answer.Did (outcome.Data bytes) ∷ []) = tt
again_read kept granted last i at len (answer.Did (outcome.Committed stamp) ∷ []) = tt
again_read kept granted last i at len (answer.Did (outcome.No why) ∷ []) = tt
again_read kept granted last i at len (answer.Did r ∷ b ∷ rest) = tt
again_read kept granted last i at len (answer.Refused why ∷ rest) = give_up_read kept last (answer.Reading i granted ∷ answer.Refused why ∷ rest) i why rest
again_read kept granted last i at len (_ ∷ rest) = tt

reopen_read : (words : Call) (kept : OneVersion) (last : EpochId) (answers : List Answer) → GivesRead (begins.Reopens kept last) answers (reopen_wants words kept last answers)
reopen_read (call.Read fd at len) kept last [] = tt
reopen_read (call.Read fd at len) kept last (answer.Reading i granted ∷ rest) =
    elim (same_stamp granted.stamp kept.stamp) as (λ b. GivesRead (begins.Reopens kept last) (answer.Reading i granted ∷ rest) (cond b (reads_again i at len rest) (give_up (Unchanged i ∷ []) (refusal.Stale last) rest))) [
      | true ↦ again_read kept granted last i at len rest
      | false ↦ give_up_read kept last (answer.Reading i granted ∷ rest) i (refusal.Stale last) rest
    ]
reopen_read (call.Read fd at len) kept last (answer.Refused why ∷ []) = tt
reopen_read (call.Read fd at len) kept last (_ ∷ rest) = tt
reopen_read _ kept last answers = tt

packed_read : (kept : OneVersion) (last : EpochId) (answers : List Answer) (is_packed : ℕ → Bool) (w : Want) → GivesRead (begins.Reopens kept last) answers w → GivesRead (begins.Reopens kept last) answers (where_packed is_packed w)
packed_read kept last answers is_packed w h = by_want w h
  where
    Gives : Want → Type 0
    Gives w = GivesRead (begins.Reopens kept last) answers w

    in_one : (group : ℕ) (w : Want) → Gives w → Gives (in_group is_packed group w)
    in_one group w h = elim (is_packed group) as (λ b. Gives (cond b w (want.Give (reply.No refusal.NoStorage)))) [ true ↦ h | false ↦ tt ]

    by_want : (w : Want) → Gives w → Gives (where_packed is_packed w)
    by_want (want.Look file x) h = in_one file.group (want.Look file x) h
    by_want (want.Open file how) h = in_one file.group (want.Open file how) h
    by_want (want.OpenToMend file) h = in_one file.group (want.OpenToMend file) h
    by_want (want.Make group k sites) h = in_one group (want.Make group k sites) h
    by_want (want.Do i o) h = h
    by_want (want.Close i) h = h
    by_want (want.Give r) h = h
    by_want want.Never h = h

pub wants_read : (mounts : List Mount) (is_packed : ℕ → Bool) (free : Option ℕ) (words : Call) (b : Beginning) (answers : List Answer) → GivesRead b answers (wants mounts is_packed free words b answers)
wants_read mounts is_packed free words (begins.Reopens kept last) answers =
    packed_read kept last answers is_packed (named_wants mounts free words (begins.Reopens kept last) answers)
    (elim (is_badly_named mounts words) as (λ n. GivesRead (begins.Reopens kept last) answers (cond n (want.Give (reply.No refusal.BadName)) (begun_wants mounts free words (begins.Reopens kept last) answers))) [
      | true ↦ tt
      | false ↦ reopen_read words kept last answers
    ])
wants_read mounts is_packed free words _ answers = tt
