-- What the script of a read asks that opens a version again: the file of the version to read, the read itself, and a close.
use Rattle.std.proofs.Common.{ℕ, Bool, true, false, cond, List, [], ◌∷◌}
use Rattle.locus_ids.specs.declared.ids.EpochId.{EpochId}
use Rattle.locus_ids.specs.declared.ids.Serial.{Serial}
use Rattle.locus_ids.specs.declared.refusal.Refusal.{Refusal}
use Rattle.locus_ids.specs.declared.refusal.Refusal.TheVariants as refusal
use Rattle.commit_graph.specs.Versions.{same_stamp}
use Rattle.trace_book.specs.declared.call.Call.{Call}
use Rattle.trace_book.specs.declared.call.Call.TheVariants as call
use Rattle.trace_book.specs.declared.call.OpenMode.TheVariants as how
use Rattle.trace_book.specs.declared.descriptor.OneVersion.{OneVersion}
use Rattle.trace_book.specs.declared.operation.Op.TheVariants as op
use Rattle.trace_book.specs.declared.reply.Reply.{Reply}
use Rattle.call_rules.specs.Closing.{Unchanged, gives, give_up}
use Rattle.call_rules.specs.Reopening.{reads_again, reopen_wants, reopened, reopens}
use Rattle.call_rules.specs.declared.answer.Answer.{Answer}
use Rattle.call_rules.specs.declared.answer.Answer.TheVariants as answer
use Rattle.call_rules.specs.declared.want.Want.{Want}
use Rattle.call_rules.specs.declared.want.Want.TheVariants as want

-- what is so of each of its requests
pub record Rereading (P : Want → Type 0) (kept : OneVersion) : Type 0 where
  pub opens : P (want.Open kept.file how.Read)
  pub reads : (i : Serial) (at len : ℕ) → P (want.Do i (op.Read at len))
  pub closes : (i : Serial) → P (want.Close i)
  pub replies : (r : Reply) → P (want.Give r)
  pub never : P want.Never

module _ (P : Want → Type 0) (kept : OneVersion) (is : Rereading P kept) where
  gives_so : (r : Reply) (xs : List Answer) → P (gives r xs)
  gives_so r [] = is.replies r
  gives_so r (a ∷ xs) = is.never

  one_so : (i : Serial) (why : Refusal) (xs : List Answer) → P (give_up (Unchanged i ∷ []) why xs)
  one_so i why [] = is.closes i
  one_so i why (answer.Ended stamp ∷ rest) = gives_so _ rest
  one_so i why (answer.Refused other ∷ rest) = gives_so _ rest
  one_so i why (_ ∷ rest) = is.never

  again_so : (i : Serial) (at len : ℕ) (xs : List Answer) → P (reads_again i at len xs)
  again_so i at len [] = is.reads i at len
  again_so i at len (answer.Did result ∷ []) = is.replies _
  again_so i at len (answer.Refused why ∷ rest) = one_so i why rest
  again_so i at len (_ ∷ rest) = is.never

  reopened_so : (last : EpochId) (at len : ℕ) (i : Serial) (granted : OneVersion) (xs : List Answer) → P (reopened kept last at len i granted xs)
  reopened_so last at len i granted xs = over (same_stamp granted.stamp kept.stamp)
    where
      over : (b : Bool) → P (cond b (reads_again i at len xs) (give_up (Unchanged i ∷ []) (refusal.Stale last) xs))
      over true = again_so i at len xs
      over false = one_so i (refusal.Stale last) xs

  reopens_so : (last : EpochId) (at len : ℕ) (xs : List Answer) → P (reopens kept last at len xs)
  reopens_so last at len [] = is.opens
  reopens_so last at len (answer.Reading i granted ∷ rest) = reopened_so last at len i granted rest
  reopens_so last at len (answer.Refused why ∷ []) = is.replies _
  reopens_so last at len (_ ∷ rest) = is.never

  pub reopen_so : (words : Call) (last : EpochId) (xs : List Answer) → P (reopen_wants words kept last xs)
  reopen_so (call.Read fd at len) last xs = reopens_so last at len xs
  reopen_so _ last xs = is.never
