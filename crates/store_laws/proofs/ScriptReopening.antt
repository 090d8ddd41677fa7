-- What a read that opens a version again asks and gives: it opens the file of the kept version, to read; and when it gives what it read it was
-- answered by its instance, and by that.
use Rattle.std.proofs.Common.{◌≡◌, ℕ, Bool, true, false, cond, List, [], ◌∷◌, Option, refl, subst}
use Rattle.role_steps.proofs.of_plain_facts.Tests.{true_false}
use Rattle.locus_ids.specs.declared.config.Mount.{Mount}
use Rattle.locus_ids.specs.declared.ids.CallId.{CallId}
use Rattle.locus_ids.specs.declared.ids.EpochId.{EpochId}
use Rattle.locus_ids.specs.declared.ids.Serial.{Serial}
use Rattle.locus_ids.specs.declared.refusal.Refusal.{Refusal}
use Rattle.locus_ids.specs.declared.refusal.Refusal.TheVariants as refusal
use Rattle.commit_graph.specs.Versions.{same_stamp}
use Rattle.trace_book.specs.declared.call.OpenMode.TheVariants as opens
use Rattle.trace_book.specs.declared.call.Call.TheVariants as call
use Rattle.trace_book.specs.declared.descriptor.Beginning.TheVariants as begins
use Rattle.trace_book.specs.declared.descriptor.OneVersion.{OneVersion}
use Rattle.trace_book.specs.declared.operation.Outcome.{Outcome}
use Rattle.trace_book.specs.declared.reply.Reply.TheVariants as reply
use Rattle.call_rules.specs.declared.answer.Answer.TheVariants as answer
use Rattle.call_rules.specs.declared.want.Want.{Want}
use Rattle.call_rules.specs.declared.want.Want.TheVariants as want
use Rattle.call_rules.specs.Closing.{Unchanged, give_up}
use Rattle.call_rules.specs.Reopening.{reads_again, reopened, reopens}
use Rattle.call_rules.specs.Scripts.{named_wants, where_packed, wants}
use Rattle.call_rules.specs.Words.{is_badly_named}
use Rattle.lawful_trace.specs.Progress.{Answers}
use Rattle.tree_laws.specs.Serials.{is_open_want}
use Rattle.store_laws.proofs.ScriptLasting.{OpensSo, given_packed}
use Rattle.call_rules.specs.declared.answer.Answer.{Answer}

-- ---- what a read that opens a version again asks and gives ----

give_up_shut : (i : Serial) (why : Refusal) (xs : Answers) → is_open_want (give_up (Unchanged i ∷ []) why xs) ≡ false
give_up_shut i why [] = refl
give_up_shut i why (answer.Ended stamp ∷ []) = refl
give_up_shut i why (answer.Ended stamp ∷ (a ∷ xs)) = refl
give_up_shut i why (answer.Refused reason ∷ []) = refl
give_up_shut i why (answer.Refused reason ∷ (a ∷ xs)) = refl
give_up_shut i why (_ ∷ xs) = refl

reads_again_shut : (i : Serial) (at len : ℕ) (xs : Answers) → is_open_want (reads_again i at len xs) ≡ false
reads_again_shut i at len [] = refl
reads_again_shut i at len (answer.Did result ∷ []) = refl
reads_again_shut i at len (answer.Did result ∷ (a ∷ rest)) = refl
reads_again_shut i at len (answer.Refused why ∷ rest) = give_up_shut i why rest
reads_again_shut i at len (_ ∷ rest) = refl

reopened_shut : (kept : OneVersion) (last : EpochId) (at len : ℕ) (i : Serial) (granted : OneVersion) (xs : Answers) → is_open_want (reopened kept last at len i granted xs) ≡ false
reopened_shut kept last at len i granted xs = over (same_stamp granted.stamp kept.stamp)
  where
    over : (b : Bool) → is_open_want (cond b (reads_again i at len xs) (give_up (Unchanged i ∷ []) (refusal.Stale last) xs)) ≡ false
    over true = reads_again_shut i at len xs
    over false = give_up_shut i (refusal.Stale last) xs

reopens_shut : (kept : OneVersion) (last : EpochId) (at len : ℕ) (a : Answer) (xs : Answers) → is_open_want (reopens kept last at len (a ∷ xs)) ≡ false
reopens_shut kept last at len (answer.Reading i granted) xs = reopened_shut kept last at len i granted xs
reopens_shut kept last at len (answer.Refused why) [] = refl
reopens_shut kept last at len (answer.Refused why) (a ∷ xs) = refl
reopens_shut kept last at len _ xs = refl

-- of opens, only one of the kept version's file, to read
abbrev pub OpensKept : OneVersion → Want → Type 0
OpensKept kept (want.Open f n) = (kept.file ≡ f) × (n ≡ opens.Read)
OpensKept kept (want.OpenToMend f) = ⊥
OpensKept kept (want.Make g kind sites) = ⊥
OpensKept kept _ = Unit {0}

shut_kept : (kept : OneVersion) (w : Want) → is_open_want w ≡ false → OpensKept kept w
shut_kept kept (want.Open f n) e = absurd (true_false e)
shut_kept kept (want.OpenToMend f) e = absurd (true_false e)
shut_kept kept (want.Make g kind sites) e = absurd (true_false e)
shut_kept kept (want.Look f w) e = tt
shut_kept kept (want.Do i o) e = tt
shut_kept kept (want.Close i) e = tt
shut_kept kept (want.Give r) e = tt
shut_kept kept want.Never e = tt

kept_so : (kept : OneVersion) (w : Want) → OpensKept kept w → OpensSo opens.Read w
kept_so kept (want.Open f n) k = k.1
kept_so kept (want.OpenToMend f) k = k
kept_so kept (want.Make g kind sites) k = k
kept_so kept (want.Look f w) k = tt
kept_so kept (want.Do i o) k = tt
kept_so kept (want.Close i) k = tt
kept_so kept (want.Give r) k = tt
kept_so kept want.Never k = tt

packed_kept : (kept : OneVersion) (pk : ℕ → Bool) (w : Want) → OpensKept kept w → OpensKept kept (where_packed pk w)
packed_kept kept pk w h = over w h
  where
    by_test : (x : Bool) (y : Want) → OpensKept kept y → OpensKept kept (cond x y (want.Give (reply.No refusal.NoStorage)))
    by_test true y k = k
    by_test false y k = tt

    over : (y : Want) → OpensKept kept y → OpensKept kept (where_packed pk y)
    over (want.Look f w) k = by_test (pk f.group) (want.Look f w) k
    over (want.Open f n) k = by_test (pk f.group) (want.Open f n) k
    over (want.OpenToMend f) k = absurd k
    over (want.Make g kind sites) k = absurd k
    over (want.Do i o) k = k
    over (want.Close i) k = k
    over (want.Give r) k = k
    over want.Never k = k

pub packed_shut : (pk : ℕ → Bool) (w : Want) → is_open_want w ≡ false → is_open_want (where_packed pk w) ≡ false
packed_shut pk w h = over w h
  where
    by_test : (x : Bool) (y : Want) → is_open_want y ≡ false → is_open_want (cond x y (want.Give (reply.No refusal.NoStorage))) ≡ false
    by_test true y k = k
    by_test false y k = refl

    over : (y : Want) → is_open_want y ≡ false → is_open_want (where_packed pk y) ≡ false
    over (want.Look f w) k = by_test (pk f.group) (want.Look f w) k
    over (want.Open f m) k = by_test (pk f.group) (want.Open f m) k
    over (want.OpenToMend f) k = by_test (pk f.group) (want.OpenToMend f) k
    over (want.Make g kind sites) k = by_test (pk g) (want.Make g kind sites) k
    over (want.Do i o) k = k
    over (want.Close i) k = k
    over (want.Give r) k = k
    over want.Never k = k

reopens_kept : (kept : OneVersion) (last : EpochId) (at len : ℕ) (xs : Answers) → OpensKept kept (reopens kept last at len xs)
reopens_kept kept last at len [] = (refl, refl)
reopens_kept kept last at len (a ∷ rest) = shut_kept kept (reopens kept last at len (a ∷ rest)) (reopens_shut kept last at len a rest)

-- it opens the file of the kept version to read, alone
pub read_kept : (mounts : List Mount) (pk : ℕ → Bool) (free : Option ℕ) (fd at len : ℕ) (kept : OneVersion) (last : EpochId) (xs : Answers) → OpensKept kept (wants mounts pk free (call.Read fd at len) (begins.Reopens kept last) xs)
read_kept mounts pk free fd at len kept last xs = packed_kept kept pk (named_wants mounts free (call.Read fd at len) (begins.Reopens kept last) xs) (over (is_badly_named mounts (call.Read fd at len)))
  where
    over : (b : Bool) → OpensKept kept (cond b (want.Give (reply.No refusal.BadName)) (reopens kept last at len xs))
    over true = tt
    over false = reopens_kept kept last at len xs

pub read_so : (mounts : List Mount) (pk : ℕ → Bool) (free : Option ℕ) (fd at len : ℕ) (kept : OneVersion) (last : EpochId) (xs : Answers) → OpensSo opens.Read (wants mounts pk free (call.Read fd at len) (begins.Reopens kept last) xs)
read_so mounts pk free fd at len kept last xs = kept_so kept (wants mounts pk free (call.Read fd at len) (begins.Reopens kept last) xs) (read_kept mounts pk free fd at len kept last xs)

-- once it has an answer it opens nothing
pub taken_shut : (mounts : List Mount) (pk : ℕ → Bool) (free : Option ℕ) (fd at len : ℕ) (kept : OneVersion) (last : EpochId) (a : Answer) (xs : Answers) → is_open_want (wants mounts pk free (call.Read fd at len) (begins.Reopens kept last) (a ∷ xs)) ≡ false
taken_shut mounts pk free fd at len kept last a xs = packed_shut pk (named_wants mounts free (call.Read fd at len) (begins.Reopens kept last) (a ∷ xs)) (over (is_badly_named mounts (call.Read fd at len)))
  where
    over : (b : Bool) → is_open_want (cond b (want.Give (reply.No refusal.BadName)) (reopens kept last at len (a ∷ xs))) ≡ false
    over true = refl
    over false = reopens_shut kept last at len a xs

-- a read that walks, of which there is none, asks nothing
pub read_walks : (mounts : List Mount) (pk : ℕ → Bool) (free : Option ℕ) (id : CallId) (fd at len : ℕ) (xs : Answers) → is_open_want (wants mounts pk free (call.Read fd at len) (begins.Walks id) xs) ≡ false
read_walks mounts pk free id fd at len xs = over (is_badly_named mounts (call.Read fd at len))
  where
    over : (b : Bool) → is_open_want (where_packed pk (cond b (want.Give (reply.No refusal.BadName)) want.Never)) ≡ false
    over true = refl
    over false = refl

abbrev pub NotData : Want → Type 0
NotData (want.Give (reply.Data bytes)) = ⊥
NotData _ = Unit {0}

-- what it has taken when it gives what it read
pub record TookAgain (xs : Answers) : Type 0 where
  pub inst : Serial
  pub version : OneVersion
  pub result : Outcome
  pub is : xs ≡ answer.Reading inst version ∷ answer.Did result ∷ []

give_up_data : (i : Serial) (why : Refusal) (xs : Answers) → NotData (give_up (Unchanged i ∷ []) why xs)
give_up_data i why [] = tt
give_up_data i why (answer.Ended stamp ∷ []) = tt
give_up_data i why (answer.Ended stamp ∷ (a ∷ xs)) = tt
give_up_data i why (answer.Refused reason ∷ []) = tt
give_up_data i why (answer.Refused reason ∷ (a ∷ xs)) = tt
give_up_data i why (_ ∷ xs) = tt

took_read : (i : Serial) (version : OneVersion) (at len : ℕ) (xs : Answers) (bytes : List ℕ) → reads_again i at len xs ≡ want.Give (reply.Data bytes) → TookAgain (answer.Reading i version ∷ xs)
took_read i version at len [] bytes e = absurd (subst NotData e tt)
took_read i version at len (answer.Did result ∷ []) bytes e = record { inst = i; version = version; result = result; is = refl }
took_read i version at len (answer.Did result ∷ (a ∷ rest)) bytes e = absurd (subst NotData e tt)
took_read i version at len (answer.Refused why ∷ rest) bytes e = absurd (subst NotData e (give_up_data i why rest))
took_read i version at len (_ ∷ rest) bytes e = absurd (subst NotData e tt)

took_reopened : (kept : OneVersion) (last : EpochId) (at len : ℕ) (i : Serial) (granted : OneVersion) (xs : Answers) (bytes : List ℕ) (b : Bool) → cond b (reads_again i at len xs) (give_up (Unchanged i ∷ []) (refusal.Stale last) xs) ≡ want.Give (reply.Data bytes) → TookAgain (answer.Reading i granted ∷ xs)
took_reopened kept last at len i granted xs bytes true e = took_read i granted at len xs bytes e
took_reopened kept last at len i granted xs bytes false e = absurd (subst NotData e (give_up_data i (refusal.Stale last) xs))

took_again : (kept : OneVersion) (last : EpochId) (at len : ℕ) (xs : Answers) (bytes : List ℕ) → reopens kept last at len xs ≡ want.Give (reply.Data bytes) → TookAgain xs
took_again kept last at len [] bytes e = absurd (subst NotData e tt)
took_again kept last at len (answer.Reading i granted ∷ rest) bytes e = took_reopened kept last at len i granted rest bytes (same_stamp granted.stamp kept.stamp) e
took_again kept last at len (answer.Refused why ∷ []) bytes e = absurd (subst NotData e tt)
took_again kept last at len (answer.Refused why ∷ (a ∷ rest)) bytes e = absurd (subst NotData e tt)
took_again kept last at len (_ ∷ rest) bytes e = absurd (subst NotData e tt)

pub gives_read : (mounts : List Mount) (pk : ℕ → Bool) (free : Option ℕ) (fd at len : ℕ) (kept : OneVersion) (last : EpochId) (xs : Answers) (bytes : List ℕ) → wants mounts pk free (call.Read fd at len) (begins.Reopens kept last) xs ≡ want.Give (reply.Data bytes) → TookAgain xs
gives_read mounts pk free fd at len kept last xs bytes e = over (is_badly_named mounts (call.Read fd at len)) (given_packed pk (named_wants mounts free (call.Read fd at len) (begins.Reopens kept last) xs) (reply.Data bytes) (λ k. subst NotData k tt) e)
  where
    over : (b : Bool) → cond b (want.Give (reply.No refusal.BadName)) (reopens kept last at len xs) ≡ want.Give (reply.Data bytes) → TookAgain xs
    over true k = absurd (subst NotData k tt)
    over false k = took_again kept last at len xs bytes k
