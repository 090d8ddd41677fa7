-- That a steady descriptor is stale is said exactly where its file was opened again with another stamp, with the epoch that held it last.
use Rattle.std.proofs.Common.{◌≡◌, ℕ, Bool, true, false, not, cond, ◌&&◌, List, [], ◌∷◌, Option, Some, None, refl, sym, ◌∙◌, ap, subst, ◌⊎◌, inl, inr}
use Rattle.plain_facts.proofs.Options.{some_same}
use Rattle.plain_facts.proofs.Tests.{and_false, true_false}
use Rattle.locus_ids.specs.declared.config.Config.{Config}
use Rattle.locus_ids.specs.declared.ids.CallId.{CallId}
use Rattle.locus_ids.specs.declared.ids.EpochId.{EpochId}
use Rattle.locus_ids.specs.declared.ids.FileId.{FileId}
use Rattle.locus_ids.specs.declared.ids.Serial.{Serial}
use Rattle.locus_ids.specs.declared.refusal.Refusal.{Refusal}
use Rattle.locus_ids.specs.declared.refusal.Refusal.TheVariants as refusal
use Rattle.commit_graph.specs.Versions.{same_file, same_stamp}
use Rattle.trace_book.specs.declared.call.Call.TheVariants as call
use Rattle.trace_book.specs.declared.call.OpenMode.{OpenMode}
use Rattle.trace_book.specs.declared.call.OpenMode.TheVariants as opens
use Rattle.trace_book.specs.declared.descriptor.Beginning.{Beginning}
use Rattle.trace_book.specs.declared.descriptor.Beginning.TheVariants as begins
use Rattle.trace_book.specs.declared.descriptor.Descriptor.{Descriptor}
use Rattle.trace_book.specs.declared.descriptor.OneVersion.{OneVersion}
use Rattle.trace_book.specs.declared.operation.Op.{Op}
use Rattle.trace_book.specs.declared.operation.Op.TheVariants as op
use Rattle.trace_book.specs.declared.operation.Outcome.{Outcome}
use Rattle.trace_book.specs.declared.operation.Outcome.TheVariants as outcome
use Rattle.trace_book.specs.declared.reply.Reply.{Reply}
use Rattle.trace_book.specs.declared.reply.Reply.TheVariants as reply
use Rattle.call_rules.specs.declared.answer.Answer.TheVariants as answer
use Rattle.call_rules.specs.declared.want.Want.{Want}
use Rattle.call_rules.specs.declared.want.Want.TheVariants as want
use Rattle.call_rules.specs.Closing.{Unchanged, give_up}
use Rattle.call_rules.specs.Descriptors.{begins_read, lowest_free}
use Rattle.call_rules.specs.Opening.{op_wants, reply_to}
use Rattle.call_rules.specs.Reopening.{reads_again, reopens}
use Rattle.call_rules.specs.Scripts.{wants, where_packed}
use Rattle.role_steps.specs.Own.{Every}
use Rattle.role_steps.specs.Using.{last_version}
use Rattle.the_run.specs.Kept.{Among}
use Rattle.the_run.specs.Worlds.{Line}
use Rattle.tree_model.specs.declared.accepted.Waiting.{Waiting}
use Rattle.tree_model.specs.Calls.{call_named, opening_of, version_of, waiting}
use Rattle.lawful_trace.specs.Progress.{Answers, answers, is_packed_in, wants_next}
use Rattle.lawful_trace.specs.Tables.{begun, descriptor}
use Rattle.tree_laws.specs.Following.{IsFollowed}
use Rattle.tree_laws.specs.Printed.{entries}
use Rattle.tree_laws.proofs.Names.{same_epoch_own}
use Rattle.calm_laws.proofs.of_store_laws.Commits.{file_own}
use Rattle.calm_laws.specs.of_store_laws.OneTree.Rest.{EachRest}
use Rattle.calm_laws.proofs.of_store_laws.ScriptNaming.{BeganOpening, openers_begin}
use Rattle.steady_laws.specs.OneVersion.{holds_last, is_another, is_stale_where_due}
use Rattle.headline_laws.proofs.OneVersion.Asks.{read_wants}
use Rattle.headline_laws.proofs.OneVersion.Bytes.{Again, BeginsSteady, Held, Outside, begins_steady}
use Rattle.headline_laws.proofs.OneVersion.Granted.{AnswerGranted, ReadsAgain, no_version, reads_again_so}
use Rattle.headline_laws.proofs.OneVersion.Right.{AnswerRight, NotStale, answers_right}
use Rattle.rest_laws.proofs.StoreStepReading.{began_as_now}

-- the reply doesn't say that the descriptor is stale
abbrev SaysFresh : Reply → Type 0
SaysFresh (reply.No why) = NotStale why
SaysFresh _ = Unit {0}

-- ---- how a read ends, by its script ----

module _ (r : Reply) where
  never_gives : want.Never ≡ want.Give r → ⊥
  never_gives e = cc

  do_gives : (i : Serial) (o : Op) → want.Do i o ≡ want.Give r → ⊥
  do_gives i o e = cc

  close_gives : (i : Serial) → want.Close i ≡ want.Give r → ⊥
  close_gives i e = cc

  gives_same : (q : Reply) → want.Give q ≡ want.Give r → q ≡ r
  gives_same q e = cc

  open_gives : (f : FileId) (m : OpenMode) → want.Open f m ≡ want.Give r → ⊥
  open_gives f m e = cc

-- what was done, or refused
right_reply : (result : Outcome) → AnswerRight (answer.Did result) → SaysFresh (reply_to result)
right_reply outcome.Done k = tt
right_reply (outcome.Found ino kind) k = tt
right_reply (outcome.Data bytes) k = tt
right_reply (outcome.Committed stamp) k = tt
right_reply (outcome.No why) k = absurd k

fresh_is : (q r : Reply) → q ≡ r → SaysFresh q → SaysFresh r
fresh_is q r e k = subst SaysFresh e k

-- by the instance that holds its descriptor
used_fresh : (i : Serial) (at len : ℕ) (xs : Answers) (r : Reply) → Every AnswerRight xs → op_wants i (op.Read at len) xs ≡ want.Give r → SaysFresh r
used_fresh i at len [] r right e = absurd (do_gives r i (op.Read at len) e)
used_fresh i at len (answer.Did result ∷ []) r right e = fresh_is (reply_to result) r (gives_same r (reply_to result) e) (right_reply result right.0)
used_fresh i at len (answer.Did result ∷ (a ∷ rest)) r right e = absurd (never_gives r e)
used_fresh i at len (answer.Refused why ∷ []) r right e = fresh_is (reply.No why) r (gives_same r (reply.No why) e) right.0
used_fresh i at len (answer.Refused why ∷ (a ∷ rest)) r right e = absurd (never_gives r e)
used_fresh i at len (_ ∷ rest) r right e = absurd (never_gives r e)

-- after its version was opened again: it says this refusal once that instance is closed, and nothing else was opened
gave_up : (i : Serial) (why : Refusal) (xs : Answers) (r : Reply) (g : OneVersion) → give_up (Unchanged i ∷ []) why xs ≡ want.Give r → (r ≡ reply.No why) × (last_version (Some g) xs ≡ Some g)
gave_up i why [] r g e = absurd (close_gives r i e)
gave_up i why (answer.Ended stamp ∷ []) r g e = (sym (gives_same r (reply.No why) e), refl)
gave_up i why (answer.Ended stamp ∷ (a ∷ xs)) r g e = absurd (never_gives r e)
gave_up i why (answer.Refused reason ∷ []) r g e = (sym (gives_same r (reply.No why) e), refl)
gave_up i why (answer.Refused reason ∷ (a ∷ xs)) r g e = absurd (never_gives r e)
gave_up i why (_ ∷ xs) r g e = absurd (never_gives r e)

read_fresh : (i : Serial) (at len : ℕ) (xs : Answers) (r : Reply) (g : OneVersion) → Every AnswerRight xs → reads_again i at len xs ≡ want.Give r → SaysFresh r × (last_version (Some g) xs ≡ Some g)
read_fresh i at len [] r g right e = absurd (do_gives r i (op.Read at len) e)
read_fresh i at len (answer.Did result ∷ []) r g right e = (fresh_is (reply_to result) r (gives_same r (reply_to result) e) (right_reply result right.0), refl)
read_fresh i at len (answer.Did result ∷ (a ∷ rest)) r g right e = absurd (never_gives r e)
read_fresh i at len (answer.Refused why ∷ rest) r g right e = (let k : (r ≡ reply.No why) × (last_version (Some g) rest ≡ Some g) = gave_up i why rest r g e in (subst SaysFresh (sym k.0) right.0, k.1))
read_fresh i at len (_ ∷ rest) r g right e = absurd (never_gives r e)

-- what it asks once its version was opened again is sent to that instance alone
abbrev is_sent : Want → Bool
is_sent (want.Look f q) = true
is_sent (want.Open f m) = true
is_sent (want.OpenToMend f) = true
is_sent (want.Make group kind sites) = true
is_sent _ = false

give_up_unsent : (i : Serial) (why : Refusal) (xs : Answers) → is_sent (give_up (Unchanged i ∷ []) why xs) ≡ false
give_up_unsent i why [] = refl
give_up_unsent i why (answer.Ended stamp ∷ []) = refl
give_up_unsent i why (answer.Ended stamp ∷ (a ∷ xs)) = refl
give_up_unsent i why (answer.Refused reason ∷ []) = refl
give_up_unsent i why (answer.Refused reason ∷ (a ∷ xs)) = refl
give_up_unsent i why (_ ∷ xs) = refl

again_unsent : (i : Serial) (at len : ℕ) (xs : Answers) → is_sent (reads_again i at len xs) ≡ false
again_unsent i at len [] = refl
again_unsent i at len (answer.Did result ∷ []) = refl
again_unsent i at len (answer.Did result ∷ (a ∷ rest)) = refl
again_unsent i at len (answer.Refused why ∷ rest) = give_up_unsent i why rest
again_unsent i at len (_ ∷ rest) = refl

op_unsent : (i : Serial) (at len : ℕ) (xs : Answers) → is_sent (op_wants i (op.Read at len) xs) ≡ false
op_unsent i at len [] = refl
op_unsent i at len (answer.Did result ∷ []) = refl
op_unsent i at len (answer.Did result ∷ (a ∷ rest)) = refl
op_unsent i at len (answer.Refused why ∷ []) = refl
op_unsent i at len (answer.Refused why ∷ (a ∷ rest)) = refl
op_unsent i at len (_ ∷ rest) = refl

unpacked : (pk : ℕ → Bool) (w : Want) (r : Reply) → is_sent w ≡ false → where_packed pk w ≡ want.Give r → w ≡ want.Give r
unpacked pk (want.Look f q) r unsent k = absurd (true_false unsent)
unpacked pk (want.Open f m) r unsent k = absurd (true_false unsent)
unpacked pk (want.OpenToMend f) r unsent k = absurd (true_false unsent)
unpacked pk (want.Make group kind sites) r unsent k = absurd (true_false unsent)
unpacked pk (want.Do j o) r unsent k = k
unpacked pk (want.Close j) r unsent k = k
unpacked pk (want.Give q) r unsent k = k
unpacked pk want.Never r unsent k = k

-- ---- what is due ----

-- it says that it is stale, and another version was granted; or neither
abbrev Due : OneVersion → EpochId → Reply → Option OneVersion → Type 0
Due v last r granted = ((r ≡ reply.No (refusal.Stale last)) × (is_another granted v ≡ true)) ⊎ (SaysFresh r × (is_another granted v ≡ false))

same_no_other : (g v : OneVersion) → g.file ≡ v.file → same_stamp g.stamp v.stamp ≡ true → is_another (Some g) v ≡ false
same_no_other g v file stamp = ap not (ap (λ (b : Bool). b && same_stamp g.stamp v.stamp) (subst (λ (f : FileId). same_file g.file f ≡ true) file (file_own g.file)) ∙ stamp)

-- what a read that opens its version again is answered at last
again_due : (pk : ℕ → Bool) (v : OneVersion) (last : EpochId) (at len : ℕ) (xs : Answers) (r : Reply) → Every AnswerRight xs → ((i : Serial) (g : OneVersion) (rest : Answers) → xs ≡ answer.Reading i g ∷ rest → g.file ≡ v.file) → where_packed pk (reopens v last at len xs) ≡ want.Give r → Due v last r (last_version None xs)
again_due pk v last at len [] r right files e = inr (over (pk v.file.group) e, refl)
  where
    over : (q : Bool) → cond q (want.Open v.file opens.Read) (want.Give (reply.No refusal.NoStorage)) ≡ want.Give r → SaysFresh r
    over true k = absurd (open_gives r v.file opens.Read k)
    over false k = fresh_is (reply.No refusal.NoStorage) r (gives_same r (reply.No refusal.NoStorage) k) tt
again_due pk v last at len (answer.Reading i g ∷ rest) r right files e = over (same_stamp g.stamp v.stamp) refl e
  where
    over : (q : Bool) → same_stamp g.stamp v.stamp ≡ q → where_packed pk (cond q (reads_again i at len rest) (give_up (Unchanged i ∷ []) (refusal.Stale last) rest)) ≡ want.Give r → Due v last r (last_version (Some g) rest)
    over true q k = (let its : SaysFresh r × (last_version (Some g) rest ≡ Some g) = read_fresh i at len rest r g right.1 (unpacked pk (reads_again i at len rest) r (again_unsent i at len rest) k) in
        inr (its.0, ap (λ (o : Option OneVersion). is_another o v) its.1 ∙ same_no_other g v (files i g rest refl) q))
    over false q k = (let its : (r ≡ reply.No (refusal.Stale last)) × (last_version (Some g) rest ≡ Some g) = gave_up i (refusal.Stale last) rest r g (unpacked pk (give_up (Unchanged i ∷ []) (refusal.Stale last) rest) r (give_up_unsent i (refusal.Stale last) rest) k) in
        inl (its.0, ap (λ (o : Option OneVersion). is_another o v) its.1 ∙ ap not (ap (λ (b : Bool). same_file g.file v.file && b) q ∙ and_false (same_file g.file v.file))))
again_due pk v last at len (answer.Refused why ∷ []) r right files e = inr (fresh_is (reply.No why) r (gives_same r (reply.No why) e) right.0, refl)
again_due pk v last at len (answer.Refused why ∷ (a ∷ rest)) r right files e = absurd (never_gives r e)
again_due pk v last at len (_ ∷ rest) r right files e = absurd (never_gives r e)

-- ---- a read that is answered ----

-- nothing was granted to a call that neither walks nor opens a version again
ungranted : (c : Config) (t : List Line) → IsFollowed c t → (d : CallId) (b : Beginning) → begun (entries t) d ≡ Some b → ((id : CallId) → b ≡ begins.Walks id → ⊥) → ((kept : OneVersion) (last : EpochId) → b ≡ begins.Reopens kept last → ⊥) → version_of (entries t) d ≡ None
ungranted c t h d b starts no_walk no_again = no_version (entries t) d (over (opening_of (entries t) d) refl)
  where
    over : (o : Option Descriptor) → opening_of (entries t) d ≡ o → opening_of (entries t) d ≡ None
    over None is = is
    over (Some x) is = absurd (by (openers_begin c t h d x is).opening)
      where
        by : BeganOpening t d (openers_begin c t h d x is).caller.words → ⊥
        by (inl walks) = no_walk d (some_same b (begins.Walks d) (sym starts ∙ walks))
        by (inr again) = no_again again.2.kept again.2.last (some_same b again.0 (sym starts ∙ again.1) ∙ again.2.begins_are)

pub stale_where_due : (c : Config) (t : List Line) (h : IsFollowed c t) (rest : EachRest c t) (w : Waiting) (fd at len : ℕ) (x : Descriptor) (v : OneVersion) (r : Reply) → Among w (waiting (entries t)) → w.words ≡ call.Read fd at len → call_named (entries t) w.call ≡ Some w →
    descriptor (entries t) w.site w.process fd ≡ Some x → x.steady ≡ Some v → wants_next c (entries t) w.call ≡ want.Give r → is_stale_where_due (entries t) w.site w.process w.call r (record { fd = fd; at = at; len = len; version = v }) ≡ true
stale_where_due c t h rest w fd at len x v r among reads named found keeps gives = said r (by (begins_steady w.epoch x v keeps))
  where
    d : CallId
    d = w.call

    starts : begun (entries t) d ≡ Some (begins_read w.epoch (Some x))
    starts = began_as_now c t h rest w fd at len among reads ∙ ap (λ (o : Option Descriptor). Some (begins_read w.epoch o)) found

    gave : (b : Beginning) → begins_read w.epoch (Some x) ≡ b → wants c.mounts (is_packed_in c (entries t) w.epoch) (lowest_free (descriptor (entries t) w.site w.process)) (call.Read fd at len) b (answers c (entries t) d) ≡ want.Give r
    gave b is = sym (read_wants c (entries t) d w b fd at len (answers c (entries t) d) named (starts ∙ ap Some is) reads) ∙ gives

    right : Every AnswerRight (answers c (entries t) d)
    right = answers_right c d w fd at len reads (begins_read w.epoch (Some x)) t h named starts

    use_walks : (e : EpochId) (i : Serial) (id : CallId) → begins.Uses e i ≡ begins.Walks id → ⊥
    use_walks e i id k = cc

    use_again : (e : EpochId) (i : Serial) (kept : OneVersion) (last : EpochId) → begins.Uses e i ≡ begins.Reopens kept last → ⊥
    use_again e i kept last k = cc

    denied_walks : (why : Refusal) (id : CallId) → begins.Denied why ≡ begins.Walks id → ⊥
    denied_walks why id k = cc

    denied_again : (why : Refusal) (kept : OneVersion) (last : EpochId) → begins.Denied why ≡ begins.Reopens kept last → ⊥
    denied_again why kept last k = cc

    by : BeginsSteady w.epoch x v (begins_read w.epoch (Some x)) → Due v x.epoch r (version_of (entries t) d)
    by (Held is inside) = inr (
      used_fresh x.inst at len (answers c (entries t) d) r right (unpacked (is_packed_in c (entries t) w.epoch) (op_wants x.inst (op.Read at len) (answers c (entries t) d)) r (op_unsent x.inst at len (answers c (entries t) d)) (gave (begins.Uses x.epoch x.inst) is)),
      ap (λ (o : Option OneVersion). is_another o v) (ungranted c t h d (begins.Uses x.epoch x.inst) (starts ∙ ap Some is) (use_walks x.epoch x.inst) (use_again x.epoch x.inst)),
    )
    by (Outside is) = inr (
      fresh_is (reply.No refusal.NoPartition) r (gives_same r (reply.No refusal.NoPartition) (gave (begins.Denied refusal.NoPartition) is)) tt,
      ap (λ (o : Option OneVersion). is_another o v) (ungranted c t h d (begins.Denied refusal.NoPartition) (starts ∙ ap Some is) (denied_walks refusal.NoPartition) (denied_again refusal.NoPartition)),
    )
    by (Again e now is) = subst (Due v x.epoch r) (sym again.version_is) (again_due (is_packed_in c (entries t) w.epoch) v x.epoch at len (answers c (entries t) d) r right files (gave (begins.Reopens v x.epoch) is))
      where
        again : ReadsAgain c t e d v
        again = reads_again_so c d w fd at len reads v x.epoch e now t h named (starts ∙ ap Some is)

        files : (i : Serial) (g : OneVersion) (more : Answers) → answers c (entries t) d ≡ answer.Reading i g ∷ more → g.file ≡ v.file
        files i g more same = (subst (Every (AnswerGranted t e d v)) same again.granted).0.file_is

    another : Bool
    another = is_another (version_of (entries t) d) v

    -- the epoch that held it last
    held : holds_last (descriptor (entries t) w.site w.process fd) x.epoch ≡ true
    held = ap (λ (o : Option Descriptor). holds_last o x.epoch) found ∙ same_epoch_own x.epoch

    fresh : (q : Reply) → SaysFresh q → another ≡ false → is_stale_where_due (entries t) w.site w.process d q (record { fd = fd; at = at; len = len; version = v }) ≡ true
    fresh (reply.No (refusal.Stale e)) k same = absurd k
    fresh (reply.No (refusal.Changed e)) k same = refl
    fresh q k same = ap not same

    said : (q : Reply) → Due v x.epoch q (version_of (entries t) d) → is_stale_where_due (entries t) w.site w.process d q (record { fd = fd; at = at; len = len; version = v }) ≡ true
    said q (inl k) = subst (λ (z : Reply). is_stale_where_due (entries t) w.site w.process d z (record { fd = fd; at = at; len = len; version = v }) ≡ true) (sym k.0)
        (ap (λ (b : Bool). b && holds_last (descriptor (entries t) w.site w.process fd) x.epoch) k.1 ∙ held)
    said q (inr k) = fresh q k.0 k.1
