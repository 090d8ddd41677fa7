-- What a commit or a close is answered with was committed before its reply, and is held from then on.
use Rattle.std.specs.List.{find}
use Rattle.std.proofs.Common.{◌≡◌, ℕ, ◌+◌, ◌==◌, ◌⊎◌, Bool, true, false, cond, ◌&&◌, ◌||◌, List, [], ◌∷◌, ◌++◌, Option, Some, None, refl, sym, ◌∙◌, ap, subst, inl, inr}
use Rattle.role_steps.proofs.of_plain_facts.Options.{none_some, some_same}
use Rattle.role_steps.proofs.of_plain_facts.Tests.{and_first, and_second, false_true}
use Rattle.locus_ids.specs.declared.config.Config.{Config}
use Rattle.locus_ids.specs.declared.config.Mount.{Mount}
use Rattle.locus_ids.specs.declared.ids.CallId.{CallId}
use Rattle.locus_ids.specs.declared.ids.EpochId.{EpochId}
use Rattle.locus_ids.specs.declared.ids.FileId.{FileId}
use Rattle.locus_ids.specs.declared.ids.Serial.{Serial}
use Rattle.locus_ids.specs.declared.ids.Stamp.{Stamp}
use Rattle.locus_ids.specs.declared.refusal.Refusal.{Refusal}
use Rattle.locus_ids.specs.declared.refusal.Refusal.TheVariants as refusal
use Rattle.locus_ids.specs.declared.sites.Sites.{Sites}
use Rattle.commit_graph.specs.Versions.{is_in, is_version, same_file, same_stamp}
use Rattle.commit_graph.proofs.Names.{same_stamp_eq}
use Rattle.site_laws.proofs.Vectors.HistoryHistory.{same_file_eq}
use Rattle.trace_book.specs.declared.call.Call.{Call}
use Rattle.trace_book.specs.declared.call.Call.TheVariants as call
use Rattle.trace_book.specs.declared.descriptor.Beginning.{Beginning}
use Rattle.trace_book.specs.declared.descriptor.Beginning.TheVariants as begins
use Rattle.trace_book.specs.declared.entry.Entry.{Entry}
use Rattle.trace_book.specs.declared.operation.Op.TheVariants as op
use Rattle.trace_book.specs.declared.operation.Outcome.{Outcome}
use Rattle.trace_book.specs.declared.operation.Outcome.TheVariants as outcome
use Rattle.trace_book.specs.declared.record.Record.{Record}
use Rattle.trace_book.specs.declared.record.Record.TheVariants as says
use Rattle.trace_book.specs.declared.reply.Reply.TheVariants as reply
use Rattle.call_rules.specs.declared.answer.Answer.{Answer}
use Rattle.call_rules.specs.declared.answer.Answer.TheVariants as answer
use Rattle.call_rules.specs.declared.want.Want.{Want}
use Rattle.call_rules.specs.declared.want.Want.TheVariants as want
use Rattle.call_rules.specs.Descriptors.{lowest_free}
use Rattle.call_rules.specs.Opening.{close_wants, op_wants, reply_to}
use Rattle.call_rules.specs.Scripts.{where_packed, wants}
use Rattle.role_steps.specs.Own.{Every}
use Rattle.role_steps.specs.Views.{Told, Shown}
use Rattle.the_run.specs.Kept.{Among}
use Rattle.the_run.specs.Worlds.{Line}
use Rattle.tree_model.specs.declared.accepted.Waiting.{Waiting}
use Rattle.tree_model.specs.Calls.{call_named, waiting}
use Rattle.tree_model.specs.Folds.{Trace}
use Rattle.tree_model.specs.Histories.{format_stamp, format_version, format_versions, history}
use Rattle.lawful_trace.specs.CallRows.{is_this}
use Rattle.lawful_trace.specs.Progress.{answers, is_packed_in, left_epoch, now_wants, unless_left, wants_as, wants_next}
use Rattle.lawful_trace.specs.Tables.{begun, descriptor}
use Rattle.tree_laws.specs.Following.{IsFollowed, MayTell}
use Rattle.tree_laws.specs.Printed.{entries, onto_entries}
use Rattle.tree_laws.proofs.Boots.{found_every}
use Rattle.tree_laws.proofs.Waiting.{accepted}
use Rattle.headline_laws.specs.Promises.Acknowledging.{acknowledges}
use Rattle.headline_laws.specs.Promises.Acknowledged.{IsCallOn, IsOfFormat, NewOnceAcknowledged, OnlyChangedRefuses, TellsStamp, WasCommitted}
use Rattle.headline_laws.specs.Promises.Holding.{AtEachMoment, CommitsAreHeld, CommitsStayHeld, HoldsAtLeast}
use Rattle.headline_laws.proofs.Promises.Answered.{Brings, BringsSo, IsOfGranted, IsShort, all_bring, shorter}

-- ---- what a reply tells ----

-- the version that a commit's or a close's reply tells
abbrev told_of : Want → Option Stamp
told_of (want.Give (reply.Committed s)) = Some s
told_of (want.Give (reply.Closed o)) = o
told_of _ = None

in_group_told : (b : Bool) (w : Want) → told_of w ≡ None → told_of (cond b w (want.Give (reply.No refusal.NoStorage))) ≡ None
in_group_told true w h = h
in_group_told false w h = refl

packed_told : (packed : ℕ → Bool) (w : Want) → told_of (where_packed packed w) ≡ told_of w
packed_told packed (want.Look file asked) = in_group_told (packed file.group) (want.Look file asked) refl
packed_told packed (want.Open file how) = in_group_told (packed file.group) (want.Open file how) refl
packed_told packed (want.OpenToMend file) = in_group_told (packed file.group) (want.OpenToMend file) refl
packed_told packed (want.Make group kind sites) = in_group_told (packed group) (want.Make group kind sites) refl
packed_told packed (want.Do j o) = refl
packed_told packed (want.Close j) = refl
packed_told packed (want.Give r) = refl
packed_told packed want.Never = refl

-- the version stands on the file of the instance that the call began on
record From (c : Config) (t : Trace) (d : CallId) (s : Stamp) : Type 0 where
  accepted : Waiting
  named : call_named t d ≡ Some accepted
  epoch : EpochId
  made_in : accepted.epoch ≡ Some epoch
  stands : acknowledges accepted.words ≡ true → (f : EpochId) (i : Serial) → begun t d ≡ Some (begins.Uses f i) → IsOfGranted c t epoch i s

module _ (c : Config) (t : Trace) (d : CallId) (s : Stamp) where
  by_op : (i : Serial) (xs : List Answer) → Every (BringsSo c t d) xs → told_of (op_wants i op.Commit xs) ≡ Some s → From c t d s
  by_op i [] h e = absurd (none_some s e)
  by_op i (answer.Did result ∷ []) h e = by_result result h.0 e
    where
      by_result : (r : Outcome) → BringsSo c t d (answer.Did r) → told_of (want.Give (reply_to r)) ≡ Some s → From c t d s
      by_result (outcome.Committed z) k e = record { accepted = k.accepted; named = k.named; epoch = k.epoch; made_in = k.made_in; stands = λ kind f i uses. subst (IsOfGranted c t k.epoch i) (some_same z s e) (k.brings kind f i uses) }
      by_result outcome.Done k e = absurd (none_some s e)
      by_result (outcome.Found ino kind) k e = absurd (none_some s e)
      by_result (outcome.Data bytes) k e = absurd (none_some s e)
      by_result (outcome.No why) k e = absurd (none_some s e)
  by_op i (answer.Refused why ∷ []) h e = absurd (none_some s e)
  by_op i (_ ∷ rest) h e = absurd (none_some s e)

  by_close : (i : Serial) (xs : List Answer) → Every (BringsSo c t d) xs → told_of (close_wants i xs) ≡ Some s → From c t d s
  by_close i [] h e = absurd (none_some s e)
  by_close i (answer.Ended o ∷ []) h e = by_stamp o h.0 e
    where
      by_stamp : (o : Option Stamp) → BringsSo c t d (answer.Ended o) → o ≡ Some s → From c t d s
      by_stamp None k e = absurd (none_some s e)
      by_stamp (Some z) k e = record { accepted = k.accepted; named = k.named; epoch = k.epoch; made_in = k.made_in; stands = λ kind f i uses. subst (IsOfGranted c t k.epoch i) (some_same z s e) (k.brings kind f i uses) }
  by_close i (answer.Refused why ∷ []) h e = absurd (none_some s e)
  by_close i (_ ∷ rest) h e = absurd (none_some s e)

  -- the call began on an instance, and tells a version of its file
  record FromUses (b : Beginning) : Type 0 where
    named_in : EpochId
    instance : Serial
    begins : b ≡ begins.Uses named_in instance
    from : From c t d s

  by_script : (mounts : List Mount) (packed : ℕ → Bool) (free : Option ℕ) (words : Call) → acknowledges words ≡ true → (b : Beginning) (xs : List Answer) → Every (BringsSo c t d) xs → told_of (wants mounts packed free words b xs) ≡ Some s → FromUses b
  by_script mounts packed free (call.Commit fd) k (begins.Uses f i) xs h e = record { named_in = f; instance = i; begins = refl; from = by_op i xs h (sym (packed_told packed (op_wants i op.Commit xs)) ∙ e) }
  by_script mounts packed free (call.Close fd) k (begins.Uses f i) xs h e = record { named_in = f; instance = i; begins = refl; from = by_close i xs h (sym (packed_told packed (close_wants i xs)) ∙ e) }
  by_script mounts packed free (call.Commit fd) k (begins.Denied why) xs h e = absurd (none_some s e)
  by_script mounts packed free (call.Close fd) k (begins.Denied why) xs h e = absurd (none_some s e)
  by_script mounts packed free (call.Commit fd) k (begins.Walks id) xs h e = absurd (none_some s e)
  by_script mounts packed free (call.Close fd) k (begins.Walks id) xs h e = absurd (none_some s e)
  by_script mounts packed free (call.Commit fd) k (begins.Reopens kept last) xs h e = absurd (none_some s e)
  by_script mounts packed free (call.Close fd) k (begins.Reopens kept last) xs h e = absurd (none_some s e)
  by_script mounts packed free (call.Commit fd) k begins.Frees xs h e = absurd (none_some s e)
  by_script mounts packed free (call.Close fd) k begins.Frees xs h e = absurd (none_some s e)
  by_script mounts packed free _ k b xs h e = absurd (false_true k)

  record FromBegun : Type 0 where
    named_in : EpochId
    instance : Serial
    begins : begun t d ≡ Some (begins.Uses named_in instance)
    from : From c t d s

  by_begun : (caller : Waiting) → acknowledges caller.words ≡ true → (o : Option Beginning) → begun t d ≡ o → Every (BringsSo c t d) (answers c t d) → told_of (wants_as c t (Some caller) o (answers c t d)) ≡ Some s → FromBegun
  by_begun caller k None is h e = absurd (none_some s e)
  by_begun caller k (Some b) is h e = record { named_in = r.named_in; instance = r.instance; begins = is ∙ ap Some r.begins; from = r.from }
    where
      r : FromUses b
      r = by_script c.mounts (is_packed_in c t caller.epoch) (lowest_free (descriptor t caller.site caller.process)) caller.words k b (answers c t d) h e

  unless : (o : Option EpochId) (w : Want) → told_of (unless_left o w) ≡ Some s → told_of w ≡ Some s
  unless None w e = e
  unless (Some f) w e = absurd (none_some s e)

  by_named : (caller : Waiting) → acknowledges caller.words ≡ true → call_named t d ≡ Some caller → Every (BringsSo c t d) (answers c t d) → told_of (wants_next c t d) ≡ Some s → FromBegun
  by_named caller k named h e = by_begun caller k (begun t d) refl h (ap (λ (o : Option Waiting). told_of (wants_as c t o (begun t d) (answers c t d))) (sym named) ∙ e)

tells : (c : Config) (t : Trace) (caller : Waiting) (s : Stamp) → TellsStamp c t caller s → told_of (now_wants c t caller) ≡ Some s
tells c t caller s (inl e) = ap told_of e
tells c t caller s (inr e) = ap told_of e

-- ---- what refuses ----

-- the refusal that a reply tells
abbrev refused_of : Want → Option Refusal
refused_of (want.Give (reply.No why)) = Some why
refused_of _ = None

module _ (c : Config) (t : Trace) (d : CallId) (why : Refusal) (accepted : Waiting) (named : call_named t d ≡ Some accepted) (kind : acknowledges accepted.words ≡ true) (f : EpochId) (i : Serial) (uses : begun t d ≡ Some (begins.Uses f i)) where
  -- an answer that brings nothing is none
  brings : (a : Answer) → BringsSo c t d a → (e : EpochId) × Brings c t e i a
  brings a k = (k.epoch, k.brings (subst (λ (w : Waiting). acknowledges w.words ≡ true) (some_same accepted k.accepted (sym named ∙ k.named)) kind) f i uses)

  op_granted : (xs : List Answer) → Every (BringsSo c t d) xs → refused_of (op_wants i op.Commit xs) ≡ Some why → ⊥
  op_granted [] h e = none_some why e
  op_granted (answer.Did result ∷ []) h e = by_result result (brings (answer.Did result) h.0) e
    where
      by_result : (r : Outcome) → (y : EpochId) × Brings c t y i (answer.Did r) → refused_of (want.Give (reply_to r)) ≡ Some why → ⊥
      by_result (outcome.Committed z) k e = none_some why e
      by_result outcome.Done k e = none_some why e
      by_result (outcome.Found ino kd) k e = none_some why e
      by_result (outcome.Data bytes) k e = none_some why e
      by_result (outcome.No because) k e = k.1
  op_granted (answer.Refused because ∷ []) h e = (brings (answer.Refused because) h.0).1
  op_granted (_ ∷ rest) h e = none_some why e

  close_granted : (xs : List Answer) → Every (BringsSo c t d) xs → refused_of (close_wants i xs) ≡ Some why → ⊥
  close_granted [] h e = none_some why e
  close_granted (answer.Ended o ∷ []) h e = none_some why e
  close_granted (answer.Refused because ∷ []) h e = (brings (answer.Refused because) h.0).1
  close_granted (_ ∷ rest) h e = none_some why e

  op_packed : (packed : ℕ → Bool) (xs : List Answer) → refused_of (where_packed packed (op_wants i op.Commit xs)) ≡ refused_of (op_wants i op.Commit xs)
  op_packed packed [] = refl
  op_packed packed (answer.Did result ∷ []) = refl
  op_packed packed (answer.Refused because ∷ []) = refl
  op_packed packed (_ ∷ rest) = refl

  close_packed : (packed : ℕ → Bool) (xs : List Answer) → refused_of (where_packed packed (close_wants i xs)) ≡ refused_of (close_wants i xs)
  close_packed packed [] = refl
  close_packed packed (answer.Ended o ∷ []) = refl
  close_packed packed (answer.Refused because ∷ []) = refl
  close_packed packed (_ ∷ rest) = refl

  script_granted : (mounts : List Mount) (packed : ℕ → Bool) (free : Option ℕ) (words : Call) → acknowledges words ≡ true → (xs : List Answer) → Every (BringsSo c t d) xs → refused_of (wants mounts packed free words (begins.Uses f i) xs) ≡ Some why → ⊥
  script_granted mounts packed free (call.Commit fd) k xs h e = op_granted xs h (sym (op_packed packed xs) ∙ e)
  script_granted mounts packed free (call.Close fd) k xs h e = close_granted xs h (sym (close_packed packed xs) ∙ e)
  script_granted mounts packed free _ k xs h e = absurd (false_true k)

  never_refused : Every (BringsSo c t d) (answers c t d) → refused_of (wants_next c t d) ≡ Some why → ⊥
  never_refused h e = script_granted c.mounts (is_packed_in c t accepted.epoch) (lowest_free (descriptor t accepted.site accepted.process)) accepted.words kind (answers c t d) h
      (ap (λ (o : Option Beginning). refused_of (wants_as c t (Some accepted) o (answers c t d))) (sym uses) ∙ (ap (λ (o : Option Waiting). refused_of (wants_as c t o (begun t d) (answers c t d))) (sym named) ∙ e))

  only_changed : Every (BringsSo c t d) (answers c t d) → (o : Option EpochId) → refused_of (unless_left o (wants_next c t d)) ≡ Some why → (g : EpochId) × (why ≡ refusal.Changed g)
  only_changed h None e = absurd (never_refused h e)
  only_changed h (Some g) e = (g, sym (some_same (refusal.Changed g) why e))

-- ---- versions are commits ----

-- of a fresh pack only the format's stamp is known
of_format : (k : ℕ) (packs : List Sites) (f : FileId) (s : Stamp) → is_in (format_versions k packs) f s ≡ true → IsOfFormat f s
of_format k [] f s e = absurd (false_true e)
of_format k (p ∷ ps) f s e = at (p.0 == 0) (of_format (k + 1) ps f s) e
  where
    root : (b : Bool) → is_version f s (format_version k) ≡ b → (is_in (format_versions (k + 1) ps) f s ≡ true → IsOfFormat f s) → (b || is_in (format_versions (k + 1) ps) f s) ≡ true → IsOfFormat f s
    root true is later e = (ap (λ (y : FileId). y.ino) (sym (same_file_eq (format_version k).file f (and_first (same_file (format_version k).file f) (same_stamp format_stamp s) is))), sym (same_stamp_eq format_stamp s (and_second (same_file (format_version k).file f) (same_stamp format_stamp s) is)))
    root false is later e = later e

    at : (b : Bool) → (is_in (format_versions (k + 1) ps) f s ≡ true → IsOfFormat f s) → is_in (cond b (format_versions (k + 1) ps) (format_version k ∷ format_versions (k + 1) ps)) f s ≡ true → IsOfFormat f s
    at true later e = later e
    at false later e = root (is_version f s (format_version k)) refl later e

more_committed : (r : Entry) (before : Trace) (f : FileId) (s : Stamp) → WasCommitted before f s ⊎ IsOfFormat f s → WasCommitted (r ∷ before) f s ⊎ IsOfFormat f s
more_committed r before f s (inl k) = inl (record { line = k.line; parents = k.parents; content = k.content; there = inr k.there })
more_committed r before f s (inr k) = inr k

was_made : (c : Config) (t : List Line) → IsFollowed c t → (f : FileId) (s : Stamp) → is_in (history c (entries t)) f s ≡ true → WasCommitted (entries t) f s ⊎ IsOfFormat f s
was_made c [] h f s e = inr (of_format 0 c.packs f s e)
was_made c (x ∷ older) h f s e = by_told x.told h.0 (was_made c older h.1 f s) e
  where
    by_commit : (g : FileId) (z : ℕ) (stamp : Stamp) (parents : List Stamp) (content : List ℕ) → stamp.site ≡ z → (b : Bool) → (same_file g f && same_stamp stamp s) ≡ b → (is_in (history c (entries older)) f s ≡ true → WasCommitted (entries older) f s ⊎ IsOfFormat f s) → (b || is_in (history c (entries older)) f s) ≡ true → WasCommitted (record { line = x.number; what = says.Commit g z stamp parents content } ∷ entries older) f s ⊎ IsOfFormat f s
    by_commit g z stamp parents content at false is old e = more_committed (record { line = x.number; what = says.Commit g z stamp parents content }) (entries older) f s (old e)
    by_commit g z stamp parents content at true is old e = inl (record { line = x.number; parents = parents; content = content; there = inl same })
      where
        stamp_is : stamp ≡ s
        stamp_is = same_stamp_eq stamp s (and_second (same_file g f) (same_stamp stamp s) is)

        same : ◌≡◌ {A = Entry} (record { line = x.number; what = says.Commit f s.site s parents content }) (record { line = x.number; what = says.Commit g z stamp parents content })
        same = ap (λ (y : FileId). record { line = x.number; what = says.Commit y s.site s parents content }) (sym (same_file_eq g f (and_first (same_file g f) (same_stamp stamp s) is))) ∙
            (ap (λ (y : ℕ). record { line = x.number; what = says.Commit g y s parents content }) (ap (λ (y : Stamp). y.site) (sym stamp_is) ∙ at) ∙
            ap (λ (y : Stamp). record { line = x.number; what = says.Commit g z y parents content }) (sym stamp_is))

    by_record : (r : Record) → MayTell c older (Shown r) → (is_in (history c (entries older)) f s ≡ true → WasCommitted (entries older) f s ⊎ IsOfFormat f s) → is_in (history c (record { line = x.number; what = r } ∷ entries older)) f s ≡ true → WasCommitted (record { line = x.number; what = r } ∷ entries older) f s ⊎ IsOfFormat f s
    by_record (says.Commit g z stamp parents content) may old e = by_commit g z stamp parents content (ap (λ (y : Stamp). y.site) may.row.numbered) (same_file g f && same_stamp stamp s) refl old e
    by_record r may old e = more_committed (record { line = x.number; what = r }) (entries older) f s (old e)

    by_told : (y : Told) → MayTell c older y → (is_in (history c (entries older)) f s ≡ true → WasCommitted (entries older) f s ⊎ IsOfFormat f s) → is_in (history c (onto_entries x.number y (entries older))) f s ≡ true → WasCommitted (onto_entries x.number y (entries older)) f s ⊎ IsOfFormat f s
    by_told (Shown r) may old e = by_record r may old e
    by_told y may old e = old e

-- ---- moments of a trace ----

-- the records up to a moment are those of a past
record Earlier (c : Config) (before : Trace) : Type 0 where
  lines : List Line
  are : entries lines ≡ before
  followed : IsFollowed c lines
  short : IsShort c (entries lines)

abbrev rest_of : Trace → Trace
rest_of [] = []
rest_of (r ∷ rest) = rest

earlier : (c : Config) (t : List Line) → IsFollowed c t → IsShort c (entries t) → (front before : Trace) → entries t ≡ front ++ before → Earlier c before
earlier c [] h short [] before e = record { lines = []; are = e; followed = h; short = short }
earlier c [] h short (r ∷ front) before e = absurd (none e)
  where
    none : ◌≡◌ {A = Trace} [] (r ∷ (front ++ before)) → ⊥
    none e = cc
earlier c (x ∷ older) h short front before e = by_told x.told refl (earlier c older h.1 (shorter c x older short)) e
  where
    by_front : (r : Record) → x.told ≡ Shown r → ((front before : Trace) → entries older ≡ front ++ before → Earlier c before) → (front : Trace) → record { line = x.number; what = r } ∷ entries older ≡ front ++ before → Earlier c before
    by_front r is old [] e = record { lines = x ∷ older; are = ap (λ (y : Told). onto_entries x.number y (entries older)) is ∙ e; followed = h; short = short }
    by_front r is old (y ∷ front) e = old front before (ap rest_of e)

    by_told : (y : Told) → x.told ≡ y → ((front before : Trace) → entries older ≡ front ++ before → Earlier c before) → onto_entries x.number y (entries older) ≡ front ++ before → Earlier c before
    by_told (Shown r) is old e = by_front r is old front e
    by_told y is old e = old front before e

at_moment : (P : Trace → Type 0) (later now : Trace) → AtEachMoment P (later ++ now) → P now
at_moment P [] [] k = k
at_moment P [] (r ∷ now) k = k.0
at_moment P (r ∷ later) now k = at_moment P later now k.1

still_among : (x r : Entry) (since before : Trace) → Among x before → Among x (since ++ r ∷ before)
still_among x r [] before k = inr k
still_among x r (y ∷ since) before k = inr (still_among x r since before k)

joined : (later since before : Trace) (r : Entry) → (later ++ since ++ r ∷ []) ++ before ≡ later ++ (since ++ r ∷ before)
joined [] [] before r = refl
joined [] (y ∷ since) before r = ap (λ (z : Trace). y ∷ z) (joined [] since before r)
joined (y ∷ later) since before r = ap (λ (z : Trace). y ∷ z) (joined later since before r)

-- ---- all replies ----

-- what the reply of a commit or a close tells is a version of the file of its call
pub record IsTold (c : Config) (before : Trace) (caller : Waiting) (stamp : Stamp) : Type 0 where
  pub file : FileId
  pub on : IsCallOn before caller file
  pub stands : is_in (history c before) file stamp ≡ true

told_from : (c : Config) (past : List Line) → IsFollowed c past → IsShort c (entries past) → (before : Trace) → entries past ≡ before → (site process : ℕ) (d : CallId) (caller : Waiting) (stamp : Stamp) → find (is_this site process d) (waiting before) ≡ Some caller → acknowledges caller.words ≡ true → TellsStamp c before caller stamp → IsTold c before caller stamp
told_from c past followed short before are site process d caller stamp waits kind told = record {
  file = made.file;
  on = record {
    epoch = k.from.epoch;
    made_in = subst (λ (w : Waiting). w.epoch ≡ Some k.from.epoch) same k.from.made_in;
    named_in = k.named_in;
    instance = k.instance;
    begins = k.begins;
    granted = made.granted;
  };
  stands = made.stands;
}
  where
    named : call_named before caller.call ≡ Some caller
    named = (found_every (λ (w : Waiting). call_named before w.call ≡ Some w) (is_this site process d) (waiting before) caller waits (subst (λ (y : Trace). Every (λ (w : Waiting). call_named y w.call ≡ Some w) (waiting y)) are (accepted c past followed).waits)).0

    bring : Every (BringsSo c before caller.call) (answers c before caller.call)
    bring = subst (λ (y : Trace). Every (BringsSo c y caller.call) (answers c y caller.call)) are (all_bring c past followed short caller.call)

    k : FromBegun c before caller.call stamp
    k = by_named c before caller.call stamp caller kind named bring (unless c before caller.call stamp (left_epoch before caller) (wants_next c before caller.call) (tells c before caller stamp told))

    same : k.from.accepted ≡ caller
    same = some_same k.from.accepted caller (sym k.from.named ∙ named)

    made : IsOfGranted c before k.from.epoch k.instance stamp
    made = k.from.stands (subst (λ (w : Waiting). acknowledges w.words ≡ true) (sym same) kind) k.named_in k.instance k.begins

pub new_once : (c : Config) (t : List Line) → IsFollowed c t → IsShort c (entries t) → CommitsStayHeld c (entries t) → NewOnceAcknowledged c (entries t)
new_once c t h short holds later since before line site process d r caller stamp split waits kind told = record {
  file = made.file;
  on = made.on;
  stands = by_version (subst (λ (y : Trace). WasCommitted y made.file stamp ⊎ IsOfFormat made.file stamp) past.are (was_made c past.lines past.followed made.file stamp (subst (λ (y : Trace). is_in (history c y) made.file stamp ≡ true) (sym past.are) made.stands)));
}
  where
    past : Earlier c before
    past = earlier c t h short (later ++ since ++ record { line = line; what = says.Answer site process d r } ∷ []) before (split ∙ sym (joined later since before (record { line = line; what = says.Answer site process d r })))

    made : IsTold c before caller stamp
    made = told_from c past.lines past.followed past.short before past.are site process d caller stamp waits kind told

    now : Trace
    now = since ++ record { line = line; what = says.Answer site process d r } ∷ before

    held_now : CommitsAreHeld c now
    held_now = at_moment (CommitsAreHeld c) later now (subst (AtEachMoment (CommitsAreHeld c)) split holds)

    by_version : WasCommitted before made.file stamp ⊎ IsOfFormat made.file stamp → (WasCommitted before made.file stamp × HoldsAtLeast c now stamp.site made.file stamp) ⊎ IsOfFormat made.file stamp
    by_version (inl w) = inl (w, held_now w.line stamp.site made.file stamp w.parents w.content (still_among (record { line = w.line; what = says.Commit made.file stamp.site stamp w.parents w.content }) (record { line = line; what = says.Answer site process d r }) since before w.there))
    by_version (inr f) = inr f

-- of the trace of a run, with other records after those before
pub told_after : (c : Config) (t : List Line) → IsFollowed c t → IsShort c (entries t) → (front before : Trace) (site process : ℕ) (d : CallId) (caller : Waiting) (stamp : Stamp) → entries t ≡ front ++ before → find (is_this site process d) (waiting before) ≡ Some caller → acknowledges caller.words ≡ true → TellsStamp c before caller stamp → IsTold c before caller stamp
told_after c t h short front before site process d caller stamp split = (let past = earlier c t h short front before split in told_from c past.lines past.followed past.short before past.are site process d caller stamp)

pub only_left : (c : Config) (t : List Line) → IsFollowed c t → IsShort c (entries t) → OnlyChangedRefuses c (entries t)
only_left c t h short later before line site process d r caller e i why split waits kind uses gives = only_changed c before caller.call why caller named kind e i uses bring (left_epoch before caller) (ap refused_of gives)
  where
    after : (front : Trace) → (front ++ record { line = line; what = says.Answer site process d r } ∷ []) ++ before ≡ front ++ record { line = line; what = says.Answer site process d r } ∷ before
    after [] = refl
    after (y ∷ front) = ap (λ (z : Trace). y ∷ z) (after front)

    past : Earlier c before
    past = earlier c t h short (later ++ record { line = line; what = says.Answer site process d r } ∷ []) before (split ∙ sym (after later))

    named : call_named before caller.call ≡ Some caller
    named = (found_every (λ (w : Waiting). call_named before w.call ≡ Some w) (is_this site process d) (waiting before) caller waits (subst (λ (y : Trace). Every (λ (w : Waiting). call_named y w.call ≡ Some w) (waiting y)) past.are (accepted c past.lines past.followed).waits)).0

    bring : Every (BringsSo c before caller.call) (answers c before caller.call)
    bring = subst (λ (y : Trace). Every (BringsSo c y caller.call) (answers c y caller.call)) past.are (all_bring c past.lines past.followed past.short caller.call)
