-- Which mends wait at a site after an event: those that waited before it, and those that start at its end.
use Rattle.std.proofs.Common.{Bool, List, None, Option, Some, [], ap, cond, false, inl, inr, not, refl, subst, sym, true, ℕ, ◌&&◌, ◌++◌, ◌+◌, ◌||◌, ◌∙◌, ◌∷◌, ◌≡◌, ◌⊎◌}
use Rattle.std.specs.List.{list_any}
use Rattle.call_rules.specs.declared.answer.Answer.{Answer}
use Rattle.call_rules.specs.declared.answer.Answer.TheVariants as answer
use Rattle.call_rules.specs.declared.want.Want.{Want}
use Rattle.call_rules.specs.declared.want.Want.TheVariants as want
use Rattle.calm_laws.proofs.SentFacts.{granted}
use Rattle.commit_graph.specs.Versions.{same_file}
use Rattle.calm_laws.proofs.Convergence.Lists.{among_row}
use Rattle.locus_ids.specs.declared.config.Config.{Config}
use Rattle.locus_ids.specs.declared.ids.FileId.{FileId}
use Rattle.locus_ids.specs.declared.ids.Stamp.{Stamp}
use Rattle.locus_ids.specs.declared.refusal.Refusal.{Refusal}
use Rattle.locus_ids.specs.declared.sites.Links.{Links}
use Rattle.row_laws.proofs.Orderly.Numbers.{left_without}
use Rattle.store_laws.proofs.Users.Tabled.{first_found}
use Rattle.role_steps.proofs.Caching.{kept_only}
use Rattle.role_steps.proofs.of_plain_facts.Options.{none_some}
use Rattle.role_steps.proofs.of_plain_facts.Tests.{true_false}
use Rattle.role_steps.specs.Adoption.{adopts_first, adopts_pull, fits_own, has_mend, is_ready, mends_file, notes_own_at, table_group, with_adopted, without_pull}
use Rattle.role_steps.specs.Epochs.{frame_in, passes_over_of}
use Rattle.role_steps.specs.Mends.{has_mend_in, is_dir, kept_stamps, may_mend, row_file, starts_mend, starts_mend_of, starts_mends_in, wants_mend, wants_mend_dir, wants_mend_of, wants_rescue_of}
use Rattle.role_steps.specs.Opens.{on_opened}
use Rattle.role_steps.specs.Reports.{on_closed, on_have, on_look, on_open, on_report}
use Rattle.role_steps.specs.Requests.{asks, asks_close_of, asks_op_of, made_for, next_request, opening_of, seen_by, user_instance, waiting_key, with_user_instance, without_waiting}
use Rattle.role_steps.specs.Storage.{begins, copy_of}
use Rattle.role_steps.specs.Tables.{first_that, row}
use Rattle.role_steps.specs.Using.{accepted_call, after_reply, asks_close_of as asks_close_number, asks_held_number, asks_op_number, asks_open_of, asks_take, asks_want, counted_users, goes_on, holds_again, is_hopeless, keeps_brought, looks_again, next_want, on_as_held_of, on_close_done_of, on_look_done_of, on_op_done_of, on_open_done_of, op_answer, replies, takes_answer, takes_copied, takes_look, with_answer, with_brought, without_hope}
use Rattle.role_steps.specs.Views.{Frame, Outcome, SiteView, Users, and_then, quiet}
use Rattle.role_steps.specs.declared.pulls.Pull.{Pull}
use Rattle.role_steps.specs.declared.rounds.InEpoch.{InEpoch}
use Rattle.role_steps.specs.declared.rounds.Round.{Round}
use Rattle.role_steps.specs.declared.synchronizing.FileRow.{FileRow}
use Rattle.role_steps.specs.declared.synchronizing.SyncTable.{SyncTable}
use Rattle.role_steps.specs.declared.synchronizing.VersionRow.{VersionRow}
use Rattle.role_steps.specs.declared.users.Asking.{Asking}
use Rattle.role_steps.specs.declared.users.Asking.TheVariants as asking
use Rattle.role_steps.specs.declared.users.UserInstance.{UserInstance}
use Rattle.role_steps.specs.declared.users.WaitingCall.{WaitingCall}
use Rattle.the_run.specs.Kept.{Among}
use Rattle.the_run.specs.Steps.{adopts_in, adopts_of, at_table_of, ends_event, is_opened_in, starts_mends_of, takes_inside, tries_at}
use Rattle.trace_book.specs.declared.call.Call.{Call}
use Rattle.trace_book.specs.declared.call.Call.TheVariants as call
use Rattle.trace_book.specs.declared.descriptor.Beginning.{Beginning}
use Rattle.trace_book.specs.declared.descriptor.Beginning.TheVariants as begins
use Rattle.trace_book.specs.declared.operation.Op.{Op}
use Rattle.trace_book.specs.declared.operation.Outcome.{Outcome as Result}
use Rattle.trace_book.specs.declared.operation.Outcome.TheVariants as result
use Rattle.trace_book.specs.declared.operation.What.TheVariants as what
use Rattle.trace_book.specs.declared.reply.Reply.{Reply}
use Rattle.trace_book.specs.declared.reply.Reply.TheVariants as reply
use Rattle.wire_messages.specs.declared.body.Body.{Body}
use Rattle.wire_messages.specs.declared.body.Body.TheVariants as body
use Rattle.wire_messages.specs.declared.body.CloseAnswer.{CloseAnswer}
use Rattle.wire_messages.specs.declared.body.Granted.{Granted}
use Rattle.wire_messages.specs.declared.body.Granted.TheVariants as granted
use Rattle.wire_messages.specs.declared.body.LookAnswer.{LookAnswer}
use Rattle.wire_messages.specs.declared.body.LookAnswer.TheVariants as looked
use Rattle.wire_messages.specs.declared.body.Opening.TheVariants as how

-- a mend of the file is among these calls
abbrev pub Mends : FileId → List WaitingCall → Type 0
Mends file ws = (y : WaitingCall) × Among y ws × (mends_file file y.words ≡ true)

pub there_mend : (file : FileId) (u : Users) → Mends file u.waiting → has_mend u file ≡ true
there_mend file u m = over u.waiting m.1
  where
    either : (a b : Bool) → b ≡ true → (a || b) ≡ true
    either true b h = refl
    either false b h = h

    over : (ws : List WaitingCall) → Among m.0 ws → list_any (λ (w : WaitingCall). mends_file file w.words) ws ≡ true
    over [] a = absurd a
    over (w ∷ ws) (inl e) = ap (λ (b : Bool). b || list_any (λ (x : WaitingCall). mends_file file x.words) ws) (ap (λ (x : WaitingCall). mends_file file x.words) (sym e) ∙ m.2)
    over (w ∷ ws) (inr a) = either (mends_file file w.words) (list_any (λ (x : WaitingCall). mends_file file x.words) ws) (over ws a)

pub mend_there : (file : FileId) (u : Users) → has_mend u file ≡ true → Mends file u.waiting
mend_there file u h = over u.waiting h
  where
    over : (ws : List WaitingCall) → list_any (λ (w : WaitingCall). mends_file file w.words) ws ≡ true → Mends file ws
    over [] k = absurd (true_false (sym k))
    over (w ∷ ws) k = at (mends_file file w.words) refl k (over ws)
      where
        at : (b : Bool) → mends_file file w.words ≡ b → (b || list_any (λ (y : WaitingCall). mends_file file y.words) ws) ≡ true → (list_any (λ (y : WaitingCall). mends_file file y.words) ws ≡ true → Mends file ws) → Mends file (w ∷ ws)
        at true e q f = (w, inl refl, e)
        at false e q f = (let r : Mends file ws = f q in (r.0, inr r.1, r.2))

-- ---- a script goes on ----

-- the mends that wait then waited before
abbrev Waited : FileId → Users → Outcome Users → Type 0
Waited file u o = Mends file o.view.waiting → Mends file u.waiting

module _ (file : FileId) where
  asks_waited : (f : Frame) (w : WaitingCall) (u : Users) → (mends_file file w.words ≡ true → Mends file u.waiting) → Waited file u (asks f w u)
  asks_waited f w u own m = over m.0 (among_row waiting_key w m.0 u.waiting m.1) m.2
    where
      over : (y : WaitingCall) → (y ≡ w) ⊎ Among y u.waiting → mends_file file y.words ≡ true → Mends file u.waiting
      over y (inl e) h = own (ap (λ (z : WaitingCall). mends_file file z.words) (sym e) ∙ h)
      over y (inr a) h = (y, a, h)

  hope_waited : (words : Call) (why : Refusal) (u : Users) → Mends file (without_hope words why u).waiting → Mends file u.waiting
  hope_waited (call.Mend g) why u m = by_hope (is_hopeless why) m
    where
      by_hope : (b : Bool) → Mends file (cond b (record u { hopeless = u.hopeless ++ g ∷ [] }) u).waiting → Mends file u.waiting
      by_hope true k = k
      by_hope false k = k
  hope_waited _ why u m = m

  held_waited : (f : Frame) (w : WaitingCall) (b : Beginning) (words : Call) (u : Users) → Mends file (holds_again f w b words u).waiting → Mends file u.waiting
  held_waited f w (begins.Reopens version last) (call.Read fd at len) u m = m
  held_waited f w _ words u m = m

  reply_waited : (f : Frame) (w : WaitingCall) (r : Reply) (u : Users) → Mends file (after_reply f w r u).waiting → Mends file u.waiting
  reply_waited f w (reply.Opened fd) u m = m
  reply_waited f w (reply.No why) u m = hope_waited w.words why u m
  reply_waited f w (reply.Data bytes) u m = held_waited f w w.begins w.words u m
  reply_waited f w _ u m = m

  replies_waited : (f : Frame) (w : WaitingCall) (r : Reply) (u : Users) → Waited file u (replies f w r u)
  replies_waited f w r u m = (let k : Mends file (without_waiting w u).waiting = reply_waited f w r (without_waiting w u) m in (k.0, left_without waiting_key (waiting_key w) u.waiting k.0 k.1, k.2))

  op_waited : (f : Frame) (w : WaitingCall) (o : Op) (i : Option UserInstance) (u : Users) → (mends_file file w.words ≡ true → Mends file u.waiting) → Waited file u (asks_op_of f w o i u)
  op_waited f w o None u own m = m
  op_waited f w o (Some i) u own m = asks_waited f (next_request w (asking.Op i.serial i.ss (i.ops + 1) o (seen_by u w.answers o))) (with_user_instance (record i { ops = i.ops + 1 }) u) own m

  close_waited : (f : Frame) (w : WaitingCall) (i : Option UserInstance) (u : Users) → (mends_file file w.words ≡ true → Mends file u.waiting) → Waited file u (asks_close_of f w i u)
  close_waited f w None u own m = m
  close_waited f w (Some i) u own m = asks_waited f _ u own m

  want_waited : (f : Frame) (w : WaitingCall) (z : Want) (u : Users) → (mends_file file w.words ≡ true → Mends file u.waiting) → Waited file u (asks_want f w z u)
  want_waited f w (want.Look g what) u own m = asks_waited f _ u own m
  want_waited f w (want.Open g mode) u own m = asks_waited f (next_request w (asking.Open (u.serials + 1) g (opening_of mode))) (record u { serials = u.serials + 1 }) own m
  want_waited f w (want.OpenToMend g) u own m = asks_waited f (next_request w (asking.Open (u.serials + 1) g how.Mend)) (record u { serials = u.serials + 1 }) own m
  want_waited f w (want.Make group kind sites) u own m = asks_waited f (next_request w (asking.Open (u.serials + 1) (record { group = group; ino = 0 }) (how.Make (made_for f.config group sites) kind))) (record u { serials = u.serials + 1 }) own m
  want_waited f w (want.Do inst o) u own m = op_waited f w o (user_instance u inst.serial) u own m
  want_waited f w (want.Close inst) u own m = close_waited f w (user_instance u inst.serial) u own m
  want_waited f w (want.Give r) u own m = replies_waited f w r u m
  want_waited f w want.Never u own m = m

  pub goes_waited : (f : Frame) (w : WaitingCall) (u : Users) → (mends_file file w.words ≡ true → Mends file u.waiting) → Waited file u (goes_on f w u)
  goes_waited f w u own m = want_waited f w (next_want f w u) u own m

-- ---- mends that start ----

-- a mend of the file is wanted by the tables
pub record IsWanted (v : SiteView) (ts : List SyncTable) (file : FileId) : Type 0 where
  pub table : SyncTable
  pub there : Among table ts
  pub file_known : FileRow
  pub is_row : Among file_known table.files
  pub same : same_file (row_file table file_known) file ≡ true
  pub wants : wants_mend_of v table (row_file table file_known) file_known.kept ≡ true

pub wants_same : (v u : SiteView) (t : SyncTable) (file : FileId) (vs : List VersionRow) → u.store ≡ v.store → wants_mend_of u t file vs ≡ wants_mend_of v t file vs
wants_same v u t file [] e = refl
wants_same v u t file (one ∷ []) e = ap (λ (s : _). wants_rescue_of t one.stamp (copy_of s file)) e
wants_same v u t file (one ∷ other ∷ others) e = refl

wants_it : (v : SiteView) (t : SyncTable) (r : FileRow) → wants_mend v t r ≡ true → wants_mend_of v t (row_file t r) r.kept ≡ true
wants_it v t r h = over (is_dir r.kind) h
  where
    by_wants : (b : Bool) → (elim b as (λ (z : Bool). Bool) [ true ↦ may_mend v t (row_file t r) | false ↦ false ]) ≡ true → b ≡ true
    by_wants true k = refl
    by_wants false k = absurd (true_false (sym k))

    over : (b : Bool) → (elim b as (λ (z : Bool). Bool) [ true ↦ wants_mend_dir v t r | false ↦ false ]) ≡ true → wants_mend_of v t (row_file t r) r.kept ≡ true
    over true k = by_wants (wants_mend_of v t (row_file t r) r.kept) k
    over false k = absurd (true_false (sym k))

one_starts : (f : Frame) (t : SyncTable) (o : Option FileRow) (v : SiteView) (file : FileId) → Mends file (starts_mend_of f t o v).view.users.waiting → Mends file v.users.waiting ⊎ ((r : FileRow) × (o ≡ Some r) × (same_file (row_file t r) file ≡ true))
one_starts f t None v file m = inl m
one_starts f t (Some r) v file m = by_test (same_file (row_file t r) file) refl
  where
    by_test : (b : Bool) → same_file (row_file t r) file ≡ b → Mends file v.users.waiting ⊎ ((q : FileRow) × (◌≡◌ {A = Option FileRow} (Some r) (Some q)) × (same_file (row_file t q) file ≡ true))
    by_test true e = inr (r, refl, e)
    by_test false e = inl (goes_waited file f (accepted_call f (Some f.epoch) 0 (call.Mend (row_file t r)) v.users) (counted_users f (Some f.epoch) 0 (call.Mend (row_file t r)) v.users) (λ h. absurd (true_false (sym h ∙ e))) m)

starts_waited : (f : Frame) (t : SyncTable) (v : SiteView) (file : FileId) → Mends file (starts_mend f t v).view.users.waiting → Mends file v.users.waiting ⊎ IsWanted v (t ∷ []) file
starts_waited f t v file = by_test (t.started && not (has_mend_in v.users t.group))
  where
    over : Mends file v.users.waiting ⊎ ((r : FileRow) × (first_that (wants_mend v t) t.files ≡ Some r) × (same_file (row_file t r) file ≡ true)) → Mends file v.users.waiting ⊎ IsWanted v (t ∷ []) file
    over (inl k) = inl k
    over (inr q) = (let found : Among q.0 t.files × (wants_mend v t q.0 ≡ true) = first_found (wants_mend v t) t.files q.0 q.1 in inr (record { table = t; there = inl refl; file_known = q.0; is_row = found.0; same = q.2; wants = wants_it v t q.0 found.1 }))

    by_test : (b : Bool) → Mends file (elim b as (λ (z : Bool). Outcome SiteView) [ true ↦ starts_mend_of f t (first_that (wants_mend v t) t.files) v | false ↦ quiet v ]).view.users.waiting → Mends file v.users.waiting ⊎ IsWanted v (t ∷ []) file
    by_test true m = over (one_starts f t (first_that (wants_mend v t) t.files) v file m)
    by_test false m = inl m

one_store : (f : Frame) (t : SyncTable) (o : Option FileRow) (v : SiteView) → (starts_mend_of f t o v).view.store ≡ v.store
one_store f t None v = refl
one_store f t (Some r) v = refl

starts_store : (f : Frame) (t : SyncTable) (v : SiteView) → (starts_mend f t v).view.store ≡ v.store
starts_store f t v = elim (t.started && not (has_mend_in v.users t.group)) as (λ b. (elim b as (λ (z : Bool). Outcome SiteView) [ true ↦ starts_mend_of f t (first_that (wants_mend v t) t.files) v | false ↦ quiet v ]).view.store ≡ v.store) [
  | true ↦ one_store f t (first_that (wants_mend v t) t.files) v
  | false ↦ refl
]

mends_waited : (f : Frame) (ts : List SyncTable) (v : SiteView) (file : FileId) → Mends file (starts_mends_in f ts v).view.users.waiting → Mends file v.users.waiting ⊎ IsWanted v ts file
mends_waited f [] v file m = inl m
mends_waited f (t ∷ ts) v file m = later (mends_waited f ts (starts_mend f t v).view file m)
  where
    first : Mends file v.users.waiting ⊎ IsWanted v (t ∷ []) file → Mends file v.users.waiting ⊎ IsWanted v (t ∷ ts) file
    first (inl k) = inl k
    first (inr w) = inr (record { table = w.table; there = this w.there; file_known = w.file_known; is_row = w.is_row; same = w.same; wants = w.wants })
      where
        this : Among w.table (t ∷ []) → Among w.table (t ∷ ts)
        this (inl e) = inl e
        this (inr a) = absurd a

    later : Mends file (starts_mend f t v).view.users.waiting ⊎ IsWanted (starts_mend f t v).view ts file → Mends file v.users.waiting ⊎ IsWanted v (t ∷ ts) file
    later (inl k) = first (starts_waited f t v file k)
    later (inr w) = inr (record { table = w.table; there = inr w.there; file_known = w.file_known; is_row = w.is_row; same = w.same; wants = sym (wants_same v (starts_mend f t v).view w.table (row_file w.table w.file_known) w.file_known.kept (starts_store f t v)) ∙ w.wants })

some_none : (r : Round) → ◌≡◌ {A = Option Round} (Some r) None → ⊥
some_none r e = cc

-- at the end of an event of a member
pub end_waited : (c : Config) (me : ℕ) (links : Links) (v : SiteView) (e : InEpoch) (file : FileId) → v.round ≡ None → v.epoch ≡ Some e → Mends file (ends_event c me links v).view.users.waiting → Mends file v.users.waiting ⊎ IsWanted v v.tables file
end_waited c me links v e file none inside = by_round v.round none
  where
    by_epoch : (o : Option InEpoch) → o ≡ Some e → Mends file (starts_mends_of c me o v).view.users.waiting → Mends file v.users.waiting ⊎ IsWanted v v.tables file
    by_epoch None h m = absurd (none_some e h)
    by_epoch (Some d) h m = mends_waited (frame_in c me v.boot d) v.tables v file m

    by_round : (r : Option Round) → r ≡ None → Mends file (and_then (passes_over_of c me links r v) (λ now. starts_mends_of c me now.epoch now)).view.users.waiting → Mends file v.users.waiting ⊎ IsWanted v v.tables file
    by_round None h m = by_epoch v.epoch inside m
    by_round (Some r) h m = absurd (some_none r h)

-- ---- answers that come to a using site ----

module _ (file : FileId) where
  answer_waited : (f : Frame) (w : WaitingCall) (a : Answer) (u : Users) → (mends_file file w.words ≡ true → Mends file u.waiting) → Waited file u (takes_answer f w a u)
  answer_waited f w a u own m = goes_waited file f (with_answer w a) u own m

  -- a call that waits
  its_own : (test : WaitingCall → Bool) (u : Users) (w : WaitingCall) → first_that test u.waiting ≡ Some w → mends_file file w.words ≡ true → Mends file u.waiting
  its_own test u w found h = (w, (first_found test u.waiting w found).0, h)

  open_done_waited : (f : Frame) (kept : FileId → List Stamp) (serial : ℕ) (a : Granted) (o : Option WaitingCall) (u : Users) → first_that (asks_open_of serial) u.waiting ≡ o → Waited file u (on_open_done_of f kept serial a o u)
  open_done_waited f kept serial a None u e m = m
  open_done_waited f kept serial (granted.Open ss ino size stamp vector) (Some w) u e m = answer_waited f w _ _ (its_own (asks_open_of serial) u w e) m
  open_done_waited f kept serial (granted.No why) (Some w) u e m = answer_waited f w _ u (its_own (asks_open_of serial) u w e) m

  op_done_waited : (f : Frame) (serial n : ℕ) (r : Result) (o : Option WaitingCall) (u : Users) → first_that (asks_op_number serial n r) u.waiting ≡ o → Waited file u (on_op_done_of f r o u)
  op_done_waited f serial n r None u e m = m
  op_done_waited f serial n r (Some w) u e m = subst (λ (xs : List WaitingCall). Mends file xs) same (answer_waited f w (op_answer r) (keeps_brought w.asking r u) (λ h. subst (λ (xs : List WaitingCall). Mends file xs) (sym same) (its_own (asks_op_number serial n r) u w e h)) m)
    where
      same : (keeps_brought w.asking r u).waiting ≡ u.waiting
      same = kept_only (λ (z : Users). z.waiting ≡ u.waiting) w.asking r u (λ pages. refl)

  copied_waited : (f : Frame) (w : WaitingCall) (o : Option (List ℕ)) (u : Users) → (mends_file file w.words ≡ true → Mends file u.waiting) → Waited file u (takes_copied f w o u)
  copied_waited f w None u own m = m
  copied_waited f w (Some bytes) u own m = answer_waited f w (answer.Did (result.Data bytes)) u own m

  as_held_waited : (f : Frame) (serial n : ℕ) (o : Option WaitingCall) (u : Users) → first_that (asks_held_number serial n) u.waiting ≡ o → Waited file u (on_as_held_of f o u)
  as_held_waited f serial n None u e m = m
  as_held_waited f serial n (Some w) u e m = copied_waited f w w.copied u (its_own (asks_held_number serial n) u w e) m

  close_done_waited : (f : Frame) (serial : ℕ) (a : CloseAnswer) (o : Option WaitingCall) (u : Users) → first_that (asks_close_number serial) u.waiting ≡ o → Waited file u (on_close_done_of f serial a o u)
  close_done_waited f serial a None u e m = m
  close_done_waited f serial a (Some w) u e m = answer_waited f w _ _ (its_own (asks_close_number serial) u w e) m

  brought_words : (a : Asking) (bytes : List ℕ) (w : WaitingCall) → (with_brought a bytes w).words ≡ w.words
  brought_words (asking.Look g (what.Whole stamp) take) bytes w = refl
  brought_words _ bytes w = refl

  again_waited : (f : Frame) (w : WaitingCall) (a : Asking) (u : Users) → (mends_file file w.words ≡ true → Mends file u.waiting) → Waited file u (looks_again f w a u)
  again_waited f w (asking.Look g looked take) u own m = asks_waited file f (record w { asking = asking.Look g looked (take + 1) }) u own m
  again_waited f w _ u own m = m

  look_waited : (f : Frame) (w : WaitingCall) (a : LookAnswer) (u : Users) → (mends_file file w.words ≡ true → Mends file u.waiting) → Waited file u (takes_look f w a u)
  look_waited f w (looked.Found ino kind) u own m = answer_waited f w _ u own m
  look_waited f w (looked.Content bytes) u own m = answer_waited f (with_brought w.asking bytes w) _ u (λ h. own (ap (mends_file file) (sym (brought_words w.asking bytes w)) ∙ h)) m
  look_waited f w (looked.Stat kind size stamp) u own m = answer_waited f w _ u own m
  look_waited f w looked.Moved u own m = again_waited f w w.asking u own m
  look_waited f w (looked.No why) u own m = answer_waited f w _ u own m

  look_done_waited : (f : Frame) (n request take : ℕ) (a : LookAnswer) (o : Option WaitingCall) (u : Users) → first_that (asks_take n request take a) u.waiting ≡ o → Waited file u (on_look_done_of f a o u)
  look_done_waited f n request take a None u e m = m
  look_done_waited f n request take a (Some w) u e m = look_waited f w a u (its_own (asks_take n request take a) u w e) m

  table_waited : (g : SyncTable → Outcome SyncTable) (o : Option SyncTable) (v : SiteView) → Mends file (at_table_of g o v).view.users.waiting → Mends file v.users.waiting
  table_waited g None v m = m
  table_waited g (Some t) v m = m

  pub inside_waited : (f : Frame) (from : ℕ) (b : Body) (v : SiteView) → Mends file (takes_inside f from b v).view.users.waiting → Mends file v.users.waiting
  inside_waited f from (body.OpenDone serial answer) v m = open_done_waited f (kept_stamps v) serial answer (first_that (asks_open_of serial) v.users.waiting) v.users refl m
  inside_waited f from (body.OpDone serial n result) v m = op_done_waited f serial n result (first_that (asks_op_number serial n result) v.users.waiting) v.users refl m
  inside_waited f from (body.AsHeld serial n len) v m = as_held_waited f serial n (first_that (asks_held_number serial n) v.users.waiting) v.users refl m
  inside_waited f from (body.CloseDone serial answer) v m = close_done_waited f serial answer (first_that (asks_close_number serial) v.users.waiting) v.users refl m
  inside_waited f from (body.LookDone call request take answer) v m = look_done_waited f call request take answer (first_that (asks_take call request take answer) v.users.waiting) v.users refl m
  inside_waited f from (body.Report group copies) v m = table_waited (on_report f from copies) (row table_group group v.tables) v m
  inside_waited f from (body.Open serial call process request about how) v m = table_waited (on_open f from (record { serial = serial; call = call; process = process; request = request; file = about; how = how })) (row table_group about.group v.tables) v m
  inside_waited f from (body.Opened inst answer) v m = table_waited (on_opened f inst answer) (first_that (is_opened_in inst) v.tables) v m
  inside_waited f from (body.Closed inst made) v m = table_waited (on_closed f from inst made) (first_that (is_opened_in inst) v.tables) v m
  inside_waited f from (body.Look call process request take about looked_at) v m = table_waited (on_look f from (record { call = call; process = process; request = request; take = take; file = about; what = looked_at })) (row table_group about.group v.tables) v m
  inside_waited f from (body.Have about stamp) v m = table_waited (on_have from about stamp) (row table_group about.group v.tables) v m
  inside_waited f from _ v m = m

-- ---- adoptions ----

notes_users : (f : Frame) (p : Pull) (o : Option SyncTable) (v : SiteView) → (notes_own_at f p o v).users ≡ v.users
notes_users f p None v = refl
notes_users f p (Some t) v = refl

adopts_users : (f : Frame) (ps : List Pull) (v : SiteView) → (adopts_first f ps v).view.users ≡ v.users
adopts_users f [] v = refl
adopts_users f (p ∷ ps) v = by_ready (is_ready v p) (adopts_users f ps v) (adopts_users f ps (without_pull p v))
  where
    Same : Outcome SiteView → Type 0
    Same o = o.view.users ≡ v.users

    by_above : (b : Bool) → Same (adopts_first f ps (without_pull p v)) → Same (elim b [ true ↦ adopts_pull f p v | false ↦ adopts_first f ps (without_pull p v) ])
    by_above true k = (let mid : SiteView = with_adopted p v in notes_users f p (row table_group p.file.group mid.tables) mid)
    by_above false k = k

    by_ready : (b : Bool) → Same (adopts_first f ps v) → Same (adopts_first f ps (without_pull p v)) → Same (elim b [ true ↦ elim (fits_own p (copy_of v.store p.file)) [ true ↦ adopts_pull f p v | false ↦ adopts_first f ps (without_pull p v) ] | false ↦ adopts_first f ps v ])
    by_ready true h k = by_above (fits_own p (copy_of v.store p.file)) k
    by_ready false h k = h

adopts_of_users : (c : Config) (me : ℕ) (o : Option InEpoch) (v : SiteView) → (adopts_of c me o v).view.users ≡ v.users
adopts_of_users c me None v = refl
adopts_of_users c me (Some e) v = adopts_users (frame_in c me v.boot e) v.pulls v

pub tries_users : (c : Config) (me : ℕ) (b : Body) (v : SiteView) → (tries_at c me b v).view.users ≡ v.users
tries_users c me (body.Notify about kind set size stamp vector holder) v = adopts_of_users c me v.epoch v
tries_users c me (body.Page about stamp page bytes) v = adopts_of_users c me v.epoch v
tries_users c me (body.Delta about wanted pages) v = adopts_of_users c me v.epoch v
tries_users c me _ v = refl

pub tick_users : (c : Config) (me : ℕ) (v : SiteView) → (adopts_in c me v).view.users ≡ v.users
tick_users c me v = adopts_of_users c me v.epoch v
