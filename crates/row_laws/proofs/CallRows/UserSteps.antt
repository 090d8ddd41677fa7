-- A using site goes on: a call asks, takes answers, and is answered.
use Rattle.locus_ids.specs.declared.config.Config.{Config}
use Rattle.std.proofs.Common.{◌≡◌, ◌≤◌, ℕ, ◌+◌, ◌⊎◌, true, false, cond, List, [], ◌∷◌, ◌++◌, Option, Some, None, refl, sym, ◌∙◌, ap, subst, inl, inr, arith}
use Rattle.locus_ids.specs.declared.ids.EpochId.{EpochId}
use Rattle.locus_ids.specs.declared.ids.FileId.{FileId}
use Rattle.locus_ids.specs.declared.ids.Serial.{Serial}
use Rattle.locus_ids.specs.declared.ids.Stamp.{Stamp}
use Rattle.locus_ids.specs.declared.refusal.Refusal.{Refusal}
use Rattle.trace_book.specs.declared.call.Call.{Call}
use Rattle.trace_book.specs.declared.call.Call.TheVariants as call
use Rattle.trace_book.specs.declared.descriptor.Beginning.{Beginning}
use Rattle.trace_book.specs.declared.descriptor.Beginning.TheVariants as begins
use Rattle.trace_book.specs.declared.descriptor.OneVersion.{OneVersion}
use Rattle.trace_book.specs.declared.operation.Op.{Op}
use Rattle.trace_book.specs.declared.operation.Outcome.{Outcome as Result}
use Rattle.trace_book.specs.declared.operation.Outcome.TheVariants as result
use Rattle.trace_book.specs.declared.reply.Reply.{Reply}
use Rattle.trace_book.specs.declared.reply.Reply.TheVariants as reply
use Rattle.wire_messages.specs.declared.body.Granted.{Granted}
use Rattle.wire_messages.specs.declared.body.Granted.TheVariants as granted
use Rattle.wire_messages.specs.declared.body.CloseAnswer.{CloseAnswer}
use Rattle.wire_messages.specs.declared.body.LookAnswer.{LookAnswer}
use Rattle.wire_messages.specs.declared.body.LookAnswer.TheVariants as looked
use Rattle.wire_messages.specs.declared.body.Opening.{Opening}
use Rattle.call_rules.specs.Descriptors.{lowest_free}
use Rattle.call_rules.specs.declared.answer.Answer.{Answer}
use Rattle.call_rules.specs.declared.answer.Answer.TheVariants as answer
use Rattle.call_rules.specs.declared.want.Want.{Want}
use Rattle.call_rules.specs.declared.want.Want.TheVariants as want
use Rattle.role_steps.specs.Tables.{first_that}
use Rattle.role_steps.specs.Views.{Frame, Users, quiet}
use Rattle.role_steps.specs.Requests.{waiting_key, without_waiting, instance_serial, user_instance, with_user_instance, without_user_instance, descriptors_of, with_descriptor, asks, next_request, asks_open, asks_op_of, asks_close_of, seen_by}
use Rattle.role_steps.specs.Using.{last_opened, no_serial, opened_row, is_hopeless, without_hope, holds_again, after_reply, replies, is_packed, asks_want, next_want, goes_on, with_answer, takes_answer, asks_open_of, own_serial, opened_answer, kept_for, mended_file, version_read, takes_open, on_open_done_of, on_open_done, asks_op_number, op_answer, on_op_done_of, on_op_done, asks_held_number, takes_copied, on_as_held_of, on_as_held, close_answer, on_close_done_of, on_close_done, asks_take, looks_again, content_answer, with_brought, takes_look, on_look_done_of, on_look_done}
use Rattle.role_steps.specs.Using as using
use Rattle.role_steps.specs.declared.users.Asking.{Asking}
use Rattle.role_steps.specs.declared.users.Asking.TheVariants as asking
use Rattle.role_steps.specs.declared.users.WaitingCall.{WaitingCall}
use Rattle.role_steps.specs.declared.users.DescriptorRow.{DescriptorRow}
use Rattle.role_steps.specs.declared.users.UserInstance.{UserInstance}
use Rattle.role_steps.proofs.Caching.{kept_only}
use Rattle.tree_model.specs.Folds.{Trace}
use Rattle.the_run.specs.Kept.{Among}
use Rattle.row_laws.specs.CallRows.Scripts.{EndsOpened, HasRead, HoldsOpened, GivesRead, ClosedReply, Closed}
use Rattle.row_laws.specs.CallRows.Serials.{AsksUnder, Opens, OpenedBy, Frees, Own, Holds, serial_of, IsOpenIn, HasInstance, AsksOperation, HasOpened, Owned}
use Rattle.row_laws.specs.CallRows.Waiting.{after, Waits, Goes, SameCall}
use Rattle.row_laws.specs.CallRows.Standing.{UsersDo}
use Rattle.row_laws.proofs.CallRows.Rising.{row_found, first_found, one_row, put_there, taken_old}
use Rattle.row_laws.proofs.CallRows.Scripts.{wants_closed}
use Rattle.row_laws.proofs.CallRows.Rereads.{wants_read}
use Rattle.row_laws.proofs.CallRows.Keeping.{key_same}
use Rattle.row_laws.proofs.CallRows.Going.{put_waits, answer_waits, goes_again}
use Rattle.row_laws.proofs.CallRows.Owning.{counts_owned, hopes_owned, put_owned, answered_owned, renewed_has, renewed_owned, closed_owned, opened_owned}
use Rattle.row_laws.proofs.CallRows.Answers.{last_more, ends_last, ends_own, holds_own, read_last, did_last, opened_more, own_answers, begins_own, opens_it, opened_is, OpensNone, none_opens, none_opened, IsPlain, plain_none, plain_did, open_did, op_none, close_none, content_none, SameStage, stage_self, brought_stage, open_under, close_under, close_plain, op_asked, held_asked}

-- ---- what a call may do next ----

-- the call is asked nothing and given no reply
abbrev pub Lost : Users → Want → Type 0
Lost u (want.Do i o) = user_instance u i.serial ≡ None
Lost u (want.Close i) = user_instance u i.serial ≡ None
Lost u want.Never = Unit {0}
Lost u _ = ⊥

-- what the call may close is its own; what it opened last is there; and where it is asked nothing it has its row
pub record Ready (c : Config) (K : EpochId → Type 0) (f : Frame) (now : Option EpochId) (trace : Trace) (u : Users) (w : WaitingCall) : Type 0 where
  pub low : (s : ℕ) → Own s w → s ≤ u.serials
  pub calls : (x : WaitingCall) (s : ℕ) → Among x u.waiting → Holds s x → Own s w → waiting_key x ≡ waiting_key w
  pub rows : (d : DescriptorRow) → Among d u.descriptors → IsOpenIn now d → Own (serial_of d) w → ⊥
  pub opened : HoldsOpened w.answers → HasInstance (last_opened no_serial w.answers).serial u × K f.epoch
  pub stays : Lost u (next_want f w u) → Waits c f.me f.boot trace u.calls u.waiting

quiet_do : (c : Config) (K : EpochId → Type 0) (f : Frame) (now : Option EpochId) (m : ℕ) (t : Trace) (u : Users) → Waits c f.me f.boot t u.calls u.waiting → Owned K now u → UsersDo c K f.me f.boot now m t (quiet u)
quiet_do c K f now m t u h o = record { waits = h; owned = o; rows = tt; own = tt; none = refl }

-- ---- a request ----

-- the serial number is new
abbrev New : ℕ → ℕ → ℕ → Type 0
New old n s = (old + 1 ≤ s) × (s ≤ n)

asks_do : (c : Config) (K : EpochId → Type 0) (f : Frame) (now : Option EpochId) (m n : ℕ) (t : Trace) (u : Users) (w v : WaitingCall) → SameCall w v → u.serials ≤ n → Goes c f.me f.boot t u.calls u.waiting w → Owned K now u → Ready c K f now t u w →
    ((s : ℕ) → Holds s v → Own s w ⊎ New u.serials n s) → HasOpened u v → UsersDo c K f.me f.boot now m t (asks f v (record u { serials = n }))
asks_do c K f now m n t u w v same le g o r holds has = record {
  waits = put_waits c f.me f.boot u.calls t u.waiting w v same g;
  owned = put_owned K now n v u le (λ s k. within s (holds s k)) (λ x s a k l. alone x s a k (holds s l)) (λ d a p k. apart d a p (holds (serial_of d) k)) has o;
  rows = tt;
  own = tt;
  none = refl;
}
  where
    within : (s : ℕ) → Own s w ⊎ New u.serials n s → s ≤ n
    within s (inl k) = let l : s ≤ u.serials = r.low s k in omega (arith, l, le)
    within s (inr k) = k.1

    above : (s : ℕ) → s ≤ u.serials → u.serials + 1 ≤ s → ⊥
    above s a b = omega (arith, a, b)

    alone : (x : WaitingCall) (s : ℕ) → Among x u.waiting → Holds s x → Own s w ⊎ New u.serials n s → waiting_key x ≡ waiting_key v
    alone x s a k (inl l) = r.calls x s a k l ∙ key_same w v same
    alone x s a k (inr l) = absurd (above s (o.held_low x s a k) l.0)

    apart : (d : DescriptorRow) → Among d u.descriptors → IsOpenIn now d → Own (serial_of d) w ⊎ New u.serials n (serial_of d) → ⊥
    apart d a p (inl k) = r.rows d a p k
    apart d a p (inr k) = above (serial_of d) (o.low d a) k.0

self_same : (w : WaitingCall) (a : Asking) → SameCall w (next_request w a)
self_same w a = record { same_process = refl; same_number = refl; same_words = refl }

open_do : (c : Config) (K : EpochId → Type 0) (f : Frame) (now : Option EpochId) (m : ℕ) (t : Trace) (u : Users) (w : WaitingCall) (file : FileId) (how : Opening) → Goes c f.me f.boot t u.calls u.waiting w → Owned K now u → Ready c K f now t u w → UsersDo c K f.me f.boot now m t (asks_open f w file how u)
open_do c K f now m t u w file how g o r = asks_do c K f now m (u.serials + 1) t u w (next_request w (asking.Open (u.serials + 1) file how)) (self_same w (asking.Open (u.serials + 1) file how)) (omega arith) g o r by_asking (λ p e. absurd p)
  where
    by_asking : (s : ℕ) → (u.serials + 1 ≡ s) ⊎ Own s w → Own s w ⊎ New u.serials (u.serials + 1) s
    by_asking s (inl e) = inr (omega (arith, e), omega (arith, e))
    by_asking s (inr k) = inl k

op_do : (c : Config) (K : EpochId → Type 0) (f : Frame) (now : Option EpochId) (m : ℕ) (t : Trace) (u : Users) (w : WaitingCall) (o : Op) (i : Option UserInstance) → (i ≡ None → Waits c f.me f.boot t u.calls u.waiting) → Goes c f.me f.boot t u.calls u.waiting w → Owned K now u → Ready c K f now t u w → UsersDo c K f.me f.boot now m t (asks_op_of f w o i u)
op_do c K f now m t u w o None stays g h r = quiet_do c K f now m t u (stays refl) h
op_do c K f now m t u w o (Some i) stays g h r =
    let a : Asking = asking.Op i.serial i.ss (i.ops + 1) o (seen_by u w.answers o) in
    let v : Users = with_user_instance (record i { ops = i.ops + 1 }) u in
    record {
      waits = put_waits c f.me f.boot u.calls t u.waiting w (next_request w a) (self_same w a) g;
      owned = put_owned K now u.serials (next_request w a) v (omega arith) (λ s k. by_low s k) (λ x s b k l. by_call x s b k l) (λ d b p k. by_row d b p k) (λ p e. renewed_has (record i { ops = i.ops + 1 }) (last_opened no_serial w.answers).serial u (r.opened (inl e)).0) (renewed_owned K now (record i { ops = i.ops + 1 }) u h);
      rows = tt;
      own = tt;
      none = refl;
    }
  where
    by_low : (s : ℕ) → ⊥ ⊎ Own s w → s ≤ u.serials
    by_low s (inl e) = absurd e
    by_low s (inr k) = r.low s k

    by_call : (x : WaitingCall) (s : ℕ) → Among x u.waiting → Holds s x → ⊥ ⊎ Own s w → waiting_key x ≡ waiting_key w
    by_call x s b k (inl e) = absurd e
    by_call x s b k (inr l) = r.calls x s b k l

    by_row : (d : DescriptorRow) → Among d u.descriptors → IsOpenIn now d → ⊥ ⊎ Own (serial_of d) w → ⊥
    by_row d b p (inl e) = e
    by_row d b p (inr k) = r.rows d b p k

close_do : (c : Config) (K : EpochId → Type 0) (f : Frame) (now : Option EpochId) (m serial : ℕ) (t : Trace) (u : Users) (w : WaitingCall) (i : Option UserInstance) → user_instance u serial ≡ i → Own serial w → (i ≡ None → Waits c f.me f.boot t u.calls u.waiting) → Goes c f.me f.boot t u.calls u.waiting w → Owned K now u → Ready c K f now t u w → UsersDo c K f.me f.boot now m t (asks_close_of f w i u)
close_do c K f now m serial t u w None e own stays g h r = quiet_do c K f now m t u (stays refl) h
close_do c K f now m serial t u w (Some i) e own stays g h r = asks_do c K f now m u.serials t u w (next_request w (asking.Close i.serial i.ss)) (self_same w (asking.Close i.serial i.ss)) (omega arith) g h r by_asking (λ p e. absurd p)
  where
    by_asking : (s : ℕ) → (i.serial ≡ s) ⊎ Own s w → Own s w ⊎ New u.serials u.serials s
    by_asking s (inl q) = inl (subst (λ (n : ℕ). Own n w) (sym (row_found instance_serial serial u.instances i e).1 ∙ q) own)
    by_asking s (inr k) = inl k

-- ---- a reply ----

hope_do : (G : Users → Type 0) (words : Call) (why : Refusal) (u : Users) → ((files : List FileId) → G (record u { hopeless = files })) → G u → G (without_hope words why u)
hope_do G (call.Mend file) why u h g = elim (is_hopeless why) as (λ b. G (cond b (record u { hopeless = u.hopeless ++ file ∷ [] }) u)) [ true ↦ h (u.hopeless ++ file ∷ []) | false ↦ g ]
hope_do G _ why u h g = g

-- a view that stands
abbrev Good : Config → (EpochId → Type 0) → Frame → Option EpochId → Trace → Users → Type 0
Good c K f now t u = Waits c f.me f.boot t u.calls u.waiting × Owned K now u

replied : (c : Config) (K : EpochId → Type 0) (f : Frame) (now : Option EpochId) (t later : Trace) (u : Users) (w : WaitingCall) (r : Reply) → ClosedReply (EndsOpened w.answers) r → GivesRead w.begins w.answers (want.Give r) → Owned K now u → Ready c K f now t u w → Good c K f now later (without_waiting w u) → Good c K f now later (after_reply f w r (without_waiting w u))
replied c K f now t later u w r ends read o h g = by_reply r ends read
  where
    serial : ℕ
    serial = (last_opened no_serial w.answers).serial

    old : (x : WaitingCall) → Among x (without_waiting w u).waiting → Among x u.waiting × (waiting_key x ≡ waiting_key w → ⊥)
    old x a = taken_old waiting_key (waiting_key w) 0 u.waiting o.waiting x a

    by_old : (x : WaitingCall) → Among x u.waiting × (waiting_key x ≡ waiting_key w → ⊥) → Holds serial x → Own serial w → ⊥
    by_old x a k own = a.1 (h.calls x serial a.0 k own)

    holds : (fd : ℕ) (kept : Option OneVersion) → HoldsOpened w.answers → Good c K f now later (with_descriptor (opened_row f w fd kept) (without_waiting w u))
    holds fd kept opened =
        let own : Own serial w = inl (holds_own no_serial w.answers opened) in
        (g.0, opened_owned K now (opened_row f w fd kept) (without_waiting w u) (h.low serial own) (λ x a k. by_old x (old x a) k own) (λ e a p s. h.rows e a p (subst (λ (n : ℕ). Own n w) (sym s) own)) (h.opened opened).0 (h.opened opened).1 g.1)

    again : (bytes : List ℕ) (b : Beginning) (words : Call) → GivesRead b w.answers (want.Give (reply.Data bytes)) → Good c K f now later (holds_again f w b words (without_waiting w u))
    again bytes (begins.Reopens version last) (call.Read fd at len) read = holds fd (Some version) (inr read)
    again bytes (begins.Reopens version last) _ read = g
    again bytes _ words read = g

    by_reply : (r : Reply) → ClosedReply (EndsOpened w.answers) r → GivesRead w.begins w.answers (want.Give r) → Good c K f now later (after_reply f w r (without_waiting w u))
    by_reply (reply.Opened fd) ends read = holds fd _ (inl ends)
    by_reply (reply.Data bytes) ends read = again bytes w.begins w.words read
    by_reply (reply.No why) ends read = hope_do (Good c K f now later) w.words why (without_waiting w u) (λ files. (g.0, hopes_owned K now files (without_waiting w u) g.1)) g
    by_reply _ ends read = g

give_do : (c : Config) (K : EpochId → Type 0) (f : Frame) (now : Option EpochId) (m : ℕ) (t : Trace) (u : Users) (w : WaitingCall) (r : Reply) → ClosedReply (EndsOpened w.answers) r → GivesRead w.begins w.answers (want.Give r) → Goes c f.me f.boot t u.calls u.waiting w → Owned K now u → Ready c K f now t u w → UsersDo c K f.me f.boot now m t (replies f w r u)
give_do c K f now m t u w r ends read g o h =
    let later : Trace = after m (using.reply_record f.me f.boot w r ∷ []) t in
    let k : Good c K f now later (after_reply f w r (without_waiting w u)) = replied c K f now t later u w r ends read o h (answer_waits c f.me f.boot m u.calls t u.waiting w r g, answered_owned K now w u o) in
    record { waits = k.0; owned = k.1; rows = (tt, tt); own = (refl, tt); none = refl }

-- ---- a script goes on ----

want_do : (c : Config) (K : EpochId → Type 0) (f : Frame) (now : Option EpochId) (m : ℕ) (t : Trace) (u : Users) (w : WaitingCall) (x : Want) → Closed (λ (i : Serial). Own i.serial w) (EndsOpened w.answers) x → GivesRead w.begins w.answers x → (Lost u x → Waits c f.me f.boot t u.calls u.waiting) → Goes c f.me f.boot t u.calls u.waiting w → Owned K now u → Ready c K f now t u w →
    UsersDo c K f.me f.boot now m t (asks_want f w x u)
want_do c K f now m t u w (want.Look file what) shut read stays g o r = asks_do c K f now m u.serials t u w (next_request w (asking.Look file what 1)) (self_same w (asking.Look file what 1)) (omega arith) g o r by_asking (λ p e. absurd p)
  where
    by_asking : (s : ℕ) → ⊥ ⊎ Own s w → Own s w ⊎ New u.serials u.serials s
    by_asking s (inl e) = absurd e
    by_asking s (inr k) = inl k
want_do c K f now m t u w (want.Open file how) shut read stays g o r = open_do c K f now m t u w file _ g o r
want_do c K f now m t u w (want.OpenToMend file) shut read stays g o r = open_do c K f now m t u w file _ g o r
want_do c K f now m t u w (want.Make group kind sites) shut read stays g o r = open_do c K f now m t u w (record { group = group; ino = 0 }) _ g o r
want_do c K f now m t u w (want.Do i op) shut read stays g o r = op_do c K f now m t u w op (user_instance u i.serial) stays g o r
want_do c K f now m t u w (want.Close i) shut read stays g o r = close_do c K f now m i.serial t u w (user_instance u i.serial) refl shut stays g o r
want_do c K f now m t u w (want.Give r) shut read stays g o h = give_do c K f now m t u w r shut read g o h
want_do c K f now m t u w want.Never shut read stays g o r = quiet_do c K f now m t u (stays tt) o

pub goes_do : (c : Config) (K : EpochId → Type 0) (f : Frame) (now : Option EpochId) (m : ℕ) (t : Trace) (u : Users) (w : WaitingCall) → Goes c f.me f.boot t u.calls u.waiting w → Owned K now u → Ready c K f now t u w → UsersDo c K f.me f.boot now m t (goes_on f w u)
goes_do c K f now m t u w g o r =
    want_do c K f now m t u w (next_want f w u)
    (wants_closed (λ (i : Serial). Own i.serial w) f.config.mounts (is_packed f) (lowest_free (descriptors_of u w.process)) w.words w.begins w.answers (own_answers (λ s. Own s w) w.answers (λ s h. inl h)) (begins_own (λ s. Own s w) w.words w.begins (λ s h. inr h)))
    (wants_read f.config.mounts (is_packed f) (lowest_free (descriptors_of u w.process)) w.words w.begins w.answers) r.stays g o r

-- ---- an answer is taken ----

takes_do : (c : Config) (K : EpochId → Type 0) (f : Frame) (now : Option EpochId) (m : ℕ) (t : Trace) (u : Users) (w v : WaitingCall) (a : Answer) → Among w u.waiting → SameStage w v → Waits c f.me f.boot t u.calls u.waiting → Owned K now u → ((s : ℕ) → Opens s a → Holds s w) → (HoldsOpened (v.answers ++ a ∷ []) → HasInstance (last_opened no_serial (v.answers ++ a ∷ [])).serial u × K f.epoch) →
    UsersDo c K f.me f.boot now m t (takes_answer f v a u)
takes_do c K f now m t u w v a there same h o opens ends =
    let x : WaitingCall = with_answer v a in
    let one : SameCall w x = record { same_process = same.same.same_process; same_number = same.same.same_number; same_words = same.same.same_words } in
    let d : UsersDo c K f.me f.boot now m t (goes_on f x u) = goes_do c K f now m t u x (goes_again c f.me f.boot u.calls t u.waiting w x o.waiting there one h) o
    (record {
      low = λ s k. o.held_low w s there (held s k);
      calls = λ y s b k l. o.one_call y w s b there k (held s l) ∙ key_same w x one;
      rows = λ e b p k. o.no_call e w b p there (held (serial_of e) k);
      opened = ends;
      stays = λ l. h;
    }) in
    record { waits = d.waits; owned = d.owned; rows = (tt, d.rows); own = (tt, d.own); none = d.none }
  where
    by_answer : (s : ℕ) → OpenedBy s v.answers ⊎ Opens s a → Holds s w
    by_answer s (inl k) = inr (inl (subst (OpenedBy s) (sym same.same_answers) k))
    by_answer s (inr k) = opens s k

    held : (s : ℕ) → Own s (with_answer v a) → Holds s w
    held s (inl k) = by_answer s (opened_more s v.answers a k)
    held s (inr k) = inr (inr (subst (λ (b : Beginning). Frees s w.words b) (sym same.same_begins) (subst (λ (c : Call). Frees s c v.begins) (sym same.same.same_words) k)))

-- an answer that opens nothing
none_do : (c : Config) (K : EpochId → Type 0) (f : Frame) (now : Option EpochId) (m : ℕ) (t : Trace) (u : Users) (w v : WaitingCall) (a : Answer) → OpensNone a → Among w u.waiting → SameStage w v → Waits c f.me f.boot t u.calls u.waiting → Owned K now u → (HasRead (v.answers ++ a ∷ []) → HasInstance (last_opened no_serial (v.answers ++ a ∷ [])).serial u × K f.epoch) →
    UsersDo c K f.me f.boot now m t (takes_answer f v a u)
none_do c K f now m t u w v a n there same h o read = takes_do c K f now m t u w v a there same h o (λ s k. absurd (none_opens s a n k)) by_end
  where
    by_end : HoldsOpened (v.answers ++ a ∷ []) → HasInstance (last_opened no_serial (v.answers ++ a ∷ [])).serial u × K f.epoch
    by_end (inl e) = absurd (none_opened a n (ends_last v.answers a e))
    by_end (inr e) = read e

plain_do : (c : Config) (K : EpochId → Type 0) (f : Frame) (now : Option EpochId) (m : ℕ) (t : Trace) (u : Users) (w v : WaitingCall) (a : Answer) → IsPlain a → Among w u.waiting → SameStage w v → Waits c f.me f.boot t u.calls u.waiting → Owned K now u → UsersDo c K f.me f.boot now m t (takes_answer f v a u)
plain_do c K f now m t u w v a n there same h o = none_do c K f now m t u w v a (plain_none a n) there same h o (λ e. absurd (plain_did a n (read_last v.answers a e).0))

-- ---- OpenDone ----

takes_open_do : (c : Config) (K : EpochId → Type 0) (f : Frame) (now : Option EpochId) (m : ℕ) (t : Trace) (kept : FileId → List Stamp) (serial : ℕ) (w : WaitingCall) (a : Granted) (u : Users) → K f.epoch → Among w u.waiting → AsksUnder serial w.asking → Waits c f.me f.boot t u.calls u.waiting → Owned K now u → UsersDo c K f.me f.boot now m t (takes_open f kept serial w a u)
takes_open_do c K f now m t kept serial w (granted.Open ss ino size stamp vector) u k there asks h o =
    takes_do c K f now m t (with_user_instance i u) w w ans there (stage_self w) h (renewed_owned K now i u o) (λ s l. inl (subst (λ (n : ℕ). AsksUnder n w.asking) (opens_it f serial ino s stamp stamps w.words w.asking l) asks))
    by_end
  where
    i : UserInstance
    i = record { serial = serial; ss = ss; vector = vector; ops = 0; reads = version_read size stamp w.asking }

    stamps : List Stamp
    stamps = kept_for kept (mended_file w.words)

    ans : Answer
    ans = opened_answer f serial ino stamp stamps w.words w.asking

    by_end : HoldsOpened (w.answers ++ ans ∷ []) → HasInstance (last_opened no_serial (w.answers ++ ans ∷ [])).serial (with_user_instance i u) × K f.epoch
    by_end (inl e) = (
      subst (λ (n : ℕ). HasInstance n (with_user_instance i u)) (sym (ap (λ (j : Serial). j.serial) (last_more (own_serial f serial) no_serial ans w.answers (opened_is f serial ino stamp stamps w.words w.asking (ends_last w.answers ans e)))))
          (i, (put_there instance_serial i u.instances, refl)),
      k,
    )
    by_end (inr e) = absurd (open_did f serial ino stamp stamps w.words w.asking (read_last w.answers ans e).0)
takes_open_do c K f now m t kept serial w (granted.No why) u k there asks h o = plain_do c K f now m t u w w (answer.Refused why) tt there (stage_self w) h o

pub on_open_done_do : (c : Config) (K : EpochId → Type 0) (f : Frame) (now : Option EpochId) (m : ℕ) (t : Trace) (kept : FileId → List Stamp) (serial : ℕ) (a : Granted) (u : Users) → K f.epoch → Waits c f.me f.boot t u.calls u.waiting → Owned K now u → UsersDo c K f.me f.boot now m t (on_open_done f kept serial a u)
on_open_done_do c K f now m t kept serial a u k h o = by_found (first_that (asks_open_of serial) u.waiting) refl
  where
    by_found : (x : Option WaitingCall) → first_that (asks_open_of serial) u.waiting ≡ x → UsersDo c K f.me f.boot now m t (on_open_done_of f kept serial a x u)
    by_found None e = quiet_do c K f now m t u h o
    by_found (Some w) e = let r : Among w u.waiting × (asks_open_of serial w ≡ true) = first_found (asks_open_of serial) u.waiting w e in takes_open_do c K f now m t kept serial w a u k r.0 (open_under serial w r.1) h o

-- ---- OpDone ----

-- the answer to the operation that a call asks, in either form
done_do : (c : Config) (K : EpochId → Type 0) (f : Frame) (now : Option EpochId) (m : ℕ) (t : Trace) (w : WaitingCall) (x : Result) (u : Users) → K f.epoch → Among w u.waiting → AsksOperation w.asking → Waits c f.me f.boot t u.calls u.waiting → Owned K now u → UsersDo c K f.me f.boot now m t (takes_answer f w (op_answer x) u)
done_do c K f now m t w x u known there asks h o =
    none_do c K f now m t u w w ans (op_none x) there (stage_self w) h o
    (λ l. (subst (λ (j : Serial). HasInstance j.serial u) (sym (did_last no_serial w.answers ans (read_last w.answers ans l).0)) (o.asked_there w there asks (read_last w.answers ans l).1), known))
  where
    ans : Answer
    ans = op_answer x

pub on_op_done_do : (c : Config) (K : EpochId → Type 0) (f : Frame) (now : Option EpochId) (m : ℕ) (t : Trace) (serial n : ℕ) (x : Result) (u : Users) → K f.epoch → Waits c f.me f.boot t u.calls u.waiting → Owned K now u → UsersDo c K f.me f.boot now m t (on_op_done f serial n x u)
on_op_done_do c K f now m t serial n x u known h o = by_found (first_that (asks_op_number serial n x) u.waiting) refl
  where
    by_found : (w : Option WaitingCall) → first_that (asks_op_number serial n x) u.waiting ≡ w → UsersDo c K f.me f.boot now m t (on_op_done_of f x w u)
    by_found None e = quiet_do c K f now m t u h o
    by_found (Some w) e =
        let r : Among w u.waiting × (asks_op_number serial n x w ≡ true) = first_found (asks_op_number serial n x) u.waiting w e in
        kept_only (λ (y : Users). UsersDo c K f.me f.boot now m t (takes_answer f w (op_answer x) y)) w.asking x u
        (λ pages. done_do c K f now m t w x (record u { cache = pages }) known r.0 (op_asked serial n x w r.1) h (counts_owned K now u.calls pages u o))

-- ---- AsHeld ----

pub on_as_held_do : (c : Config) (K : EpochId → Type 0) (f : Frame) (now : Option EpochId) (m : ℕ) (t : Trace) (serial n : ℕ) (u : Users) → K f.epoch → Waits c f.me f.boot t u.calls u.waiting → Owned K now u → UsersDo c K f.me f.boot now m t (on_as_held f serial n u)
on_as_held_do c K f now m t serial n u known h o = by_found (first_that (asks_held_number serial n) u.waiting) refl
  where
    by_copied : (w : WaitingCall) (copied : Option (List ℕ)) → Among w u.waiting → AsksOperation w.asking → UsersDo c K f.me f.boot now m t (takes_copied f w copied u)
    by_copied w None there asks = quiet_do c K f now m t u h o
    by_copied w (Some bytes) there asks = done_do c K f now m t w (result.Data bytes) u known there asks h o

    by_found : (x : Option WaitingCall) → first_that (asks_held_number serial n) u.waiting ≡ x → UsersDo c K f.me f.boot now m t (on_as_held_of f x u)
    by_found None e = quiet_do c K f now m t u h o
    by_found (Some w) e = let r : Among w u.waiting × (asks_held_number serial n w ≡ true) = first_found (asks_held_number serial n) u.waiting w e in by_copied w w.copied r.0 (held_asked serial n w r.1)

-- ---- CloseDone ----

pub on_close_done_do : (c : Config) (K : EpochId → Type 0) (f : Frame) (now : Option EpochId) (m : ℕ) (t : Trace) (serial : ℕ) (a : CloseAnswer) (u : Users) → Waits c f.me f.boot t u.calls u.waiting → Owned K now u → UsersDo c K f.me f.boot now m t (on_close_done f serial a u)
on_close_done_do c K f now m t serial a u h o = by_found (first_that (using.asks_close_of serial) u.waiting) refl
  where
    -- the one call that asks the close asks no operation
    other : (w : WaitingCall) → Among w u.waiting → using.asks_close_of serial w ≡ true → (y : WaitingCall) → Among y u.waiting → AsksOperation y.asking → EndsOpened y.answers → (last_opened no_serial y.answers).serial ≡ serial → ⊥
    other w there test y a p l s =
        let key : waiting_key y ≡ waiting_key w = o.one_call y w serial a there (inr (inl (subst (λ (n : ℕ). OpenedBy n y.answers) s (ends_own no_serial y.answers l)))) (inl (close_under serial w test)) in
        close_plain serial w test (subst (λ (x : WaitingCall). AsksOperation x.asking) (one_row waiting_key 0 u.waiting o.waiting y w a there key) p)

    by_found : (x : Option WaitingCall) → first_that (using.asks_close_of serial) u.waiting ≡ x → UsersDo c K f.me f.boot now m t (on_close_done_of f serial a x u)
    by_found None e = quiet_do c K f now m t u h o
    by_found (Some w) e =
        let r : Among w u.waiting × (using.asks_close_of serial w ≡ true) = first_found (using.asks_close_of serial) u.waiting w e in
        plain_do c K f now m t (without_user_instance serial u) w w (close_answer a) (close_none a) r.0 (stage_self w) h
        (closed_owned K now serial u (λ d b p s. o.no_call d w b p r.0 (inl (subst (λ (n : ℕ). AsksUnder n w.asking) (sym s) (close_under serial w r.1)))) (λ y a p l s. other w r.0 r.1 y a p l s) o)

-- ---- LookDone ----

again_do : (c : Config) (K : EpochId → Type 0) (f : Frame) (now : Option EpochId) (m : ℕ) (t : Trace) (w : WaitingCall) (a : Asking) (u : Users) → Among w u.waiting → Waits c f.me f.boot t u.calls u.waiting → Owned K now u → UsersDo c K f.me f.boot now m t (looks_again f w a u)
again_do c K f now m t w (asking.Look file what take) u there h o =
    let v : WaitingCall = record w { asking = asking.Look file what (take + 1) } in
    let same : SameCall w v = record { same_process = refl; same_number = refl; same_words = refl } in
    record {
      waits = put_waits c f.me f.boot u.calls t u.waiting w v same (goes_again c f.me f.boot u.calls t u.waiting w w o.waiting there (record { same_process = refl; same_number = refl; same_words = refl }) h);
      owned = put_owned K now u.serials v u (omega arith) (λ s k. o.held_low w s there (held s k)) (λ x s b k l. o.one_call x w s b there k (held s l)) (λ d b p k. o.no_call d w b p there (held (serial_of d) k)) (λ p e. absurd p) o;
      rows = (tt, tt);
      own = (tt, tt);
      none = refl;
    }
  where
    held : (s : ℕ) → ⊥ ⊎ Own s w → Holds s w
    held s (inl e) = absurd e
    held s (inr k) = inr k
again_do c K f now m t w (asking.Open serial file how) u there h o = quiet_do c K f now m t u h o
again_do c K f now m t w (asking.Op serial ss n op seen) u there h o = quiet_do c K f now m t u h o
again_do c K f now m t w (asking.Close serial ss) u there h o = quiet_do c K f now m t u h o

takes_look_do : (c : Config) (K : EpochId → Type 0) (f : Frame) (now : Option EpochId) (m : ℕ) (t : Trace) (w : WaitingCall) (a : LookAnswer) (u : Users) → Among w u.waiting → Waits c f.me f.boot t u.calls u.waiting → Owned K now u → UsersDo c K f.me f.boot now m t (takes_look f w a u)
takes_look_do c K f now m t w (looked.Found ino kind) u there h o = plain_do c K f now m t u w w (answer.Entered ino kind) tt there (stage_self w) h o
takes_look_do c K f now m t w (looked.Content bytes) u there h o = plain_do c K f now m t u w (with_brought w.asking bytes w) (content_answer w.asking bytes) (content_none w.asking bytes) there (brought_stage w.asking bytes w) h o
takes_look_do c K f now m t w (looked.Stat kind size stamp) u there h o = plain_do c K f now m t u w w (answer.Described kind size stamp) tt there (stage_self w) h o
takes_look_do c K f now m t w looked.Moved u there h o = again_do c K f now m t w w.asking u there h o
takes_look_do c K f now m t w (looked.No why) u there h o = plain_do c K f now m t u w w (answer.Refused why) tt there (stage_self w) h o

pub on_look_done_do : (c : Config) (K : EpochId → Type 0) (f : Frame) (now : Option EpochId) (m : ℕ) (t : Trace) (n request take : ℕ) (a : LookAnswer) (u : Users) → Waits c f.me f.boot t u.calls u.waiting → Owned K now u → UsersDo c K f.me f.boot now m t (on_look_done f n request take a u)
on_look_done_do c K f now m t n request take a u h o = by_found (first_that (asks_take n request take a) u.waiting) refl
  where
    by_found : (x : Option WaitingCall) → first_that (asks_take n request take a) u.waiting ≡ x → UsersDo c K f.me f.boot now m t (on_look_done_of f a x u)
    by_found None e = quiet_do c K f now m t u h o
    by_found (Some w) e = takes_look_do c K f now m t w a u (first_found (asks_take n request take a) u.waiting w e).0 h o
