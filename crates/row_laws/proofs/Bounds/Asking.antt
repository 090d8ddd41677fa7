-- At a using site the current request of each waiting call keeps within its bound, whatever answer comes.
use Rattle.std.proofs.Common.{◌≡◌, ℕ, ◌+◌, ◌≤◌, true, false, cond, List, [], ◌∷◌, ◌++◌, length, length-append, Option, Some, None, refl, sym, ◌∙◌, ap, subst}
use Rattle.locus_ids.specs.declared.ids.EpochId.{EpochId}
use Rattle.locus_ids.specs.declared.ids.FileId.{FileId}
use Rattle.locus_ids.specs.declared.ids.Stamp.{Stamp}
use Rattle.trace_book.specs.declared.call.Call.{Call}
use Rattle.trace_book.specs.declared.call.Call.TheVariants as call
use Rattle.trace_book.specs.declared.operation.Op.{Op}
use Rattle.trace_book.specs.declared.operation.What.TheVariants as what
use Rattle.trace_book.specs.declared.descriptor.Beginning.{Beginning}
use Rattle.trace_book.specs.declared.descriptor.Beginning.TheVariants as begins
use Rattle.trace_book.specs.declared.reply.Reply.{Reply}
use Rattle.trace_book.specs.declared.reply.Reply.TheVariants as reply
use Rattle.call_rules.specs.Descriptors.{lowest_free}
use Rattle.call_rules.specs.declared.answer.Answer.{Answer}
use Rattle.call_rules.specs.declared.answer.Answer.TheVariants as answer
use Rattle.call_rules.specs.declared.want.Want.{Want}
use Rattle.call_rules.specs.declared.want.Want.TheVariants as want
use Rattle.wire_messages.specs.declared.body.CloseAnswer.{CloseAnswer}
use Rattle.wire_messages.specs.declared.body.Granted.{Granted}
use Rattle.wire_messages.specs.declared.body.Granted.TheVariants as granted
use Rattle.wire_messages.specs.declared.body.LookAnswer.{LookAnswer}
use Rattle.wire_messages.specs.declared.body.LookAnswer.TheVariants as looked
use Rattle.trace_book.specs.declared.operation.Outcome.{Outcome as Result}
use Rattle.role_steps.specs.Own.{Every}
use Rattle.role_steps.specs.Tables.{first_that}
use Rattle.role_steps.specs.Views.{Frame, Users}
use Rattle.role_steps.specs.Requests.{waiting_key, without_waiting, user_instance, with_user_instance, without_user_instance, descriptors_of, asks, next_request, asks_op_of, asks_close_of}
use Rattle.role_steps.specs.Using.{after_reply, holds_again, is_hopeless, without_hope, is_packed, asks_want, next_want, goes_on, frees, on_call, counted_users, counted_call, accepted_call, with_answer, takes_answer, takes_copied, asks_open_of, opened_answer, kept_for, mended_file, takes_open, version_read, on_open_done_of, on_open_done, asks_op_number, asks_held_number, op_answer, on_op_done_of, on_as_held_of, keeps_brought, on_op_done, on_as_held, close_answer, on_close_done_of, on_close_done, looks_again, content_answer, with_brought, takes_look, asks_take, on_look_done_of, on_look_done}
use Rattle.role_steps.specs.Using as using
use Rattle.role_steps.specs.declared.users.Asking.{Asking}
use Rattle.role_steps.specs.declared.users.Asking.TheVariants as asking
use Rattle.role_steps.specs.declared.users.UserInstance.{UserInstance}
use Rattle.role_steps.specs.declared.users.WaitingCall.{WaitingCall}
use Rattle.the_run.proofs.InsideSync.{every_row, every_without, Found, first_found}
use Rattle.row_laws.specs.Bounds.Requests.{most_requests, is_mend, IsRequest}
use Rattle.row_laws.specs.Bounds.Asking.{IsBounded}
use Rattle.row_laws.proofs.Bounds.Scripts.{scripts_end}
use Rattle.role_steps.proofs.Caching.{kept_only}

abbrev pub UsersBounded : Users → Type 0
UsersBounded u = Every IsBounded u.waiting

-- ---- a request ----

asks_bounded : (f : Frame) (w : WaitingCall) (u : Users) → IsBounded w → UsersBounded u → UsersBounded (asks f w u).view
asks_bounded f w u h g = every_row IsBounded waiting_key w u.waiting h g

-- the call has its answers, and its next request would be within the bound
record MayAsk (w : WaitingCall) : Type 0 where
  numbered : w.request ≡ length w.answers
  within : is_mend w.words ≡ false → length w.answers + 1 ≤ most_requests w.words

next_bounded : (w : WaitingCall) (a : Asking) → MayAsk w → IsBounded (next_request w a)
next_bounded w a h = (let e : w.request ≡ length w.answers = h.numbered in record { numbered = ap (λ (n : ℕ). n + 1) e; within = λ usual. (let k : length w.answers + 1 ≤ most_requests w.words = h.within usual in subst (λ (n : ℕ). n + 1 ≤ most_requests w.words) (sym e) k) })

op_bounded : (f : Frame) (w : WaitingCall) (o : Op) (i : Option UserInstance) (u : Users) → MayAsk w → UsersBounded u → UsersBounded (asks_op_of f w o i u).view
op_bounded f w o None u h g = g
op_bounded f w o (Some i) u h g = every_row IsBounded waiting_key _ u.waiting (next_bounded w _ h) g

close_bounded : (f : Frame) (w : WaitingCall) (i : Option UserInstance) (u : Users) → MayAsk w → UsersBounded u → UsersBounded (asks_close_of f w i u).view
close_bounded f w None u h g = g
close_bounded f w (Some i) u h g = asks_bounded f (next_request w _) u (next_bounded w _ h) g

-- a reply takes its call from those that wait
hope_bounded : (words : Call) (why : _) (u : Users) → UsersBounded u → UsersBounded (without_hope words why u)
hope_bounded (call.Mend file) why u g = elim (is_hopeless why) as (λ b. UsersBounded (cond b (record u { hopeless = u.hopeless ++ file ∷ [] }) u)) [ true ↦ g | false ↦ g ]
hope_bounded _ why u g = g

held_bounded : (f : Frame) (w : WaitingCall) (b : Beginning) (words : Call) (u : Users) → UsersBounded u → UsersBounded (holds_again f w b words u)
held_bounded f w (begins.Reopens version last) (call.Read fd at len) u g = g
held_bounded f w _ words u g = g

reply_bounded : (f : Frame) (w : WaitingCall) (r : Reply) (u : Users) → UsersBounded u → UsersBounded (after_reply f w r u)
reply_bounded f w (reply.Opened fd) u g = g
reply_bounded f w (reply.No why) u g = hope_bounded w.words why u g
reply_bounded f w (reply.Data bytes) u g = held_bounded f w w.begins w.words u g
reply_bounded f w _ u g = g

-- what is wanted next
want_bounded : (f : Frame) (w : WaitingCall) (x : Want) (u : Users) → w.request ≡ length w.answers → (is_mend w.words ≡ false → IsRequest x → length w.answers + 1 ≤ most_requests w.words) → UsersBounded u → UsersBounded (asks_want f w x u).view
want_bounded f w (want.Look file what) u e h g = asks_bounded f (next_request w _) u (next_bounded w _ (record { numbered = e; within = λ usual. h usual tt })) g
want_bounded f w (want.Open file mode) u e h g = every_row IsBounded waiting_key _ u.waiting (next_bounded w _ (record { numbered = e; within = λ usual. h usual tt })) g
want_bounded f w (want.OpenToMend file) u e h g = every_row IsBounded waiting_key _ u.waiting (next_bounded w _ (record { numbered = e; within = λ usual. h usual tt })) g
want_bounded f w (want.Make group kind sites) u e h g = every_row IsBounded waiting_key _ u.waiting (next_bounded w _ (record { numbered = e; within = λ usual. h usual tt })) g
want_bounded f w (want.Do inst o) u e h g = op_bounded f w o (user_instance u inst.serial) u (record { numbered = e; within = λ usual. h usual tt }) g
want_bounded f w (want.Close inst) u e h g = close_bounded f w (user_instance u inst.serial) u (record { numbered = e; within = λ usual. h usual tt }) g
want_bounded f w (want.Give r) u e h g = reply_bounded f w r (without_waiting w u) (every_without IsBounded waiting_key (waiting_key w) u.waiting g)
want_bounded f w want.Never u e h g = g

-- the script of a call goes on
goes_bounded : (f : Frame) (w : WaitingCall) (u : Users) → w.request ≡ length w.answers → UsersBounded u → UsersBounded (goes_on f w u).view
goes_bounded f w u e g = want_bounded f w (next_want f w u) u e (λ usual asks. scripts_end f.config.mounts (is_packed f) (lowest_free (descriptors_of u w.process)) w.words w.begins w.answers usual asks) g

-- ---- a call is accepted ----

frees_bounded : (process : ℕ) (words : Call) (u : Users) → UsersBounded u → UsersBounded (frees process words u)
frees_bounded process (call.Close fd) u g = g
frees_bounded process _ u g = g

pub on_call_bounded : (f : Frame) (now : Option EpochId) (process : ℕ) (words : Call) (u : Users) → UsersBounded u → UsersBounded (on_call f now process words u).view
on_call_bounded f now process words u g =
    let n : ℕ = u.calls + 1 in
    goes_bounded f (accepted_call f now process words u) (counted_call f now process words u) refl (frees_bounded process words (counted_users f now process words u) g)

-- ---- an answer is taken ----

answer_bounded : (f : Frame) (w : WaitingCall) (a : Answer) (u : Users) → IsBounded w → UsersBounded u → UsersBounded (takes_answer f w a u).view
answer_bounded f w a u h g = goes_bounded f (with_answer w a) u (h.numbered ∙ sym (length-append w.answers (a ∷ []))) g

opened_bounded : (f : Frame) (kept : FileId → List Stamp) (serial : ℕ) (w : WaitingCall) (a : Granted) (u : Users) → IsBounded w → UsersBounded u → UsersBounded (takes_open f kept serial w a u).view
opened_bounded f kept serial w (granted.Open ss ino size stamp vector) u h g = answer_bounded f w (opened_answer f serial ino stamp (kept_for kept (mended_file w.words)) w.words w.asking) (with_user_instance (record { serial = serial; ss = ss; vector = vector; ops = 0; reads = version_read size stamp w.asking }) u) h g
opened_bounded f kept serial w (granted.No why) u h g = answer_bounded f w (answer.Refused why) u h g

pub on_open_done_bounded : (f : Frame) (kept : FileId → List Stamp) (serial : ℕ) (a : Granted) (u : Users) → UsersBounded u → UsersBounded (on_open_done f kept serial a u).view
on_open_done_bounded f kept serial a u g = by_call (first_that (asks_open_of serial) u.waiting) (first_found IsBounded (asks_open_of serial) u.waiting g)
  where
    by_call : (o : Option WaitingCall) → Found IsBounded o → UsersBounded (on_open_done_of f kept serial a o u).view
    by_call None h = g
    by_call (Some w) h = opened_bounded f kept serial w a u h g

pub on_op_done_bounded : (f : Frame) (serial n : ℕ) (r : Result) (u : Users) → UsersBounded u → UsersBounded (on_op_done f serial n r u).view
on_op_done_bounded f serial n r u g = by_call (first_that (asks_op_number serial n r) u.waiting) (first_found IsBounded (asks_op_number serial n r) u.waiting g)
  where
    by_call : (o : Option WaitingCall) → Found IsBounded o → UsersBounded (on_op_done_of f r o u).view
    by_call None h = g
    by_call (Some w) h = answer_bounded f w (op_answer r) (keeps_brought w.asking r u) h (kept_only UsersBounded w.asking r u (λ pages. g))

pub on_as_held_bounded : (f : Frame) (serial n : ℕ) (u : Users) → UsersBounded u → UsersBounded (on_as_held f serial n u).view
on_as_held_bounded f serial n u g = by_call (first_that (asks_held_number serial n) u.waiting) (first_found IsBounded (asks_held_number serial n) u.waiting g)
  where
    by_copied : (w : WaitingCall) (copied : Option (List ℕ)) → IsBounded w → UsersBounded (takes_copied f w copied u).view
    by_copied w None h = g
    by_copied w (Some bytes) h = answer_bounded f w _ u h g

    by_call : (o : Option WaitingCall) → Found IsBounded o → UsersBounded (on_as_held_of f o u).view
    by_call None h = g
    by_call (Some w) h = by_copied w w.copied h

pub on_close_done_bounded : (f : Frame) (serial : ℕ) (a : CloseAnswer) (u : Users) → UsersBounded u → UsersBounded (on_close_done f serial a u).view
on_close_done_bounded f serial a u g = by_call (first_that (using.asks_close_of serial) u.waiting) (first_found IsBounded (using.asks_close_of serial) u.waiting g)
  where
    by_call : (o : Option WaitingCall) → Found IsBounded o → UsersBounded (on_close_done_of f serial a o u).view
    by_call None h = g
    by_call (Some w) h = answer_bounded f w (close_answer a) (without_user_instance serial u) h g

-- a look that is taken again keeps its number
again_bounded : (f : Frame) (w : WaitingCall) (a : Asking) (u : Users) → IsBounded w → UsersBounded u → UsersBounded (looks_again f w a u).view
again_bounded f w (asking.Look file wh take) u h g = asks_bounded f (record w { asking = asking.Look file wh (take + 1) }) u (record { numbered = h.numbered; within = h.within }) g
again_bounded f w _ u h g = g

brought_bounded : (a : Asking) (bytes : List ℕ) (w : WaitingCall) → IsBounded w → IsBounded (with_brought a bytes w)
brought_bounded (asking.Look file (what.Whole stamp) take) bytes w h = record { numbered = h.numbered; within = h.within }
brought_bounded (asking.Look file (what.Name component) take) bytes w h = h
brought_bounded (asking.Look file what.List take) bytes w h = h
brought_bounded (asking.Look file what.Stat take) bytes w h = h
brought_bounded _ bytes w h = h

look_bounded : (f : Frame) (w : WaitingCall) (a : LookAnswer) (u : Users) → IsBounded w → UsersBounded u → UsersBounded (takes_look f w a u).view
look_bounded f w (looked.Found ino kind) u h g = answer_bounded f w (answer.Entered ino kind) u h g
look_bounded f w (looked.Content bytes) u h g = answer_bounded f (with_brought w.asking bytes w) (content_answer w.asking bytes) u (brought_bounded w.asking bytes w h) g
look_bounded f w (looked.Stat kind size stamp) u h g = answer_bounded f w (answer.Described kind size stamp) u h g
look_bounded f w looked.Moved u h g = again_bounded f w w.asking u h g
look_bounded f w (looked.No why) u h g = answer_bounded f w (answer.Refused why) u h g

pub on_look_done_bounded : (f : Frame) (n request take : ℕ) (a : LookAnswer) (u : Users) → UsersBounded u → UsersBounded (on_look_done f n request take a u).view
on_look_done_bounded f n request take a u g = by_call (first_that (asks_take n request take a) u.waiting) (first_found IsBounded (asks_take n request take a) u.waiting g)
  where
    by_call : (o : Option WaitingCall) → Found IsBounded o → UsersBounded (on_look_done_of f a o u).view
    by_call None h = g
    by_call (Some w) h = look_bounded f w a u h g
