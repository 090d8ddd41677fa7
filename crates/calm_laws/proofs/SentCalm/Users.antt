-- What a using site has of instances: each that it has or asks for was there before, or its open is answered that was granted.
use Rattle.std.proofs.Common.{ℕ, ◌+◌, Bool, true, false, cond, List, [], ◌∷◌, ◌++◌, Option, Some, None}
use Rattle.locus_ids.specs.declared.ids.EpochId.{EpochId}
use Rattle.locus_ids.specs.declared.ids.FileId.{FileId}
use Rattle.locus_ids.specs.declared.ids.Stamp.{Stamp}
use Rattle.locus_ids.specs.declared.refusal.Refusal.{Refusal}
use Rattle.trace_book.specs.declared.call.Call.{Call}
use Rattle.trace_book.specs.declared.call.Call.TheVariants as call
use Rattle.trace_book.specs.declared.descriptor.Beginning.{Beginning}
use Rattle.trace_book.specs.declared.descriptor.Beginning.TheVariants as begins
use Rattle.trace_book.specs.declared.operation.Op.{Op}
use Rattle.trace_book.specs.declared.operation.Outcome.{Outcome as Result}
use Rattle.trace_book.specs.declared.reply.Reply.{Reply}
use Rattle.trace_book.specs.declared.reply.Reply.TheVariants as reply
use Rattle.call_rules.specs.declared.answer.Answer.{Answer}
use Rattle.call_rules.specs.declared.want.Want.{Want}
use Rattle.call_rules.specs.declared.want.Want.TheVariants as want
use Rattle.wire_messages.specs.declared.body.CloseAnswer.{CloseAnswer}
use Rattle.wire_messages.specs.declared.body.Granted.{Granted}
use Rattle.wire_messages.specs.declared.body.Granted.TheVariants as granted
use Rattle.wire_messages.specs.declared.body.LookAnswer.{LookAnswer}
use Rattle.wire_messages.specs.declared.body.Opening.{Opening}
use Rattle.wire_messages.specs.declared.body.LookAnswer.TheVariants as looked
use Rattle.role_steps.specs.Own.{Every}
use Rattle.role_steps.specs.Requests.{instance_serial, waiting_key, without_waiting, user_instance, with_user_instance, without_user_instance, asks, asks_open, next_request, seen_by, asks_op_of, asks_close_of}
use Rattle.role_steps.specs.Tables.{first_that}
use Rattle.role_steps.specs.Using.{is_hopeless, without_hope, after_reply, holds_again, replies, asks_want, next_want, goes_on, frees, on_call, counted_users, counted_call, accepted_call, with_answer, takes_answer, takes_copied, takes_open, version_read, on_open_done_of, on_open_done, on_op_done_of, on_as_held_of, keeps_brought, on_op_done, on_as_held, on_close_done_of, on_close_done, looks_again, with_brought, content_answer, takes_look, on_look_done_of, on_look_done, asks_open_of, asks_op_number, asks_held_number, asks_take, op_answer, close_answer, opened_answer, kept_for, mended_file}
use Rattle.role_steps.specs.Using as using
use Rattle.role_steps.specs.Views.{Frame, Users, Outcome}
use Rattle.role_steps.specs.declared.users.Asking.{Asking}
use Rattle.role_steps.specs.declared.users.Asking.TheVariants as asking
use Rattle.role_steps.specs.declared.users.UserInstance.{UserInstance}
use Rattle.role_steps.specs.declared.users.WaitingCall.{WaitingCall}
use Rattle.the_run.proofs.Boots.{every_weaker}
use Rattle.the_run.proofs.InsideSync.{Found, every_row, every_without, row_found}
use Rattle.role_steps.proofs.Caching.{kept_only}

abbrev pub IsHeld : (ℕ → Type 0) → UserInstance → Type 0
IsHeld S i = S i.serial

-- operations and closes are asked of instances with such serial numbers
abbrev pub AsksHeld : (ℕ → Type 0) → Asking → Type 0
AsksHeld S (asking.Op serial ss n o seen) = S serial
AsksHeld S (asking.Close serial ss) = S serial
AsksHeld S _ = Unit {0}

abbrev pub WaitsHeld : (ℕ → Type 0) → WaitingCall → Type 0
WaitsHeld S w = AsksHeld S w.asking

-- each instance has such a serial number, and each of which something is asked
pub record AllHeld (S : ℕ → Type 0) (u : Users) : Type 0 where
  pub instances : Every (IsHeld S) u.instances
  pub waiting : Every (WaitsHeld S) u.waiting

asks_lead : (S T : ℕ → Type 0) (a : Asking) → ((n : ℕ) → S n → T n) → AsksHeld S a → AsksHeld T a
asks_lead S T (asking.Op serial ss n o seen) f k = f serial k
asks_lead S T (asking.Close serial ss) f k = f serial k
asks_lead S T _ f k = tt

pub held_leads : (S T : ℕ → Type 0) (u : Users) → ((n : ℕ) → S n → T n) → AllHeld S u → AllHeld T u
held_leads S T u f h = record { instances = every_weaker (IsHeld S) (IsHeld T) u.instances (λ i k. f i.serial k) h.instances; waiting = every_weaker (WaitsHeld S) (WaitsHeld T) u.waiting (λ w k. asks_lead S T w.asking f k) h.waiting }

abbrev Holds : (ℕ → Type 0) → Outcome Users → Type 0
Holds S o = AllHeld S o.view

asks_holds : (S : ℕ → Type 0) (f : Frame) (w : WaitingCall) (u : Users) → AsksHeld S w.asking → AllHeld S u → Holds S (asks f w u)
asks_holds S f w u k h = record { instances = h.instances; waiting = every_row (WaitsHeld S) waiting_key w u.waiting k h.waiting }

asks_op_holds : (S : ℕ → Type 0) (f : Frame) (w : WaitingCall) (o : Op) (i : Option UserInstance) (u : Users) → Found (IsHeld S) i → AllHeld S u → Holds S (asks_op_of f w o i u)
asks_op_holds S f w o None u k h = h
asks_op_holds S f w o (Some i) u k h =
    asks_holds S f (next_request w (asking.Op i.serial i.ss (i.ops + 1) o (seen_by u w.answers o))) (with_user_instance (record i { ops = i.ops + 1 }) u) k
    (record { instances = every_row (IsHeld S) instance_serial (record i { ops = i.ops + 1 }) u.instances k h.instances; waiting = h.waiting })

asks_close_holds : (S : ℕ → Type 0) (f : Frame) (w : WaitingCall) (i : Option UserInstance) (u : Users) → Found (IsHeld S) i → AllHeld S u → Holds S (asks_close_of f w i u)
asks_close_holds S f w None u k h = h
asks_close_holds S f w (Some i) u k h = asks_holds S f (next_request w (asking.Close i.serial i.ss)) u k h

asks_open_holds : (S : ℕ → Type 0) (f : Frame) (w : WaitingCall) (file : FileId) (how : Opening) (u : Users) → AllHeld S u → Holds S (asks_open f w file how u)
asks_open_holds S f w file how u h = asks_holds S f (next_request w (asking.Open (u.serials + 1) file how)) (record u { serials = u.serials + 1 }) tt (record { instances = h.instances; waiting = h.waiting })

-- ---- replies ----

cond_held : (S : ℕ → Type 0) (b : Bool) (u v : Users) → AllHeld S u → AllHeld S v → AllHeld S (cond b u v)
cond_held S true u v h g = h
cond_held S false u v h g = g

hope_held : (S : ℕ → Type 0) (words : Call) (why : Refusal) (u : Users) → AllHeld S u → AllHeld S (without_hope words why u)
hope_held S (call.Mend file) why u h = cond_held S (is_hopeless why) (record u { hopeless = u.hopeless ++ file ∷ [] }) u (record { instances = h.instances; waiting = h.waiting }) h
hope_held S _ why u h = h

again_held : (S : ℕ → Type 0) (f : Frame) (w : WaitingCall) (b : Beginning) (words : Call) (u : Users) → AllHeld S u → AllHeld S (holds_again f w b words u)
again_held S f w (begins.Reopens version last) (call.Read fd at len) u h = record { instances = h.instances; waiting = h.waiting }
again_held S f w _ words u h = h

reply_held : (S : ℕ → Type 0) (f : Frame) (w : WaitingCall) (r : Reply) (u : Users) → AllHeld S u → AllHeld S (after_reply f w r u)
reply_held S f w (reply.Opened fd) u h = record { instances = h.instances; waiting = h.waiting }
reply_held S f w (reply.No why) u h = hope_held S w.words why u h
reply_held S f w (reply.Data bytes) u h = again_held S f w w.begins w.words u h
reply_held S f w _ u h = h

-- ---- a script goes on ----

asks_want_holds : (S : ℕ → Type 0) (f : Frame) (w : WaitingCall) (x : Want) (u : Users) → AllHeld S u → Holds S (asks_want f w x u)
asks_want_holds S f w (want.Look file what) u h = asks_holds S f (next_request w (asking.Look file what 1)) u tt h
asks_want_holds S f w (want.Open file m) u h = asks_open_holds S f w file _ u h
asks_want_holds S f w (want.OpenToMend file) u h = asks_open_holds S f w file _ u h
asks_want_holds S f w (want.Make group kind sites) u h = asks_open_holds S f w (record { group = group; ino = 0 }) _ u h
asks_want_holds S f w (want.Do inst o) u h = asks_op_holds S f w o (user_instance u inst.serial) u (row_found (IsHeld S) instance_serial inst.serial u.instances h.instances) h
asks_want_holds S f w (want.Close inst) u h = asks_close_holds S f w (user_instance u inst.serial) u (row_found (IsHeld S) instance_serial inst.serial u.instances h.instances) h
asks_want_holds S f w (want.Give r) u h = reply_held S f w r (without_waiting w u) (record { instances = h.instances; waiting = every_without (WaitsHeld S) waiting_key (waiting_key w) u.waiting h.waiting })
asks_want_holds S f w want.Never u h = h

goes_on_holds : (S : ℕ → Type 0) (f : Frame) (w : WaitingCall) (u : Users) → AllHeld S u → Holds S (goes_on f w u)
goes_on_holds S f w u h = asks_want_holds S f w (next_want f w u) u h

frees_held : (S : ℕ → Type 0) (process : ℕ) (words : Call) (u : Users) → AllHeld S u → AllHeld S (frees process words u)
frees_held S process (call.Close fd) u h = record { instances = h.instances; waiting = h.waiting }
frees_held S process _ u h = h

pub on_call_holds : (S : ℕ → Type 0) (f : Frame) (now : Option EpochId) (process : ℕ) (words : Call) (u : Users) → AllHeld S u → Holds S (on_call f now process words u)
on_call_holds S f now process words u h =
    goes_on_holds S f (accepted_call f now process words u) (counted_call f now process words u) (frees_held S process words (counted_users f now process words u) (record { instances = h.instances; waiting = h.waiting }))

-- ---- answers ----

takes_answer_holds : (S : ℕ → Type 0) (f : Frame) (w : WaitingCall) (a : Answer) (u : Users) → AllHeld S u → Holds S (takes_answer f w a u)
takes_answer_holds S f w a u h = goes_on_holds S f (with_answer w a) u h

-- what is granted is held
abbrev pub Grants : (ℕ → Type 0) → ℕ → Granted → Type 0
Grants S serial (granted.Open ss ino size stamp vector) = S serial
Grants S serial (granted.No why) = Unit {0}

takes_open_holds : (S : ℕ → Type 0) (f : Frame) (kept : FileId → List Stamp) (serial : ℕ) (w : WaitingCall) (a : Granted) (u : Users) → Grants S serial a → AllHeld S u → Holds S (takes_open f kept serial w a u)
takes_open_holds S f kept serial w (granted.Open ss ino size stamp vector) u k h =
    let i : UserInstance = record { serial = serial; ss = ss; vector = vector; ops = 0; reads = version_read size stamp w.asking } in
    takes_answer_holds S f w (opened_answer f serial ino stamp (kept_for kept (mended_file w.words)) w.words w.asking) (with_user_instance i u) (record { instances = every_row (IsHeld S) instance_serial i u.instances k h.instances; waiting = h.waiting })
takes_open_holds S f kept serial w (granted.No why) u k h = takes_answer_holds S f w _ u h

open_done_of_holds : (S : ℕ → Type 0) (f : Frame) (kept : FileId → List Stamp) (serial : ℕ) (a : Granted) (o : Option WaitingCall) (u : Users) → Grants S serial a → AllHeld S u → Holds S (on_open_done_of f kept serial a o u)
open_done_of_holds S f kept serial a None u k h = h
open_done_of_holds S f kept serial a (Some w) u k h = takes_open_holds S f kept serial w a u k h

pub on_open_done_holds : (S : ℕ → Type 0) (f : Frame) (kept : FileId → List Stamp) (serial : ℕ) (a : Granted) (u : Users) → Grants S serial a → AllHeld S u → Holds S (on_open_done f kept serial a u)
on_open_done_holds S f kept serial a u k h = open_done_of_holds S f kept serial a (first_that (asks_open_of serial) u.waiting) u k h

op_done_of_holds : (S : ℕ → Type 0) (f : Frame) (r : Result) (o : Option WaitingCall) (u : Users) → AllHeld S u → Holds S (on_op_done_of f r o u)
op_done_of_holds S f r None u h = h
op_done_of_holds S f r (Some w) u h = takes_answer_holds S f w (op_answer r) (keeps_brought w.asking r u) (kept_only (AllHeld S) w.asking r u (λ pages. record { instances = h.instances; waiting = h.waiting }))

pub on_op_done_holds : (S : ℕ → Type 0) (f : Frame) (serial n : ℕ) (r : Result) (u : Users) → AllHeld S u → Holds S (on_op_done f serial n r u)
on_op_done_holds S f serial n r u h = op_done_of_holds S f r (first_that (asks_op_number serial n r) u.waiting) u h

copied_holds : (S : ℕ → Type 0) (f : Frame) (w : WaitingCall) (copied : Option (List ℕ)) (u : Users) → AllHeld S u → Holds S (takes_copied f w copied u)
copied_holds S f w None u h = h
copied_holds S f w (Some bytes) u h = takes_answer_holds S f w _ u h

as_held_of_holds : (S : ℕ → Type 0) (f : Frame) (o : Option WaitingCall) (u : Users) → AllHeld S u → Holds S (on_as_held_of f o u)
as_held_of_holds S f None u h = h
as_held_of_holds S f (Some w) u h = copied_holds S f w w.copied u h

pub on_as_held_holds : (S : ℕ → Type 0) (f : Frame) (serial n : ℕ) (u : Users) → AllHeld S u → Holds S (on_as_held f serial n u)
on_as_held_holds S f serial n u h = as_held_of_holds S f (first_that (asks_held_number serial n) u.waiting) u h

close_done_of_holds : (S : ℕ → Type 0) (f : Frame) (serial : ℕ) (a : CloseAnswer) (o : Option WaitingCall) (u : Users) → AllHeld S u → Holds S (on_close_done_of f serial a o u)
close_done_of_holds S f serial a None u h = h
close_done_of_holds S f serial a (Some w) u h = takes_answer_holds S f w (close_answer a) (without_user_instance serial u) (record { instances = every_without (IsHeld S) instance_serial serial u.instances h.instances; waiting = h.waiting })

pub on_close_done_holds : (S : ℕ → Type 0) (f : Frame) (serial : ℕ) (a : CloseAnswer) (u : Users) → AllHeld S u → Holds S (on_close_done f serial a u)
on_close_done_holds S f serial a u h = close_done_of_holds S f serial a (first_that (using.asks_close_of serial) u.waiting) u h

looks_again_holds : (S : ℕ → Type 0) (f : Frame) (w : WaitingCall) (a : Asking) (u : Users) → AllHeld S u → Holds S (looks_again f w a u)
looks_again_holds S f w (asking.Look file what take) u h = (let k : Holds S (asks f (record w { asking = asking.Look file what (take + 1) }) u) = asks_holds S f (record w { asking = asking.Look file what (take + 1) }) u tt h in record { instances = k.instances; waiting = k.waiting })
looks_again_holds S f w (asking.Open serial file how) u h = h
looks_again_holds S f w (asking.Op serial ss number o seen) u h = h
looks_again_holds S f w (asking.Close serial ss) u h = h

takes_look_holds : (S : ℕ → Type 0) (f : Frame) (w : WaitingCall) (a : LookAnswer) (u : Users) → AllHeld S u → Holds S (takes_look f w a u)
takes_look_holds S f w (looked.Found ino kind) u h = takes_answer_holds S f w _ u h
takes_look_holds S f w (looked.Content bytes) u h = takes_answer_holds S f (with_brought w.asking bytes w) (content_answer w.asking bytes) u h
takes_look_holds S f w (looked.Stat kind size stamp) u h = takes_answer_holds S f w _ u h
takes_look_holds S f w looked.Moved u h = looks_again_holds S f w w.asking u h
takes_look_holds S f w (looked.No why) u h = takes_answer_holds S f w _ u h

look_done_of_holds : (S : ℕ → Type 0) (f : Frame) (a : LookAnswer) (o : Option WaitingCall) (u : Users) → AllHeld S u → Holds S (on_look_done_of f a o u)
look_done_of_holds S f a None u h = h
look_done_of_holds S f a (Some w) u h = takes_look_holds S f w a u h

pub on_look_done_holds : (S : ℕ → Type 0) (f : Frame) (n request take : ℕ) (a : LookAnswer) (u : Users) → AllHeld S u → Holds S (on_look_done f n request take a u)
on_look_done_holds S f n request take a u h = look_done_of_holds S f a (first_that (asks_take n request take a) u.waiting) u h
