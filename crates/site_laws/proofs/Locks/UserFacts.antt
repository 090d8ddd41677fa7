-- The using site asks operations and closes of what was granted alone.
use Rattle.std.proofs.Common.{◌≡◌, ℕ, ◌+◌, Bool, true, false, cond, List, [], ◌∷◌, ◌++◌, Option, Some, None, refl, sym, subst}
use Rattle.locus_ids.specs.declared.ids.EpochId.{EpochId}
use Rattle.locus_ids.specs.declared.ids.FileId.{FileId}
use Rattle.locus_ids.specs.declared.ids.Stamp.{Stamp}
use Rattle.locus_ids.specs.declared.refusal.Refusal.{Refusal}
use Rattle.locus_ids.specs.declared.refusal.Refusal.TheVariants as refusal
use Rattle.trace_book.specs.declared.call.Call.{Call}
use Rattle.trace_book.specs.declared.call.Call.TheVariants as call
use Rattle.trace_book.specs.declared.descriptor.Beginning.{Beginning}
use Rattle.trace_book.specs.declared.descriptor.Beginning.TheVariants as begins
use Rattle.trace_book.specs.declared.operation.Op.{Op}
use Rattle.trace_book.specs.declared.operation.Op.TheVariants as op
use Rattle.trace_book.specs.declared.operation.Outcome.{Outcome as Result}
use Rattle.trace_book.specs.declared.reply.Reply.{Reply}
use Rattle.trace_book.specs.declared.reply.Reply.TheVariants as reply
use Rattle.call_rules.specs.declared.answer.Answer.{Answer}
use Rattle.call_rules.specs.declared.want.Want.{Want}
use Rattle.call_rules.specs.declared.want.Want.TheVariants as want
use Rattle.wire_messages.specs.declared.body.Body.{Body}
use Rattle.wire_messages.specs.declared.body.Opening.{Opening}
use Rattle.wire_messages.specs.declared.body.CloseAnswer.{CloseAnswer}
use Rattle.wire_messages.specs.declared.body.LookAnswer.{LookAnswer}
use Rattle.wire_messages.specs.declared.body.LookAnswer.TheVariants as looked
use Rattle.wire_messages.specs.declared.body.Granted.{Granted}
use Rattle.wire_messages.specs.declared.body.Granted.TheVariants as granted
use Rattle.role_steps.specs.Own.{Every}
use Rattle.role_steps.specs.Tables.{first_that}
use Rattle.role_steps.specs.Views.{Frame, Users, Told, Outcome, quiet, tells, and_then, packet, to_some, to_sync, sync_site, serial_key}
use Rattle.role_steps.specs.Requests.{waiting_key, instance_serial, without_waiting, user_instance, with_user_instance, without_user_instance, operation_body, request_packets, asks, asks_open, next_request, asks_op_of, asks_close_of, seen_by, users_repeats}
use Rattle.role_steps.specs.Using.{reply_record, is_hopeless, without_hope, after_reply, holds_again, replies, asks_want, next_want, goes_on, frees, accept_record, on_call, counted_users, counted_call, accepted_call, takes_record, with_answer, takes_answer, takes_copied, takes_open, version_read, on_open_done_of, on_open_done, on_op_done_of, on_as_held_of, keeps_brought, on_op_done, on_as_held, on_close_done_of, on_close_done, looks_again, with_brought, content_answer, takes_look, on_look_done_of, on_look_done, asks_open_of, asks_op_number, asks_held_number, asks_take, users_leave, op_answer, close_answer}
use Rattle.role_steps.specs.Using as using
use Rattle.role_steps.specs.declared.users.Asking.{Asking}
use Rattle.role_steps.specs.declared.users.Asking.TheVariants as asking
use Rattle.role_steps.specs.declared.users.WaitingCall.{WaitingCall}
use Rattle.role_steps.specs.declared.users.UserInstance.{UserInstance}
use Rattle.role_steps.proofs.Sending.{every_map}
use Rattle.the_run.specs.Steps.{from_user}
use Rattle.the_run.proofs.InsideSync.{every_row, every_without, Found, row_found}
use Rattle.site_laws.proofs.Vectors.SyncFacts.{every_flat}
use Rattle.site_laws.specs.Locks.Facts.{IsGiven, PacketFact, NoFact, DoneFact, GrantedIn, HeldFact, AskingFact, WaitingFact, UsersFact}
use Rattle.run_laws.specs.FactWalks.Keeping.{IsFrameOf}
use Rattle.site_laws.proofs.Locks.Facts.{no_fact, Aloof}
use Rattle.role_steps.proofs.Caching.{kept_only}

-- ---- packets ----

-- the frame is that of the epoch, where the site is in one
grant_in : (past : List Told) (f : Frame) (o : Option EpochId) (key ss : ℕ) → IsFrameOf f o → GrantedIn past o key ss → IsGiven past f.epoch key ss
grant_in past f None key ss q h = absurd h
grant_in past f (Some e) key ss q h = subst (λ (id : EpochId). IsGiven past id key ss) (sym q) h

some_fact : (past : List Told) (f : Frame) (b : Body) (o : Option ℕ) → NoFact b → Every (PacketFact past) (to_some f b o)
some_fact past f b None h = tt
some_fact past f b (Some to) h = (no_fact past f.me to f.epoch b h, tt)

sync_fact : (past : List Told) (f : Frame) (group : ℕ) (b : Body) → NoFact b → Every (PacketFact past) (to_sync f group b)
sync_fact past f group b h = some_fact past f b (sync_site f.config f.members group) h

-- a read that asks for the number of its bytes alone is of the same instance
operation_fact : (past : List Told) (f : Frame) (ss serial number : ℕ) (copied : Option (List ℕ)) (it : Op) (seen : List ℕ) → IsGiven past f.epoch (serial_key (from_user f.me serial)) ss → PacketFact past (packet f ss (operation_body copied serial number it seen))
operation_fact past f ss serial number (Some bytes) (op.Read at len) seen h = h
operation_fact past f ss serial number copied it seen h = h

request_fact : (past : List Told) (f : Frame) (o : Option EpochId) (w : WaitingCall) (a : Asking) → IsFrameOf f o → AskingFact past f.me o a → Every (PacketFact past) (request_packets f w a)
request_fact past f o w (asking.Look file what take) q h = sync_fact past f file.group _ tt
request_fact past f o w (asking.Open serial file how) q h = sync_fact past f file.group _ tt
request_fact past f o w (asking.Op serial ss number it seen) q h = (operation_fact past f ss serial number w.copied it seen (grant_in past f o (serial_key (from_user f.me serial)) ss q h), tt)
request_fact past f o w (asking.Close serial ss) q h = (grant_in past f o (serial_key (from_user f.me serial)) ss q h, tt)

pub users_repeats_fact : (past : List Told) (f : Frame) (o : Option EpochId) (u : Users) → IsFrameOf f o → UsersFact past f.me o u → Every (PacketFact past) (users_repeats f u)
users_repeats_fact past f o u q h = every_flat (WaitingFact past f.me o) (PacketFact past) (λ (w : WaitingCall). request_packets f w w.asking) u.waiting (λ w k. request_fact past f o w w.asking q k) h.waiting

-- ---- outcomes: what users tell is aloof, and what was granted stays ----

pub record UsersKeep (past : List Told) (f : Frame) (o : Option EpochId) (out : Outcome Users) : Type 0 where
  pub view : UsersFact past f.me o out.view
  pub sent : Every (PacketFact past) out.sent
  pub told : Every Aloof out.told
  pub none : out.written ≡ None

quiet_keep : (past : List Told) (f : Frame) (o : Option EpochId) (u : Users) → UsersFact past f.me o u → UsersKeep past f o (quiet u)
quiet_keep past f o u h = record { view = h; sent = tt; told = tt; none = refl }

-- after one that is told
tells_keep : (past : List Told) (f : Frame) (o : Option EpochId) (x : Told) (u : Users) (g : Users → Outcome Users) → Aloof x → UsersKeep past f o (g u) → UsersKeep past f o (and_then (tells (x ∷ []) u) g)
tells_keep past f o x u g a k = record { view = k.view; sent = k.sent; told = (a, k.told); none = k.none }

asks_keep : (past : List Told) (f : Frame) (o : Option EpochId) (w : WaitingCall) (u : Users) → IsFrameOf f o → AskingFact past f.me o w.asking → UsersFact past f.me o u → UsersKeep past f o (asks f w u)
asks_keep past f o w u q k h = record { view = record { instances = h.instances; waiting = every_row (WaitingFact past f.me o) waiting_key w u.waiting k h.waiting }; sent = request_fact past f o w w.asking q k; told = tt; none = refl }

asks_op_keep : (past : List Told) (f : Frame) (o : Option EpochId) (w : WaitingCall) (it : Op) (i : Option UserInstance) (u : Users) → IsFrameOf f o → Found (HeldFact past f.me o) i → UsersFact past f.me o u → UsersKeep past f o (asks_op_of f w it i u)
asks_op_keep past f o w it None u q k h = quiet_keep past f o u h
asks_op_keep past f o w it (Some i) u q k h =
    asks_keep past f o (next_request w (asking.Op i.serial i.ss (i.ops + 1) it (seen_by u w.answers it))) (with_user_instance (record i { ops = i.ops + 1 }) u) q k
    (record { instances = every_row (HeldFact past f.me o) instance_serial (record i { ops = i.ops + 1 }) u.instances k h.instances; waiting = h.waiting })

asks_close_keep : (past : List Told) (f : Frame) (o : Option EpochId) (w : WaitingCall) (i : Option UserInstance) (u : Users) → IsFrameOf f o → Found (HeldFact past f.me o) i → UsersFact past f.me o u → UsersKeep past f o (asks_close_of f w i u)
asks_close_keep past f o w None u q k h = quiet_keep past f o u h
asks_close_keep past f o w (Some i) u q k h = asks_keep past f o (next_request w (asking.Close i.serial i.ss)) u q k h

asks_open_keep : (past : List Told) (f : Frame) (o : Option EpochId) (w : WaitingCall) (file : FileId) (how : Opening) (u : Users) → IsFrameOf f o → UsersFact past f.me o u → UsersKeep past f o (asks_open f w file how u)
asks_open_keep past f o w file how u q h = asks_keep past f o (next_request w (asking.Open (u.serials + 1) file how)) (record u { serials = u.serials + 1 }) q tt (record { instances = h.instances; waiting = h.waiting })

-- ---- replies ----

cond_users : (past : List Told) (s : ℕ) (o : Option EpochId) (b : Bool) (u v : Users) → UsersFact past s o u → UsersFact past s o v → UsersFact past s o (cond b u v)
cond_users past s o true u v h g = h
cond_users past s o false u v h g = g

hope_fact : (past : List Told) (s : ℕ) (o : Option EpochId) (words : Call) (why : Refusal) (u : Users) → UsersFact past s o u → UsersFact past s o (without_hope words why u)
hope_fact past s o (call.Mend file) why u h = cond_users past s o (is_hopeless why) (record u { hopeless = u.hopeless ++ file ∷ [] }) u (record { instances = h.instances; waiting = h.waiting }) h
hope_fact past s o _ why u h = h

again_fact : (past : List Told) (s : ℕ) (o : Option EpochId) (f : Frame) (w : WaitingCall) (b : Beginning) (words : Call) (u : Users) → UsersFact past s o u → UsersFact past s o (holds_again f w b words u)
again_fact past s o f w (begins.Reopens version last) (call.Read fd at len) u h = record { instances = h.instances; waiting = h.waiting }
again_fact past s o f w _ words u h = h

after_reply_fact : (past : List Told) (s : ℕ) (o : Option EpochId) (f : Frame) (w : WaitingCall) (r : Reply) (u : Users) → UsersFact past s o u → UsersFact past s o (after_reply f w r u)
after_reply_fact past s o f w (reply.Opened fd) u h = record { instances = h.instances; waiting = h.waiting }
after_reply_fact past s o f w (reply.No why) u h = hope_fact past s o w.words why u h
after_reply_fact past s o f w (reply.Data bytes) u h = again_fact past s o f w w.begins w.words u h
after_reply_fact past s o f w _ u h = h

replies_keep : (past : List Told) (f : Frame) (o : Option EpochId) (w : WaitingCall) (r : Reply) (u : Users) → UsersFact past f.me o u → UsersKeep past f o (replies f w r u)
replies_keep past f o w r u h = record {
  view = after_reply_fact past f.me o f w r (without_waiting w u) (record { instances = h.instances; waiting = every_without (WaitingFact past f.me o) waiting_key (waiting_key w) u.waiting h.waiting });
  sent = tt;
  told = (tt, tt);
  none = refl;
}

-- ---- a script goes on ----

asks_want_keep : (past : List Told) (f : Frame) (o : Option EpochId) (w : WaitingCall) (x : Want) (u : Users) → IsFrameOf f o → UsersFact past f.me o u → UsersKeep past f o (asks_want f w x u)
asks_want_keep past f o w (want.Look file what) u q h = asks_keep past f o (next_request w (asking.Look file what 1)) u q tt h
asks_want_keep past f o w (want.Open file m) u q h = asks_open_keep past f o w file _ u q h
asks_want_keep past f o w (want.OpenToMend file) u q h = asks_open_keep past f o w file _ u q h
asks_want_keep past f o w (want.Make group kind sites) u q h = asks_open_keep past f o w (record { group = group; ino = 0 }) _ u q h
asks_want_keep past f o w (want.Do inst it) u q h = asks_op_keep past f o w it (user_instance u inst.serial) u q (row_found (HeldFact past f.me o) instance_serial inst.serial u.instances h.instances) h
asks_want_keep past f o w (want.Close inst) u q h = asks_close_keep past f o w (user_instance u inst.serial) u q (row_found (HeldFact past f.me o) instance_serial inst.serial u.instances h.instances) h
asks_want_keep past f o w (want.Give r) u q h = replies_keep past f o w r u h
asks_want_keep past f o w want.Never u q h = quiet_keep past f o u h

goes_on_keep : (past : List Told) (f : Frame) (o : Option EpochId) (w : WaitingCall) (u : Users) → IsFrameOf f o → UsersFact past f.me o u → UsersKeep past f o (goes_on f w u)
goes_on_keep past f o w u q h = asks_want_keep past f o w (next_want f w u) u q h

frees_fact : (past : List Told) (s : ℕ) (o : Option EpochId) (process : ℕ) (words : Call) (u : Users) → UsersFact past s o u → UsersFact past s o (frees process words u)
frees_fact past s o process (call.Close fd) u h = record { instances = h.instances; waiting = h.waiting }
frees_fact past s o process _ u h = h

pub on_call_keep : (past : List Told) (f : Frame) (o : Option EpochId) (now : Option EpochId) (process : ℕ) (words : Call) (u : Users) → IsFrameOf f o → UsersFact past f.me o u → UsersKeep past f o (on_call f now process words u)
on_call_keep past f o now process words u q h =
    let n : ℕ = u.calls + 1 in
    let w : WaitingCall = accepted_call f now process words u in
    let counted : Users = counted_call f now process words u in
    tells_keep past f o (accept_record f.me f.boot process n words) counted (goes_on f w) tt (goes_on_keep past f o w counted q (frees_fact past f.me o process words (counted_users f now process words u) (record { instances = h.instances; waiting = h.waiting })))

-- ---- answers ----

takes_answer_keep : (past : List Told) (f : Frame) (o : Option EpochId) (w : WaitingCall) (a : Answer) (u : Users) → IsFrameOf f o → UsersFact past f.me o u → UsersKeep past f o (takes_answer f w a u)
takes_answer_keep past f o w a u q h = tells_keep past f o (takes_record f w a) u (goes_on f (with_answer w a)) tt (goes_on_keep past f o (with_answer w a) u q h)

-- what is granted is held
takes_open_keep : (past : List Told) (f : Frame) (e : EpochId) (kept : FileId → List Stamp) (serial : ℕ) (w : WaitingCall) (a : Granted) (u : Users) → f.epoch ≡ e → DoneFact past e (serial_key (from_user f.me serial)) a → UsersFact past f.me (Some e) u → UsersKeep past f (Some e) (takes_open f kept serial w a u)
takes_open_keep past f e kept serial w (granted.Open ss ino size stamp vector) u q k h =
    let i : UserInstance = record { serial = serial; ss = ss; vector = vector; ops = 0; reads = version_read size stamp w.asking } in
    takes_answer_keep past f (Some e) w _ (with_user_instance i u) q (record { instances = every_row (HeldFact past f.me (Some e)) instance_serial i u.instances k h.instances; waiting = h.waiting })
takes_open_keep past f e kept serial w (granted.No why) u q k h = takes_answer_keep past f (Some e) w _ u q h

on_open_done_of_keep : (past : List Told) (f : Frame) (e : EpochId) (kept : FileId → List Stamp) (serial : ℕ) (a : Granted) (o : Option WaitingCall) (u : Users) → f.epoch ≡ e → DoneFact past e (serial_key (from_user f.me serial)) a → UsersFact past f.me (Some e) u → UsersKeep past f (Some e) (on_open_done_of f kept serial a o u)
on_open_done_of_keep past f e kept serial a None u q k h = quiet_keep past f (Some e) u h
on_open_done_of_keep past f e kept serial a (Some w) u q k h = takes_open_keep past f e kept serial w a u q k h

pub on_open_done_keep : (past : List Told) (f : Frame) (e : EpochId) (kept : FileId → List Stamp) (serial : ℕ) (a : Granted) (u : Users) → f.epoch ≡ e → DoneFact past e (serial_key (from_user f.me serial)) a → UsersFact past f.me (Some e) u → UsersKeep past f (Some e) (on_open_done f kept serial a u)
on_open_done_keep past f e kept serial a u q k h = on_open_done_of_keep past f e kept serial a (first_that (asks_open_of serial) u.waiting) u q k h

on_op_done_of_keep : (past : List Told) (f : Frame) (o : Option EpochId) (r : Result) (w : Option WaitingCall) (u : Users) → IsFrameOf f o → UsersFact past f.me o u → UsersKeep past f o (on_op_done_of f r w u)
on_op_done_of_keep past f o r None u q h = quiet_keep past f o u h
on_op_done_of_keep past f o r (Some w) u q h = takes_answer_keep past f o w (op_answer r) (keeps_brought w.asking r u) q (kept_only (UsersFact past f.me o) w.asking r u (λ pages. record { instances = h.instances; waiting = h.waiting }))

pub on_op_done_keep : (past : List Told) (f : Frame) (o : Option EpochId) (serial n : ℕ) (r : Result) (u : Users) → IsFrameOf f o → UsersFact past f.me o u → UsersKeep past f o (on_op_done f serial n r u)
on_op_done_keep past f o serial n r u q h = on_op_done_of_keep past f o r (first_that (asks_op_number serial n r) u.waiting) u q h

copied_keep : (past : List Told) (f : Frame) (o : Option EpochId) (w : WaitingCall) (copied : Option (List ℕ)) (u : Users) → IsFrameOf f o → UsersFact past f.me o u → UsersKeep past f o (takes_copied f w copied u)
copied_keep past f o w None u q h = quiet_keep past f o u h
copied_keep past f o w (Some bytes) u q h = takes_answer_keep past f o w _ u q h

on_as_held_of_keep : (past : List Told) (f : Frame) (o : Option EpochId) (w : Option WaitingCall) (u : Users) → IsFrameOf f o → UsersFact past f.me o u → UsersKeep past f o (on_as_held_of f w u)
on_as_held_of_keep past f o None u q h = quiet_keep past f o u h
on_as_held_of_keep past f o (Some w) u q h = copied_keep past f o w w.copied u q h

pub on_as_held_keep : (past : List Told) (f : Frame) (o : Option EpochId) (serial n : ℕ) (u : Users) → IsFrameOf f o → UsersFact past f.me o u → UsersKeep past f o (on_as_held f serial n u)
on_as_held_keep past f o serial n u q h = on_as_held_of_keep past f o (first_that (asks_held_number serial n) u.waiting) u q h

on_close_done_of_keep : (past : List Told) (f : Frame) (o : Option EpochId) (serial : ℕ) (a : CloseAnswer) (w : Option WaitingCall) (u : Users) → IsFrameOf f o → UsersFact past f.me o u → UsersKeep past f o (on_close_done_of f serial a w u)
on_close_done_of_keep past f o serial a None u q h = quiet_keep past f o u h
on_close_done_of_keep past f o serial a (Some w) u q h = takes_answer_keep past f o w (close_answer a) (without_user_instance serial u) q (record { instances = every_without (HeldFact past f.me o) instance_serial serial u.instances h.instances; waiting = h.waiting })

pub on_close_done_keep : (past : List Told) (f : Frame) (o : Option EpochId) (serial : ℕ) (a : CloseAnswer) (u : Users) → IsFrameOf f o → UsersFact past f.me o u → UsersKeep past f o (on_close_done f serial a u)
on_close_done_keep past f o serial a u q h = on_close_done_of_keep past f o serial a (first_that (using.asks_close_of serial) u.waiting) u q h

looks_again_keep : (past : List Told) (f : Frame) (o : Option EpochId) (w : WaitingCall) (a : Asking) (u : Users) → IsFrameOf f o → UsersFact past f.me o u → UsersKeep past f o (looks_again f w a u)
looks_again_keep past f o w (asking.Look file what take) u q h = let k : UsersKeep past f o (asks f (record w { asking = asking.Look file what (take + 1) }) u) = asks_keep past f o (record w { asking = asking.Look file what (take + 1) }) u q tt h in record { view = k.view; sent = k.sent; told = (tt, tt); none = refl }
looks_again_keep past f o w (asking.Open serial file how) u q h = quiet_keep past f o u h
looks_again_keep past f o w (asking.Op serial ss number it seen) u q h = quiet_keep past f o u h
looks_again_keep past f o w (asking.Close serial ss) u q h = quiet_keep past f o u h

takes_look_keep : (past : List Told) (f : Frame) (o : Option EpochId) (w : WaitingCall) (a : LookAnswer) (u : Users) → IsFrameOf f o → UsersFact past f.me o u → UsersKeep past f o (takes_look f w a u)
takes_look_keep past f o w (looked.Found ino kind) u q h = takes_answer_keep past f o w _ u q h
takes_look_keep past f o w (looked.Content bytes) u q h = takes_answer_keep past f o (with_brought w.asking bytes w) (content_answer w.asking bytes) u q h
takes_look_keep past f o w (looked.Stat kind size stamp) u q h = takes_answer_keep past f o w _ u q h
takes_look_keep past f o w looked.Moved u q h = looks_again_keep past f o w w.asking u q h
takes_look_keep past f o w (looked.No why) u q h = takes_answer_keep past f o w _ u q h

on_look_done_of_keep : (past : List Told) (f : Frame) (o : Option EpochId) (a : LookAnswer) (w : Option WaitingCall) (u : Users) → IsFrameOf f o → UsersFact past f.me o u → UsersKeep past f o (on_look_done_of f a w u)
on_look_done_of_keep past f o a None u q h = quiet_keep past f o u h
on_look_done_of_keep past f o a (Some w) u q h = takes_look_keep past f o w a u q h

pub on_look_done_keep : (past : List Told) (f : Frame) (o : Option EpochId) (n request take : ℕ) (a : LookAnswer) (u : Users) → IsFrameOf f o → UsersFact past f.me o u → UsersKeep past f o (on_look_done f n request take a u)
on_look_done_keep past f o n request take a u q h = on_look_done_of_keep past f o a (first_that (asks_take n request take a) u.waiting) u q h

-- the epoch is left: nothing waits, and nothing is held
pub users_leave_keep : (past : List Told) (me boot : ℕ) (e : EpochId) (u : Users) → UsersFact past me None (users_leave me boot e u).view × Every Aloof (users_leave me boot e u).told
users_leave_keep past me boot e u = (record { instances = tt; waiting = tt }, every_map Aloof (λ (w : WaitingCall). reply_record me boot w (reply.No (refusal.Changed e))) u.waiting (λ w. tt))
