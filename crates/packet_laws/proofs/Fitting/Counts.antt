-- Each call that a site accepts prints a record, and each serial number that it gives costs a packet.
use Rattle.std.proofs.Common.{◌≡◌, ◌≤◌, ℕ, ◌+◌, Bool, true, false, cond, List, [], ◌∷◌, ◌++◌, length, Option, Some, None, refl, arith}
use Rattle.locus_ids.specs.declared.ids.EpochId.{EpochId}
use Rattle.locus_ids.specs.declared.ids.FileId.{FileId}
use Rattle.locus_ids.specs.declared.ids.Stamp.{Stamp}
use Rattle.locus_ids.specs.declared.refusal.Refusal.{Refusal}
use Rattle.locus_ids.specs.declared.refusal.Refusal.TheVariants as refusal
use Rattle.trace_book.specs.declared.record.Record.TheVariants as says
use Rattle.trace_book.specs.declared.reply.Reply.{Reply}
use Rattle.trace_book.specs.declared.reply.Reply.TheVariants as reply
use Rattle.trace_book.specs.declared.call.Call.{Call}
use Rattle.trace_book.specs.declared.call.Call.TheVariants as call
use Rattle.trace_book.specs.declared.descriptor.Beginning.{Beginning}
use Rattle.trace_book.specs.declared.descriptor.Beginning.TheVariants as begins
use Rattle.trace_book.specs.declared.operation.Op.{Op}
use Rattle.trace_book.specs.declared.operation.Outcome.{Outcome as Result}
use Rattle.call_rules.specs.Descriptors.{lowest_free}
use Rattle.call_rules.specs.Scripts.{named_wants, where_packed, in_group}
use Rattle.call_rules.specs.declared.answer.Answer.{Answer}
use Rattle.call_rules.specs.declared.want.Want.{Want}
use Rattle.call_rules.specs.declared.want.Want.TheVariants as want
use Rattle.wire_messages.specs.declared.body.Body.{Body}
use Rattle.wire_messages.specs.declared.body.Body.TheVariants as body
use Rattle.wire_messages.specs.declared.body.CloseAnswer.{CloseAnswer}
use Rattle.wire_messages.specs.declared.body.LookAnswer.{LookAnswer}
use Rattle.wire_messages.specs.declared.body.LookAnswer.TheVariants as looked
use Rattle.wire_messages.specs.declared.body.Granted.{Granted}
use Rattle.wire_messages.specs.declared.body.Granted.TheVariants as granted
use Rattle.wire_messages.specs.declared.body.Opening.{Opening}
use Rattle.role_steps.specs.Tables.{total, first_that}
use Rattle.role_steps.specs.Views.{Frame, Users, Shown, Outcome, joined_to, to_some, to_sync, sync_site}
use Rattle.role_steps.specs.Requests.{descriptors_of, user_instance, asks_op_of, asks_close_of, asks_open}
use Rattle.role_steps.specs.Using.{is_some_site, is_packed, is_hopeless, without_hope, after_reply, holds_again, replies, asks_want, next_want, goes_on, frees, on_call, counted_users, counted_call, accepted_call, with_answer, takes_answer, takes_copied, takes_open, on_open_done_of, on_open_done, on_op_done_of, on_as_held_of, keeps_brought, on_op_done, on_as_held, on_close_done_of, on_close_done, with_brought, content_answer, looks_again, takes_look, on_look_done_of, on_look_done, asks_open_of, asks_op_number, asks_held_number, asks_take}
use Rattle.role_steps.specs.Using as using
use Rattle.role_steps.specs.declared.users.Asking.{Asking}
use Rattle.role_steps.specs.declared.users.Asking.TheVariants as asking
use Rattle.role_steps.specs.declared.users.UserInstance.{UserInstance}
use Rattle.role_steps.specs.declared.users.WaitingCall.{WaitingCall}
use Rattle.the_run.specs.Worlds.{told_size}
use Rattle.run_laws.proofs.Boots.{some_text}
use Rattle.packet_laws.proofs.Fitting.Costs.{append_length, append_total}
use Rattle.role_steps.proofs.Caching.{kept_only}

-- the packets and the text of an outcome
abbrev pub spent : {V : Type 0} → ℕ → Outcome V → ℕ
spent n o = length o.sent + total (told_size n) o.told

-- the counts rise by no more than that
pub record Rises (n : ℕ) (u now : Users) (cost : ℕ) : Type 0 where
  pub calls : now.calls ≤ u.calls + cost
  pub serials : now.serials ≤ u.serials + cost

abbrev UsersRise : ℕ → Users → Outcome Users → Type 0
UsersRise n u o = Rises n u o.view (spent n o)

pub spent_both : {V W : Type 0} (n : ℕ) (o : Outcome V) (p : Outcome W) → spent n (joined_to o p) ≡ spent n o + spent n p
spent_both n o p = omega (arith, append_length o.sent p.sent, append_total (told_size n) o.told p.told)

pub rises_then : (n : ℕ) (u v w : Users) (a b c : ℕ) → a + b ≤ c → Rises n u v a → Rises n v w b → Rises n u w c
rises_then n u v w a b c le h g = record { calls = omega (arith, le, h.calls, g.calls); serials = omega (arith, le, h.serials, g.serials) }

pub same_counts : (n : ℕ) (u now : Users) (cost : ℕ) → now.calls ≡ u.calls → now.serials ≡ u.serials → Rises n u now cost
same_counts n u now cost a b = record { calls = omega (arith, a); serials = omega (arith, b) }

-- ---- what is asked ----

one_sent : (f : Frame) (b : Body) (o : Option ℕ) → is_some_site o ≡ true → 1 ≤ length (to_some f b o)
one_sent f b None h = absurd (cc)
one_sent f b (Some to) h = omega arith

opens_rise : (n : ℕ) (f : Frame) (w : WaitingCall) (file : FileId) (how : Opening) (u : Users) → is_packed f file.group ≡ true → UsersRise n u (asks_open f w file how u)
opens_rise n f w file how u packed =
    let k : 1 ≤ length (to_sync f file.group (body.Open (u.serials + 1) w.call w.process (w.request + 1) file how)) = one_sent f (body.Open (u.serials + 1) w.call w.process (w.request + 1) file how) (sync_site f.config f.members file.group) packed in
    record { calls = omega arith; serials = omega (arith, k) }

hope_counts : (n : ℕ) (words : Call) (why : Refusal) (u : Users) (cost : ℕ) → Rises n u (without_hope words why u) cost
hope_counts n (call.Mend file) why u cost = by_test (is_hopeless why)
  where
    by_test : (b : Bool) → Rises n u (cond b (record u { hopeless = u.hopeless ++ file ∷ [] }) u) cost
    by_test true = same_counts n u _ cost refl refl
    by_test false = same_counts n u u cost refl refl
hope_counts n _ why u cost = same_counts n u u cost refl refl

again_rises : (n : ℕ) (f : Frame) (w : WaitingCall) (b : Beginning) (words : Call) (u now : Users) (cost : ℕ) → now.calls ≡ u.calls → now.serials ≡ u.serials → Rises n u (holds_again f w b words now) cost
again_rises n f w (begins.Reopens version last) (call.Read fd at len) u now cost a b = same_counts n u _ cost a b
again_rises n f w _ words u now cost a b = same_counts n u now cost a b

reply_rise : (n : ℕ) (f : Frame) (w : WaitingCall) (r : Reply) (u now : Users) (cost : ℕ) → now.calls ≡ u.calls → now.serials ≡ u.serials → Rises n u (after_reply f w r now) cost
reply_rise n f w (reply.Opened fd) u now cost a b = same_counts n u _ cost a b
reply_rise n f w (reply.No why) u now cost a b = (let h : Rises n now (without_hope w.words why now) cost = hope_counts n w.words why now cost in record { calls = omega (arith, a, h.calls); serials = omega (arith, b, h.serials) })
reply_rise n f w (reply.Data bytes) u now cost a b = again_rises n f w w.begins w.words u now cost a b
reply_rise n f w _ u now cost a b = same_counts n u now cost a b

ops_rise : (n : ℕ) (f : Frame) (w : WaitingCall) (o : Op) (i : Option UserInstance) (u : Users) → UsersRise n u (asks_op_of f w o i u)
ops_rise n f w o None u = same_counts n u u _ refl refl
ops_rise n f w o (Some i) u = same_counts n u _ _ refl refl

close_rise : (n : ℕ) (f : Frame) (w : WaitingCall) (i : Option UserInstance) (u : Users) → UsersRise n u (asks_close_of f w i u)
close_rise n f w None u = same_counts n u u _ refl refl
close_rise n f w (Some i) u = same_counts n u _ _ refl refl

gives_rise : (n : ℕ) (f : Frame) (w : WaitingCall) (r : Reply) (u : Users) → UsersRise n u (replies f w r u)
gives_rise n f w r u = reply_rise n f w r u _ _ refl refl

-- what is asked of a group is asked where it is packed
packed_rise : (n : ℕ) (f : Frame) (w : WaitingCall) (group : ℕ) (x : Want) (u : Users) → (is_packed f group ≡ true → UsersRise n u (asks_want f w x u)) → UsersRise n u (asks_want f w (in_group (is_packed f) group x) u)
packed_rise n f w group x u h =
    (elim (is_packed f group) as (λ b. is_packed f group ≡ b → UsersRise n u (asks_want f w (cond b x (want.Give (reply.No refusal.NoStorage))) u)) [
      | true ↦ λ e. h e
      | false ↦ λ e. gives_rise n f w (reply.No refusal.NoStorage) u
    ]) refl

want_rise : (n : ℕ) (f : Frame) (w : WaitingCall) (x : Want) (u : Users) → UsersRise n u (asks_want f w (where_packed (is_packed f) x) u)
want_rise n f w (want.Look file what) u = packed_rise n f w file.group (want.Look file what) u (λ e. same_counts n u _ _ refl refl)
want_rise n f w (want.Open file m) u = packed_rise n f w file.group (want.Open file m) u (λ e. opens_rise n f w file _ u e)
want_rise n f w (want.OpenToMend file) u = packed_rise n f w file.group (want.OpenToMend file) u (λ e. opens_rise n f w file _ u e)
want_rise n f w (want.Make group kind sites) u = packed_rise n f w group (want.Make group kind sites) u (λ e. opens_rise n f w (record { group = group; ino = 0 }) _ u e)
want_rise n f w (want.Do inst o) u = ops_rise n f w o (user_instance u inst.serial) u
want_rise n f w (want.Close inst) u = close_rise n f w (user_instance u inst.serial) u
want_rise n f w (want.Give r) u = gives_rise n f w r u
want_rise n f w want.Never u = same_counts n u u _ refl refl

goes_rise : (n : ℕ) (f : Frame) (w : WaitingCall) (u : Users) → UsersRise n u (goes_on f w u)
goes_rise n f w u = want_rise n f w (named_wants f.config.mounts (lowest_free (descriptors_of u w.process)) w.words w.begins w.answers) u

-- ---- events of a using site ----

frees_counts : (process : ℕ) (words : Call) (u : Users) → ((frees process words u).calls ≡ u.calls) × ((frees process words u).serials ≡ u.serials)
frees_counts process (call.Close fd) u = (refl, refl)
frees_counts process _ u = (refl, refl)

pub call_rise : (n : ℕ) (f : Frame) (now : Option EpochId) (process : ℕ) (words : Call) (u : Users) → Rises n u (on_call f now process words u).view (spent n (on_call f now process words u))
call_rise n f now process words u =
    let w : WaitingCall = accepted_call f now process words u in
    let counted : Users = counted_call f now process words u in
    let o : Outcome Users = goes_on f w counted in
    let h : UsersRise n counted o = goes_rise n f w counted in
    let k : (counted.calls ≡ u.calls + 1) × (counted.serials ≡ u.serials) = frees_counts process words (counted_users f now process words u) in
    let t : 1 ≤ told_size n (Shown (says.Accept f.me process (record { site = f.me; boot = f.boot; n = u.calls + 1 }) words)) = some_text n (says.Accept f.me process (record { site = f.me; boot = f.boot; n = u.calls + 1 }) words) in
    record { calls = omega (arith, h.calls, k.0, t); serials = omega (arith, h.serials, k.1) }

answer_rise : (n : ℕ) (f : Frame) (w : WaitingCall) (a : Answer) (u now : Users) → now.calls ≡ u.calls → now.serials ≡ u.serials → UsersRise n u (takes_answer f w a now)
answer_rise n f w a u now c s = (let h : UsersRise n now (goes_on f (with_answer w a) now) = goes_rise n f (with_answer w a) now in record { calls = omega (arith, h.calls, c); serials = omega (arith, h.serials, s) })

open_rise : (n : ℕ) (f : Frame) (kept : FileId → List Stamp) (serial : ℕ) (w : WaitingCall) (a : Granted) (u : Users) → UsersRise n u (takes_open f kept serial w a u)
open_rise n f kept serial w (granted.Open ss ino size stamp vector) u = answer_rise n f w _ u _ refl refl
open_rise n f kept serial w (granted.No why) u = answer_rise n f w _ u u refl refl

open_done_of_rise : (n : ℕ) (f : Frame) (kept : FileId → List Stamp) (serial : ℕ) (a : Granted) (o : Option WaitingCall) (u : Users) → UsersRise n u (on_open_done_of f kept serial a o u)
open_done_of_rise n f kept serial a None u = same_counts n u u _ refl refl
open_done_of_rise n f kept serial a (Some w) u = open_rise n f kept serial w a u

pub open_done_rise : (n : ℕ) (f : Frame) (kept : FileId → List Stamp) (serial : ℕ) (a : Granted) (u : Users) → Rises n u (on_open_done f kept serial a u).view (spent n (on_open_done f kept serial a u))
open_done_rise n f kept serial a u = open_done_of_rise n f kept serial a (first_that (asks_open_of serial) u.waiting) u

op_done_of_rise : (n : ℕ) (f : Frame) (r : Result) (o : Option WaitingCall) (u : Users) → UsersRise n u (on_op_done_of f r o u)
op_done_of_rise n f r None u = same_counts n u u _ refl refl
op_done_of_rise n f r (Some w) u = answer_rise n f w _ u (keeps_brought w.asking r u) (kept_only (λ (v : Users). v.calls ≡ u.calls) w.asking r u (λ pages. refl)) (kept_only (λ (v : Users). v.serials ≡ u.serials) w.asking r u (λ pages. refl))

pub op_done_rise : (n : ℕ) (f : Frame) (serial number : ℕ) (r : Result) (u : Users) → Rises n u (on_op_done f serial number r u).view (spent n (on_op_done f serial number r u))
op_done_rise n f serial number r u = op_done_of_rise n f r (first_that (asks_op_number serial number r) u.waiting) u

copied_rise : (n : ℕ) (f : Frame) (w : WaitingCall) (copied : Option (List ℕ)) (u : Users) → UsersRise n u (takes_copied f w copied u)
copied_rise n f w None u = same_counts n u u _ refl refl
copied_rise n f w (Some bytes) u = answer_rise n f w _ u u refl refl

as_held_of_rise : (n : ℕ) (f : Frame) (o : Option WaitingCall) (u : Users) → UsersRise n u (on_as_held_of f o u)
as_held_of_rise n f None u = same_counts n u u _ refl refl
as_held_of_rise n f (Some w) u = copied_rise n f w w.copied u

pub as_held_rise : (n : ℕ) (f : Frame) (serial number : ℕ) (u : Users) → Rises n u (on_as_held f serial number u).view (spent n (on_as_held f serial number u))
as_held_rise n f serial number u = as_held_of_rise n f (first_that (asks_held_number serial number) u.waiting) u

close_done_of_rise : (n : ℕ) (f : Frame) (serial : ℕ) (a : CloseAnswer) (o : Option WaitingCall) (u : Users) → UsersRise n u (on_close_done_of f serial a o u)
close_done_of_rise n f serial a None u = same_counts n u u _ refl refl
close_done_of_rise n f serial a (Some w) u = answer_rise n f w _ u _ refl refl

pub close_done_rise : (n : ℕ) (f : Frame) (serial : ℕ) (a : CloseAnswer) (u : Users) → Rises n u (on_close_done f serial a u).view (spent n (on_close_done f serial a u))
close_done_rise n f serial a u = close_done_of_rise n f serial a (first_that (using.asks_close_of serial) u.waiting) u

again_rise : (n : ℕ) (f : Frame) (w : WaitingCall) (a : Asking) (u : Users) → UsersRise n u (looks_again f w a u)
again_rise n f w (asking.Look file what take) u = same_counts n u _ _ refl refl
again_rise n f w (asking.Open serial file how) u = same_counts n u u _ refl refl
again_rise n f w (asking.Op serial ss number o seen) u = same_counts n u u _ refl refl
again_rise n f w (asking.Close serial ss) u = same_counts n u u _ refl refl

look_rise : (n : ℕ) (f : Frame) (w : WaitingCall) (a : LookAnswer) (u : Users) → UsersRise n u (takes_look f w a u)
look_rise n f w (looked.Found ino kind) u = answer_rise n f w _ u u refl refl
look_rise n f w (looked.Content bytes) u = answer_rise n f (with_brought w.asking bytes w) _ u u refl refl
look_rise n f w (looked.Stat kind size stamp) u = answer_rise n f w _ u u refl refl
look_rise n f w looked.Moved u = again_rise n f w w.asking u
look_rise n f w (looked.No why) u = answer_rise n f w _ u u refl refl

look_done_of_rise : (n : ℕ) (f : Frame) (a : LookAnswer) (o : Option WaitingCall) (u : Users) → UsersRise n u (on_look_done_of f a o u)
look_done_of_rise n f a None u = same_counts n u u _ refl refl
look_done_of_rise n f a (Some w) u = look_rise n f w a u

pub look_done_rise : (n : ℕ) (f : Frame) (number request take : ℕ) (a : LookAnswer) (u : Users) → Rises n u (on_look_done f number request take a u).view (spent n (on_look_done f number request take a u))
look_done_rise n f number request take a u = look_done_of_rise n f a (first_that (asks_take number request take a) u.waiting) u
