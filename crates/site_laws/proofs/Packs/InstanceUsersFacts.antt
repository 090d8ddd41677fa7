-- What the using site asks: each open has a serial number of its own.
use Rattle.std.proofs.Common.{◌≡◌, ◌≤◌, ℕ, ◌+◌, Bool, true, false, cond, List, [], ◌∷◌, ◌++◌, Option, Some, None, refl, sym, subst, inl, inr, arith}
use Rattle.locus_ids.specs.declared.ids.EpochId.{EpochId}
use Rattle.locus_ids.specs.declared.ids.FileId.{FileId}
use Rattle.locus_ids.specs.declared.ids.Stamp.{Stamp}
use Rattle.locus_ids.specs.declared.refusal.Refusal.{Refusal}
use Rattle.locus_ids.specs.Sizes.{sites_max}
use Rattle.trace_book.specs.declared.call.Call.{Call}
use Rattle.trace_book.specs.declared.call.Call.TheVariants as call
use Rattle.trace_book.specs.declared.descriptor.Beginning.{Beginning}
use Rattle.trace_book.specs.declared.descriptor.Beginning.TheVariants as begins
use Rattle.trace_book.specs.declared.operation.Op.{Op}
use Rattle.trace_book.specs.declared.operation.Op.TheVariants as op
use Rattle.trace_book.specs.declared.operation.Outcome.{Outcome as Result}
use Rattle.trace_book.specs.declared.reply.Reply.{Reply}
use Rattle.trace_book.specs.declared.reply.Reply.TheVariants as reply
use Rattle.call_rules.specs.declared.answer.Answer.{Answer}
use Rattle.call_rules.specs.declared.want.Want.{Want}
use Rattle.call_rules.specs.declared.want.Want.TheVariants as want
use Rattle.wire_messages.specs.declared.body.Body.{Body}
use Rattle.wire_messages.specs.declared.body.Body.TheVariants as body
use Rattle.wire_messages.specs.declared.body.Opening.{Opening}
use Rattle.wire_messages.specs.declared.body.Opening.TheVariants as how
use Rattle.wire_messages.specs.declared.body.CloseAnswer.{CloseAnswer}
use Rattle.wire_messages.specs.declared.body.LookAnswer.{LookAnswer}
use Rattle.wire_messages.specs.declared.body.LookAnswer.TheVariants as looked
use Rattle.wire_messages.specs.declared.body.Granted.{Granted}
use Rattle.wire_messages.specs.declared.body.Granted.TheVariants as granted
use Rattle.role_steps.specs.Own.{Every}
use Rattle.role_steps.specs.Tables.{first_that}
use Rattle.role_steps.specs.Views.{Frame, Users, Told, Outcome, quiet, packet, to_some, to_sync, sync_site}
use Rattle.role_steps.specs.Requests.{waiting_key, with_waiting, without_waiting, operation_body, request_packets, asks, next_request, opening_of, made_for, asks_open, asks_op_of, asks_close_of, seen_by, user_instance, with_user_instance, without_user_instance, users_repeats}
use Rattle.role_steps.specs.Using.{frees, is_hopeless, without_hope, after_reply, holds_again, replies, accept_record, takes_record, with_brought, content_answer, asks_want, next_want, goes_on, on_call, counted_users, counted_call, accepted_call, takes_answer, takes_copied, with_answer, opened_answer, kept_for, mended_file, takes_open, version_read, on_open_done_of, on_open_done, on_op_done_of, on_as_held_of, keeps_brought, on_op_done, on_as_held, on_close_done_of, on_close_done, looks_again, takes_look, on_look_done_of, on_look_done, asks_open_of, asks_op_number, asks_held_number, asks_take, reply_record, users_leave}
use Rattle.role_steps.specs.Using as using
use Rattle.role_steps.specs.declared.users.Asking.{Asking}
use Rattle.role_steps.specs.declared.users.Asking.TheVariants as asking
use Rattle.role_steps.specs.declared.users.WaitingCall.{WaitingCall}
use Rattle.role_steps.specs.declared.users.UserInstance.{UserInstance}
use Rattle.role_steps.proofs.Sending.{every_map}
use Rattle.the_run.specs.Kept.{Among}
use Rattle.the_run.proofs.InsideSync.{every_row, every_without}
use Rattle.site_laws.proofs.Vectors.SyncFacts.{every_flat}
use Rattle.site_laws.specs.Packs.InstanceBook.{Note, Asked, Book, Sound}
use Rattle.site_laws.specs.Packs.InstanceFacts.{BodyFact, PacketFact, ToldFact, AskingFact, WaitingFact, UsersFact, Fine}
use Rattle.site_laws.proofs.Packs.InstanceBooks.{grown_same, grown_cons, sound_cons, once_asked}
use Rattle.role_steps.proofs.Caching.{kept_only}

-- a note of what this boot of the site asked
abbrev pub AskedHere : ℕ → ℕ → Note → Type 0
AskedHere me boot (Asked us b serial file how) = (us ≡ me) × (b ≡ boot)
AskedHere me boot _ = ⊥

abbrev pub UsersFine : Frame → Book → Outcome Users → Type 0
UsersFine f book o = Fine (AskedHere f.me f.boot) (λ (b : Book) (u : Users). UsersFact b f.me f.boot u) f.config book o

-- ---- outcomes that ask no open ----

-- no note is made
pub still : (f : Frame) (book : Book) (o : Outcome Users) → Sound f.config book → UsersFact book f.me f.boot o.view → Every (PacketFact book) o.sent → Every (ToldFact book) o.told → UsersFine f book o
still f book o s h sent told = record { book = book; grown = grown_same (AskedHere f.me f.boot) book; sound = s; view = h; sent = sent; told = told }

-- the same with a record that tells nothing of instances before it
one_more : (f : Frame) (book : Book) (x : Told) (o : Outcome Users) → ((b : Book) → ToldFact b x) → UsersFine f book o → UsersFine f book (record { view = o.view; sent = o.sent; told = x ∷ o.told; written = o.written })
one_more f book x o t h = record { book = h.book; grown = h.grown; sound = h.sound; view = h.view; sent = h.sent; told = (t h.book, h.told) }

-- ---- requests ----

some_body : (book : Book) (f : Frame) (b : Body) (o : Option ℕ) → ((to : ℕ) → BodyFact book (packet f to b) b) → Every (PacketFact book) (to_some f b o)
some_body book f b None h = tt
some_body book f b (Some to) h = (h to, tt)

pub sync_body : (book : Book) (f : Frame) (group : ℕ) (b : Body) → ((to : ℕ) → BodyFact book (packet f to b) b) → Every (PacketFact book) (to_sync f group b)
sync_body book f group b h = some_body book f b (sync_site f.config f.members group) h

-- a request of an operation says nothing of opens, in either form
operation_fact : (book : Book) (f : Frame) (ss serial number : ℕ) (copied : Option (List ℕ)) (o : Op) (seen : List ℕ) → PacketFact book (packet f ss (operation_body copied serial number o seen))
operation_fact book f ss serial number (Some bytes) (op.Read at len) seen = tt
operation_fact book f ss serial number copied o seen = tt

request_fact : (book : Book) (f : Frame) (w : WaitingCall) (a : Asking) → AskingFact book f.me f.boot a → Every (PacketFact book) (request_packets f w a)
request_fact book f w (asking.Look file what take) h = sync_body book f file.group (body.Look w.call w.process w.request take file what) (λ to. tt)
request_fact book f w (asking.Open serial file how) h = sync_body book f file.group (body.Open serial w.call w.process w.request file how) (λ to. h)
request_fact book f w (asking.Op serial ss number o seen) h = (operation_fact book f ss serial number w.copied o seen, tt)
request_fact book f w (asking.Close serial ss) h = (tt, tt)

with_waiting_fact : (book : Book) (me boot : ℕ) (w : WaitingCall) (u : Users) → WaitingFact book me boot w → UsersFact book me boot u → UsersFact book me boot (with_waiting w u)
with_waiting_fact book me boot w u k h = record { waiting = every_row (WaitingFact book me boot) waiting_key w u.waiting k h.waiting; counted = h.counted }

asks_fine : (f : Frame) (book : Book) (w : WaitingCall) (u : Users) → Sound f.config book → AskingFact book f.me f.boot w.asking → UsersFact book f.me f.boot u → UsersFine f book (asks f w u)
asks_fine f book w u s k h = still f book (asks f w u) s (with_waiting_fact book f.me f.boot w u k h) (request_fact book f w w.asking k) tt

-- an open has the next serial number, which none that was asked has
asks_open_fine : (f : Frame) (book : Book) (w : WaitingCall) (file : FileId) (x : Opening) (u : Users) → f.me ≤ sites_max → Sound f.config book → UsersFact book f.me f.boot u → UsersFine f book (asks_open f w file x u)
asks_open_fine f book w file x u small s h = record {
  book = new ∷ book;
  grown = grown_cons (AskedHere f.me f.boot) new book (refl, refl);
  sound = sound_cons f.config new book s small (once_asked f.me f.boot (u.serials + 1) file x book s.once unused);
  view = with_waiting_fact (new ∷ book) f.me f.boot (next_request w (asking.Open (u.serials + 1) file x)) (record u { serials = u.serials + 1 }) (inl refl) (record { waiting = waits.waiting; counted = counted });
  sent = request_fact (new ∷ book) f (next_request w (asking.Open (u.serials + 1) file x)) (asking.Open (u.serials + 1) file x) (inl refl);
  told = tt;
}
  where
    new : Note
    new = Asked f.me f.boot (u.serials + 1) file x

    unused : (g : FileId) (i : Opening) → Among (Asked f.me f.boot (u.serials + 1) g i) book → ⊥
    unused g i k = let le : u.serials + 1 ≤ u.serials = h.counted (u.serials + 1) g i k in absurd (too_many u.serials le)
      where
        too_many : (n : ℕ) → n + 1 ≤ n → ⊥
        too_many n le = omega (arith, le)

    counted : (serial : ℕ) (g : FileId) (i : Opening) → Among (Asked f.me f.boot serial g i) (new ∷ book) → serial ≤ u.serials + 1
    counted serial g i (inl e) = let k : serial ≡ u.serials + 1 = same_serial f.me f.boot serial (u.serials + 1) g file i x e in omega (arith, k)
      where
        same_serial : (me boot a b : ℕ) (g k : FileId) (i j : Opening) → Asked me boot a g i ≡ Asked me boot b k j → a ≡ b
        same_serial me boot a b g k i j e = cc
    counted serial g i (inr k) = let le : serial ≤ u.serials = h.counted serial g i k in omega (arith, le)

    -- the calls that waited before
    waits : UsersFact (new ∷ book) f.me f.boot (record u { serials = u.serials + 1 })
    waits = record { waiting = waiting_later u.waiting h.waiting; counted = counted }
      where
        asking_later : (a : Asking) → AskingFact book f.me f.boot a → AskingFact (new ∷ book) f.me f.boot a
        asking_later (asking.Open serial g i) k = inr k
        asking_later (asking.Look g what take) k = tt
        asking_later (asking.Op serial ss number o seen) k = tt
        asking_later (asking.Close serial ss) k = tt

        waiting_later : (ws : List WaitingCall) → Every (WaitingFact book f.me f.boot) ws → Every (WaitingFact (new ∷ book) f.me f.boot) ws
        waiting_later [] k = tt
        waiting_later (y ∷ ys) k = (asking_later y.asking k.0, waiting_later ys k.1)

asks_op_fine : (f : Frame) (book : Book) (w : WaitingCall) (o : Op) (i : Option UserInstance) (u : Users) → Sound f.config book → UsersFact book f.me f.boot u → UsersFine f book (asks_op_of f w o i u)
asks_op_fine f book w o None u s h = still f book (quiet u) s h tt tt
asks_op_fine f book w o (Some i) u s h = asks_fine f book (next_request w (asking.Op i.serial i.ss (i.ops + 1) o (seen_by u w.answers o))) (with_user_instance (record i { ops = i.ops + 1 }) u) s tt (record { waiting = h.waiting; counted = h.counted })

asks_close_fine : (f : Frame) (book : Book) (w : WaitingCall) (i : Option UserInstance) (u : Users) → Sound f.config book → UsersFact book f.me f.boot u → UsersFine f book (asks_close_of f w i u)
asks_close_fine f book w None u s h = still f book (quiet u) s h tt tt
asks_close_fine f book w (Some i) u s h = asks_fine f book (next_request w (asking.Close i.serial i.ss)) u s tt h

-- ---- replies ----

-- the calls that wait and the count of serial numbers stay
record Alike (u w : Users) : Type 0 where
  waiting : w.waiting ≡ u.waiting
  serials : w.serials ≡ u.serials

alike_fact : (book : Book) (me boot : ℕ) (u w : Users) → Alike u w → UsersFact book me boot u → UsersFact book me boot w
alike_fact book me boot u w a h = record { waiting = subst (λ (xs : List WaitingCall). Every (WaitingFact book me boot) xs) (sym a.waiting) h.waiting; counted = λ serial file how k. subst (λ (n : ℕ). serial ≤ n) (sym a.serials) (h.counted serial file how k) }

cond_alike : (b : Bool) (u w : Users) → Alike u w → Alike u (cond b w u)
cond_alike true u w a = a
cond_alike false u w a = record { waiting = refl; serials = refl }

hope_alike : (c : Call) (why : Refusal) (u : Users) → Alike u (without_hope c why u)
hope_alike (call.Mend file) why u = cond_alike (is_hopeless why) u (record u { hopeless = u.hopeless ++ file ∷ [] }) (record { waiting = refl; serials = refl })
hope_alike _ why u = record { waiting = refl; serials = refl }

again_alike : (f : Frame) (w : WaitingCall) (b : Beginning) (words : Call) (u : Users) → Alike u (holds_again f w b words u)
again_alike f w (begins.Reopens version last) (call.Read fd at len) u = record { waiting = refl; serials = refl }
again_alike f w _ words u = record { waiting = refl; serials = refl }

reply_alike : (f : Frame) (w : WaitingCall) (r : Reply) (u : Users) → Alike u (after_reply f w r u)
reply_alike f w (reply.Opened fd) u = record { waiting = refl; serials = refl }
reply_alike f w (reply.No why) u = hope_alike w.words why u
reply_alike f w (reply.Data bytes) u = again_alike f w w.begins w.words u
reply_alike f w _ u = record { waiting = refl; serials = refl }

replies_fine : (f : Frame) (book : Book) (w : WaitingCall) (r : Reply) (u : Users) → Sound f.config book → UsersFact book f.me f.boot u → UsersFine f book (replies f w r u)
replies_fine f book w r u s h =
    still f book (replies f w r u) s
    (alike_fact book f.me f.boot (without_waiting w u) (after_reply f w r (without_waiting w u)) (reply_alike f w r (without_waiting w u))
    (record { waiting = every_without (WaitingFact book f.me f.boot) waiting_key (waiting_key w) u.waiting h.waiting; counted = h.counted }))
    tt (tt, tt)

-- ---- a script goes on ----

asks_want_fine : (f : Frame) (book : Book) (w : WaitingCall) (x : Want) (u : Users) → f.me ≤ sites_max → Sound f.config book → UsersFact book f.me f.boot u → UsersFine f book (asks_want f w x u)
asks_want_fine f book w (want.Look file what) u small s h = asks_fine f book (next_request w (asking.Look file what 1)) u s tt h
asks_want_fine f book w (want.Open file m) u small s h = asks_open_fine f book w file (opening_of m) u small s h
asks_want_fine f book w (want.OpenToMend file) u small s h = asks_open_fine f book w file how.Mend u small s h
asks_want_fine f book w (want.Make group kind sites) u small s h = asks_open_fine f book w (record { group = group; ino = 0 }) (how.Make (made_for f.config group sites) kind) u small s h
asks_want_fine f book w (want.Do inst o) u small s h = asks_op_fine f book w o (user_instance u inst.serial) u s h
asks_want_fine f book w (want.Close inst) u small s h = asks_close_fine f book w (user_instance u inst.serial) u s h
asks_want_fine f book w (want.Give r) u small s h = replies_fine f book w r u s h
asks_want_fine f book w want.Never u small s h = still f book (quiet u) s h tt tt

goes_on_fine : (f : Frame) (book : Book) (w : WaitingCall) (u : Users) → f.me ≤ sites_max → Sound f.config book → UsersFact book f.me f.boot u → UsersFine f book (goes_on f w u)
goes_on_fine f book w u small s h = asks_want_fine f book w (next_want f w u) u small s h

frees_alike : (process : ℕ) (c : Call) (u : Users) → Alike u (frees process c u)
frees_alike process (call.Close fd) u = record { waiting = refl; serials = refl }
frees_alike process _ u = record { waiting = refl; serials = refl }

pub on_call_fine : (f : Frame) (book : Book) (now : Option EpochId) (process : ℕ) (words : Call) (u : Users) → f.me ≤ sites_max → Sound f.config book → UsersFact book f.me f.boot u → UsersFine f book (on_call f now process words u)
on_call_fine f book now process words u small s h =
    let n : ℕ = u.calls + 1 in
    let w : WaitingCall = accepted_call f now process words u in
    let counted : Users = counted_call f now process words u in
    let k : UsersFact book f.me f.boot counted = alike_fact book f.me f.boot (counted_users f now process words u) counted (frees_alike process words (counted_users f now process words u)) (record { waiting = h.waiting; counted = h.counted }) in
    one_more f book (accept_record f.me f.boot process n words) (goes_on f w counted) (λ b. tt) (goes_on_fine f book w counted small s k)

takes_answer_fine : (f : Frame) (book : Book) (w : WaitingCall) (a : Answer) (u : Users) → f.me ≤ sites_max → Sound f.config book → UsersFact book f.me f.boot u → UsersFine f book (takes_answer f w a u)
takes_answer_fine f book w a u small s h = one_more f book (takes_record f w a) (goes_on f (with_answer w a) u) (λ b. tt) (goes_on_fine f book (with_answer w a) u small s h)

-- ---- answers ----

takes_open_fine : (f : Frame) (book : Book) (kept : FileId → List Stamp) (serial : ℕ) (w : WaitingCall) (a : Granted) (u : Users) → f.me ≤ sites_max → Sound f.config book → UsersFact book f.me f.boot u → UsersFine f book (takes_open f kept serial w a u)
takes_open_fine f book kept serial w (granted.Open ss ino size stamp vector) u small s h =
    takes_answer_fine f book w (opened_answer f serial ino stamp (kept_for kept (mended_file w.words)) w.words w.asking) (with_user_instance (record { serial = serial; ss = ss; vector = vector; ops = 0; reads = version_read size stamp w.asking }) u) small s (record { waiting = h.waiting; counted = h.counted })
takes_open_fine f book kept serial w (granted.No why) u small s h = takes_answer_fine f book w _ u small s h

open_done_fine : (f : Frame) (book : Book) (kept : FileId → List Stamp) (serial : ℕ) (a : Granted) (o : Option WaitingCall) (u : Users) → f.me ≤ sites_max → Sound f.config book → UsersFact book f.me f.boot u → UsersFine f book (on_open_done_of f kept serial a o u)
open_done_fine f book kept serial a None u small s h = still f book (quiet u) s h tt tt
open_done_fine f book kept serial a (Some w) u small s h = takes_open_fine f book kept serial w a u small s h

pub on_open_done_fine : (f : Frame) (book : Book) (kept : FileId → List Stamp) (serial : ℕ) (a : Granted) (u : Users) → f.me ≤ sites_max → Sound f.config book → UsersFact book f.me f.boot u → UsersFine f book (on_open_done f kept serial a u)
on_open_done_fine f book kept serial a u small s h = open_done_fine f book kept serial a (first_that (asks_open_of serial) u.waiting) u small s h

op_done_fine : (f : Frame) (book : Book) (r : Result) (o : Option WaitingCall) (u : Users) → f.me ≤ sites_max → Sound f.config book → UsersFact book f.me f.boot u → UsersFine f book (on_op_done_of f r o u)
op_done_fine f book r None u small s h = still f book (quiet u) s h tt tt
op_done_fine f book r (Some w) u small s h = takes_answer_fine f book w _ (keeps_brought w.asking r u) small s (kept_only (UsersFact book f.me f.boot) w.asking r u (λ pages. record { waiting = h.waiting; counted = h.counted }))

pub on_op_done_fine : (f : Frame) (book : Book) (serial n : ℕ) (r : Result) (u : Users) → f.me ≤ sites_max → Sound f.config book → UsersFact book f.me f.boot u → UsersFine f book (on_op_done f serial n r u)
on_op_done_fine f book serial n r u small s h = op_done_fine f book r (first_that (asks_op_number serial n r) u.waiting) u small s h

copied_fine : (f : Frame) (book : Book) (w : WaitingCall) (copied : Option (List ℕ)) (u : Users) → f.me ≤ sites_max → Sound f.config book → UsersFact book f.me f.boot u → UsersFine f book (takes_copied f w copied u)
copied_fine f book w None u small s h = still f book (quiet u) s h tt tt
copied_fine f book w (Some bytes) u small s h = takes_answer_fine f book w _ u small s h

as_held_fine : (f : Frame) (book : Book) (o : Option WaitingCall) (u : Users) → f.me ≤ sites_max → Sound f.config book → UsersFact book f.me f.boot u → UsersFine f book (on_as_held_of f o u)
as_held_fine f book None u small s h = still f book (quiet u) s h tt tt
as_held_fine f book (Some w) u small s h = copied_fine f book w w.copied u small s h

pub on_as_held_fine : (f : Frame) (book : Book) (serial n : ℕ) (u : Users) → f.me ≤ sites_max → Sound f.config book → UsersFact book f.me f.boot u → UsersFine f book (on_as_held f serial n u)
on_as_held_fine f book serial n u small s h = as_held_fine f book (first_that (asks_held_number serial n) u.waiting) u small s h

close_done_fine : (f : Frame) (book : Book) (serial : ℕ) (a : CloseAnswer) (o : Option WaitingCall) (u : Users) → f.me ≤ sites_max → Sound f.config book → UsersFact book f.me f.boot u → UsersFine f book (on_close_done_of f serial a o u)
close_done_fine f book serial a None u small s h = still f book (quiet u) s h tt tt
close_done_fine f book serial a (Some w) u small s h = takes_answer_fine f book w _ (without_user_instance serial u) small s (record { waiting = h.waiting; counted = h.counted })

pub on_close_done_fine : (f : Frame) (book : Book) (serial : ℕ) (a : CloseAnswer) (u : Users) → f.me ≤ sites_max → Sound f.config book → UsersFact book f.me f.boot u → UsersFine f book (on_close_done f serial a u)
on_close_done_fine f book serial a u small s h = close_done_fine f book serial a (first_that (using.asks_close_of serial) u.waiting) u small s h

looks_again_fine : (f : Frame) (book : Book) (w : WaitingCall) (a : Asking) (u : Users) → Sound f.config book → UsersFact book f.me f.boot u → UsersFine f book (looks_again f w a u)
looks_again_fine f book w (asking.Look file what take) u s h =
    let again : WaitingCall = record w { asking = asking.Look file what (take + 1) } in
    let k : UsersFine f book (asks f again u) = asks_fine f book again u s tt h in
    record { book = k.book; grown = k.grown; sound = k.sound; view = k.view; sent = k.sent; told = (tt, k.told) }
looks_again_fine f book w (asking.Open serial file x) u s h = still f book (quiet u) s h tt tt
looks_again_fine f book w (asking.Op serial ss number o seen) u s h = still f book (quiet u) s h tt tt
looks_again_fine f book w (asking.Close serial ss) u s h = still f book (quiet u) s h tt tt

takes_look_fine : (f : Frame) (book : Book) (w : WaitingCall) (a : LookAnswer) (u : Users) → f.me ≤ sites_max → Sound f.config book → UsersFact book f.me f.boot u → UsersFine f book (takes_look f w a u)
takes_look_fine f book w (looked.Found ino kind) u small s h = takes_answer_fine f book w _ u small s h
takes_look_fine f book w (looked.Content bytes) u small s h = takes_answer_fine f book (with_brought w.asking bytes w) (content_answer w.asking bytes) u small s h
takes_look_fine f book w (looked.Stat kind size stamp) u small s h = takes_answer_fine f book w _ u small s h
takes_look_fine f book w looked.Moved u small s h = looks_again_fine f book w w.asking u s h
takes_look_fine f book w (looked.No why) u small s h = takes_answer_fine f book w _ u small s h

look_done_fine : (f : Frame) (book : Book) (a : LookAnswer) (o : Option WaitingCall) (u : Users) → f.me ≤ sites_max → Sound f.config book → UsersFact book f.me f.boot u → UsersFine f book (on_look_done_of f a o u)
look_done_fine f book a None u small s h = still f book (quiet u) s h tt tt
look_done_fine f book a (Some w) u small s h = takes_look_fine f book w a u small s h

pub on_look_done_fine : (f : Frame) (book : Book) (n request take : ℕ) (a : LookAnswer) (u : Users) → f.me ≤ sites_max → Sound f.config book → UsersFact book f.me f.boot u → UsersFine f book (on_look_done f n request take a u)
on_look_done_fine f book n request take a u small s h = look_done_fine f book a (first_that (asks_take n request take a) u.waiting) u small s h

-- ---- repeats, and the end of an epoch ----

pub users_repeats_fact : (book : Book) (f : Frame) (u : Users) → UsersFact book f.me f.boot u → Every (PacketFact book) (users_repeats f u)
users_repeats_fact book f u h = every_flat (WaitingFact book f.me f.boot) (PacketFact book) (λ (w : WaitingCall). request_packets f w w.asking) u.waiting (λ w k. request_fact book f w w.asking k) h.waiting

pub users_left : (book : Book) (me boot : ℕ) (e : EpochId) (u : Users) → UsersFact book me boot u → UsersFact book me boot (users_leave me boot e u).view
users_left book me boot e u h = record { waiting = tt; counted = h.counted }

pub users_leave_told : (book : Book) (me boot : ℕ) (e : EpochId) (u : Users) → Every (ToldFact book) (users_leave me boot e u).told
users_leave_told book me boot e u = every_map (ToldFact book) (λ (w : WaitingCall). reply_record me boot w _) u.waiting (λ w. tt)
