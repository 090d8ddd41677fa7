-- A using site asks changes of what it has asked to write alone.
use Rattle.std.proofs.Common.{◌≡◌, ℕ, ◌+◌, ◌==◌, Bool, true, false, cond, List, [], ◌∷◌, ◌++◌, Option, Some, None, refl, sym, ◌∙◌, ap, subst, arith}
use Rattle.std.proofs.lemmas.Bool.Decides.{nat_tests}
use Rattle.role_steps.proofs.of_plain_facts.Numbers.{equal}
use Rattle.locus_ids.specs.declared.ids.CallId.{CallId}
use Rattle.locus_ids.specs.declared.ids.EpochId.{EpochId}
use Rattle.locus_ids.specs.declared.ids.FileId.{FileId}
use Rattle.locus_ids.specs.declared.ids.Serial.{Serial}
use Rattle.locus_ids.specs.declared.ids.Stamp.{Stamp}
use Rattle.locus_ids.specs.declared.config.Config.{Config}
use Rattle.locus_ids.specs.declared.refusal.Refusal.{Refusal}
use Rattle.locus_ids.specs.declared.refusal.Refusal.TheVariants as refusal
use Rattle.commit_graph.specs.Grants.{is_read}
use Rattle.trace_book.specs.declared.call.Call.{Call}
use Rattle.trace_book.specs.declared.call.Call.TheVariants as call
use Rattle.trace_book.specs.declared.call.OpenMode.{OpenMode}
use Rattle.trace_book.specs.declared.call.OpenMode.TheVariants as mode
use Rattle.trace_book.specs.declared.descriptor.OneVersion.{OneVersion}
use Rattle.call_rules.specs.Opening.{is_steady}
use Rattle.trace_book.specs.declared.descriptor.Beginning.{Beginning}
use Rattle.trace_book.specs.declared.descriptor.Beginning.TheVariants as begins
use Rattle.trace_book.specs.declared.operation.Op.{Op}
use Rattle.trace_book.specs.declared.operation.Op.TheVariants as op
use Rattle.trace_book.specs.declared.operation.Outcome.{Outcome as Result}
use Rattle.trace_book.specs.declared.operation.Outcome.TheVariants as result
use Rattle.trace_book.specs.declared.operation.What.TheVariants as what
use Rattle.trace_book.specs.declared.reply.Reply.{Reply}
use Rattle.trace_book.specs.declared.reply.Reply.TheVariants as reply
use Rattle.call_rules.specs.Descriptors.{is_in, begins_change, beginning}
use Rattle.call_rules.specs.Words.{is_too_long}
use Rattle.call_rules.specs.declared.answer.Answer.{Answer}
use Rattle.call_rules.specs.declared.want.Want.{Want}
use Rattle.call_rules.specs.declared.want.Want.TheVariants as want
use Rattle.wire_messages.specs.declared.body.Body.{Body}
use Rattle.wire_messages.specs.declared.body.Body.TheVariants as body
use Rattle.wire_messages.specs.declared.body.Opening.{Opening}
use Rattle.wire_messages.specs.declared.body.Opening.TheVariants as how
use Rattle.wire_messages.specs.declared.body.CloseAnswer.{CloseAnswer}
use Rattle.wire_messages.specs.declared.body.CloseAnswer.TheVariants as closing
use Rattle.wire_messages.specs.declared.body.LookAnswer.{LookAnswer}
use Rattle.wire_messages.specs.declared.body.LookAnswer.TheVariants as looked
use Rattle.wire_messages.specs.declared.body.Granted.{Granted}
use Rattle.wire_messages.specs.declared.body.Granted.TheVariants as granted
use Rattle.role_steps.specs.Own.{Every}
use Rattle.role_steps.specs.Tables.{row, first_that}
use Rattle.role_steps.specs.Views.{Frame, Users, Told, Outcome, quiet, tells, and_then, to_some, to_sync, sync_site}
use Rattle.role_steps.specs.Requests.{waiting_key, instance_serial, without_waiting, user_instance, with_user_instance, without_user_instance, descriptor_in, descriptor_key, fd_key, descriptors_of, operation_body, request_packets, asks, asks_open, opening_of, made_for, next_request, asks_op_of, asks_close_of, seen_by, users_repeats}
use Rattle.role_steps.specs.Using.{is_some_site, is_packed, is_hopeless, without_hope, opened_row, last_version, mode_asked, holds_again, asked_answer, after_reply, replies, asks_want, next_want, goes_on, frees, accept_record, on_call, counted_users, counted_call, accepted_call, takes_record, with_answer, takes_answer, takes_copied, takes_open, version_read, on_open_done_of, on_open_done, on_op_done_of, on_as_held_of, keeps_brought, on_op_done, on_as_held, on_close_done_of, on_close_done, looks_again, with_brought, content_answer, takes_look, on_look_done_of, on_look_done, asks_open_of, asks_op_number, asks_held_number, asks_take, users_leave, op_answer, close_answer, opened_answer, kept_for, mended_file}
use Rattle.role_steps.specs.Using as using
use Rattle.role_steps.specs.declared.users.Asking.{Asking}
use Rattle.role_steps.specs.declared.users.Asking.TheVariants as asking
use Rattle.role_steps.specs.declared.users.WaitingCall.{WaitingCall}
use Rattle.role_steps.specs.declared.users.UserInstance.{UserInstance}
use Rattle.role_steps.specs.declared.users.DescriptorRow.{DescriptorRow}
use Rattle.the_run.proofs.InsideSync.{every_row, every_without, Found, row_found}
use Rattle.site_laws.proofs.Vectors.SyncFacts.{every_flat}
use Rattle.site_laws.specs.Locks.Writing.{changes, ToWrite, OpensToWrite, IsWrite, IsWriteOn}
use Rattle.site_laws.specs.Packs.WriterAsking.{Brings, NotToRead, Serials, AskingFact, script_of, CallFact, WaitingFact, DescriptorFact, UsersFact, Noted, PacketFact, BodyFact}
use Rattle.site_laws.proofs.Packs.WriterLeads.{answer_added, ReplyLeads, Leads, leads}
use Rattle.role_steps.proofs.Caching.{kept_only}

-- ---- tables ----

serial_at : (k : ℕ) (xs : List UserInstance) → Found (λ (i : UserInstance). i.serial ≡ k) (row instance_serial k xs)
serial_at k [] = tt
serial_at k (x ∷ xs) = (elim (x.serial == k) as (λ b. (x.serial == k) ≡ b → Found (λ (i : UserInstance). i.serial ≡ k) (elim b [ true ↦ Some x | false ↦ row instance_serial k xs ])) [ true ↦ λ e. equal x.serial k e | false ↦ λ e. serial_at k xs ]) refl

-- the first that passes, of those that have a property
pub first_passes : {A : Type 0} (P : A → Type 0) (test : A → Bool) (xs : List A) → Every P xs → Found (λ (x : A). P x × (test x ≡ true)) (first_that test xs)
first_passes {A} P test [] h = tt
first_passes {A} P test (x ∷ xs) h = (elim (test x) as (λ b. test x ≡ b → Found (λ (y : A). P y × (test y ≡ true)) (elim b [ true ↦ Some x | false ↦ first_that test xs ])) [ true ↦ λ e. (h.0, e) | false ↦ λ e. first_passes P test xs h.1 ]) refl

-- ---- outcomes ----

pub record UsersFine (c : Config) (G : Serials) (o : Outcome Users) : Type 0 where
  pub view : UsersFact c G o.view
  pub sent : Every (PacketFact G) o.sent

-- where the opens to write that it sends are counted
abbrev pub Gives : Config → Serials → Outcome Users → Type 0
Gives c G o = Every (Noted G) o.sent → UsersFine c G o

quiet_fine : (c : Config) (G : Serials) (u : Users) → UsersFact c G u → UsersFine c G (quiet u)
quiet_fine c G u h = record { view = h; sent = tt }

-- ---- packets ----

some_fact : (G : Serials) (f : Frame) (b : Body) (o : Option ℕ) → BodyFact G b → Every (PacketFact G) (to_some f b o)
some_fact G f b None h = tt
some_fact G f b (Some to) h = (h, tt)

sync_fact : (G : Serials) (f : Frame) (group : ℕ) (b : Body) → BodyFact G b → Every (PacketFact G) (to_sync f group b)
sync_fact G f group b h = some_fact G f b (sync_site f.config f.members group) h

-- a read that asks for the number of its bytes alone changes nothing
operation_fact : (G : Serials) (serial number : ℕ) (copied : Option (List ℕ)) (o : Op) (seen : List ℕ) → (changes o ≡ true → G serial) → BodyFact G (operation_body copied serial number o seen)
operation_fact G serial number (Some bytes) (op.Read at len) seen h = tt
operation_fact G serial number copied o seen h = h

request_fact : (G : Serials) (f : Frame) (w : WaitingCall) (x : Want) (a : Asking) → AskingFact G x a → Every (PacketFact G) (request_packets f w a)
request_fact G f w x (asking.Look file what take) h = sync_fact G f file.group _ tt
request_fact G f w x (asking.Open serial file how) h = sync_fact G f file.group _ tt
request_fact G f w x (asking.Op serial ss number o seen) h = (operation_fact G serial number w.copied o seen h, tt)
request_fact G f w x (asking.Close serial ss) h = (tt, tt)

pub users_repeats_fact : (c : Config) (G : Serials) (f : Frame) (u : Users) → UsersFact c G u → Every (PacketFact G) (users_repeats f u)
users_repeats_fact c G f u h = every_flat (WaitingFact c G) (PacketFact G) (λ (w : WaitingCall). request_packets f w w.asking) u.waiting (λ w k. request_fact G f w (script_of c w None w.answers) w.asking (k.asking None)) h.waiting

-- ---- requests ----

asks_fine : (c : Config) (G : Serials) (f : Frame) (w : WaitingCall) (u : Users) → WaitingFact c G w → UsersFact c G u → UsersFine c G (asks f w u)
asks_fine c G f w u k h = record { view = record { waiting = every_row (WaitingFact c G) waiting_key w u.waiting k h.waiting; descriptors = h.descriptors }; sent = request_fact G f w (script_of c w None w.answers) w.asking (k.asking None) }

-- an open that is for reading, or that is counted
asks_open_fine : (G : Serials) (f : Frame) (w : WaitingCall) (file : FileId) (x : Opening) (u : Users) → CallFact f.config G w → is_packed f file.group ≡ true → ((free : Option ℕ) → OpensToWrite (script_of f.config w free w.answers) → NotToRead x) → UsersFact f.config G u → Gives f.config G (asks_open f w file x u)
asks_open_fine G f w file x u k packed asked h noted = asks_fine f.config G f (next_request w (asking.Open (u.serials + 1) file x)) (record u { serials = u.serials + 1 }) (record { call_so = record { begins = k.begins; answers = k.answers }; asking = λ free to. counted (sync_site f.config f.members file.group) packed noted (asked free to) }) (record { waiting = h.waiting; descriptors = h.descriptors })
  where
    counted : (o : Option ℕ) → is_some_site o ≡ true → Every (Noted G) (to_some f (body.Open (u.serials + 1) w.call w.process (w.request + 1) file x) o) → NotToRead x → G (u.serials + 1)
    counted None e n to = absurd (cc)
    counted (Some site) e n to = n.0 to

asks_op_fine : (G : Serials) (f : Frame) (w : WaitingCall) (inst : Serial) (o : Op) (i : Option UserInstance) (u : Users) → CallFact f.config G w → (changes o ≡ true → G inst.serial) → Found (λ (x : UserInstance). x.serial ≡ inst.serial) i → UsersFact f.config G u → UsersFine f.config G (asks_op_of f w o i u)
asks_op_fine G f w inst o None u k asked found h = quiet_fine f.config G u h
asks_op_fine G f w inst o (Some i) u k asked found h =
    asks_fine f.config G f (next_request w (asking.Op i.serial i.ss (i.ops + 1) o (seen_by u w.answers o))) (with_user_instance (record i { ops = i.ops + 1 }) u)
    (record { call_so = record { begins = k.begins; answers = k.answers }; asking = λ free c. subst G (sym found) (asked c) }) (record { waiting = h.waiting; descriptors = h.descriptors })

asks_close_fine : (G : Serials) (f : Frame) (w : WaitingCall) (i : Option UserInstance) (u : Users) → CallFact f.config G w → UsersFact f.config G u → UsersFine f.config G (asks_close_of f w i u)
asks_close_fine G f w None u k h = quiet_fine f.config G u h
asks_close_fine G f w (Some i) u k h = asks_fine f.config G f (next_request w (asking.Close i.serial i.ss)) u (record { call_so = record { begins = k.begins; answers = k.answers }; asking = λ free. tt }) h

-- ---- replies ----

cond_users : (c : Config) (G : Serials) (b : Bool) (u v : Users) → UsersFact c G u → UsersFact c G v → UsersFact c G (cond b u v)
cond_users c G true u v h g = h
cond_users c G false u v h g = g

hope_fact : (c : Config) (G : Serials) (words : Call) (why : Refusal) (u : Users) → UsersFact c G u → UsersFact c G (without_hope words why u)
hope_fact c G (call.Mend file) why u h = cond_users c G (is_hopeless why) (record u { hopeless = u.hopeless ++ file ∷ [] }) u (record { waiting = h.waiting; descriptors = h.descriptors }) h
hope_fact c G _ why u h = h

again_fact : (c : Config) (G : Serials) (f : Frame) (w : WaitingCall) (b : Beginning) (words : Call) (u : Users) → w.words ≡ words → UsersFact c G u → UsersFact c G (holds_again f w b words u)
again_fact c G f w (begins.Reopens version last) (call.Read fd at len) u e h =
    record { waiting = h.waiting; descriptors = every_row (DescriptorFact G) descriptor_key (opened_row f w fd (Some version)) u.descriptors (λ r. absurd (never (subst (λ (x : Call). is_read (mode_asked x) ≡ false) e r))) h.descriptors }
  where
    never : true ≡ false → ⊥
    never x = cc
again_fact c G f w _ words u e h = h

after_reply_fact : (c : Config) (G : Serials) (f : Frame) (w : WaitingCall) (r : Reply) (u : Users) → ReplyLeads G w r → UsersFact c G u → UsersFact c G (after_reply f w r u)
after_reply_fact c G f w (reply.Opened fd) u k h = record { waiting = h.waiting; descriptors = every_row (DescriptorFact G) descriptor_key (opened_row f w fd (cond (is_steady w.words) (last_version None w.answers) None)) u.descriptors k h.descriptors }
after_reply_fact c G f w (reply.No why) u k h = hope_fact c G w.words why u h
after_reply_fact c G f w (reply.Data bytes) u k h = again_fact c G f w w.begins w.words u refl h
after_reply_fact c G f w _ u k h = h

replies_fine : (c : Config) (G : Serials) (f : Frame) (w : WaitingCall) (r : Reply) (u : Users) → ReplyLeads G w r → UsersFact c G u → UsersFine c G (replies f w r u)
replies_fine c G f w r u k h = record { view = after_reply_fact c G f w r (without_waiting w u) k (record { waiting = every_without (WaitingFact c G) waiting_key (waiting_key w) u.waiting h.waiting; descriptors = h.descriptors }); sent = tt }

-- ---- a script goes on ----

opening_to_write : (m : OpenMode) → ToWrite m → NotToRead (opening_of m)
opening_to_write mode.Read h = absurd h
opening_to_write mode.Steady h = absurd h
opening_to_write mode.Write h = tt
opening_to_write (mode.Resolve site) h = tt

want_fine : (G : Serials) (f : Frame) (w : WaitingCall) (x : Want) (u : Users) → Leads G f w x → CallFact f.config G w → UsersFact f.config G u → Gives f.config G (asks_want f w x u)
want_fine G f w (want.Look file what) u l k h noted = asks_fine f.config G f (next_request w (asking.Look file what 1)) u (record { call_so = record { begins = k.begins; answers = k.answers }; asking = λ free. tt }) h
want_fine G f w (want.Open file m) u l k h noted = asks_open_fine G f w file (opening_of m) u k l.0 (λ free to. opening_to_write m (l.1 free to)) h noted
want_fine G f w (want.OpenToMend file) u l k h noted = asks_open_fine G f w file how.Mend u k l (λ free to. tt) h noted
want_fine G f w (want.Make group kind sites) u l k h noted = asks_open_fine G f w (record { group = group; ino = 0 }) (how.Make (made_for f.config group sites) kind) u k l (λ free to. tt) h noted
want_fine G f w (want.Do inst o) u l k h noted = asks_op_fine G f w inst o (user_instance u inst.serial) u k l (serial_at inst.serial u.instances) h
want_fine G f w (want.Close inst) u l k h noted = asks_close_fine G f w (user_instance u inst.serial) u k h
want_fine G f w (want.Give r) u l k h noted = replies_fine f.config G f w r u l h
want_fine G f w want.Never u l k h noted = quiet_fine f.config G u h

goes_fine : (G : Serials) (f : Frame) (w : WaitingCall) (u : Users) → CallFact f.config G w → UsersFact f.config G u → Gives f.config G (goes_on f w u)
goes_fine G f w u k h = want_fine G f w (next_want f w u) u (leads G f w u k) k h

-- ---- calls ----

uses_is : (p i : Serial) (d e : EpochId) → begins.Uses d p ≡ begins.Uses e i → p ≡ i
uses_is p i d e h = cc

denied_uses : (why : Refusal) (e : EpochId) (i : Serial) → begins.Denied why ≡ begins.Uses e i → ⊥
denied_uses why e i h = cc

-- a descriptor on which a call begins that changes the file may write
begins_asked : (G : Serials) (now : Option EpochId) (o : Option DescriptorRow) (e : EpochId) (i : Serial) → Found (DescriptorFact G) o → begins_change now (descriptor_in o) ≡ begins.Uses e i → G i.serial
begins_asked G now None e i h q = absurd (denied_uses _ e i q)
begins_asked G now (Some d) e i h q = by_steady d.descriptor.steady refl
  where
    steady_denied : (kept : OneVersion) → d.descriptor.steady ≡ Some kept → begins_change now (Some d.descriptor) ≡ begins.Denied refusal.ReadOnly
    steady_denied kept s = rw s refl

    plain_begins : d.descriptor.steady ≡ None → begins_change now (Some d.descriptor) ≡ cond (is_in now d.descriptor.epoch) (cond (is_read d.descriptor.mode) (begins.Denied refusal.ReadOnly) (begins.Uses d.descriptor.epoch d.descriptor.inst)) (begins.Denied (refusal.Stale d.descriptor.epoch))
    plain_begins s = rw s refl

    by_epoch : (b r : Bool) → is_read d.descriptor.mode ≡ r → cond b (cond r (begins.Denied refusal.ReadOnly) (begins.Uses d.descriptor.epoch d.descriptor.inst)) (begins.Denied (refusal.Stale d.descriptor.epoch)) ≡ begins.Uses e i → G i.serial
    by_epoch true true r k = absurd (denied_uses _ e i k)
    by_epoch true false r k = subst (λ (x : Serial). G x.serial) (uses_is d.descriptor.inst i d.descriptor.epoch e k) (h r)
    by_epoch false r s k = absurd (denied_uses _ e i k)

    by_steady : (o : Option OneVersion) → d.descriptor.steady ≡ o → G i.serial
    by_steady None s = by_epoch (is_in now d.descriptor.epoch) (is_read d.descriptor.mode) refl (sym (plain_begins s) ∙ q)
    by_steady (Some kept) s = absurd (denied_uses _ e i (sym (steady_denied kept s) ∙ q))

long_uses : (b : Bool) (x : Beginning) (e : EpochId) (i : Serial) → cond b (begins.Denied refusal.TooLong) x ≡ begins.Uses e i → x ≡ begins.Uses e i
long_uses true x e i h = absurd (denied_uses _ e i h)
long_uses false x e i h = h

accepts_asked : (c : Config) (G : Serials) (u : Users) (process : ℕ) (now : Option EpochId) (id : CallId) (words : Call) (i : Serial) → UsersFact c G u → IsWriteOn words (beginning (descriptors_of u process) now id words) i → G i.serial
accepts_asked c G u process now id words i h k = by_words id words k.is_write k.begins_so
  where
    by_words : (id : CallId) (words : Call) → IsWrite words → beginning (descriptors_of u process) now id words ≡ begins.Uses k.epoch i → G i.serial
    by_words id (call.Write fd at bytes) x e = begins_asked G now (row descriptor_key (fd_key process fd) u.descriptors) k.epoch i (row_found (DescriptorFact G) descriptor_key (fd_key process fd) u.descriptors h.descriptors) (long_uses (is_too_long (call.Write fd at bytes)) _ k.epoch i e)
    by_words id (call.Cut fd len) x e = begins_asked G now (row descriptor_key (fd_key process fd) u.descriptors) k.epoch i (row_found (DescriptorFact G) descriptor_key (fd_key process fd) u.descriptors h.descriptors) e
    by_words id _ x e = absurd x

frees_fact : (c : Config) (G : Serials) (process : ℕ) (words : Call) (u : Users) → UsersFact c G u → UsersFact c G (frees process words u)
frees_fact c G process (call.Close fd) u h = record { waiting = h.waiting; descriptors = every_without (DescriptorFact G) descriptor_key (fd_key process fd) u.descriptors h.descriptors }
frees_fact c G process _ u h = h

told_more : (c : Config) (G : Serials) (x : Told) (u : Users) (g : Users → Outcome Users) → Gives c G (g u) → Gives c G (and_then (tells (x ∷ []) u) g)
told_more c G x u g h noted = let k : UsersFine c G (g u) = h noted in record { view = k.view; sent = k.sent }

pub on_call_gives : (G : Serials) (f : Frame) (now : Option EpochId) (process : ℕ) (words : Call) (u : Users) → UsersFact f.config G u → Gives f.config G (on_call f now process words u)
on_call_gives G f now process words u h =
    let n : ℕ = u.calls + 1 in
    let w : WaitingCall = accepted_call f now process words u in
    let counted : Users = counted_call f now process words u in
    told_more f.config G (accept_record f.me f.boot process n words) counted (goes_on f w)
    (goes_fine G f w counted (record { begins = λ i k. accepts_asked f.config G u process now _ words i h k; answers = λ free. tt }) (frees_fact f.config G process words (counted_users f now process words u) (record { waiting = h.waiting; descriptors = h.descriptors })))

-- ---- answers ----

takes_answer_gives : (G : Serials) (f : Frame) (w : WaitingCall) (a : Answer) (u : Users) → CallFact f.config G w → ((free : Option ℕ) (i : Serial) → OpensToWrite (script_of f.config w free w.answers) → Brings i a → G i.serial) → UsersFact f.config G u → Gives f.config G (takes_answer f w a u)
takes_answer_gives G f w a u k asked h =
    told_more f.config G (takes_record f w a) u (goes_on f (with_answer w a))
    (goes_fine G f (with_answer w a) u (record { begins = k.begins; answers = λ free. answer_added G (script_of f.config w free) w.answers a (k.answers free) (asked free) }) h)

-- an answer that opens nothing
abbrev OpensNothing : Answer → Type 0
OpensNothing a = (i : Serial) → Brings i a → ⊥

plain_answer : (G : Serials) (f : Frame) (w : WaitingCall) (a : Answer) (u : Users) → OpensNothing a → CallFact f.config G w → UsersFact f.config G u → Gives f.config G (takes_answer f w a u)
plain_answer G f w a u none k h = takes_answer_gives G f w a u k (λ free i to opened. absurd (none i opened)) h

-- the call asks the open of this serial number
asked_of : (c : Config) (G : Serials) (serial : ℕ) (w : WaitingCall) (free : Option ℕ) → WaitingFact c G w → asks_open_of serial w ≡ true → OpensToWrite (script_of c w free w.answers) → G serial
asked_of c G serial w free h e to = by_asking w.asking e (h.asking free)
  where
    by_asking : (a : Asking) → asks_open_of serial (record w { asking = a }) ≡ true → AskingFact G (script_of c w free w.answers) a → G serial
    by_asking (asking.Open s file how) q k = subst G (equal s serial q) (k to)
    by_asking (asking.Look file what take) q k = absurd (cc)
    by_asking (asking.Op s ss number o seen) q k = absurd (cc)
    by_asking (asking.Close s ss) q k = absurd (cc)

asked_own : (f : Frame) (serial ino : ℕ) (stamp : Stamp) (a : Asking) (i : Serial) → Brings i (asked_answer f serial ino stamp a) → serial ≡ i.serial
asked_own f serial ino stamp (asking.Open s file how.Read) i h = ap (λ (x : Serial). x.serial) h
asked_own f serial ino stamp _ i h = ap (λ (x : Serial). x.serial) h

opens_own : (f : Frame) (serial ino : ℕ) (stamp : Stamp) (kept : List Stamp) (words : Call) (a : Asking) (i : Serial) → Brings i (opened_answer f serial ino stamp kept words a) → serial ≡ i.serial
opens_own f serial ino stamp kept (call.Mend file) a i h = ap (λ (x : Serial). x.serial) h
opens_own f serial ino stamp kept _ a i h = asked_own f serial ino stamp a i h

takes_open_gives : (G : Serials) (f : Frame) (kept : FileId → List Stamp) (serial : ℕ) (w : WaitingCall) (a : Granted) (u : Users) → WaitingFact f.config G w → asks_open_of serial w ≡ true → UsersFact f.config G u → Gives f.config G (takes_open f kept serial w a u)
takes_open_gives G f kept serial w (granted.Open ss ino size stamp vector) u k e h =
    takes_answer_gives G f w (opened_answer f serial ino stamp (kept_for kept (mended_file w.words)) w.words w.asking) (with_user_instance (record { serial = serial; ss = ss; vector = vector; ops = 0; reads = version_read size stamp w.asking }) u) k.call_so
    (λ free i to opened. subst G (opens_own f serial ino stamp (kept_for kept (mended_file w.words)) w.words w.asking i opened) (asked_of f.config G serial w free k e to)) (record { waiting = h.waiting; descriptors = h.descriptors })
takes_open_gives G f kept serial w (granted.No why) u k e h = plain_answer G f w _ u (λ i o. o) k.call_so h

open_done_gives : (G : Serials) (f : Frame) (kept : FileId → List Stamp) (serial : ℕ) (a : Granted) (o : Option WaitingCall) (u : Users) → Found (λ (w : WaitingCall). WaitingFact f.config G w × (asks_open_of serial w ≡ true)) o → UsersFact f.config G u → Gives f.config G (on_open_done_of f kept serial a o u)
open_done_gives G f kept serial a None u k h noted = quiet_fine f.config G u h
open_done_gives G f kept serial a (Some w) u k h noted = takes_open_gives G f kept serial w a u k.0 k.1 h noted

pub on_open_done_gives : (G : Serials) (f : Frame) (kept : FileId → List Stamp) (serial : ℕ) (a : Granted) (u : Users) → UsersFact f.config G u → Gives f.config G (on_open_done f kept serial a u)
on_open_done_gives G f kept serial a u h = open_done_gives G f kept serial a (first_that (asks_open_of serial) u.waiting) u (first_passes (WaitingFact f.config G) (asks_open_of serial) u.waiting h.waiting) h

abbrev FoundCall : Config → Serials → (WaitingCall → Bool) → Option WaitingCall → Type 0
FoundCall c G test o = Found (λ (w : WaitingCall). WaitingFact c G w × (test w ≡ true)) o

op_answer_opens : (r : Result) → OpensNothing (op_answer r)
op_answer_opens (result.No why) i h = h
op_answer_opens _ i h = h

op_done_gives : (G : Serials) (f : Frame) (r : Result) (test : WaitingCall → Bool) (o : Option WaitingCall) (u : Users) → FoundCall f.config G test o → UsersFact f.config G u → Gives f.config G (on_op_done_of f r o u)
op_done_gives G f r test None u k h noted = quiet_fine f.config G u h
op_done_gives G f r test (Some w) u k h noted = plain_answer G f w (op_answer r) (keeps_brought w.asking r u) (op_answer_opens r) k.0.call_so (kept_only (UsersFact f.config G) w.asking r u (λ pages. record { waiting = h.waiting; descriptors = h.descriptors })) noted

pub on_op_done_gives : (G : Serials) (f : Frame) (serial n : ℕ) (r : Result) (u : Users) → UsersFact f.config G u → Gives f.config G (on_op_done f serial n r u)
on_op_done_gives G f serial n r u h = op_done_gives G f r (asks_op_number serial n r) (first_that (asks_op_number serial n r) u.waiting) u (first_passes (WaitingFact f.config G) (asks_op_number serial n r) u.waiting h.waiting) h

copied_gives : (G : Serials) (f : Frame) (w : WaitingCall) (copied : Option (List ℕ)) (u : Users) → CallFact f.config G w → UsersFact f.config G u → Gives f.config G (takes_copied f w copied u)
copied_gives G f w None u k h noted = quiet_fine f.config G u h
copied_gives G f w (Some bytes) u k h noted = plain_answer G f w _ u (op_answer_opens (result.Data bytes)) k h noted

as_held_gives : (G : Serials) (f : Frame) (test : WaitingCall → Bool) (o : Option WaitingCall) (u : Users) → FoundCall f.config G test o → UsersFact f.config G u → Gives f.config G (on_as_held_of f o u)
as_held_gives G f test None u k h noted = quiet_fine f.config G u h
as_held_gives G f test (Some w) u k h noted = copied_gives G f w w.copied u k.0.call_so h noted

pub on_as_held_gives : (G : Serials) (f : Frame) (serial n : ℕ) (u : Users) → UsersFact f.config G u → Gives f.config G (on_as_held f serial n u)
on_as_held_gives G f serial n u h = as_held_gives G f (asks_held_number serial n) (first_that (asks_held_number serial n) u.waiting) u (first_passes (WaitingFact f.config G) (asks_held_number serial n) u.waiting h.waiting) h

close_answer_opens : (a : CloseAnswer) → OpensNothing (close_answer a)
close_answer_opens closing.Nothing i h = h
close_answer_opens (closing.Made stamp) i h = h
close_answer_opens (closing.No why) i h = h

close_done_gives : (G : Serials) (f : Frame) (serial : ℕ) (a : CloseAnswer) (test : WaitingCall → Bool) (o : Option WaitingCall) (u : Users) → FoundCall f.config G test o → UsersFact f.config G u → Gives f.config G (on_close_done_of f serial a o u)
close_done_gives G f serial a test None u k h noted = quiet_fine f.config G u h
close_done_gives G f serial a test (Some w) u k h noted = plain_answer G f w (close_answer a) (without_user_instance serial u) (close_answer_opens a) k.0.call_so (record { waiting = h.waiting; descriptors = h.descriptors }) noted

pub on_close_done_gives : (G : Serials) (f : Frame) (serial : ℕ) (a : CloseAnswer) (u : Users) → UsersFact f.config G u → Gives f.config G (on_close_done f serial a u)
on_close_done_gives G f serial a u h = close_done_gives G f serial a (using.asks_close_of serial) (first_that (using.asks_close_of serial) u.waiting) u (first_passes (WaitingFact f.config G) (using.asks_close_of serial) u.waiting h.waiting) h

looks_again_gives : (G : Serials) (f : Frame) (w : WaitingCall) (a : Asking) (u : Users) → CallFact f.config G w → UsersFact f.config G u → Gives f.config G (looks_again f w a u)
looks_again_gives G f w (asking.Look file what take) u k h noted =
    let again : WaitingCall = record w { asking = asking.Look file what (take + 1) } in
    let g : UsersFine f.config G (asks f again u) = asks_fine f.config G f again u (record { call_so = record { begins = k.begins; answers = k.answers }; asking = λ free. tt }) h in
    record { view = g.view; sent = g.sent }
looks_again_gives G f w (asking.Open serial file how) u k h noted = quiet_fine f.config G u h
looks_again_gives G f w (asking.Op serial ss number it seen) u k h noted = quiet_fine f.config G u h
looks_again_gives G f w (asking.Close serial ss) u k h noted = quiet_fine f.config G u h

brought_fact : (c : Config) (G : Serials) (a : Asking) (bytes : List ℕ) (w : WaitingCall) → CallFact c G w → CallFact c G (with_brought a bytes w)
brought_fact c G (asking.Look file (what.Whole stamp) take) bytes w k = record { begins = k.begins; answers = k.answers }
brought_fact c G _ bytes w k = k

content_opens : (a : Asking) (bytes : List ℕ) → OpensNothing (content_answer a bytes)
content_opens (asking.Look file (what.Whole stamp) take) bytes i h = h
content_opens _ bytes i h = h

takes_look_gives : (G : Serials) (f : Frame) (w : WaitingCall) (a : LookAnswer) (u : Users) → CallFact f.config G w → UsersFact f.config G u → Gives f.config G (takes_look f w a u)
takes_look_gives G f w (looked.Found ino kind) u k h = plain_answer G f w _ u (λ i o. o) k h
takes_look_gives G f w (looked.Content bytes) u k h = plain_answer G f (with_brought w.asking bytes w) (content_answer w.asking bytes) u (content_opens w.asking bytes) (brought_fact f.config G w.asking bytes w k) h
takes_look_gives G f w (looked.Stat kind size stamp) u k h = plain_answer G f w _ u (λ i o. o) k h
takes_look_gives G f w looked.Moved u k h = looks_again_gives G f w w.asking u k h
takes_look_gives G f w (looked.No why) u k h = plain_answer G f w _ u (λ i o. o) k h

look_done_gives : (G : Serials) (f : Frame) (a : LookAnswer) (test : WaitingCall → Bool) (o : Option WaitingCall) (u : Users) → FoundCall f.config G test o → UsersFact f.config G u → Gives f.config G (on_look_done_of f a o u)
look_done_gives G f a test None u k h noted = quiet_fine f.config G u h
look_done_gives G f a test (Some w) u k h noted = takes_look_gives G f w a u k.0.call_so h noted

pub on_look_done_gives : (G : Serials) (f : Frame) (n request take : ℕ) (a : LookAnswer) (u : Users) → UsersFact f.config G u → Gives f.config G (on_look_done f n request take a u)
on_look_done_gives G f n request take a u h = look_done_gives G f a (asks_take n request take a) (first_that (asks_take n request take a) u.waiting) u (first_passes (WaitingFact f.config G) (asks_take n request take a) u.waiting h.waiting) h

-- the epoch is left: nothing waits, and the descriptors stay
pub users_left : (c : Config) (G : Serials) (me boot : ℕ) (e : EpochId) (u : Users) → UsersFact c G u → UsersFact c G (users_leave me boot e u).view
users_left c G me boot e u h = record { waiting = tt; descriptors = h.descriptors }
