-- What a using site asks is of the format, where its scripts want what is of the format.
use Rattle.std.proofs.Common.{◌≡◌, ◌≤◌, ◌<◌, ◌^◌, ℕ, ◌+◌, ◌==◌, Bool, true, false, cond, List, [], ◌∷◌, ◌++◌, Option, None, Some, is_some, refl, sym, subst, arith}
use Rattle.std.proofs.lemmas.Bool.Decides.{nat_tests}
use Rattle.locus_ids.specs.declared.config.Config.{Config}
use Rattle.locus_ids.specs.declared.ids.EpochId.{EpochId}
use Rattle.locus_ids.specs.declared.ids.FileId.{FileId}
use Rattle.locus_ids.specs.declared.ids.Stamp.{Stamp}
use Rattle.trace_book.specs.declared.call.Call.{Call}
use Rattle.trace_book.specs.declared.call.Call.TheVariants as call
use Rattle.trace_book.specs.declared.descriptor.Beginning.{Beginning}
use Rattle.trace_book.specs.declared.descriptor.Beginning.TheVariants as begins
use Rattle.trace_book.specs.declared.descriptor.Descriptor.{Descriptor}
use Rattle.trace_book.specs.declared.descriptor.OneVersion.{OneVersion}
use Rattle.call_rules.specs.Opening.{is_steady}
use Rattle.trace_book.specs.declared.operation.Op.{Op}
use Rattle.trace_book.specs.declared.operation.Op.TheVariants as op
use Rattle.trace_book.specs.declared.operation.Outcome.{Outcome as Result}
use Rattle.trace_book.specs.declared.operation.Outcome.TheVariants as result
use Rattle.trace_book.specs.declared.operation.What.TheVariants as what
use Rattle.trace_book.specs.declared.reply.Reply.{Reply}
use Rattle.trace_book.specs.declared.reply.Reply.TheVariants as reply
use Rattle.call_rules.specs.Descriptors.{beginning, lowest_free}
use Rattle.call_rules.specs.declared.answer.Answer.{Answer}
use Rattle.call_rules.specs.declared.answer.Answer.TheVariants as answer
use Rattle.call_rules.specs.declared.want.Want.{Want}
use Rattle.call_rules.specs.declared.want.Want.TheVariants as want
use Rattle.wire_fields.specs.Parts.{files, files_or_new, inodes, kind_number, processes, some_set, stamps, vectors}
use Rattle.wire_fields.specs.declared.asked.Asked.TheVariants as asked
use Rattle.wire_fields.specs.declared.asked.Gave.TheVariants as gave
use Rattle.wire_fields.specs.Operations.{ops, outcomes}
use Rattle.wire_messages.specs.Answers.{is_new, openings, look_answers}
use Rattle.wire_messages.specs.declared.body.Body.TheVariants as body
use Rattle.wire_messages.specs.declared.body.CloseAnswer.{CloseAnswer}
use Rattle.wire_messages.specs.declared.body.CloseAnswer.TheVariants as closing
use Rattle.wire_messages.specs.declared.body.Granted.{Granted}
use Rattle.wire_messages.specs.declared.body.Granted.TheVariants as granted
use Rattle.wire_messages.specs.declared.body.LookAnswer.{LookAnswer}
use Rattle.wire_messages.specs.declared.body.LookAnswer.TheVariants as looked
use Rattle.wire_messages.specs.declared.body.Opening.TheVariants as how
use Rattle.role_steps.specs.Own.{Every}
use Rattle.role_steps.specs.Requests.{descriptor_in, descriptor_key, fd_key, asks_open, asks_make, descriptors_of, asks, asks_close_of, asks_op_of, instance_serial, made_for, next_request, opened_serial, operation_body, opening_of, request_packets, seen_by, user_instance, users_repeats, vector_in, vector_opened, waiting_key, with_user_instance, without_user_instance, without_waiting}
use Rattle.role_steps.specs.Tables.{first_that, row}
use Rattle.role_steps.specs.Using.{asked_answer, holds_again, last_version, opened_row, is_some_site, asks_close_of as asks_close_serial, asks_open_of, asks_op_number, asks_take, close_answer, is_hopeless, is_packed, after_reply, asks_want, content_answer, frees, goes_on, kept_for, looks_again, mended_file, next_want, on_call, counted_users, counted_call, accepted_call, on_close_done, on_close_done_of, on_look_done, on_look_done_of, on_op_done, on_op_done_of, on_open_done, on_open_done_of, op_answer, opened_answer, replies, takes_answer, takes_look, takes_open, version_read, with_answer, with_brought, without_hope, own_call, asks_held_number, keeps_brought, keeps_part, on_as_held, on_as_held_of, part_of_instance, takes_copied}
use Rattle.role_steps.specs.of_page_cache.declared.part.Part.{Part}
use Rattle.role_steps.specs.Views.{packet, sync_site, Frame, Outcome, Users}
use Rattle.role_steps.specs.declared.users.Asking.{Asking}
use Rattle.role_steps.specs.declared.users.Asking.TheVariants as asking
use Rattle.role_steps.specs.declared.users.DescriptorRow.{DescriptorRow}
use Rattle.role_steps.specs.declared.users.UserInstance.{UserInstance}
use Rattle.role_steps.specs.declared.users.WaitingCall.{WaitingCall}
use Rattle.wire_fields.proofs.Members.{in_range}
use Rattle.field_codec.specs.Codec.{u8_in}
use Rattle.locus_ids.specs.declared.ids.Kind.{Kind}
use Rattle.locus_ids.specs.declared.ids.Kind.TheVariants.{File, Dir}
use Rattle.locus_ids.specs.declared.sites.Sites.{Sites}
use Rattle.locus_ids.specs.Sizes.{inodes_max}
use Rattle.wire_messages.specs.declared.body.Opening.{Opening}
use Rattle.role_steps.proofs.Sending.{every_append}
use Rattle.the_run.proofs.InsideSync.{Found, every_row, every_without, first_found, row_found}
use Rattle.packet_laws.specs.Values.Bodies.{FitsBut, IsListed, NamesListed}
use Rattle.packet_laws.specs.Values.Values.{CallFits, DescriptorFits, KeptFits, PackFits, PacksFit, ScriptsFit, AnswerFits, AskingFits, HasOpen, OpFits, UsersFit, WaitingFits, WantFits}
use Rattle.packet_laws.proofs.Values.Store.{read_file}
use Rattle.packet_laws.proofs.Values.Fields.{AskedFits, every_flat, ino_range, nothing_fits, one_asks, sync_asks}

-- what an outcome of the using site sends and leaves is of the format
abbrev pub UsersDone : Config → List ℕ → Outcome Users → Type 0
UsersDone c boots o = Every (AskedFits boots) o.sent × UsersFit c boots o.view

-- the groups that calls of the frame may name
packed_fit : (f : Frame) → PacksFit f.config → (group : ℕ) → is_packed f group ≡ true → PackFits f.config group
packed_fit f packs group e = over (sync_site f.config f.members group) refl e
  where
    over : (o : Option ℕ) → sync_site f.config f.members group ≡ o → is_some_site o ≡ true → PackFits f.config group
    over None q k = absurd (cc)
    over (Some s) q k = packs f.members group (subst (λ (x : Option ℕ). is_some x ≡ true) (sym q) refl)

-- ---- requests ----

operation_fits : (f : Frame) (ss : ℕ) (copied : Option (List ℕ)) (serial number : ℕ) (o : Op) (seen : List ℕ) → IsListed f.members.boot ss → 1 ≤ serial → ops.Fits (asked.Op o seen) → AskedFits f.members.boot (packet f ss (operation_body copied serial number o seen))
operation_fits f ss (Some bytes) serial number (op.Read at len) seen listed low h = one_asks f ss (body.ReadHeld serial number at len) listed (low, h.0) (λ boots. tt)
operation_fits f ss copied serial number o seen listed low h = one_asks f ss (body.Op serial number o seen) listed (low, h) (λ boots. tt)

request_fits : (f : Frame) (w : WaitingCall) (a : Asking) → processes.Fits w.process → AskingFits f.members.boot a → Every (AskedFits f.members.boot) (request_packets f w a)
request_fits f w (asking.Look file what take) p h = sync_asks f file.group (body.Look w.call w.process w.request take file what) (p, h.0, h.1) (λ boots. tt)
request_fits f w (asking.Open serial file it) p h = sync_asks f file.group (body.Open serial w.call w.process w.request file it) (h.0, p, h.1, h.2) (λ boots. tt)
request_fits f w (asking.Op serial ss number o seen) p h = (operation_fits f ss w.copied serial number o seen h.1 h.0 h.2, tt)
request_fits f w (asking.Close serial ss) p h = (one_asks f ss (body.Close serial) h.1 h.0 (λ boots. tt), tt)

pub users_repeats_fit : (f : Frame) (u : Users) → UsersFit f.config f.members.boot u → Every (AskedFits f.members.boot) (users_repeats f u)
users_repeats_fit f u h = every_flat (WaitingFits f.config f.members.boot) (AskedFits f.members.boot) (λ (w : WaitingCall). request_packets f w w.asking) u.waiting (λ w k. request_fits f w w.asking k.process k.asking) h.waiting

-- the descriptors of a process keep versions of files
abbrev pub EntryFits : Option Descriptor → Type 0
EntryFits None = Unit {0}
EntryFits (Some d) = KeptFits d.steady

in_row : (o : Option DescriptorRow) → Found DescriptorFits o → EntryFits (descriptor_in o)
in_row None h = tt
in_row (Some d) h = h

pub entries_fit : (c : Config) (boots : List ℕ) (u : Users) (process fd : ℕ) → UsersFit c boots u → EntryFits (descriptors_of u process fd)
entries_fit c boots u process fd h = in_row (row descriptor_key (fd_key process fd) u.descriptors) (row_found DescriptorFits descriptor_key (fd_key process fd) u.descriptors h.descriptors)

-- the call as far as it doesn't say what it asks now
pub record CallerFits (c : Config) (w : WaitingCall) : Type 0 where
  pub process : processes.Fits w.process
  pub words : CallFits c w.words w.begins
  pub answers : Every AnswerFits w.answers

asks_fit : (f : Frame) (w : WaitingCall) (u : Users) → WaitingFits f.config f.members.boot w → UsersFit f.config f.members.boot u → UsersDone f.config f.members.boot (asks f w u)
asks_fit f w u k h = (request_fits f w w.asking k.process k.asking, record { waiting = every_row (WaitingFits f.config f.members.boot) waiting_key w u.waiting k h.waiting; instances = h.instances; descriptors = h.descriptors })

next_fits : (f : Frame) (w : WaitingCall) (a : Asking) → CallerFits f.config w → AskingFits f.members.boot a → WaitingFits f.config f.members.boot (next_request w a)
next_fits f w a k h = record { process = k.process; words = k.words; answers = k.answers; asking = h }

-- ---- wants ----

not_new : (file : FileId) → files.Fits file → is_new file ≡ false
not_new file h = none file.ino (ino_range file.ino h.1).0
  where
    none : (n : ℕ) → 1 ≤ n → (n == 0) ≡ false
    none n low = grind (arith, nat_tests)

old_or_new : (file : FileId) → files.Fits file → files_or_new.Fits file
old_or_new file h = (h.0, (in_range 0 inodes_max file.ino (omega arith) (ino_range file.ino h.1).1, h.1.1))

mend_opens : (openings false).Fits how.Mend
mend_opens = ((in_range 1 4 4 (omega arith) (omega arith), omega arith), ((refl, omega arith), ((refl, omega arith), (refl, omega arith))))

open_fits : (f : Frame) (w : WaitingCall) (file : FileId) (it : Opening) (u : Users) → CallerFits f.config w → files.Fits file → (openings false).Fits it → UsersFit f.config f.members.boot u → UsersDone f.config f.members.boot (asks_open f w file it u)
open_fits f w file it u k at it_fits h = asks_fit f (next_request w (asking.Open (u.serials + 1) file it)) (record u { serials = u.serials + 1 })
    (next_fits f w (asking.Open (u.serials + 1) file it) k (omega arith, old_or_new file at, subst (λ (b : Bool). (openings b).Fits it) (sym (not_new file at)) it_fits)) (record { waiting = h.waiting; instances = h.instances; descriptors = h.descriptors })

make_kind : (k : Kind) → (u8_in 1 2).Fits (kind_number k)
make_kind File = (refl, omega arith)
make_kind Dir = (refl, omega arith)

make_fits : (f : Frame) (w : WaitingCall) (group : ℕ) (k : Kind) (set : Option Sites) (u : Users) → CallerFits f.config w → (group < 2 ^ 8) × some_set.Fits (made_for f.config group set) → UsersFit f.config f.members.boot u → UsersDone f.config f.members.boot (asks_make f w group k set u)
make_fits f w group k set u caller at h = asks_fit f (next_request w made) (record u { serials = u.serials + 1 })
    (next_fits f w made caller (omega arith, (at.0, (refl, omega arith)), ((refl, omega arith), ((refl, omega arith), (at.1, make_kind k))))) (record { waiting = h.waiting; instances = h.instances; descriptors = h.descriptors })
  where
    made : Asking
    made = asking.Open (u.serials + 1) (record { group = group; ino = 0 }) (how.Make (made_for f.config group set) k)

found_instance : (f : Frame) (u : Users) (serial : ℕ) → UsersFit f.config f.members.boot u → Found (HasOpen f.members.boot) (user_instance u serial)
found_instance f u serial h = row_found (HasOpen f.members.boot) instance_serial serial u.instances h.instances

vector_in_fits : (boots : List ℕ) (o : Option UserInstance) → Found (HasOpen boots) o → vectors.Fits (vector_in o)
vector_in_fits boots None h = nothing_fits
vector_in_fits boots (Some i) h = h.vector

vector_opened_fits : (f : Frame) (u : Users) (o : Option ℕ) → UsersFit f.config f.members.boot u → vectors.Fits (vector_opened u o)
vector_opened_fits f u None h = nothing_fits
vector_opened_fits f u (Some serial) h = vector_in_fits f.members.boot (user_instance u serial) (found_instance f u serial h)

seen_fits : (f : Frame) (u : Users) (answers : List Answer) (o : Op) → OpFits o → UsersFit f.config f.members.boot u → ops.Fits (asked.Op o (seen_by u answers o))
seen_fits f u answers (op.Remove name ino) k h = k (vector_opened u (opened_serial ino answers)) (vector_opened_fits f u (opened_serial ino answers) h)
seen_fits f u answers (op.Probe name) k h = k
seen_fits f u answers (op.Find component) k h = k
seen_fits f u answers (op.Insert name ino kind) k h = k
seen_fits f u answers (op.Rename component name) k h = k
seen_fits f u answers op.Empty k h = k
seen_fits f u answers (op.Read at len) k h = k
seen_fits f u answers (op.Write at bytes) k h = k
seen_fits f u answers (op.Cut len) k h = k
seen_fits f u answers op.Commit k h = k
seen_fits f u answers op.Abort k h = k
seen_fits f u answers op.Mend k h = k

with_instance_fits : (c : Config) (boots : List ℕ) (i : UserInstance) (u : Users) → HasOpen boots i → UsersFit c boots u → UsersFit c boots (with_user_instance i u)
with_instance_fits c boots i u k h = record { waiting = h.waiting; instances = every_row (HasOpen boots) instance_serial i u.instances k h.instances; descriptors = h.descriptors }

op_of_fits : (f : Frame) (w : WaitingCall) (o : Op) (i : Option UserInstance) (u : Users) → CallerFits f.config w → OpFits o → Found (HasOpen f.members.boot) i → UsersFit f.config f.members.boot u → UsersDone f.config f.members.boot (asks_op_of f w o i u)
op_of_fits f w o None u caller k found h = (tt, h)
op_of_fits f w o (Some i) u caller k found h = asks_fit f (next_request w (asking.Op i.serial i.ss (i.ops + 1) o (seen_by u w.answers o))) (with_user_instance (record i { ops = i.ops + 1 }) u)
    (next_fits f w (asking.Op i.serial i.ss (i.ops + 1) o (seen_by u w.answers o)) caller (found.serial, found.ss, seen_fits f u w.answers o k h))
    (with_instance_fits f.config f.members.boot (record i { ops = i.ops + 1 }) u (record { serial = found.serial; ss = found.ss; vector = found.vector }) h)

close_of_fits : (f : Frame) (w : WaitingCall) (i : Option UserInstance) (u : Users) → CallerFits f.config w → Found (HasOpen f.members.boot) i → UsersFit f.config f.members.boot u → UsersDone f.config f.members.boot (asks_close_of f w i u)
close_of_fits f w None u caller found h = (tt, h)
close_of_fits f w (Some i) u caller found h = asks_fit f (next_request w (asking.Close i.serial i.ss)) u (next_fits f w (asking.Close i.serial i.ss) caller (found.serial, found.ss)) h

-- a reply
last_fits : (o : Option OneVersion) (answers : List Answer) → KeptFits o → Every AnswerFits answers → KeptFits (last_version o answers)
last_fits o [] k h = k
last_fits o (answer.Reading inst version ∷ rest) k h = last_fits (Some version) rest h.0 h.1
last_fits o (_ ∷ rest) k h = last_fits o rest k h.1

again_fits : (c : Config) (boots : List ℕ) (f : Frame) (w : WaitingCall) (b : Beginning) (words : Call) (u : Users) → CallFits c words b → UsersFit c boots u → UsersFit c boots (holds_again f w b words u)
again_fits c boots f w (begins.Reopens version last) (call.Read fd at len) u k h = record { waiting = h.waiting; instances = h.instances; descriptors = every_row DescriptorFits descriptor_key (opened_row f w fd (Some version)) u.descriptors k.1 h.descriptors }
again_fits c boots f w _ words u k h = h

with_reply_fits : (c : Config) (boots : List ℕ) (f : Frame) (w : WaitingCall) (r : Reply) (u : Users) → CallerFits c w → UsersFit c boots u → UsersFit c boots (after_reply f w r u)
with_reply_fits c boots f w (reply.Opened fd) u k h = record { waiting = h.waiting; instances = h.instances; descriptors = every_row DescriptorFits descriptor_key (opened_row f w fd (cond (is_steady w.words) (last_version None w.answers) None)) u.descriptors (steady (is_steady w.words)) h.descriptors }
  where
    steady : (b : Bool) → KeptFits (cond b (last_version None w.answers) None)
    steady true = last_fits None w.answers tt k.answers
    steady false = tt
with_reply_fits c boots f w (reply.No why) u k h = over w.words
  where
    by_hope : (file : FileId) (b : Bool) → UsersFit c boots (cond b (record u { hopeless = u.hopeless ++ file ∷ [] }) u)
    by_hope file true = record { waiting = h.waiting; instances = h.instances; descriptors = h.descriptors }
    by_hope file false = h

    over : (words : Call) → UsersFit c boots (without_hope words why u)
    over (call.Mend file) = by_hope file (is_hopeless why)
    over _ = h
with_reply_fits c boots f w (reply.Data bytes) u k h = again_fits c boots f w w.begins w.words u k.words h
with_reply_fits c boots f w _ u k h = h

replies_fit : (f : Frame) (w : WaitingCall) (r : Reply) (u : Users) → CallerFits f.config w → UsersFit f.config f.members.boot u → UsersDone f.config f.members.boot (replies f w r u)
replies_fit f w r u k h = (tt, with_reply_fits f.config f.members.boot f w r (without_waiting w u) k (record { waiting = every_without (WaitingFits f.config f.members.boot) waiting_key (waiting_key w) u.waiting h.waiting; instances = h.instances; descriptors = h.descriptors }))

asks_want_fits : (f : Frame) (w : WaitingCall) (x : Want) (u : Users) → CallerFits f.config w → WantFits f.config x → UsersFit f.config f.members.boot u → UsersDone f.config f.members.boot (asks_want f w x u)
asks_want_fits f w (want.Look file what) u caller k h = asks_fit f (next_request w (asking.Look file what 1)) u (next_fits f w (asking.Look file what 1) caller k) h
asks_want_fits f w (want.Open file m) u caller k h = open_fits f w file (opening_of m) u caller k.0 k.1 h
asks_want_fits f w (want.OpenToMend file) u caller k h = open_fits f w file how.Mend u caller k mend_opens h
asks_want_fits f w (want.Make group kind sites) u caller k h = make_fits f w group kind sites u caller k h
asks_want_fits f w (want.Do inst o) u caller k h = op_of_fits f w o (user_instance u inst.serial) u caller k (found_instance f u inst.serial h) h
asks_want_fits f w (want.Close inst) u caller k h = close_of_fits f w (user_instance u inst.serial) u caller (found_instance f u inst.serial h) h
asks_want_fits f w (want.Give r) u caller k h = replies_fit f w r u caller h
asks_want_fits f w want.Never u caller k h = (tt, h)

-- ---- pages that are kept ----

part_kept : (c : Config) (boots : List ℕ) (bytes : List ℕ) (o : Option Part) (u : Users) → UsersFit c boots u → UsersFit c boots (keeps_part bytes o u)
part_kept c boots bytes None u h = h
part_kept c boots bytes (Some p) u h = record { waiting = h.waiting; instances = h.instances; descriptors = h.descriptors }

brought_kept : (c : Config) (boots : List ℕ) (a : Asking) (r : Result) (u : Users) → UsersFit c boots u → UsersFit c boots (keeps_brought a r u)
brought_kept c boots (asking.Op s ss number (op.Read at len) seen) (result.Data bytes) u h = part_kept c boots bytes (part_of_instance at len (user_instance u s)) u h
brought_kept c boots a r u h = h

module _ (f : Frame) (scripts : ScriptsFit f.config) (packs : PacksFit f.config) where
  goes_on_fits : (w : WaitingCall) (u : Users) → CallerFits f.config w → UsersFit f.config f.members.boot u → UsersDone f.config f.members.boot (goes_on f w u)
  goes_on_fits w u caller h = asks_want_fits f w (next_want f w u) u caller (scripts (is_packed f) (lowest_free (descriptors_of u w.process)) w.words w.begins w.answers (packed_fit f packs) caller.words caller.answers) h

  -- ---- calls ----

  frees_fit : (process : ℕ) (words : Call) (u : Users) → UsersFit f.config f.members.boot u → UsersFit f.config f.members.boot (frees process words u)
  frees_fit process (call.Close fd) u h = record { waiting = h.waiting; instances = h.instances; descriptors = every_without DescriptorFits descriptor_key (fd_key process fd) u.descriptors h.descriptors }
  frees_fit process _ u h = h

  pub on_call_fits : (now : Option EpochId) (process : ℕ) (words : Call) (u : Users) → processes.Fits process → CallFits f.config words (beginning (descriptors_of u process) now (own_call f.me f.boot (u.calls + 1)) words) → UsersFit f.config f.members.boot u → UsersDone f.config f.members.boot (on_call f now process words u)
  on_call_fits now process words u p k h =
      goes_on_fits (accepted_call f now process words u) (counted_call f now process words u) (record { process = p; words = k; answers = tt })
      (frees_fit process words (counted_users f now process words u) (record { waiting = h.waiting; instances = h.instances; descriptors = h.descriptors }))

  -- ---- answers ----

  answered : (w : WaitingCall) (a : Answer) (u : Users) → CallerFits f.config w → AnswerFits a → UsersFit f.config f.members.boot u → UsersDone f.config f.members.boot (takes_answer f w a u)
  answered w a u caller k h = goes_on_fits (with_answer w a) u (record { process = caller.process; words = caller.words; answers = every_append AnswerFits w.answers (a ∷ []) caller.answers (k, tt) }) h

  caller_of : (w : WaitingCall) → WaitingFits f.config f.members.boot w → CallerFits f.config w
  caller_of w k = record { process = k.process; words = k.words; answers = k.answers }

  asked_fits : (serial ino : ℕ) (stamp : Stamp) (a : Asking) → AskingFits f.members.boot a → inodes.Fits ino → AnswerFits (asked_answer f serial ino stamp a)
  asked_fits serial ino stamp (asking.Open s file how.Read) k i = read_file file k.1 k.2
  asked_fits serial ino stamp _ k i = i

  opened_fits : (serial ino : ℕ) (stamp : Stamp) (kept : List Stamp) (words : Call) (a : Asking) → AskingFits f.members.boot a → inodes.Fits ino → Every stamps.Fits kept → AnswerFits (opened_answer f serial ino stamp kept words a)
  opened_fits serial ino stamp kept (call.Mend file) a asked k ss = ss
  opened_fits serial ino stamp kept _ a asked k ss = asked_fits serial ino stamp a asked k

  kept_for_fits : (kept : FileId → List Stamp) (o : Option FileId) → ((file : FileId) → Every stamps.Fits (kept file)) → Every stamps.Fits (kept_for kept o)
  kept_for_fits kept None h = tt
  kept_for_fits kept (Some file) h = h file

  takes_open_fits : (kept : FileId → List Stamp) (serial : ℕ) (w : WaitingCall) (a : Granted) (u : Users) → ((file : FileId) → Every stamps.Fits (kept file)) → FitsBut (body.OpenDone serial a) → NamesListed f.members.boot (body.OpenDone serial a) → WaitingFits f.config f.members.boot w → UsersFit f.config f.members.boot u → UsersDone f.config f.members.boot (takes_open f kept serial w a u)
  takes_open_fits kept serial w (granted.Open ss ino size stamp vector) u ks k listed waits h =
      answered w (opened_answer f serial ino stamp (kept_for kept (mended_file w.words)) w.words w.asking) (with_user_instance (record { serial = serial; ss = ss; vector = vector; ops = 0; reads = version_read size stamp w.asking }) u) (caller_of w waits)
      (opened_fits serial ino stamp (kept_for kept (mended_file w.words)) w.words w.asking waits.asking k.1.1.0 (kept_for_fits kept (mended_file w.words) ks))
      (with_instance_fits f.config f.members.boot (record { serial = serial; ss = ss; vector = vector; ops = 0; reads = version_read size stamp w.asking }) u (record { serial = k.0; ss = listed; vector = k.1.1.1.1.1 }) h)
  takes_open_fits kept serial w (granted.No why) u ks k listed waits h = answered w (answer.Refused why) u (caller_of w waits) tt h

  on_open_done_of_fits : (kept : FileId → List Stamp) (serial : ℕ) (a : Granted) (o : Option WaitingCall) (u : Users) → ((file : FileId) → Every stamps.Fits (kept file)) → FitsBut (body.OpenDone serial a) → NamesListed f.members.boot (body.OpenDone serial a) → Found (WaitingFits f.config f.members.boot) o → UsersFit f.config f.members.boot u → UsersDone f.config f.members.boot (on_open_done_of f kept serial a o u)
  on_open_done_of_fits kept serial a None u ks k listed found h = (tt, h)
  on_open_done_of_fits kept serial a (Some w) u ks k listed found h = takes_open_fits kept serial w a u ks k listed found h

  pub on_open_done_fits : (kept : FileId → List Stamp) (serial : ℕ) (a : Granted) (u : Users) → ((file : FileId) → Every stamps.Fits (kept file)) → FitsBut (body.OpenDone serial a) → NamesListed f.members.boot (body.OpenDone serial a) → UsersFit f.config f.members.boot u → UsersDone f.config f.members.boot (on_open_done f kept serial a u)
  on_open_done_fits kept serial a u ks k listed h = on_open_done_of_fits kept serial a (first_that (asks_open_of serial) u.waiting) u ks k listed (first_found (WaitingFits f.config f.members.boot) (asks_open_of serial) u.waiting h.waiting) h

  op_answer_fits : (r : Result) → outcomes.Fits (gave.Outcome r) → AnswerFits (op_answer r)
  op_answer_fits (result.No why) k = tt
  op_answer_fits result.Done k = tt
  op_answer_fits (result.Data bytes) k = tt
  op_answer_fits (result.Found ino kind) k = k.0
  op_answer_fits (result.Committed stamp) k = tt

  on_op_done_of_fits : (r : Result) (o : Option WaitingCall) (u : Users) → outcomes.Fits (gave.Outcome r) → Found (WaitingFits f.config f.members.boot) o → UsersFit f.config f.members.boot u → UsersDone f.config f.members.boot (on_op_done_of f r o u)
  on_op_done_of_fits r None u k found h = (tt, h)
  on_op_done_of_fits r (Some w) u k found h = answered w (op_answer r) (keeps_brought w.asking r u) (caller_of w found) (op_answer_fits r k) (brought_kept f.config f.members.boot w.asking r u h)

  pub on_op_done_fits : (serial n : ℕ) (r : Result) (u : Users) → outcomes.Fits (gave.Outcome r) → UsersFit f.config f.members.boot u → UsersDone f.config f.members.boot (on_op_done f serial n r u)
  on_op_done_fits serial n r u k h = on_op_done_of_fits r (first_that (asks_op_number serial n r) u.waiting) u k (first_found (WaitingFits f.config f.members.boot) (asks_op_number serial n r) u.waiting h.waiting) h

  copied_fits : (w : WaitingCall) (o : Option (List ℕ)) (u : Users) → WaitingFits f.config f.members.boot w → UsersFit f.config f.members.boot u → UsersDone f.config f.members.boot (takes_copied f w o u)
  copied_fits w None u waits h = (tt, h)
  copied_fits w (Some bytes) u waits h = answered w (answer.Did (result.Data bytes)) u (caller_of w waits) tt h

  on_as_held_of_fits : (o : Option WaitingCall) (u : Users) → Found (WaitingFits f.config f.members.boot) o → UsersFit f.config f.members.boot u → UsersDone f.config f.members.boot (on_as_held_of f o u)
  on_as_held_of_fits None u found h = (tt, h)
  on_as_held_of_fits (Some w) u found h = copied_fits w w.copied u found h

  pub on_as_held_fits : (serial n : ℕ) (u : Users) → UsersFit f.config f.members.boot u → UsersDone f.config f.members.boot (on_as_held f serial n u)
  on_as_held_fits serial n u h = on_as_held_of_fits (first_that (asks_held_number serial n) u.waiting) u (first_found (WaitingFits f.config f.members.boot) (asks_held_number serial n) u.waiting h.waiting) h

  close_answer_fits : (a : CloseAnswer) → AnswerFits (close_answer a)
  close_answer_fits closing.Nothing = tt
  close_answer_fits (closing.Made stamp) = tt
  close_answer_fits (closing.No why) = tt

  on_close_done_of_fits : (serial : ℕ) (a : CloseAnswer) (o : Option WaitingCall) (u : Users) → Found (WaitingFits f.config f.members.boot) o → UsersFit f.config f.members.boot u → UsersDone f.config f.members.boot (on_close_done_of f serial a o u)
  on_close_done_of_fits serial a None u found h = (tt, h)
  on_close_done_of_fits serial a (Some w) u found h = answered w (close_answer a) (without_user_instance serial u) (caller_of w found) (close_answer_fits a) (record { waiting = h.waiting; instances = every_without (HasOpen f.members.boot) instance_serial serial u.instances h.instances; descriptors = h.descriptors })

  pub on_close_done_fits : (serial : ℕ) (a : CloseAnswer) (u : Users) → UsersFit f.config f.members.boot u → UsersDone f.config f.members.boot (on_close_done f serial a u)
  on_close_done_fits serial a u h = on_close_done_of_fits serial a (first_that (asks_close_serial serial) u.waiting) u (first_found (WaitingFits f.config f.members.boot) (asks_close_serial serial) u.waiting h.waiting) h

  looks_again_fits : (w : WaitingCall) (a : Asking) (u : Users) → CallerFits f.config w → AskingFits f.members.boot a → UsersFit f.config f.members.boot u → UsersDone f.config f.members.boot (looks_again f w a u)
  looks_again_fits w (asking.Look file what take) u caller k h = asks_fit f (record w { asking = asking.Look file what (take + 1) }) u (record { process = caller.process; words = caller.words; answers = caller.answers; asking = k }) h
  looks_again_fits w (asking.Open serial file it) u caller k h = (tt, h)
  looks_again_fits w (asking.Op serial ss number o seen) u caller k h = (tt, h)
  looks_again_fits w (asking.Close serial ss) u caller k h = (tt, h)

  content_answer_fits : (a : Asking) (bytes : List ℕ) → AnswerFits (content_answer a bytes)
  content_answer_fits (asking.Look file (what.Whole stamp) take) bytes = tt
  content_answer_fits _ bytes = tt

  brought_fits : (a : Asking) (bytes : List ℕ) (w : WaitingCall) → CallerFits f.config w → CallerFits f.config (with_brought a bytes w)
  brought_fits (asking.Look file (what.Whole stamp) take) bytes w h = record { process = h.process; words = h.words; answers = h.answers }
  brought_fits _ bytes w h = h

  takes_look_fits : (w : WaitingCall) (a : LookAnswer) (u : Users) → WaitingFits f.config f.members.boot w → look_answers.Fits a → UsersFit f.config f.members.boot u → UsersDone f.config f.members.boot (takes_look f w a u)
  takes_look_fits w (looked.Found ino kind) u waits k h = answered w (answer.Entered ino kind) u (caller_of w waits) k.0 h
  takes_look_fits w (looked.Content bytes) u waits k h = answered (with_brought w.asking bytes w) (content_answer w.asking bytes) u (brought_fits w.asking bytes w (caller_of w waits)) (content_answer_fits w.asking bytes) h
  takes_look_fits w (looked.Stat kind size stamp) u waits k h = answered w (answer.Described kind size stamp) u (caller_of w waits) tt h
  takes_look_fits w looked.Moved u waits k h = looks_again_fits w w.asking u (caller_of w waits) waits.asking h
  takes_look_fits w (looked.No why) u waits k h = answered w (answer.Refused why) u (caller_of w waits) tt h

  on_look_done_of_fits : (a : LookAnswer) (o : Option WaitingCall) (u : Users) → look_answers.Fits a → Found (WaitingFits f.config f.members.boot) o → UsersFit f.config f.members.boot u → UsersDone f.config f.members.boot (on_look_done_of f a o u)
  on_look_done_of_fits a None u k found h = (tt, h)
  on_look_done_of_fits a (Some w) u k found h = takes_look_fits w a u found k h

  pub on_look_done_fits : (n request take : ℕ) (a : LookAnswer) (u : Users) → look_answers.Fits a → UsersFit f.config f.members.boot u → UsersDone f.config f.members.boot (on_look_done f n request take a u)
  on_look_done_fits n request take a u k h = on_look_done_of_fits a (first_that (asks_take n request take a) u.waiting) u k (first_found (WaitingFits f.config f.members.boot) (asks_take n request take a) u.waiting h.waiting) h
