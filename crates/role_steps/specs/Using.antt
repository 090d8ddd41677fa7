-- The using site: calls are accepted, follow their scripts by the answers that come, and are replied to.
use Rattle.std.specs.Prelude.{ℕ, ◌+◌, ◌==◌, Bool, true, false, ◌&&◌, cond, List, [], ◌∷◌, ◌++◌, map, Option, Some, None}
use Rattle.std.specs.Option.{is_some}
use Rattle.locus_ids.specs.declared.ids.FileId.{FileId}
use Rattle.locus_ids.specs.declared.ids.Serial.{Serial}
use Rattle.locus_ids.specs.declared.ids.CallId.{CallId}
use Rattle.locus_ids.specs.declared.ids.EpochId.{EpochId}
use Rattle.locus_ids.specs.declared.ids.Stamp.{Stamp}
use Rattle.locus_ids.specs.declared.ids.Mode.{Mode}
use Rattle.locus_ids.specs.declared.ids.Mode.TheVariants as mode
use Rattle.locus_ids.specs.declared.refusal.Refusal.{Refusal}
use Rattle.locus_ids.specs.declared.refusal.Refusal.TheVariants as refusal
use Rattle.dir_reconcile.specs.of_dir_format.Contents.{entries_of}
use Rattle.dir_reconcile.specs.of_dir_format.Lookups.{shown_names}
use Rattle.wire_messages.specs.of_trace_book.declared.call.Call.{Call}
use Rattle.wire_messages.specs.of_trace_book.declared.call.Call.TheVariants as call
use Rattle.wire_messages.specs.of_trace_book.declared.operation.Outcome.{Outcome as Result}
use Rattle.wire_messages.specs.of_trace_book.declared.operation.Outcome.TheVariants as result
use Rattle.wire_messages.specs.of_trace_book.declared.operation.Op.{Op}
use Rattle.wire_messages.specs.of_trace_book.declared.operation.Op.TheVariants as op
use Rattle.wire_messages.specs.of_trace_book.declared.operation.What.{What}
use Rattle.wire_messages.specs.of_trace_book.declared.operation.What.TheVariants as what
use Rattle.wire_messages.specs.of_trace_book.declared.record.Record.TheVariants as says
use Rattle.wire_messages.specs.of_trace_book.declared.reply.Reply.{Reply}
use Rattle.wire_messages.specs.of_trace_book.declared.reply.Reply.TheVariants as reply
use Rattle.wire_messages.specs.of_trace_book.declared.descriptor.Beginning.{Beginning}
use Rattle.wire_messages.specs.of_trace_book.declared.descriptor.Beginning.TheVariants as begins
use Rattle.wire_messages.specs.of_trace_book.declared.descriptor.OneVersion.{OneVersion}
use Rattle.call_rules.specs.Descriptors.{beginning, lowest_free}
use Rattle.call_rules.specs.Opening.{is_steady, mode_of}
use Rattle.call_rules.specs.Scripts.{wants}
use Rattle.call_rules.specs.declared.answer.Answer.{Answer}
use Rattle.call_rules.specs.declared.answer.Answer.TheVariants as answer
use Rattle.call_rules.specs.declared.want.Want.{Want}
use Rattle.call_rules.specs.declared.want.Want.TheVariants as want
use Rattle.wire_messages.specs.declared.body.LookAnswer.{LookAnswer}
use Rattle.wire_messages.specs.declared.body.LookAnswer.TheVariants as looked
use Rattle.wire_messages.specs.declared.body.Granted.{Granted}
use Rattle.wire_messages.specs.declared.body.Granted.TheVariants as granted
use Rattle.wire_messages.specs.declared.body.CloseAnswer.{CloseAnswer}
use Rattle.wire_messages.specs.declared.body.CloseAnswer.TheVariants as closing
use Rattle.wire_messages.specs.declared.body.Opening.TheVariants as how
use Rattle.page_cache.specs.Cached.{CachedPages}
use Rattle.page_cache.specs.Parts.{held_part, looked_up, with_part}
use Rattle.page_cache.specs.declared.part.Part.{Part}
use Rattle.role_steps.specs.Tables.{first_that}
use Rattle.role_steps.specs.Views.{Frame, Users, Told, Shown, Takes, LooksAgain, Outcome, quiet, tells, and_then, sync_site}
use Rattle.role_steps.specs.Requests.{without_waiting, user_instance, with_user_instance, without_user_instance, descriptors_of, with_descriptor, without_descriptor, asks, asks_look, asks_open, asks_make, asks_op, asks_close, opening_of}
use Rattle.role_steps.specs.declared.users.Asking.{Asking}
use Rattle.role_steps.specs.declared.users.Asking.TheVariants as asking
use Rattle.role_steps.specs.declared.users.WaitingCall.{WaitingCall}
use Rattle.role_steps.specs.declared.users.DescriptorRow.{DescriptorRow}
use Rattle.role_steps.specs.declared.users.UserInstance.{UserInstance}
use Rattle.role_steps.specs.declared.users.VersionRead.{VersionRead}

-- ---- replies ----

-- a call of this site and boot
abbrev pub own_call : ℕ → ℕ → ℕ → CallId
own_call me boot n = record { site = me; boot = boot; n = n }

abbrev pub reply_record : ℕ → ℕ → WaitingCall → Reply → Told
reply_record me boot w r = Shown (says.Answer me w.process (own_call me boot w.call) r)

-- the instance that an open was answered last
abbrev pub last_opened : Serial → List Answer → Serial
last_opened inst [] = inst
last_opened inst (answer.Opened found ino ∷ rest) = last_opened found rest
last_opened inst (answer.Reading found version ∷ rest) = last_opened found rest
last_opened inst (_ ∷ rest) = last_opened inst rest

abbrev pub no_serial : Serial
no_serial = record { us = 0; serial = 0 }

abbrev pub mode_asked : Call → Mode
mode_asked (call.Open path m) = mode_of m
mode_asked _ = mode.Read

-- the version that was opened last to be read
abbrev pub last_version : Option OneVersion → List Answer → Option OneVersion
last_version last [] = last
last_version last (answer.Reading inst version ∷ rest) = last_version (Some version) rest
last_version last (_ ∷ rest) = last_version last rest

-- what a descriptor stands for by the call that opened its instance, and by the version that it keeps
abbrev pub opened_row : Frame → WaitingCall → ℕ → Option OneVersion → DescriptorRow
opened_row f w fd kept = record { process = w.process; fd = fd; descriptor = record { mode = mode_asked w.words; epoch = f.epoch; inst = last_opened no_serial w.answers; steady = kept } }

-- a directory whose mend is refused for want of room isn't mended again in this epoch
abbrev pub is_hopeless : Refusal → Bool
is_hopeless refusal.TooLong = true
is_hopeless (refusal.NoSpace needed free) = true
is_hopeless refusal.Spent = true
is_hopeless _ = false

abbrev pub without_hope : Call → Refusal → Users → Users
without_hope (call.Mend file) why u = cond (is_hopeless why) (record u { hopeless = u.hopeless ++ file ∷ [] }) u
without_hope _ why u = u

-- a read that has opened a version again makes its descriptor held by the new instance
abbrev pub holds_again : Frame → WaitingCall → Beginning → Call → Users → Users
holds_again f w (begins.Reopens version last) (call.Read fd at len) u = with_descriptor (opened_row f w fd (Some version)) u
holds_again f w _ words u = u

-- what a reply changes: an open that succeeds takes the descriptor
abbrev pub after_reply : Frame → WaitingCall → Reply → Users → Users
after_reply f w (reply.Opened fd) u = with_descriptor (opened_row f w fd (cond (is_steady w.words) (last_version None w.answers) None)) u
after_reply f w (reply.Data bytes) u = holds_again f w w.begins w.words u
after_reply f w (reply.No why) u = without_hope w.words why u
after_reply f w _ u = u

abbrev pub replies : Frame → WaitingCall → Reply → Users → Outcome Users
replies f w r u = tells (reply_record f.me f.boot w r ∷ []) (after_reply f w r (without_waiting w u))

-- ---- a script goes on ----

abbrev pub is_some_site : Option ℕ → Bool
is_some_site None = false
is_some_site (Some s) = true

-- some member has a pack of the group
abbrev pub is_packed : Frame → ℕ → Bool
is_packed f group = is_some_site (sync_site f.config f.members group)

abbrev pub asks_want : Frame → WaitingCall → Want → Users → Outcome Users
asks_want f w (want.Look file what) u = asks_look f w file what u
asks_want f w (want.Open file m) u = asks_open f w file (opening_of m) u
asks_want f w (want.OpenToMend file) u = asks_open f w file how.Mend u
asks_want f w (want.Make group kind sites) u = asks_make f w group kind sites u
asks_want f w (want.Do inst o) u = asks_op f w inst o u
asks_want f w (want.Close inst) u = asks_close f w inst u
asks_want f w (want.Give r) u = replies f w r u
asks_want f w want.Never u = quiet u

-- what the call asks next, or its reply
abbrev pub next_want : Frame → WaitingCall → Users → Want
next_want f w u = wants f.config.mounts (is_packed f) (lowest_free (descriptors_of u w.process)) w.words w.begins w.answers

abbrev pub goes_on : Frame → WaitingCall → Users → Outcome Users
goes_on f w u = asks_want f w (next_want f w u) u

-- ---- a call is accepted ----

-- the number of a descriptor that the call frees as it is accepted
abbrev pub frees : ℕ → Call → Users → Users
frees process (call.Close fd) u = without_descriptor process fd u
frees process _ u = u

abbrev pub accepted : ℕ → ℕ → Call → Beginning → WaitingCall
accepted process n words begins = record {
  process = process;
  call = n;
  words = words;
  begins = begins;
  answers = [];
  request = 0;
  asking = asking.Close 0 0;
  brought = [];
  copied = None;
}

-- what a read asks of an instance that was opened to read
abbrev pub part_of_version : ℕ → ℕ → Option VersionRead → Option Part
part_of_version at len None = None
part_of_version at len (Some v) = Some (record { file = v.file; stamp = v.stamp; size = v.size; at = at; len = len })

abbrev pub part_of_instance : ℕ → ℕ → Option UserInstance → Option Part
part_of_instance at len None = None
part_of_instance at len (Some i) = part_of_version at len i.reads

-- the part of a version that an accepted call reads, by a descriptor that is held
abbrev pub part_read : Users → Call → Beginning → Option Part
part_read u (call.Read fd at len) (begins.Uses epoch inst) = part_of_instance at len (user_instance u inst.serial)
part_read u words begins = None

-- the bytes of it, where the site has all of them in memory
abbrev pub copied_part : Option Part → CachedPages → Option (List ℕ)
copied_part None pages = None
copied_part (Some p) pages = held_part p pages

abbrev pub used_part : Option Part → CachedPages → CachedPages
used_part None pages = pages
used_part (Some p) pages = looked_up p pages

abbrev pub with_copied : Option (List ℕ) → WaitingCall → WaitingCall
with_copied copied w = record w { copied = copied }

abbrev pub accept_record : ℕ → ℕ → ℕ → ℕ → Call → Told
accept_record me boot process n words = Shown (says.Accept me process (own_call me boot n) words)

-- the accepted call, with the bytes that it reads where its site has all of them in memory
abbrev pub accepted_call : Frame → Option EpochId → ℕ → Call → Users → WaitingCall
accepted_call f now process words u =
    let begins : Beginning = beginning (descriptors_of u process) now (own_call f.me f.boot (u.calls + 1)) words in
    with_copied (copied_part (part_read u words begins) u.cache) (accepted process (u.calls + 1) words begins)

-- the users once it is counted, and the pages of its read were used
abbrev pub counted_users : Frame → Option EpochId → ℕ → Call → Users → Users
counted_users f now process words u = record u { calls = u.calls + 1; cache = used_part (part_read u words (beginning (descriptors_of u process) now (own_call f.me f.boot (u.calls + 1)) words)) u.cache }

-- and a close has freed its descriptor
abbrev pub counted_call : Frame → Option EpochId → ℕ → Call → Users → Users
counted_call f now process words u = frees process words (counted_users f now process words u)

-- The cache is asked once, as the call is accepted. A site in no epoch has no frame: the script then replies at once, and nothing is
-- asked. It is given the frame of no members, in which no group is packed.
abbrev pub on_call : Frame → Option EpochId → ℕ → Call → Users → Outcome Users
on_call f now process words u =
    and_then (tells (accept_record f.me f.boot process (u.calls + 1) words ∷ []) (counted_call f now process words u)) (goes_on f (accepted_call f now process words u))

-- ---- an answer is taken ----

abbrev pub take_of : Asking → ℕ
take_of (asking.Look file what take) = take
take_of _ = 0

abbrev pub takes_record : Frame → WaitingCall → Answer → Told
takes_record f w a = Takes f.me (own_call f.me f.boot w.call) w.request (take_of w.asking) a

abbrev pub with_answer : WaitingCall → Answer → WaitingCall
with_answer w a = record w { answers = w.answers ++ a ∷ [] }

abbrev pub takes_answer : Frame → WaitingCall → Answer → Users → Outcome Users
takes_answer f w a u = and_then (tells (takes_record f w a ∷ []) u) (goes_on f (with_answer w a))

-- ---- OpenDone ----

abbrev pub asks_open_of : ℕ → WaitingCall → Bool
asks_open_of serial w = is_of w.asking
  where
    is_of : Asking → Bool
    is_of (asking.Open s file how) = s == serial
    is_of _ = false

abbrev pub own_serial : Frame → ℕ → Serial
own_serial f serial = record { us = f.me; serial = serial }

-- an open to read tells its version
abbrev pub asked_answer : Frame → ℕ → ℕ → Stamp → Asking → Answer
asked_answer f serial ino stamp (asking.Open s file how.Read) = answer.Reading (own_serial f serial) (record { file = file; stamp = stamp })
asked_answer f serial ino stamp _ = answer.Opened (own_serial f serial) ino

-- the version of an open to read
abbrev pub version_read : ℕ → Stamp → Asking → Option VersionRead
version_read size stamp (asking.Open s file how.Read) = Some (record { file = file; stamp = stamp; size = size })
version_read size stamp _ = None

-- a mend's open brings the stamps of the kept versions, ascending
abbrev pub opened_answer : Frame → ℕ → ℕ → Stamp → List Stamp → Call → Asking → Answer
opened_answer f serial ino stamp kept (call.Mend file) asked = answer.Merging (own_serial f serial) kept
opened_answer f serial ino stamp kept _ asked = asked_answer f serial ino stamp asked

abbrev pub mended_file : Call → Option FileId
mended_file (call.Mend file) = Some file
mended_file _ = None

abbrev pub kept_for : (FileId → List Stamp) → Option FileId → List Stamp
kept_for kept None = []
kept_for kept (Some file) = kept file

abbrev pub takes_open : Frame → (FileId → List Stamp) → ℕ → WaitingCall → Granted → Users → Outcome Users
takes_open f kept serial w (granted.Open ss ino size stamp vector) u =
    takes_answer f w (opened_answer f serial ino stamp (kept_for kept (mended_file w.words)) w.words w.asking)
    (with_user_instance (record { serial = serial; ss = ss; vector = vector; ops = 0; reads = version_read size stamp w.asking }) u)
takes_open f kept serial w (granted.No why) u = takes_answer f w (answer.Refused why) u

abbrev pub on_open_done_of : Frame → (FileId → List Stamp) → ℕ → Granted → Option WaitingCall → Users → Outcome Users
on_open_done_of f kept serial a None u = quiet u
on_open_done_of f kept serial a (Some w) u = takes_open f kept serial w a u

abbrev pub on_open_done : Frame → (FileId → List Stamp) → ℕ → Granted → Users → Outcome Users
on_open_done f kept serial a u = on_open_done_of f kept serial a (first_that (asks_open_of serial) u.waiting) u

-- ---- OpDone ----

-- the result is of the sort that the operation gives; another is no answer to it, and is ignored
abbrev pub answers_op : Op → Result → Bool
answers_op o (result.No why) = true
answers_op (op.Find component) (result.Found ino kind) = true
answers_op (op.Read at len) (result.Data bytes) = true
answers_op op.Commit (result.Committed stamp) = true
answers_op (op.Find component) r = false
answers_op (op.Read at len) r = false
answers_op op.Commit r = false
answers_op o result.Done = true
answers_op o r = false

abbrev pub asks_op_number : ℕ → ℕ → Result → WaitingCall → Bool
asks_op_number serial n r w = is_of w.asking
  where
    is_of : Asking → Bool
    is_of (asking.Op s ss number o seen) = (s == serial) && ((number == n) && answers_op o r)
    is_of _ = false

abbrev pub op_answer : Result → Answer
op_answer (result.No why) = answer.Refused why
op_answer r = answer.Did r

-- the pages that the bytes bring whole are kept
abbrev pub keeps_part : List ℕ → Option Part → Users → Users
keeps_part bytes None u = u
keeps_part bytes (Some p) u = record u { cache = with_part p bytes u.cache }

-- those that the answer to a read of an instance brings which was opened to read
abbrev pub keeps_brought : Asking → Result → Users → Users
keeps_brought (asking.Op s ss number (op.Read at len) seen) (result.Data bytes) u = keeps_part bytes (part_of_instance at len (user_instance u s)) u
keeps_brought asked r u = u

abbrev pub on_op_done_of : Frame → Result → Option WaitingCall → Users → Outcome Users
on_op_done_of f r None u = quiet u
on_op_done_of f r (Some w) u = takes_answer f w (op_answer r) (keeps_brought w.asking r u)

abbrev pub on_op_done : Frame → ℕ → ℕ → Result → Users → Outcome Users
on_op_done f serial n r u = on_op_done_of f r (first_that (asks_op_number serial n r) u.waiting) u

-- ---- AsHeld ----

-- it waits for this operation, whose bytes are at the site
abbrev pub asks_held_number : ℕ → ℕ → WaitingCall → Bool
asks_held_number serial n w = is_some w.copied && is_of w.asking
  where
    is_of : Asking → Bool
    is_of (asking.Op s ss number (op.Read at len) seen) = (s == serial) && (number == n)
    is_of _ = false

-- the answer is made of the copied bytes
abbrev pub takes_copied : Frame → WaitingCall → Option (List ℕ) → Users → Outcome Users
takes_copied f w None u = quiet u
takes_copied f w (Some bytes) u = takes_answer f w (answer.Did (result.Data bytes)) u

abbrev pub on_as_held_of : Frame → Option WaitingCall → Users → Outcome Users
on_as_held_of f None u = quiet u
on_as_held_of f (Some w) u = takes_copied f w w.copied u

abbrev pub on_as_held : Frame → ℕ → ℕ → Users → Outcome Users
on_as_held f serial n u = on_as_held_of f (first_that (asks_held_number serial n) u.waiting) u

-- ---- CloseDone ----

abbrev pub asks_close_of : ℕ → WaitingCall → Bool
asks_close_of serial w = is_of w.asking
  where
    is_of : Asking → Bool
    is_of (asking.Close s ss) = s == serial
    is_of _ = false

abbrev pub close_answer : CloseAnswer → Answer
close_answer closing.Nothing = answer.Ended None
close_answer (closing.Made stamp) = answer.Ended (Some stamp)
close_answer (closing.No why) = answer.Refused why

abbrev pub on_close_done_of : Frame → ℕ → CloseAnswer → Option WaitingCall → Users → Outcome Users
on_close_done_of f serial a None u = quiet u
on_close_done_of f serial a (Some w) u = takes_answer f w (close_answer a) (without_user_instance serial u)

abbrev pub on_close_done : Frame → ℕ → CloseAnswer → Users → Outcome Users
on_close_done f serial a u = on_close_done_of f serial a (first_that (asks_close_of serial) u.waiting) u

-- ---- LookDone ----

-- the answer is of the sort that the look asks, or that the version was there no more; another is no answer to it, and is
-- ignored
abbrev pub answers_what : What → LookAnswer → Bool
answers_what asked looked.Moved = true
answers_what asked (looked.No why) = true
answers_what (what.Name component) (looked.Found ino kind) = true
answers_what what.List (looked.Content bytes) = true
answers_what (what.Whole stamp) (looked.Content bytes) = true
answers_what what.Stat (looked.Stat kind size stamp) = true
answers_what asked a = false

abbrev pub asks_take : ℕ → ℕ → ℕ → LookAnswer → WaitingCall → Bool
asks_take n request take a w = (w.call == n) && ((w.request == request) && is_of w.asking)
  where
    is_of : Asking → Bool
    is_of (asking.Look file asked t) = (t == take) && answers_what asked a
    is_of _ = false

-- the version was there no more: the same request is asked with the next take
abbrev pub looks_again : Frame → WaitingCall → Asking → Users → Outcome Users
looks_again f w (asking.Look file what take) u =
    and_then (tells (LooksAgain f.me (own_call f.me f.boot w.call) w.request (take + 1) ∷ []) u) (asks f (record w { asking = asking.Look file what (take + 1) }))
looks_again f w _ u = quiet u

-- a whole content stays at the site; of a list the shown names are the answer
abbrev pub content_answer : Asking → List ℕ → Answer
content_answer (asking.Look file (what.Whole stamp) take) bytes = answer.Brought
content_answer _ bytes = answer.Showed (shown_names (entries_of bytes))

abbrev pub with_brought : Asking → List ℕ → WaitingCall → WaitingCall
with_brought (asking.Look file (what.Whole stamp) take) bytes w = record w { brought = w.brought ++ bytes ∷ [] }
with_brought _ bytes w = w

abbrev pub takes_look : Frame → WaitingCall → LookAnswer → Users → Outcome Users
takes_look f w (looked.Found ino kind) u = takes_answer f w (answer.Entered ino kind) u
takes_look f w (looked.Content bytes) u = takes_answer f (with_brought w.asking bytes w) (content_answer w.asking bytes) u
takes_look f w (looked.Stat kind size stamp) u = takes_answer f w (answer.Described kind size stamp) u
takes_look f w looked.Moved u = looks_again f w w.asking u
takes_look f w (looked.No why) u = takes_answer f w (answer.Refused why) u

abbrev pub on_look_done_of : Frame → LookAnswer → Option WaitingCall → Users → Outcome Users
on_look_done_of f a None u = quiet u
on_look_done_of f a (Some w) u = takes_look f w a u

abbrev pub on_look_done : Frame → ℕ → ℕ → ℕ → LookAnswer → Users → Outcome Users
on_look_done f n request take a u = on_look_done_of f a (first_that (asks_take n request take a) u.waiting) u

-- ---- the epoch is left ----

-- each waiting call is answered Changed, in order of process; open descriptors stay, and are stale from now on, but for steady ones, which
-- are then not held
abbrev pub changed_records : ℕ → ℕ → EpochId → List WaitingCall → List Told
changed_records me boot e ws = map (λ (w : WaitingCall). reply_record me boot w (reply.No (refusal.Changed e))) ws

abbrev pub users_leave : ℕ → ℕ → EpochId → Users → Outcome Users
users_leave me boot e u = tells (changed_records me boot e u.waiting) (record u { waiting = []; instances = []; hopeless = [] })
