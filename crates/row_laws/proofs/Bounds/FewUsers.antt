-- What a using site sends for one answer that comes: one packet at most serves a call, and none opens a mend.
use Rattle.std.proofs.Common.{◌≡◌, ℕ, ◌+◌, Bool, false, List, [], ◌∷◌, ◌++◌, Option, Some, None, refl}
use Rattle.locus_ids.specs.declared.ids.FileId.{FileId}
use Rattle.locus_ids.specs.declared.ids.Stamp.{Stamp}
use Rattle.trace_book.specs.declared.call.Call.{Call}
use Rattle.trace_book.specs.declared.call.OpenMode.{OpenMode}
use Rattle.trace_book.specs.declared.call.OpenMode.TheVariants as mode
use Rattle.trace_book.specs.declared.descriptor.Beginning.{Beginning}
use Rattle.trace_book.specs.declared.operation.Op.{Op}
use Rattle.trace_book.specs.declared.operation.Op.TheVariants as op
use Rattle.trace_book.specs.declared.operation.Outcome.{Outcome as Result}
use Rattle.call_rules.specs.Descriptors.{lowest_free}
use Rattle.call_rules.specs.Scripts.{wants}
use Rattle.call_rules.specs.declared.answer.Answer.{Answer}
use Rattle.call_rules.specs.declared.answer.Answer.TheVariants as answer
use Rattle.call_rules.specs.declared.want.Want.{Want}
use Rattle.call_rules.specs.declared.want.Want.TheVariants as want
use Rattle.locus_ids.specs.declared.config.Mount.{Mount}
use Rattle.wire_messages.specs.declared.body.Body.TheVariants as body
use Rattle.wire_messages.specs.declared.body.CloseAnswer.{CloseAnswer}
use Rattle.wire_messages.specs.declared.body.Granted.{Granted}
use Rattle.wire_messages.specs.declared.body.Granted.TheVariants as granted
use Rattle.wire_messages.specs.declared.body.LookAnswer.{LookAnswer}
use Rattle.wire_messages.specs.declared.body.LookAnswer.TheVariants as looked
use Rattle.role_steps.specs.Tables.{first_that}
use Rattle.role_steps.specs.Views.{Frame, Users, sync_site}
use Rattle.role_steps.specs.Requests.{user_instance, with_user_instance, without_user_instance, descriptors_of, opening_of, asks_op_of, asks_close_of, operation_body}
use Rattle.role_steps.specs.Using.{is_packed, asks_want, next_want, goes_on, with_answer, takes_answer, takes_copied, asks_open_of, opened_answer, kept_for, mended_file, takes_open, version_read, on_open_done_of, on_open_done, asks_op_number, asks_held_number, op_answer, on_op_done_of, on_as_held_of, keeps_brought, on_op_done, on_as_held, close_answer, on_close_done_of, on_close_done, looks_again, content_answer, with_brought, takes_look, asks_take, on_look_done_of, on_look_done}
use Rattle.role_steps.specs.Using as using
use Rattle.role_steps.specs.declared.users.Asking.{Asking}
use Rattle.role_steps.specs.declared.users.Asking.TheVariants as asking
use Rattle.role_steps.specs.declared.users.UserInstance.{UserInstance}
use Rattle.role_steps.specs.declared.users.WaitingCall.{WaitingCall}
use Rattle.row_laws.specs.Bounds.Deliveries.{opens_mend}
use Rattle.row_laws.proofs.Bounds.Counting.{few_none, few_one, few_some}
use Rattle.row_laws.proofs.Bounds.FewRoles.{SendsFew}
use Rattle.row_laws.proofs.Bounds.Scripts.{OpensNoMend, opened_first}

-- ---- a request ----

-- an open that a call of a process asks
opening_few : (serial call process request : ℕ) (file : FileId) (m : OpenMode) → opens_mend (body.Open serial call process request file (opening_of m)) ≡ false
opening_few serial call process request file mode.Read = refl
opening_few serial call process request file mode.Write = refl
opening_few serial call process request file (mode.Resolve site) = refl
opening_few serial call process request file mode.Steady = refl

operation_few : (copied : Option (List ℕ)) (serial n : ℕ) (o : Op) (seen : List ℕ) → opens_mend (operation_body copied serial n o seen) ≡ false
operation_few (Some bytes) serial n (op.Read at len) seen = refl
operation_few copied serial n o seen = refl

op_few : (f : Frame) (w : WaitingCall) (o : Op) (i : Option UserInstance) (u : Users) → SendsFew (asks_op_of f w o i u)
op_few f w o None u = few_none
op_few f w o (Some i) u = few_one _ (operation_few w.copied _ _ o _)

close_few : (f : Frame) (w : WaitingCall) (i : Option UserInstance) (u : Users) → SendsFew (asks_close_of f w i u)
close_few f w None u = few_none
close_few f w (Some i) u = few_one _ refl

want_few : (f : Frame) (w : WaitingCall) (x : Want) (u : Users) → OpensNoMend x → SendsFew (asks_want f w x u)
want_few f w (want.Look file what) u h = few_some f _ (sync_site f.config f.members file.group) refl
want_few f w (want.Open file m) u h = few_some f _ (sync_site f.config f.members file.group) (opening_few (u.serials + 1) w.call w.process (w.request + 1) file m)
want_few f w (want.OpenToMend file) u h = absurd h
want_few f w (want.Make group kind sites) u h = few_some f _ (sync_site f.config f.members group) refl
want_few f w (want.Do inst o) u h = op_few f w o (user_instance u inst.serial) u
want_few f w (want.Close inst) u h = close_few f w (user_instance u inst.serial) u
want_few f w (want.Give r) u h = few_none
want_few f w want.Never u h = few_none

-- after an answer no directory is opened to be mended
later_opens_none : (mounts : List Mount) (packed : ℕ → Bool) (free : Option ℕ) (words : Call) (begins : Beginning) (xs : List Answer) (a : Answer) → OpensNoMend (wants mounts packed free words begins (xs ++ a ∷ []))
later_opens_none mounts packed free words begins [] a = opened_first mounts packed free words begins a []
later_opens_none mounts packed free words begins (x ∷ xs) a = opened_first mounts packed free words begins x (xs ++ a ∷ [])

-- ---- an answer is taken ----

answer_few : (f : Frame) (w : WaitingCall) (a : Answer) (u : Users) → SendsFew (takes_answer f w a u)
answer_few f w a u = want_few f (with_answer w a) (next_want f (with_answer w a) u) u (later_opens_none f.config.mounts (is_packed f) (lowest_free (descriptors_of u w.process)) w.words w.begins w.answers a)

opened_few : (f : Frame) (kept : FileId → List Stamp) (serial : ℕ) (w : WaitingCall) (a : Granted) (u : Users) → SendsFew (takes_open f kept serial w a u)
opened_few f kept serial w (granted.Open ss ino size stamp vector) u = answer_few f w (opened_answer f serial ino stamp (kept_for kept (mended_file w.words)) w.words w.asking) (with_user_instance (record { serial = serial; ss = ss; vector = vector; ops = 0; reads = version_read size stamp w.asking }) u)
opened_few f kept serial w (granted.No why) u = answer_few f w (answer.Refused why) u

pub on_open_done_few : (f : Frame) (kept : FileId → List Stamp) (serial : ℕ) (a : Granted) (u : Users) → SendsFew (on_open_done f kept serial a u)
on_open_done_few f kept serial a u = by_call (first_that (asks_open_of serial) u.waiting)
  where
    by_call : (o : Option WaitingCall) → SendsFew (on_open_done_of f kept serial a o u)
    by_call None = few_none
    by_call (Some w) = opened_few f kept serial w a u

pub on_op_done_few : (f : Frame) (serial n : ℕ) (r : Result) (u : Users) → SendsFew (on_op_done f serial n r u)
on_op_done_few f serial n r u = by_call (first_that (asks_op_number serial n r) u.waiting)
  where
    by_call : (o : Option WaitingCall) → SendsFew (on_op_done_of f r o u)
    by_call None = few_none
    by_call (Some w) = answer_few f w (op_answer r) (keeps_brought w.asking r u)

pub on_as_held_few : (f : Frame) (serial n : ℕ) (u : Users) → SendsFew (on_as_held f serial n u)
on_as_held_few f serial n u = by_call (first_that (asks_held_number serial n) u.waiting)
  where
    by_copied : (w : WaitingCall) (copied : Option (List ℕ)) → SendsFew (takes_copied f w copied u)
    by_copied w None = few_none
    by_copied w (Some bytes) = answer_few f w _ u

    by_call : (o : Option WaitingCall) → SendsFew (on_as_held_of f o u)
    by_call None = few_none
    by_call (Some w) = by_copied w w.copied

pub on_close_done_few : (f : Frame) (serial : ℕ) (a : CloseAnswer) (u : Users) → SendsFew (on_close_done f serial a u)
on_close_done_few f serial a u = by_call (first_that (using.asks_close_of serial) u.waiting)
  where
    by_call : (o : Option WaitingCall) → SendsFew (on_close_done_of f serial a o u)
    by_call None = few_none
    by_call (Some w) = answer_few f w (close_answer a) (without_user_instance serial u)

again_few : (f : Frame) (w : WaitingCall) (a : Asking) (u : Users) → SendsFew (looks_again f w a u)
again_few f w (asking.Look file wh take) u = few_some f _ (sync_site f.config f.members file.group) refl
again_few f w _ u = few_none

look_few : (f : Frame) (w : WaitingCall) (a : LookAnswer) (u : Users) → SendsFew (takes_look f w a u)
look_few f w (looked.Found ino kind) u = answer_few f w (answer.Entered ino kind) u
look_few f w (looked.Content bytes) u = answer_few f (with_brought w.asking bytes w) (content_answer w.asking bytes) u
look_few f w (looked.Stat kind size stamp) u = answer_few f w (answer.Described kind size stamp) u
look_few f w looked.Moved u = again_few f w w.asking u
look_few f w (looked.No why) u = answer_few f w (answer.Refused why) u

pub on_look_done_few : (f : Frame) (n request take : ℕ) (a : LookAnswer) (u : Users) → SendsFew (on_look_done f n request take a u)
on_look_done_few f n request take a u = by_call (first_that (asks_take n request take a) u.waiting)
  where
    by_call : (o : Option WaitingCall) → SendsFew (on_look_done_of f a o u)
    by_call None = few_none
    by_call (Some w) = look_few f w a u
