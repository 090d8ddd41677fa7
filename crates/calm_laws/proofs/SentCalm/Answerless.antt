-- What the using site and a site that pulls send answers no report and no open, and closes no instance: a law by kinds; nor does what
-- the storage site sends, but as it closes one.
use Rattle.std.proofs.Common.{ℕ, ◌+◌, ◌==◌, true, false, List, [], Option, Some, None}
use Rattle.locus_ids.specs.declared.ids.EpochId.{EpochId}
use Rattle.locus_ids.specs.declared.ids.FileId.{FileId}
use Rattle.locus_ids.specs.declared.ids.Mode.{Mode}
use Rattle.locus_ids.specs.declared.ids.Serial.{Serial}
use Rattle.locus_ids.specs.declared.ids.Stamp.{Stamp}
use Rattle.locus_ids.specs.declared.ids.Mode.TheVariants as mode
use Rattle.locus_ids.specs.declared.refusal.Refusal.TheVariants as refusal
use Rattle.trace_book.specs.declared.call.Call.{Call}
use Rattle.trace_book.specs.declared.operation.Op.{Op}
use Rattle.trace_book.specs.declared.operation.Outcome.{Outcome as Result}
use Rattle.trace_book.specs.declared.operation.Op.TheVariants as op
use Rattle.trace_book.specs.declared.operation.Outcome.TheVariants as result
use Rattle.file_effects.specs.Effects.{Effect}
use Rattle.file_effects.specs.Works.{counted}
use Rattle.wire_messages.specs.declared.body.Body.{Body}
use Rattle.wire_messages.specs.declared.body.CloseAnswer.{CloseAnswer}
use Rattle.wire_messages.specs.declared.body.Granted.{Granted}
use Rattle.wire_messages.specs.declared.body.LookAnswer.{LookAnswer}
use Rattle.wire_messages.specs.declared.packet.Packet.{Packet}
use Rattle.wire_messages.specs.declared.body.Body.TheVariants as body
use Rattle.role_steps.specs.OperationEffects.{Mending, effect_of}
use Rattle.role_steps.specs.Operations.{acts, acts_committed, commits_owing, last_committed, commit_op, executes_effect, executes, op_again, by_number, on_op_at, on_op_of, on_op, on_read_held}
use Rattle.role_steps.specs.Own.{Every}
use Rattle.role_steps.specs.Pulling.{pull_repeats}
use Rattle.role_steps.specs.Requests.{users_repeats}
use Rattle.role_steps.specs.Storage.{StoreRequest, instance_of, is_open, opened_packets, own_ino, opens, opens_made, on_open_ss_of, on_open_ss, is_spent, commits, next_stamp, next_vector, ends_at, on_closed_ok_of, on_closed_ok}
use Rattle.role_steps.specs.Using.{on_call, on_open_done, on_op_done, on_as_held, on_close_done, on_look_done}
use Rattle.role_steps.specs.Views.{Frame, Store, Users, Outcome, quiet, sends, and_then, to_some, to_sync, sync_site}
use Rattle.role_steps.specs.declared.instances.Instance.{Instance}
use Rattle.role_steps.specs.declared.instances.Stage.{Stage}
use Rattle.role_steps.specs.declared.pulls.Pull.{Pull}
use Rattle.role_steps.specs.declared.instances.Stage.TheVariants as stage
use Rattle.role_steps.proofs.Sending.{every_cond}
use Rattle.role_steps.proofs.HeldReads.{held_read_sent}
use Rattle.run_laws.specs.Walks.Kinds.{IsOfReader, IsStoreAnswer, IsUserRequest, IsOfUser}
use Rattle.run_laws.specs.Walks.Laws.{Law, body_law, ReadersKeep, UsersKeep}
use Rattle.run_laws.proofs.Walks.RoleWalks.{pull_repeats_walk, users_repeats_walk, on_call_walk, on_open_done_walk, on_op_done_walk, on_as_held_walk, on_close_done_walk, on_look_done_walk}

-- the body answers neither a report nor an open, and closes no instance
abbrev pub AnswersNone : Body → Type 0
AnswersNone (body.ReportOk group) = ⊥
AnswersNone (body.OpenDone serial answer) = ⊥
AnswersNone (body.Closed inst made) = ⊥
AnswersNone _ = Unit {0}

abbrev pub Answerless : Packet → Type 0
Answerless p = AnswersNone p.body

abbrev pub AllAnswerless : {V : Type 0} → Outcome V → Type 0
AllAnswerless o = Every Answerless o.sent

pub some_answerless : (f : Frame) (b : Body) (o : Option ℕ) → AnswersNone b → Every Answerless (to_some f b o)
some_answerless f b None h = tt
some_answerless f b (Some to) h = (h, tt)

pub sync_answerless : (f : Frame) (group : ℕ) (b : Body) → AnswersNone b → Every Answerless (to_sync f group b)
sync_answerless f group b h = some_answerless f b (sync_site f.config f.members group) h

-- ---- opens ----

opens_made_answerless : (f : Frame) (r : StoreRequest) (o : Option ℕ) (s : Store) → AllAnswerless (opens_made f r o s)
opens_made_answerless f r None s = sync_answerless f r.file.group _ tt
opens_made_answerless f r (Some ino) s = sync_answerless f r.file.group _ tt

opens_answerless : (f : Frame) (r : StoreRequest) (m : Mode) (s : Store) → AllAnswerless (opens f r m s)
opens_answerless f r mode.Make s = opens_made_answerless f r (own_ino s r.file.group f.me) s
opens_answerless f r mode.Read s = sync_answerless f r.file.group _ tt
opens_answerless f r mode.Write s = sync_answerless f r.file.group _ tt
opens_answerless f r mode.Resolve s = sync_answerless f r.file.group _ tt
opens_answerless f r mode.Mend s = sync_answerless f r.file.group _ tt

on_open_ss_of_answerless : (f : Frame) (r : StoreRequest) (o : Option Instance) (s : Store) → AllAnswerless (on_open_ss_of f r o s)
on_open_ss_of_answerless f r None s = opens_answerless f r r.mode s
on_open_ss_of_answerless f r (Some i) s = every_cond Answerless (is_open i.stage) (opened_packets f i) [] (sync_answerless f i.file.group _ tt) tt

pub on_open_ss_answerless : (f : Frame) (r : StoreRequest) (s : Store) → AllAnswerless (on_open_ss f r s)
on_open_ss_answerless f r s = on_open_ss_of_answerless f r (instance_of s r.inst) s

-- ---- the ends of closes ----

ends_at_answerless : (f : Frame) (i : Instance) (g : Stage) (s : Store) → AllAnswerless (ends_at f i g s)
ends_at_answerless f i stage.Running s = tt
ends_at_answerless f i (stage.Closing made a) s = (tt, tt)
ends_at_answerless f i (stage.Closed a) s = tt

on_closed_ok_of_answerless : (f : Frame) (o : Option Instance) (s : Store) → AllAnswerless (on_closed_ok_of f o s)
on_closed_ok_of_answerless f None s = tt
on_closed_ok_of_answerless f (Some i) s = ends_at_answerless f i i.stage s

pub on_closed_ok_answerless : (f : Frame) (inst : Serial) (s : Store) → AllAnswerless (on_closed_ok f inst s)
on_closed_ok_answerless f inst s = on_closed_ok_of_answerless f (instance_of s inst) s

-- ---- operations ----

executes_effect_answerless : (f : Frame) (i : Instance) (o : Op) (e : Option Effect) (s : Store) → AllAnswerless (executes_effect f i o e s)
executes_effect_answerless f i o None s = tt
executes_effect_answerless f i o (Some e) s = (tt, tt)

acts_committed_answerless : (f : Frame) (stamp : Stamp) (o : Option Instance) (s : Store) → AllAnswerless (acts_committed f stamp o s)
acts_committed_answerless f stamp None s = tt
acts_committed_answerless f stamp (Some i) s = (tt, tt)

commits_owing_answerless : (f : Frame) (i : Instance) (s : Store) → AllAnswerless (commits_owing f i s)
commits_owing_answerless f i s =
    elim (is_spent f i) as (λ b. AllAnswerless (elim b [ true ↦ acts f i op.Commit (result.No refusal.Spent) (counted i.work) s | false ↦ and_then (commits f i s) (λ now. acts_committed f (next_stamp f (next_vector f i)) (instance_of now i.inst) now) ])) [
      | true ↦ (tt, tt)
      | false ↦ acts_committed_answerless f (next_stamp f (next_vector f i)) (instance_of (commits f i s).view i.inst) (commits f i s).view
    ]

last_committed_answerless : (f : Frame) (i : Instance) (o : Option Stamp) (s : Store) → AllAnswerless (last_committed f i o s)
last_committed_answerless f i None s = tt
last_committed_answerless f i (Some stamp) s = (tt, tt)

commit_op_answerless : (f : Frame) (i : Instance) (s : Store) → AllAnswerless (commit_op f i s)
commit_op_answerless f i s =
    elim i.work.owes as (λ b. AllAnswerless (elim b [ true ↦ commits_owing f i s | false ↦ last_committed f i i.work.last s ])) [
      | true ↦ commits_owing_answerless f i s
      | false ↦ last_committed_answerless f i i.work.last s
    ]

executes_answerless : (f : Frame) (m : Mending) (i : Instance) (o : Op) (seen : List ℕ) (s : Store) → AllAnswerless (executes f m i o seen s)
executes_answerless f m i op.Commit seen s = commit_op_answerless f i s
executes_answerless f m i op.Abort seen s = (tt, tt)
executes_answerless f m i (op.Probe name) seen s = executes_effect_answerless f i (op.Probe name) (effect_of (op.Probe name) seen m i.work.content) s
executes_answerless f m i (op.Find component) seen s = executes_effect_answerless f i (op.Find component) (effect_of (op.Find component) seen m i.work.content) s
executes_answerless f m i (op.Insert name ino kind) seen s = executes_effect_answerless f i (op.Insert name ino kind) (effect_of (op.Insert name ino kind) seen m i.work.content) s
executes_answerless f m i (op.Remove name ino) seen s = executes_effect_answerless f i (op.Remove name ino) (effect_of (op.Remove name ino) seen m i.work.content) s
executes_answerless f m i (op.Rename component name) seen s = executes_effect_answerless f i (op.Rename component name) (effect_of (op.Rename component name) seen m i.work.content) s
executes_answerless f m i op.Empty seen s = executes_effect_answerless f i op.Empty (effect_of op.Empty seen m i.work.content) s
executes_answerless f m i (op.Read at len) seen s = executes_effect_answerless f i (op.Read at len) (effect_of (op.Read at len) seen m i.work.content) s
executes_answerless f m i (op.Write at bytes) seen s = executes_effect_answerless f i (op.Write at bytes) (effect_of (op.Write at bytes) seen m i.work.content) s
executes_answerless f m i (op.Cut len) seen s = executes_effect_answerless f i (op.Cut len) (effect_of (op.Cut len) seen m i.work.content) s
executes_answerless f m i op.Mend seen s = executes_effect_answerless f i op.Mend (effect_of op.Mend seen m i.work.content) s

op_again_answerless : (f : Frame) (i : Instance) (n : ℕ) (o : Option Result) → Every Answerless (op_again f i n o)
op_again_answerless f i n None = tt
op_again_answerless f i n (Some r) = (tt, tt)

by_number_answerless : (f : Frame) (m : Mending) (i : Instance) (n : ℕ) (o : Op) (seen : List ℕ) (s : Store) → AllAnswerless (by_number f m i n o seen s)
by_number_answerless f m i n o seen s =
    elim (n == i.work.ops) as (λ b. AllAnswerless (elim b [ true ↦ sends (op_again f i n i.answered) s | false ↦ elim (n == i.work.ops + 1) [ true ↦ executes f m i o seen s | false ↦ quiet s ] ])) [
      | true ↦ op_again_answerless f i n i.answered
      | false ↦ elim (n == i.work.ops + 1) as (λ b. AllAnswerless (elim b [ true ↦ executes f m i o seen s | false ↦ quiet s ])) [
        | true ↦ executes_answerless f m i o seen s
        | false ↦ tt
      ]
    ]

on_op_at_answerless : (f : Frame) (m : Mending) (i : Instance) (g : Stage) (n : ℕ) (o : Op) (seen : List ℕ) (s : Store) → AllAnswerless (on_op_at f m i g n o seen s)
on_op_at_answerless f m i stage.Running n o seen s = by_number_answerless f m i n o seen s
on_op_at_answerless f m i (stage.Closing made a) n o seen s = tt
on_op_at_answerless f m i (stage.Closed a) n o seen s = tt

on_op_of_answerless : (f : Frame) (m : Mending) (i : Option Instance) (n : ℕ) (o : Op) (seen : List ℕ) (s : Store) → AllAnswerless (on_op_of f m i n o seen s)
on_op_of_answerless f m None n o seen s = tt
on_op_of_answerless f m (Some i) n o seen s = on_op_at_answerless f m i i.stage n o seen s

pub on_op_answerless : (f : Frame) (m : Mending) (inst : Serial) (n : ℕ) (o : Op) (seen : List ℕ) (s : Store) → AllAnswerless (on_op f m inst n o seen s)
on_op_answerless f m inst n o seen s = on_op_of_answerless f m (instance_of s inst) n o seen s

pub on_read_held_answerless : (f : Frame) (inst : Serial) (n at len : ℕ) (s : Store) → AllAnswerless (on_read_held f inst n at len s)
on_read_held_answerless f inst n at len s = held_read_sent Answerless f (λ to serial m r. tt) (λ to serial m l. tt) inst n at len s

-- ---- the law of the other roles, kind by kind ----

request_answers_none : (b : Body) → IsUserRequest b → AnswersNone b
request_answers_none (body.Open serial call process request file how) h = tt
request_answers_none (body.Look call process request take file what) h = tt
request_answers_none _ h = absurd h

user_answers_none : (b : Body) → IsOfUser b → AnswersNone b
user_answers_none (body.Op serial n o seen) h = tt
user_answers_none (body.ReadHeld serial n at len) h = tt
user_answers_none (body.Close serial) h = tt
user_answers_none _ h = absurd h

reader_answers_none : (b : Body) → IsOfReader b → AnswersNone b
reader_answers_none (body.LookDone call request take answer) h = tt
reader_answers_none (body.Pull file stamp page) h = tt
reader_answers_none (body.Want file wanted own) h = tt
reader_answers_none _ h = absurd h

abbrev pub answering : Law
answering = body_law AnswersNone (λ t. Unit {0}) (λ w. Unit {0})

users : (f : Frame) → UsersKeep answering f
users f = record { asks = λ group to b h e. request_answers_none b h; sends = λ to b h. user_answers_none b h; tells = λ t h. tt; unwritten = tt }

pub readers : (f : Frame) → ReadersKeep answering f
readers f = record { sends = λ to b h. reader_answers_none b h; unwritten = tt }

-- ---- looks and pulls ----

pub back : (b : Body) → IsStoreAnswer b → AnswersNone b
back (body.Page file stamp page bytes) h = tt
back (body.Delta file wanted pages) h = tt
back (body.Have file stamp) h = tt
back _ h = absurd h

pub pull_repeats_answerless : (f : Frame) (ps : List Pull) → Every Answerless (pull_repeats f ps)
pull_repeats_answerless f ps = pull_repeats_walk answering f (readers f) ps

-- ---- the using site ----

pub users_repeats_answerless : (f : Frame) (u : Users) → Every Answerless (users_repeats f u)
users_repeats_answerless f u = users_repeats_walk answering f (users f) u

pub on_call_answerless : (f : Frame) (now : Option EpochId) (process : ℕ) (words : Call) (u : Users) → AllAnswerless (on_call f now process words u)
on_call_answerless f now process words u = (on_call_walk answering f (users f) now process words u (λ n. tt)).0

pub on_open_done_answerless : (f : Frame) (kept : FileId → List Stamp) (serial : ℕ) (a : Granted) (u : Users) → AllAnswerless (on_open_done f kept serial a u)
on_open_done_answerless f kept serial a u = (on_open_done_walk answering f (users f) kept serial a u).0

pub on_op_done_answerless : (f : Frame) (serial n : ℕ) (r : Result) (u : Users) → AllAnswerless (on_op_done f serial n r u)
on_op_done_answerless f serial n r u = (on_op_done_walk answering f (users f) serial n r u).0

pub on_as_held_answerless : (f : Frame) (serial n : ℕ) (u : Users) → AllAnswerless (on_as_held f serial n u)
on_as_held_answerless f serial n u = (on_as_held_walk answering f (users f) serial n u).0

pub on_close_done_answerless : (f : Frame) (serial : ℕ) (a : CloseAnswer) (u : Users) → AllAnswerless (on_close_done f serial a u)
on_close_done_answerless f serial a u = (on_close_done_walk answering f (users f) serial a u).0

pub on_look_done_answerless : (f : Frame) (n request take : ℕ) (a : LookAnswer) (u : Users) → AllAnswerless (on_look_done f n request take a u)
on_look_done_answerless f n request take a u = (on_look_done_walk answering f (users f) n request take a u).0
