-- What the storage site, the using site and a site that pulls do in an epoch keep each law by kinds.
use Rattle.std.proofs.Common.{ℕ, ◌+◌, ◌==◌, true, false, List, [], ◌∷◌, ◌++◌, Option, Some, None}
use Rattle.locus_ids.specs.declared.ids.EpochId.{EpochId}
use Rattle.locus_ids.specs.declared.ids.FileId.{FileId}
use Rattle.locus_ids.specs.declared.ids.Serial.{Serial}
use Rattle.locus_ids.specs.declared.ids.Stamp.{Stamp}
use Rattle.locus_ids.specs.declared.ids.Mode.{Mode}
use Rattle.locus_ids.specs.declared.ids.Mode.TheVariants as mode
use Rattle.locus_ids.specs.declared.refusal.Refusal.TheVariants as refusal
use Rattle.role_steps.specs.of_commit_graph.Versions.{same_stamp}
use Rattle.role_steps.specs.of_trace_book.declared.call.Call.{Call}
use Rattle.role_steps.specs.of_trace_book.declared.operation.Op.{Op}
use Rattle.role_steps.specs.of_trace_book.declared.operation.Op.TheVariants as op
use Rattle.role_steps.specs.of_trace_book.declared.operation.Outcome.{Outcome as Result}
use Rattle.role_steps.specs.of_trace_book.declared.operation.Outcome.TheVariants as result
use Rattle.role_steps.specs.of_call_rules.declared.answer.Answer.{Answer}
use Rattle.role_steps.specs.of_call_rules.declared.want.Want.{Want}
use Rattle.role_steps.specs.of_call_rules.declared.want.Want.TheVariants as want
use Rattle.role_steps.specs.of_file_effects.Effects.{Effect}
use Rattle.role_steps.specs.of_file_effects.Works.{counted}
use Rattle.role_steps.specs.of_wire_messages.declared.body.Body.{Body}
use Rattle.role_steps.specs.of_wire_messages.declared.body.Body.TheVariants as body
use Rattle.role_steps.specs.of_wire_messages.declared.body.CloseAnswer.{CloseAnswer}
use Rattle.role_steps.specs.of_wire_messages.declared.body.CloseAnswer.TheVariants as closing
use Rattle.role_steps.specs.of_wire_messages.declared.body.LookAnswer.{LookAnswer}
use Rattle.role_steps.specs.of_wire_messages.declared.body.LookAnswer.TheVariants as looked
use Rattle.role_steps.specs.of_wire_messages.declared.body.Granted.{Granted}
use Rattle.role_steps.specs.of_wire_messages.declared.body.Granted.TheVariants as granted
use Rattle.role_steps.specs.Own.{Every}
use Rattle.role_steps.specs.Tables.{first_that}
use Rattle.role_steps.specs.Views.{Frame, Store, Users, quiet, sends, and_then, packet, to_sync}
use Rattle.role_steps.specs.Versions.{is_below}
use Rattle.role_steps.specs.Looks.{LookRequest}
use Rattle.role_steps.specs.Storage.{StoreRequest, copy_of, instance_of, is_open, opened_packets, own_ino, opens, opens_made, on_open_ss_of, on_open_ss, is_spent, commits, next_stamp, next_vector, shuts, shuts_again, closes_owing, closes, on_close_at, on_close_of, on_close, ends_at, on_closed_ok_of, on_closed_ok, on_look_ss, has_page, pulled_page, on_pull, wanted_delta, on_want, closed_again, store_repeats}
use Rattle.role_steps.specs.Operations.{acts, acts_committed, commits_owing, last_committed, commit_op, executes_effect, executes, op_again, by_number, on_op_at, on_op_of, on_op, on_read_held}
use Rattle.role_steps.specs.OperationEffects.{Mending, effect_of}
use Rattle.role_steps.specs.Pulling.{pull_of, pull_packets, is_complete, next_asked, goes_on as pulls_on, pull_over, begins_pull, replaces_pull, on_notify, pages_in, is_delta, on_delta_of, on_delta, is_awaited, on_page_of, on_page, pull_repeats}
use Rattle.role_steps.specs.Requests.{request_packets, operation_body, asks_op_of, asks_close_of, user_instance, users_repeats}
use Rattle.role_steps.specs.Using.{with_brought, content_answer, asks_want, next_want, goes_on, on_call, counted_call, accepted_call, accept_record, takes_answer, takes_copied, with_answer, takes_open, on_open_done_of, on_open_done, on_op_done_of, on_as_held_of, on_op_done, on_as_held, on_close_done_of, on_close_done, looks_again, takes_look, on_look_done_of, on_look_done, asks_open_of, asks_op_number, asks_held_number, asks_take}
use Rattle.role_steps.specs.Using as using
use Rattle.role_steps.specs.declared.copies.FileCopy.{FileCopy}
use Rattle.role_steps.specs.declared.instances.Instance.{Instance}
use Rattle.role_steps.specs.declared.instances.Stage.{Stage}
use Rattle.role_steps.specs.declared.instances.Stage.TheVariants as stage
use Rattle.role_steps.specs.declared.pulls.Pull.{Pull}
use Rattle.role_steps.specs.declared.users.Asking.{Asking}
use Rattle.role_steps.specs.declared.users.Asking.TheVariants as asking
use Rattle.role_steps.specs.declared.users.WaitingCall.{WaitingCall}
use Rattle.the_run.proofs.SyncWalks.{sync_walk}
use Rattle.role_steps.specs.declared.users.UserInstance.{UserInstance}
use Rattle.role_steps.proofs.HeldReads.{held_read_so}
use Rattle.role_steps.proofs.Sending.{every_cond, every_flat_map}
use Rattle.the_run.specs.Kinds.{IsOfReader, IsStoreRequest, IsUserRequest, IsOfUser}
use Rattle.the_run.specs.KindLaws.{Law, ReadersKeep, StoresKeep, UsersKeep, VersionsKeep, Part}

-- ---- requests ----

pub asks_walk : (law : Law) (f : Frame) (kinds : StoresKeep law f) (group : ℕ) (b : Body) → IsStoreRequest b → Every law.sent (to_sync f group b)
asks_walk law f kinds group b h = sync_walk law f group b (λ to e. kinds.asks group to b h e)

user_asks_walk : (law : Law) (f : Frame) (kinds : UsersKeep law f) (group : ℕ) (b : Body) → IsUserRequest b → Every law.sent (to_sync f group b)
user_asks_walk law f kinds group b h = sync_walk law f group b (λ to e. kinds.asks group to b h e)

-- ---- opens ----

opens_made_walk : (law : Law) (f : Frame) (kinds : StoresKeep law f) (r : StoreRequest) (o : Option ℕ) (s : Store) → Part law (opens_made f r o s)
opens_made_walk law f kinds r None s = (asks_walk law f kinds r.file.group _ tt, tt, kinds.unwritten)
opens_made_walk law f kinds r (Some ino) s = (asks_walk law f kinds r.file.group _ tt, (kinds.tells _ tt, (kinds.tells _ tt, tt)), kinds.unwritten)

opens_walk : (law : Law) (f : Frame) (kinds : StoresKeep law f) (r : StoreRequest) (m : Mode) (s : Store) → Part law (opens f r m s)
opens_walk law f kinds r mode.Make s = opens_made_walk law f kinds r (own_ino s r.file.group f.me) s
opens_walk law f kinds r mode.Read s = (asks_walk law f kinds r.file.group _ tt, (kinds.tells _ tt, tt), kinds.unwritten)
opens_walk law f kinds r mode.Write s = (asks_walk law f kinds r.file.group _ tt, (kinds.tells _ tt, tt), kinds.unwritten)
opens_walk law f kinds r mode.Resolve s = (asks_walk law f kinds r.file.group _ tt, (kinds.tells _ tt, tt), kinds.unwritten)
opens_walk law f kinds r mode.Mend s = (asks_walk law f kinds r.file.group _ tt, (kinds.tells _ tt, tt), kinds.unwritten)

on_open_ss_of_walk : (law : Law) (f : Frame) (kinds : StoresKeep law f) (r : StoreRequest) (o : Option Instance) (s : Store) → Part law (on_open_ss_of f r o s)
on_open_ss_of_walk law f kinds r None s = opens_walk law f kinds r r.mode s
on_open_ss_of_walk law f kinds r (Some i) s = (every_cond law.sent (is_open i.stage) (opened_packets f i) [] (asks_walk law f kinds i.file.group _ tt) tt, tt, kinds.unwritten)

pub on_open_ss_walk : (law : Law) (f : Frame) (kinds : StoresKeep law f) (r : StoreRequest) (s : Store) → Part law (on_open_ss f r s)
on_open_ss_walk law f kinds r s = on_open_ss_of_walk law f kinds r (instance_of s r.inst) s

-- ---- closes ----

shuts_walk : (law : Law) (f : Frame) (kinds : StoresKeep law f) (i : Instance) (a : CloseAnswer) (s : Store) → Part law (shuts f i a s)
shuts_walk law f kinds i a s = (asks_walk law f kinds i.file.group _ tt, (kinds.tells _ tt, tt), kinds.unwritten)

shuts_again_walk : (law : Law) (f : Frame) (kinds : StoresKeep law f) (a : CloseAnswer) (o : Option Instance) (s : Store) → Part law (shuts_again f a o s)
shuts_again_walk law f kinds a None s = (tt, tt, kinds.unwritten)
shuts_again_walk law f kinds a (Some i) s = shuts_walk law f kinds i a s

closes_owing_walk : (law : Law) (f : Frame) (kinds : StoresKeep law f) (versions : VersionsKeep law) (i : Instance) (s : Store) → Part law (closes_owing f i s)
closes_owing_walk law f kinds versions i s =
    let a : CloseAnswer = closing.Made (next_stamp f (next_vector f i)) in
    let now : Store = (commits f i s).view in
    let e : Part law (shuts_again f a (instance_of now i.inst) now) = shuts_again_walk law f kinds a (instance_of now i.inst) now in
    elim (is_spent f i) as (λ b. Part law (elim b [ true ↦ shuts f i (closing.No refusal.Spent) s | false ↦ and_then (commits f i s) (λ now. shuts_again f (closing.Made (next_stamp f (next_vector f i))) (instance_of now i.inst) now) ])) [
      | true ↦ shuts_walk law f kinds i (closing.No refusal.Spent) s
      | false ↦ (e.0, (versions.tells _ tt, e.1), versions.writes _ tt)
    ]

closes_walk : (law : Law) (f : Frame) (kinds : StoresKeep law f) (versions : VersionsKeep law) (i : Instance) (s : Store) → Part law (closes f i s)
closes_walk law f kinds versions i s =
    elim i.work.owes as (λ b. Part law (elim b [ true ↦ closes_owing f i s | false ↦ shuts f i closing.Nothing s ])) [
      | true ↦ closes_owing_walk law f kinds versions i s
      | false ↦ shuts_walk law f kinds i closing.Nothing s
    ]

on_close_at_walk : (law : Law) (f : Frame) (kinds : StoresKeep law f) (versions : VersionsKeep law) (i : Instance) (g : Stage) (s : Store) → Part law (on_close_at f i g s)
on_close_at_walk law f kinds versions i stage.Running s = closes_walk law f kinds versions i s
on_close_at_walk law f kinds versions i (stage.Closing made a) s = (asks_walk law f kinds i.file.group _ tt, tt, kinds.unwritten)
on_close_at_walk law f kinds versions i (stage.Closed a) s = ((kinds.sends _ _ tt, tt), tt, kinds.unwritten)

on_close_of_walk : (law : Law) (f : Frame) (kinds : StoresKeep law f) (versions : VersionsKeep law) (o : Option Instance) (s : Store) → Part law (on_close_of f o s)
on_close_of_walk law f kinds versions None s = (tt, tt, kinds.unwritten)
on_close_of_walk law f kinds versions (Some i) s = on_close_at_walk law f kinds versions i i.stage s

pub on_close_walk : (law : Law) (f : Frame) (kinds : StoresKeep law f) (versions : VersionsKeep law) (inst : Serial) (s : Store) → Part law (on_close f inst s)
on_close_walk law f kinds versions inst s = on_close_of_walk law f kinds versions (instance_of s inst) s

ends_at_walk : (law : Law) (f : Frame) (kinds : StoresKeep law f) (i : Instance) (g : Stage) (s : Store) → Part law (ends_at f i g s)
ends_at_walk law f kinds i stage.Running s = (tt, tt, kinds.unwritten)
ends_at_walk law f kinds i (stage.Closing made a) s = ((kinds.sends _ _ tt, tt), tt, kinds.unwritten)
ends_at_walk law f kinds i (stage.Closed a) s = (tt, tt, kinds.unwritten)

on_closed_ok_of_walk : (law : Law) (f : Frame) (kinds : StoresKeep law f) (o : Option Instance) (s : Store) → Part law (on_closed_ok_of f o s)
on_closed_ok_of_walk law f kinds None s = (tt, tt, kinds.unwritten)
on_closed_ok_of_walk law f kinds (Some i) s = ends_at_walk law f kinds i i.stage s

pub on_closed_ok_walk : (law : Law) (f : Frame) (kinds : StoresKeep law f) (inst : Serial) (s : Store) → Part law (on_closed_ok f inst s)
on_closed_ok_walk law f kinds inst s = on_closed_ok_of_walk law f kinds (instance_of s inst) s

-- ---- looks and pulls ----

pub on_look_ss_walk : (law : Law) (f : Frame) (kinds : ReadersKeep law f) (us : ℕ) (l : LookRequest) (stamp : Stamp) (s : Store) → Part law (on_look_ss f us l stamp s)
on_look_ss_walk law f kinds us l stamp s = ((kinds.sends _ _ tt, tt), tt, kinds.unwritten)

pulled_page_walk : (law : Law) (f : Frame) (kinds : ReadersKeep law f) (from : ℕ) (file : FileId) (stamp : Stamp) (page : ℕ) (back : (bytes : List ℕ) → law.sent (packet f from (body.Page file stamp page bytes))) (o : Option FileCopy) → Every law.sent (pulled_page f from file stamp page o)
pulled_page_walk law f kinds from file stamp page back None = tt
pulled_page_walk law f kinds from file stamp page back (Some x) = every_cond law.sent (has_page stamp page x) _ [] (back _, tt) tt

pub on_pull_walk : (law : Law) (f : Frame) (kinds : ReadersKeep law f) (from : ℕ) (file : FileId) (stamp : Stamp) (page : ℕ) (back : (bytes : List ℕ) → law.sent (packet f from (body.Page file stamp page bytes))) (s : Store) → Part law (on_pull f from file stamp page s)
on_pull_walk law f kinds from file stamp page back s = (pulled_page_walk law f kinds from file stamp page back (copy_of s file), tt, kinds.unwritten)

wanted_delta_walk : (law : Law) (f : Frame) (kinds : ReadersKeep law f) (from : ℕ) (file : FileId) (wanted own : Stamp) (s : Store) (back : (pages : List ℕ) → law.sent (packet f from (body.Delta file wanted pages))) (o : Option FileCopy) → Every law.sent (wanted_delta f from file wanted own s o)
wanted_delta_walk law f kinds from file wanted own s back None = tt
wanted_delta_walk law f kinds from file wanted own s back (Some x) = every_cond law.sent (same_stamp x.stamp wanted) _ [] (back _, tt) tt

pub on_want_walk : (law : Law) (f : Frame) (kinds : ReadersKeep law f) (from : ℕ) (file : FileId) (wanted own : Stamp) (back : (pages : List ℕ) → law.sent (packet f from (body.Delta file wanted pages))) (s : Store) → Part law (on_want f from file wanted own s)
on_want_walk law f kinds from file wanted own back s = (wanted_delta_walk law f kinds from file wanted own s back (copy_of s file), tt, kinds.unwritten)

closed_again_walk : (law : Law) (f : Frame) (kinds : StoresKeep law f) (i : Instance) (g : Stage) → Every law.sent (closed_again f i g)
closed_again_walk law f kinds i stage.Running = tt
closed_again_walk law f kinds i (stage.Closing made a) = asks_walk law f kinds i.file.group _ tt
closed_again_walk law f kinds i (stage.Closed a) = tt

pub store_repeats_walk : (law : Law) (f : Frame) (kinds : StoresKeep law f) (s : Store) → Every law.sent (store_repeats f s)
store_repeats_walk law f kinds s = every_flat_map law.sent (λ (i : Instance). closed_again f i i.stage) s.instances (λ i. closed_again_walk law f kinds i i.stage)

-- ---- operations ----

executes_effect_walk : (law : Law) (f : Frame) (kinds : StoresKeep law f) (i : Instance) (o : Op) (e : Option Effect) (s : Store) → Part law (executes_effect f i o e s)
executes_effect_walk law f kinds i o None s = (tt, tt, kinds.unwritten)
executes_effect_walk law f kinds i o (Some e) s = ((kinds.sends _ _ tt, tt), (kinds.tells _ tt, tt), kinds.unwritten)

acts_committed_walk : (law : Law) (f : Frame) (kinds : StoresKeep law f) (stamp : Stamp) (o : Option Instance) (s : Store) → Part law (acts_committed f stamp o s)
acts_committed_walk law f kinds stamp None s = (tt, tt, kinds.unwritten)
acts_committed_walk law f kinds stamp (Some i) s = ((kinds.sends _ _ tt, tt), (kinds.tells _ tt, tt), kinds.unwritten)

commits_owing_walk : (law : Law) (f : Frame) (kinds : StoresKeep law f) (versions : VersionsKeep law) (i : Instance) (s : Store) → Part law (commits_owing f i s)
commits_owing_walk law f kinds versions i s =
    let stamp : Stamp = next_stamp f (next_vector f i) in
    let now : Store = (commits f i s).view in
    let e : Part law (acts_committed f stamp (instance_of now i.inst) now) = acts_committed_walk law f kinds stamp (instance_of now i.inst) now in
    elim (is_spent f i) as (λ b. Part law (elim b [ true ↦ acts f i op.Commit (result.No refusal.Spent) (counted i.work) s | false ↦ and_then (commits f i s) (λ now. acts_committed f (next_stamp f (next_vector f i)) (instance_of now i.inst) now) ])) [
      | true ↦ ((kinds.sends _ _ tt, tt), (kinds.tells _ tt, tt), kinds.unwritten)
      | false ↦ (e.0, (versions.tells _ tt, e.1), versions.writes _ tt)
    ]

last_committed_walk : (law : Law) (f : Frame) (kinds : StoresKeep law f) (i : Instance) (o : Option Stamp) (s : Store) → Part law (last_committed f i o s)
last_committed_walk law f kinds i None s = (tt, tt, kinds.unwritten)
last_committed_walk law f kinds i (Some stamp) s = ((kinds.sends _ _ tt, tt), (kinds.tells _ tt, tt), kinds.unwritten)

commit_op_walk : (law : Law) (f : Frame) (kinds : StoresKeep law f) (versions : VersionsKeep law) (i : Instance) (s : Store) → Part law (commit_op f i s)
commit_op_walk law f kinds versions i s =
    elim i.work.owes as (λ b. Part law (elim b [ true ↦ commits_owing f i s | false ↦ last_committed f i i.work.last s ])) [
      | true ↦ commits_owing_walk law f kinds versions i s
      | false ↦ last_committed_walk law f kinds i i.work.last s
    ]

executes_walk : (law : Law) (f : Frame) (kinds : StoresKeep law f) (versions : VersionsKeep law) (m : Mending) (i : Instance) (o : Op) (seen : List ℕ) (s : Store) → Part law (executes f m i o seen s)
executes_walk law f kinds versions m i op.Commit seen s = commit_op_walk law f kinds versions i s
executes_walk law f kinds versions m i op.Abort seen s = ((kinds.sends _ _ tt, tt), (kinds.tells _ tt, tt), kinds.unwritten)
executes_walk law f kinds versions m i (op.Probe name) seen s = executes_effect_walk law f kinds i (op.Probe name) (effect_of (op.Probe name) seen m i.work.content) s
executes_walk law f kinds versions m i (op.Find component) seen s = executes_effect_walk law f kinds i (op.Find component) (effect_of (op.Find component) seen m i.work.content) s
executes_walk law f kinds versions m i (op.Insert name ino kind) seen s = executes_effect_walk law f kinds i (op.Insert name ino kind) (effect_of (op.Insert name ino kind) seen m i.work.content) s
executes_walk law f kinds versions m i (op.Remove name ino) seen s = executes_effect_walk law f kinds i (op.Remove name ino) (effect_of (op.Remove name ino) seen m i.work.content) s
executes_walk law f kinds versions m i (op.Rename component name) seen s = executes_effect_walk law f kinds i (op.Rename component name) (effect_of (op.Rename component name) seen m i.work.content) s
executes_walk law f kinds versions m i op.Empty seen s = executes_effect_walk law f kinds i op.Empty (effect_of op.Empty seen m i.work.content) s
executes_walk law f kinds versions m i (op.Read at len) seen s = executes_effect_walk law f kinds i (op.Read at len) (effect_of (op.Read at len) seen m i.work.content) s
executes_walk law f kinds versions m i (op.Write at bytes) seen s = executes_effect_walk law f kinds i (op.Write at bytes) (effect_of (op.Write at bytes) seen m i.work.content) s
executes_walk law f kinds versions m i (op.Cut len) seen s = executes_effect_walk law f kinds i (op.Cut len) (effect_of (op.Cut len) seen m i.work.content) s
executes_walk law f kinds versions m i op.Mend seen s = executes_effect_walk law f kinds i op.Mend (effect_of op.Mend seen m i.work.content) s

op_again_walk : (law : Law) (f : Frame) (kinds : StoresKeep law f) (i : Instance) (n : ℕ) (o : Option Result) → Every law.sent (op_again f i n o)
op_again_walk law f kinds i n None = tt
op_again_walk law f kinds i n (Some r) = (kinds.sends _ _ tt, tt)

by_number_walk : (law : Law) (f : Frame) (kinds : StoresKeep law f) (versions : VersionsKeep law) (m : Mending) (i : Instance) (n : ℕ) (o : Op) (seen : List ℕ) (s : Store) → Part law (by_number f m i n o seen s)
by_number_walk law f kinds versions m i n o seen s =
    elim (n == i.work.ops) as (λ b. Part law (elim b [ true ↦ sends (op_again f i n i.answered) s | false ↦ elim (n == i.work.ops + 1) [ true ↦ executes f m i o seen s | false ↦ quiet s ] ])) [
      | true ↦ (op_again_walk law f kinds i n i.answered, tt, kinds.unwritten)
      | false ↦ elim (n == i.work.ops + 1) as (λ b. Part law (elim b [ true ↦ executes f m i o seen s | false ↦ quiet s ])) [
        | true ↦ executes_walk law f kinds versions m i o seen s
        | false ↦ (tt, tt, kinds.unwritten)
      ]
    ]

on_op_at_walk : (law : Law) (f : Frame) (kinds : StoresKeep law f) (versions : VersionsKeep law) (m : Mending) (i : Instance) (g : Stage) (n : ℕ) (o : Op) (seen : List ℕ) (s : Store) → Part law (on_op_at f m i g n o seen s)
on_op_at_walk law f kinds versions m i stage.Running n o seen s = by_number_walk law f kinds versions m i n o seen s
on_op_at_walk law f kinds versions m i (stage.Closing made a) n o seen s = (tt, tt, kinds.unwritten)
on_op_at_walk law f kinds versions m i (stage.Closed a) n o seen s = (tt, tt, kinds.unwritten)

on_op_of_walk : (law : Law) (f : Frame) (kinds : StoresKeep law f) (versions : VersionsKeep law) (m : Mending) (i : Option Instance) (n : ℕ) (o : Op) (seen : List ℕ) (s : Store) → Part law (on_op_of f m i n o seen s)
on_op_of_walk law f kinds versions m None n o seen s = (tt, tt, kinds.unwritten)
on_op_of_walk law f kinds versions m (Some i) n o seen s = on_op_at_walk law f kinds versions m i i.stage n o seen s

pub on_op_walk : (law : Law) (f : Frame) (kinds : StoresKeep law f) (versions : VersionsKeep law) (m : Mending) (inst : Serial) (n : ℕ) (o : Op) (seen : List ℕ) (s : Store) → Part law (on_op f m inst n o seen s)
on_op_walk law f kinds versions m inst n o seen s = on_op_of_walk law f kinds versions m (instance_of s inst) n o seen s

pub on_read_held_walk : (law : Law) (f : Frame) (kinds : StoresKeep law f) (inst : Serial) (n at len : ℕ) (s : Store) → Part law (on_read_held f inst n at len s)
on_read_held_walk law f kinds inst n at len s =
    held_read_so law.sent law.told law.written f (record { full = λ to serial n r. kinds.sends to _ tt; held = λ to serial n len. kinds.sends to _ tt; told = λ i n o r. kinds.tells _ tt; unwritten = kinds.unwritten }) inst n at len s

-- ---- pulls ----

asked_of_reader : (p : Pull) (base : Option Stamp) (wanted : Option (List ℕ)) → IsOfReader (next_asked p base wanted)
asked_of_reader p None wanted = tt
asked_of_reader p (Some own) None = tt
asked_of_reader p (Some own) (Some pages) = tt

pull_walk : (law : Law) (f : Frame) (kinds : ReadersKeep law f) (p : Pull) → Every law.sent (pull_packets f p)
pull_walk law f kinds p = every_cond law.sent (is_complete p) [] _ tt (kinds.sends _ _ (asked_of_reader p p.base p.wanted), tt)

begins_pull_walk : (law : Law) (f : Frame) (kinds : ReadersKeep law f) (own : Option FileCopy) (p : Pull) (ps : List Pull) → Part law (begins_pull f own p ps)
begins_pull_walk law f kinds own p ps =
    elim (replaces_pull own p (pull_of ps p.file)) as (λ b. Part law (elim b [ true ↦ pulls_on f (pull_over own p) ps | false ↦ quiet ps ])) [ true ↦ (pull_walk law f kinds (pull_over own p), tt, kinds.unwritten) | false ↦ (tt, tt, kinds.unwritten) ]

pub on_notify_walk : (law : Law) (f : Frame) (kinds : ReadersKeep law f) (from : ℕ) (o : Option FileCopy) (p : Pull) (back : law.sent (packet f from (body.Have p.file p.stamp))) (ps : List Pull) → Part law (on_notify f from o p ps)
on_notify_walk law f kinds from None p back ps = begins_pull_walk law f kinds None p ps
on_notify_walk law f kinds from (Some own) p back ps =
    elim (same_stamp own.stamp p.stamp) as (λ b. Part law (elim b [ true ↦ sends (packet f from (body.Have p.file p.stamp) ∷ []) ps | false ↦ elim (is_below own.vector p.vector) [ true ↦ begins_pull f (Some own) p ps | false ↦ quiet ps ] ])) [
      | true ↦ ((back, tt), tt, kinds.unwritten)
      | false ↦ elim (is_below own.vector p.vector) as (λ b. Part law (elim b [ true ↦ begins_pull f (Some own) p ps | false ↦ quiet ps ])) [ true ↦ begins_pull_walk law f kinds (Some own) p ps | false ↦ (tt, tt, kinds.unwritten) ]
    ]

on_delta_of_walk : (law : Law) (f : Frame) (kinds : ReadersKeep law f) (own : ℕ) (stamp : Stamp) (pages : List ℕ) (o : Option Pull) (ps : List Pull) → Part law (on_delta_of f own stamp pages o ps)
on_delta_of_walk law f kinds own stamp pages None ps = (tt, tt, kinds.unwritten)
on_delta_of_walk law f kinds own stamp pages (Some p) ps =
    elim (is_delta own p stamp pages) as (λ b. Part law (elim b [ true ↦ pulls_on f (record p { wanted = Some pages }) ps | false ↦ quiet ps ])) [ true ↦ (pull_walk law f kinds (record p { wanted = Some pages }), tt, kinds.unwritten) | false ↦ (tt, tt, kinds.unwritten) ]

pub on_delta_walk : (law : Law) (f : Frame) (kinds : ReadersKeep law f) (own : Option FileCopy) (file : FileId) (stamp : Stamp) (pages : List ℕ) (ps : List Pull) → Part law (on_delta f own file stamp pages ps)
on_delta_walk law f kinds own file stamp pages ps = on_delta_of_walk law f kinds (pages_in own) stamp pages (pull_of ps file) ps

on_page_of_walk : (law : Law) (f : Frame) (kinds : ReadersKeep law f) (stamp : Stamp) (page : ℕ) (bytes : List ℕ) (o : Option Pull) (ps : List Pull) → Part law (on_page_of f stamp page bytes o ps)
on_page_of_walk law f kinds stamp page bytes None ps = (tt, tt, kinds.unwritten)
on_page_of_walk law f kinds stamp page bytes (Some p) ps =
    elim (is_awaited p stamp page bytes) as (λ b. Part law (elim b [ true ↦ pulls_on f (record p { content = p.content ++ bytes }) ps | false ↦ quiet ps ])) [ true ↦ (pull_walk law f kinds (record p { content = p.content ++ bytes }), tt, kinds.unwritten) | false ↦ (tt, tt, kinds.unwritten) ]

pub on_page_walk : (law : Law) (f : Frame) (kinds : ReadersKeep law f) (file : FileId) (stamp : Stamp) (page : ℕ) (bytes : List ℕ) (ps : List Pull) → Part law (on_page f file stamp page bytes ps)
on_page_walk law f kinds file stamp page bytes ps = on_page_of_walk law f kinds stamp page bytes (pull_of ps file) ps

pub pull_repeats_walk : (law : Law) (f : Frame) (kinds : ReadersKeep law f) (ps : List Pull) → Every law.sent (pull_repeats f ps)
pull_repeats_walk law f kinds ps = every_flat_map law.sent (pull_packets f) ps (pull_walk law f kinds)

-- ---- the using site ----

operation_of_user : (copied : Option (List ℕ)) (serial n : ℕ) (o : Op) (seen : List ℕ) → IsOfUser (operation_body copied serial n o seen)
operation_of_user (Some bytes) serial n (op.Read at len) seen = tt
operation_of_user copied serial n o seen = tt

request_walk : (law : Law) (f : Frame) (kinds : UsersKeep law f) (w : WaitingCall) (a : Asking) → Every law.sent (request_packets f w a)
request_walk law f kinds w (asking.Look file what take) = user_asks_walk law f kinds file.group _ tt
request_walk law f kinds w (asking.Open serial file how) = user_asks_walk law f kinds file.group _ tt
request_walk law f kinds w (asking.Op serial ss number o seen) = (kinds.sends _ _ (operation_of_user w.copied serial number o seen), tt)
request_walk law f kinds w (asking.Close serial ss) = (kinds.sends _ _ tt, tt)

pub users_repeats_walk : (law : Law) (f : Frame) (kinds : UsersKeep law f) (u : Users) → Every law.sent (users_repeats f u)
users_repeats_walk law f kinds u = every_flat_map law.sent (λ (w : WaitingCall). request_packets f w w.asking) u.waiting (λ w. request_walk law f kinds w w.asking)

asks_op_walk : (law : Law) (f : Frame) (kinds : UsersKeep law f) (w : WaitingCall) (o : Op) (i : Option UserInstance) (u : Users) → Part law (asks_op_of f w o i u)
asks_op_walk law f kinds w o None u = (tt, tt, kinds.unwritten)
asks_op_walk law f kinds w o (Some i) u = ((kinds.sends _ _ (operation_of_user w.copied _ _ o _), tt), tt, kinds.unwritten)

asks_close_walk : (law : Law) (f : Frame) (kinds : UsersKeep law f) (w : WaitingCall) (i : Option UserInstance) (u : Users) → Part law (asks_close_of f w i u)
asks_close_walk law f kinds w None u = (tt, tt, kinds.unwritten)
asks_close_walk law f kinds w (Some i) u = ((kinds.sends _ _ tt, tt), tt, kinds.unwritten)

asks_want_walk : (law : Law) (f : Frame) (kinds : UsersKeep law f) (w : WaitingCall) (x : Want) (u : Users) → Part law (asks_want f w x u)
asks_want_walk law f kinds w (want.Look file what) u = (user_asks_walk law f kinds file.group _ tt, tt, kinds.unwritten)
asks_want_walk law f kinds w (want.Open file m) u = (user_asks_walk law f kinds file.group _ tt, tt, kinds.unwritten)
asks_want_walk law f kinds w (want.OpenToMend file) u = (user_asks_walk law f kinds file.group _ tt, tt, kinds.unwritten)
asks_want_walk law f kinds w (want.Make group kind sites) u = (user_asks_walk law f kinds group _ tt, tt, kinds.unwritten)
asks_want_walk law f kinds w (want.Do inst o) u = asks_op_walk law f kinds w o (user_instance u inst.serial) u
asks_want_walk law f kinds w (want.Close inst) u = asks_close_walk law f kinds w (user_instance u inst.serial) u
asks_want_walk law f kinds w (want.Give r) u = (tt, (kinds.tells _ tt, tt), kinds.unwritten)
asks_want_walk law f kinds w want.Never u = (tt, tt, kinds.unwritten)

pub goes_on_walk : (law : Law) (f : Frame) (kinds : UsersKeep law f) (w : WaitingCall) (u : Users) → Part law (goes_on f w u)
goes_on_walk law f kinds w u = asks_want_walk law f kinds w (next_want f w u) u

pub on_call_walk : (law : Law) (f : Frame) (kinds : UsersKeep law f) (now : Option EpochId) (process : ℕ) (words : Call) (u : Users) → ((n : ℕ) → law.told (accept_record f.me f.boot process n words)) → Part law (on_call f now process words u)
on_call_walk law f kinds now process words u accept =
    let w : WaitingCall = accepted_call f now process words u in
    let e : Part law (goes_on f w (counted_call f now process words u)) = goes_on_walk law f kinds w (counted_call f now process words u) in
    (e.0, (accept (u.calls + 1), e.1), e.2)

takes_answer_walk : (law : Law) (f : Frame) (kinds : UsersKeep law f) (w : WaitingCall) (a : Answer) (u : Users) → Part law (takes_answer f w a u)
takes_answer_walk law f kinds w a u = let e : Part law (goes_on f (with_answer w a) u) = goes_on_walk law f kinds (with_answer w a) u in (e.0, (kinds.tells _ tt, e.1), e.2)

takes_open_walk : (law : Law) (f : Frame) (kinds : UsersKeep law f) (kept : FileId → List Stamp) (serial : ℕ) (w : WaitingCall) (a : Granted) (u : Users) → Part law (takes_open f kept serial w a u)
takes_open_walk law f kinds kept serial w (granted.Open ss ino size stamp vector) u = takes_answer_walk law f kinds w _ _
takes_open_walk law f kinds kept serial w (granted.No why) u = takes_answer_walk law f kinds w _ u

on_open_done_of_walk : (law : Law) (f : Frame) (kinds : UsersKeep law f) (kept : FileId → List Stamp) (serial : ℕ) (a : Granted) (o : Option WaitingCall) (u : Users) → Part law (on_open_done_of f kept serial a o u)
on_open_done_of_walk law f kinds kept serial a None u = (tt, tt, kinds.unwritten)
on_open_done_of_walk law f kinds kept serial a (Some w) u = takes_open_walk law f kinds kept serial w a u

pub on_open_done_walk : (law : Law) (f : Frame) (kinds : UsersKeep law f) (kept : FileId → List Stamp) (serial : ℕ) (a : Granted) (u : Users) → Part law (on_open_done f kept serial a u)
on_open_done_walk law f kinds kept serial a u = on_open_done_of_walk law f kinds kept serial a (first_that (asks_open_of serial) u.waiting) u

on_op_done_of_walk : (law : Law) (f : Frame) (kinds : UsersKeep law f) (r : Result) (o : Option WaitingCall) (u : Users) → Part law (on_op_done_of f r o u)
on_op_done_of_walk law f kinds r None u = (tt, tt, kinds.unwritten)
on_op_done_of_walk law f kinds r (Some w) u = takes_answer_walk law f kinds w _ _

pub on_op_done_walk : (law : Law) (f : Frame) (kinds : UsersKeep law f) (serial n : ℕ) (r : Result) (u : Users) → Part law (on_op_done f serial n r u)
on_op_done_walk law f kinds serial n r u = on_op_done_of_walk law f kinds r (first_that (asks_op_number serial n r) u.waiting) u

takes_copied_walk : (law : Law) (f : Frame) (kinds : UsersKeep law f) (w : WaitingCall) (copied : Option (List ℕ)) (u : Users) → Part law (takes_copied f w copied u)
takes_copied_walk law f kinds w None u = (tt, tt, kinds.unwritten)
takes_copied_walk law f kinds w (Some bytes) u = takes_answer_walk law f kinds w _ u

on_as_held_of_walk : (law : Law) (f : Frame) (kinds : UsersKeep law f) (o : Option WaitingCall) (u : Users) → Part law (on_as_held_of f o u)
on_as_held_of_walk law f kinds None u = (tt, tt, kinds.unwritten)
on_as_held_of_walk law f kinds (Some w) u = takes_copied_walk law f kinds w w.copied u

pub on_as_held_walk : (law : Law) (f : Frame) (kinds : UsersKeep law f) (serial n : ℕ) (u : Users) → Part law (on_as_held f serial n u)
on_as_held_walk law f kinds serial n u = on_as_held_of_walk law f kinds (first_that (asks_held_number serial n) u.waiting) u

on_close_done_of_walk : (law : Law) (f : Frame) (kinds : UsersKeep law f) (serial : ℕ) (a : CloseAnswer) (o : Option WaitingCall) (u : Users) → Part law (on_close_done_of f serial a o u)
on_close_done_of_walk law f kinds serial a None u = (tt, tt, kinds.unwritten)
on_close_done_of_walk law f kinds serial a (Some w) u = takes_answer_walk law f kinds w _ _

pub on_close_done_walk : (law : Law) (f : Frame) (kinds : UsersKeep law f) (serial : ℕ) (a : CloseAnswer) (u : Users) → Part law (on_close_done f serial a u)
on_close_done_walk law f kinds serial a u = on_close_done_of_walk law f kinds serial a (first_that (using.asks_close_of serial) u.waiting) u

looks_again_walk : (law : Law) (f : Frame) (kinds : UsersKeep law f) (w : WaitingCall) (a : Asking) (u : Users) → Part law (looks_again f w a u)
looks_again_walk law f kinds w (asking.Look file what take) u = (user_asks_walk law f kinds file.group _ tt, (kinds.tells _ tt, tt), kinds.unwritten)
looks_again_walk law f kinds w (asking.Open serial file how) u = (tt, tt, kinds.unwritten)
looks_again_walk law f kinds w (asking.Op serial ss number o seen) u = (tt, tt, kinds.unwritten)
looks_again_walk law f kinds w (asking.Close serial ss) u = (tt, tt, kinds.unwritten)

takes_look_walk : (law : Law) (f : Frame) (kinds : UsersKeep law f) (w : WaitingCall) (a : LookAnswer) (u : Users) → Part law (takes_look f w a u)
takes_look_walk law f kinds w (looked.Found ino kind) u = takes_answer_walk law f kinds w _ u
takes_look_walk law f kinds w (looked.Content bytes) u = takes_answer_walk law f kinds (with_brought w.asking bytes w) (content_answer w.asking bytes) u
takes_look_walk law f kinds w (looked.Stat kind size stamp) u = takes_answer_walk law f kinds w _ u
takes_look_walk law f kinds w looked.Moved u = looks_again_walk law f kinds w w.asking u
takes_look_walk law f kinds w (looked.No why) u = takes_answer_walk law f kinds w _ u

on_look_done_of_walk : (law : Law) (f : Frame) (kinds : UsersKeep law f) (a : LookAnswer) (o : Option WaitingCall) (u : Users) → Part law (on_look_done_of f a o u)
on_look_done_of_walk law f kinds a None u = (tt, tt, kinds.unwritten)
on_look_done_of_walk law f kinds a (Some w) u = takes_look_walk law f kinds w a u

pub on_look_done_walk : (law : Law) (f : Frame) (kinds : UsersKeep law f) (n request take : ℕ) (a : LookAnswer) (u : Users) → Part law (on_look_done f n request take a u)
on_look_done_walk law f kinds n request take a u = on_look_done_of_walk law f kinds a (first_that (asks_take n request take a) u.waiting) u
