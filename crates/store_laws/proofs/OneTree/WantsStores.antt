-- What a storage site sends but pulls and answers to wants is neither a want nor a delta.
use Rattle.std.proofs.Common.{ℕ, ◌+◌, ◌==◌, true, false, List, [], ◌∷◌, ◌++◌, Option, Some, None}
use Rattle.locus_ids.specs.declared.ids.FileId.{FileId}
use Rattle.locus_ids.specs.declared.ids.Serial.{Serial}
use Rattle.locus_ids.specs.declared.ids.Stamp.{Stamp}
use Rattle.locus_ids.specs.declared.ids.Mode.{Mode}
use Rattle.locus_ids.specs.declared.ids.Mode.TheVariants as mode
use Rattle.locus_ids.specs.declared.refusal.Refusal.TheVariants as refusal
use Rattle.trace_book.specs.declared.operation.Op.{Op}
use Rattle.trace_book.specs.declared.operation.Op.TheVariants as op
use Rattle.trace_book.specs.declared.operation.Outcome.{Outcome as Result}
use Rattle.trace_book.specs.declared.operation.Outcome.TheVariants as result
use Rattle.file_effects.specs.Effects.{Effect}
use Rattle.file_effects.specs.Works.{counted}
use Rattle.wire_messages.specs.declared.packet.Packet.{Packet}
use Rattle.wire_messages.specs.declared.body.Body.TheVariants as body
use Rattle.wire_messages.specs.declared.body.CloseAnswer.{CloseAnswer}
use Rattle.wire_messages.specs.declared.body.CloseAnswer.TheVariants as closing
use Rattle.role_steps.specs.Views.{Frame, Store, quiet, sends, and_then, packet, sync_site, to_some, to_sync}
use Rattle.role_steps.specs.Looks.{LookRequest}
use Rattle.role_steps.specs.Storage.{StoreRequest, copy_of, instance_of, is_open, opened_packets, own_ino, opens, opens_made, on_open_ss_of, on_open_ss, is_spent, commits, next_stamp, next_vector, shuts, shuts_again, closes_owing, closes, on_close_at, on_close_of, on_close, ends_at, on_closed_ok_of, on_closed_ok, on_look_ss, has_page, pulled_page, on_pull, closed_again, store_repeats}
use Rattle.role_steps.specs.Operations.{acts, acts_committed, commits_owing, last_committed, commit_op, executes_effect, executes, op_again, by_number, on_op_at, on_op_of, on_op, on_read_held}
use Rattle.role_steps.specs.OperationEffects.{Mending, effect_of}
use Rattle.role_steps.specs.declared.copies.FileCopy.{FileCopy}
use Rattle.role_steps.specs.declared.instances.Instance.{Instance}
use Rattle.role_steps.specs.declared.instances.Stage.{Stage}
use Rattle.role_steps.specs.declared.instances.Stage.TheVariants as stage
use Rattle.role_steps.specs.Own.{Every}
use Rattle.role_steps.proofs.HeldReads.{held_read_sent}
use Rattle.role_steps.proofs.Sending.{AllSent, every_append, every_cond, every_flat_map, every_map}
use Rattle.wire_messages.specs.declared.body.Body.{Body}
use Rattle.store_laws.specs.OneTree.Wants.{IsPlain}

-- ---- what is neither ----

-- the property holds of each packet of the frame that is neither a want nor a delta
abbrev pub OfPlain : (Packet → Type 0) → Frame → Type 0
OfPlain P f = (to : ℕ) (b : Body) → IsPlain b → P (packet f to b)

plain_some : (P : Packet → Type 0) (f : Frame) → OfPlain P f → (b : Body) → IsPlain b → (o : Option ℕ) → Every P (to_some f b o)
plain_some P f h b k None = tt
plain_some P f h b k (Some to) = (h to b k, tt)

pub plain_sync : (P : Packet → Type 0) (f : Frame) → OfPlain P f → (group : ℕ) (b : Body) → IsPlain b → Every P (to_sync f group b)
plain_sync P f h group b k = plain_some P f h b k (sync_site f.config f.members group)

-- ---- opens ----

opens_made_sent : (P : Packet → Type 0) (f : Frame) → OfPlain P f → (r : StoreRequest) (o : Option ℕ) (s : Store) → AllSent P (opens_made f r o s)
opens_made_sent P f h r None s = plain_sync P f h r.file.group _ tt
opens_made_sent P f h r (Some ino) s = plain_sync P f h r.file.group _ tt

opens_sent : (P : Packet → Type 0) (f : Frame) → OfPlain P f → (r : StoreRequest) (m : Mode) (s : Store) → AllSent P (opens f r m s)
opens_sent P f h r mode.Make s = opens_made_sent P f h r (own_ino s r.file.group f.me) s
opens_sent P f h r mode.Read s = plain_sync P f h r.file.group _ tt
opens_sent P f h r mode.Write s = plain_sync P f h r.file.group _ tt
opens_sent P f h r mode.Resolve s = plain_sync P f h r.file.group _ tt
opens_sent P f h r mode.Mend s = plain_sync P f h r.file.group _ tt

on_open_ss_of_sent : (P : Packet → Type 0) (f : Frame) → OfPlain P f → (r : StoreRequest) (o : Option Instance) (s : Store) → AllSent P (on_open_ss_of f r o s)
on_open_ss_of_sent P f h r None s = opens_sent P f h r r.mode s
on_open_ss_of_sent P f h r (Some i) s = every_cond P (is_open i.stage) (opened_packets f i) [] (plain_sync P f h i.file.group _ tt) tt

pub on_open_ss_sent : (P : Packet → Type 0) (f : Frame) → OfPlain P f → (r : StoreRequest) (s : Store) → AllSent P (on_open_ss f r s)
on_open_ss_sent P f h r s = on_open_ss_of_sent P f h r (instance_of s r.inst) s

-- ---- closes ----

shuts_again_sent : (P : Packet → Type 0) (f : Frame) → OfPlain P f → (a : CloseAnswer) (o : Option Instance) (s : Store) → AllSent P (shuts_again f a o s)
shuts_again_sent P f h a None s = tt
shuts_again_sent P f h a (Some i) s = plain_sync P f h i.file.group _ tt

closes_owing_sent : (P : Packet → Type 0) (f : Frame) → OfPlain P f → (i : Instance) (s : Store) → AllSent P (closes_owing f i s)
closes_owing_sent P f h i s =
    elim (is_spent f i) as (λ b. AllSent P (elim b [ true ↦ shuts f i (closing.No refusal.Spent) s | false ↦ and_then (commits f i s) (λ now. shuts_again f (closing.Made (next_stamp f (next_vector f i))) (instance_of now i.inst) now) ])) [
      | true ↦ plain_sync P f h i.file.group _ tt
      | false ↦ shuts_again_sent P f h (closing.Made (next_stamp f (next_vector f i))) (instance_of (commits f i s).view i.inst) (commits f i s).view
    ]

closes_sent : (P : Packet → Type 0) (f : Frame) → OfPlain P f → (i : Instance) (s : Store) → AllSent P (closes f i s)
closes_sent P f h i s =
    elim i.work.owes as (λ b. AllSent P (elim b [ true ↦ closes_owing f i s | false ↦ shuts f i closing.Nothing s ])) [
      | true ↦ closes_owing_sent P f h i s
      | false ↦ plain_sync P f h i.file.group _ tt
    ]

on_close_at_sent : (P : Packet → Type 0) (f : Frame) → OfPlain P f → (i : Instance) (g : Stage) (s : Store) → AllSent P (on_close_at f i g s)
on_close_at_sent P f h i stage.Running s = closes_sent P f h i s
on_close_at_sent P f h i (stage.Closing made a) s = plain_sync P f h i.file.group _ tt
on_close_at_sent P f h i (stage.Closed a) s = (h _ _ tt, tt)

on_close_of_sent : (P : Packet → Type 0) (f : Frame) → OfPlain P f → (o : Option Instance) (s : Store) → AllSent P (on_close_of f o s)
on_close_of_sent P f h None s = tt
on_close_of_sent P f h (Some i) s = on_close_at_sent P f h i i.stage s

pub on_close_sent : (P : Packet → Type 0) (f : Frame) → OfPlain P f → (inst : Serial) (s : Store) → AllSent P (on_close f inst s)
on_close_sent P f h inst s = on_close_of_sent P f h (instance_of s inst) s

ends_at_sent : (P : Packet → Type 0) (f : Frame) → OfPlain P f → (i : Instance) (g : Stage) (s : Store) → AllSent P (ends_at f i g s)
ends_at_sent P f h i stage.Running s = tt
ends_at_sent P f h i (stage.Closing made a) s = (h _ _ tt, tt)
ends_at_sent P f h i (stage.Closed a) s = tt

on_closed_ok_of_sent : (P : Packet → Type 0) (f : Frame) → OfPlain P f → (o : Option Instance) (s : Store) → AllSent P (on_closed_ok_of f o s)
on_closed_ok_of_sent P f h None s = tt
on_closed_ok_of_sent P f h (Some i) s = ends_at_sent P f h i i.stage s

pub on_closed_ok_sent : (P : Packet → Type 0) (f : Frame) → OfPlain P f → (inst : Serial) (s : Store) → AllSent P (on_closed_ok f inst s)
on_closed_ok_sent P f h inst s = on_closed_ok_of_sent P f h (instance_of s inst) s

-- ---- looks and pulls ----

pub on_look_ss_sent : (P : Packet → Type 0) (f : Frame) → OfPlain P f → (us : ℕ) (l : LookRequest) (stamp : Stamp) (s : Store) → AllSent P (on_look_ss f us l stamp s)
on_look_ss_sent P f h us l stamp s = (h _ _ tt, tt)

pulled_page_sent : (P : Packet → Type 0) (f : Frame) → OfPlain P f → (from : ℕ) (file : FileId) (stamp : Stamp) (page : ℕ) (o : Option FileCopy) → Every P (pulled_page f from file stamp page o)
pulled_page_sent P f h from file stamp page None = tt
pulled_page_sent P f h from file stamp page (Some x) = every_cond P (has_page stamp page x) _ [] (h _ _ tt, tt) tt

pub on_pull_sent : (P : Packet → Type 0) (f : Frame) → OfPlain P f → (from : ℕ) (file : FileId) (stamp : Stamp) (page : ℕ) (s : Store) → AllSent P (on_pull f from file stamp page s)
on_pull_sent P f h from file stamp page s = pulled_page_sent P f h from file stamp page (copy_of s file)

closed_again_sent : (P : Packet → Type 0) (f : Frame) → OfPlain P f → (i : Instance) (g : Stage) → Every P (closed_again f i g)
closed_again_sent P f h i stage.Running = tt
closed_again_sent P f h i (stage.Closing made a) = plain_sync P f h i.file.group _ tt
closed_again_sent P f h i (stage.Closed a) = tt

pub store_repeats_sent : (P : Packet → Type 0) (f : Frame) → OfPlain P f → (s : Store) → Every P (store_repeats f s)
store_repeats_sent P f h s = every_flat_map P (λ (i : Instance). closed_again f i i.stage) s.instances (λ i. closed_again_sent P f h i i.stage)

-- ---- operations ----

executes_effect_sent : (P : Packet → Type 0) (f : Frame) → OfPlain P f → (i : Instance) (o : Op) (e : Option Effect) (s : Store) → AllSent P (executes_effect f i o e s)
executes_effect_sent P f h i o None s = tt
executes_effect_sent P f h i o (Some e) s = (h _ _ tt, tt)

acts_committed_sent : (P : Packet → Type 0) (f : Frame) → OfPlain P f → (stamp : Stamp) (o : Option Instance) (s : Store) → AllSent P (acts_committed f stamp o s)
acts_committed_sent P f h stamp None s = tt
acts_committed_sent P f h stamp (Some i) s = (h _ _ tt, tt)

commits_owing_sent : (P : Packet → Type 0) (f : Frame) → OfPlain P f → (i : Instance) (s : Store) → AllSent P (commits_owing f i s)
commits_owing_sent P f h i s =
    elim (is_spent f i) as (λ b. AllSent P (elim b [ true ↦ acts f i op.Commit (result.No refusal.Spent) (counted i.work) s | false ↦ and_then (commits f i s) (λ now. acts_committed f (next_stamp f (next_vector f i)) (instance_of now i.inst) now) ])) [
      | true ↦ (h _ _ tt, tt)
      | false ↦ acts_committed_sent P f h (next_stamp f (next_vector f i)) (instance_of (commits f i s).view i.inst) (commits f i s).view
    ]

last_committed_sent : (P : Packet → Type 0) (f : Frame) → OfPlain P f → (i : Instance) (o : Option Stamp) (s : Store) → AllSent P (last_committed f i o s)
last_committed_sent P f h i None s = tt
last_committed_sent P f h i (Some stamp) s = (h _ _ tt, tt)

commit_op_sent : (P : Packet → Type 0) (f : Frame) → OfPlain P f → (i : Instance) (s : Store) → AllSent P (commit_op f i s)
commit_op_sent P f h i s =
    elim i.work.owes as (λ b. AllSent P (elim b [ true ↦ commits_owing f i s | false ↦ last_committed f i i.work.last s ])) [
      | true ↦ commits_owing_sent P f h i s
      | false ↦ last_committed_sent P f h i i.work.last s
    ]

executes_sent : (P : Packet → Type 0) (f : Frame) → OfPlain P f → (m : Mending) (i : Instance) (o : Op) (seen : List ℕ) (s : Store) → AllSent P (executes f m i o seen s)
executes_sent P f h m i op.Commit seen s = commit_op_sent P f h i s
executes_sent P f h m i op.Abort seen s = (h _ _ tt, tt)
executes_sent P f h m i (op.Probe name) seen s = executes_effect_sent P f h i (op.Probe name) (effect_of (op.Probe name) seen m i.work.content) s
executes_sent P f h m i (op.Find component) seen s = executes_effect_sent P f h i (op.Find component) (effect_of (op.Find component) seen m i.work.content) s
executes_sent P f h m i (op.Insert name ino kind) seen s = executes_effect_sent P f h i (op.Insert name ino kind) (effect_of (op.Insert name ino kind) seen m i.work.content) s
executes_sent P f h m i (op.Remove name ino) seen s = executes_effect_sent P f h i (op.Remove name ino) (effect_of (op.Remove name ino) seen m i.work.content) s
executes_sent P f h m i (op.Rename component name) seen s = executes_effect_sent P f h i (op.Rename component name) (effect_of (op.Rename component name) seen m i.work.content) s
executes_sent P f h m i op.Empty seen s = executes_effect_sent P f h i op.Empty (effect_of op.Empty seen m i.work.content) s
executes_sent P f h m i (op.Read at len) seen s = executes_effect_sent P f h i (op.Read at len) (effect_of (op.Read at len) seen m i.work.content) s
executes_sent P f h m i (op.Write at bytes) seen s = executes_effect_sent P f h i (op.Write at bytes) (effect_of (op.Write at bytes) seen m i.work.content) s
executes_sent P f h m i (op.Cut len) seen s = executes_effect_sent P f h i (op.Cut len) (effect_of (op.Cut len) seen m i.work.content) s
executes_sent P f h m i op.Mend seen s = executes_effect_sent P f h i op.Mend (effect_of op.Mend seen m i.work.content) s

op_again_sent : (P : Packet → Type 0) (f : Frame) → OfPlain P f → (i : Instance) (n : ℕ) (o : Option Result) → Every P (op_again f i n o)
op_again_sent P f h i n None = tt
op_again_sent P f h i n (Some r) = (h _ _ tt, tt)

by_number_sent : (P : Packet → Type 0) (f : Frame) → OfPlain P f → (m : Mending) (i : Instance) (n : ℕ) (o : Op) (seen : List ℕ) (s : Store) → AllSent P (by_number f m i n o seen s)
by_number_sent P f h m i n o seen s =
    elim (n == i.work.ops) as (λ b. AllSent P (elim b [ true ↦ sends (op_again f i n i.answered) s | false ↦ elim (n == i.work.ops + 1) [ true ↦ executes f m i o seen s | false ↦ quiet s ] ])) [
      | true ↦ op_again_sent P f h i n i.answered
      | false ↦ elim (n == i.work.ops + 1) as (λ b. AllSent P (elim b [ true ↦ executes f m i o seen s | false ↦ quiet s ])) [
        | true ↦ executes_sent P f h m i o seen s
        | false ↦ tt
      ]
    ]

on_op_at_sent : (P : Packet → Type 0) (f : Frame) → OfPlain P f → (m : Mending) (i : Instance) (g : Stage) (n : ℕ) (o : Op) (seen : List ℕ) (s : Store) → AllSent P (on_op_at f m i g n o seen s)
on_op_at_sent P f h m i stage.Running n o seen s = by_number_sent P f h m i n o seen s
on_op_at_sent P f h m i (stage.Closing made a) n o seen s = tt
on_op_at_sent P f h m i (stage.Closed a) n o seen s = tt

on_op_of_sent : (P : Packet → Type 0) (f : Frame) → OfPlain P f → (m : Mending) (i : Option Instance) (n : ℕ) (o : Op) (seen : List ℕ) (s : Store) → AllSent P (on_op_of f m i n o seen s)
on_op_of_sent P f h m None n o seen s = tt
on_op_of_sent P f h m (Some i) n o seen s = on_op_at_sent P f h m i i.stage n o seen s

pub on_op_sent : (P : Packet → Type 0) (f : Frame) → OfPlain P f → (m : Mending) (inst : Serial) (n : ℕ) (o : Op) (seen : List ℕ) (s : Store) → AllSent P (on_op f m inst n o seen s)
on_op_sent P f h m inst n o seen s = on_op_of_sent P f h m (instance_of s inst) n o seen s

pub on_read_held_sent : (P : Packet → Type 0) (f : Frame) → OfPlain P f → (inst : Serial) (n at len : ℕ) (s : Store) → AllSent P (on_read_held f inst n at len s)
on_read_held_sent P f h inst n at len s = held_read_sent P f (λ to serial m r. h to _ tt) (λ to serial m l. h to _ tt) inst n at len s
