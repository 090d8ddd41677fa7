-- What a storage site tells, but where it is asked to open, is neither a begin nor a reserve.
use Rattle.std.proofs.Common.{ℕ, ◌+◌, ◌==◌, true, false, List, Option, Some, None}
use Rattle.locus_ids.specs.declared.ids.Serial.{Serial}
use Rattle.locus_ids.specs.declared.ids.Stamp.{Stamp}
use Rattle.locus_ids.specs.declared.refusal.Refusal.TheVariants as refusal
use Rattle.trace_book.specs.declared.operation.Op.{Op}
use Rattle.trace_book.specs.declared.operation.Op.TheVariants as op
use Rattle.trace_book.specs.declared.operation.Outcome.TheVariants as result
use Rattle.role_steps.specs.of_file_effects.Effects.{Effect}
use Rattle.role_steps.specs.of_file_effects.Works.{counted}
use Rattle.wire_messages.specs.declared.body.CloseAnswer.{CloseAnswer}
use Rattle.wire_messages.specs.declared.body.CloseAnswer.TheVariants as closing
use Rattle.role_steps.specs.Own.{Every}
use Rattle.role_steps.specs.Views.{Frame, Store, Outcome, quiet, sends, and_then}
use Rattle.role_steps.specs.Storage.{instance_of, is_spent, commits, next_stamp, next_vector, shuts, shuts_again, closes_owing, closes, on_close_at, on_close_of, on_close, ends_at, on_closed_ok_of, on_closed_ok}
use Rattle.role_steps.specs.of_dir_format.Entries.{nothing_seen}
use Rattle.role_steps.specs.Operations.{acts, acts_committed, commits_owing, last_committed, commit_op, executes_effect, executes, op_again, by_number, on_op_at, on_op_of, on_op, in_form, nothing_to_mend, on_read_held}
use Rattle.role_steps.specs.OperationEffects.{Mending, effect_of}
use Rattle.role_steps.specs.declared.instances.Instance.{Instance}
use Rattle.role_steps.specs.declared.instances.Stage.{Stage}
use Rattle.role_steps.specs.declared.instances.Stage.TheVariants as stage
use Rattle.site_laws.proofs.Makes.Telling.{Storing}

-- ---- the store ----

abbrev pub StoreTells : Outcome Store → Type 0
StoreTells o = Every Storing o.told

shuts_again_tells : (f : Frame) (a : CloseAnswer) (o : Option Instance) (s : Store) → Every Storing (shuts_again f a o s).told
shuts_again_tells f a None s = tt
shuts_again_tells f a (Some i) s = (tt, tt)

closes_tells : (f : Frame) (i : Instance) (s : Store) → StoreTells (closes f i s)
closes_tells f i s =
    elim i.work.owes as (λ b. StoreTells (elim b [ true ↦ closes_owing f i s | false ↦ shuts f i closing.Nothing s ])) [
      | true ↦ elim (is_spent f i) as (λ b. StoreTells (elim b [ true ↦ shuts f i (closing.No refusal.Spent) s | false ↦ and_then (commits f i s) (λ now. shuts_again f (closing.Made (next_stamp f (next_vector f i))) (instance_of now i.inst) now) ])) [
        | true ↦ (tt, tt)
        | false ↦ (tt, shuts_again_tells f (closing.Made (next_stamp f (next_vector f i))) (instance_of (commits f i s).view i.inst) (commits f i s).view)
      ]
      | false ↦ (tt, tt)
    ]

close_at_tells : (f : Frame) (i : Instance) (g : Stage) (s : Store) → StoreTells (on_close_at f i g s)
close_at_tells f i stage.Running s = closes_tells f i s
close_at_tells f i (stage.Closing made a) s = tt
close_at_tells f i (stage.Closed a) s = tt

close_of_tells : (f : Frame) (o : Option Instance) (s : Store) → StoreTells (on_close_of f o s)
close_of_tells f None s = tt
close_of_tells f (Some i) s = close_at_tells f i i.stage s

pub on_close_tells : (f : Frame) (inst : Serial) (s : Store) → StoreTells (on_close f inst s)
on_close_tells f inst s = close_of_tells f (instance_of s inst) s

ends_at_tells : (f : Frame) (i : Instance) (g : Stage) (s : Store) → StoreTells (ends_at f i g s)
ends_at_tells f i stage.Running s = tt
ends_at_tells f i (stage.Closing made a) s = tt
ends_at_tells f i (stage.Closed a) s = tt

closed_ok_tells : (f : Frame) (o : Option Instance) (s : Store) → StoreTells (on_closed_ok_of f o s)
closed_ok_tells f None s = tt
closed_ok_tells f (Some i) s = ends_at_tells f i i.stage s

pub on_closed_ok_tells : (f : Frame) (inst : Serial) (s : Store) → StoreTells (on_closed_ok f inst s)
on_closed_ok_tells f inst s = closed_ok_tells f (instance_of s inst) s

effect_tells : (f : Frame) (i : Instance) (o : Op) (e : Option Effect) (s : Store) → StoreTells (executes_effect f i o e s)
effect_tells f i o None s = tt
effect_tells f i o (Some e) s = (tt, tt)

committed_tells : (f : Frame) (stamp : Stamp) (o : Option Instance) (s : Store) → Every Storing (acts_committed f stamp o s).told
committed_tells f stamp None s = tt
committed_tells f stamp (Some i) s = (tt, tt)

last_tells : (f : Frame) (i : Instance) (o : Option Stamp) (s : Store) → StoreTells (last_committed f i o s)
last_tells f i None s = tt
last_tells f i (Some stamp) s = (tt, tt)

commit_tells : (f : Frame) (i : Instance) (s : Store) → StoreTells (commit_op f i s)
commit_tells f i s =
    elim i.work.owes as (λ b. StoreTells (elim b [ true ↦ commits_owing f i s | false ↦ last_committed f i i.work.last s ])) [
      | true ↦ elim (is_spent f i) as (λ b. StoreTells (elim b [ true ↦ acts f i op.Commit (result.No refusal.Spent) (counted i.work) s | false ↦ and_then (commits f i s) (λ now. acts_committed f (next_stamp f (next_vector f i)) (instance_of now i.inst) now) ])) [
        | true ↦ (tt, tt)
        | false ↦ (tt, committed_tells f (next_stamp f (next_vector f i)) (instance_of (commits f i s).view i.inst) (commits f i s).view)
      ]
      | false ↦ last_tells f i i.work.last s
    ]

executes_tells : (f : Frame) (m : Mending) (i : Instance) (o : Op) (seen : List ℕ) (s : Store) → StoreTells (executes f m i o seen s)
executes_tells f m i op.Commit seen s = commit_tells f i s
executes_tells f m i op.Abort seen s = (tt, tt)
executes_tells f m i (op.Probe name) seen s = effect_tells f i (op.Probe name) (effect_of (op.Probe name) seen m i.work.content) s
executes_tells f m i (op.Find component) seen s = effect_tells f i (op.Find component) (effect_of (op.Find component) seen m i.work.content) s
executes_tells f m i (op.Insert name ino kind) seen s = effect_tells f i (op.Insert name ino kind) (effect_of (op.Insert name ino kind) seen m i.work.content) s
executes_tells f m i (op.Remove name ino) seen s = effect_tells f i (op.Remove name ino) (effect_of (op.Remove name ino) seen m i.work.content) s
executes_tells f m i (op.Rename component name) seen s = effect_tells f i (op.Rename component name) (effect_of (op.Rename component name) seen m i.work.content) s
executes_tells f m i op.Empty seen s = effect_tells f i op.Empty (effect_of op.Empty seen m i.work.content) s
executes_tells f m i (op.Read at len) seen s = effect_tells f i (op.Read at len) (effect_of (op.Read at len) seen m i.work.content) s
executes_tells f m i (op.Write at bytes) seen s = effect_tells f i (op.Write at bytes) (effect_of (op.Write at bytes) seen m i.work.content) s
executes_tells f m i (op.Cut len) seen s = effect_tells f i (op.Cut len) (effect_of (op.Cut len) seen m i.work.content) s
executes_tells f m i op.Mend seen s = effect_tells f i op.Mend (effect_of op.Mend seen m i.work.content) s

by_number_tells : (f : Frame) (m : Mending) (i : Instance) (n : ℕ) (o : Op) (seen : List ℕ) (s : Store) → StoreTells (by_number f m i n o seen s)
by_number_tells f m i n o seen s =
    elim (n == i.work.ops) as (λ b. StoreTells (elim b [ true ↦ sends (op_again f i n i.answered) s | false ↦ elim (n == i.work.ops + 1) [ true ↦ executes f m i o seen s | false ↦ quiet s ] ])) [
      | true ↦ tt
      | false ↦ elim (n == i.work.ops + 1) as (λ b. StoreTells (elim b [ true ↦ executes f m i o seen s | false ↦ quiet s ])) [ true ↦ executes_tells f m i o seen s | false ↦ tt ]
    ]

op_at_tells : (f : Frame) (m : Mending) (i : Instance) (g : Stage) (n : ℕ) (o : Op) (seen : List ℕ) (s : Store) → StoreTells (on_op_at f m i g n o seen s)
op_at_tells f m i stage.Running n o seen s = by_number_tells f m i n o seen s
op_at_tells f m i (stage.Closing made a) n o seen s = tt
op_at_tells f m i (stage.Closed a) n o seen s = tt

op_of_tells : (f : Frame) (m : Mending) (i : Option Instance) (n : ℕ) (o : Op) (seen : List ℕ) (s : Store) → StoreTells (on_op_of f m i n o seen s)
op_of_tells f m None n o seen s = tt
op_of_tells f m (Some i) n o seen s = op_at_tells f m i i.stage n o seen s

pub on_op_tells : (f : Frame) (m : Mending) (inst : Serial) (n : ℕ) (o : Op) (seen : List ℕ) (s : Store) → StoreTells (on_op f m inst n o seen s)
on_op_tells f m inst n o seen s = op_of_tells f m (instance_of s inst) n o seen s

-- a held read tells what the operation does that it stands for
form_tells : (i : Option Instance) (o : Outcome Store) → StoreTells o → StoreTells (in_form i o)
form_tells None o h = h
form_tells (Some i) o h = h

pub on_read_held_tells : (f : Frame) (inst : Serial) (n at len : ℕ) (s : Store) → StoreTells (on_read_held f inst n at len s)
on_read_held_tells f inst n at len s = form_tells (instance_of s inst) (on_op f nothing_to_mend inst n (op.Read at len) nothing_seen s) (on_op_tells f nothing_to_mend inst n (op.Read at len) nothing_seen s)
