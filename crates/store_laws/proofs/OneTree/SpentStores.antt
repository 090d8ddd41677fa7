-- What the store does of each packet tells of no mend that is refused for want of a number.
use Rattle.std.proofs.Common.{◌≡◌, ℕ, ◌+◌, ◌==◌, true, false, List, Option, Some, None, refl, sym, subst}
use Rattle.locus_ids.specs.declared.ids.Serial.{Serial}
use Rattle.locus_ids.specs.declared.ids.Stamp.{Stamp}
use Rattle.locus_ids.specs.declared.ids.Mode.{Mode}
use Rattle.locus_ids.specs.declared.ids.Mode.TheVariants as mode
use Rattle.locus_ids.specs.declared.refusal.Refusal.TheVariants as refusal
use Rattle.trace_book.specs.declared.operation.Op.{Op}
use Rattle.trace_book.specs.declared.operation.Op.TheVariants as op
use Rattle.trace_book.specs.declared.operation.Outcome.{Outcome as Result}
use Rattle.trace_book.specs.declared.operation.Outcome.TheVariants as result
use Rattle.file_effects.specs.Effects.{Effect}
use Rattle.file_effects.specs.Works.{counted, result_in}
use Rattle.wire_messages.specs.declared.packet.Packet.{Packet}
use Rattle.wire_messages.specs.declared.body.CloseAnswer.{CloseAnswer}
use Rattle.wire_messages.specs.declared.body.CloseAnswer.TheVariants as closing
use Rattle.role_steps.specs.Own.{Every}
use Rattle.role_steps.specs.Views.{Frame, Store, Told, Outcome, DiskWrite, quiet, sends, and_then, joined_to, first_written}
use Rattle.role_steps.specs.Storage.{StoreRequest, free_pages, instance_of, own_ino, opens, opens_made, on_open_ss_of, on_open_ss, is_spent, commits, next_stamp, next_vector, shuts, shuts_again, closes_owing, closes, on_close_at, on_close_of, on_close, ends_at, on_closed_ok_of, on_closed_ok}
use Rattle.role_steps.specs.Operations.{acts, acts_committed, commits_owing, last_committed, commit_op, executes_effect, executes, op_again, by_number, on_op_at, on_op_of, on_op, in_form, nothing_to_mend, on_read_held}
use Rattle.role_steps.specs.of_dir_format.Entries.{nothing_seen}
use Rattle.role_steps.specs.OperationEffects.{Mending, effect_of, joined_contents, mend_effect}
use Rattle.role_steps.specs.declared.instances.Instance.{Instance}
use Rattle.role_steps.specs.declared.instances.Stage.{Stage}
use Rattle.role_steps.specs.declared.instances.Stage.TheVariants as stage
use Rattle.role_steps.proofs.Sending.{every_append}
use Rattle.store_laws.specs.OneTree.Rest.{IsSpentMend}
use Rattle.site_laws.specs.Vectors.Facts.{onto}
use Rattle.site_laws.proofs.Makes.RunningSpine.{AllOwed, DiskOwed, Owed, owed_append}
use Rattle.site_laws.proofs.Makes.RunningSpineParts.{Here}
use Rattle.store_laws.specs.OneTree.SpentMends.{MendedTold}
use Rattle.store_laws.proofs.OneTree.SpentRescues.{EffectMended, mend_mended}

-- no mend is told to be refused so
abbrev pub NoneSpent : Owed
NoneSpent past x = MendedTold x

pub record Mended (past : List Told) (f : Frame) (o : Outcome Store) : Type 0 where
  pub owed : AllOwed NoneSpent past o.told
  pub here : Every (Here f.me f.epoch) o.told
  pub disk : DiskOwed NoneSpent f.me past o.written

pub quiet_out : (past : List Told) (f : Frame) (s : Store) → Mended past f (quiet s)
quiet_out past f s = record { owed = tt; here = tt; disk = tt }

sends_out : (past : List Told) (f : Frame) (ps : List Packet) (s : Store) → Mended past f (sends ps s)
sends_out past f ps s = record { owed = tt; here = tt; disk = tt }

-- a version is written, and then something else
then_out : (past : List Told) (f : Frame) (o p : Outcome Store) (x : DiskWrite) → o.written ≡ Some x → Mended past f o → Mended (onto o.told past) f p → Mended past f (joined_to o p)
then_out past f o p x w h g = record {
  owed = owed_append NoneSpent past o.told p.told h.owed g.owed;
  here = every_append (Here f.me f.epoch) o.told p.told h.here g.here;
  disk = subst (λ (d : Option DiskWrite). DiskOwed NoneSpent f.me past (first_written d p.written)) (sym w) (subst (DiskOwed NoneSpent f.me past) w h.disk);
}

-- ---- opens ----

made_out : (past : List Told) (f : Frame) (r : StoreRequest) (o : Option ℕ) (s : Store) → Mended past f (opens_made f r o s)
made_out past f r None s = record { owed = tt; here = tt; disk = tt }
made_out past f r (Some ino) s = record { owed = (tt, (tt, tt)); here = ((refl, refl), ((refl, refl), tt)); disk = tt }

opens_out : (past : List Told) (f : Frame) (r : StoreRequest) (m : Mode) (s : Store) → Mended past f (opens f r m s)
opens_out past f r mode.Make s = made_out past f r (own_ino s r.file.group f.me) s
opens_out past f r mode.Read s = record { owed = (tt, tt); here = ((refl, refl), tt); disk = tt }
opens_out past f r mode.Write s = record { owed = (tt, tt); here = ((refl, refl), tt); disk = tt }
opens_out past f r mode.Resolve s = record { owed = (tt, tt); here = ((refl, refl), tt); disk = tt }
opens_out past f r mode.Mend s = record { owed = (tt, tt); here = ((refl, refl), tt); disk = tt }

open_of_out : (past : List Told) (f : Frame) (r : StoreRequest) (o : Option Instance) (s : Store) → Mended past f (on_open_ss_of f r o s)
open_of_out past f r None s = opens_out past f r r.mode s
open_of_out past f r (Some i) s = record { owed = tt; here = tt; disk = tt }

pub on_open_ss_out : (past : List Told) (f : Frame) (r : StoreRequest) (s : Store) → Mended past f (on_open_ss f r s)
on_open_ss_out past f r s = open_of_out past f r (instance_of s r.inst) s

-- ---- commits and closes ----

commits_out : (past : List Told) (f : Frame) (i : Instance) (s : Store) → Mended past f (commits f i s)
commits_out past f i s = record { owed = (tt, tt); here = (refl, tt); disk = (tt, refl) }

shuts_out : (past : List Told) (f : Frame) (i : Instance) (a : CloseAnswer) (s : Store) → Mended past f (shuts f i a s)
shuts_out past f i a s = record { owed = (tt, tt); here = ((refl, refl), tt); disk = tt }

again_out : (past : List Told) (f : Frame) (a : CloseAnswer) (o : Option Instance) (s : Store) → Mended past f (shuts_again f a o s)
again_out past f a None s = quiet_out past f s
again_out past f a (Some i) s = shuts_out past f i a s

owing_out : (past : List Told) (f : Frame) (i : Instance) (s : Store) → Mended past f (closes_owing f i s)
owing_out past f i s =
    let a : CloseAnswer = closing.Made (next_stamp f (next_vector f i)) in
    let o : Outcome Store = commits f i s in
    elim (is_spent f i) as (λ b. Mended past f (elim b [ true ↦ shuts f i (closing.No refusal.Spent) s | false ↦ and_then (commits f i s) (λ now. shuts_again f (closing.Made (next_stamp f (next_vector f i))) (instance_of now i.inst) now) ])) [
      | true ↦ shuts_out past f i (closing.No refusal.Spent) s
      | false ↦ then_out past f o (shuts_again f a (instance_of o.view i.inst) o.view) _ refl (commits_out past f i s) (again_out (onto o.told past) f a (instance_of o.view i.inst) o.view)
    ]

closes_out : (past : List Told) (f : Frame) (i : Instance) (s : Store) → Mended past f (closes f i s)
closes_out past f i s = elim i.work.owes as (λ b. Mended past f (elim b [ true ↦ closes_owing f i s | false ↦ shuts f i closing.Nothing s ])) [ true ↦ owing_out past f i s | false ↦ shuts_out past f i closing.Nothing s ]

close_at_out : (past : List Told) (f : Frame) (i : Instance) (x : Stage) (s : Store) → Mended past f (on_close_at f i x s)
close_at_out past f i stage.Running s = closes_out past f i s
close_at_out past f i (stage.Closing made a) s = record { owed = tt; here = tt; disk = tt }
close_at_out past f i (stage.Closed a) s = record { owed = tt; here = tt; disk = tt }

close_of_out : (past : List Told) (f : Frame) (o : Option Instance) (s : Store) → Mended past f (on_close_of f o s)
close_of_out past f None s = quiet_out past f s
close_of_out past f (Some i) s = close_at_out past f i i.stage s

pub on_close_out : (past : List Told) (f : Frame) (inst : Serial) (s : Store) → Mended past f (on_close f inst s)
on_close_out past f inst s = close_of_out past f (instance_of s inst) s

ends_out : (past : List Told) (f : Frame) (i : Instance) (x : Stage) (s : Store) → Mended past f (ends_at f i x s)
ends_out past f i stage.Running s = quiet_out past f s
ends_out past f i (stage.Closing made a) s = record { owed = tt; here = tt; disk = tt }
ends_out past f i (stage.Closed a) s = quiet_out past f s

closed_of_out : (past : List Told) (f : Frame) (o : Option Instance) (s : Store) → Mended past f (on_closed_ok_of f o s)
closed_of_out past f None s = quiet_out past f s
closed_of_out past f (Some i) s = ends_out past f i i.stage s

pub on_closed_ok_out : (past : List Told) (f : Frame) (inst : Serial) (s : Store) → Mended past f (on_closed_ok f inst s)
on_closed_ok_out past f inst s = closed_of_out past f (instance_of s inst) s

-- ---- operations ----

-- another operation than a mend
other_out : (past : List Told) (f : Frame) (i : Instance) (o : Op) (e : Option Effect) (s : Store) → ((r : Result) → IsSpentMend o r → ⊥) → Mended past f (executes_effect f i o e s)
other_out past f i o None s h = quiet_out past f s
other_out past f i o (Some e) s h = record { owed = (h (result_in (free_pages s i.file.group) i.work.changed e), tt); here = (tt, tt); disk = tt }

mend_out : (past : List Told) (f : Frame) (i : Instance) (e : Option Effect) (s : Store) → EffectMended (free_pages s i.file.group) i.work.changed e → Mended past f (executes_effect f i op.Mend e s)
mend_out past f i None s h = quiet_out past f s
mend_out past f i (Some e) s h = record { owed = (h, tt); here = (tt, tt); disk = tt }

committed_out : (past : List Told) (f : Frame) (stamp : Stamp) (o : Option Instance) (s : Store) → Mended past f (acts_committed f stamp o s)
committed_out past f stamp None s = quiet_out past f s
committed_out past f stamp (Some i) s = record { owed = ((λ k. k), tt); here = (tt, tt); disk = tt }

commits_owing_out : (past : List Told) (f : Frame) (i : Instance) (s : Store) → Mended past f (commits_owing f i s)
commits_owing_out past f i s =
    let o : Outcome Store = commits f i s in
    let stamp : Stamp = next_stamp f (next_vector f i) in
    elim (is_spent f i) as (λ b. Mended past f (elim b [ true ↦ acts f i op.Commit (result.No refusal.Spent) (counted i.work) s | false ↦ and_then (commits f i s) (λ now. acts_committed f (next_stamp f (next_vector f i)) (instance_of now i.inst) now) ])) [
      | true ↦ record { owed = ((λ k. k), tt); here = (tt, tt); disk = tt }
      | false ↦ then_out past f o (acts_committed f stamp (instance_of o.view i.inst) o.view) _ refl (commits_out past f i s) (committed_out (onto o.told past) f stamp (instance_of o.view i.inst) o.view)
    ]

last_out : (past : List Told) (f : Frame) (i : Instance) (o : Option Stamp) (s : Store) → Mended past f (last_committed f i o s)
last_out past f i None s = quiet_out past f s
last_out past f i (Some stamp) s = record { owed = ((λ k. k), tt); here = (tt, tt); disk = tt }

commit_op_out : (past : List Told) (f : Frame) (i : Instance) (s : Store) → Mended past f (commit_op f i s)
commit_op_out past f i s = elim i.work.owes as (λ b. Mended past f (elim b [ true ↦ commits_owing f i s | false ↦ last_committed f i i.work.last s ])) [ true ↦ commits_owing_out past f i s | false ↦ last_out past f i i.work.last s ]

executes_out : (past : List Told) (f : Frame) (m : Mending) (i : Instance) (o : Op) (seen : List ℕ) (s : Store) → Mended past f (executes f m i o seen s)
executes_out past f m i op.Commit seen s = commit_op_out past f i s
executes_out past f m i op.Abort seen s = record { owed = ((λ k. k), tt); here = (tt, tt); disk = tt }
executes_out past f m i (op.Probe name) seen s = other_out past f i (op.Probe name) (effect_of (op.Probe name) seen m i.work.content) s (λ r k. k)
executes_out past f m i (op.Find component) seen s = other_out past f i (op.Find component) (effect_of (op.Find component) seen m i.work.content) s (λ r k. k)
executes_out past f m i (op.Insert name ino kind) seen s = other_out past f i (op.Insert name ino kind) (effect_of (op.Insert name ino kind) seen m i.work.content) s (λ r k. k)
executes_out past f m i (op.Remove name ino) seen s = other_out past f i (op.Remove name ino) (effect_of (op.Remove name ino) seen m i.work.content) s (λ r k. k)
executes_out past f m i (op.Rename component name) seen s = other_out past f i (op.Rename component name) (effect_of (op.Rename component name) seen m i.work.content) s (λ r k. k)
executes_out past f m i op.Empty seen s = other_out past f i op.Empty (effect_of op.Empty seen m i.work.content) s (λ r k. k)
executes_out past f m i (op.Read at len) seen s = other_out past f i (op.Read at len) (effect_of (op.Read at len) seen m i.work.content) s (λ r k. k)
executes_out past f m i (op.Write at bytes) seen s = other_out past f i (op.Write at bytes) (effect_of (op.Write at bytes) seen m i.work.content) s (λ r k. k)
executes_out past f m i (op.Cut len) seen s = other_out past f i (op.Cut len) (effect_of (op.Cut len) seen m i.work.content) s (λ r k. k)
executes_out past f m i op.Mend seen s = mend_out past f i (mend_effect (joined_contents m.contents) m i.work.content) s (mend_mended (free_pages s i.file.group) i.work.changed (joined_contents m.contents) m i.work.content)

number_out : (past : List Told) (f : Frame) (m : Mending) (i : Instance) (n : ℕ) (o : Op) (seen : List ℕ) (s : Store) → Mended past f (by_number f m i n o seen s)
number_out past f m i n o seen s =
    elim (n == i.work.ops) as (λ b. Mended past f (elim b [ true ↦ sends (op_again f i n i.answered) s | false ↦ elim (n == i.work.ops + 1) [ true ↦ executes f m i o seen s | false ↦ quiet s ] ])) [
      | true ↦ sends_out past f (op_again f i n i.answered) s
      | false ↦ elim (n == i.work.ops + 1) as (λ b. Mended past f (elim b [ true ↦ executes f m i o seen s | false ↦ quiet s ])) [ true ↦ executes_out past f m i o seen s | false ↦ quiet_out past f s ]
    ]

op_at_out : (past : List Told) (f : Frame) (m : Mending) (i : Instance) (x : Stage) (n : ℕ) (o : Op) (seen : List ℕ) (s : Store) → Mended past f (on_op_at f m i x n o seen s)
op_at_out past f m i stage.Running n o seen s = number_out past f m i n o seen s
op_at_out past f m i (stage.Closing made a) n o seen s = quiet_out past f s
op_at_out past f m i (stage.Closed a) n o seen s = quiet_out past f s

op_of_out : (past : List Told) (f : Frame) (m : Mending) (i : Option Instance) (n : ℕ) (o : Op) (seen : List ℕ) (s : Store) → Mended past f (on_op_of f m i n o seen s)
op_of_out past f m None n o seen s = quiet_out past f s
op_of_out past f m (Some i) n o seen s = op_at_out past f m i i.stage n o seen s

pub on_op_out : (past : List Told) (f : Frame) (m : Mending) (inst : Serial) (n : ℕ) (o : Op) (seen : List ℕ) (s : Store) → Mended past f (on_op f m inst n o seen s)
on_op_out past f m inst n o seen s = op_of_out past f m (instance_of s inst) n o seen s

-- a held read is the operation that it stands for, but for the form of its answer
form_out : (past : List Told) (f : Frame) (i : Option Instance) (o : Outcome Store) → Mended past f o → Mended past f (in_form i o)
form_out past f None o h = h
form_out past f (Some i) o h = record { owed = h.owed; here = h.here; disk = h.disk }

pub on_read_held_out : (past : List Told) (f : Frame) (inst : Serial) (n at len : ℕ) (s : Store) → Mended past f (on_read_held f inst n at len s)
on_read_held_out past f inst n at len s = form_out past f (instance_of s inst) (on_op f nothing_to_mend inst n (op.Read at len) nothing_seen s) (on_op_out past f nothing_to_mend inst n (op.Read at len) nothing_seen s)
