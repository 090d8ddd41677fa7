-- Operations, and each packet that the store takes: what stands in it is kept.
use Rattle.std.proofs.Common.{◌≡◌, ℕ, ◌+◌, ◌==◌, Bool, true, false, ◌&&◌, List, Option, Some, None, refl}
use Rattle.std.specs.Option.{is_none}
use Rattle.role_steps.proofs.of_plain_facts.Tests.{and_first}
use Rattle.locus_ids.specs.declared.ids.Serial.{Serial}
use Rattle.trace_book.specs.declared.operation.Op.{Op}
use Rattle.trace_book.specs.declared.operation.Op.TheVariants as op
use Rattle.trace_book.specs.declared.operation.Outcome.TheVariants as result
use Rattle.role_steps.specs.of_file_effects.Works.{begins_owing, aborted}
use Rattle.role_steps.specs.Views.{Frame, Store, Told, quiet, sends, serial_key, Outcome}
use Rattle.role_steps.specs.Storage.{copy_of, content_of, instance_of}
use Rattle.role_steps.specs.of_dir_format.Entries.{nothing_seen}
use Rattle.role_steps.specs.Operations.{executes, op_again, by_number, on_op_at, on_op_of, on_op, in_form, nothing_to_mend, on_read_held}
use Rattle.role_steps.specs.OperationEffects.{Mending, effect_of}
use Rattle.role_steps.specs.declared.instances.Instance.{Instance}
use Rattle.role_steps.specs.declared.instances.Stage.{Stage}
use Rattle.role_steps.specs.declared.instances.Stage.TheVariants as stage
use Rattle.the_run.specs.Worlds.{Numbered}
use Rattle.site_laws.specs.Locks.Going.{IsGranted}
use Rattle.site_laws.proofs.Makes.RunningCounting.{effect_not, begins_to_write}
use Rattle.site_laws.proofs.Makes.RunningStandStore.{StoreOut, InStore, quiet_out, sends_out, IsHere, FoundHere, granted_at, ToWrite, acts_out, effect_out, commit_out}

executes_out : (sent : List Numbered) (past : List Told) (f : Frame) (m : Mending) (i : Instance) (o : Op) (seen : List ℕ) (s : Store) → ToWrite i o → IsGranted past f.epoch (serial_key i.inst) → i.stage ≡ stage.Running → IsHere sent past f s i → InStore sent past f s → StoreOut sent past f (executes f m i o seen s)
executes_out sent past f m i op.Commit seen s to g runs k h = commit_out sent past f i s g runs k h
executes_out sent past f m i op.Abort seen s to g runs k h = acts_out sent past f i op.Abort result.Done (aborted i.mode (content_of (copy_of s i.file)) i.work) s g runs (λ e. begins_to_write i.mode (and_first (begins_owing i.mode) (is_none i.work.committed) e)) k h
executes_out sent past f m i (op.Probe name) seen s to g runs k h = effect_out sent past f i (op.Probe name) (effect_of (op.Probe name) seen m i.work.content) s (effect_not (op.Probe name) seen m i.work.content) to g runs k h
executes_out sent past f m i (op.Find component) seen s to g runs k h = effect_out sent past f i (op.Find component) (effect_of (op.Find component) seen m i.work.content) s (effect_not (op.Find component) seen m i.work.content) to g runs k h
executes_out sent past f m i (op.Insert name ino kind) seen s to g runs k h = effect_out sent past f i (op.Insert name ino kind) (effect_of (op.Insert name ino kind) seen m i.work.content) s (effect_not (op.Insert name ino kind) seen m i.work.content) to g runs k h
executes_out sent past f m i (op.Remove name ino) seen s to g runs k h = effect_out sent past f i (op.Remove name ino) (effect_of (op.Remove name ino) seen m i.work.content) s (effect_not (op.Remove name ino) seen m i.work.content) to g runs k h
executes_out sent past f m i (op.Rename component name) seen s to g runs k h = effect_out sent past f i (op.Rename component name) (effect_of (op.Rename component name) seen m i.work.content) s (effect_not (op.Rename component name) seen m i.work.content) to g runs k h
executes_out sent past f m i op.Empty seen s to g runs k h = effect_out sent past f i op.Empty (effect_of op.Empty seen m i.work.content) s (effect_not op.Empty seen m i.work.content) to g runs k h
executes_out sent past f m i (op.Read at len) seen s to g runs k h = effect_out sent past f i (op.Read at len) (effect_of (op.Read at len) seen m i.work.content) s (effect_not (op.Read at len) seen m i.work.content) to g runs k h
executes_out sent past f m i (op.Write at bytes) seen s to g runs k h = effect_out sent past f i (op.Write at bytes) (effect_of (op.Write at bytes) seen m i.work.content) s (effect_not (op.Write at bytes) seen m i.work.content) to g runs k h
executes_out sent past f m i (op.Cut len) seen s to g runs k h = effect_out sent past f i (op.Cut len) (effect_of (op.Cut len) seen m i.work.content) s (effect_not (op.Cut len) seen m i.work.content) to g runs k h
executes_out sent past f m i op.Mend seen s to g runs k h = effect_out sent past f i op.Mend (effect_of op.Mend seen m i.work.content) s (effect_not op.Mend seen m i.work.content) to g runs k h

by_number_out : (sent : List Numbered) (past : List Told) (f : Frame) (m : Mending) (i : Instance) (n : ℕ) (o : Op) (seen : List ℕ) (s : Store) → ToWrite i o → IsGranted past f.epoch (serial_key i.inst) → i.stage ≡ stage.Running → IsHere sent past f s i → InStore sent past f s → StoreOut sent past f (by_number f m i n o seen s)
by_number_out sent past f m i n o seen s to g runs k h =
    elim (n == i.work.ops) as (λ b. StoreOut sent past f (elim b [ true ↦ sends (op_again f i n i.answered) s | false ↦ elim (n == i.work.ops + 1) [ true ↦ executes f m i o seen s | false ↦ quiet s ] ])) [
      | true ↦ sends_out sent past f (op_again f i n i.answered) s h
      | false ↦ elim (n == i.work.ops + 1) as (λ b. StoreOut sent past f (elim b [ true ↦ executes f m i o seen s | false ↦ quiet s ])) [
        | true ↦ executes_out sent past f m i o seen s to g runs k h
        | false ↦ quiet_out sent past f s h
      ]
    ]

on_op_at_out : (sent : List Numbered) (past : List Told) (f : Frame) (m : Mending) (i : Instance) (x : Stage) (n : ℕ) (o : Op) (seen : List ℕ) (s : Store) → i.stage ≡ x → ToWrite i o → IsGranted past f.epoch (serial_key i.inst) → IsHere sent past f s i → InStore sent past f s → StoreOut sent past f (on_op_at f m i x n o seen s)
on_op_at_out sent past f m i stage.Running n o seen s q to g k h = by_number_out sent past f m i n o seen s to g q k h
on_op_at_out sent past f m i (stage.Closing made a) n o seen s q to g k h = quiet_out sent past f s h
on_op_at_out sent past f m i (stage.Closed a) n o seen s q to g k h = quiet_out sent past f s h

-- what is found may be changed, where the operation changes
abbrev pub FoundToWrite : Op → Option Instance → Type 0
FoundToWrite o None = Unit {0}
FoundToWrite o (Some i) = ToWrite i o

on_op_of_out : (sent : List Numbered) (past : List Told) (f : Frame) (m : Mending) (key : ℕ) (i : Option Instance) (n : ℕ) (o : Op) (seen : List ℕ) (s : Store) → FoundToWrite o i → IsGranted past f.epoch key → FoundHere sent past f s key i → InStore sent past f s → StoreOut sent past f (on_op_of f m i n o seen s)
on_op_of_out sent past f m key None n o seen s to g k h = quiet_out sent past f s h
on_op_of_out sent past f m key (Some i) n o seen s to g k h = on_op_at_out sent past f m i i.stage n o seen s refl to (granted_at past f.epoch (serial_key i.inst) key k.0 g) k.1 h

pub on_op_out : (sent : List Numbered) (past : List Told) (f : Frame) (m : Mending) (inst : Serial) (n : ℕ) (o : Op) (seen : List ℕ) (s : Store) → FoundToWrite o (instance_of s inst) → IsGranted past f.epoch (serial_key inst) → FoundHere sent past f s (serial_key inst) (instance_of s inst) → InStore sent past f s → StoreOut sent past f (on_op f m inst n o seen s)
on_op_out sent past f m inst n o seen s to g k h = on_op_of_out sent past f m (serial_key inst) (instance_of s inst) n o seen s to g k h

-- a held read is the operation that it stands for, but for the form of its answer
form_out : (sent : List Numbered) (past : List Told) (f : Frame) (i : Option Instance) (o : Outcome Store) → StoreOut sent past f o → StoreOut sent past f (in_form i o)
form_out sent past f None o h = h
form_out sent past f (Some i) o h = record { view = h.view; owed = h.owed; here = h.here; disk = h.disk }

pub on_read_held_out : (sent : List Numbered) (past : List Told) (f : Frame) (inst : Serial) (n at len : ℕ) (s : Store) → FoundToWrite (op.Read at len) (instance_of s inst) → IsGranted past f.epoch (serial_key inst) → FoundHere sent past f s (serial_key inst) (instance_of s inst) → InStore sent past f s → StoreOut sent past f (on_read_held f inst n at len s)
on_read_held_out sent past f inst n at len s to g k h =
    form_out sent past f (instance_of s inst) (on_op f nothing_to_mend inst n (op.Read at len) nothing_seen s) (on_op_out sent past f nothing_to_mend inst n (op.Read at len) nothing_seen s to g k h)
