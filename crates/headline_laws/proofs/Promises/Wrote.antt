-- What a storage site writes is a version of a running instance that owes it, at the operation that commits or at its close.
use Rattle.std.proofs.Common.{◌≡◌, ℕ, ◌+◌, ◌==◌, Bool, true, false, List, Option, Some, None, refl, sym, ap}
use Rattle.role_steps.proofs.of_plain_facts.Numbers.{equal}
use Rattle.role_steps.proofs.of_plain_facts.Options.{none_some, some_same}
use Rattle.locus_ids.specs.declared.ids.Serial.{Serial}
use Rattle.locus_ids.specs.declared.ids.Stamp.{Stamp}
use Rattle.locus_ids.specs.declared.refusal.Refusal.TheVariants as refusal
use Rattle.trace_book.specs.declared.operation.Op.{Op}
use Rattle.trace_book.specs.declared.operation.Op.TheVariants as op
use Rattle.trace_book.specs.declared.operation.Outcome.TheVariants as result
use Rattle.file_effects.specs.Effects.{Effect}
use Rattle.file_effects.specs.Works.{counted}
use Rattle.wire_messages.specs.declared.body.CloseAnswer.TheVariants as closing
use Rattle.role_steps.specs.OperationEffects.{Mending, effect_of}
use Rattle.role_steps.specs.Operations.{acts, acts_committed, executes_effect, commits_owing, last_committed, executes, op_again, on_op_at, on_op_of, on_op}
use Rattle.role_steps.specs.Storage.{instance_of, is_spent, next_vector, next_stamp, commit_record, commit_write, commits, shuts, shuts_again, closes_owing, on_close_at, on_close_of, on_close}
use Rattle.role_steps.specs.Views.{Frame, Store, DiskWrite, Outcome, and_then, quiet, sends}
use Rattle.role_steps.specs.declared.instances.Instance.{Instance}
use Rattle.role_steps.specs.declared.instances.Stage.{Stage}
use Rattle.role_steps.specs.declared.instances.Stage.TheVariants as stage

pub record Wrote (f : Frame) (s : Store) (inst : Serial) (d : DiskWrite) : Type 0 where
  pub instance : Instance
  pub found : instance_of s inst ≡ Some instance
  pub runs : instance.stage ≡ stage.Running
  pub owes : instance.work.owes ≡ true
  pub says_is : d.says ≡ commit_record f instance (next_stamp f (next_vector f instance))

pub record WroteBy (f : Frame) (s : Store) (inst : Serial) (n : ℕ) (o : Op) (d : DiskWrite) : Type 0 where
  pub wrote : Wrote f s inst d
  pub is : o ≡ op.Commit
  pub next : n ≡ wrote.instance.work.ops + 1

abbrev Writes : DiskWrite → Outcome Store → Type 0
Writes d o = o.written ≡ Some d

module _ (f : Frame) (s : Store) (inst : Serial) (d : DiskWrite) (i : Instance) (found : instance_of s inst ≡ Some i) (runs : i.stage ≡ stage.Running) where
  abbrev wrote : i.work.owes ≡ true → Some (commit_write f i (next_vector f i) (next_stamp f (next_vector f i))) ≡ Some d → Wrote f s inst d
  wrote owes e = record { instance = i; found = found; runs = runs; owes = owes; says_is = ap (λ (x : DiskWrite). x.says) (sym (some_same _ d e)) }

  module _ (n : ℕ) (next : (n == i.work.ops + 1) ≡ true) where
    by_spent : (b : Bool) → i.work.owes ≡ true → Writes d (elim b [
      | true ↦ acts f i op.Commit (result.No refusal.Spent) (counted i.work) s
      | false ↦ and_then (commits f i s) (λ now. acts_committed f (next_stamp f (next_vector f i)) (instance_of now i.inst) now)
    ]) → WroteBy f s inst n op.Commit d
    by_spent true owes e = absurd (none_some d e)
    by_spent false owes e = record { wrote = wrote owes e; is = refl; next = equal n (i.work.ops + 1) next }

    last_none : (o : Option Stamp) → Writes d (last_committed f i o s) → WroteBy f s inst n op.Commit d
    last_none None e = absurd (none_some d e)
    last_none (Some stamp) e = absurd (none_some d e)

    by_owing : (b : Bool) → i.work.owes ≡ b → Writes d (elim b [ true ↦ commits_owing f i s | false ↦ last_committed f i i.work.last s ]) → WroteBy f s inst n op.Commit d
    by_owing true owes e = by_spent (is_spent f i) owes e
    by_owing false owes e = last_none i.work.last e

    by_effect : (o : Op) (x : Option Effect) → Writes d (executes_effect f i o x s) → WroteBy f s inst n o d
    by_effect o None e = absurd (none_some d e)
    by_effect o (Some x) e = absurd (none_some d e)

    executed : (m : Mending) (o : Op) (seen : List ℕ) → Writes d (executes f m i o seen s) → WroteBy f s inst n o d
    executed m op.Commit seen e = by_owing i.work.owes refl e
    executed m op.Abort seen e = absurd (none_some d e)
    executed m o seen e = by_effect o (effect_of o seen m i.work.content) e

  numbered : (m : Mending) (n : ℕ) (o : Op) (seen : List ℕ) → Writes d (on_op_at f m i stage.Running n o seen s) → WroteBy f s inst n o d
  numbered m n o seen e = by_last (n == i.work.ops) e
    where
      by_next : (b : Bool) → (n == i.work.ops + 1) ≡ b → Writes d (elim b [ true ↦ executes f m i o seen s | false ↦ quiet s ]) → WroteBy f s inst n o d
      by_next true next e = executed n next m o seen e
      by_next false next e = absurd (none_some d e)

      by_last : (b : Bool) → Writes d (elim b [ true ↦ sends (op_again f i n i.answered) s | false ↦ elim (n == i.work.ops + 1) [ true ↦ executes f m i o seen s | false ↦ quiet s ] ]) → WroteBy f s inst n o d
      by_last true e = absurd (none_some d e)
      by_last false e = by_next (n == i.work.ops + 1) refl e

  closing_spent : (b : Bool) → i.work.owes ≡ true → Writes d (elim b [
    | true ↦ shuts f i (closing.No refusal.Spent) s
    | false ↦ and_then (commits f i s) (λ now. shuts_again f (closing.Made (next_stamp f (next_vector f i))) (instance_of now i.inst) now)
  ]) → Wrote f s inst d
  closing_spent true owes e = absurd (none_some d e)
  closing_spent false owes e = wrote owes e

  closed : (b : Bool) → i.work.owes ≡ b → Writes d (elim b [ true ↦ closes_owing f i s | false ↦ shuts f i closing.Nothing s ]) → Wrote f s inst d
  closed true owes e = closing_spent (is_spent f i) owes e
  closed false owes e = absurd (none_some d e)

pub op_wrote : (f : Frame) (m : Mending) (inst : Serial) (n : ℕ) (o : Op) (seen : List ℕ) (s : Store) (d : DiskWrite) → Writes d (on_op f m inst n o seen s) → WroteBy f s inst n o d
op_wrote f m inst n o seen s d e = by_instance (instance_of s inst) refl e
  where
    by_stage : (i : Instance) → instance_of s inst ≡ Some i → (g : Stage) → i.stage ≡ g → Writes d (on_op_at f m i g n o seen s) → WroteBy f s inst n o d
    by_stage i found stage.Running runs e = numbered f s inst d i found runs m n o seen e
    by_stage i found (stage.Closing made a) runs e = absurd (none_some d e)
    by_stage i found (stage.Closed a) runs e = absurd (none_some d e)

    by_instance : (k : Option Instance) → instance_of s inst ≡ k → Writes d (on_op_of f m k n o seen s) → WroteBy f s inst n o d
    by_instance None found e = absurd (none_some d e)
    by_instance (Some i) found e = by_stage i found i.stage refl e

pub close_wrote : (f : Frame) (inst : Serial) (s : Store) (d : DiskWrite) → Writes d (on_close f inst s) → Wrote f s inst d
close_wrote f inst s d e = by_instance (instance_of s inst) refl e
  where
    by_stage : (i : Instance) → instance_of s inst ≡ Some i → (g : Stage) → i.stage ≡ g → Writes d (on_close_at f i g s) → Wrote f s inst d
    by_stage i found stage.Running runs e = closed f s inst d i found runs i.work.owes refl e
    by_stage i found (stage.Closing made a) runs e = absurd (none_some d e)
    by_stage i found (stage.Closed a) runs e = absurd (none_some d e)

    by_instance : (k : Option Instance) → instance_of s inst ≡ k → Writes d (on_close_of f k s) → Wrote f s inst d
    by_instance None found e = absurd (none_some d e)
    by_instance (Some i) found e = by_stage i found i.stage refl e
