-- Which operations look at what a mend works on, and what else of a site an event's part says.
use Rattle.std.proofs.Common.{◌≡◌, ◌≢◌, ℕ, List, Option, None, Some, refl, ap}
use Rattle.locus_ids.specs.declared.ids.Serial.{Serial}
use Rattle.trace_book.specs.declared.operation.Op.{Op}
use Rattle.trace_book.specs.declared.operation.Op.TheVariants as op
use Rattle.role_steps.specs.Views.{Frame, Outcome, Store, quiet, sends}
use Rattle.role_steps.specs.Storage.{instance_of}
use Rattle.role_steps.specs.Operations.{executes, on_op, on_op_of, op_again}
use Rattle.role_steps.specs.OperationEffects.{Mending}
use Rattle.role_steps.specs.declared.instances.Instance.{Instance}
use Rattle.role_steps.specs.declared.instances.Stage.{Stage}
use Rattle.role_steps.specs.declared.instances.Stage.TheVariants as stage
use Rattle.role_steps.specs.Operations.{by_number, on_op_at}
use Rattle.std.proofs.Common.{Bool, true, false, ◌==◌, ◌+◌}

executes_same : (f : Frame) (m l : Mending) (i : Instance) (o : Op) (seen : List ℕ) (s : Store) → o ≢ op.Mend → executes f m i o seen s ≡ executes f l i o seen s
executes_same f m l i op.Mend seen s n = absurd (n refl)
executes_same f m l i op.Commit seen s n = refl
executes_same f m l i op.Abort seen s n = refl
executes_same f m l i (op.Remove name ino) seen s n = refl
executes_same f m l i _ seen s n = refl

abbrev by_two : Outcome Store → Outcome Store → Outcome Store → Bool → Bool → Outcome Store
by_two again next other a b = elim a [
  | true ↦ again
  | false ↦ elim b [
    | true ↦ next
    | false ↦ other
  ]
]

number_same : (f : Frame) (m l : Mending) (i : Instance) (k : ℕ) (o : Op) (seen : List ℕ) (s : Store) → o ≢ op.Mend → by_number f m i k o seen s ≡ by_number f l i k o seen s
number_same f m l i k o seen s n = ap (λ (x : Outcome Store). by_two (sends (op_again f i k i.answered) s) x (quiet s) (k == i.work.ops) (k == i.work.ops + 1)) (executes_same f m l i o seen s n)

stage_same : (f : Frame) (m l : Mending) (i : Instance) (g : Stage) (k : ℕ) (o : Op) (seen : List ℕ) (s : Store) → o ≢ op.Mend → on_op_at f m i g k o seen s ≡ on_op_at f l i g k o seen s
stage_same f m l i stage.Running k o seen s n = number_same f m l i k o seen s n
stage_same f m l i (stage.Closing made a) k o seen s n = refl
stage_same f m l i (stage.Closed a) k o seen s n = refl

at_same : (f : Frame) (m l : Mending) (r : Option Instance) (k : ℕ) (o : Op) (seen : List ℕ) (s : Store) → o ≢ op.Mend → on_op_of f m r k o seen s ≡ on_op_of f l r k o seen s
at_same f m l None k o seen s n = refl
at_same f m l (Some i) k o seen s n = stage_same f m l i i.stage k o seen s n

-- an operation doesn't look at what a mend works on unless it is a mend
pub works_alike : (f : Frame) (m l : Mending) (inst : Serial) (k : ℕ) (o : Op) (seen : List ℕ) (s : Store) → o ≢ op.Mend → on_op f m inst k o seen s ≡ on_op f l inst k o seen s
works_alike f m l inst k o seen s n = at_same f m l (instance_of s inst) k o seen s n
