-- What an Op or a Close does to the copies of its storage site: nothing, or a running instance commits.
use Rattle.std.proofs.Common.{◌≡◌, ℕ, ◌+◌, ◌==◌, ◌⊎◌, Bool, true, false, List, Option, Some, None, refl, inl, inr}
use Rattle.locus_ids.specs.declared.ids.Serial.{Serial}
use Rattle.locus_ids.specs.declared.ids.Stamp.{Stamp}
use Rattle.locus_ids.specs.declared.refusal.Refusal.TheVariants as refusal
use Rattle.trace_book.specs.declared.operation.Op.{Op}
use Rattle.trace_book.specs.declared.operation.Op.TheVariants as op
use Rattle.trace_book.specs.declared.operation.Outcome.TheVariants as result
use Rattle.file_effects.specs.Effects.{Effect}
use Rattle.file_effects.specs.Works.{counted}
use Rattle.wire_messages.specs.declared.body.CloseAnswer.{CloseAnswer}
use Rattle.wire_messages.specs.declared.body.CloseAnswer.TheVariants as closing
use Rattle.role_steps.specs.OperationEffects.{Mending, effect_of}
use Rattle.role_steps.specs.Operations.{acts, acts_committed, executes_effect, commits_owing, last_committed, executes, op_again, by_number, on_op_at, on_op_of, on_op}
use Rattle.role_steps.specs.Storage.{copy_key, instance_key, instance_of, copy_made, is_spent, next_vector, next_stamp, commit_record, commits, shuts, shuts_again, closes_owing, on_close_at, on_close_of, on_close}
use Rattle.role_steps.specs.Tables.{with_row}
use Rattle.role_steps.specs.Views.{Frame, Store, Shown, Outcome, and_then, quiet, sends, serial_key}
use Rattle.role_steps.specs.declared.instances.Instance.{Instance}
use Rattle.role_steps.specs.declared.instances.Stage.{Stage}
use Rattle.role_steps.specs.declared.instances.Stage.TheVariants as stage
use Rattle.the_run.specs.Kept.{Among}
use Rattle.calm_laws.proofs.Lists.{row_key}

-- the instance runs, and what it has is a version then
pub record Commits (f : Frame) (s : Store) (o : Outcome Store) : Type 0 where
  pub instance : Instance
  pub there : Among instance s.instances
  pub runs : instance.stage ≡ stage.Running
  pub copies : o.view.copies ≡ with_row copy_key (copy_made instance (next_vector f instance) (next_stamp f (next_vector f instance))) s.copies
  pub told : Among (Shown (commit_record f instance (next_stamp f (next_vector f instance)))) o.told

abbrev pub MayCommitOf : Frame → Store → Outcome Store → Type 0
MayCommitOf f s o = (o.view.copies ≡ s.copies) ⊎ Commits f s o

-- ---- Op ----

module _ (f : Frame) (i : Instance) (s : Store) (there : Among i s.instances) (runs : i.stage ≡ stage.Running) where
  committed_first : (o : Option Instance) → Commits f s (and_then (commits f i s) (λ now. acts_committed f (next_stamp f (next_vector f i)) o now))
  committed_first None = record { instance = i; there = there; runs = runs; copies = refl; told = inl refl }
  committed_first (Some k) = record { instance = i; there = there; runs = runs; copies = refl; told = inl refl }

  by_owing : (b : Bool) → MayCommitOf f s (elim b [
    | true ↦ acts f i op.Commit (result.No refusal.Spent) (counted i.work) s
    | false ↦ and_then (commits f i s) (λ now. acts_committed f (next_stamp f (next_vector f i)) (instance_of now i.inst) now)
  ])
  by_owing true = inl refl
  by_owing false = inr (committed_first (instance_of (commits f i s).view i.inst))

  last_one : (o : Option Stamp) → MayCommitOf f s (last_committed f i o s)
  last_one None = inl refl
  last_one (Some stamp) = inl refl

  by_owes : (b : Bool) → MayCommitOf f s (elim b [ true ↦ commits_owing f i s | false ↦ last_committed f i i.work.last s ])
  by_owes true = by_owing (is_spent f i)
  by_owes false = last_one i.work.last

  by_effect : (o : Op) (e : Option Effect) → MayCommitOf f s (executes_effect f i o e s)
  by_effect o None = inl refl
  by_effect o (Some e) = inl refl

  executed : (m : Mending) (o : Op) (seen : List ℕ) → MayCommitOf f s (executes f m i o seen s)
  executed m op.Commit seen = by_owes i.work.owes
  executed m op.Abort seen = inl refl
  executed m o seen = by_effect o (effect_of o seen m i.work.content)

  numbered : (m : Mending) (n : ℕ) (o : Op) (seen : List ℕ) → MayCommitOf f s (by_number f m i n o seen s)
  numbered m n o seen = by_last (n == i.work.ops)
    where
      by_next : (b : Bool) → MayCommitOf f s (elim b [ true ↦ executes f m i o seen s | false ↦ quiet s ])
      by_next true = executed m o seen
      by_next false = inl refl

      by_last : (b : Bool) → MayCommitOf f s (elim b [ true ↦ sends (op_again f i n i.answered) s | false ↦ elim (n == i.work.ops + 1) [ true ↦ executes f m i o seen s | false ↦ quiet s ] ])
      by_last true = inl refl
      by_last false = by_next (n == i.work.ops + 1)

  -- ---- Close ----

  shut_first : (a : CloseAnswer) (o : Option Instance) → Commits f s (and_then (commits f i s) (λ now. shuts_again f a o now))
  shut_first a None = record { instance = i; there = there; runs = runs; copies = refl; told = inl refl }
  shut_first a (Some k) = record { instance = i; there = there; runs = runs; copies = refl; told = inl refl }

  by_spent : (b : Bool) → MayCommitOf f s (elim b [
    | true ↦ shuts f i (closing.No refusal.Spent) s
    | false ↦ and_then (commits f i s) (λ now. shuts_again f (closing.Made (next_stamp f (next_vector f i))) (instance_of now i.inst) now)
  ])
  by_spent true = inl refl
  by_spent false = inr (shut_first (closing.Made (next_stamp f (next_vector f i))) (instance_of (commits f i s).view i.inst))

  closed : (b : Bool) → MayCommitOf f s (elim b [ true ↦ closes_owing f i s | false ↦ shuts f i closing.Nothing s ])
  closed true = by_spent (is_spent f i)
  closed false = inl refl

pub op_commits : (f : Frame) (m : Mending) (inst : Serial) (n : ℕ) (o : Op) (seen : List ℕ) (s : Store) → MayCommitOf f s (on_op f m inst n o seen s)
op_commits f m inst n o seen s = by_instance (instance_of s inst) refl
  where
    by_stage : (i : Instance) → Among i s.instances → (g : Stage) → i.stage ≡ g → MayCommitOf f s (on_op_at f m i g n o seen s)
    by_stage i there stage.Running runs = numbered f i s there runs m n o seen
    by_stage i there (stage.Closing made a) runs = inl refl
    by_stage i there (stage.Closed a) runs = inl refl

    by_instance : (k : Option Instance) → instance_of s inst ≡ k → MayCommitOf f s (on_op_of f m k n o seen s)
    by_instance None e = inl refl
    by_instance (Some i) e = by_stage i (row_key instance_key (serial_key inst) s.instances i e).0 i.stage refl

pub close_commits : (f : Frame) (inst : Serial) (s : Store) → MayCommitOf f s (on_close f inst s)
close_commits f inst s = by_instance (instance_of s inst) refl
  where
    by_stage : (i : Instance) → Among i s.instances → (g : Stage) → i.stage ≡ g → MayCommitOf f s (on_close_at f i g s)
    by_stage i there stage.Running runs = closed f i s there runs i.work.owes
    by_stage i there (stage.Closing made a) runs = inl refl
    by_stage i there (stage.Closed a) runs = inl refl

    by_instance : (k : Option Instance) → instance_of s inst ≡ k → MayCommitOf f s (on_close_of f k s)
    by_instance None e = inl refl
    by_instance (Some i) e = by_stage i (row_key instance_key (serial_key inst) s.instances i e).0 i.stage refl
