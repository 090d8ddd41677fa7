-- What a storage site writes it tells first, and then only operations and shuts.
use Rattle.std.proofs.Common.{◌≡◌, ℕ, ◌+◌, ◌==◌, true, false, List, [], ◌∷◌, Option, Some, None, refl}
use Rattle.locus_ids.specs.declared.config.Config.{Config}
use Rattle.locus_ids.specs.declared.ids.Serial.{Serial}
use Rattle.locus_ids.specs.declared.ids.Stamp.{Stamp}
use Rattle.locus_ids.specs.declared.refusal.Refusal.TheVariants as refusal
use Rattle.trace_book.specs.declared.operation.Op.{Op}
use Rattle.trace_book.specs.declared.operation.Op.TheVariants as op
use Rattle.trace_book.specs.declared.operation.Outcome.TheVariants as result
use Rattle.trace_book.specs.declared.record.Record.{Record}
use Rattle.trace_book.specs.declared.record.Record.TheVariants as says
use Rattle.file_effects.specs.Effects.{Effect}
use Rattle.file_effects.specs.Works.{counted}
use Rattle.wire_messages.specs.declared.body.CloseAnswer.{CloseAnswer}
use Rattle.wire_messages.specs.declared.body.CloseAnswer.TheVariants as closing
use Rattle.role_steps.specs.Adoption.{adopts_first, adopts_pull, is_ready, without_pull, fits_own}
use Rattle.role_steps.specs.Epochs.{frame_in}
use Rattle.role_steps.specs.OperationEffects.{Mending, effect_of}
use Rattle.role_steps.specs.Operations.{acts, acts_committed, commits_owing, last_committed, commit_op, executes_effect, executes, op_again, by_number, on_op_at, on_op_of, on_op}
use Rattle.role_steps.specs.Own.{Every}
use Rattle.role_steps.specs.Storage.{copy_of, instance_of, is_spent, commits, next_stamp, next_vector, shuts, shuts_again, closes_owing, closes, on_close_at, on_close_of, on_close}
use Rattle.role_steps.specs.Views.{Frame, Store, SiteView, Told, Shown, Shuts, DiskWrite, Outcome, quiet, sends, and_then}
use Rattle.role_steps.specs.declared.instances.Instance.{Instance}
use Rattle.role_steps.specs.declared.instances.Stage.{Stage}
use Rattle.role_steps.specs.declared.instances.Stage.TheVariants as stage
use Rattle.role_steps.specs.declared.pulls.Pull.{Pull}
use Rattle.role_steps.specs.declared.rounds.InEpoch.{InEpoch}
use Rattle.the_run.specs.Steps.{adopts_of}
use Rattle.store_laws.specs.OneTree.Rest.{IsSpentMend}

abbrev pub IsPlainRecord : Record → Type 0
IsPlainRecord (says.Act e inst n o r) = IsSpentMend o r → ⊥
IsPlainRecord _ = ⊥

-- an operation that is no mend for which a count is at its end, or a shut
abbrev pub IsPlain : Told → Type 0
IsPlain (Shown r) = IsPlainRecord r
IsPlain (Shuts site e inst) = Unit {0}
IsPlain _ = ⊥

-- the record of what is written is told first, and only plain lines after it
abbrev pub IsShaped : List Told → Option DiskWrite → Type 0
IsShaped told None = Unit {0}
IsShaped told (Some d) = (rest : List Told) × (told ≡ Shown d.says ∷ rest) × Every IsPlain rest

abbrev pub Shaped : {V : Type 0} → Outcome V → Type 0
Shaped o = IsShaped o.told o.written

-- ---- closes ----

shuts_plain : (f : Frame) (a : CloseAnswer) (o : Option Instance) (s : Store) → Every IsPlain (shuts_again f a o s).told
shuts_plain f a None s = tt
shuts_plain f a (Some i) s = (tt, tt)

closes_shaped : (f : Frame) (i : Instance) (s : Store) → Shaped (closes f i s)
closes_shaped f i s =
    elim i.work.owes as (λ b. Shaped (elim b [ true ↦ closes_owing f i s | false ↦ shuts f i closing.Nothing s ])) [
      | true ↦ elim (is_spent f i) as (λ b. Shaped (elim b [ true ↦ shuts f i (closing.No refusal.Spent) s | false ↦ and_then (commits f i s) (λ now. shuts_again f (closing.Made (next_stamp f (next_vector f i))) (instance_of now i.inst) now) ])) [
        | true ↦ tt
        | false ↦ ((shuts_again f (closing.Made (next_stamp f (next_vector f i))) (instance_of (commits f i s).view i.inst) (commits f i s).view).told, refl, shuts_plain f (closing.Made (next_stamp f (next_vector f i))) (instance_of (commits f i s).view i.inst) (commits f i s).view)
      ]
      | false ↦ tt
    ]

close_at_shaped : (f : Frame) (i : Instance) (g : Stage) (s : Store) → Shaped (on_close_at f i g s)
close_at_shaped f i stage.Running s = closes_shaped f i s
close_at_shaped f i (stage.Closing made a) s = tt
close_at_shaped f i (stage.Closed a) s = tt

close_of_shaped : (f : Frame) (o : Option Instance) (s : Store) → Shaped (on_close_of f o s)
close_of_shaped f None s = tt
close_of_shaped f (Some i) s = close_at_shaped f i i.stage s

pub on_close_shaped : (f : Frame) (inst : Serial) (s : Store) → Shaped (on_close f inst s)
on_close_shaped f inst s = close_of_shaped f (instance_of s inst) s

-- ---- operations ----

effect_shaped : (f : Frame) (i : Instance) (o : Op) (e : Option Effect) (s : Store) → Shaped (executes_effect f i o e s)
effect_shaped f i o None s = tt
effect_shaped f i o (Some e) s = tt

committed_plain : (f : Frame) (stamp : Stamp) (o : Option Instance) (s : Store) → Every IsPlain (acts_committed f stamp o s).told
committed_plain f stamp None s = tt
committed_plain f stamp (Some i) s = ((λ k. k), tt)

last_shaped : (f : Frame) (i : Instance) (o : Option Stamp) (s : Store) → Shaped (last_committed f i o s)
last_shaped f i None s = tt
last_shaped f i (Some stamp) s = tt

commit_shaped : (f : Frame) (i : Instance) (s : Store) → Shaped (commit_op f i s)
commit_shaped f i s =
    elim i.work.owes as (λ b. Shaped (elim b [ true ↦ commits_owing f i s | false ↦ last_committed f i i.work.last s ])) [
      | true ↦ elim (is_spent f i) as (λ b. Shaped (elim b [ true ↦ acts f i op.Commit (result.No refusal.Spent) (counted i.work) s | false ↦ and_then (commits f i s) (λ now. acts_committed f (next_stamp f (next_vector f i)) (instance_of now i.inst) now) ])) [
        | true ↦ tt
        | false ↦ ((acts_committed f (next_stamp f (next_vector f i)) (instance_of (commits f i s).view i.inst) (commits f i s).view).told, refl, committed_plain f (next_stamp f (next_vector f i)) (instance_of (commits f i s).view i.inst) (commits f i s).view)
      ]
      | false ↦ last_shaped f i i.work.last s
    ]

executes_shaped : (f : Frame) (m : Mending) (i : Instance) (o : Op) (seen : List ℕ) (s : Store) → Shaped (executes f m i o seen s)
executes_shaped f m i op.Commit seen s = commit_shaped f i s
executes_shaped f m i op.Abort seen s = tt
executes_shaped f m i (op.Probe name) seen s = effect_shaped f i (op.Probe name) (effect_of (op.Probe name) seen m i.work.content) s
executes_shaped f m i (op.Find component) seen s = effect_shaped f i (op.Find component) (effect_of (op.Find component) seen m i.work.content) s
executes_shaped f m i (op.Insert name ino kind) seen s = effect_shaped f i (op.Insert name ino kind) (effect_of (op.Insert name ino kind) seen m i.work.content) s
executes_shaped f m i (op.Remove name ino) seen s = effect_shaped f i (op.Remove name ino) (effect_of (op.Remove name ino) seen m i.work.content) s
executes_shaped f m i (op.Rename component name) seen s = effect_shaped f i (op.Rename component name) (effect_of (op.Rename component name) seen m i.work.content) s
executes_shaped f m i op.Empty seen s = effect_shaped f i op.Empty (effect_of op.Empty seen m i.work.content) s
executes_shaped f m i (op.Read at len) seen s = effect_shaped f i (op.Read at len) (effect_of (op.Read at len) seen m i.work.content) s
executes_shaped f m i (op.Write at bytes) seen s = effect_shaped f i (op.Write at bytes) (effect_of (op.Write at bytes) seen m i.work.content) s
executes_shaped f m i (op.Cut len) seen s = effect_shaped f i (op.Cut len) (effect_of (op.Cut len) seen m i.work.content) s
executes_shaped f m i op.Mend seen s = effect_shaped f i op.Mend (effect_of op.Mend seen m i.work.content) s

number_shaped : (f : Frame) (m : Mending) (i : Instance) (n : ℕ) (o : Op) (seen : List ℕ) (s : Store) → Shaped (by_number f m i n o seen s)
number_shaped f m i n o seen s =
    elim (n == i.work.ops) as (λ b. Shaped (elim b [ true ↦ sends (op_again f i n i.answered) s | false ↦ elim (n == i.work.ops + 1) [ true ↦ executes f m i o seen s | false ↦ quiet s ] ])) [
      | true ↦ tt
      | false ↦ elim (n == i.work.ops + 1) as (λ b. Shaped (elim b [ true ↦ executes f m i o seen s | false ↦ quiet s ])) [ true ↦ executes_shaped f m i o seen s | false ↦ tt ]
    ]

op_at_shaped : (f : Frame) (m : Mending) (i : Instance) (g : Stage) (n : ℕ) (o : Op) (seen : List ℕ) (s : Store) → Shaped (on_op_at f m i g n o seen s)
op_at_shaped f m i stage.Running n o seen s = number_shaped f m i n o seen s
op_at_shaped f m i (stage.Closing made a) n o seen s = tt
op_at_shaped f m i (stage.Closed a) n o seen s = tt

op_of_shaped : (f : Frame) (m : Mending) (i : Option Instance) (n : ℕ) (o : Op) (seen : List ℕ) (s : Store) → Shaped (on_op_of f m i n o seen s)
op_of_shaped f m None n o seen s = tt
op_of_shaped f m (Some i) n o seen s = op_at_shaped f m i i.stage n o seen s

pub on_op_shaped : (f : Frame) (m : Mending) (inst : Serial) (n : ℕ) (o : Op) (seen : List ℕ) (s : Store) → Shaped (on_op f m inst n o seen s)
on_op_shaped f m inst n o seen s = op_of_shaped f m (instance_of s inst) n o seen s

-- ---- adoptions ----

first_shaped : (f : Frame) (ps : List Pull) (v : SiteView) → Shaped (adopts_first f ps v)
first_shaped f [] v = tt
first_shaped f (p ∷ ps) v =
    elim (is_ready v p) as (λ t. Shaped (elim t [ true ↦ elim (fits_own p (copy_of v.store p.file)) [ true ↦ adopts_pull f p v | false ↦ adopts_first f ps (without_pull p v) ] | false ↦ adopts_first f ps v ])) [
      | true ↦ elim (fits_own p (copy_of v.store p.file)) as (λ t. Shaped (elim t [ true ↦ adopts_pull f p v | false ↦ adopts_first f ps (without_pull p v) ])) [
        | true ↦ ([], refl, tt)
        | false ↦ first_shaped f ps (without_pull p v)
      ]
      | false ↦ first_shaped f ps v
    ]

pub adopts_shaped : (c : Config) (me : ℕ) (e : Option InEpoch) (v : SiteView) → Shaped (adopts_of c me e v)
adopts_shaped c me None v = tt
adopts_shaped c me (Some e) v = first_shaped (frame_in c me v.boot e) v.pulls v
