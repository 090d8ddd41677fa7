-- Why a packet for the storage site is refused as unfit.
use Rattle.std.proofs.Common.{◌≡◌, ◌≢◌, ℕ, List, Option, None, Some, refl, sym, ap, ◌∙◌, subst}
use Rattle.std.specs.Option.{option_map}
use Rattle.std.specs.Prelude.{Result, Ok, Err, IfOk, IsErrAnd, unwrap_or}
use Rattle.locus_ids.specs.declared.ids.Serial.{Serial}
use Rattle.trace_book.specs.declared.operation.Op.{Op}
use Rattle.trace_book.specs.declared.operation.Op.TheVariants as op
use Rattle.role_steps.specs.OperationEffects.{Mending}
use Rattle.role_steps.specs.Storage.{instance_of}
use Rattle.role_steps.specs.Views.{Frame, Store, Users}
use Rattle.role_steps.specs.declared.copies.FileCopy.{FileCopy}
use Rattle.role_steps.specs.declared.instances.Instance.{Instance}
use Rattle.role_steps.specs.declared.instances.Stage.{Stage}
use Rattle.role_steps.specs.declared.instances.Stage.TheVariants as stage
use Rattle.role_steps.specs.declared.synchronizing.SyncTable.{SyncTable}
use Rattle.run_laws.specs.of_the_run.Steps.{group_of}
use Rattle.site_packs.specs.declared.faults.WriteSize.{WriteSize}
use Rattle.storage_site.specs.of_store_instances.Fitting.{CanExecute, CanOperate}
use Rattle.storage_site.specs.of_store_instances.declared.fault.StoreFault.{StoreFault}
use Rattle.storage_site.specs.of_store_instances.declared.fault.StoreFault.TheVariants as store
use Rattle.storage_site.specs.Fitting.{CanOperateAt, CanOperateOf}
use Rattle.site_parts.specs.Faults.{fault_of_reading, fault_of_store}
use Rattle.site_parts.specs.Roles.{mending_by}
use Rattle.site_parts.specs.declared.fault.NodeFault.{NodeFault}
use Rattle.site_parts.specs.declared.fault.NodeFault.TheVariants.{NoMemory, Disk, Cut, Unfit}

-- ---- which faults are it ----

-- the same fault is answered
as_fault : {S : Type 0} (e f : NodeFault) → e ≡ f → ◌≡◌ {A = Result S NodeFault} (Err e) (Err f)
as_fault {S = S} e f is = subst (λ (g : NodeFault). ◌≡◌ {A = Result S NodeFault} (Err e) (Err g)) is refl

as_store : {S : Type 0} (e f : StoreFault) → e ≡ f → ◌≡◌ {A = Result S StoreFault} (Err e) (Err f)
as_store {S = S} e f is = subst (λ (g : StoreFault). ◌≡◌ {A = Result S StoreFault} (Err e) (Err g)) is refl

is_fault : {T : Type 0} (e f : NodeFault) → ◌≡◌ {A = Result T NodeFault} (Err e) (Err f) → e ≡ f
is_fault e f is = cc

memory_unfit : NoMemory ≡ Unfit → ⊥
memory_unfit e = cc

disk_unfit : Disk ≡ Unfit → ⊥
disk_unfit e = cc

-- want of memory isn't it
pub memory_fit : {T : Type 0} (r : Result T NodeFault) → IsErrAnd r (λ f. f ≡ NoMemory) → r ≡ Err Unfit → ⊥
memory_fit (Ok x) h so = absurd h
memory_fit (Err f) h so = memory_unfit (sym h ∙ is_fault f Unfit so)

cut_unfit : (size : WriteSize) → Cut size ≡ Unfit → ⊥
cut_unfit size e = cc

store_unfit : (e : StoreFault) → fault_of_store e ≡ Unfit → e ≡ store.Unfit
store_unfit store.Unfit h = refl
store_unfit store.Disk h = absurd (disk_unfit h)
store_unfit store.NoMemory h = absurd (memory_unfit h)
store_unfit (store.Cut size) h = absurd (cut_unfit size h)

reading_unfit : (e : StoreFault) → fault_of_reading e ≡ Unfit → e ≡ store.Unfit
reading_unfit store.Unfit h = refl
reading_unfit store.Disk h = absurd (disk_unfit h)
reading_unfit store.NoMemory h = absurd (memory_unfit h)
reading_unfit (store.Cut size) h = absurd (disk_unfit h)

-- a fault of the role that a `?` hands on is, where it was
pub refused_store : {T S : Type 0} (P : Type 0) (r : Result T NodeFault) (e : StoreFault) → IsErrAnd r (λ f. f ≡ fault_of_store e) → (◌≡◌ {A = Result S StoreFault} (Err e) (Err store.Unfit) → P → ⊥) → r ≡ Err Unfit → P → ⊥
refused_store P (Ok x) e h unfit so = absurd h
refused_store {S = S} P (Err f) e h unfit so = unfit (as_store {S = S} e store.Unfit (store_unfit e (sym h ∙ is_fault f Unfit so)))

-- so is the fault of a call that only reads
pub refused_reading : {T S : Type 0} (P : Type 0) (f : NodeFault) (e : StoreFault) → f ≡ fault_of_reading e → (◌≡◌ {A = Result S StoreFault} (Err e) (Err store.Unfit) → P → ⊥) → ◌≡◌ {A = Result T NodeFault} (Err f) (Err Unfit) → P → ⊥
refused_reading {S = S} P f e h unfit so = unfit (as_store {S = S} e store.Unfit (reading_unfit e (sym h ∙ is_fault f Unfit so)))

-- and one of the site
pub unfit_at : {T S : Type 0} (P : Type 0) (r : Result T NodeFault) (e : NodeFault) → IsErrAnd r (λ f. f ≡ e) → (◌≡◌ {A = Result S NodeFault} (Err e) (Err Unfit) → P → ⊥) → r ≡ Err Unfit → P → ⊥
unfit_at P (Ok x) e h unfit so = absurd h
unfit_at {S = S} P (Err f) e h unfit so = unfit (as_fault {S = S} e Unfit (sym h ∙ is_fault f Unfit so))

-- ---- what a mend works on ----

pub group_named : (o : Option Instance) (named : Option ℕ) (group : ℕ) → named ≡ option_map (λ (i : Instance). i.file.group) o → group ≡ unwrap_or named 0 → group_of o ≡ group
group_named o named group n g = sym (g ∙ (ap (λ (m : Option ℕ). unwrap_or m 0) n ∙ is o)) where
  is : (p : Option Instance) → unwrap_or (option_map (λ (i : Instance). i.file.group) p) 0 ≡ group_of p
  is None = refl
  is (Some i) = refl

-- any other operation may be executed whatever that is
executes_alike : (f : Frame) (m l : Mending) (groups : List ℕ) (copies : List FileCopy) (i : Instance) (o : Op) → o ≢ op.Mend → CanExecute f m groups copies i o → CanExecute f l groups copies i o
executes_alike f m l groups copies i op.Mend n can = absurd (n refl)
executes_alike f m l groups copies i op.Commit n can = can
executes_alike f m l groups copies i _ n can = tt

stage_alike : (f : Frame) (m l : Mending) (groups : List ℕ) (copies : List FileCopy) (i : Instance) (st : Stage) (k : ℕ) (o : Op) → o ≢ op.Mend → CanOperate f m groups copies i st k o → CanOperate f l groups copies i st k o
stage_alike f m l groups copies i stage.Running k o n can = λ next. executes_alike f m l groups copies i o n (can next)
stage_alike f m l groups copies i (stage.Closing made a) k o n can = tt
stage_alike f m l groups copies i (stage.Closed a) k o n can = tt

of_alike : (f : Frame) (m l : Mending) (groups : List ℕ) (copies : List FileCopy) (k : ℕ) (o : Op) (r : Option Instance) → o ≢ op.Mend → CanOperateOf f m groups copies k o r → CanOperateOf f l groups copies k o r
of_alike f m l groups copies k o None n can = tt
of_alike f m l groups copies k o (Some i) n can = stage_alike f m l groups copies i i.stage k o n can

pub operates_alike : (f : Frame) (m l : Mending) (groups : List ℕ) (inst : Serial) (k : ℕ) (o : Op) (s : Store) → o ≢ op.Mend → CanOperateAt f m groups inst k o s → CanOperateAt f l groups inst k o s
operates_alike f m l groups inst k o s n can = of_alike f m l groups s.copies k o (instance_of s inst) n can

pub operates_mend : (inst : Serial) (o : Op) (ts : List SyncTable) (u : Users) (xs : List Instance) (r : Result Mending NodeFault) → IfOk r (λ work. (s : Store) → s.instances ≡ xs → work ≡ mending_by ts u s inst)
    → IfOk r (λ work. (f : Frame) (groups : List ℕ) (k : ℕ) (s : Store) → s.instances ≡ xs → CanOperateAt f (mending_by ts u s inst) groups inst k o s → CanOperateAt f work groups inst k o s)
operates_mend inst o ts u xs (Ok work) h = λ f groups k s e can. subst (λ (m : Mending). CanOperateAt f m groups inst k o s) (sym (h s e)) can
operates_mend inst o ts u xs (Err e) h = tt
