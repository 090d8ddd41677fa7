-- Why an event at an instance is refused as unfit.
use Rattle.std.proofs.lemmas.Bool.Decides.{nat_tests}
use Rattle.std.proofs.Common.{◌≡◌, ◌==◌, ℕ, ◌+◌, ◌<◌, ◌≤◌, true, List, length, refl, sym, ap, subst, ◌∙◌, arith}
use Rattle.std.specs.Prelude.{Result, Ok, Err, IsErrAnd}
use Rattle.locus_ids.specs.declared.ids.Stamp.{Stamp}
use Rattle.trace_book.specs.declared.operation.Op.{Op}
use Rattle.trace_book.specs.declared.operation.Op.TheVariants as op
use Rattle.operation_effects.specs.Joinable.{CanWorkOn, IsMemory}
use Rattle.operation_effects.specs.declared.fault.EffectFault.{EffectFault}
use Rattle.operation_effects.specs.declared.fault.EffectFault.TheVariants as effect
use Rattle.role_steps.specs.Views.{Frame}
use Rattle.role_steps.specs.OperationEffects.{Mending}
use Rattle.role_steps.specs.declared.copies.FileCopy.{FileCopy}
use Rattle.role_steps.specs.declared.instances.Instance.{Instance}
use Rattle.role_steps.specs.declared.instances.Stage.{Stage}
use Rattle.role_steps.specs.declared.instances.Stage.TheVariants as stage
use Rattle.site_packs.specs.Committing.{IsFit, room}
use Rattle.site_packs.specs.Copies.{copies_on}
use Rattle.site_packs.specs.Packs.{PacksState, groups_of}
use Rattle.site_packs.specs.declared.faults.CommitFault.{CommitFault}
use Rattle.site_packs.specs.declared.faults.CommitFault.TheVariants as commit
use Rattle.site_packs.specs.declared.faults.WriteSize.{WriteSize}
use Rattle.site_packs.specs.declared.faults.ReadFault.{ReadFault}
use Rattle.site_packs.specs.declared.faults.ReadFault.TheVariants as read
use Rattle.store_instances.specs.declared.fault.StoreFault.{StoreFault}
use Rattle.store_instances.specs.declared.fault.StoreFault.TheVariants as fault
use Rattle.store_instances.specs.Fitting.{CanClose, CanCommit, CanExecute, CanOperate, CanStore, version_of}
use Rattle.store_instances.specs.Stores.{is_running}
use Rattle.store_instances.specs.Writes.{fault_of_commit, fault_of_effect, fault_of_read}

-- ---- what the state asks for ----

-- an operation that is executed, but for a commit, works on what it may
pub works_on : (f : Frame) (m : Mending) (groups : List ℕ) (copies : List FileCopy) (i : Instance) (o : Op) → (o ≡ op.Commit → ⊥) → CanExecute f m groups copies i o → CanWorkOn o m.contents
works_on f m groups copies i op.Commit other can = absurd (other refl)
works_on f m groups copies i op.Mend other can = can
works_on f m groups copies i (op.Probe name) other can = tt
works_on f m groups copies i (op.Find component) other can = tt
works_on f m groups copies i (op.Insert name ino kind) other can = tt
works_on f m groups copies i (op.Remove name ino) other can = tt
works_on f m groups copies i (op.Rename component name) other can = tt
works_on f m groups copies i op.Empty other can = tt
works_on f m groups copies i (op.Read at len) other can = tt
works_on f m groups copies i (op.Write at bytes) other can = tt
works_on f m groups copies i (op.Cut len) other can = tt
works_on f m groups copies i op.Abort other can = tt

-- the operation is executed
pub operates : (f : Frame) (m : Mending) (groups : List ℕ) (copies : List FileCopy) (i : Instance) (st : Stage) (n : ℕ) (o : Op) → is_running st ≡ true → n ≡ i.work.ops + 1 → CanOperate f m groups copies i st n o → CanExecute f m groups copies i o
operates f m groups copies i stage.Running n o runs next can = can next
operates f m groups copies i (stage.Closing made answer) n o runs next can = absurd cc
operates f m groups copies i (stage.Closed answer) n o runs next can = absurd cc

pub closes_running : (f : Frame) (groups : List ℕ) (copies : List FileCopy) (i : Instance) (st : Stage) → is_running st ≡ true → CanClose f groups copies i st → CanCommit f groups copies i
closes_running f groups copies i stage.Running runs can = can
closes_running f groups copies i (stage.Closing made answer) runs can = absurd cc
closes_running f groups copies i (stage.Closed answer) runs can = absurd cc

pub is_next : (n ops : ℕ) → (n == ops + 1) ≡ true → n ≡ ops + 1
is_next n ops h = grind (arith, nat_tests)

-- ---- which faults are it ----

-- the same fault is answered
as_fault : {S : Type 0} (e f : StoreFault) → e ≡ f → ◌≡◌ {A = Result S StoreFault} (Err e) (Err f)
as_fault {S = S} e f is = subst (λ (g : StoreFault). ◌≡◌ {A = Result S StoreFault} (Err e) (Err g)) is refl

pub as_refused : (e f : CommitFault) → e ≡ f → ◌≡◌ {A = Result (Unit {0}) CommitFault} (Err e) (Err f)
as_refused e f is = subst (λ (g : CommitFault). ◌≡◌ {A = Result (Unit {0}) CommitFault} (Err e) (Err g)) is refl

is_fault : {T : Type 0} (e f : StoreFault) → ◌≡◌ {A = Result T StoreFault} (Err e) (Err f) → e ≡ f
is_fault e f is = cc

memory_unfit : fault.NoMemory ≡ fault.Unfit → ⊥
memory_unfit e = cc

disk_unfit : fault.Disk ≡ fault.Unfit → ⊥
disk_unfit e = cc

cut_unfit : (size : WriteSize) → fault.Cut size ≡ fault.Unfit → ⊥
cut_unfit size e = cc

-- a commit is refused so only where it has no room or isn't fit
pub refused_commit : {T : Type 0} (P : Type 0) (e : CommitFault) (f : StoreFault) → f ≡ fault_of_commit e → (e ≡ commit.NoSpace → P → ⊥) → (e ≡ commit.Unfit → P → ⊥) → ◌≡◌ {A = Result T StoreFault} (Err f) (Err fault.Unfit) → P → ⊥
refused_commit P commit.NoSpace f is full unfit so = full refl
refused_commit P commit.Unfit f is full unfit so = unfit refl
refused_commit P commit.NoMemory f is full unfit so = absurd (memory_unfit (sym is ∙ is_fault f fault.Unfit so))
refused_commit P commit.Disk f is full unfit so = absurd (disk_unfit (sym is ∙ is_fault f fault.Unfit so))
refused_commit P (commit.Cut size) f is full unfit so = absurd (cut_unfit size (sym is ∙ is_fault f fault.Unfit so))

-- want of memory isn't it
pub memory_fit : {T : Type 0} (r : Result T StoreFault) → IsErrAnd r (λ f. f ≡ fault.NoMemory) → r ≡ Err fault.Unfit → ⊥
memory_fit (Ok x) h so = absurd h
memory_fit (Err f) h so = memory_unfit (sym h ∙ is_fault f fault.Unfit so)

-- nor is a read that is refused
read_fit : (e : ReadFault) → fault_of_read e ≡ fault.Unfit → ⊥
read_fit read.Disk h = disk_unfit h
read_fit read.NoMemory h = memory_unfit h

pub refused_read : {T : Type 0} (e : ReadFault) (r : Result T StoreFault) → IsErrAnd r (λ f. f ≡ fault_of_read e) → r ≡ Err fault.Unfit → ⊥
refused_read e (Ok x) h so = absurd h
refused_read e (Err f) h so = read_fit e (sym h ∙ is_fault f fault.Unfit so)

-- an operation is, where it may not work on what it is to
effect_fit : (e : EffectFault) → IsMemory e → fault_of_effect e ≡ fault.Unfit → ⊥
effect_fit effect.NoMemory is h = memory_unfit h
effect_fit effect.Unfit is h = absurd is

pub refused_effect : {T : Type 0} (P : Type 0) (e : EffectFault) (r : Result T StoreFault) → IsErrAnd r (λ f. f ≡ fault_of_effect e) → (P → IsMemory e) → r ≡ Err fault.Unfit → P → ⊥
refused_effect P e (Ok x) h fits so can = absurd h
refused_effect P e (Err f) h fits so can = effect_fit e (fits can) (sym h ∙ is_fault f fault.Unfit so)

-- a fault that a `?` hands on is, where it was
pub unfit_at : {T S : Type 0} (P : Type 0) (r : Result T StoreFault) (e : StoreFault) → IsErrAnd r (λ f. f ≡ e) → (◌≡◌ {A = Result S StoreFault} (Err e) (Err fault.Unfit) → P → ⊥) → r ≡ Err fault.Unfit → P → ⊥
unfit_at P (Ok x) e h unfit so = absurd h
unfit_at {S = S} P (Err f) e h unfit so = unfit (as_fault {S = S} e fault.Unfit (sym h ∙ is_fault f fault.Unfit so))

-- ---- what may be stored ----

-- what may be stored is fit for the packs
fits_packs : (p : PacksState) (image : List ℕ) (i : Instance) (vector : List ℕ) (stamp : Stamp) → CanStore (groups_of p) (copies_on (groups_of p) image) i vector stamp → IsFit p image i.file (version_of i vector stamp) i.work.content i.work.changed
fits_packs p image i vector stamp can = record { whole = record { group = can.group; low = can.low; high = can.high; version = can.version }; pages = can.pages; kept = can.kept }

-- the instance may be stored, as it is seen by its fields
module _ (p : PacksState) (image : List ℕ) (i q : Instance) (vector : List ℕ) (stamp : Stamp) (content changed : List ℕ) (same : q ≡ i) (c : content ≡ q.work.content) (h : changed ≡ q.work.changed) where
  pub store_full : room p image q.file.group < length changed → CanStore (groups_of p) (copies_on (groups_of p) image) i vector stamp → ⊥
  store_full full can =
      let has : length changed ≤ room p image q.file.group =
      subst (λ (ps : List ℕ). length ps ≤ room p image q.file.group) (sym h) (subst (λ (j : Instance). length j.work.changed ≤ room p image j.file.group) (sym same) can.room) in
      absurd (omega (arith, has, full))

  pub store_unfit : (IsFit p image q.file (version_of q vector stamp) content changed → ⊥) → CanStore (groups_of p) (copies_on (groups_of p) image) i vector stamp → ⊥
  store_unfit other can =
      other (subst (λ (xs : List ℕ). IsFit p image q.file (version_of q vector stamp) xs changed) (sym c)
      (subst (λ (ps : List ℕ). IsFit p image q.file (version_of q vector stamp) q.work.content ps) (sym h)
      (subst (λ (j : Instance). IsFit p image j.file (version_of j vector stamp) j.work.content j.work.changed) (sym same) (fits_packs p image i vector stamp can))))

-- the same where it never was
pub fit_at : {T S : Type 0} (r : Result T StoreFault) (e : StoreFault) → IsErrAnd r (λ f. f ≡ e) → (◌≡◌ {A = Result S StoreFault} (Err e) (Err fault.Unfit) → ⊥) → r ≡ Err fault.Unfit → ⊥
fit_at r e h fit so = unfit_at (Unit {0}) r e h (λ s u. fit s) so tt
