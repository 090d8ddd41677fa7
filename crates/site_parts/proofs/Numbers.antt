-- When no number is left for an epoch.
use Rattle.std.proofs.Common.{◌≡◌, Result, Ok, Err, IfErr, refl, sym, ◌∙◌, subst}
use Rattle.std.specs.Result.{IsErrAnd}
use Rattle.merge_protocol.specs.declared.errors.EpochError.{EpochError}
use Rattle.merge_protocol.specs.declared.errors.EpochError.TheVariants as epoch
use Rattle.packet_order.specs.declared.fault.OrderFault.{OrderFault}
use Rattle.packet_order.specs.declared.fault.OrderFault.TheVariants as order
use Rattle.site_mends.specs.declared.fault.MendFault.{MendFault}
use Rattle.site_mends.specs.declared.fault.MendFault.TheVariants as mend
use Rattle.site_packs.specs.declared.faults.CommitFault.{CommitFault}
use Rattle.site_packs.specs.declared.faults.CommitFault.TheVariants as commit
use Rattle.storage_site.specs.of_store_instances.declared.fault.StoreFault.{StoreFault}
use Rattle.storage_site.specs.of_store_instances.declared.fault.StoreFault.TheVariants as store
use Rattle.site_parts.specs.Faults.{IsOffDisk, IsOwn, fault_of_commit, fault_of_epoch, fault_of_mend, fault_of_order, fault_of_reading, fault_of_store}
use Rattle.site_packs.specs.declared.faults.WriteSize.{WriteSize}
use Rattle.site_parts.specs.declared.fault.NodeFault.{NodeFault}
use Rattle.site_parts.specs.declared.fault.NodeFault.TheVariants.{NoMemory, Disk, Cut, NoNumber, Unfit}

pub if_err : {T : Type 0} (r : Result T NodeFault) (e : NodeFault) (P : NodeFault → Type 0) → IsErrAnd r (λ f. f ≡ e) → P e → IfErr r P
if_err (Ok x) e P h k = tt
if_err (Err f) e P h k = subst P (sym h) k

pub memory_numbered : NoMemory ≡ NoNumber → ⊥
memory_numbered h = cc

disk_numbered : Disk ≡ NoNumber → ⊥
disk_numbered h = cc

unfit_numbered : Unfit ≡ NoNumber → ⊥
unfit_numbered h = cc

pub order_numbered : (e : OrderFault) → fault_of_order e ≡ NoNumber → ⊥
order_numbered order.NoMemory h = memory_numbered h
order_numbered order.Unfit h = unfit_numbered h

pub mend_numbered : (e : MendFault) → fault_of_mend e ≡ NoNumber → ⊥
mend_numbered mend.NoMemory h = memory_numbered h
mend_numbered mend.Disk h = disk_numbered h
mend_numbered mend.Unfit h = unfit_numbered h

pub spent_at : (e : EpochError) (p : Type 0) → (e ≡ epoch.NoNumber → p) → fault_of_epoch e ≡ NoNumber → p
spent_at epoch.NoMemory p k h = absurd (memory_numbered h)
spent_at epoch.NoNumber p k h = k refl

cut_numbered : (size : WriteSize) → Cut size ≡ NoNumber → ⊥
cut_numbered size h = cc

pub store_numbered : (e : StoreFault) → fault_of_store e ≡ NoNumber → ⊥
store_numbered store.Disk h = disk_numbered h
store_numbered (store.Cut size) h = cut_numbered size h
store_numbered store.Unfit h = unfit_numbered h
store_numbered store.NoMemory h = memory_numbered h

reading_numbered : (e : StoreFault) → fault_of_reading e ≡ NoNumber → ⊥
reading_numbered store.Disk h = disk_numbered h
reading_numbered (store.Cut size) h = disk_numbered h
reading_numbered store.Unfit h = unfit_numbered h
reading_numbered store.NoMemory h = memory_numbered h

pub read_numbered : (f : NodeFault) (e : StoreFault) → f ≡ fault_of_reading e → f ≡ NoNumber → ⊥
read_numbered f e is h = reading_numbered e (sym is ∙ h)

pub commit_numbered : (e : CommitFault) → fault_of_commit e ≡ NoNumber → ⊥
commit_numbered commit.Disk h = disk_numbered h
commit_numbered (commit.Cut size) h = cut_numbered size h
commit_numbered commit.NoSpace h = unfit_numbered h
commit_numbered commit.Unfit h = unfit_numbered h
commit_numbered commit.NoMemory h = memory_numbered h

pub own_off : (f : NodeFault) → IsOwn f → IsOffDisk f
own_off NoMemory h = tt
own_off Unfit h = tt
own_off NoNumber h = absurd h
own_off Disk h = absurd h
own_off (Cut size) h = absurd h

pub own_numbered : (f : NodeFault) → IsOwn f → f ≡ NoNumber → ⊥
own_numbered f h is = subst IsOwn is h
