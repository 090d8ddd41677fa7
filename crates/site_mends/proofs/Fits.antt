-- Why mends are refused as unfit.
use Rattle.std.proofs.Common.{◌≡◌, ◌-◌, ◌≤◌, List, [], ◌∷◌, length, take, drop, get_or, refl, sym, subst, ◌∙◌, arith}
use Rattle.std.proofs.lemmas.List.{take_all}
use Rattle.std.specs.List.{AllByRecursion}
use Rattle.std.specs.Prelude.{Result, Ok, Err, IsErrAnd}
use Rattle.site_frame.specs.of_role_steps.declared.synchronizing.SyncTable.{SyncTable}
use Rattle.site_packs.specs.declared.faults.ReadFault.{ReadFault}
use Rattle.site_packs.specs.declared.faults.ReadFault.TheVariants as read
use Rattle.site_tables.specs.Inodes.{AreInodes}
use Rattle.site_mends.specs.Mending.{fault_of_read}
use Rattle.site_mends.specs.declared.fault.MendFault.{MendFault}
use Rattle.site_mends.specs.declared.fault.MendFault.TheVariants.{NoMemory, Disk, Unfit}

-- the same fault is answered
as_fault : {S : Type 0} (e f : MendFault) → e ≡ f → ◌≡◌ {A = Result S MendFault} (Err e) (Err f)
as_fault {S = S} e f is = subst (λ (g : MendFault). ◌≡◌ {A = Result S MendFault} (Err e) (Err g)) is refl

is_fault : {T : Type 0} (e f : MendFault) → ◌≡◌ {A = Result T MendFault} (Err e) (Err f) → e ≡ f
is_fault e f is = cc

memory_unfit : NoMemory ≡ Unfit → ⊥
memory_unfit e = cc

disk_unfit : Disk ≡ Unfit → ⊥
disk_unfit e = cc

-- want of memory isn't it
pub memory_fit : {T : Type 0} (r : Result T MendFault) → IsErrAnd r (λ f. f ≡ NoMemory) → r ≡ Err Unfit → ⊥
memory_fit (Ok x) h so = absurd h
memory_fit (Err f) h so = memory_unfit (sym h ∙ is_fault f Unfit so)

read_fit : (e : ReadFault) → fault_of_read e ≡ Unfit → ⊥
read_fit read.Disk h = disk_unfit h
read_fit read.NoMemory h = memory_unfit h

-- nor is a read that is refused
pub refused_read : {T : Type 0} (e : ReadFault) (r : Result T MendFault) → IsErrAnd r (λ f. f ≡ fault_of_read e) → r ≡ Err Unfit → ⊥
refused_read e (Ok x) h so = absurd h
refused_read e (Err f) h so = read_fit e (sym h ∙ is_fault f Unfit so)

-- a fault that a `?` hands on is, where it was
pub unfit_at : {T S : Type 0} (P : Type 0) (r : Result T MendFault) (e : MendFault) → IsErrAnd r (λ f. f ≡ e) → (◌≡◌ {A = Result S MendFault} (Err e) (Err Unfit) → P → ⊥) → r ≡ Err Unfit → P → ⊥
unfit_at P (Ok x) e h unfit so = absurd h
unfit_at {S = S} P (Err f) e h unfit so = unfit (as_fault {S = S} e Unfit (sym h ∙ is_fault f Unfit so))

-- the first of some tables, and the others
pub first_are : (all : List SyncTable) (t : SyncTable) → 1 ≤ length all → t ≡ get_or all 0 t → AllByRecursion AreInodes all → AreInodes t
first_are [] t some is are = absurd (omega (arith, some))
first_are (x ∷ ts) t some is are = subst AreInodes (sym is) are.0

rest_of : (t : SyncTable) (ts : List SyncTable) → take (length (t ∷ ts) - 1) (drop 1 (t ∷ ts)) ≡ ts
rest_of t ts = take_all (length (t ∷ ts) - 1) ts (omega arith)

pub rest_are : (all : List SyncTable) → 1 ≤ length all → AllByRecursion AreInodes all → AllByRecursion AreInodes (take (length all - 1) (drop 1 all))
rest_are [] some are = absurd (omega (arith, some))
rest_are (x ∷ ts) some are = subst (λ (l : List SyncTable). AllByRecursion AreInodes l) (sym (rest_of x ts)) are.1
