-- A boot that doesn't come about: what is known of a fault of the label or of a pack. How many calls are made.
use Rattle.std.proofs.Common.{◌≡◌, inl, inr, ℕ, ◌+◌, ◌^◌, ◌<◌, List, sym, ◌∙◌, ap, subst, arith}
use Rattle.std.specs.Prelude.{Result, Ok, Err, IsErr, IsErrAnd, IfErr, if◌then◌else◌}
use Rattle.std.proofs.lemmas.Bool.{false≢true}
use Rattle.disk_model.specs.Disk.{Passing}
use Rattle.disk_model.specs.Images.{Torn}
use Rattle.disk_model.specs.Moments.{TellsMany}
use Rattle.disk_model.specs.declared.disk.DiskFault.{DiskFault}
use Rattle.disk_model.specs.declared.disk.DiskFault.TheVariants.{Failed}
use Rattle.disk_model.proofs.Tells.{tells_join}
use Rattle.pack_slots.specs.declared.mount_fault.MountFault.{MountFault}
use Rattle.pack_slots.specs.declared.mount_fault.MountFault.TheVariants as mount
use Rattle.pack_slots.specs.Mounting.{IsPassing as IsPassingMount}
use Rattle.site_label.specs.declared.label_fault.LabelFault.{LabelFault}
use Rattle.site_label.specs.declared.label_fault.LabelFault.TheVariants as label
use Rattle.site_label.specs.Label.{HasBoot}
use Rattle.site_label.specs.Raising.{IsCause as IsLabelCause, are_open}
use Rattle.site_label.proofs.Halves.{one_boot}
use Rattle.site_packs.specs.Mounting.{IsCause as IsMountCause, TellsMount, mount_calls}
use Rattle.site_packs.proofs.Mounts.{cause_behind}
use Rattle.site_disk.specs.declared.boot_fault.BootFault.{BootFault}
use Rattle.site_disk.specs.declared.format_fault.FormatFault.{FormatFault}
use Rattle.site_disk.specs.declared.format_fault.FormatFault.TheVariants.{Disk, NoMemory}
use Rattle.site_disk.specs.Boots.{fault_of_label, fault_of_mount, IsCause, IsPassing, boot_calls, TellsBoot}
use Rattle.site_disk.specs.Formats.{TellsFormat}
use Rattle.site_disk.proofs.Leaving.{label_back, calls_still}

-- what holds of the fault that is given on
pub if_given : {T : Type 0} (r : Result T BootFault) (fault : BootFault) (P : BootFault → Type 0) → IsErr r × IsErrAnd r (λ e. e ≡ fault) → P fault → IfErr r P
if_given (Ok x) fault P given holds = tt
if_given (Err e) fault P given holds = subst P (sym given.1) holds

pub label_passing : (site boot : ℕ) (image : List ℕ) (fault : LabelFault) → HasBoot site boot image → boot + 1 < 2 ^ 32 → IsLabelCause site image fault → IsPassing (fault_of_label fault)
label_passing site boot image label.Disk has lt cause = tt
label_passing site boot image label.NotALabel has lt cause = cause boot has
label_passing site boot image label.Spent has lt cause = let e = one_boot site boot 4294967295 image has cause in absurd (omega arith)

-- ---- of a pack, behind a label that was raised ----

pub mount_cause : (site : ℕ) (groups old mid : List ℕ) (fault : MountFault) → Torn 0 1024 old mid → IsMountCause site groups mid fault → IsCause site groups old (fault_of_mount fault)
mount_cause site groups old mid mount.Disk torn cause = tt
mount_cause site groups old mid mount.NotAPack torn (inl passing) = absurd passing
mount_cause site groups old mid mount.NotAPack torn (inr first) = cause_behind 0 site groups mid old mount.NotAPack (label_back old mid torn) first
mount_cause site groups old mid (mount.BadSlot ino) torn (inl passing) = absurd passing
mount_cause site groups old mid (mount.BadSlot ino) torn (inr first) = cause_behind 0 site groups mid old (mount.BadSlot ino) (label_back old mid torn) first
mount_cause site groups old mid (mount.SharedTable table) torn (inl passing) = absurd passing
mount_cause site groups old mid (mount.SharedPage page) torn (inl passing) = absurd passing
mount_cause site groups old mid (mount.SharedTable table) torn (inr first) = cause_behind 0 site groups mid old (mount.SharedTable table) (label_back old mid torn) first
mount_cause site groups old mid (mount.SharedPage page) torn (inr first) = cause_behind 0 site groups mid old (mount.SharedPage page) (label_back old mid torn) first
mount_cause site groups old mid mount.NoMemory torn cause = tt

pub mount_passing : (fault : MountFault) → IsPassingMount fault → IsPassing (fault_of_mount fault)
mount_passing mount.Disk passing = tt
mount_passing mount.NotAPack passing = passing
mount_passing (mount.BadSlot ino) passing = passing
mount_passing (mount.SharedTable table) passing = passing
mount_passing (mount.SharedPage page) passing = passing
mount_passing mount.NoMemory passing = tt

-- the calls of the label, and then those of the packs
pub whole_tells : (groups old mid : List ℕ) (p q r : Passing) (result : Result (Unit {0}) DiskFault) → Torn 0 1024 old mid → TellsMany {T = Unit {0}} {E = DiskFault} (if are_open old then 8 else 6) p q (Ok tt)
    → TellsMany (mount_calls groups mid) q r result → TellsMany (boot_calls groups old) p r result
whole_tells groups old mid p q r result torn first later =
    let n : ℕ = if are_open old then 8 else 6 in
    tells_join n (mount_calls groups old) p q r result first (subst (λ (k : ℕ). TellsMany k q r result) (calls_still groups old mid torn) later)

mount_tells : (T U : Type 0) (groups old mid : List ℕ) (p q r : Passing) (fault : MountFault) → Torn 0 1024 old mid → TellsMany {T = Unit {0}} {E = DiskFault} (if are_open old then 8 else 6) p q (Ok tt)
    → TellsMount {T = T} (mount_calls groups mid) q r (Err fault) → TellsBoot {T = U} (boot_calls groups old) p r (Err (fault_of_mount fault))
mount_tells T U groups old mid p q r mount.Disk torn first later = whole_tells groups old mid p q r (Err Failed) torn first later
mount_tells T U groups old mid p q r mount.NotAPack torn first later = tt
mount_tells T U groups old mid p q r (mount.BadSlot ino) torn first later = tt
mount_tells T U groups old mid p q r (mount.SharedTable table) torn first later = tt
mount_tells T U groups old mid p q r (mount.SharedPage page) torn first later = tt
mount_tells T U groups old mid p q r mount.NoMemory torn first later = tt

-- the same of what the mount answered, and what was made of it
pub mount_given : {T U : Type 0} (m : Result T MountFault) (result : Result U BootFault) (groups old mid : List ℕ) (p q r : Passing) (fault : MountFault) → m ≡ Err fault → IsErr result × IsErrAnd result (λ e. e ≡ fault_of_mount fault) → Torn 0 1024 old mid
    → TellsMany {T = Unit {0}} {E = DiskFault} (if are_open old then 8 else 6) p q (Ok tt) → TellsMount (mount_calls groups mid) q r m → TellsBoot (boot_calls groups old) p r result
mount_given (Ok x) result groups old mid p q r fault is given torn first later = absurd (cc)
mount_given (Err e) (Ok y) groups old mid p q r fault is given torn first later = absurd (false≢true given.0)
mount_given {T} {U} (Err e) (Err b) groups old mid p q r fault is given torn first later =
    let same : e ≡ fault = cc in
    subst (λ (f : BootFault). TellsBoot {T = U} (boot_calls groups old) p r (Err f)) (ap fault_of_mount same ∙ sym given.1) (mount_tells T U groups old mid p q r e torn first later)

-- ---- of a format ----

pub format_failed : {T : Type 0} (r : Result T FormatFault) (n m : ℕ) (p q s : Passing) (fault : DiskFault) → IsErr r × IsErrAnd r (λ e. e ≡ Disk) → TellsMany {T = Unit {0}} {E = DiskFault} n p q (Ok tt)
    → TellsMany {T = Unit {0}} {E = DiskFault} m q s (Err fault) → TellsFormat (n + m) p s r
format_failed (Ok x) n m p q s fault given first later = absurd (false≢true given.0)
format_failed {T} (Err e) n m p q s Failed given first later = subst (λ (f : FormatFault). TellsFormat {T = T} (n + m) p s (Err f)) (sym given.1) (tells_join n m p q s (Err Failed) first later)

pub format_tells : {T : Type 0} (n m k : ℕ) (p q r s : Passing) (result : Result T FormatFault) → k ≡ 0 → TellsMany {T = Unit {0}} {E = DiskFault} n p q (Ok tt) → TellsMany {T = Unit {0}} {E = DiskFault} m q r (Ok tt)
    → TellsFormat k r s result → TellsFormat (n + m) p s result
format_tells n m k p q r s (Ok x) none first later last =
    let e : n + m + k ≡ n + m = omega arith in
    subst (λ (c : ℕ). TellsMany {T = Unit {0}} {E = DiskFault} c p s (Ok tt)) e (tells_join (n + m) k p r s (Ok tt) (tells_join n m p q r (Ok tt) first later) last)
format_tells n m k p q r s (Err Disk) none first later last =
    let e : n + m + k ≡ n + m = omega arith in
    subst (λ (c : ℕ). TellsMany {T = Unit {0}} {E = DiskFault} c p s (Err Failed)) e (tells_join (n + m) k p r s (Err Failed) (tells_join n m p q r (Ok tt) first later) last)
format_tells n m k p q r s (Err NoMemory) none first later last = tt
