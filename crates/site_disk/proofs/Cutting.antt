-- What a boot leaves that was cut off, from what the label and the packs leave.
use Rattle.std.proofs.Common.{◌≡◌, inl, inr, ⊎_elim, ℕ, ◌+◌, ◌-◌, ◌*◌, ◌<◌, ◌≤◌, Bool, true, false, cond, List, length, refl, sym, ◌∙◌, ap, subst, arith}
use Rattle.std.specs.Prelude.{nat_lt, Result, Ok, Err, IsErr, IsErrAnd, OnErr, if◌then◌else◌}
use Rattle.std.proofs.lemmas.Bool.{false≢true, lt-ltb, le-ltb, cases_lt}
use Rattle.locus_ids.specs.declared.ids.FileId.{FileId}
use Rattle.disk_model.specs.Cut.{Cut}
use Rattle.disk_model.specs.Disk.{Passing, Untold, All, Exactly}
use Rattle.disk_model.specs.Images.{Torn}
use Rattle.disk_model.specs.Moments.{TellsMany}
use Rattle.disk_model.specs.declared.disk.DiskFault.{DiskFault}
use Rattle.disk_model.specs.declared.disk.DiskFault.TheVariants.{Failed}
use Rattle.pack_layout.specs.Layout.{area_length}
use Rattle.pack_slots.specs.Cutting.{closings_left}
use Rattle.pack_slots.specs.declared.mount_fault.MountFault.{MountFault}
use Rattle.pack_slots.specs.declared.mount_fault.MountFault.TheVariants as mount
use Rattle.pack_slots.specs.Mounting.{disk_answer as mount_answer}
use Rattle.site_label.specs.declared.label_fault.LabelFault.{LabelFault}
use Rattle.site_label.specs.declared.label_fault.LabelFault.TheVariants as label
use Rattle.site_label.specs.Label.{HasBoot}
use Rattle.site_label.specs.Raising.{are_open, boot_calls as calls_of_label, disk_answer as label_answer}
use Rattle.site_label.specs.Cutting.{LabelState, IsLeft, boot_left}
use Rattle.site_label.proofs.Image.{boot_there, boot_same, shut_same}
use Rattle.site_packs.specs.Cutting.{both_open_on, IsCutMount}
use Rattle.site_packs.proofs.Cutting.{both_agree}
use Rattle.site_disk.specs.declared.boot_fault.BootFault.{BootFault}
use Rattle.site_disk.specs.Image.{label_on, one_half}
use Rattle.site_disk.specs.Boots.{fault_of_label, fault_of_mount, disk_answer, label_calls, label_left, files_left, IsCutBoot}
use Rattle.site_disk.proofs.Labels.{label_there}
use Rattle.site_disk.proofs.Leaving.{label_torn, label_inside, areas_inside, both_inside, sound_still, copies_still, tables_still, tables_joined}

-- ---- the image ----

pub label_cut : (site : ℕ) (groups : List ℕ) (how : Cut) (before passed : ℕ) (old left : List ℕ) → IsLeft site (boot_left (are_open old) how passed before) old left → passed < label_calls (are_open old)
    → IsCutBoot site groups how before passed old left
label_cut site groups how before passed old left is few =
    let both = are_open old in
    let state = boot_left both how passed before in
    let within : nat_lt passed (label_calls both) ≡ true = lt-ltb passed (label_calls both) few in
    let same : label_left both how passed before ≡ state = ap (λ (b : Bool). cond b state (one_half (before + 1))) within in
    let number = boot_there site state.boot left is.label.number in
    let halves = is.label.both in
    let here : label_on left ≡ state = (λ i. record { boot = number i; both_open = halves i }) in
    let files = both_open_on groups old in
    record {
      number = subst (λ (s : LabelState). HasBoot site s.boot left) (sym same) is.label.number;
      label = here ∙ sym same;
      both = both_agree 0 groups old left (label_torn old left is.outside) ∙ sym (ap (λ (b : Bool). cond b files (closings_left how (passed - label_calls both) files)) within);
      copies = λ sound. copies_still site groups old left sound is.outside;
      tables = λ sound. tables_still old left is.outside;
      outside = label_inside (length groups) old left is.outside;
    }

pub packs_cut : (site : ℕ) (groups : List ℕ) (how : Cut) (before passed : ℕ) (old mid left : List ℕ) → Torn 0 1024 old mid → HasBoot site (before + 1) mid → are_open mid ≡ false
    → IsCutMount site groups how (passed - label_calls (are_open old)) mid left → label_calls (are_open old) ≤ passed → IsCutBoot site groups how before passed old left
packs_cut site groups how before passed old mid left torn has alone cut enough =
    let both = are_open old in
    let n = area_length * length groups in
    let behind : nat_lt passed (label_calls both) ≡ false = le-ltb passed (label_calls both) enough in
    let same : label_left both how passed before ≡ one_half (before + 1) = ap (λ (b : Bool). cond b (boot_left both how passed before) (one_half (before + 1))) behind in
    let files = both_open_on groups old in
    let still = boot_same n mid left cut.outside site (before + 1) has in
    record {
      number = subst (λ (s : LabelState). HasBoot site s.boot left) (sym same) still;
      label = label_there site (before + 1) left still (shut_same n mid left cut.outside alone) ∙ sym same;
      both = cut.both ∙ ap (λ (l : List FileId). closings_left how (passed - label_calls both) l) (both_agree 0 groups old mid (label_torn old mid torn)) ∙ sym (ap (λ (b : Bool). cond b files (closings_left how (passed - label_calls both) files)) behind);
      copies = λ sound. (cut.kept (sound_still site groups old mid sound torn)).copies ∙ copies_still site groups old mid sound torn;
      tables = λ sound. tables_joined old mid left (tables_still old mid torn) (cut.kept (sound_still site groups old mid sound torn)).tables;
      outside = both_inside (length groups) old mid left (label_inside (length groups) old mid torn) (areas_inside (length groups) mid left cut.outside);
    }

-- ---- the answers ----

too_few : (n calls : ℕ) (p q : Passing) → p ≡ Exactly calls → TellsMany {T = Unit {0}} {E = DiskFault} n p q (Err Failed) → calls < n
too_few n calls p q exact tells =
    let told = subst (λ (k : Passing). TellsMany {T = Unit {0}} {E = DiskFault} n k q (Err Failed)) exact tells in
    ⊎_elim (λ (lt : calls < n). lt) (λ (ge : n ≤ calls). absurd (false≢true (told.enough ge).0)) (cases_lt calls n)

-- the calls of the label have passed
pub label_passed : (n calls : ℕ) (p q : Passing) → p ≡ Exactly calls → TellsMany {T = Unit {0}} {E = DiskFault} n p q (Ok tt) → (n ≤ calls) × (q ≡ Exactly (calls - n))
label_passed n calls p q exact tells =
    let told = subst (λ (k : Passing). TellsMany {T = Unit {0}} {E = DiskFault} n k q (Ok tt)) exact tells in
    let le : n ≤ calls = ⊎_elim (λ (lt : calls < n). absurd (false≢true (told.too_few lt).0)) (λ (ge : n ≤ calls). ge) (cases_lt calls n) in
    (le, (told.enough le).1)

-- what a cut leaves, where the fault of the label is given on
pub label_given : {T U : Type 0} (m : Result T LabelFault) (result : Result U BootFault) (fault : LabelFault) (A B : Type 0) (old : List ℕ) (passed : ℕ) (p q : Passing) → m ≡ Err fault → IsErr result × IsErrAnd result (λ e. e ≡ fault_of_label fault)
    → p ≡ Exactly passed → TellsMany (calls_of_label old m) p q (label_answer m) → OnErr (label_answer m) B → (passed < label_calls (are_open old) → B → A) → OnErr (disk_answer result) A
label_given (Ok x) result fault A B old passed p q is given exact tells cut makes = absurd (cc)
label_given (Err e) (Ok y) fault A B old passed p q is given exact tells cut makes = tt
label_given {T} {U} (Err label.Disk) (Err b) fault A B old passed p q is given exact tells cut makes =
    let same : label.Disk ≡ fault = cc in
    subst (λ (f : BootFault). OnErr (disk_answer {T = U} (Err f)) A) (ap fault_of_label same ∙ sym given.1) (makes (too_few (label_calls (are_open old)) passed p q exact tells) cut)
label_given {T} {U} (Err label.NotALabel) (Err b) fault A B old passed p q is given exact tells cut makes =
    let same : label.NotALabel ≡ fault = cc in
    subst (λ (f : BootFault). OnErr (disk_answer {T = U} (Err f)) A) (ap fault_of_label same ∙ sym given.1) tt
label_given {T} {U} (Err label.Spent) (Err b) fault A B old passed p q is given exact tells cut makes =
    let same : label.Spent ≡ fault = cc in
    subst (λ (f : BootFault). OnErr (disk_answer {T = U} (Err f)) A) (ap fault_of_label same ∙ sym given.1) tt

cut_by : (T U : Type 0) (fault : MountFault) (A B : Type 0) → OnErr (mount_answer {T = T} (Err fault)) B → (B → A) → OnErr (disk_answer {T = U} (Err (fault_of_mount fault))) A
cut_by T U mount.Disk A B cut makes = makes cut
cut_by T U mount.NotAPack A B cut makes = tt
cut_by T U (mount.BadSlot ino) A B cut makes = tt
cut_by T U (mount.SharedTable table) A B cut makes = tt
cut_by T U (mount.SharedPage page) A B cut makes = tt
cut_by T U mount.NoMemory A B cut makes = tt

-- and that of a pack
pub cut_given : {T U : Type 0} (m : Result T MountFault) (result : Result U BootFault) (fault : MountFault) (A B : Type 0) → m ≡ Err fault → IsErr result × IsErrAnd result (λ e. e ≡ fault_of_mount fault) → OnErr (mount_answer m) B → (B → A) → OnErr (disk_answer result) A
cut_given (Ok x) result fault A B is given cut makes = absurd (cc)
cut_given (Err e) (Ok y) fault A B is given cut makes = tt
cut_given {T} {U} (Err e) (Err b) fault A B is given cut makes =
    let same : e ≡ fault = cc in
    subst (λ (f : BootFault). OnErr (disk_answer {T = U} (Err f)) A) (ap fault_of_mount same ∙ sym given.1) (cut_by T U e A B cut makes)
