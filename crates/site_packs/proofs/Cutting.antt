-- The files of which both gates are open, where a cut was.
use Rattle.std.proofs.Common.{◌≡◌, ℕ, zero, suc, ◌+◌, ◌-◌, ◌*◌, ◌≤◌, ◌<◌, Bool, true, false, cond, List, [], ◌∷◌, ◌++◌, length, None, Some, refl, sym, ap, subst, ◌∙◌, arith, length-append}
use Rattle.std.specs.Prelude.{map, slice_get, ◌&&◌, Result, Ok, Err, OnErr, IsErrAnd}
use Rattle.std.proofs.lemmas.List.{length-map}
use Rattle.locus_ids.specs.Sizes.{inodes_max}
use Rattle.locus_ids.specs.declared.ids.FileId.{FileId}
use Rattle.disk_model.specs.Cut.{Cut}
use Rattle.disk_model.specs.Disk.{Passing, Exactly}
use Rattle.disk_model.specs.Images.{Torn}
use Rattle.disk_model.specs.Moments.{TellsMany}
use Rattle.disk_model.specs.declared.disk.DiskFault.TheVariants.{Failed}
use Rattle.disk_model.proofs.Tells.{tells_few}
use Rattle.gate_switch.specs.Gates.{gate_left}
use Rattle.gate_switch.proofs.Tearing.{torn_joins}
use Rattle.pack_layout.specs.declared.half.Half.TheVariants.{First, Second}
use Rattle.pack_layout.specs.Layout.{area_length, area_at}
use Rattle.pack_slots.specs.declared.mount_fault.MountFault.{MountFault}
use Rattle.pack_slots.specs.declared.mount_fault.MountFault.TheVariants.{Disk, NotAPack, BadSlot, SharedTable, SharedPage, NoMemory}
use Rattle.inode_pack.specs.Pack.{PackState, Shows}
use Rattle.pack_slots.specs.Copies.{AreCopies}
use Rattle.pack_slots.specs.Mounting.{losing_gates, mount_calls as pack_calls, disk_answer, KeepsPack}
use Rattle.pack_slots.specs.Cutting.{losing_inodes, closings_left, IsCutMount as IsCutPack}
use Rattle.pack_slots.proofs.LosingLists.{losing_same, losing_count, closings_behind}
use Rattle.inode_pack.proofs.CutCommit.{shows_no_losing}
use Rattle.site_packs.specs.Packs.{pack_group, ArePacks, AreShown}
use Rattle.site_packs.specs.Mounting.{gates_behind, mount_calls}
use Rattle.site_packs.specs.Cutting.{file_in, both_behind, both_open_on, IsCutBehind}
use Rattle.site_packs.proofs.Areas.{AgreeOn, open_same, shows_same}
use Rattle.site_packs.proofs.Behind.{one_kept, later_kept}
use Rattle.site_packs.proofs.Mounts.{AgreeBehind, behind_torn, before_torn, widen_first, widen_rest}

-- ---- packs that are shown ----

shown_one : (nth least site : ℕ) (pack : PackState) (image : List ℕ) → pack.base ≡ area_at nth → AreCopies pack.copies → Shows pack image → losing_inodes (area_at nth) image ≡ []
shown_one nth least site pack image base are shows = ap (λ (b : ℕ). losing_inodes b image) (sym base) ∙ shows_no_losing pack image are shows

-- there is none where each pack stands
pub none_shown : (nth least site : ℕ) (packs : List PackState) (image : List ℕ) → ArePacks nth least site packs → AreShown packs image → both_behind nth (map pack_group packs) image ≡ []
none_shown nth least site [] image are shown = refl
none_shown nth least site (pack ∷ packs) image are shown =
    let one = shown_one nth least site pack image are.0.base are.0.copies shown.0 in
    let rest = none_shown (nth + 1) (pack.group + 1) site packs image are.1 shown.1 in
    (λ i. map (file_in pack.group) (one i) ++ rest i)

chosen_map : (group ino : ℕ) (b : Bool) → map (file_in group) (cond b (ino ∷ []) []) ++ [] ≡ cond b (file_in group ino ∷ []) []
chosen_map group ino true = refl
chosen_map group ino false = refl

-- where only one pack's area is torn, and at most one inode there has both gates open
pub both_but : (nth least site at : ℕ) (packs : List PackState) (pack : PackState) (old new : List ℕ) → ArePacks nth least site packs → slice_get packs at ≡ Some pack → AreShown packs old → Torn (area_at (nth + at)) area_length old new
    → (ino : ℕ) (b : Bool) → losing_inodes pack.base new ≡ cond b (ino ∷ []) [] → both_behind nth (map pack_group packs) new ≡ cond b (file_in pack.group ino ∷ []) []
both_but nth least site at [] pack old new are is shown torn ino b here = absurd (let e : None ≡ Some pack = is in cc)
both_but nth least site zero (one ∷ packs) pack old new are is shown torn ino b here =
    let e : one ≡ pack = (let f : Some one ≡ Some pack = is in cc) in
    let rest = later_kept (nth + zero) (nth + 1) (one.group + 1) site packs old new (omega arith) are.1 shown.1 torn in
    let first : losing_inodes (area_at nth) new ≡ cond b (ino ∷ []) [] = ap (λ (k : ℕ). losing_inodes k new) (sym are.0.base ∙ ap (λ (p : PackState). p.base) e) ∙ here in
    let none = none_shown (nth + 1) (one.group + 1) site packs new are.1 rest.1 in
    (λ i. map (file_in one.group) (first i) ++ none i)
    ∙ chosen_map one.group ino b
    ∙ ap (λ (p : PackState). cond b (file_in p.group ino ∷ []) []) e
both_but nth least site (suc at) (one ∷ packs) pack old new are is shown torn ino b here =
    let kept = one_kept (nth + suc at) nth one old new are.0.base are.0.copies (λ e. omega arith) torn shown.0 in
    let torn' : Torn (area_at (nth + 1 + at)) area_length old new = subst (λ (n : ℕ). Torn (area_at n) area_length old new) (let f : nth + suc at ≡ nth + 1 + at = omega arith in f) torn in
    let first = shown_one nth least site one new are.0.base are.0.copies kept.1 in
    let rest = both_but (nth + 1) (one.group + 1) site at packs pack old new are.1 is shown.1 torn' ino b here in
    (λ i. map (file_in one.group) (first i) ++ rest i)

-- ---- a mount ----

both_count : (nth : ℕ) (groups image : List ℕ) → length (both_behind nth groups image) ≡ gates_behind nth groups image
both_count nth [] image = refl
both_count nth (group ∷ groups) image =
    let one = length-map (losing_inodes (area_at nth) image) (file_in group) ∙ losing_count (area_at nth) image inodes_max in
    let rest = both_count (nth + 1) groups image in
    length-append (map (file_in group) (losing_inodes (area_at nth) image)) (both_behind (nth + 1) groups image) ∙ (λ i. one i + rest i)

-- two calls for each of them
pub mount_calls_are : (groups image : List ℕ) → mount_calls groups image ≡ 2 * length (both_open_on groups image)
mount_calls_are groups image = ap (λ (n : ℕ). 2 * n) (sym (both_count 0 groups image))

-- areas that agree
losing_agree : (base : ℕ) (a b : List ℕ) → AgreeOn base a b → losing_inodes base b ≡ losing_inodes base a
losing_agree base a b agree = losing_same base b a 1 inodes_max (λ i low high. (λ j. open_same base a b agree i First low (omega arith) j && open_same base a b agree i Second low (omega arith) j))

pub both_agree : (nth : ℕ) (groups a b : List ℕ) → AgreeBehind nth a b → both_behind nth groups b ≡ both_behind nth groups a
both_agree nth [] a b agree = refl
both_agree nth (group ∷ groups) a b agree =
    let one = losing_agree (area_at nth) a b (agree nth (omega arith)) in
    let rest = both_agree (nth + 1) groups a b (λ m le. agree m (omega arith)) in
    (λ i. map (file_in group) (one i) ++ rest i)

-- closings go by the list, whatever its elements are
closings_map : {A B : Type 0} (f : A → B) (how : Cut) (passed : ℕ) (xs : List A) → closings_left how passed (map f xs) ≡ map f (closings_left how passed xs)
closings_map f how passed [] = refl
closings_map {A} {B} f how zero (x ∷ xs) = by (gate_left how true true false)
  where
    by : (b : Bool) → cond b (f x ∷ map f xs) (map f xs) ≡ map f (cond b (x ∷ xs) xs)
    by true = refl
    by false = refl
closings_map {A} {B} f how (suc zero) (x ∷ xs) = by (gate_left how false true false)
  where
    by : (b : Bool) → cond b (f x ∷ map f xs) (map f xs) ≡ map f (cond b (x ∷ xs) xs)
    by true = refl
    by false = refl
closings_map f how (suc (suc passed)) (x ∷ xs) = closings_map f how passed xs

closings_front : {A : Type 0} (how : Cut) (passed : ℕ) (xs ys : List A) → passed < 2 * length xs → closings_left how passed (xs ++ ys) ≡ closings_left how passed xs ++ ys
closings_front how passed [] ys lt = absurd (omega arith)
closings_front {A} how zero (x ∷ xs) ys lt = by (gate_left how true true false)
  where
    by : (b : Bool) → cond b (x ∷ (xs ++ ys)) (xs ++ ys) ≡ cond b (x ∷ xs) xs ++ ys
    by true = refl
    by false = refl
closings_front {A} how (suc zero) (x ∷ xs) ys lt = by (gate_left how false true false)
  where
    by : (b : Bool) → cond b (x ∷ (xs ++ ys)) (xs ++ ys) ≡ cond b (x ∷ xs) xs ++ ys
    by true = refl
    by false = refl
closings_front how (suc (suc passed)) (x ∷ xs) ys lt = closings_front how passed xs ys (omega arith)

-- the mount of the first pack was cut off
pub cut_first : (nth home base : ℕ) (groups rest : List ℕ) (g : ℕ) (how : Cut) (passed : ℕ) (old c : List ℕ) → groups ≡ g ∷ rest → base ≡ area_at nth → passed < 2 * losing_gates base inodes_max old → IsCutPack base g home how passed old c → IsCutBehind nth groups how passed old c
cut_first nth home base groups rest g how passed old c is at lt cut =
    let torn : Torn (area_at nth) area_length old c = subst (λ (b : ℕ). Torn b area_length old c) at cut.kept.outside in
    let here : losing_inodes (area_at nth) c ≡ closings_left how passed (losing_inodes (area_at nth) old) = subst (λ (b : ℕ). losing_inodes b c ≡ closings_left how passed (losing_inodes b old)) at cut.both in
    let others = both_agree (nth + 1) rest old c (behind_torn nth old c torn) in
    let first = map (file_in g) (losing_inodes (area_at nth) old) in
    let count = length-map (losing_inodes (area_at nth) old) (file_in g) ∙ losing_count (area_at nth) old inodes_max in
    let same = ap (λ (b : ℕ). losing_gates b inodes_max old) at in
    subst (λ (l : List ℕ). IsCutBehind nth l how passed old c) (sym is) (record {
      outside = widen_first nth (length rest) old c torn;
      both = (λ i. map (file_in g) (here i) ++ others i)
          ∙ ap (λ (l : List FileId). l ++ both_behind (nth + 1) rest old) (sym (closings_map (file_in g) how passed (losing_inodes (area_at nth) old)))
          ∙ sym (closings_front how passed first (both_behind (nth + 1) rest old) (omega (arith, lt, count, same)));
    })

-- and that of a later one
pub cut_later : (nth home base : ℕ) (groups rest : List ℕ) (g : ℕ) (pack : PackState) (how : Cut) (passed : ℕ) (old mid c : List ℕ) → groups ≡ g ∷ rest → base ≡ area_at nth → pack.base ≡ base → AreCopies pack.copies → Shows pack mid → KeepsPack base g home old mid
    → 2 * losing_gates base inodes_max old ≤ passed → IsCutBehind (nth + 1) rest how (passed - 2 * losing_gates base inodes_max old) mid c → IsCutBehind nth groups how passed old c
cut_later nth home base groups rest g pack how passed old mid c is at own are shows keeps le cut =
    let torn : Torn (area_at nth) area_length old mid = subst (λ (b : ℕ). Torn b area_length old mid) at keeps.outside in
    let here : AgreeOn (area_at nth) mid c = before_torn nth (length rest) mid c cut.outside in
    let still : Shows pack c = shows_same pack mid c (subst (λ (b : ℕ). AgreeOn b mid c) (sym (own ∙ at)) here) are shows in
    let none = shown_one nth 0 home pack c (own ∙ at) are still in
    let first = map (file_in g) (losing_inodes (area_at nth) old) in
    let count = length-map (losing_inodes (area_at nth) old) (file_in g) ∙ losing_count (area_at nth) old inodes_max in
    let same = ap (λ (b : ℕ). losing_gates b inodes_max old) at in
    let left = passed - 2 * losing_gates base inodes_max old in
    let e : passed ≡ 2 * length first + left = omega (arith, le, count, same) in
    let others = both_agree (nth + 1) rest old mid (behind_torn nth old mid torn) in
    subst (λ (l : List ℕ). IsCutBehind nth l how passed old c) (sym is) (record {
      outside = torn_joins (area_at nth) (area_length * suc (length rest)) old mid c (widen_first nth (length rest) old mid torn) (widen_rest nth (length rest) mid c cut.outside);
      both = (λ i. map (file_in g) (none i) ++ cut.both i)
          ∙ ap (λ (l : List FileId). closings_left how left l) others
          ∙ sym (ap (λ (n : ℕ). closings_left how n (first ++ both_behind (nth + 1) rest old)) e ∙ closings_behind how first (both_behind (nth + 1) rest old) left);
    })

-- ---- the answers ----

-- a fault that is given on
pub on_fault : {T : Type 0} (S : Type 0) (result : Result T MountFault) (fault : MountFault) (A : Type 0) → IsErrAnd result (λ e. e ≡ fault) → OnErr (disk_answer {T = S} (Err fault)) A → OnErr (disk_answer result) A
on_fault S (Ok x) fault A is a = tt
on_fault {T} S (Err e) fault A is a = moved e (subst (λ (f : MountFault). OnErr (disk_answer {T = S} (Err f)) A) (sym is) a)
  where
    moved : (f : MountFault) → OnErr (disk_answer {T = S} (Err f)) A → OnErr (disk_answer {T = T} (Err f)) A
    moved Disk h = h
    moved NotAPack h = h
    moved (BadSlot ino) h = h
    moved (SharedTable table) h = h
    moved (SharedPage page) h = h
    moved NoMemory h = h

-- a pack's mount that failed makes fewer calls than it might
pub mount_few : (T S : Type 0) (base : ℕ) (image : List ℕ) (fault : MountFault) (p q : Passing) (passed : ℕ) (A B : Type 0) → TellsMany (pack_calls {T = T} base image (Err fault)) p q (disk_answer {T = T} (Err fault)) → p ≡ Exactly passed
    → (passed < 2 * losing_gates base inodes_max image → A → B) → OnErr (disk_answer {T = S} (Err fault)) A → OnErr (disk_answer {T = S} (Err fault)) B
mount_few T S base image Disk p q passed A B tells told f a = f (tells_few (2 * losing_gates base inodes_max image) p q (Err Failed) passed tells told) a
mount_few T S base image NotAPack p q passed A B tells told f a = a
mount_few T S base image (BadSlot ino) p q passed A B tells told f a = a
mount_few T S base image (SharedTable table) p q passed A B tells told f a = a
mount_few T S base image (SharedPage page) p q passed A B tells told f a = a
mount_few T S base image NoMemory p q passed A B tells told f a = a

pub on_answer : {T : Type 0} (result : Result T MountFault) (A B : Type 0) → (A → B) → OnErr (disk_answer result) A → OnErr (disk_answer result) B
on_answer (Ok x) A B f a = a
on_answer (Err Disk) A B f a = f a
on_answer (Err NotAPack) A B f a = a
on_answer (Err (BadSlot ino)) A B f a = a
on_answer (Err (SharedTable table)) A B f a = a
on_answer (Err (SharedPage page)) A B f a = a
on_answer (Err NoMemory) A B f a = a
