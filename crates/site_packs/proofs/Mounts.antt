-- How the packs of a site are mounted one behind the other.
use Rattle.std.proofs.Common.{◌≡◌, ◌≢◌, inl, inr, ⊎_elim, ℕ, suc, ◌+◌, ◌-◌, ◌*◌, ◌≤◌, ◌<◌, Bool, true, false, cond, List, [], ◌∷◌, ◌++◌, length, take, drop, get_or, refl, sym, ap, subst, ◌∙◌, arith, append_assoc}
use Rattle.std.specs.Prelude.{◌==◌, filter, Result, Ok, Err, IfErr, IsErrAnd}
use Rattle.std.proofs.lemmas.Bool.{cases_lt, cases_eq, eqb-true, eq-eqb, false≢true}
use Rattle.std.proofs.lemmas.List.{take_all, append-nil}
use Rattle.locus_ids.specs.Sizes.{inodes_max}
use Rattle.locus_ids.specs.Sites.{has}
use Rattle.locus_ids.specs.declared.config.Config.{Config}
use Rattle.disk_model.specs.Images.{Torn}
use Rattle.pack_layout.specs.Layout.{area_length, area_at}
use Rattle.gate_switch.proofs.Tearing.{torn_widens, torn_stays, torn_joins, is_outside}
use Rattle.pack_slots.specs.declared.mount_fault.MountFault.{MountFault}
use Rattle.pack_slots.specs.declared.mount_fault.MountFault.TheVariants.{Disk, NotAPack, BadSlot, SharedTable, SharedPage, NoMemory}
use Rattle.inode_pack.specs.Pack.{PackState, Stands}
use Rattle.pack_slots.specs.Copies.{AreCopies}
use Rattle.disk_model.specs.Disk.{Moment, IsSettled, Passing}
use Rattle.disk_model.specs.Moments.{TellsMany}
use Rattle.disk_model.specs.declared.disk.DiskFault.{DiskFault}
use Rattle.disk_model.specs.declared.disk.DiskFault.TheVariants.{Failed}
use Rattle.disk_model.proofs.Tells.{tells_join}
use Rattle.pack_slots.specs.Mounting.{IsSound, IsPassing, KeepsTables, KeepsPack, losing_gates}
use Rattle.inode_pack.proofs.Mounted.{mounts}
use Rattle.role_steps.specs.Views.{pack_sites, all_groups}
use Rattle.site_packs.specs.Copies.{copies_behind}
use Rattle.site_packs.specs.Packs.{groups_at}
use Rattle.site_packs.specs.Mounting.{AreSoundBehind, IsFirstCause, IsCauseBehind, AreGroups, AreKept, AreTablesKept, LeavesPacks, KeepsCopies, AreMounted, TellsMount, gates_behind}
use Rattle.site_packs.proofs.Areas.{AgreeOn, other_area, tables_agree, view_same, sound_same, cause_same, shows_same, agree_back, gates_same}
use Rattle.site_packs.proofs.Behind.{pack_same}

-- the areas from the nth on agree in both
abbrev pub AgreeBehind : ℕ → List ℕ → List ℕ → Type 0
AgreeBehind nth a b = (m : ℕ) → nth ≤ m → AgreeOn (area_at m) a b

-- what is torn in one area leaves those behind it
pub behind_torn : (nth : ℕ) (a b : List ℕ) → Torn (area_at nth) area_length a b → AgreeBehind (nth + 1) a b
behind_torn nth a b torn m le = other_area nth m a b (λ e. omega arith) torn

-- what is torn behind an area leaves it
pub before_torn : (nth count : ℕ) (a b : List ℕ) → Torn (area_at (nth + 1)) (area_length * count) a b → AgreeOn (area_at nth) a b
before_torn nth count a b torn = record { long = torn.long; each = λ k lt. torn.outside (area_at nth + k) (is_outside (area_at (nth + 1)) (area_length * count) (area_at nth + k) (inl (omega arith))) }

pub sound_behind : (nth site : ℕ) (groups a b : List ℕ) → AgreeBehind nth a b → AreSoundBehind nth site groups a → AreSoundBehind nth site groups b
sound_behind nth site [] a b agree sound = tt
sound_behind nth site (group ∷ groups) a b agree sound =
    (sound_same (area_at nth) a b (agree nth (omega arith)) group site sound.0, sound_behind (nth + 1) site groups a b (λ m le. agree m (omega arith)) sound.1)

pub cause_behind : (nth site : ℕ) (groups a b : List ℕ) (fault : MountFault) → AgreeBehind nth a b → IsFirstCause nth site groups a fault → IsFirstCause nth site groups b fault
cause_behind nth site [] a b fault agree cause = cause
cause_behind nth site (group ∷ groups) a b fault agree cause = ⊎_elim
    (λ here. inl (cause_same (area_at nth) group site a b (agree nth (omega arith)) fault here))
    (λ later. inr (sound_same (area_at nth) a b (agree nth (omega arith)) group site later.0, cause_behind (nth + 1) site groups a b fault (λ m le. agree m (omega arith)) later.1))
    cause

pub gates_agree : (nth : ℕ) (groups a b : List ℕ) → AgreeBehind nth a b → gates_behind nth groups b ≡ gates_behind nth groups a
gates_agree nth [] a b agree = refl
gates_agree nth (group ∷ groups) a b agree =
    let one = gates_same (area_at nth) a b (agree nth (omega arith)) inodes_max (omega arith) in
    let rest = gates_agree (nth + 1) groups a b (λ m le. agree m (omega arith)) in
    (λ i. one i + rest i)

-- ---- what is kept ----

pub kept_start : (nth site : ℕ) (groups a : List ℕ) → AreSoundBehind nth site groups a → AreKept nth site groups a a
kept_start nth site [] a sound = tt
kept_start nth site (group ∷ groups) a sound = (λ ino low high. refl, sound.0, kept_start (nth + 1) site groups a sound.1)

-- areas that agree, and in which the packs were kept
pub kept_agree : (nth site : ℕ) (groups a b c : List ℕ) → AgreeBehind nth b c → AreKept nth site groups a b → AreKept nth site groups a c
kept_agree nth site [] a b c agree kept = tt
kept_agree nth site (group ∷ groups) a b c agree kept =
    let here = agree nth (omega arith) in (
      λ ino low high. view_same (area_at nth) b c here ino low high (kept.1.inodes ino low high) ∙ kept.0 ino low high,
      sound_same (area_at nth) b c here group site kept.1,
      kept_agree (nth + 1) site groups a b c (λ m le. agree m (omega arith)) kept.2,
    )

-- packs that were kept since an image that agrees with an earlier one
pub kept_since : (nth site : ℕ) (groups a b c : List ℕ) → AgreeBehind nth a b → AreSoundBehind nth site groups a → AreKept nth site groups b c → AreKept nth site groups a c
kept_since nth site [] a b c agree sound kept = tt
kept_since nth site (group ∷ groups) a b c agree sound kept = (
  λ ino low high. kept.0 ino low high ∙ view_same (area_at nth) a b (agree nth (omega arith)) ino low high (sound.0.inodes ino low high),
  kept.1,
  kept_since (nth + 1) site groups a b c (λ m le. agree m (omega arith)) sound.1 kept.2,
)

pub widen_first : (nth count : ℕ) (a b : List ℕ) → Torn (area_at nth) area_length a b → Torn (area_at nth) (area_length * suc count) a b
widen_first nth count a b torn = torn_widens (area_at nth) area_length (area_at nth) (area_length * suc count) (omega arith) (omega arith) a b torn

pub widen_rest : (nth count : ℕ) (a b : List ℕ) → Torn (area_at (nth + 1)) (area_length * count) a b → Torn (area_at nth) (area_length * suc count) a b
widen_rest nth count a b torn = torn_widens (area_at (nth + 1)) (area_length * count) (area_at nth) (area_length * suc count) (omega arith) (omega arith) a b torn

-- where one area changes, the others have their tables
pub one_keeps : (nth : ℕ) (a b : List ℕ) → Torn (area_at nth) area_length a b → KeepsTables (area_at nth) a b → AreTablesKept a b
one_keeps nth a b torn keeps m = ⊎_elim
    (λ (e : m ≡ nth). subst (λ (n : ℕ). KeepsTables (area_at n) a b) (sym e) keeps)
    (λ (ne : m ≢ nth). tables_agree (area_at m) a b (other_area nth m a b (λ e. ne (sym e)) torn))
    (cases_eq m nth)

-- within the mount of the first pack
pub first_leaves : (nth group site : ℕ) (groups old c : List ℕ) → AreSoundBehind nth site (group ∷ groups) old → KeepsPack (area_at nth) group site old c → LeavesPacks nth site (group ∷ groups) old c
first_leaves nth group site groups old c sound keeps = record {
  kept = (keeps.view, keeps.sound sound.0, kept_agree (nth + 1) site groups old old c (behind_torn nth old c keeps.outside) (kept_start (nth + 1) site groups old sound.1));
  tables = one_keeps nth old c keeps.outside keeps.tables;
  outside = widen_first nth (length groups) old c keeps.outside;
}

-- and of the others
pub rest_leaves : (nth group site : ℕ) (groups old mid c : List ℕ) → AreSoundBehind nth site (group ∷ groups) old → KeepsPack (area_at nth) group site old mid → LeavesPacks (nth + 1) site groups mid c → LeavesPacks nth site (group ∷ groups) old c
rest_leaves nth group site groups old mid c sound keeps leaves =
    let here = before_torn nth (length groups) mid c leaves.outside in
    let now = keeps.sound sound.0 in
    record {
      kept = (
        λ ino low high. view_same (area_at nth) mid c here ino low high (now.inodes ino low high) ∙ keeps.view ino low high,
        sound_same (area_at nth) mid c here group site now,
        kept_since (nth + 1) site groups old mid c (behind_torn nth old mid keeps.outside) sound.1 leaves.kept,
      );
      tables = λ m ino half low high had. leaves.tables m ino half low high (one_keeps nth old mid keeps.outside keeps.tables m ino half low high had);
      outside = torn_joins (area_at nth) (area_length * suc (length groups)) old mid c (widen_first nth (length groups) old mid keeps.outside) (widen_rest nth (length groups) mid c leaves.outside);
    }

-- ---- at the end ----

pub copies_kept : (nth site : ℕ) (groups old new : List ℕ) → AreKept nth site groups old new → copies_behind nth groups new ≡ copies_behind nth groups old
copies_kept nth site [] old new kept = refl
copies_kept nth site (group ∷ groups) old new kept =
    let one = pack_same (area_at nth) group old new kept.0 in
    let rest = copies_kept (nth + 1) site groups old new kept.2 in
    (λ i. one i ++ rest i)

pub sound_kept : (nth site : ℕ) (groups old new : List ℕ) → AreKept nth site groups old new → AreSoundBehind nth site groups new
sound_kept nth site [] old new kept = tt
sound_kept nth site (group ∷ groups) old new kept = (kept.1, sound_kept (nth + 1) site groups old new kept.2)

first_passing : (nth site : ℕ) (groups image : List ℕ) (fault : MountFault) → AreSoundBehind nth site groups image → IsFirstCause nth site groups image fault → IsPassing fault
first_passing nth site [] image fault sound cause = absurd cause
first_passing nth site (group ∷ groups) image fault sound cause = ⊎_elim
    (λ here. mounts {T = Unit {0}} (area_at nth) group site image (Err fault) fault refl here sound.0)
    (λ later. first_passing (nth + 1) site groups image fault sound.1 later.1)
    cause

-- sound packs give no cause
pub passing_only : (site : ℕ) (groups image : List ℕ) (fault : MountFault) → AreSoundBehind 0 site groups image → IsCauseBehind 0 site groups image fault → IsPassing fault
passing_only site groups image fault sound cause = ⊎_elim (λ passing. passing) (λ first. first_passing 0 site groups image fault sound first) cause

-- ---- the groups of a site ----

abbrev pub chosen : Bool → ℕ → List ℕ
chosen b g = cond b (g ∷ []) []

abbrev pub nothing : List ℕ
nothing = []

abbrev with_first : Bool → ℕ → List ℕ → List ℕ
with_first b g rest = cond b (g ∷ rest) rest

pub groups_made : (a b c d : Bool) → (((nothing ++ chosen a 0) ++ chosen b 1) ++ chosen c 2) ++ chosen d 3 ≡ with_first a 0 (with_first b 1 (with_first c 2 (with_first d 3 nothing)))
groups_made true true true true = refl
groups_made true true true false = refl
groups_made true true false true = refl
groups_made true true false false = refl
groups_made true false true true = refl
groups_made true false true false = refl
groups_made true false false true = refl
groups_made true false false false = refl
groups_made false true true true = refl
groups_made false true true false = refl
groups_made false true false true = refl
groups_made false true false false = refl
groups_made false false true true = refl
groups_made false false true false = refl
groups_made false false false true = refl
groups_made false false false false = refl

weaker : (low least : ℕ) (groups : List ℕ) → low ≤ least → AreGroups least groups → AreGroups low groups
weaker low least [] le are = tt
weaker low least (g ∷ groups) le are = let a = are.0 in (omega arith, are.1, are.2)

filtered : (test : ℕ → Bool) (least : ℕ) (groups : List ℕ) → AreGroups least groups → AreGroups least (filter test groups)
filtered test least [] are = tt
filtered test least (g ∷ groups) are =
    let rest = filtered test (g + 1) groups are.2 in
    let low = are.0 in
    elim (test g) as (λ b. AreGroups least (cond b (g ∷ filter test groups) (filter test groups))) [
      | true ↦ (are.0, are.1, rest)
      | false ↦ weaker least (g + 1) (filter test groups) (omega arith) rest
    ]

few_filtered : (test : ℕ → Bool) (groups : List ℕ) → length (filter test groups) ≤ length groups
few_filtered test [] = omega arith
few_filtered test (g ∷ groups) =
    let rest = few_filtered test groups in
    elim (test g) as (λ b. length (cond b (g ∷ filter test groups) (filter test groups)) ≤ suc (length groups)) [
      | true ↦ omega arith
      | false ↦ omega arith
    ]

pub are_groups : (c : Config) (site : ℕ) → AreGroups 0 (groups_at c site)
unfolding groups_at
are_groups c site = filtered (λ group. has (pack_sites c group) site) 0 all_groups (omega arith, omega arith, (omega arith, omega arith, (omega arith, omega arith, (omega arith, omega arith, tt))))

pub few_groups : (c : Config) (site : ℕ) → length (groups_at c site) ≤ 4
unfolding groups_at
few_groups c site = few_filtered (λ group. has (pack_sites c group) site) all_groups

-- ---- one pack more ----

pub split_first : (groups : List ℕ) → 0 < length groups → groups ≡ get_or groups 0 0 ∷ take (length groups - 1) (drop 1 groups)
split_first [] lt = absurd (omega arith)
split_first (g ∷ groups) lt = ap (λ (l : List ℕ). g ∷ l) (sym (take_all (length (g ∷ groups) - 1) groups (omega arith)))

pub mounted_more : (nth home base : ℕ) (groups rest : List ℕ) (g : ℕ) (before added after : List PackState) (pack : PackState) (old mid new : Moment)
    → groups ≡ g ∷ rest → base ≡ area_at nth → pack.base ≡ base → pack.group ≡ g → pack.site ≡ home → AreCopies pack.copies → Stands pack mid → IsSound base g home old.seen → KeepsPack base g home old.seen mid.seen
    → added ≡ before ++ pack ∷ [] → AreMounted (nth + 1) home rest added after mid new → AreMounted nth home groups before after old new
mounted_more nth home base groups rest g before added after pack old mid new is at own group site copies stands sound keeps adds more =
    let keeps' : KeepsPack (area_at nth) g home old.seen mid.seen = subst (λ (b : ℕ). KeepsPack b g home old.seen mid.seen) at keeps in
    let sound' : IsSound (area_at nth) g home old.seen = subst (λ (b : ℕ). IsSound b g home old.seen) at sound in
    let back : AgreeBehind (nth + 1) mid.seen old.seen = (λ m le. agree_back (area_at m) old.seen mid.seen (behind_torn nth old.seen mid.seen keeps'.outside m le)) in
    let all : AreSoundBehind nth home (g ∷ rest) old.seen = (sound', sound_behind (nth + 1) home rest mid.seen old.seen back more.sound) in
    let here : AgreeOn pack.base mid.seen new.seen = subst (λ (b : ℕ). AgreeOn b mid.seen new.seen) (sym (own ∙ at)) (before_torn nth (length rest) mid.seen new.seen more.leaves.outside) in
    record {
      packs = pack ∷ more.packs;
      adds = more.adds ∙ ap (λ (l : List PackState). l ++ more.packs) adds ∙ append_assoc before (pack ∷ []) more.packs;
      are = λ least ok.
          let ok' : AreGroups least (g ∷ rest) = subst (λ (l : List ℕ). AreGroups least l) is ok in
          let low = ok'.0 in
          let high = ok'.1 in
          (record { base = own ∙ at; site = site; low = omega arith; high = omega arith; copies = copies }, more.are (pack.group + 1) (subst (λ (k : ℕ). AreGroups (k + 1) rest) (sym group) ok'.2));
      groups_are = (λ i. group i ∷ more.groups_are i) ∙ sym is;
      shown = (shows_same pack mid.seen new.seen here copies stands.shows, more.shown);
      sound = subst (λ (l : List ℕ). AreSoundBehind nth home l old.seen) (sym is) all;
      leaves = subst (λ (l : List ℕ). LeavesPacks nth home l old.seen new.seen) (sym is) (rest_leaves nth g home rest old.seen mid.seen new.seen all keeps' more.leaves);
      settled = more.settled;
    }

pub mounted_none : (nth home : ℕ) (groups : List ℕ) (before : List PackState) (moment : Moment) → length groups ≡ 0 → IsSettled moment → AreMounted nth home groups before before moment moment
mounted_none nth home [] before moment none settled = record {
  packs = [];
  adds = sym (append-nil before);
  are = λ least ok. tt;
  groups_are = refl;
  shown = tt;
  sound = tt;
  leaves = record { kept = tt; tables = λ m ino half low high had. had; outside = torn_stays (area_at nth) (area_length * 0) moment.seen };
  settled = settled;
}
mounted_none nth home (g ∷ groups) before moment none settled = absurd (omega arith)

pub if_err_map : {T E : Type 0} (r : Result T E) (P Q : E → Type 0) → ((e : E) → P e → Q e) → IfErr r P → IfErr r Q
if_err_map (Ok x) P Q f a = tt
if_err_map (Err e) P Q f a = f e a

pub cause_more : (nth home base : ℕ) (groups rest : List ℕ) (g : ℕ) (old mid : List ℕ) → groups ≡ g ∷ rest → base ≡ area_at nth → IsSound base g home old → KeepsPack base g home old mid
    → (fault : MountFault) → IsCauseBehind (nth + 1) home rest mid fault → IsCauseBehind nth home groups old fault
cause_more nth home base groups rest g old mid is at sound keeps fault cause =
    let torn : Torn (area_at nth) area_length old mid = subst (λ (b : ℕ). Torn b area_length old mid) at keeps.outside in
    let back : AgreeBehind (nth + 1) mid old = (λ m le. agree_back (area_at m) old mid (behind_torn nth old mid torn m le)) in
    subst (λ (l : List ℕ). IsCauseBehind nth home l old fault) (sym is) (⊎_elim
    (λ passing. inl passing)
    (λ first. inr (inr (subst (λ (b : ℕ). IsSound b g home old) at sound, cause_behind (nth + 1) home rest mid old fault back first)))
    cause)

pub leaves_first : (nth home base : ℕ) (groups rest : List ℕ) (g : ℕ) (old c : List ℕ) → groups ≡ g ∷ rest → base ≡ area_at nth → AreSoundBehind nth home groups old → KeepsPack base g home old c → LeavesPacks nth home groups old c
leaves_first nth home base groups rest g old c is at sound keeps =
    subst (λ (l : List ℕ). LeavesPacks nth home l old c) (sym is)
    (first_leaves nth g home rest old c (subst (λ (l : List ℕ). AreSoundBehind nth home l old) is sound) (subst (λ (b : ℕ). KeepsPack b g home old c) at keeps))

pub leaves_rest : (nth home base : ℕ) (groups rest : List ℕ) (g : ℕ) (old mid c : List ℕ) → groups ≡ g ∷ rest → base ≡ area_at nth → AreSoundBehind nth home groups old → KeepsPack base g home old mid → LeavesPacks (nth + 1) home rest mid c → LeavesPacks nth home groups old c
leaves_rest nth home base groups rest g old mid c is at sound keeps leaves =
    subst (λ (l : List ℕ). LeavesPacks nth home l old c) (sym is)
    (rest_leaves nth g home rest old mid c (subst (λ (l : List ℕ). AreSoundBehind nth home l old) is sound) (subst (λ (b : ℕ). KeepsPack b g home old mid) at keeps) leaves)

pub sound_rest : (nth home base : ℕ) (groups rest : List ℕ) (g : ℕ) (old mid : List ℕ) → groups ≡ g ∷ rest → base ≡ area_at nth → AreSoundBehind nth home groups old → KeepsPack base g home old mid → AreSoundBehind (nth + 1) home rest mid
sound_rest nth home base groups rest g old mid is at sound keeps =
    sound_behind (nth + 1) home rest old mid (behind_torn nth old mid (subst (λ (b : ℕ). Torn b area_length old mid) at keeps.outside)) (subst (λ (l : List ℕ). AreSoundBehind nth home l old) is sound).1

tells_cases : {T : Type 0} (n m k : ℕ) (p q r : Passing) (result : Result T MountFault) → k ≡ n + m → TellsMany {T = Unit {0}} {E = DiskFault} n p q (Ok tt) → TellsMount m q r result → TellsMount k p r result
tells_cases n m k p q r (Ok x) e first then = subst (λ (c : ℕ). TellsMany {T = Unit {0}} {E = DiskFault} c p r (Ok tt)) (sym e) (tells_join n m p q r (Ok tt) first then)
tells_cases n m k p q r (Err Disk) e first then = subst (λ (c : ℕ). TellsMany {T = Unit {0}} {E = DiskFault} c p r (Err Failed)) (sym e) (tells_join n m p q r (Err Failed) first then)
tells_cases n m k p q r (Err NotAPack) e first then = tt
tells_cases n m k p q r (Err (BadSlot ino)) e first then = tt
tells_cases n m k p q r (Err (SharedTable table)) e first then = tt
tells_cases n m k p q r (Err (SharedPage page)) e first then = tt
tells_cases n m k p q r (Err NoMemory) e first then = tt

pub tells_more : {T : Type 0} (nth home base : ℕ) (groups rest : List ℕ) (g : ℕ) (old mid : List ℕ) (p q r : Passing) (result : Result T MountFault) → groups ≡ g ∷ rest → base ≡ area_at nth → KeepsPack base g home old mid
    → TellsMany {T = Unit {0}} {E = DiskFault} (2 * losing_gates base inodes_max old) p q (Ok tt) → TellsMount (2 * gates_behind (nth + 1) rest mid) q r result → TellsMount (2 * gates_behind nth groups old) p r result
tells_more nth home base groups rest g old mid p q r result is at keeps first then =
    let torn : Torn (area_at nth) area_length old mid = subst (λ (b : ℕ). Torn b area_length old mid) at keeps.outside in
    let gates = gates_agree (nth + 1) rest old mid (behind_torn nth old mid torn) in
    let one = ap (λ (b : ℕ). losing_gates b inodes_max old) at in
    let all = ap (λ (l : List ℕ). gates_behind nth l old) is in
    tells_cases (2 * losing_gates base inodes_max old) (2 * gates_behind (nth + 1) rest mid) (2 * gates_behind nth groups old) p q r result (omega arith) first then

pub not_empty : (groups : List ℕ) (test : Bool) → test ≡ (length groups == 0) → test ≡ false → 0 < length groups
not_empty groups test is untrue = ⊎_elim (λ (lt : 0 < length groups). lt) (λ (le : length groups ≤ 0). absurd (false≢true (sym untrue ∙ is ∙ eq-eqb (length groups) 0 (omega arith)))) (cases_lt 0 (length groups))

pub empty_list : (groups : List ℕ) (test : Bool) → test ≡ (length groups == 0) → test ≡ true → length groups ≡ 0
empty_list groups test is holds = eqb-true (length groups) 0 (sym is ∙ holds)

pub groups_are_made : (c : Config) (site : ℕ) → (((nothing ++ chosen (has (pack_sites c 0) site) 0) ++ chosen (has (pack_sites c 1) site) 1) ++ chosen (has (pack_sites c 2) site) 2) ++ chosen (has (pack_sites c 3) site) 3 ≡ groups_at c site
unfolding groups_at
groups_are_made c site = groups_made (has (pack_sites c 0) site) (has (pack_sites c 1) site) (has (pack_sites c 2) site) (has (pack_sites c 3) site)

-- the same of what a result was made from
pub passing_result : {T : Type 0} (site : ℕ) (groups image : List ℕ) (result : Result T MountFault) (fault : MountFault) → IsErrAnd result (λ e. e ≡ fault) → IsCauseBehind 0 site groups image fault → AreSoundBehind 0 site groups image → IfErr result (λ e. IsPassing e)
passing_result site groups image (Ok x) fault is cause sound = tt
passing_result site groups image (Err e) fault is cause sound = passing_only site groups image e sound (subst (λ (f : MountFault). IsCauseBehind 0 site groups image f) (sym is) cause)

-- what a crash leaves of all packs
pub leaves_copies : (site : ℕ) (groups old new : List ℕ) → LeavesPacks 0 site groups old new → KeepsCopies site groups old new
leaves_copies site groups old new leaves = record {
  copies = copies_kept 0 site groups old new leaves.kept;
  sound = λ _. sound_kept 0 site groups old new leaves.kept;
  tables = leaves.tables;
  outside = leaves.outside;
}
