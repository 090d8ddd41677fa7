-- The copies of packs whose areas stand one behind the other.
use Rattle.std.proofs.Common.{◌≡◌, ◌≢◌, ◌⊎◌, inl, inr, ⊎_elim, ℕ, zero, suc, ◌+◌, ◌*◌, ◌≤◌, ◌<◌, true, false, List, [], ◌∷◌, ◌++◌, length, drop, get_or, Option, None, Some, refl, sym, ap, subst, ◌∙◌, arith}
use Rattle.std.specs.Prelude.{map, slice_get, slice_set, is_some, ◌==◌, ◌||◌}
use Rattle.std.proofs.lemmas.Bool.{cases_lt, eqb-true, eq-eqb, false≢true}
use Rattle.std.specs.Option.{option_map}
use Rattle.locus_ids.specs.Sizes.{inodes_max, inode_span}
use Rattle.disk_model.specs.Images.{Torn}
use Rattle.pack_layout.specs.Layout.{area_length, area_at}
use Rattle.pack_slots.specs.of_inode_switch.View.{Version, view, SameView, Replaced}
use Rattle.inode_pack.specs.Pack.{PackState, Shows}
use Rattle.pack_slots.specs.Copies.{AreCopies}
use Rattle.pack_slots.specs.Mounting.{IsSound}
use Rattle.inode_pack.proofs.Leaving.{shows_kept}
use Rattle.role_steps.specs.Tables.{row, with_row}
use Rattle.role_steps.specs.Storage.{copy_key}
use Rattle.role_steps.specs.declared.copies.FileCopy.{FileCopy}
use Rattle.site_packs.specs.Copies.{copy_in, copies_from, copies_in, copies_behind}
use Rattle.site_packs.specs.Packs.{pack_group, pack_in, has_group, ArePacks, AreShown}
use Rattle.site_packs.specs.Mounting.{AreSoundBehind}
use Rattle.site_packs.proofs.Areas.{AgreeOn, other_area, view_same, shows_same}
use Rattle.site_packs.proofs.Rows.{Between, wider, both_between, row_outside, row_right, row_left, put_behind, put_among, copies_between, copies_same, copies_replaced, row_here}

-- ---- one pack ----

pub pack_between : (base group : ℕ) (image : List ℕ) → Between (group * inode_span) (group * inode_span + inode_span) (copies_in base group image)
unfolding copies_in
pack_between base group image = wider (group * inode_span + 1) (group * inode_span + 1 + inodes_max) (group * inode_span) (group * inode_span + inode_span) (omega arith) (omega arith) (copies_from group (view image base) 1 inodes_max) (copies_between group (view image base) 1 inodes_max)

pub pack_same : (base group : ℕ) (old new : List ℕ) → SameView base old new → copies_in base group new ≡ copies_in base group old
unfolding copies_in
pack_same base group old new same = copies_same group (view old base) (view new base) 1 inodes_max (λ i low high. same i low (omega arith))

pub pack_replaced : (base group ino : ℕ) (v : Version) (x : FileCopy) (old new : List ℕ) → 1 ≤ ino → ino ≤ inodes_max → Replaced base ino v old new → copy_in group ino v ≡ x → copies_in base group new ≡ with_row copy_key x (copies_in base group old)
unfolding copies_in
pack_replaced base group ino v x old new low high replaced is = copies_replaced group (view old base) (view new base) 1 inodes_max ino v x low (omega arith) replaced.own is (λ j under over apart. replaced.others j under (omega arith) apart)

pub pack_row : (base group ino : ℕ) (image : List ℕ) → 1 ≤ ino → ino ≤ inodes_max → row copy_key (group * inode_span + ino) (copies_in base group image) ≡ option_map (copy_in group ino) (view image base ino)
unfolding copies_in
pack_row base group ino image low high = row_here group (view image base) 1 inodes_max ino low (omega arith)

pub pack_no_row : (base group k : ℕ) (image : List ℕ) → (k < group * inode_span + 1) ⊎ (group * inode_span + (inodes_max + 1) ≤ k) → row copy_key k (copies_in base group image) ≡ None
unfolding copies_in
pack_no_row base group k image out = row_outside (group * inode_span + 1) (group * inode_span + 1 + inodes_max) k (⊎_elim (λ (lt : k < group * inode_span + 1). inl lt) (λ (le : group * inode_span + (inodes_max + 1) ≤ k). inr (omega arith)) out) (copies_from group (view image base) 1 inodes_max) (copies_between group (view image base) 1 inodes_max)

-- ---- packs one behind the other ----

pub behind_between : (nth least site : ℕ) (packs : List PackState) (image : List ℕ) → ArePacks nth least site packs → Between (least * inode_span) 262144 (copies_behind nth (map pack_group packs) image)
behind_between nth least site [] image are = tt
behind_between nth least site (pack ∷ packs) image are =
    let low = are.0.low in
    let high = are.0.high in
    both_between (least * inode_span) 262144 (copies_in (area_at nth) pack.group image) (copies_behind (nth + 1) (map pack_group packs) image)
    (wider (pack.group * inode_span) (pack.group * inode_span + inode_span) (least * inode_span) 262144 (omega arith) (omega arith) (copies_in (area_at nth) pack.group image) (pack_between (area_at nth) pack.group image))
    (wider ((pack.group + 1) * inode_span) 262144 (least * inode_span) 262144 (omega arith) (omega arith) (copies_behind (nth + 1) (map pack_group packs) image) (behind_between (nth + 1) (pack.group + 1) site packs image are.1))

-- the pack at a place of the list
pub record PackHere (nth least home at : ℕ) (pack : PackState) : Type 0 where
  pub base : pack.base ≡ area_at (nth + at)
  pub site : pack.site ≡ home
  pub low : least ≤ pack.group
  pub high : pack.group ≤ 3
  pub copies : AreCopies pack.copies

pub pack_here : (nth least site at : ℕ) (packs : List PackState) (pack : PackState) → ArePacks nth least site packs → slice_get packs at ≡ Some pack → PackHere nth least site at pack
pack_here nth least site at [] pack are is = absurd (let e : None ≡ Some pack = is in cc)
pack_here nth least site zero (one ∷ packs) pack are is =
    let e : one ≡ pack = (let f : Some one ≡ Some pack = is in cc) in
    subst (λ (p : PackState). PackHere nth least site zero p) e (record { base = are.0.base ∙ ap area_at (let f : nth ≡ nth + zero = omega arith in f); site = are.0.site; low = are.0.low; high = are.0.high; copies = are.0.copies })
pack_here nth least site (suc at) (one ∷ packs) pack are is =
    let here = pack_here (nth + 1) (one.group + 1) site at packs pack are.1 is in
    let a = are.0.low in
    let b = here.low in
    record { base = here.base ∙ ap area_at (let f : nth + 1 + at ≡ nth + suc at = omega arith in f); site = here.site; low = omega arith; high = here.high; copies = here.copies }

-- each pack has the same view in both images
abbrev pub AllSame : List PackState → List ℕ → List ℕ → Type 0
AllSame [] old new = Unit {0}
AllSame (pack ∷ packs) old new = SameView pack.base old new × AllSame packs old new

pub behind_same : (nth least site : ℕ) (packs : List PackState) (old new : List ℕ) → ArePacks nth least site packs → AllSame packs old new → copies_behind nth (map pack_group packs) new ≡ copies_behind nth (map pack_group packs) old
behind_same nth least site [] old new are same = refl
behind_same nth least site (pack ∷ packs) old new are same =
    let one = pack_same (area_at nth) pack.group old new (subst (λ (base : ℕ). SameView base old new) are.0.base same.0) in
    let rest = behind_same (nth + 1) (pack.group + 1) site packs old new are.1 same.1 in
    (λ i. one i ++ rest i)

-- a pack whose area isn't the torn one
pub one_kept : (nth other : ℕ) (pack : PackState) (old new : List ℕ) → pack.base ≡ area_at other → AreCopies pack.copies → nth ≢ other → Torn (area_at nth) area_length old new → Shows pack old
    → SameView pack.base old new × Shows pack new × IsSound (area_at other) pack.group pack.site new
one_kept nth other pack old new base are apart torn shows =
    let agree : AgreeOn pack.base old new = subst (λ (b : ℕ). AgreeOn b old new) (sym base) (other_area nth other old new apart torn) in
    let sound = (shows_kept pack old are shows).sound in
    let now = shows_same pack old new agree are shows in (
      λ ino low high. view_same pack.base old new agree ino low high (sound.inodes ino low high),
      now,
      subst (λ (b : ℕ). IsSound b pack.group pack.site new) base (shows_kept pack new are now).sound,
    )

-- packs behind the torn area
pub later_kept : (torn_at nth least site : ℕ) (packs : List PackState) (old new : List ℕ) → torn_at < nth → ArePacks nth least site packs → AreShown packs old → Torn (area_at torn_at) area_length old new
    → AllSame packs old new × AreShown packs new × AreSoundBehind nth site (map pack_group packs) new
later_kept torn_at nth least site [] old new lt are shown torn = (tt, tt, tt)
later_kept torn_at nth least site (pack ∷ packs) old new lt are shown torn =
    let one = one_kept torn_at nth pack old new are.0.base are.0.copies (λ e. omega arith) torn shown.0 in
    let rest = later_kept torn_at (nth + 1) (pack.group + 1) site packs old new (omega arith) are.1 shown.1 torn in
    ((one.0, rest.0), (one.1, rest.1), (subst (λ (s : ℕ). IsSound (area_at nth) pack.group s new) are.0.site one.2, rest.2))

-- what a pack is after its area changed
pub record Changed (nth : ℕ) (old new : List ℕ) (pack made : PackState) : Type 0 where
  pub shows : Shows made new
  pub base : made.base ≡ pack.base
  pub site : made.site ≡ pack.site
  pub group : made.group ≡ pack.group
  pub copies : AreCopies made.copies

-- the packs where one was replaced
pub set_packs : (nth least site at : ℕ) (packs : List PackState) (pack made : PackState) (old new : List ℕ) → ArePacks nth least site packs → slice_get packs at ≡ Some pack → AreShown packs old → Torn (area_at (nth + at)) area_length old new → Changed nth old new pack made
    → ArePacks nth least site (slice_set packs at made) × AreShown (slice_set packs at made) new × (map pack_group (slice_set packs at made) ≡ map pack_group packs)
set_packs nth least site at [] pack made old new are is shown torn changed = absurd (let e : None ≡ Some pack = is in cc)
set_packs nth least site zero (one ∷ packs) pack made old new are is shown torn changed =
    let e : one ≡ pack = (let f : Some one ≡ Some pack = is in cc) in
    let rest = later_kept (nth + zero) (nth + 1) (one.group + 1) site packs old new (omega arith) are.1 shown.1 torn in
    let group : made.group ≡ one.group = changed.group ∙ ap pack_group (sym e) in
    let low = are.0.low in
    let high = are.0.high in (
      (
        record {
          base = changed.base ∙ ap (λ (p : PackState). p.base) (sym e) ∙ are.0.base;
          site = changed.site ∙ ap (λ (p : PackState). p.site) (sym e) ∙ are.0.site;
          low = omega arith;
          high = omega arith;
          copies = changed.copies;
        },
        subst (λ (g : ℕ). ArePacks (nth + 1) (g + 1) site packs) (sym group) are.1,
      ),
      (changed.shows, rest.1),
      ap (λ (g : ℕ). g ∷ map pack_group packs) group,
    )
set_packs nth least site (suc at) (one ∷ packs) pack made old new are is shown torn changed =
    let kept = one_kept (nth + suc at) nth one old new are.0.base are.0.copies (λ e. omega arith) torn shown.0 in
    let torn' : Torn (area_at (nth + 1 + at)) area_length old new = subst (λ (n : ℕ). Torn (area_at n) area_length old new) (let f : nth + suc at ≡ nth + 1 + at = omega arith in f) torn in
    let rest = set_packs (nth + 1) (one.group + 1) site at packs pack made old new are.1 is shown.1 torn' (record { shows = changed.shows; base = changed.base; site = changed.site; group = changed.group; copies = changed.copies }) in
    ((are.0, rest.0), (kept.1, rest.1), ap (λ (gs : List ℕ). one.group ∷ gs) rest.2)

-- where only one pack's area is torn, and its view is the same, all copies are
pub all_same_but : (nth least site at : ℕ) (packs : List PackState) (pack : PackState) (old new : List ℕ) → ArePacks nth least site packs → slice_get packs at ≡ Some pack → AreShown packs old → Torn (area_at (nth + at)) area_length old new → SameView pack.base old new
    → AllSame packs old new
all_same_but nth least site at [] pack old new are is shown torn same = absurd (let e : None ≡ Some pack = is in cc)
all_same_but nth least site zero (one ∷ packs) pack old new are is shown torn same =
    let e : one ≡ pack = (let f : Some one ≡ Some pack = is in cc) in
    let rest = later_kept (nth + zero) (nth + 1) (one.group + 1) site packs old new (omega arith) are.1 shown.1 torn in
    (subst (λ (p : PackState). SameView p.base old new) (sym e) same, rest.0)
all_same_but nth least site (suc at) (one ∷ packs) pack old new are is shown torn same =
    let kept = one_kept (nth + suc at) nth one old new are.0.base are.0.copies (λ e. omega arith) torn shown.0 in
    let torn' : Torn (area_at (nth + 1 + at)) area_length old new = subst (λ (n : ℕ). Torn (area_at n) area_length old new) (let f : nth + suc at ≡ nth + 1 + at = omega arith in f) torn in
    (kept.0, all_same_but (nth + 1) (one.group + 1) site at packs pack old new are.1 is shown.1 torn' same)

-- and where the pack there is sound, all are
pub sound_but : (nth least site at : ℕ) (packs : List PackState) (pack : PackState) (old new : List ℕ) → ArePacks nth least site packs → slice_get packs at ≡ Some pack → AreShown packs old → Torn (area_at (nth + at)) area_length old new
    → IsSound pack.base pack.group pack.site new → AreSoundBehind nth site (map pack_group packs) new
sound_but nth least site at [] pack old new are is shown torn sound = absurd (let e : None ≡ Some pack = is in cc)
sound_but nth least site zero (one ∷ packs) pack old new are is shown torn sound =
    let e : one ≡ pack = (let f : Some one ≡ Some pack = is in cc) in
    let rest = later_kept (nth + zero) (nth + 1) (one.group + 1) site packs old new (omega arith) are.1 shown.1 torn in
    let here : IsSound one.base one.group one.site new = subst (λ (p : PackState). IsSound p.base p.group p.site new) (sym e) sound in
    (subst (λ (s : ℕ). IsSound (area_at nth) one.group s new) are.0.site (subst (λ (b : ℕ). IsSound b one.group one.site new) are.0.base here), rest.2)
sound_but nth least site (suc at) (one ∷ packs) pack old new are is shown torn sound =
    let kept = one_kept (nth + suc at) nth one old new are.0.base are.0.copies (λ e. omega arith) torn shown.0 in
    let torn' : Torn (area_at (nth + 1 + at)) area_length old new = subst (λ (n : ℕ). Torn (area_at n) area_length old new) (let f : nth + suc at ≡ nth + 1 + at = omega arith in f) torn in
    (subst (λ (s : ℕ). IsSound (area_at nth) one.group s new) are.0.site kept.2, sound_but (nth + 1) (one.group + 1) site at packs pack old new are.1 is shown.1 torn' sound)

-- where an inode of one pack has another version, its copy takes the place of the old one
pub behind_replaced : (nth least site at ino : ℕ) (packs : List PackState) (pack : PackState) (v : Version) (x : FileCopy) (old new : List ℕ) → ArePacks nth least site packs → slice_get packs at ≡ Some pack → AreShown packs old
    → Torn (area_at (nth + at)) area_length old new → 1 ≤ ino → ino ≤ inodes_max → Replaced pack.base ino v old new → copy_in pack.group ino v ≡ x → copy_key x ≡ pack.group * inode_span + ino
    → copies_behind nth (map pack_group packs) new ≡ with_row copy_key x (copies_behind nth (map pack_group packs) old)
behind_replaced nth least site at ino [] pack v x old new are is shown torn low high replaced made key = absurd (let e : None ≡ Some pack = is in cc)
behind_replaced nth least site zero ino (one ∷ packs) pack v x old new are is shown torn low high replaced made key =
    let e : one ≡ pack = (let f : Some one ≡ Some pack = is in cc) in
    let rest = later_kept (nth + zero) (nth + 1) (one.group + 1) site packs old new (omega arith) are.1 shown.1 torn in
    let tail = behind_same (nth + 1) (one.group + 1) site packs old new are.1 rest.0 in
    let group = ap pack_group e in
    let here : copies_in (area_at nth) one.group new ≡ with_row copy_key x (copies_in (area_at nth) one.group old) =
    pack_replaced (area_at nth) one.group ino v x old new low high (subst (λ (b : ℕ). Replaced b ino v old new) (ap (λ (p : PackState). p.base) (sym e) ∙ are.0.base) replaced) (ap (λ (p : PackState). copy_in p.group ino v) e ∙ made) in
    (λ i. here i ++ tail i)
    ∙ sym (put_among ((one.group + 1) * inode_span) 262144 x (omega arith) (copies_in (area_at nth) one.group old) (copies_behind (nth + 1) (map pack_group packs) old) (behind_between (nth + 1) (one.group + 1) site packs old are.1))
behind_replaced nth least site (suc at) ino (one ∷ packs) pack v x old new are is shown torn low high replaced made key =
    let kept = one_kept (nth + suc at) nth one old new are.0.base are.0.copies (λ e. omega arith) torn shown.0 in
    let torn' : Torn (area_at (nth + 1 + at)) area_length old new = subst (λ (n : ℕ). Torn (area_at n) area_length old new) (let f : nth + suc at ≡ nth + 1 + at = omega arith in f) torn in
    let head = pack_same (area_at nth) one.group old new (subst (λ (b : ℕ). SameView b old new) are.0.base kept.0) in
    let tail = behind_replaced (nth + 1) (one.group + 1) site at ino packs pack v x old new are.1 is shown.1 torn' low high replaced made key in
    let above = (pack_here (nth + 1) (one.group + 1) site at packs pack are.1 is).low in
    (λ i. head i ++ tail i)
    ∙ sym (put_behind (one.group * inode_span) (one.group * inode_span + inode_span) x (omega arith) (copies_in (area_at nth) one.group old) (copies_behind (nth + 1) (map pack_group packs) old) (pack_between (area_at nth) one.group old))

-- ---- what is found ----

-- what the pack of the group has
abbrev pub found_in : ℕ → ℕ → List ℕ → Option PackState → Option FileCopy
found_in group ino image None = None
found_in group ino image (Some pack) = row copy_key (group * inode_span + ino) (copies_in pack.base pack.group image)

-- a copy is found in the pack of its group
pub behind_found : (nth least site group ino : ℕ) (packs : List PackState) (image : List ℕ) → ArePacks nth least site packs → ino < inode_span
    → row copy_key (group * inode_span + ino) (copies_behind nth (map pack_group packs) image) ≡ found_in group ino image (pack_in group packs)
behind_found nth least site group ino [] image are fits = refl
behind_found nth least site group ino (pack ∷ packs) image are fits =
    let k = group * inode_span + ino in
    let mine = copies_in (area_at nth) pack.group image in
    let rest = copies_behind (nth + 1) (map pack_group packs) image in
    (elim (pack.group == group) as (λ b. (pack.group == group) ≡ b → row copy_key k (mine ++ rest) ≡ found_in group ino image (elim b [ true ↦ Some pack | false ↦ pack_in group packs ])) [
      | true ↦ λ e.
          let same : pack.group ≡ group = eqb-true pack.group group e in
          row_left k mine rest (row_outside ((pack.group + 1) * inode_span) 262144 k (inl (omega arith)) rest (behind_between (nth + 1) (pack.group + 1) site packs image are.1))
          ∙ ap (λ (b : ℕ). row copy_key k (copies_in b pack.group image)) (sym are.0.base)
      | false ↦ λ e.
          let apart : pack.group ≢ group = λ f. false≢true (sym e ∙ eq-eqb pack.group group f) in
          row_right k mine rest (row_outside (pack.group * inode_span) (pack.group * inode_span + inode_span) k (⊎_elim (λ (lt : group < pack.group). inl (omega arith)) (λ (le : pack.group ≤ group). inr (omega arith)) (cases_lt group pack.group)) mine (pack_between (area_at nth) pack.group image))
          ∙ behind_found (nth + 1) (pack.group + 1) site group ino packs image are.1 fits
    ]) refl

-- the pack of a group stands at a place
pub pack_place : (group : ℕ) (packs : List PackState) (pack : PackState) → pack_in group packs ≡ Some pack → (at : ℕ) × (slice_get packs at ≡ Some pack) × (pack.group ≡ group)
pack_place group [] pack is = absurd (let e : None ≡ Some pack = is in cc)
pack_place group (one ∷ packs) pack is =
    (elim (one.group == group) as (λ b. (one.group == group) ≡ b → ◌≡◌ {A = Option PackState} (elim b [ true ↦ Some one | false ↦ pack_in group packs ]) (Some pack) → (at : ℕ) × (slice_get (one ∷ packs) at ≡ Some pack) × (pack.group ≡ group)) [
      | true ↦ λ e f.
          let same : one ≡ pack = cc in
          (0, f, sym (ap pack_group same) ∙ eqb-true one.group group e)
      | false ↦ λ e f. let rest = pack_place group packs pack f in (suc rest.0, rest.1, rest.2)
    ]) refl is

-- and there is one where the site has one
pub has_pack : (group : ℕ) (packs : List PackState) → has_group (map pack_group packs) group ≡ is_some (pack_in group packs)
has_pack group [] = refl
has_pack group (pack ∷ packs) = elim (pack.group == group) as (λ b. (b || has_group (map pack_group packs) group) ≡ is_some (elim b [ true ↦ Some pack | false ↦ pack_in group packs ])) [
  | true ↦ refl
  | false ↦ has_pack group packs
]

-- the pack at the place where one of the group is found first
pub place_found : (group i : ℕ) (packs : List PackState) (x : PackState) → i < length packs → x ≡ get_or packs i x → x.group ≡ group → pack_in group (drop i packs) ≡ pack_in group packs → slice_get packs i ≡ pack_in group packs
place_found group i packs x lt is same rest = sym (here i packs lt is) ∙ rest
  where
    here : (i : ℕ) (packs : List PackState) → i < length packs → x ≡ get_or packs i x → pack_in group (drop i packs) ≡ slice_get packs i
    here i [] lt is = absurd (omega arith)
    here zero (p ∷ ps) lt is = let e : (p.group == group) ≡ true = eq-eqb p.group group (ap pack_group (sym is) ∙ same) in (λ j. elim (e j) [ true ↦ Some p | false ↦ pack_in group ps ])
    here (suc i) (p ∷ ps) lt is = here i ps (omega arith) is

pub some_at : (packs : List PackState) (at : ℕ) → at < length packs → is_some (slice_get packs at) ≡ true
some_at [] at lt = absurd (omega arith)
some_at (pack ∷ packs) zero lt = refl
some_at (pack ∷ packs) (suc at) lt = some_at packs at (omega arith)

-- a group whose pack stands at a place is one of the site's
pub has_place : (group : ℕ) (packs : List PackState) (at : ℕ) → at < length packs → slice_get packs at ≡ pack_in group packs → has_group (map pack_group packs) group ≡ true
has_place group packs at lt is = has_pack group packs ∙ ap (λ (o : Option PackState). is_some o) (sym is) ∙ some_at packs at lt

pub no_group : (group : ℕ) (packs : List PackState) → pack_in group packs ≡ None → has_group (map pack_group packs) group ≡ true → ⊥
no_group group packs none has = false≢true (sym (has_pack group packs ∙ ap (λ (o : Option PackState). is_some o) none) ∙ has)
