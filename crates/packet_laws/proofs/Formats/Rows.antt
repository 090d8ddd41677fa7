-- The stamps of the versions that are kept of a file ascend, and there are sixteen at most: each has a holder.
use Rattle.std.proofs.Common.{◌≡◌, ◌≤◌, ◌<◌, ◌^◌, ◌⊎◌, ℕ, ◌+◌, ◌*◌, ◌==◌, nat_lt, Bool, true, false, cond, ◌&&◌, ◌||◌, List, [], ◌∷◌, filter, length, None, Some, refl, sym, ◌∙◌, subst, arith, inl, inr}
use Rattle.std.proofs.lemmas.Bool.Decides.{nat_tests}
use Rattle.role_steps.proofs.of_plain_facts.Tests.{and_true, true_false}
use Rattle.locus_ids.specs.declared.config.Config.{Config}
use Rattle.locus_ids.specs.declared.ids.EpochId.{EpochId}
use Rattle.locus_ids.specs.declared.ids.Stamp.{Stamp}
use Rattle.locus_ids.specs.Sizes.{sites_max}
use Rattle.the_run.specs.Worlds.{Line}
use Rattle.field_codec.specs.Lists.{AllFit}
use Rattle.wire_fields.specs.Parts.{ascending_stamps, is_stamp, stamps, stamps_after}
use Rattle.wire_fields.proofs.Members.{in_range, range}
use Rattle.role_steps.specs.Own.{Every}
use Rattle.role_steps.specs.Tables.{without_row}
use Rattle.role_steps.specs.Versions.{holding_site, stamps_of, version_key}
use Rattle.role_steps.specs.Views.{stamp_key}
use Rattle.role_steps.specs.declared.synchronizing.FileRow.{FileRow}
use Rattle.role_steps.specs.declared.synchronizing.Holding.{Holding}
use Rattle.role_steps.specs.declared.synchronizing.SyncTable.{SyncTable}
use Rattle.role_steps.specs.declared.synchronizing.VersionRow.{VersionRow}
use Rattle.the_run.specs.Kept.{Among}
use Rattle.run_laws.proofs.Epochs.Parts.{every_both}
use Rattle.the_run.proofs.Boots.{every_weaker}
use Rattle.rest_laws.specs.of_tree_laws.Stores.{Ascends}
use Rattle.rest_laws.specs.of_tree_laws.Tables.{FileFact, HasHolder, IsOrderly}
use Rattle.packet_laws.specs.Fitting.Fields.{AreBoots}
use Rattle.packet_laws.proofs.Fitting.Lists.{every_kept}
use Rattle.packet_laws.proofs.Fitting.Meeting.{listed_site}
use Rattle.packet_laws.specs.Values.Values.{FileFits, HolderFits, KeptFit, TableFits, VersionFits}

-- ---- how many ----

removed_length : {A : Type 0} (key : A → ℕ) (x : A) (ys : List A) → Among x ys → length (without_row key (key x) ys) + 1 ≡ length ys
removed_length key x [] m = absurd m
removed_length {A} key x (y ∷ ys) m = over (removed_length key x ys) (key y == key x) refl m
  where
    own : x ≡ y → (key y == key x) ≡ true
    own e = subst (λ (z : A). (key y == key z) ≡ true) (sym e) (same (key y))
      where
        same : (n : ℕ) → (n == n) ≡ true
        same n = grind (arith, nat_tests)

    over : (Among x ys → length (without_row key (key x) ys) + 1 ≡ length ys) → (b : Bool) → (key y == key x) ≡ b → (x ≡ y) ⊎ Among x ys → length (elim b as (λ (t : Bool). List A) [ true ↦ ys | false ↦ y ∷ without_row key (key x) ys ]) + 1 ≡ length (y ∷ ys)
    over rest true e m = omega arith
    over rest false e (inl q) = absurd (true_false (sym (own q) ∙ e))
    over rest false e (inr q) = let k : length (without_row key (key x) ys) + 1 ≡ length ys = rest q in omega (arith, k)

still_among : {A : Type 0} (key : A → ℕ) (k : ℕ) (x : A) (ys : List A) → Among x ys → (key x == k) ≡ false → Among x (without_row key k ys)
still_among key k x [] m other = m
still_among {A} key k x (y ∷ ys) m other = over (λ q. still_among key k x ys q other) (key y == k) refl m
  where
    own : x ≡ y → (key y == k) ≡ false
    own e = subst (λ (z : A). (key z == k) ≡ false) e other

    over : (Among x ys → Among x (without_row key k ys)) → (b : Bool) → (key y == k) ≡ b → (x ≡ y) ⊎ Among x ys → Among x (elim b as (λ (t : Bool). List A) [ true ↦ ys | false ↦ y ∷ without_row key k ys ])
    over rest true e (inl q) = absurd (true_false (sym e ∙ own q))
    over rest true e (inr q) = q
    over rest false e (inl q) = inl q
    over rest false e (inr q) = inr (rest q)

abbrev held_key : Holding → ℕ
held_key h = stamp_key h.stamp

abbrev HeldIn : List Holding → VersionRow → Type 0
HeldIn hs v = (h : Holding) × Among h hs × (h.stamp ≡ v.stamp)

kept_few : (vs : List VersionRow) (hs : List Holding) → Ascends version_key vs → Every (HeldIn hs) vs → length vs ≤ length hs
kept_few [] hs asc all = omega arith
kept_few (v ∷ vs) hs asc all =
    let rest : length vs ≤ length (without_row held_key (held_key all.0.0) hs) = kept_few vs (without_row held_key (held_key all.0.0) hs) asc.1 (every_both (λ (u : VersionRow). version_key v < version_key u) (HeldIn hs) (HeldIn (without_row held_key (held_key all.0.0) hs)) vs (λ u low k. (k.0, still_among held_key (held_key all.0.0) k.0 hs k.1 (other u low k), k.2)) asc.0 all.1) in
    let less : length (without_row held_key (held_key all.0.0) hs) + 1 ≡ length hs = removed_length held_key all.0.0 hs all.0.1 in
    omega (arith, rest, less)
  where
    apart : (a b : ℕ) → a < b → (b == a) ≡ false
    apart a b low = grind (arith, nat_tests)

    other : (u : VersionRow) → version_key v < version_key u → (k : HeldIn hs u) → (held_key k.0 == held_key all.0.0) ≡ false
    other u low k = subst (λ (s : Stamp). (stamp_key s == held_key all.0.0) ≡ false) (sym k.2) (subst (λ (s : Stamp). (version_key u == stamp_key s) ≡ false) (sym all.0.2) (apart (version_key v) (version_key u) low))

holders_few : (least : ℕ) (hs : List Holding) → least ≤ sites_max + 1 → Ascends holding_site hs → Every (λ (h : Holding). (least ≤ h.site) × (h.site ≤ sites_max)) hs → length hs + least ≤ sites_max + 1
holders_few least [] le asc all = omega (arith, le)
holders_few least (h ∷ hs) le asc all =
    let rest : length hs + (h.site + 1) ≤ sites_max + 1 = holders_few (h.site + 1) hs (omega (arith, all.0.1)) asc.1 (every_both (λ (y : Holding). h.site < y.site) (λ (y : Holding). (least ≤ y.site) × (y.site ≤ sites_max)) (λ (y : Holding). (h.site + 1 ≤ y.site) × (y.site ≤ sites_max)) hs (λ y low k. (omega (arith, low), k.1)) asc.0 all.1) in
    omega (arith, rest, all.0.0)

-- ---- in which order ----

filter_ascends : {A : Type 0} (key : A → ℕ) (test : A → Bool) (xs : List A) → Ascends key xs → Ascends key (filter test xs)
filter_ascends key test [] h = tt
filter_ascends key test (x ∷ xs) h = over (filter_ascends key test xs h.1) (every_kept (λ y. key x < key y) test xs h.0) (test x)
  where
    over : Ascends key (filter test xs) → Every (λ y. key x < key y) (filter test xs) → (b : Bool) → Ascends key (cond b (x ∷ filter test xs) (filter test xs))
    over rest low true = (low, rest)
    over rest low false = rest

later_site : (a b x y : ℕ) → a * 4294967296 + b < x * 4294967296 + y → y < 2 ^ 32 → a ≤ x
later_site a b x y low narrow = omega (arith, low, narrow)

later : (a b x y : ℕ) → a * 4294967296 + b < x * 4294967296 + y → y < 2 ^ 32 → (nat_lt a x || nat_lt b y) ≡ true
later a b x y low narrow = over (nat_lt a x) refl
  where
    greater : nat_lt a x ≡ false → nat_lt b y ≡ true
    greater e = let k : x ≤ a = at e in let m : b < y = omega (arith, low, narrow, k) in tells m
      where
        at : nat_lt a x ≡ false → x ≤ a
        at e = grind (arith, nat_tests)

        tells : b < y → nat_lt b y ≡ true
        tells m = grind (arith, nat_tests)

    over : (t : Bool) → nat_lt a x ≡ t → (t || nat_lt b y) ≡ true
    over true e = refl
    over false e = greater e

after_fits : (last s : Stamp) → stamps.Fits s → stamp_key last < stamp_key s → (stamps_after (Some last)).Fits s
after_fits last s h low =
    ((in_range last.site sites_max s.site (later_site last.site last.n s.site s.n low h.1.1) (range 0 sites_max s.site h.0.0).1, h.0.1), (and_true (is_stamp s.site s.n) (nat_lt last.site s.site || nat_lt last.n s.n) h.1.0 (later last.site last.n s.site s.n low h.1.1), h.1.1))

all_after : (last : Stamp) (vs : List VersionRow) → Every (λ (v : VersionRow). stamp_key last < version_key v) vs → Ascends version_key vs → Every VersionFits vs → AllFit stamps_after (λ _ (s : Stamp). Some s) (Some last) (stamps_of vs)
all_after last [] low asc fits = tt
all_after last (v ∷ vs) low asc fits = (after_fits last v.stamp fits.0.version.0 low.0, all_after v.stamp vs asc.0 asc.1 fits.1)

all_ascend : (vs : List VersionRow) → Ascends version_key vs → Every VersionFits vs → AllFit stamps_after (λ _ (s : Stamp). Some s) None (stamps_of vs)
all_ascend [] asc fits = tt
all_ascend (v ∷ vs) asc fits = (fits.0.version.0, all_after v.stamp vs asc.0 asc.1 fits.1)

stamps_length : (vs : List VersionRow) → length (stamps_of vs) ≡ length vs
stamps_length [] = refl
stamps_length (v ∷ vs) = let h : length (stamps_of vs) ≡ length vs = stamps_length vs in omega (arith, h)

-- ---- a row, and a table ----

pub row_kept : (boots : List ℕ) (r : FileRow) → AreBoots boots → FileFits boots r → Every (HasHolder r) r.kept → IsOrderly r → ascending_stamps.Fits (stamps_of r.kept)
row_kept boots r fit h held orderly = (few, all_ascend r.kept asc h.keeps)
  where
    asc : Ascends version_key r.kept
    asc = subst (Ascends version_key) (sym orderly.keeps) (filter_ascends version_key _ r.versions orderly.ascends)

    sites_are : Every (λ (y : Holding). (1 ≤ y.site) × (y.site ≤ sites_max)) r.holders
    sites_are = every_weaker (HolderFits boots) (λ (y : Holding). (1 ≤ y.site) × (y.site ≤ sites_max)) r.holders (λ y k. (listed_site boots y.site fit k.0).0) h.holders

    few : length (stamps_of r.kept) < 2 ^ 8
    few =
        let a : length r.kept ≤ length r.holders = kept_few r.kept r.holders asc held in
        let b : length r.holders + 1 ≤ sites_max + 1 = holders_few 1 r.holders (omega arith) orderly.sites sites_are in
        omega (arith, a, b, stamps_length r.kept)

pub table_kept : (c : Config) (trace : List Line) (e : EpochId) (group : ℕ) (boots : List ℕ) (t : SyncTable) → AreBoots boots → Every (FileFact c trace e group) t.files → TableFits boots t → KeptFit t
table_kept c trace e group boots t fit facts h = every_both (FileFact c trace e group) (FileFits boots) (λ (r : FileRow). ascending_stamps.Fits (stamps_of r.kept)) t.files (λ r k f. row_kept boots r fit f k.held k.orderly) facts h.files
