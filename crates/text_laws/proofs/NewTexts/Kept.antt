-- Of one site at most one version of a file is kept, where of two versions of one site the earlier is an ancestor of the later.
use Rattle.std.proofs.Common.{◌≡◌, ◌≤◌, ◌<◌, ℕ, ◌+◌, Bool, true, false, cond, not, ◌||◌, List, [], ◌∷◌, filter, length, refl, sym, ◌∙◌, ap, arith, inl, inr}
use Rattle.std.proofs.lemmas.Bool.Decides.{nat_tests}
use Rattle.std.specs.List.{AllByRecursion, list_any}
use Rattle.plain_facts.proofs.Tests.{and_true, true_false}
use Rattle.locus_ids.specs.Sizes.{sites_max}
use Rattle.locus_ids.specs.declared.ids.FileId.{FileId}
use Rattle.locus_ids.specs.declared.ids.Stamp.{Stamp}
use Rattle.commit_graph.specs.Versions.{is_ancestor, is_covered, is_proper_ancestor, kept, same_stamp}
use Rattle.commit_graph.specs.declared.history.Version.{Version}
use Rattle.text_laws.specs.NewTexts.Keeping.{AreChained, Ascend, IsBelow}

-- whatever is a proper ancestor of it is covered
abbrev Covers : List Version → FileId → List Stamp → Stamp → Type 0
Covers h f bs y = (x : Stamp) → is_proper_ancestor h f x y ≡ true → is_covered h f bs x ≡ true

all_two : {X : Type 0} (P Q R : X → Type 0) (xs : List X) → ((x : X) → P x → Q x → R x) → AllByRecursion P xs → AllByRecursion Q xs → AllByRecursion R xs
all_two P Q R [] so h k = tt
all_two P Q R (x ∷ xs) so h k = (so x h.0 k.0, all_two P Q R xs so h.1 k.1)

-- ---- one after another ----

apart : (x y : Stamp) → x.n < y.n → same_stamp x y ≡ false
apart x y low = grind (arith, nat_tests)

proper : (h : List Version) (f : FileId) (x y : Stamp) → x.n < y.n → is_ancestor h f x y ≡ true → is_proper_ancestor h f x y ≡ true
proper h f x y low a = and_true (not (same_stamp x y)) (is_ancestor h f x y) (ap not (apart x y low)) a

-- beside one that isn't covered all later ones are of later sites
later : (h : List Version) (f : FileId) (bs : List Stamp) (x y : Stamp) → is_covered h f bs x ≡ false → Covers h f bs y → (x.site ≡ y.site → x.n < y.n → is_ancestor h f x y ≡ true) → IsBelow x y → x.site + 1 ≤ y.site
later h f bs x y none covers chain (inl low) = omega (arith, low)
later h f bs x y none covers chain (inr same) = absurd (true_false (sym (covers x (proper h f x y same.1 (chain same.0 same.1))) ∙ none))

abbrev Within : ℕ → Stamp → Type 0
Within least y = (least ≤ y.site) × (y.site ≤ sites_max)

few : (h : List Version) (f : FileId) (bs xs : List Stamp) (least : ℕ) → least ≤ 17 → Ascend xs → AreChained h f xs → AllByRecursion (Covers h f bs) xs → AllByRecursion (Within least) xs → length (filter (λ (a : Stamp). not (is_covered h f bs a)) xs) + least ≤ 17
few h f bs [] least le asc chain covers sites = omega (arith, le)
few h f bs (x ∷ xs) least le asc chain covers sites = over (λ m low w. few h f bs xs m low asc.1 chain.1 covers.1 w) (is_covered h f bs x) refl
  where
    rest : List Stamp
    rest = filter (λ (a : Stamp). not (is_covered h f bs a)) xs

    over : ((m : ℕ) → m ≤ 17 → AllByRecursion (Within m) xs → length rest + m ≤ 17) → (b : Bool) → is_covered h f bs x ≡ b → length (cond (not b) (x ∷ rest) rest) + least ≤ 17
    over more true e = more least le sites.1
    over more false e =
        let pairs : AllByRecursion (λ (y : Stamp). (x.site ≡ y.site → x.n < y.n → is_ancestor h f x y ≡ true) × Covers h f bs y) xs = all_two (λ (y : Stamp). x.site ≡ y.site → x.n < y.n → is_ancestor h f x y ≡ true) (Covers h f bs) (λ (y : Stamp). (x.site ≡ y.site → x.n < y.n → is_ancestor h f x y ≡ true) × Covers h f bs y) xs (λ y a b. (a, b)) chain.0 covers.1 in
        let above : AllByRecursion (λ (y : Stamp). x.site + 1 ≤ y.site) xs = all_two (λ (y : Stamp). (x.site ≡ y.site → x.n < y.n → is_ancestor h f x y ≡ true) × Covers h f bs y) (IsBelow x) (λ (y : Stamp). x.site + 1 ≤ y.site) xs (λ y p low. later h f bs x y e p.1 p.0 low) pairs asc.0 in
        let k : length rest + (x.site + 1) ≤ 17 = more (x.site + 1) (omega (arith, sites.0.1)) (all_two (λ (y : Stamp). x.site + 1 ≤ y.site) (Within least) (Within (x.site + 1)) xs (λ y low w. (low, w.1)) above sites.1) in
        omega (arith, k, sites.0.0)

-- ---- all ----

any_more : {X : Type 0} (p : X → Bool) (y : X) (ys : List X) → list_any p ys ≡ true → list_any p (y ∷ ys) ≡ true
any_more p y ys h = over (p y)
  where
    over : (b : Bool) → (b || list_any p ys) ≡ true
    over true = refl
    over false = h

any_here : {X : Type 0} (p : X → Bool) (y : X) (ys : List X) → p y ≡ true → list_any p (y ∷ ys) ≡ true
any_here p y ys h = ap (λ (b : Bool). b || list_any p ys) h

all_cover : (h : List Version) (f : FileId) (xs : List Stamp) → AllByRecursion (Covers h f xs) xs
all_cover h f [] = tt
all_cover h f (x ∷ xs) = ((λ a e. any_here (is_proper_ancestor h f a) x xs e), all_two (Covers h f xs) (Covers h f xs) (Covers h f (x ∷ xs)) xs (λ y k j a e. any_more (is_proper_ancestor h f a) x xs (k a e)) (all_cover h f xs) (all_cover h f xs))

pub kept_few : (h : List Version) (f : FileId) (bs : List Stamp) → Ascend bs → AreChained h f bs → AllByRecursion (λ (y : Stamp). y.site ≤ sites_max) bs → length (kept h f bs) ≤ 17
kept_few h f bs asc chain sites = let k : length (kept h f bs) + 0 ≤ 17 = few h f bs bs 0 (omega arith) asc chain (all_cover h f bs) (all_two (λ (y : Stamp). y.site ≤ sites_max) (λ (y : Stamp). y.site ≤ sites_max) (Within 0) bs (λ y a b. (omega arith, a)) sites sites) in omega (arith, k)
