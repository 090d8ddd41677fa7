-- The choice of a synchronization site where a file is made is the tree's.
use Rattle.std.proofs.Common.{◌≡◌, ℕ, zero, suc, ◌+◌, ◌-◌, ◌<◌, ◌≤◌, ◌==◌, min, nat_lt, Bool, true, false, not, ◌&&◌, ◌||◌, cond, List, [], ◌∷◌, filter, get_or, Option, Some, None, refl, sym, ap, ◌∙◌, subst, arith}
use Rattle.std.proofs.lemmas.Bool.Decides.{nat_tests}
use Rattle.std.proofs.lemmas.Nat.{and_le_l}
use Rattle.std.proofs.lemmas.Nat.Bits.{bit_at_and, bit_at-lt, same_from_bits_below}
use Rattle.std.specs.Int.{bit_at}
use Rattle.std.specs.Int.Bits.{bit_and}
use Rattle.std.specs.List.{find, list_all}
use Rattle.std.specs.Option.{is_some, option_or}
use Rattle.role_steps.proofs.of_plain_facts.Numbers.{equal as test_same}
use Rattle.role_steps.proofs.of_plain_facts.Tests.{and_first, and_second, true_false}
use Rattle.locus_ids.specs.Sites.{both, has}
use Rattle.locus_ids.specs.declared.config.Config.{Config}
use Rattle.locus_ids.specs.declared.sites.Members.{Members}
use Rattle.locus_ids.specs.declared.sites.Sites.{Sites}
use Rattle.locus_ids.specs.Sizes.{set_span, sites_max}
use Rattle.commit_graph.specs.Vectors.{numbers_from}
use Rattle.role_steps.specs.Versions.{chosen_site, is_among}
use Rattle.role_steps.specs.Views.{Frame, first_site, is_member as table_member, members_of, pack_sites}
use Rattle.tree_model.specs.Packs.{all_sites, has_pack, is_member, is_member_of, is_place, is_within, least_site, making_site_in, packs_of, sync_site, that_passes}
use Rattle.tree_laws.specs.Syncs.Making.{table_place, tree_place}

-- ---- a set within another ----

all_numbers : (p : ℕ → Bool) (k n s : ℕ) → k ≤ s → s < k + n → list_all p (numbers_from k n) ≡ true → p s ≡ true
all_numbers p k zero s low high all = absurd (omega (arith, low, high))
all_numbers p k (suc n) s low high all = at (k == s) refl (λ l h. all_numbers p (k + 1) n s l h (and_second (p k) _ all))
  where
    above : (a z : ℕ) → a ≤ z → (a == z) ≡ false → a + 1 ≤ z
    above a z le ne = grind (arith, nat_tests)

    at : (b : Bool) → (k == s) ≡ b → (k + 1 ≤ s → s < (k + 1) + n → p s ≡ true) → p s ≡ true
    at true e later = subst (λ (m : ℕ). p m ≡ true) (test_same k s e) (and_first (p k) _ all)
    at false e later = later (above k s low e) (omega (arith, high))

every_number : (p : ℕ → Bool) → ((s : ℕ) → p s ≡ true) → (xs : List ℕ) → list_all p xs ≡ true
every_number p h [] = refl
every_number p h (x ∷ xs) = both_true (p x) (list_all p xs) (h x) (every_number p h xs)
  where
    both_true : (a b : Bool) → a ≡ true → b ≡ true → a && b ≡ true
    both_true true b e k = k
    both_true false b e k = e

-- one bit of the set, and of the packs
bit_least : (a b : ℕ) → a < 2 → b < 2 → not (a == 1) || (b == 1) ≡ true → min a b ≡ a
bit_least a b h k e = grind (arith, nat_tests)

bit_within : (a b : ℕ) → a < 2 → b < 2 → min a b ≡ a → not (a == 1) || (b == 1) ≡ true
bit_within a b h k e = grind (arith, nat_tests)

within_same : (set packs : Sites) → set.0 < set_span → ((both set packs).0 == set.0) ≡ is_within set packs
within_same set packs small = over ((both set packs).0 == set.0) (is_within set packs) refl refl
  where
    inside : (s : ℕ) → bit_and set.0 packs.0 ≡ set.0 → not (has set s) || has packs s ≡ true
    inside s e = bit_within (bit_at set.0 (s - 1)) (bit_at packs.0 (s - 1)) (bit_at-lt set.0 (s - 1)) (bit_at-lt packs.0 (s - 1)) (sym (bit_at_and set.0 packs.0 (s - 1)) ∙ ap (λ (m : ℕ). bit_at m (s - 1)) e)

    shift : (i : ℕ) → (i + 1) - 1 ≡ i
    shift i = omega arith

    bits : is_within set packs ≡ true → (i : ℕ) → i < sites_max → bit_at (bit_and set.0 packs.0) i ≡ bit_at set.0 i
    bits e i low = bit_at_and set.0 packs.0 i ∙ bit_least (bit_at set.0 i) (bit_at packs.0 i) (bit_at-lt set.0 i) (bit_at-lt packs.0 i)
        (subst (λ (k : ℕ). not (bit_at set.0 k == 1) || (bit_at packs.0 k == 1) ≡ true) (shift i) (all_numbers (λ s. not (has set s) || has packs s) 1 sites_max (i + 1) (omega arith) (omega (arith, low)) e))

    least : bit_and set.0 packs.0 < set_span
    least = low (bit_and set.0 packs.0) set.0 set_span (and_le_l set.0 packs.0) small
      where
        low : (a b m : ℕ) → a ≤ b → b < m → a < m
        low a b m h k = omega (arith, h, k)

    equal : is_within set packs ≡ true → bit_and set.0 packs.0 ≡ set.0
    equal e = same_from_bits_below sites_max (bit_and set.0 packs.0) set.0 least small (bits e)

    test_of : (a b : ℕ) → a ≡ b → (a == b) ≡ true
    test_of a b e = grind (arith, nat_tests)

    over : (a b : Bool) → ((both set packs).0 == set.0) ≡ a → is_within set packs ≡ b → ((both set packs).0 == set.0) ≡ is_within set packs
    over true b e k = e ∙ sym (every_number (λ s. not (has set s) || has packs s) (λ s. inside s (test_same (bit_and set.0 packs.0) set.0 e)) all_sites)
    over false true e k = absurd (true_false (sym (test_of (bit_and set.0 packs.0) set.0 (equal k)) ∙ e))
    over false false e k = e ∙ sym k

-- ---- the first that passes, and whoever passes ----

first_found : (q : ℕ → Bool) (xs : List ℕ) → first_site (filter q xs) ≡ find q xs
first_found q [] = refl
first_found q (x ∷ xs) = over (q x) (first_found q xs)
  where
    over : (b : Bool) → first_site (filter q xs) ≡ find q xs → first_site (cond b (x ∷ filter q xs) (filter q xs)) ≡ cond b (Some x) (find q xs)
    over true e = refl
    over false e = e

among_passed : (q : ℕ → Bool) (s : ℕ) (xs : List ℕ) → is_among s (filter q xs) ≡ is_among s xs && q s
among_passed q s [] = refl
among_passed q s (x ∷ xs) = over (q x) (x == s) refl refl (among_passed q s xs)
  where
    same : x ≡ s → q x ≡ true → q s ≡ true
    same e k = subst (λ (m : ℕ). q m ≡ true) e k

    other : x ≡ s → q x ≡ false → q s ≡ false
    other e k = subst (λ (m : ℕ). q m ≡ false) e k

    none : (b : Bool) → b ≡ false → b && q s ≡ false
    none true e = absurd (true_false e)
    none false e = refl

    never : (b z : Bool) → z ≡ false → b && z ≡ z
    never true z e = refl
    never false z e = sym e

    over : (a b : Bool) → q x ≡ a → (x == s) ≡ b → is_among s (filter q xs) ≡ is_among s xs && q s → is_among s (cond a (x ∷ filter q xs) (filter q xs)) ≡ (b || is_among s xs) && q s
    over true true e k later = ap (λ (b : Bool). b || is_among s (filter q xs)) k ∙ sym (same (test_same x s k) e)
    over true false e k later = ap (λ (b : Bool). b || is_among s (filter q xs)) k ∙ later
    over false true e k later = later ∙ never (is_among s xs) (q s) (other (test_same x s k) e)
    over false false e k later = later

number_among : (k n s : ℕ) → k ≤ s → s < k + n → is_among s (numbers_from k n) ≡ true
number_among k zero s low high = absurd (omega (arith, low, high))
number_among k (suc n) s low high = at (k == s) refl (λ l h. number_among (k + 1) n s l h)
  where
    above : (a z : ℕ) → a ≤ z → (a == z) ≡ false → a + 1 ≤ z
    above a z le ne = grind (arith, nat_tests)

    at : (b : Bool) → (k == s) ≡ b → (k + 1 ≤ s → s < (k + 1) + n → is_among s (numbers_from (k + 1) n) ≡ true) → b || is_among s (numbers_from (k + 1) n) ≡ true
    at true e later = refl
    at false e later = later (above k s low e) (omega (arith, high))

found_low : (p : ℕ → Bool) (k n s : ℕ) → find p (numbers_from k n) ≡ Some s → s < k + n
found_low p k zero s e = absurd (none e)
  where
    none : ◌≡◌ {A = Option ℕ} None (Some s) → ⊥
    none z = cc
found_low p k (suc n) s e = at (p k) e (found_low p (k + 1) n s)
  where
    is : ◌≡◌ {A = Option ℕ} (Some k) (Some s) → k ≡ s
    is z = cc

    at : (b : Bool) → cond b (Some k) (find p (numbers_from (k + 1) n)) ≡ Some s → (find p (numbers_from (k + 1) n) ≡ Some s → s < (k + 1) + n) → s < k + suc n
    at true z later = (let w : k ≡ s = is z in omega (arith, w))
    at false z later = (let w : s < (k + 1) + n = later z in omega (arith, w))

-- ---- members ----

positive : (b : ℕ) → not (b == 0) ≡ nat_lt 0 b
positive b = grind (arith, nat_tests)

member_same : (m : Members) (s : ℕ) → table_member m s ≡ is_member m s
member_same m zero = refl
member_same m (suc place) = positive (get_or m.boot place 0)

swapped : (a b : Bool) → a && b ≡ b && a
swapped true true = refl
swapped true false = refl
swapped false true = refl
swapped false false = refl

module _ (f : Frame) (set : Sites) where
  abbrev q : ℕ → Bool
  q s = has set s && table_member f.members s

  abbrev p : ℕ → Bool
  p s = is_place (Some f.members) set s

  passes_same : (s : ℕ) → q s ≡ p s
  passes_same s = swapped (has set s) (table_member f.members s) ∙ ap (λ (b : Bool). b && has set s) (member_same f.members s)

  -- a site passes where it is among those that do
  among_place : (s : ℕ) → s < sites_max + 1 → is_among s (filter q all_sites) ≡ p s
  among_place zero low = among_passed q zero all_sites
  among_place (suc k) low = among_passed q (suc k) all_sites ∙ (ap (λ (b : Bool). b && q (suc k)) (number_among 1 sites_max (suc k) (omega arith) (omega (arith, low))) ∙ passes_same (suc k))

  find_same : (xs : List ℕ) → find q xs ≡ find p xs
  find_same [] = refl
  find_same (x ∷ xs) = ap (λ (b : Bool). cond b (Some x) (find q xs)) (passes_same x) ∙ ap (λ (o : Option ℕ). cond (p x) (Some x) o) (find_same xs)

  choice_same : (c : Config) (group us : ℕ) → us < sites_max + 1 → sync_site c group (Some f.members) ≡ Some f.me → (hs : List ℕ) → filter q all_sites ≡ hs → chosen_site us f.me hs ≡ cond (is_some (least_site p)) (making_site_in c group (Some f.members) us set) None
  choice_same c group us low serves [] e = sym (ap (λ (o : Option ℕ). cond (is_some o) (making_site_in c group (Some f.members) us set) None) (sym (find_same all_sites) ∙ (sym (first_found q all_sites) ∙ ap first_site e)))
  choice_same c group us low serves (h ∷ hs) e =
      ap (λ (b : Bool). cond b (Some us) (cond (is_among f.me (h ∷ hs)) (Some f.me) (Some h))) (at us low)
      ∙ (ap (λ (b : Bool). cond (p us) (Some us) (cond b (Some f.me) (Some h))) (at f.me (found_low (λ s. is_member_of (Some f.members) s && has_pack c group s) 1 sites_max f.me serves))
      ∙ (choose (p us) (p f.me)
      ∙ (ap (λ (o : Option ℕ). option_or (that_passes p (Some us)) (option_or (that_passes p o) (Some h))) (sym serves)
      ∙ (ap (λ (o : Option ℕ). option_or (that_passes p (Some us)) (option_or (that_passes p (sync_site c group (Some f.members))) o)) (sym least)
      ∙ sym (ap (λ (o : Option ℕ). cond (is_some o) (making_site_in c group (Some f.members) us set) None) least)))))
    where
      least : least_site p ≡ Some h
      least = sym (find_same all_sites) ∙ (sym (first_found q all_sites) ∙ ap first_site e)

      at : (s : ℕ) → s < sites_max + 1 → is_among s (h ∷ hs) ≡ p s
      at s small = ap (is_among s) (sym e) ∙ among_place s small

      choose : (a b : Bool) → cond a (Some us) (cond b (Some f.me) (Some h)) ≡ option_or (cond a (Some us) None) (option_or (cond b (Some f.me) None) (Some h))
      choose true b = refl
      choose false true = refl
      choose false false = refl

-- where a table has a file made the tree has
pub place_same : (c : Config) (f : Frame) → f.config ≡ c → (group us : ℕ) (set : Sites) → sync_site c group (Some f.members) ≡ Some f.me → us < sites_max + 1 → set.0 < set_span → table_place f group us set ≡ tree_place c group (Some f.members) us set
place_same c f config_is group us set serves low small =
    ap (λ (b : Bool). cond b (chosen_site us f.me (members_of f.members set)) None) (ap (λ (k : Config). (both set (pack_sites k group)).0 == set.0) config_is ∙ within_same set (packs_of c group) small)
    ∙ (ap (λ (o : Option ℕ). cond (is_within set (packs_of c group)) o None) (choice_same f set c group us low serves (filter (λ s. has set s && table_member f.members s) all_sites) refl) ∙ joins (is_within set (packs_of c group)) (is_some (least_site (is_place (Some f.members) set))))
  where
    joins : (a b : Bool) → cond a (cond b (making_site_in c group (Some f.members) us set) None) None ≡ cond (a && b) (making_site_in c group (Some f.members) us set) None
    joins true b = refl
    joins false b = refl
