-- The first world, place by place: what holds of each site as it begins holds of each place there. Every law of the run begins with this.
use Rattle.std.proofs.Common.{◌≡◌, ℕ, ◌+◌, ◌≤◌, ◌==◌, ◌||◌, nat_lt, Bool, true, false, cond, List, [], ◌∷◌, map, filter, Option, Some, None, refl, sym, ap, ◌∙◌, subst, inl, inr, arith}
use Rattle.std.specs.List.{list_any}
use Rattle.std.proofs.lemmas.Bool.Decides.{nat_tests}
use Rattle.locus_ids.specs.Sizes.{sites_max}
use Rattle.locus_ids.specs.declared.config.Config.{Config}
use Rattle.role_steps.specs.Own.{Every}
use Rattle.role_steps.specs.Tables.{row}
use Rattle.role_steps.specs.Views.{SiteView, all_sites}
use Rattle.the_run.specs.Kept.{Among}
use Rattle.the_run.specs.Worlds.{Place, PlaceRow, Running, place_at, place_in, place_site, fresh, formatted, first_place, first_world}
use Rattle.role_steps.proofs.of_plain_facts.Numbers.{equal}
use Rattle.role_steps.proofs.of_plain_facts.Options.{some_same}
use Rattle.role_steps.proofs.of_plain_facts.Tests.{false_true}
use Rattle.role_steps.proofs.Counted.{every_site}
use Rattle.role_steps.proofs.Numbers.{listed_site}

-- the number is that of a site, and of one of the cluster
abbrev pub InCluster : Config → ℕ → Type 0
InCluster c s = ((1 ≤ s) × (s ≤ sites_max)) × (s ≤ c.sites)

any_among : (s : ℕ) (ss : List ℕ) → list_any (λ i. i == s) ss ≡ true → Among s ss
any_among s [] h = absurd (false_true h)
any_among s (t ∷ ts) h = by_site (any_among s ts) (t == s) refl h
  where
    by_site : (list_any (λ i. i == s) ts ≡ true → Among s ts) → (b : Bool) → (t == s) ≡ b → (b || list_any (λ i. i == s) ts) ≡ true → Among s (t ∷ ts)
    by_site later true same any = inl (sym (equal t s same))
    by_site later false other any = inr (later any)

-- it is among the sites that there may be
pub in_all_sites : (c : Config) (s : ℕ) → InCluster c s → Among s all_sites
in_all_sites c s own = any_among s all_sites (listed_site s own.0.0 own.0.1)

none_place : (p : Place) → ◌≡◌ {A = Option Place} None (Some p) → ⊥
none_place p e = cc

running_view : (v u : SiteView) → Running v ≡ Running u → v ≡ u
running_view v u e = cc

abbrev in_cluster : Config → ℕ → Bool
in_cluster c s = nat_lt s (c.sites + 1)

in_the_cluster : (c : Config) (s : ℕ) → s ≤ c.sites → in_cluster c s ≡ true
in_the_cluster c s few = grind (arith, nat_tests)

low_enough : (c : Config) (s : ℕ) → in_cluster c s ≡ true → s ≤ c.sites
low_enough c s own = grind (arith, nat_tests)

-- a site of the cluster begins so
abbrev Begins : Config → (ℕ → Place → Type 0) → ℕ → Type 0
Begins c P s = in_cluster c s ≡ true → P s (Running (fresh 1 (formatted c s)))

-- ---- the places of so many sites ----

-- the places of those of them that are of the cluster
abbrev rows_of : Config → List ℕ → List PlaceRow
rows_of c ss = map (first_place c) (filter (in_cluster c) ss)

abbrev found_in : ℕ → List PlaceRow → Option Place
found_in s rows = place_in (row place_site s rows)

-- what is found where the first of them is of the cluster, and is this site or isn't
abbrev front_of : Config → ℕ → ℕ → List ℕ → Bool → Option Place
front_of c s t ts b = place_in (elim b as (λ (x : Bool). Option PlaceRow) [ true ↦ Some (first_place c t) | false ↦ row place_site s (rows_of c ts) ])

-- a place that is found is that of its site
found : (c : Config) (P : ℕ → Place → Type 0) (s : ℕ) (p : Place) (ss : List ℕ) → Every (Begins c P) ss → found_in s (rows_of c ss) ≡ Some p → P s p
found c P s p [] h e = absurd (none_place p e)
found c P s p (t ∷ ts) h e = by_test (found c P s p ts h.1) (in_cluster c t) refl e
  where
    by_site : (found_in s (rows_of c ts) ≡ Some p → P s p) → in_cluster c t ≡ true → (b : Bool) → (t == s) ≡ b → front_of c s t ts b ≡ Some p → P s p
    by_site later own true same f = subst (P s) (some_same (Running (fresh 1 (formatted c t))) p f) (subst (λ (n : ℕ). P n (Running (fresh 1 (formatted c t)))) (equal t s same) (h.0 own))
    by_site later own false other f = later f

    by_test : (found_in s (rows_of c ts) ≡ Some p → P s p) → (b : Bool) → in_cluster c t ≡ b → found_in s (map (first_place c) (cond b (t ∷ filter (in_cluster c) ts) (filter (in_cluster c) ts))) ≡ Some p → P s p
    by_test later true own f = by_site later own (t == s) refl f
    by_test later false own f = later f

-- a site of the cluster that is among them has its place
there : (c : Config) (s : ℕ) → in_cluster c s ≡ true → (ss : List ℕ) → list_any (λ i. i == s) ss ≡ true → found_in s (rows_of c ss) ≡ Some (Running (fresh 1 (formatted c s)))
there c s own [] h = absurd (false_true h)
there c s own (t ∷ ts) h = by_site (there c s own ts) (t == s) refl h
  where
    by_test : found_in s (rows_of c ts) ≡ Some (Running (fresh 1 (formatted c s))) → (t == s) ≡ false → (b : Bool) → found_in s (map (first_place c) (cond b (t ∷ filter (in_cluster c) ts) (filter (in_cluster c) ts))) ≡ Some (Running (fresh 1 (formatted c s)))
    by_test later other true = ap (front_of c s t ts) other ∙ later
    by_test later other false = later

    by_site : (list_any (λ i. i == s) ts ≡ true → found_in s (rows_of c ts) ≡ Some (Running (fresh 1 (formatted c s)))) → (b : Bool) → (t == s) ≡ b → (b || list_any (λ i. i == s) ts) ≡ true →
        found_in s (map (first_place c) (cond (in_cluster c t) (t ∷ filter (in_cluster c) ts) (filter (in_cluster c) ts))) ≡ Some (Running (fresh 1 (formatted c s)))
    by_site later true same any =
        ap (λ (b : Bool). found_in s (map (first_place c) (cond b (t ∷ filter (in_cluster c) ts) (filter (in_cluster c) ts)))) (ap (in_cluster c) (equal t s same) ∙ own)
        ∙ (ap (front_of c s t ts) same ∙ ap (λ (n : ℕ). Some (Running (fresh 1 (formatted c n)))) (equal t s same))
    by_site later false other any = by_test (later any) other (in_cluster c t)

-- ---- the first world ----

-- what holds of each site of the cluster as it begins holds of each place
pub first_places : (c : Config) (P : ℕ → Place → Type 0) → ((s : ℕ) → InCluster c s → P s (Running (fresh 1 (formatted c s)))) → (s : ℕ) (p : Place) → place_at (first_world c) s ≡ Some p → P s p
first_places c P h s p e = found c P s p all_sites (every_site (Begins c P) (λ t low high own. h t ((low, high), low_enough c t own))) e

-- and of each view
pub first_views : (c : Config) (P : ℕ → SiteView → Type 0) → ((s : ℕ) → InCluster c s → P s (fresh 1 (formatted c s))) → (s : ℕ) (v : SiteView) → place_at (first_world c) s ≡ Some (Running v) → P s v
first_views c P h s v e = first_places c (λ t p. (u : SiteView) → p ≡ Running u → P t u) (λ t own u is. subst (P t) (running_view (fresh 1 (formatted c t)) u is) (h t own)) s (Running v) e v refl

-- each site of the cluster has its place
pub first_there : (c : Config) (s : ℕ) → InCluster c s → place_at (first_world c) s ≡ Some (Running (fresh 1 (formatted c s)))
first_there c s own = there c s (in_the_cluster c s own.1) all_sites (listed_site s own.0.0 own.0.1)
