-- What is made for each site, place by place.
use Rattle.std.proofs.Common.{◌≡◌, ◌<◌, ◌≤◌, ◌+◌, ◌-◌, ◌==◌, not, cond, true, false, ℕ, zero, suc, List, [], ◌∷◌, length, drop, map, get_or, refl, sym, ap, ◌∙◌, arith, add-one, sub-one, ◌≢◌, set, get_or-set_other, get_or-set_same, below_more}
use Rattle.locus_ids.specs.Sizes.{sites_max}
use Rattle.locus_ids.specs.Sites.{with_site}
use Rattle.locus_ids.specs.declared.sites.Links.{Links}
use Rattle.locus_ids.specs.declared.sites.Sites.{Sites}
use Rattle.role_steps.specs.Views.{all_sites, boot_in}
use Rattle.role_steps.specs.Epochs.{reached}
use Rattle.role_steps.proofs.Numbers.{next_site, site_in}
use Rattle.epoch_rules.specs.Places.{reached_among}

-- the site that stands before a place, and those behind it
pub site_before : (place : ℕ) → 0 < place → place ≤ sites_max → drop (place - 1) all_sites ≡ place ∷ drop place all_sites
site_before zero h l = absurd (omega arith)
site_before (suc n) h l = rw sub-one (next_site n (omega arith) ∙ cc (add-one n))

-- a list of numbers is made by a function of the sites where each place has its site's
made_from : (g : ℕ → ℕ) (xs ss : List ℕ) → length xs ≡ length ss → ((k : ℕ) → k < length ss → get_or xs k 0 ≡ g (get_or ss k 0)) → xs ≡ map g ss
made_from g [] [] e h = refl
made_from g [] (s ∷ ss) e h = absurd (omega (arith, e))
made_from g (x ∷ xs) [] e h = absurd (omega (arith, e))
made_from g (x ∷ xs) (s ∷ ss) e h =
    let first : x ≡ g s = h 0 (omega arith) in
    let rest : xs ≡ map g ss = made_from g xs ss (omega (arith, e)) (λ k l. h (suc k) (omega (arith, l))) in
    cc

-- a number for each site is made by a function of the sites where each place has its site's
pub made_for_each : (g : ℕ → ℕ) (xs : List ℕ) → length xs ≡ sites_max → ((k : ℕ) → k < sites_max → get_or xs k 0 ≡ g (k + 1)) → xs ≡ map g all_sites
made_for_each g xs e h = made_from g xs all_sites e (λ k l. h k l ∙ ap g (sym (site_in k l)))

-- one site more is looked at, and it is connected, or it isn't
pub one_linked : (links : Links) (p site : ℕ) (sites : Sites) → 0 < p → p ≤ sites_max → site ≡ (p - 1) + 1 → sites ≡ reached_among links (drop p all_sites) → not (boot_in links.boot site == 0) ≡ true → with_site sites site ≡ reached_among links (drop (p - 1) all_sites)
one_linked links p site sites a b e h t = let same : p ≡ site = omega arith in rw (site_before p a b, same) (elim (boot_in links.boot site == 0) as (λ v. not v ≡ true → with_site sites site ≡ cond v (reached_among links (drop site all_sites)) (with_site (reached_among links (drop site all_sites)) site)) [
  | true ↦ λ n. absurd (cc)
  | false ↦ λ n. rw h (ap (λ (n : ℕ). with_site (reached_among links (drop n all_sites)) site) same)
] t)

pub one_apart : (links : Links) (p site : ℕ) (sites : Sites) → 0 < p → p ≤ sites_max → site ≡ (p - 1) + 1 → sites ≡ reached_among links (drop p all_sites) → not (boot_in links.boot site == 0) ≡ false → sites ≡ reached_among links (drop (p - 1) all_sites)
one_apart links p site sites a b e h t = let same : p ≡ site = omega arith in rw (site_before p a b, same) (elim (boot_in links.boot site == 0) as (λ v. not v ≡ false → sites ≡ cond v (reached_among links (drop site all_sites)) (with_site (reached_among links (drop site all_sites)) site)) [
  | true ↦ λ n. h ∙ ap (λ (n : ℕ). reached_among links (drop n all_sites)) same
  | false ↦ λ n. absurd (cc)
] t)

-- all sites are looked at
pub all_looked : (links : Links) (p : ℕ) (sites : Sites) → p ≤ 0 → sites ≡ reached_among links (drop p all_sites) → sites ≡ reached links
all_looked links p sites h e = let none : p ≡ 0 = omega arith in e ∙ ap (λ (n : ℕ). reached_among links (drop n all_sites)) none

-- one number more is made
pub one_made : (g : ℕ → ℕ) (xs : List ℕ) (p site new : ℕ) → length xs ≡ sites_max → p < sites_max → ((k : ℕ) → k < p → get_or xs k 0 ≡ g (k + 1)) → site ≡ p + 1 → new ≡ g site → (k : ℕ) → k < p + 1 → get_or (set xs p new) k 0 ≡ g (k + 1)
one_made g xs p site new e l h s n =
    below_more _ _
    (λ k b. let ne : k ≢ p = omega arith in rw (get_or-set_other xs p k new 0 ne) (h k b))
    (let in_it : p < length xs = omega (arith, e) in rw (get_or-set_same xs p new 0 in_it) (n ∙ ap g s))
