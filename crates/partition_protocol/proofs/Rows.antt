-- Promises as rows, and as they stand at the places of their sites.
use Rattle.std.proofs.Common.{◌≡◌, ◌≢◌, ◌<◌, ◌≤◌, ◌+◌, ◌==◌, not, cond, true, false, Bool, ℕ, zero, suc, List, [], ◌∷◌, Option, None, Some, length, drop, filter, get_or, set, refl, sym, ap, ◌∙◌, arith, add-zero, nat_eq, nat_lt, ◌&&◌, inl, inr, subst, slice_get, get_or-set_other, get_or-set_same, below_more}
use Rattle.std.proofs.Math.ListN.{length-set}
use Rattle.locus_ids.specs.Sizes.{sites_max}
use Rattle.epoch_rules.proofs.of_role_steps.Numbers.{next_site}
use Rattle.std.specs.List.{list_any}
use Rattle.locus_ids.proofs.Sets.{has-both}
use Rattle.std.proofs.lemmas.Bool.Decides.{nat_tests}
use Rattle.epoch_rules.proofs.of_plain_facts.Numbers.{differ_test, less_test, not_less_test, same_test}
use Rattle.epoch_rules.proofs.of_plain_facts.Tests.{both_true}
use Rattle.locus_ids.specs.Sites.{has, both}
use Rattle.locus_ids.specs.declared.sites.Links.{Links}
use Rattle.locus_ids.specs.declared.sites.Sites.{Sites}
use Rattle.epoch_rules.specs.of_role_steps.Tables.{with_row}
use Rattle.epoch_rules.specs.of_role_steps.Views.{boot_in, all_sites}
use Rattle.epoch_rules.specs.of_role_steps.Epochs.{promise_site, is_polled, met_by, met_by_all, unanswered, polled_sites}
use Rattle.epoch_rules.specs.of_role_steps.declared.rounds.Round.{Round}
use Rattle.epoch_rules.specs.of_role_steps.declared.rounds.Promise.{Promise}
use Rattle.partition_protocol.specs.Promising.{promises_from, is_missing, Among}

pub put_front : {A : Type 0} (key : A → ℕ) (x y : A) (ys : List A) → key x < key y → with_row key x (y ∷ ys) ≡ x ∷ y ∷ ys
put_front key x y ys h = rw (not_less_test (key y) (key x) (omega arith), with_row) (rw (differ_test (key y) (key x) (omega arith), with_row) refl)

put_here : {A : Type 0} (key : A → ℕ) (x y : A) (ys : List A) → key y ≡ key x → with_row key x (y ∷ ys) ≡ x ∷ ys
put_here key x y ys h = rw (not_less_test (key y) (key x) (omega arith), with_row) (rw (same_test (key y) (key x) h, with_row) refl)

put_after : {A : Type 0} (key : A → ℕ) (x y : A) (ys : List A) → key y < key x → with_row key x (y ∷ ys) ≡ y ∷ with_row key x ys
put_after key x y ys h = rw (less_test (key y) (key x) h, with_row) refl

abbrev promised : ℕ → Sites → Promise
promised site reach = record { site = site; reach = reach }

-- a promise of a lower site comes before all
first_put : (m n : ℕ) (reach : Sites) (xs : List (Option Sites)) → m < n → with_row promise_site (record { site = m; reach = reach }) (promises_from n xs) ≡ record { site = m; reach = reach } ∷ promises_from n xs
first_put m n reach [] h = refl
first_put m n reach (None ∷ xs) h = first_put m (n + 1) reach xs (omega arith)
first_put m n reach (Some q ∷ xs) h = put_front promise_site (promised m reach) (promised n q) (promises_from (n + 1) xs) h

-- a promise is put at the place of its site
pub put_at : (n site : ℕ) (reach : Sites) (xs : List (Option Sites)) (i : ℕ) → i < length xs → site ≡ n + i → promises_from n (set xs i (Some reach)) ≡ with_row promise_site (record { site = site; reach = reach }) (promises_from n xs)
put_at n site reach [] i l e = absurd (omega arith)
put_at n site reach (None ∷ xs) zero l e = let same : site ≡ n = omega arith in rw same (sym (first_put n (n + 1) reach xs (omega arith)))
put_at n site reach (Some q ∷ xs) zero l e = let same : site ≡ n = omega arith in rw same (sym (put_here promise_site (promised n reach) (promised n q) (promises_from (n + 1) xs) refl))
put_at n site reach (None ∷ xs) (suc i) l e = put_at (n + 1) site reach xs i (omega arith) (omega arith)
put_at n site reach (Some q ∷ xs) (suc i) l e = ap (λ (ps : List Promise). promised n q ∷ ps) (put_at (n + 1) site reach xs i (omega arith) (omega arith)) ∙ sym (put_after promise_site (promised site reach) (promised n q) (promises_from (n + 1) xs) (omega arith))

-- no row is of a lower site
none_below : (s n : ℕ) (xs : List (Option Sites)) → s < n → list_any (λ (p : Promise). p.site == s) (promises_from n xs) ≡ false
none_below s n [] h = refl
none_below s n (None ∷ xs) h = none_below s (n + 1) xs (omega arith)
none_below s n (Some q ∷ xs) h = rw (differ_test n s (omega arith)) (none_below s (n + 1) xs (omega arith))

-- a site has promised where something stands at its place
pub none_at : (n s : ℕ) (xs : List (Option Sites)) (i : ℕ) → i < length xs → s ≡ n + i → get_or xs i None ≡ None → list_any (λ (p : Promise). p.site == s) (promises_from n xs) ≡ false
none_at n s [] i l e g = absurd (omega arith)
none_at n s (None ∷ xs) zero l e g = none_below s (n + 1) xs (omega arith)
none_at n s (Some q ∷ xs) zero l e g = absurd (cc)
none_at n s (None ∷ xs) (suc i) l e g = none_at (n + 1) s xs i (omega arith) (omega arith) g
none_at n s (Some q ∷ xs) (suc i) l e g = rw (differ_test n s (omega arith)) (none_at (n + 1) s xs i (omega arith) (omega arith) g)

pub some_at : (n s : ℕ) (reach : Sites) (xs : List (Option Sites)) (i : ℕ) → i < length xs → s ≡ n + i → get_or xs i None ≡ Some reach → list_any (λ (p : Promise). p.site == s) (promises_from n xs) ≡ true
some_at n s reach [] i l e g = absurd (omega arith)
some_at n s reach (None ∷ xs) zero l e g = absurd (cc)
some_at n s reach (Some q ∷ xs) zero l e g = rw (same_test n s (omega arith)) refl
some_at n s reach (None ∷ xs) (suc i) l e g = some_at (n + 1) s reach xs i (omega arith) (omega arith) g
some_at n s reach (Some q ∷ xs) (suc i) l e g = rw (differ_test n s (omega arith)) (some_at (n + 1) s reach xs i (omega arith) (omega arith) g)

-- what a site promised that isn't polled counts for nothing
pub dropped_at : (polled : Links) (n s : ℕ) (xs : List (Option Sites)) (i : ℕ) → i < length xs → s ≡ n + i → (boot_in polled.boot s == 0) ≡ true → filter (is_polled polled) (promises_from n (set xs i None)) ≡ filter (is_polled polled) (promises_from n xs)
dropped_at polled n s [] i l e h = absurd (omega arith)
dropped_at polled n s (None ∷ xs) zero l e h = refl
dropped_at polled n s (Some q ∷ xs) zero l e h = let same : n ≡ s = omega arith in rw (same, h) refl
dropped_at polled n s (None ∷ xs) (suc i) l e h = dropped_at polled (n + 1) s xs i (omega arith) (omega arith) h
dropped_at polled n s (Some q ∷ xs) (suc i) l e h = elim (boot_in polled.boot n == 0) as (λ b. filter (is_polled polled) (promises_from (n + 1) (set xs i None)) ≡ filter (is_polled polled) (promises_from (n + 1) xs) → cond (not b) (promised n q ∷ filter (is_polled polled) (promises_from (n + 1) (set xs i None))) (filter (is_polled polled) (promises_from (n + 1) (set xs i None))) ≡ cond (not b) (promised n q ∷ filter (is_polled polled) (promises_from (n + 1) xs)) (filter (is_polled polled) (promises_from (n + 1) xs))) [
  | true ↦ λ r. r
  | false ↦ λ r. ap (λ (ps : List Promise). promised n q ∷ ps) r
] (dropped_at polled (n + 1) s xs i (omega arith) (omega arith) h)

-- where all that stands is of polled sites, all of it is kept
pub all_kept : (polled : Links) (n : ℕ) (xs : List (Option Sites)) → ((k : ℕ) → k < length xs → (boot_in polled.boot (n + k) == 0) ≡ true → get_or xs k None ≡ None) → filter (is_polled polled) (promises_from n xs) ≡ promises_from n xs
all_kept polled n [] h = refl
all_kept polled n (None ∷ xs) h = all_kept polled (n + 1) xs (λ k l z. h (suc k) (omega arith) (let same : n + suc k ≡ (n + 1) + k = omega arith in rw same z))
all_kept polled n (Some q ∷ xs) h = elim (boot_in polled.boot n == 0) as (λ b. (b ≡ true → ◌≡◌ {A = Option Sites} (Some q) None) → filter (is_polled polled) (promises_from (n + 1) xs) ≡ promises_from (n + 1) xs → cond (not b) (promised n q ∷ filter (is_polled polled) (promises_from (n + 1) xs)) (filter (is_polled polled) (promises_from (n + 1) xs)) ≡ promised n q ∷ promises_from (n + 1) xs) [
  | true ↦ λ g r. absurd (let f = g refl in cc)
  | false ↦ λ g r. ap (λ (ps : List Promise). promised n q ∷ ps) r
] (λ z. h 0 (omega arith) (rw add-zero z)) (all_kept polled (n + 1) xs (λ k l z. h (suc k) (omega arith) (let same : n + suc k ≡ (n + 1) + k = omega arith in rw same z)))

-- ---- the promises of polled sites, place by place ----

pub record Kept (polled : Links) (xs kept : List (Option Sites)) (place : ℕ) : Type 0 where
  pub whole : length kept ≡ sites_max
  pub same : filter (is_polled polled) (promises_from 1 kept) ≡ filter (is_polled polled) (promises_from 1 xs)
  pub dropped : (k : ℕ) → k < place → (boot_in polled.boot (k + 1) == 0) ≡ true → get_or kept k None ≡ None

pub Kept-drop : (polled : Links) (xs kept : List (Option Sites)) (place site : ℕ) → place < sites_max → site ≡ place + 1 → not (not (boot_in polled.boot site == 0)) ≡ true → Kept polled xs kept place → Kept polled xs (set kept place None) (place + 1)
Kept-drop polled xs kept place site l e h k = record {
  whole = length-set kept place None ∙ k.whole;
  same = dropped_at polled 1 site kept place (omega (arith, k.whole)) (omega arith) (twice_not (boot_in polled.boot site == 0) h) ∙ k.same;
  dropped = below_more _ _
      (λ i b z. let ne : i ≢ place = omega arith in rw (get_or-set_other kept place i None None ne) (k.dropped i b z))
      (λ z. let in_it : place < length kept = omega (arith, k.whole) in get_or-set_same kept place None None in_it);
} where
  twice_not : (b : Bool) → not (not b) ≡ true → b ≡ true
  twice_not true g = refl
  twice_not false g = absurd (cc)

pub Kept-keep : (polled : Links) (xs kept : List (Option Sites)) (place site : ℕ) → place < sites_max → site ≡ place + 1 → not (not (boot_in polled.boot site == 0)) ≡ false → Kept polled xs kept place → Kept polled xs kept (place + 1)
Kept-keep polled xs kept place site l e h k = record {
  whole = k.whole;
  same = k.same;
  dropped = below_more _ _ k.dropped (λ z. absurd (is_not z));
} where
  is_not : (boot_in polled.boot (place + 1) == 0) ≡ true → ⊥
  is_not z = let linked : not (not (boot_in polled.boot site == 0)) ≡ true = rw (e, z) refl in cc

pub Kept-all : (polled : Links) (xs kept : List (Option Sites)) (place : ℕ) → sites_max ≤ place → Kept polled xs kept place → promises_from 1 kept ≡ filter (is_polled polled) (promises_from 1 xs)
Kept-all polled xs kept place l k = sym (all_kept polled 1 kept (λ i b z. k.dropped i (omega (arith, k.whole)) (let same : i + 1 ≡ 1 + i = omega arith in rw same z))) ∙ k.same

-- ---- whether some site passes ----

pub none_passes : (p : ℕ → Bool) (place site : ℕ) (all : List ℕ) → place < sites_max → site ≡ place + 1 → p site ≡ false → filter p (drop place all_sites) ≡ all → filter p (drop (place + 1) all_sites) ≡ all
none_passes p place site all l e f h = step (subst (λ (xs : List ℕ). filter p xs ≡ all) (next_site place l) h) where
  step : filter p ((place + 1) ∷ drop (place + 1) all_sites) ≡ all → filter p (drop (place + 1) all_sites) ≡ all
  step g = let no : p (place + 1) ≡ false = subst (λ n. p n ≡ false) e f in subst (λ (b : Bool). cond b ((place + 1) ∷ filter p (drop (place + 1) all_sites)) (filter p (drop (place + 1) all_sites)) ≡ all) no g

pub one_passes : (p : ℕ → Bool) (place site : ℕ) (all : List ℕ) → place < sites_max → site ≡ place + 1 → p site ≡ true → filter p (drop place all_sites) ≡ all → all ≡ [] → ⊥
one_passes p place site all l e t h n = step (subst (λ (xs : List ℕ). filter p xs ≡ all) (next_site place l) h) where
  step : filter p ((place + 1) ∷ drop (place + 1) all_sites) ≡ all → ⊥
  step g = let yes : p (place + 1) ≡ true = subst (λ n. p n ≡ true) e t in
      let more : (place + 1) ∷ filter p (drop (place + 1) all_sites) ≡ all = subst (λ (b : Bool). cond b ((place + 1) ∷ filter p (drop (place + 1) all_sites)) (filter p (drop (place + 1) all_sites)) ≡ all) yes g in cc

pub all_passed : (p : ℕ → Bool) (place : ℕ) (all : List ℕ) → sites_max ≤ place → place ≤ sites_max → filter p (drop place all_sites) ≡ all → all ≡ []
all_passed p place all l m h = let same : place ≡ sites_max = omega arith in sym (subst (λ n. filter p (drop n all_sites) ≡ all) same h)

-- ---- whoever is left reaches all that are left ----

has_both : (a b : Sites) (s : ℕ) → has (both a b) s ≡ true → (has a s ≡ true) × (has b s ≡ true)
has_both a b s h = both_true (has a s) (has b s) (sym (has-both a b s) ∙ h)

-- a set that is met loses sites alone
met_loses : (set : Sites) (p : Promise) (s : ℕ) → has (met_by set p) s ≡ true → has set s ≡ true
met_loses set p s h = elim (has set p.site) as (λ b. has (cond b (both set p.reach) set) s ≡ true → has set s ≡ true) [
  | true ↦ λ g. (has_both set p.reach s g).0
  | false ↦ λ g. g
] h

-- and keeps only what the site reaches, where that is in it
met_reaches : (set : Sites) (p : Promise) (s : ℕ) → has set p.site ≡ true → has (met_by set p) s ≡ true → has p.reach s ≡ true
met_reaches set p s t h = (has_both set p.reach s (subst (λ (b : Bool). has (cond b (both set p.reach) set) s ≡ true) t h)).1

-- a set only loses sites
only_loses : (set : Sites) (ps : List Promise) (s : ℕ) → has (met_by_all set ps) s ≡ true → has set s ≡ true
only_loses set [] s h = h
only_loses set (p ∷ ps) s h = met_loses set p s (only_loses (met_by set p) ps s h)

-- what stands at a place, as a row
pub row_at : (n i : ℕ) (reach : Sites) (xs : List (Option Sites)) → slice_get xs i ≡ Some (Some reach) → Among (record { site = n + i; reach = reach }) (promises_from n xs)
row_at n i reach [] e = absurd (cc)
row_at n zero reach (None ∷ xs) e = absurd (cc)
row_at n zero reach (Some q ∷ xs) e = let same : q ≡ reach = cc in rw add-zero (inl (ap (λ (r : Sites). promised n r) (sym same)))
row_at n (suc i) reach (None ∷ xs) e = let same : (n + 1) + i ≡ n + suc i = omega arith in subst (λ (k : ℕ). Among (promised k reach) (promises_from (n + 1) xs)) same (row_at (n + 1) i reach xs e)
row_at n (suc i) reach (Some q ∷ xs) e = let same : (n + 1) + i ≡ n + suc i = omega arith in inr (subst (λ (k : ℕ). Among (promised k reach) (promises_from (n + 1) xs)) same (row_at (n + 1) i reach xs e))

-- who promised and is left reaches all that are left
pub all_reached_by : (set : Sites) (p : Promise) (ps : List Promise) (s : ℕ) → Among p ps → has (met_by_all set ps) p.site ≡ true → has (met_by_all set ps) s ≡ true → has p.reach s ≡ true
all_reached_by set p [] s a h g = absurd a
all_reached_by set p (q ∷ ps) s (inl e) h g = subst (λ (r : Promise). has r.reach s ≡ true) (sym e) (met_reaches set q s (only_loses set (q ∷ ps) q.site (subst (λ (r : Promise). has (met_by_all (met_by set q) ps) r.site ≡ true) e h)) (only_loses (met_by set q) ps s g))
all_reached_by set p (q ∷ ps) s (inr a) h g = all_reached_by (met_by set q) p ps s a h g

-- the set that is left when all sites have been asked
pub left_is : (left set : Sites) (xs : List (Option Sites)) (place : ℕ) → sites_max ≤ place → place ≤ sites_max → length xs ≡ sites_max → met_by_all left (promises_from (place + 1) (drop place xs)) ≡ met_by_all set (promises_from 1 xs) → (a b : ℕ) (reach : Sites) → slice_get xs a ≡ Some (Some reach) → has left (a + 1) ≡ true → has left b ≡ true → has reach b ≡ true
left_is left set xs place l m n h a b reach e f g =
    let end : place ≡ sites_max = omega arith in
    let none : drop place xs ≡ [] = all_dropped place xs (omega arith) in
    let last : left ≡ met_by_all set (promises_from 1 xs) = subst (λ (ys : List (Option Sites)). met_by_all left (promises_from (place + 1) ys) ≡ met_by_all set (promises_from 1 xs)) none h in
    let site : a + 1 ≡ 1 + a = omega arith in
    all_reached_by set (promised (1 + a) reach) (promises_from 1 xs) b (row_at 1 a reach xs e) (subst (λ (s : Sites). has s (1 + a) ≡ true) last (subst (λ n. has left n ≡ true) site f)) (subst (λ (s : Sites). has s b ≡ true) last g)
  where
    all_dropped : (n : ℕ) (ys : List (Option Sites)) → length ys ≤ n → drop n ys ≡ []
    all_dropped zero [] q = refl
    all_dropped (suc n) [] q = refl
    all_dropped zero (y ∷ ys) q = absurd (omega arith)
    all_dropped (suc n) (y ∷ ys) q = all_dropped n ys (omega arith)

-- those that pass one test and then another pass both
pub pass_both : (p q : ℕ → Bool) (xs : List ℕ) → filter q (filter p xs) ≡ filter (λ s. p s && q s) xs
pass_both p q [] = refl
pass_both p q (x ∷ xs) = elim (p x) as (λ b. filter q (filter p xs) ≡ filter (λ s. p s && q s) xs → filter q (cond b (x ∷ filter p xs) (filter p xs)) ≡ cond (b && q x) (x ∷ filter (λ s. p s && q s) xs) (filter (λ s. p s && q s) xs)) [
  | true ↦ λ r. ap (λ (ys : List ℕ). cond (q x) (x ∷ ys) ys) r
  | false ↦ λ r. r
] (pass_both p q xs)

-- the promises that are missing are those of the polled sites that haven't promised
pub missing_unanswered : (r : Round) (xs : List (Option Sites)) → promises_from 1 xs ≡ r.promises → filter (is_missing r.polled xs) all_sites ≡ unanswered r
missing_unanswered r xs e =
    sym (ap (λ (ps : List Promise). filter (λ s. not (list_any (λ (p : Promise). p.site == s) ps)) (polled_sites r.polled)) (sym e)
    ∙ pass_both (λ s. not (boot_in r.polled.boot s == 0)) (λ s. not (list_any (λ (p : Promise). p.site == s) (promises_from 1 xs))) all_sites)
