-- The set that a round chooses, where each promise tells what its site reaches.
use Rattle.std.proofs.Common.{◌≡◌, ◌≢◌, ℕ, ◌+◌, ◌-◌, ◌≤◌, ◌==◌, nat_lt, ◌⊎◌, Bool, true, false, cond, ◌&&◌, ◌||◌, not, List, [], ◌∷◌, length, map, filter, refl, sym, ◌∙◌, ap, subst, inl, inr, arith}
use Rattle.std.proofs.lemmas.Bool.Decides.{nat_tests}
use Rattle.std.proofs.lemmas.Nat.Bits.{bit_at-zero}
use Rattle.role_steps.proofs.of_plain_facts.Numbers.{apart_test, equal, equal_self}
use Rattle.role_steps.proofs.of_plain_facts.Tests.{and_first, false_unless, or_false, or_true}
use Rattle.locus_ids.specs.Sites.{has, with_site, both}
use Rattle.locus_ids.specs.declared.sites.Sites.{Sites}
use Rattle.locus_ids.specs.declared.sites.Links.{Links}
use Rattle.locus_ids.proofs.Sets.{has-with, has-both}
use Rattle.locus_ids.specs.Sizes.{sites_max}
use Rattle.lawful_trace.specs.Orderly.{narrowed}
use Rattle.role_steps.specs.Own.{Every}
use Rattle.role_steps.specs.Tables.{with_row}
use Rattle.role_steps.specs.Views.{boot_in, all_sites}
use Rattle.role_steps.specs.Epochs.{reached, promise_site, candidates, met_by, met_by_all}
use Rattle.role_steps.specs.declared.rounds.Promise.{Promise}
use Rattle.role_steps.proofs.Counted.{CountsFrom, sites_count}
use Rattle.the_run.specs.Kept.{Among}
use Rattle.the_run.proofs.Boots.{every_weaker}
use Rattle.row_laws.proofs.Orderly.Formed.{among_next}
use Rattle.row_laws.specs.Orderly.Settling.{PromiseAbove, PromisesAscend}

-- ---- tests ----

pub and_true_right : (b : Bool) → (b && true) ≡ b
and_true_right true = refl
and_true_right false = refl

pub at_least : (n s : ℕ) → n ≤ s → (n ≡ s) ⊎ (n + 1 ≤ s)
at_least n s h = (elim (n == s) as (λ b. (n == s) ≡ b → (n ≡ s) ⊎ (n + 1 ≤ s)) [
  | true ↦ λ e. inl (equal n s e)
  | false ↦ λ e. inr (above n s h e)
]) refl
  where
    above : (n s : ℕ) → n ≤ s → (n == s) ≡ false → n + 1 ≤ s
    above n s h e = grind (arith, nat_tests)

-- ---- lists that count ----

pub counted_among : (n : ℕ) (xs : List ℕ) → CountsFrom n xs → (s : ℕ) → n ≤ s → s + 1 ≤ n + length xs → Among s xs
counted_among n [] h s low high = absurd (omega (arith, low, high))
counted_among n (x ∷ xs) h s low high = by_case (λ le. counted_among (n + 1) xs h.1 s le (omega (arith, high))) (at_least n s low)
  where
    by_case : (n + 1 ≤ s → Among s xs) → (n ≡ s) ⊎ (n + 1 ≤ s) → Among s (x ∷ xs)
    by_case f (inl e) = inl (sym e ∙ sym h.0)
    by_case f (inr le) = inr (f le)

-- ---- the sites that are connected ----

abbrev reach_among : Links → List ℕ → Sites
reach_among links [] = record { 0 = 0 }
reach_among links (s ∷ ss) = cond (boot_in links.boot s == 0) (reach_among links ss) (with_site (reach_among links ss) s)

has_none : (s : ℕ) → has (record { 0 = 0 }) s ≡ false
has_none s = rw (bit_at-zero (s - 1)) refl

reach_below : (links : Links) (n : ℕ) (xs : List ℕ) → CountsFrom n xs → (s : ℕ) → 1 ≤ s → s + 1 ≤ n → has (reach_among links xs) s ≡ false
reach_below links n [] h s low high = has_none s
reach_below links n (x ∷ xs) h s low high =
    let rest : has (reach_among links xs) s ≡ false = reach_below links (n + 1) xs h.1 s low (omega (arith, high)) in
    let e : x ≡ n = h.0 in
    elim (boot_in links.boot x == 0) as (λ b. has (cond b (reach_among links xs) (with_site (reach_among links xs) x)) s ≡ false) [
      | true ↦ rest
      | false ↦ has-with (reach_among links xs) x s (omega (arith, low, high, e)) low ∙ (ap (λ (b : Bool). b || (s == x)) rest ∙ apart_test s x (λ f. absurd (omega (arith, f, high, e))))
    ]

reach_is : (links : Links) (n : ℕ) (xs : List ℕ) → CountsFrom n xs → 1 ≤ n → (s : ℕ) → n ≤ s → s + 1 ≤ n + length xs → has (reach_among links xs) s ≡ not (boot_in links.boot s == 0)
reach_is links n [] h one s low high = absurd (omega (arith, low, high))
reach_is links n (x ∷ xs) h one s low high = by_case (λ le. reach_is links (n + 1) xs h.1 (omega arith) s le (omega (arith, high))) (at_least n s low)
  where
    first : x ≡ n
    first = h.0

    by_case : (n + 1 ≤ s → has (reach_among links xs) s ≡ not (boot_in links.boot s == 0)) → (n ≡ s) ⊎ (n + 1 ≤ s) → has (reach_among links (x ∷ xs)) s ≡ not (boot_in links.boot s == 0)
    by_case f (inl e) =
        let same : x ≡ s = first ∙ e in
        let rest : has (reach_among links xs) s ≡ false = reach_below links (n + 1) xs h.1 s (omega (arith, one, e)) (omega (arith, e)) in
        subst (λ (y : ℕ). has (cond (boot_in links.boot y == 0) (reach_among links xs) (with_site (reach_among links xs) y)) s ≡ not (boot_in links.boot s == 0)) (sym same)
        (elim (boot_in links.boot s == 0) as (λ b. has (cond b (reach_among links xs) (with_site (reach_among links xs) s)) s ≡ not b) [
          | true ↦ rest
          | false ↦ has-with (reach_among links xs) s s (omega (arith, one, e)) (omega (arith, one, e)) ∙ (ap (λ (b : Bool). has (reach_among links xs) s || b) (equal_self s) ∙ or_true (has (reach_among links xs) s))
        ])
    by_case f (inr le) =
        elim (boot_in links.boot x == 0) as (λ b. has (cond b (reach_among links xs) (with_site (reach_among links xs) x)) s ≡ not (boot_in links.boot s == 0)) [
          | true ↦ f le
          | false ↦ has-with (reach_among links xs) x s (omega (arith, one, first)) (omega (arith, one, low)) ∙ (ap (λ (b : Bool). has (reach_among links xs) s || b) (apart_test s x (λ e. absurd (omega (arith, e, le, first)))) ∙ (or_false (has (reach_among links xs) s) ∙ f le))
        ]

-- of sites 1 to 16 those are in it that are connected
pub has_reached : (links : Links) (s : ℕ) → 1 ≤ s → s ≤ sites_max → has (reached links) s ≡ not (boot_in links.boot s == 0)
has_reached links s low high = reach_is links 1 all_sites sites_count (omega arith) s low (omega (arith, high))

-- ---- candidates ----

-- some promise is of the site
abbrev pub promised_by : List Promise → ℕ → Bool
promised_by [] s = false
promised_by (p ∷ ps) s = (p.site == s) || promised_by ps s

abbrev pub ReachesBack : ℕ → Promise → Type 0
ReachesBack me p = (has p.reach me ≡ true) × (1 ≤ p.site)

or_swap : (a b c : Bool) → ((a || b) || c) ≡ (a || (c || b))
or_swap true true true = refl
or_swap true true false = refl
or_swap true false true = refl
or_swap true false false = refl
or_swap false true true = refl
or_swap false true false = refl
or_swap false false true = refl
or_swap false false false = refl

test_swap : (a b : ℕ) → (a == b) ≡ (b == a)
test_swap a b = grind (arith, nat_tests)

pub has_candidate : (me : ℕ) (ps : List Promise) → 1 ≤ me → Every (ReachesBack me) ps → (s : ℕ) → 1 ≤ s → has (candidates me ps) s ≡ ((s == me) || promised_by ps s)
has_candidate me [] one h s low = has-with (record { 0 = 0 }) me s one low ∙ (ap (λ (b : Bool). b || (s == me)) (has_none s) ∙ sym (or_false (s == me)))
has_candidate me (p ∷ ps) one h s low =
    subst (λ (b : Bool). has (cond b (with_site (candidates me ps) p.site) (candidates me ps)) s ≡ ((s == me) || ((p.site == s) || promised_by ps s))) (sym h.0.0)
    (has-with (candidates me ps) p.site s h.0.1 low ∙ (ap (λ (b : Bool). b || (s == p.site)) (has_candidate me ps one h.1 s low) ∙ (or_swap (s == me) (promised_by ps s) (s == p.site) ∙ ap (λ (b : Bool). (s == me) || (b || promised_by ps s)) (test_swap s p.site))))

-- ---- the set that is met ----

-- each promise of the list tells what its site reaches
abbrev pub Tells : (ℕ → ℕ → Bool) → Promise → Type 0
Tells reach p = (p.site ≤ sites_max) × ((s : ℕ) → 1 ≤ s → s ≤ sites_max → has p.reach s ≡ reach p.site s)

-- a site that is in the set and not below has promised
abbrev HavePromised : ℕ → (ℕ → Bool) → List Promise → Type 0
HavePromised n set ps = (s : ℕ) → n ≤ s → s ≤ sites_max → set s ≡ true → Among s (map promise_site ps)

abbrev pub FromOn : ℕ → Promise → Type 0
FromOn n p = n ≤ p.site

skip : (a b : Bool) → a ≡ (a && (not false || b))
skip true b = refl
skip false b = refl

site_among : (s : ℕ) (ps : List Promise) (n : ℕ) → Every (FromOn n) ps → Among s (map promise_site ps) → n ≤ s
site_among s [] n h a = absurd a
site_among s (p ∷ ps) n h (inl e) = let k : n ≤ p.site = h.0 in omega (arith, e, k)
site_among s (p ∷ ps) n h (inr a) = site_among s ps n h.1 a

up_from : (n : ℕ) (ps : List Promise) → Every (PromiseAbove n) ps → Every (FromOn (n + 1)) ps
up_from n ps h = every_weaker (PromiseAbove n) (FromOn (n + 1)) ps (λ p k. k) h

pub met_is : (reach : ℕ → ℕ → Bool) (n : ℕ) (xs : List ℕ) → CountsFrom n xs → 1 ≤ n → n + length xs ≡ sites_max + 1 → (set : Sites) (f : ℕ → Bool) (ps : List Promise) → PromisesAscend ps → Every (FromOn n) ps → Every (Tells reach) ps → HavePromised n f ps →
    ((s : ℕ) → 1 ≤ s → s ≤ sites_max → has set s ≡ f s) → (s : ℕ) → 1 ≤ s → s ≤ sites_max → has (met_by_all set ps) s ≡ narrowed reach f xs s
met_is reach n [] h one end set f [] up low t q same s a b = same s a b
met_is reach n [] h one end set f (p ∷ ps) up low t q same s a b = absurd (no_more p.site low.0 t.0.0)
  where
    no_more : (x : ℕ) → n ≤ x → x ≤ sites_max → ⊥
    no_more x le u = omega (arith, le, u, end)
met_is reach n (x ∷ xs) h one end set f [] up low t q same s a b =
    met_is reach (n + 1) xs h.1 (omega arith) (omega (arith, end)) set (λ y. f y && (not (f x) || reach x y)) [] tt tt tt
    (λ y le hi g. q y (omega (arith, le)) hi (and_first (f y) _ g))
    (λ y c d. same y c d ∙ passed y) s a b
  where
    out : f x ≡ false
    out = false_unless (f x) (λ g. q x (let e : x ≡ n = h.0 in omega (arith, e)) (let e : x ≡ n = h.0 in omega (arith, e, end)) g)

    passed : (y : ℕ) → f y ≡ (f y && (not (f x) || reach x y))
    passed y = skip (f y) (reach x y) ∙ ap (λ (c : Bool). f y && (not c || reach x y)) (sym out)
met_is reach n (x ∷ xs) h one end set f (p ∷ ps) up low t q same s a b =
    by_case (at_least n p.site low.0)
    (λ e. met_is reach (n + 1) xs h.1 (omega arith) (omega (arith, end)) (met_by set p) (λ y. f y && (not (f x) || reach x y)) ps up.1 (subst (λ (k : ℕ). Every (FromOn (k + 1)) ps) (sym e) (up_from p.site ps up.0)) t.1
    (λ y le hi g. later e y le (q y (omega (arith, le)) hi (and_first (f y) _ g))) (met e) s a b)
    (λ le. met_is reach (n + 1) xs h.1 (omega arith) (omega (arith, end)) set (λ y. f y && (not (f x) || reach x y)) (p ∷ ps) up (le, above le ps up.0) t
    (λ y k hi g. q y (omega (arith, k)) hi (and_first (f y) _ g)) (λ y c d. same y c d ∙ passed le y) s a b)
  where
    by_case : (n ≡ p.site) ⊎ (n + 1 ≤ p.site) → (n ≡ p.site → has (met_by_all (met_by set p) ps) s ≡ narrowed reach (λ y. f y && (not (f x) || reach x y)) xs s) → (n + 1 ≤ p.site → has (met_by_all set (p ∷ ps)) s ≡ narrowed reach (λ y. f y && (not (f x) || reach x y)) xs s) → has (met_by_all set (p ∷ ps)) s ≡ narrowed reach f (x ∷ xs) s
    by_case (inl e) g k = g e
    by_case (inr le) g k = k le

    first : x ≡ n
    first = h.0

    later : n ≡ p.site → (y : ℕ) → n + 1 ≤ y → Among y (map promise_site (p ∷ ps)) → Among y (map promise_site ps)
    later e y le (inl k) = absurd (omega (arith, le, k, e))
    later e y le (inr k) = k

    met : n ≡ p.site → (y : ℕ) → 1 ≤ y → y ≤ sites_max → has (met_by set p) y ≡ (f y && (not (f x) || reach x y))
    met e y c d =
        let is_x : x ≡ p.site = first ∙ e in
        let mine : has set p.site ≡ f x = same p.site (omega (arith, one, e)) (omega (arith, e, end)) ∙ ap f (sym is_x) in
        subst (λ (k : Bool). has (cond k (both set p.reach) set) y ≡ (f y && (not (f x) || reach x y))) (sym mine)
        (elim (f x) as (λ k. has (cond k (both set p.reach) set) y ≡ (f y && (not k || reach x y))) [
          | true ↦ has-both set p.reach y ∙ (ap (λ (k : Bool). k && has p.reach y) (same y c d) ∙ ap (λ (k : Bool). f y && k) (t.0.1 y c d ∙ ap (λ (k : ℕ). reach k y) (sym is_x)))
          | false ↦ same y c d ∙ skip (f y) (reach x y)
        ])

    above : n + 1 ≤ p.site → (qs : List Promise) → Every (PromiseAbove p.site) qs → Every (FromOn (n + 1)) qs
    above le qs g = every_weaker (PromiseAbove p.site) (FromOn (n + 1)) qs (λ r k. omega (arith, k, le)) g

    none : n + 1 ≤ p.site → Among x (map promise_site (p ∷ ps)) → ⊥
    none le k = absurd (let c : n + 1 ≤ x = site_among x (p ∷ ps) (n + 1) (le, above le ps up.0) k in omega (arith, c, first))

    passed : n + 1 ≤ p.site → (y : ℕ) → f y ≡ (f y && (not (f x) || reach x y))
    passed le y = skip (f y) (reach x y) ∙ ap (λ (c : Bool). f y && (not c || reach x y)) (sym (false_unless (f x) (λ g. none le (q x (omega (arith, first)) (omega (arith, first, end)) g))))

-- ---- promises in order ----

less_up : (a b : ℕ) → nat_lt a b ≡ true → a + 1 ≤ b
less_up a b e = grind (arith, nat_tests)

not_less : (a b : ℕ) → nat_lt a b ≡ false → (a == b) ≡ false → b + 1 ≤ a
not_less a b e f = grind (arith, nat_tests)

every_row : (P : Promise → Type 0) (p : Promise) (ps : List Promise) → P p → Every P ps → Every P (with_row promise_site p ps)
every_row P p [] h g = (h, tt)
every_row P p (q ∷ qs) h g =
    elim (nat_lt (promise_site q) (promise_site p)) as (λ b. Every P (elim b [ true ↦ q ∷ with_row promise_site p qs | false ↦ elim (promise_site q == promise_site p) [ true ↦ p ∷ qs | false ↦ p ∷ q ∷ qs ] ])) [
      | true ↦ (g.0, every_row P p qs h g.1)
      | false ↦ elim (promise_site q == promise_site p) as (λ b. Every P (elim b [ true ↦ p ∷ qs | false ↦ p ∷ q ∷ qs ])) [ true ↦ (h, g.1) | false ↦ (h, g) ]
    ]

pub row_every : (P : Promise → Type 0) (p : Promise) (ps : List Promise) → P p → Every P ps → Every P (with_row promise_site p ps)
row_every P p ps h g = every_row P p ps h g

pub row_ascends : (p : Promise) (ps : List Promise) → PromisesAscend ps → PromisesAscend (with_row promise_site p ps)
row_ascends p [] h = (tt, tt)
row_ascends p (q ∷ qs) h =
    (elim (nat_lt q.site p.site) as (λ b. nat_lt q.site p.site ≡ b → PromisesAscend (elim b [ true ↦ q ∷ with_row promise_site p qs | false ↦ elim (promise_site q == promise_site p) [ true ↦ p ∷ qs | false ↦ p ∷ q ∷ qs ] ])) [
      | true ↦ λ e. (every_row (PromiseAbove q.site) p qs (less_up q.site p.site e) h.0, row_ascends p qs h.1)
      | false ↦ λ e. (elim (q.site == p.site) as (λ b. (q.site == p.site) ≡ b → PromisesAscend (elim b [ true ↦ p ∷ qs | false ↦ p ∷ q ∷ qs ])) [
        | true ↦ λ f. (subst (λ (k : ℕ). Every (PromiseAbove k) qs) (equal q.site p.site f) h.0, h.1)
        | false ↦ λ f. ((not_less q.site p.site e f, every_weaker (PromiseAbove q.site) (PromiseAbove p.site) qs (λ r k. (let le : p.site + 1 ≤ q.site = not_less q.site p.site e f in omega (arith, k, le))) h.0), h)
      ]) refl
    ]) refl

-- the row is there, and each other one stays, or is of its site
pub row_here : (p : Promise) (ps : List Promise) → Among p (with_row promise_site p ps)
row_here p [] = inl refl
row_here p (q ∷ qs) =
    elim (nat_lt (promise_site q) (promise_site p)) as (λ b. Among p (elim b [ true ↦ q ∷ with_row promise_site p qs | false ↦ elim (promise_site q == promise_site p) [ true ↦ p ∷ qs | false ↦ p ∷ q ∷ qs ] ])) [
      | true ↦ inr (row_here p qs)
      | false ↦ elim (promise_site q == promise_site p) as (λ b. Among p (elim b [ true ↦ p ∷ qs | false ↦ p ∷ q ∷ qs ])) [ true ↦ inl refl | false ↦ inl refl ]
    ]

pub row_keeps : (p r : Promise) (ps : List Promise) → Among r ps → (r.site ≡ p.site → ⊥) → Among r (with_row promise_site p ps)
row_keeps p r [] a ne = absurd a
row_keeps p r (q ∷ qs) a ne =
    elim (nat_lt (promise_site q) (promise_site p)) as (λ b. Among r (elim b [ true ↦ q ∷ with_row promise_site p qs | false ↦ elim (promise_site q == promise_site p) [ true ↦ p ∷ qs | false ↦ p ∷ q ∷ qs ] ])) [
      | true ↦ among_next r q qs (with_row promise_site p qs) (λ k. row_keeps p r qs k ne) a
      | false ↦ (elim (q.site == p.site) as (λ b. (q.site == p.site) ≡ b → Among r (elim b [ true ↦ p ∷ qs | false ↦ p ∷ q ∷ qs ])) [
        | true ↦ λ e. replaced e a
        | false ↦ λ e. inr a
      ]) refl
    ]
  where
    replaced : (q.site == p.site) ≡ true → Among r (q ∷ qs) → Among r (p ∷ qs)
    replaced e (inl k) = absurd (ne (ap (λ (y : Promise). y.site) k ∙ equal q.site p.site e))
    replaced e (inr k) = inr k

pub filter_every : {A : Type 0} (P : A → Type 0) (test : A → Bool) (xs : List A) → Every P xs → Every P (filter test xs)
filter_every P test [] h = tt
filter_every P test (x ∷ xs) h = elim (test x) as (λ b. Every P (cond b (x ∷ filter test xs) (filter test xs))) [ true ↦ (h.0, filter_every P test xs h.1) | false ↦ filter_every P test xs h.1 ]

pub filter_ascends : (test : Promise → Bool) (ps : List Promise) → PromisesAscend ps → PromisesAscend (filter test ps)
filter_ascends test [] h = tt
filter_ascends test (p ∷ ps) h = elim (test p) as (λ b. PromisesAscend (cond b (p ∷ filter test ps) (filter test ps))) [ true ↦ (filter_every (PromiseAbove p.site) test ps h.0, filter_ascends test ps h.1) | false ↦ filter_ascends test ps h.1 ]
