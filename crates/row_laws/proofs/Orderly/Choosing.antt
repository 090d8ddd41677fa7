-- A round whose answers all tell what their sites reach has its chosen set decided as it is defined.
use Rattle.std.proofs.Common.{◌≡◌, ◌≢◌, ℕ, zero, suc, ◌+◌, ◌≤◌, ◌==◌, nat_le, ◌⊎◌, Bool, true, false, cond, ◌&&◌, ◌||◌, not, List, [], ◌∷◌, map, refl, sym, ◌∙◌, ap, subst, inl, inr, arith, ◌<◌}
use Rattle.std.proofs.lemmas.Bool.Decides.{nat_tests}
use Rattle.std.specs.List.{list_any}
use Rattle.role_steps.proofs.of_plain_facts.Numbers.{not_zero, not_zero_test, equal as test_equal}
use Rattle.role_steps.proofs.of_plain_facts.Tests.{same_truth}
use Rattle.locus_ids.specs.Sites.{has, both}
use Rattle.locus_ids.specs.declared.sites.Sites.{Sites}
use Rattle.locus_ids.specs.declared.sites.Links.{Links}
use Rattle.locus_ids.proofs.Sets.{has-both}
use Rattle.locus_ids.specs.Sizes.{sites_max}
use Rattle.role_steps.specs.Own.{Every}
use Rattle.role_steps.specs.Views.{SiteView, boot_in, all_sites}
use Rattle.role_steps.specs.Epochs.{reached, polled_sites, promise_site, passed_over, has_promised, unanswered, candidates, all_promises, chosen_set, polled_boot, member_boot, left_boot}
use Rattle.role_steps.specs.declared.rounds.Promise.{Promise}
use Rattle.role_steps.specs.declared.rounds.Round.{Round}
use Rattle.role_steps.proofs.Counted.{sites_count}
use Rattle.the_run.specs.Kept.{Among}
use Rattle.the_run.specs.Worlds.{World, links_of}
use Rattle.the_run.proofs.Boots.{every_weaker}
use Rattle.run_laws.specs.Epochs.Known.{Places}
use Rattle.run_laws.proofs.Epochs.Boots.{boot_there, boot_nowhere}
use Rattle.row_laws.specs.Orderly.Rounded.{members_of}
use Rattle.row_laws.specs.Orderly.Settling.{Starts, boot_at, reaches, is_asked, is_chosen, AreApart, Taken, IsTrue, PromisesAscend, asked_boot}
use Rattle.row_laws.proofs.Orderly.Chosen.{and_true_right, counted_among, has_reached, promised_by, ReachesBack, has_candidate, Tells, FromOn, met_is, row_every, row_ascends, row_here, row_keeps}
use Rattle.row_laws.proofs.Orderly.Places.{link_boot, link_back, link_sized}
use Rattle.row_laws.proofs.Orderly.Rounded.{among_map, among_filter}

-- ---- which numbers are sites ----

pub site_low : (boots : List ℕ) (t : ℕ) → boot_in boots t ≢ 0 → 1 ≤ t
site_low boots zero h = absurd (h refl)
site_low boots (suc t) h = omega arith

pub site_high : (boot t : ℕ) → boot ≢ 0 → (sites_max < t → boot ≡ 0) → t ≤ sites_max
site_high boot t some sized = (elim (nat_le t sites_max) as (λ b. nat_le t sites_max ≡ b → t ≤ sites_max) [
  | true ↦ λ e. low t e
  | false ↦ λ e. absurd (some (sized (high t e)))
]) refl
  where
    low : (t : ℕ) → nat_le t sites_max ≡ true → t ≤ sites_max
    low t e = grind (arith, nat_tests)

    high : (t : ℕ) → nat_le t sites_max ≡ false → sites_max < t
    high t e = grind (arith, nat_tests)

pub among_sites : (t : ℕ) → 1 ≤ t → t ≤ sites_max → Among t all_sites
among_sites t low high = counted_among 1 all_sites sites_count t low (omega (arith, high))

-- ---- answers ----

any_site : (y : ℕ) (ps : List Promise) → list_any (λ (p : Promise). p.site == y) ps ≡ true → (p : Promise) × (Among p ps) × (p.site ≡ y)
any_site y [] h = absurd (cc)
any_site y (p ∷ ps) h = by_test (any_site y ps) (p.site == y) refl
  where
    by_test : (list_any (λ (q : Promise). q.site == y) ps ≡ true → (r : Promise) × (Among r ps) × (r.site ≡ y)) → (b : Bool) → (p.site == y) ≡ b → (r : Promise) × (Among r (p ∷ ps)) × (r.site ≡ y)
    by_test f true e = (p, inl refl, test_equal p.site y e)
    by_test f false e =
        let r : (r : Promise) × (Among r ps) × (r.site ≡ y) = f (sym (ap (λ (b : Bool). b || list_any (λ (q : Promise). q.site == y) ps) e) ∙ h) in
        (r.0, inr r.1, r.2)

-- where no answer is missing, each polled site has promised
pub all_taken : (r : Round) (y : ℕ) → unanswered r ≡ [] → boot_in r.polled.boot y ≢ 0 → y ≤ sites_max → Taken r y
all_taken r y none some high = by_test (has_promised r y) refl
  where
    polled : Among y (polled_sites r.polled)
    polled = among_filter (λ s. not (boot_in r.polled.boot s == 0)) y all_sites (among_sites y (site_low r.polled.boot y some) high) (not_zero_test (boot_in r.polled.boot y) some)

    by_test : (b : Bool) → has_promised r y ≡ b → Taken r y
    by_test true e = (let k : (p : Promise) × (Among p r.promises) × (p.site ≡ y) = any_site y r.promises e in record { promise = k.0; there = k.1; of = k.2 })
    by_test false e = absurd (subst (λ (xs : List ℕ). Among y xs) none (among_filter (λ s. not (has_promised r s)) y (polled_sites r.polled) polled (ap not e)))

-- ---- the set ----

by_site : (ps : List Promise) (y : ℕ) → promised_by ps y ≡ true → (p : Promise) × (Among p ps) × (p.site ≡ y)
by_site [] y h = absurd (cc)
by_site (p ∷ ps) y h = by_test (by_site ps y) (p.site == y) refl
  where
    by_test : (promised_by ps y ≡ true → (r : Promise) × (Among r ps) × (r.site ≡ y)) → (b : Bool) → (p.site == y) ≡ b → (r : Promise) × (Among r (p ∷ ps)) × (r.site ≡ y)
    by_test f true e = (p, inl refl, test_equal p.site y e)
    by_test f false e =
        let r : (r : Promise) × (Among r ps) × (r.site ≡ y) = f (sym (ap (λ (b : Bool). b || promised_by ps y) e) ∙ h) in
        (r.0, inr r.1, r.2)

site_by : (ps : List Promise) (p : Promise) (y : ℕ) → Among p ps → p.site ≡ y → promised_by ps y ≡ true
site_by [] p y a e = absurd a
site_by (q ∷ qs) p y (inl k) e = subst (λ (b : Bool). (b || promised_by qs y) ≡ true) (sym (own q.site y (ap (λ (r : Promise). r.site) (sym k) ∙ e))) refl
  where
    own : (a b : ℕ) → a ≡ b → (a == b) ≡ true
    own a b f = grind (arith, nat_tests)
site_by (q ∷ qs) p y (inr k) e = ap (λ (b : Bool). (q.site == y) || b) (site_by qs p y k e) ∙ or_true (q.site == y)
  where
    or_true : (b : Bool) → (b || true) ≡ true
    or_true true = refl
    or_true false = refl

pub every_at : (F : Promise → Type 0) (ps : List Promise) → Every F ps → (p : Promise) → Among p ps → F p
every_at F [] h p a = absurd a
every_at F (z ∷ zs) h p (inl e) = subst F (sym e) h.0
every_at F (z ∷ zs) h p (inr a) = every_at F zs h.1 p a

-- What the round decides is the chosen set with the boots that were asked.
pub chooses : (first : World) (R : Starts) (at : Places) (s : ℕ) (P : Links) (v : SiteView) (q : Round) → AreApart first R → R s P → v.boot ≡ boot_at first s → ((t : ℕ) → boot_in (passed_over (links_of first s) q).polled.boot t ≡ boot_in P.boot t) →
    Every (IsTrue first at P q.id) (passed_over (links_of first s) q).promises → PromisesAscend (passed_over (links_of first s) q).promises → unanswered (passed_over (links_of first s) q) ≡ [] →
    (x : ℕ) → 1 ≤ x → x ≤ sites_max → boot_in (members_of s (links_of first s) v q).boot x ≡ cond (is_chosen first s P x) (asked_boot first s P x) 0
chooses first R at s P v q apart start boot polled taken ascend answered x low high =
    boot_there (member_boot s v.boot r set) x low high
    ∙ (ap (λ (b : Bool). cond b (polled_boot s v.boot r x) 0) chosen
    ∙ ap (λ (n : ℕ). cond (is_chosen first s P x) n 0) (ap (λ (n : ℕ). cond (x == s) n (boot_in r.polled.boot x)) boot ∙ ap (λ (n : ℕ). cond (x == s) (boot_at first s) n) (polled x)))
  where
    links : Links
    links = links_of first s

    r : Round
    r = passed_over links q

    set : Sites
    set = chosen_set s links r

    own : Promise
    own = record { site = s; reach = reached links }

    itself : boot_in links.boot s ≢ 0
    itself = apart.itself s P start

    s_low : 1 ≤ s
    s_low = site_low links.boot s itself

    s_high : s ≤ sites_max
    s_high = site_high (boot_in links.boot s) s itself (λ k. link_sized first s s k)

    high_of : (y : ℕ) → boot_in P.boot y ≢ 0 → y ≤ sites_max
    high_of y some = site_high (boot_in P.boot y) y some (apart.sized s P y start)

    linked : (y : ℕ) → boot_in P.boot y ≢ 0 → boot_in links.boot y ≢ 0
    linked y some z = some (apart.linked s P y start some ∙ z)

    runs : boot_at first s ≢ 0
    runs z = itself ((link_boot first s s itself).0 ∙ z)

    is_promised : (y : ℕ) → boot_in P.boot y ≢ 0 → (p : Promise) × (Among p r.promises) × (p.site ≡ y)
    is_promised y some = (let k : Taken r y = all_taken r y answered (λ z. some (sym (polled y) ∙ z)) (high_of y some) in (k.promise, k.there, k.of))

    back : Every (ReachesBack s) r.promises
    back = every_weaker (IsTrue first at P q.id) (ReachesBack s) r.promises
        (λ p k. (ap (λ (z : Sites). has z s) k.2 ∙ (has_reached (links_of first p.site) s s_low s_high ∙ not_zero_test (boot_in (links_of first p.site).boot s) (λ z. runs (sym (link_back first s p.site s_low s_high (linked p.site k.0)) ∙ z))), site_low P.boot p.site k.0)) taken

    asked : (y : ℕ) → promised_by r.promises y ≡ not (boot_in P.boot y == 0)
    asked y = same_truth (promised_by r.promises y) (not (boot_in P.boot y == 0)) there here
      where
        there : promised_by r.promises y ≡ true → not (boot_in P.boot y == 0) ≡ true
        there h = (let k : (p : Promise) × (Among p r.promises) × (p.site ≡ y) = by_site r.promises y h in not_zero_test (boot_in P.boot y) (λ z. (every_at (IsTrue first at P q.id) r.promises taken k.0 k.1).0 (ap (boot_in P.boot) k.2 ∙ z)))

        here : not (boot_in P.boot y == 0) ≡ true → promised_by r.promises y ≡ true
        here h = (let k : (p : Promise) × (Among p r.promises) × (p.site ≡ y) = is_promised y (not_zero (boot_in P.boot y) h) in site_by r.promises k.0 y k.1 k.2)

    first_set : (y : ℕ) → 1 ≤ y → y ≤ sites_max → has (both (candidates s r.promises) (reached links)) y ≡ is_asked s P y
    first_set y a b = has-both (candidates s r.promises) (reached links) y ∙ (ap (λ (k : Bool). k && has (reached links) y) (has_candidate s r.promises s_low back y a ∙ ap (λ (k : Bool). (y == s) || k) (asked y)) ∙ by_asked (is_asked s P y) refl)
      where
        reached_y : (y == s) || not (boot_in P.boot y == 0) ≡ true → boot_in links.boot y ≢ 0
        reached_y e = by_self (y == s) refl e
          where
            by_self : (c : Bool) → (y == s) ≡ c → (c || not (boot_in P.boot y == 0)) ≡ true → boot_in links.boot y ≢ 0
            by_self true f g = λ z. itself (ap (boot_in links.boot) (sym (test_equal y s f)) ∙ z)
            by_self false f g = linked y (not_zero (boot_in P.boot y) g)

        by_asked : (c : Bool) → is_asked s P y ≡ c → (is_asked s P y && has (reached links) y) ≡ is_asked s P y
        by_asked true e = ap (λ (k : Bool). is_asked s P y && k) (has_reached links y a b ∙ not_zero_test (boot_in links.boot y) (reached_y e)) ∙ and_true_right (is_asked s P y)
        by_asked false e = ap (λ (k : Bool). k && has (reached links) y) e ∙ sym e

    all : List Promise
    all = all_promises s links r

    from_one : Every (FromOn 1) all
    from_one = row_every (FromOn 1) own r.promises s_low (every_weaker (IsTrue first at P q.id) (FromOn 1) r.promises (λ p k. site_low P.boot p.site k.0) taken)

    tells : Every (Tells (reaches first)) all
    tells = row_every (Tells (reaches first)) own r.promises (s_high, λ y a b. has_reached links y a b)
        (every_weaker (IsTrue first at P q.id) (Tells (reaches first)) r.promises (λ p k. (high_of p.site k.0, λ y a b. ap (λ (z : Sites). has z y) k.2 ∙ has_reached (links_of first p.site) y a b)) taken)

    have : (y : ℕ) → 1 ≤ y → y ≤ sites_max → is_asked s P y ≡ true → Among y (map promise_site all)
    have y a b e = by_self (y == s) refl e
      where
        by_self : (c : Bool) → (y == s) ≡ c → (c || not (boot_in P.boot y == 0)) ≡ true → Among y (map promise_site all)
        by_self true f g = subst (λ (z : ℕ). Among z (map promise_site all)) (sym (test_equal y s f)) (among_map promise_site own all (row_here own r.promises))
        by_self false f g =
            let k : (p : Promise) × (Among p r.promises) × (p.site ≡ y) = is_promised y (not_zero (boot_in P.boot y) g) in
            subst (λ (z : ℕ). Among z (map promise_site all)) k.2 (among_map promise_site k.0 all (row_keeps own k.0 r.promises k.1 (λ z. apart_self (sym k.2 ∙ z) f)))
          where
            apart_self : y ≡ s → (y == s) ≡ false → ⊥
            apart_self z f = true_false (sym (own_test y s z) ∙ f)
              where
                own_test : (a b : ℕ) → a ≡ b → (a == b) ≡ true
                own_test a b h = grind (arith, nat_tests)

                true_false : true ≡ false → ⊥
                true_false h = cc

    chosen : has set x ≡ is_chosen first s P x
    chosen = met_is (reaches first) 1 all_sites sites_count (omega arith) refl (both (candidates s r.promises) (reached links)) (is_asked s P) all (row_ascends own r.promises ascend) from_one tells have first_set x low high

-- ---- nobody is passed over while links stand ----

pub none_passed : (first : World) (R : Starts) (s : ℕ) (P : Links) (q : Round) → AreApart first R → R s P → ((t : ℕ) → boot_in q.polled.boot t ≡ boot_in P.boot t) → (t : ℕ) → boot_in (passed_over (links_of first s) q).polled.boot t ≡ boot_in P.boot t
none_passed first R s P q apart start polled t = by_range (nat_le 1 t) (nat_le t sites_max) refl refl
  where
    links : Links
    links = links_of first s

    by_polled : (boot_in P.boot t ≡ 0) ⊎ (boot_in P.boot t ≢ 0) → left_boot links q.polled t ≡ boot_in P.boot t
    by_polled (inl z) = none (boot_in links.boot t == boot_in q.polled.boot t) (boot_in q.polled.boot t) (polled t ∙ z) ∙ sym z
      where
        none : (b : Bool) (n : ℕ) → n ≡ 0 → cond b n 0 ≡ 0
        none true n e = e
        none false n e = refl
    by_polled (inr some) = subst (λ (b : Bool). cond b (boot_in q.polled.boot t) 0 ≡ boot_in P.boot t) (sym (equal (boot_in links.boot t) (boot_in q.polled.boot t) (sym (apart.linked s P t start some) ∙ sym (polled t)))) (polled t)
      where
        equal : (a b : ℕ) → a ≡ b → (a == b) ≡ true
        equal a b e = grind (arith, nat_tests)

    zero_or : (n : ℕ) → (n ≡ 0) ⊎ (n ≢ 0)
    zero_or zero = inl refl
    zero_or (suc n) = inr (λ e. absurd (cc))

    le : (a b : ℕ) → nat_le a b ≡ true → a ≤ b
    le a b e = grind (arith, nat_tests)

    not_le : (a b : ℕ) → nat_le a b ≡ false → b + 1 ≤ a
    not_le a b e = grind (arith, nat_tests)

    no_site : (y : ℕ) → y ≡ 0 → boot_in (passed_over links q).polled.boot y ≡ boot_in P.boot y
    no_site zero e = refl
    no_site (suc y) e = absurd (omega (arith, e))

    by_range : (a b : Bool) → nat_le 1 t ≡ a → nat_le t sites_max ≡ b → boot_in (passed_over links q).polled.boot t ≡ boot_in P.boot t
    by_range true true e f = boot_there (left_boot links q.polled) t (le 1 t e) (le t sites_max f) ∙ by_polled (zero_or (boot_in P.boot t))
    by_range true false e f = boot_nowhere (left_boot links q.polled) t (not_le t sites_max f) ∙ sym (apart.sized s P t start (not_le t sites_max f))
    by_range false b e f = no_site t (let k : t + 1 ≤ 1 = not_le 1 t e in omega (arith, k))
