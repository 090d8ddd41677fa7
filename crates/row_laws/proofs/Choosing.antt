-- The list that a round decides has the site whose round it is.
use Rattle.std.proofs.Common.{◌≡◌, ◌≤◌, ◌<◌, ℕ, zero, suc, ◌+◌, ◌-◌, ◌==◌, ◌⊎◌, nat_lt, Bool, true, false, cond, ◌||◌, ◌&&◌, List, [], ◌∷◌, length, map, filter, get_or, refl, sym, ◌∙◌, ap, subst, inl, inr, arith}
use Rattle.std.proofs.lemmas.Bool.Decides.{nat_tests}
use Rattle.std.proofs.lemmas.Nat.Bits.{bit_at-zero}
use Rattle.role_steps.proofs.of_plain_facts.Numbers.{apart_test, equal, equal_self}
use Rattle.role_steps.proofs.of_plain_facts.Tests.{both_true, or_either, or_true, true_false}
use Rattle.locus_ids.specs.Sites.{has, with_site, both}
use Rattle.locus_ids.specs.declared.sites.Sites.{Sites}
use Rattle.locus_ids.specs.declared.sites.Links.{Links}
use Rattle.locus_ids.proofs.Sets.{has-with, has-both}
use Rattle.locus_ids.specs.Sizes.{sites_max}
use Rattle.role_steps.specs.Tables.{with_row}
use Rattle.role_steps.specs.Views.{boot_in, all_sites}
use Rattle.role_steps.specs.Epochs.{reached, promise_site, candidates, met_by, met_by_all, all_promises, chosen_set, polled_boot, member_boot, chosen_members}
use Rattle.role_steps.specs.declared.rounds.Promise.{Promise}
use Rattle.role_steps.specs.declared.rounds.Round.{Round}
use Rattle.role_steps.proofs.Counted.{CountsFrom, sites_count}
use Rattle.site_laws.specs.of_the_run.Kept.{Among}
use Rattle.row_laws.specs.Events.{ListsItself, PromisesRise}

-- ---- tests ----

-- ---- boot numbers by places ----

placed : (f : ℕ → ℕ) (n place : ℕ) (xs : List ℕ) → CountsFrom n xs → place < length xs → get_or (map f xs) place 0 ≡ f (n + place)
placed f n place [] h low = absurd (omega (arith, low))
placed f n zero (x ∷ xs) h low = ap f (h.0 ∙ plus_none n)
  where
    plus_none : (n : ℕ) → n ≡ n + 0
    plus_none n = omega arith
placed f n (suc place) (x ∷ xs) h low = placed f (n + 1) place xs h.1 (omega (arith, low)) ∙ ap f (next n place)
  where
    next : (n place : ℕ) → (n + 1) + place ≡ n + suc place
    next n place = omega arith

-- each of sixteen sites has the boot number that it is given
pub boot_there : (f : ℕ → ℕ) (s : ℕ) → 1 ≤ s → s ≤ sites_max → boot_in (map f all_sites) s ≡ f s
boot_there f zero low high = absurd (omega (arith, low))
boot_there f (suc place) low high = placed f 1 place all_sites sites_count (omega (arith, high)) ∙ ap f (next place)
  where
    next : (n : ℕ) → 1 + n ≡ suc n
    next n = omega arith

beyond : (f : ℕ → ℕ) (place : ℕ) (xs : List ℕ) → length xs ≤ place → get_or (map f xs) place 0 ≡ 0
beyond f place [] h = refl
beyond f zero (x ∷ xs) h = absurd (omega (arith, h))
beyond f (suc place) (x ∷ xs) h = beyond f place xs (omega (arith, h))

-- any other number has none
pub boot_nowhere : (f : ℕ → ℕ) (s : ℕ) → sites_max < s → boot_in (map f all_sites) s ≡ 0
boot_nowhere f zero h = refl
boot_nowhere f (suc place) h = beyond f place all_sites (omega (arith, h))

-- ---- what a site reaches ----

abbrev reach_among : Links → List ℕ → Sites
reach_among links [] = record { 0 = 0 }
reach_among links (s ∷ ss) = cond (boot_in links.boot s == 0) (reach_among links ss) (with_site (reach_among links ss) s)

-- from the site's place on, the set has it where it is connected
reach_has : (links : Links) (s n : ℕ) (xs : List ℕ) → 1 ≤ n → 1 ≤ s → CountsFrom n xs → (boot_in links.boot s == 0) ≡ false → n ≤ s → s < n + length xs → has (reach_among links xs) s ≡ true
reach_has links s n [] one low h up from to = absurd (omega (arith, from, to))
reach_has links s n (x ∷ xs) one low h up from to =
    let later : (x ≡ s → ⊥) → has (reach_among links xs) s ≡ true = λ ne. reach_has links s (n + 1) xs (omega arith) low h.1 up (above ne) (omega (arith, to)) in
    (elim (boot_in links.boot x == 0) as (λ b. (boot_in links.boot x == 0) ≡ b → has (cond b (reach_among links xs) (with_site (reach_among links xs) x)) s ≡ true) [
      | true ↦ λ e. later (λ same. absurd (true_false (sym e ∙ (ap (λ (y : ℕ). boot_in links.boot y == 0) same ∙ up))))
      | false ↦ λ e. has-with (reach_among links xs) x s (omega (arith, one, first)) low ∙ by_case later (s == x) refl
    ]) refl
  where
    first : x ≡ n
    first = h.0

    above : (x ≡ s → ⊥) → n + 1 ≤ s
    above ne = (let no : n ≡ s → ⊥ = λ e. ne (first ∙ e) in omega (arith, from, no))

    by_case : ((x ≡ s → ⊥) → has (reach_among links xs) s ≡ true) → (b : Bool) → (s == x) ≡ b → (has (reach_among links xs) s || b) ≡ true
    by_case later true e = or_true (has (reach_among links xs) s)
    by_case later false e = ap (λ (b : Bool). b || false) (later (λ same. absurd (true_false (sym (equal_self s) ∙ (ap (λ (y : ℕ). s == y) (sym same) ∙ e)))))

-- a site that is connected is reached
pub reaches : (links : Links) (s : ℕ) → 1 ≤ s → s ≤ sites_max → (boot_in links.boot s == 0) ≡ false → has (reached links) s ≡ true
reaches links s low high up = reach_has links s 1 all_sites (omega arith) low sites_count up low (omega (arith, high))

-- ---- candidates ----

has_none : (s : ℕ) → has (record { 0 = 0 }) s ≡ false
has_none s = rw (bit_at-zero (s - 1)) refl

-- the initiator is a candidate
candidate_self : (me n : ℕ) (ps : List Promise) → 1 ≤ me → 1 ≤ n → PromisesRise n ps → has (candidates me ps) me ≡ true
candidate_self me n [] low one h = has-with (record { 0 = 0 }) me me low low ∙ (ap (λ (b : Bool). has (record { 0 = 0 }) me || b) (equal_self me) ∙ or_true (has (record { 0 = 0 }) me))
candidate_self me n (p ∷ ps) low one h =
    let k : n ≤ p.site = h.0 in
    let rest : has (candidates me ps) me ≡ true = candidate_self me (p.site + 1) ps low (omega arith) h.1 in
    elim (has p.reach me) as (λ b. has (cond b (with_site (candidates me ps) p.site) (candidates me ps)) me ≡ true) [
      | true ↦ has-with (candidates me ps) p.site me (omega (arith, k, one)) low ∙ ap (λ (b : Bool). b || (me == p.site)) rest
      | false ↦ rest
    ]

-- no site below those that promised is one, but for the initiator
candidate_below : (me s n : ℕ) (ps : List Promise) → 1 ≤ me → 1 ≤ s → (s ≡ me → ⊥) → s + 1 ≤ n → PromisesRise n ps → has (candidates me ps) s ≡ false
candidate_below me s n [] low one ne le h = has-with (record { 0 = 0 }) me s low one ∙ (ap (λ (b : Bool). b || (s == me)) (has_none s) ∙ apart_test s me ne)
candidate_below me s n (p ∷ ps) low one ne le h =
    let k : n ≤ p.site = h.0 in
    let rest : has (candidates me ps) s ≡ false = candidate_below me s (p.site + 1) ps low one ne (omega (arith, le, k)) h.1 in
    elim (has p.reach me) as (λ b. has (cond b (with_site (candidates me ps) p.site) (candidates me ps)) s ≡ false) [
      | true ↦ has-with (candidates me ps) p.site s (omega (arith, k, le)) one ∙ (ap (λ (b : Bool). b || (s == p.site)) rest ∙ apart_test s p.site (λ e. absurd (omega (arith, e, k, le))))
      | false ↦ rest
    ]

rises_above : (n : ℕ) (ps : List Promise) → PromisesRise n ps → (q : Promise) → Among q ps → n ≤ q.site
rises_above n [] h q a = absurd a
rises_above n (p ∷ ps) h q (inl e) = subst (λ (x : Promise). n ≤ x.site) (sym e) h.0
rises_above n (p ∷ ps) h q (inr a) = let k : n ≤ p.site = h.0 in let m : p.site + 1 ≤ q.site = rises_above (p.site + 1) ps h.1 q a in omega (arith, k, m)

-- a candidate that promised reaches the initiator
candidate_back : (me n : ℕ) (ps : List Promise) → 1 ≤ me → 1 ≤ n → PromisesRise n ps → (q : Promise) → Among q ps → (q.site ≡ me → ⊥) → has (candidates me ps) q.site ≡ true → has q.reach me ≡ true
candidate_back me n [] low one h q a ne e = absurd a
candidate_back me n (p ∷ ps) low one h q (inl same) ne e =
    let k : n ≤ p.site = h.0 in
    subst (λ (x : Promise). has x.reach me ≡ true) (sym same)
    ((elim (has p.reach me) as (λ b. has p.reach me ≡ b → has (cond b (with_site (candidates me ps) p.site) (candidates me ps)) p.site ≡ true → has p.reach me ≡ true) [
      | true ↦ λ r f. r
      | false ↦ λ r f. absurd (true_false (sym f ∙ candidate_below me p.site (p.site + 1) ps low (omega (arith, k, one)) (λ x. ne (ap (λ (y : Promise). y.site) same ∙ x)) (omega arith) h.1))
    ]) refl (subst (λ (x : Promise). has (candidates me (p ∷ ps)) x.site ≡ true) same e))
candidate_back me n (p ∷ ps) low one h q (inr a) ne e =
    let k : n ≤ p.site = h.0 in
    let m : p.site + 1 ≤ q.site = rises_above (p.site + 1) ps h.1 q a in
    candidate_back me (p.site + 1) ps low (omega arith) h.1 q a ne
    ((elim (has p.reach me) as (λ b. has (cond b (with_site (candidates me ps) p.site) (candidates me ps)) q.site ≡ true → has (candidates me ps) q.site ≡ true) [
      | true ↦ λ f. later (or_either (has (candidates me ps) q.site) (q.site == p.site) (sym (has-with (candidates me ps) p.site q.site (omega (arith, k, one)) (omega (arith, m))) ∙ f)) m
      | false ↦ λ f. f
    ]) e)
  where
    later : (has (candidates me ps) q.site ≡ true) ⊎ ((q.site == p.site) ≡ true) → p.site + 1 ≤ q.site → has (candidates me ps) q.site ≡ true
    later (inl f) m = f
    later (inr f) m = (let same : q.site ≡ p.site = equal q.site p.site f in absurd (omega (arith, same, m)))

-- ---- the chosen set ----

-- the promises, with the initiator's own in place of one of its site
row_among : (own : Promise) (n : ℕ) (ps : List Promise) → PromisesRise n ps → (q : Promise) → Among q (with_row promise_site own ps) → (q ≡ own) ⊎ (Among q ps × (q.site ≡ own.site → ⊥))
row_among own n [] h q (inl e) = inl e
row_among own n [] h q (inr a) = absurd a
row_among own n (p ∷ ps) h q a = by_order (row_among own (p.site + 1) ps h.1 q) (nat_lt p.site own.site) refl a
  where
    above : (m : ℕ) → m ≡ p.site → Among q ps → own.site ≤ m → q.site ≡ own.site → ⊥
    above m e b le same = (let k : p.site + 1 ≤ q.site = rises_above (p.site + 1) ps h.1 q b in omega (arith, k, le, same, e))

    here : q ≡ p → (p.site ≡ own.site → ⊥) → (q ≡ own) ⊎ (Among q (p ∷ ps) × (q.site ≡ own.site → ⊥))
    here e ne = inr (inl e, λ same. ne (sym (ap (λ (x : Promise). x.site) e) ∙ same))

    longer : (q ≡ own) ⊎ (Among q ps × (q.site ≡ own.site → ⊥)) → (q ≡ own) ⊎ (Among q (p ∷ ps) × (q.site ≡ own.site → ⊥))
    longer (inl e) = inl e
    longer (inr k) = inr (inr k.0, k.1)

    first : (Among q (with_row promise_site own ps) → (q ≡ own) ⊎ (Among q ps × (q.site ≡ own.site → ⊥))) → nat_lt p.site own.site ≡ true → Among q (p ∷ with_row promise_site own ps) → (q ≡ own) ⊎ (Among q (p ∷ ps) × (q.site ≡ own.site → ⊥))
    first rest e (inl f) = here f (less p.site own.site e)
      where
        less : (a b : ℕ) → nat_lt a b ≡ true → a ≡ b → ⊥
        less a b e f = grind (arith, nat_tests)
    first rest e (inr b) = longer (rest b)

    in_place : (p.site == own.site) ≡ true → Among q (own ∷ ps) → (q ≡ own) ⊎ (Among q (p ∷ ps) × (q.site ≡ own.site → ⊥))
    in_place e (inl f) = inl f
    in_place e (inr b) = inr (inr b, above p.site refl b (let s : p.site ≡ own.site = equal p.site own.site e in omega (arith, s)))

    before : nat_lt p.site own.site ≡ false → (p.site == own.site) ≡ false → Among q (own ∷ p ∷ ps) → (q ≡ own) ⊎ (Among q (p ∷ ps) × (q.site ≡ own.site → ⊥))
    before e f (inl g) = inl g
    before e f (inr (inl g)) = here g (λ s. absurd (true_false (sym (equal_self own.site) ∙ (ap (λ (x : ℕ). x == own.site) (sym s) ∙ f))))
    before e f (inr (inr b)) = inr (inr b, above p.site refl b (at_most p.site own.site e))
      where
        at_most : (a b : ℕ) → nat_lt a b ≡ false → b ≤ a
        at_most a b e = grind (arith, nat_tests)

    after : (b : Bool) → nat_lt p.site own.site ≡ false → (p.site == own.site) ≡ b → Among q (elim b [ true ↦ own ∷ ps | false ↦ own ∷ p ∷ ps ]) → (q ≡ own) ⊎ (Among q (p ∷ ps) × (q.site ≡ own.site → ⊥))
    after true e f g = in_place f g
    after false e f g = before e f g

    by_order : (Among q (with_row promise_site own ps) → (q ≡ own) ⊎ (Among q ps × (q.site ≡ own.site → ⊥))) → (b : Bool) → nat_lt p.site own.site ≡ b → Among q (elim b [ true ↦ p ∷ with_row promise_site own ps | false ↦ elim (p.site == own.site) [ true ↦ own ∷ ps | false ↦ own ∷ p ∷ ps ] ]) → (q ≡ own) ⊎ (Among q (p ∷ ps) × (q.site ≡ own.site → ⊥))
    by_order rest true e g = first rest e g
    by_order rest false e g = after (p.site == own.site) e refl g

met_once : (me : ℕ) (set : Sites) (p : Promise) → has set me ≡ true → (has set p.site ≡ true → has p.reach me ≡ true) → (has (met_by set p) me ≡ true) × ((s : ℕ) → has (met_by set p) s ≡ true → has set s ≡ true)
met_once me set p own back =
    (elim (has set p.site) as (λ b. has set p.site ≡ b → (has (cond b (both set p.reach) set) me ≡ true) × ((s : ℕ) → has (cond b (both set p.reach) set) s ≡ true → has set s ≡ true)) [
      | true ↦ λ e. (has-both set p.reach me ∙ (ap (λ (b : Bool). b && has p.reach me) own ∙ back e), λ s f. (both_true (has set s) (has p.reach s) (sym (has-both set p.reach s) ∙ f)).0)
      | false ↦ λ e. (own, λ s f. f)
    ]) refl

-- where each of the set reaches the initiator it stays in the set
met_has : (me : ℕ) (set : Sites) (ps : List Promise) → has set me ≡ true → ((q : Promise) → Among q ps → has set q.site ≡ true → has q.reach me ≡ true) → has (met_by_all set ps) me ≡ true
met_has me set [] own back = own
met_has me set (p ∷ ps) own back =
    let k : (has (met_by set p) me ≡ true) × ((s : ℕ) → has (met_by set p) s ≡ true → has set s ≡ true) = met_once me set p own (back p (inl refl)) in
    met_has me (met_by set p) ps k.0 (λ q a e. back q (inr a) (k.1 q.site e))

chosen_self : (me : ℕ) (links : Links) (r : Round) → 1 ≤ me → me ≤ sites_max → PromisesRise 1 r.promises → (boot_in links.boot me == 0) ≡ false → has (chosen_set me links r) me ≡ true
chosen_self me links r low high rise up = met_has me first (all_promises me links r) has_first (λ q a e. by_row q (row_among own 1 r.promises rise q a) e)
  where
    own : Promise
    own = record { site = me; reach = reached links }

    first : Sites
    first = both (candidates me r.promises) (reached links)

    self : has (reached links) me ≡ true
    self = reaches links me low high up

    has_first : has first me ≡ true
    has_first = has-both (candidates me r.promises) (reached links) me ∙ (ap (λ (b : Bool). b && has (reached links) me) (candidate_self me 1 r.promises low (omega arith) rise) ∙ self)

    by_row : (q : Promise) → (q ≡ own) ⊎ (Among q r.promises × (q.site ≡ me → ⊥)) → has first q.site ≡ true → has q.reach me ≡ true
    by_row q (inl e) f = ap (λ (x : Promise). has x.reach me) e ∙ self
    by_row q (inr k) f = candidate_back me 1 r.promises low (omega arith) rise q k.0 k.1 (both_true (has (candidates me r.promises) q.site) (has (reached links) q.site) (sym (has-both (candidates me r.promises) (reached links) q.site) ∙ f)).0

-- ---- the list ----

own_boot : (me boot : ℕ) (r : Round) → polled_boot me boot r me ≡ boot
own_boot me boot r = rw (equal_self me) refl

zero_boot : (n : ℕ) → (n == 0) ≡ true → 0 ≡ n
zero_boot n e = grind (arith, nat_tests)

-- a site that decides its round lists itself
pub decided : (me boot : ℕ) (links : Links) (r : Round) → PromisesRise 1 r.promises → ListsItself me boot links (chosen_members me boot r (chosen_set me links r))
decided zero boot links r rise high same = same
decided (suc place) boot links r rise high same =
    let me : ℕ = suc place in
    boot_there (member_boot me boot r (chosen_set me links r)) me (omega arith) high ∙ by_boot (boot == 0) refl
  where
    either_zero : (b : Bool) → 0 ≡ boot → cond b (polled_boot (suc place) boot r (suc place)) 0 ≡ boot
    either_zero true e = own_boot (suc place) boot r
    either_zero false e = e

    by_boot : (b : Bool) → (boot == 0) ≡ b → member_boot (suc place) boot r (chosen_set (suc place) links r) (suc place) ≡ boot
    by_boot true e = either_zero (has (chosen_set (suc place) links r) (suc place)) (zero_boot boot e)
    by_boot false e = ap (λ (b : Bool). cond b (polled_boot (suc place) boot r (suc place)) 0) (chosen_self (suc place) links r (omega arith) high rise (ap (λ (n : ℕ). n == 0) same ∙ e)) ∙ own_boot (suc place) boot r

-- ---- promises in order ----

rises_from : (n m : ℕ) (ps : List Promise) → n ≤ m → PromisesRise m ps → PromisesRise n ps
rises_from n m [] le h = tt
rises_from n m (p ∷ ps) le h = ((let k : m ≤ p.site = h.0 in omega (arith, k, le)), h.1)

-- a promise more, or another one of its site
pub row_rises : (own : Promise) (n : ℕ) (ps : List Promise) → n ≤ own.site → PromisesRise n ps → PromisesRise n (with_row promise_site own ps)
row_rises own n [] le h = (le, tt)
row_rises own n (p ∷ ps) le h =
    (elim (nat_lt p.site own.site) as (λ b. nat_lt p.site own.site ≡ b → PromisesRise n (elim b [ true ↦ p ∷ with_row promise_site own ps | false ↦ elim (p.site == own.site) [ true ↦ own ∷ ps | false ↦ own ∷ p ∷ ps ] ])) [
      | true ↦ λ e. (h.0, row_rises own (p.site + 1) ps (less p.site own.site e) h.1)
      | false ↦ λ e. (elim (p.site == own.site) as (λ b. (p.site == own.site) ≡ b → PromisesRise n (elim b [ true ↦ own ∷ ps | false ↦ own ∷ p ∷ ps ])) [
        | true ↦ λ f. (le, subst (λ (m : ℕ). PromisesRise (m + 1) ps) (equal p.site own.site f) h.1)
        | false ↦ λ f. (le, (more p.site own.site e f, h.1))
      ]) refl
    ]) refl
  where
    less : (a b : ℕ) → nat_lt a b ≡ true → a + 1 ≤ b
    less a b e = grind (arith, nat_tests)

    more : (a b : ℕ) → nat_lt a b ≡ false → (a == b) ≡ false → b + 1 ≤ a
    more a b e f = grind (arith, nat_tests)

-- of those that pass too; where these are of sites from 1 on, they rise from there
pub passed_rise : (test : Promise → Bool) (n : ℕ) (ps : List Promise) → ((p : Promise) → test p ≡ true → 1 ≤ p.site) → PromisesRise n ps → PromisesRise n (filter test ps) × PromisesRise 1 (filter test ps)
passed_rise test n [] sites h = (tt, tt)
passed_rise test n (p ∷ ps) sites h =
    let k : n ≤ p.site = h.0 in
    let rest : PromisesRise (p.site + 1) (filter test ps) × PromisesRise 1 (filter test ps) = passed_rise test (p.site + 1) ps sites h.1 in
    (elim (test p) as (λ b. test p ≡ b → PromisesRise n (cond b (p ∷ filter test ps) (filter test ps)) × PromisesRise 1 (cond b (p ∷ filter test ps) (filter test ps))) [
      | true ↦ λ e. ((k, rest.0), (sites p e, rest.0))
      | false ↦ λ e. (rises_from n (p.site + 1) (filter test ps) (omega (arith, k)) rest.0, rest.1)
    ]) refl
