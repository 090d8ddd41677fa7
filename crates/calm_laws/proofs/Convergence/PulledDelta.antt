-- The pages in which a version differs from an earlier one are such as a site takes that asks for them: they ascend, they are pages of
-- the later one, and those behind the earlier one are among them.
use Rattle.std.proofs.Common.{◌≡◌, ℕ, zero, suc, ◌≤◌, ◌<◌, ◌+◌, ◌-◌, ◌==◌, nat_lt, Bool, true, false, cond, ◌&&◌, ◌||◌, List, [], ◌∷◌, length, take, filter, Option, None, Some, refl, sym, ◌∙◌, ap, subst, arith, ◌⊎◌, inl, inr}
use Rattle.std.specs.List.{list_all}
use Rattle.std.specs.Prelude.{nat_le}
use Rattle.std.proofs.lemmas.Bool.Decides.{nat_tests}
use Rattle.file_content.specs.Pages.{has_page, page_of, pages_from, pages_of}
use Rattle.role_steps.proofs.of_plain_facts.Numbers.{equal_self}
use Rattle.role_steps.proofs.of_plain_facts.Tests.{true_false}
use Rattle.role_steps.specs.Pulling.{are_delta, ascend_from, bytes_in}
use Rattle.role_steps.specs.Storage.{delta_of}
use Rattle.the_run.specs.Kept.{Among}
use Rattle.tree_laws.specs.Deltas.{AgreeBut}
use Rattle.store_laws.proofs.Works.PageLists.{kept_there, page_length}

-- ---- some of the pages from one on ----

ascend_some : (f : ℕ → Bool) (least first count : ℕ) → least ≤ first → ascend_from least (filter f (pages_from first count)) ≡ true
ascend_some f least first zero le = refl
ascend_some f least first (suc count) le = over (f first) (ascend_some f (suc first) (first + 1) count next) (ascend_some f least (first + 1) count further)
  where
    next : suc first ≤ first + 1
    next = omega arith

    further : least ≤ first + 1
    further = omega (arith, le)

    above : nat_le least first ≡ true
    above = grind (arith, nat_tests)

    both : (b : Bool) → b ≡ true → ascend_from (suc first) (filter f (pages_from (first + 1) count)) ≡ true → b && ascend_from (suc first) (filter f (pages_from (first + 1) count)) ≡ true
    both true e later = later
    both false e later = absurd (true_false (sym e))

    over : (b : Bool) → ascend_from (suc first) (filter f (pages_from (first + 1) count)) ≡ true → ascend_from least (filter f (pages_from (first + 1) count)) ≡ true →
        ascend_from least (cond b (first ∷ filter f (pages_from (first + 1) count)) (filter f (pages_from (first + 1) count))) ≡ true
    over true later without = both (nat_le least first) above later
    over false later without = without

below_some : (f : ℕ → Bool) (top first count : ℕ) → first + count ≤ top → list_all (λ (page : ℕ). nat_lt page top) (filter f (pages_from first count)) ≡ true
below_some f top first zero le = refl
below_some f top first (suc count) le = over (f first) (below_some f top (first + 1) count (omega (arith, le)))
  where
    below : nat_lt first top ≡ true
    below = grind (arith, nat_tests)

    both : (b : Bool) → b ≡ true → list_all (λ (page : ℕ). nat_lt page top) (filter f (pages_from (first + 1) count)) ≡ true → b && list_all (λ (page : ℕ). nat_lt page top) (filter f (pages_from (first + 1) count)) ≡ true
    both true e later = later
    both false e later = absurd (true_false (sym e))

    over : (b : Bool) → list_all (λ (page : ℕ). nat_lt page top) (filter f (pages_from (first + 1) count)) ≡ true → list_all (λ (page : ℕ). nat_lt page top) (cond b (first ∷ filter f (pages_from (first + 1) count)) (filter f (pages_from (first + 1) count))) ≡ true
    over true later = both (nat_lt first top) below later
    over false later = later

-- all of them are those that pass a test that all pass
all_pass : (ps : List ℕ) → filter (λ (p : ℕ). true) ps ≡ ps
all_pass [] = refl
all_pass (p ∷ ps) = ap (λ (qs : List ℕ). p ∷ qs) (all_pass ps)

among_has : (x : ℕ) (xs : List ℕ) → Among x xs → has_page xs x ≡ true
among_has x [] m = absurd m
among_has x (z ∷ xs) m = over (z == x) m refl (λ k. among_has x xs k)
  where
    over : (b : Bool) → (x ≡ z) ⊎ Among x xs → (z == x) ≡ b → (Among x xs → has_page xs x ≡ true) → b || has_page xs x ≡ true
    over true m e later = refl
    over false (inl same) e later = absurd (true_false (sym (subst (λ (y : ℕ). (y == x) ≡ true) same (equal_self x)) ∙ e))
    over false (inr m) e later = later m

-- ---- the pages behind the earlier version ----

behind : (earlier later pages : List ℕ) → AgreeBut earlier later pages → (page : ℕ) → pages_of (length earlier) ≤ page → page < pages_of (length later) → has_page pages page ≡ true
behind earlier later pages agree page low high = over (agree page high)
  where
    clash : page < pages_of (length earlier) → ⊥
    clash lt = omega (arith, low, lt)

    over : Among page pages ⊎ (page_of later page ≡ take (bytes_in (length later) page) (page_of earlier page)) → has_page pages page ≡ true
    over (inl m) = among_has page pages m
    over (inr e) = absurd (clash (kept_there earlier later page high (ap (λ (n : ℕ). take n (page_of earlier page)) (page_length later page) ∙ sym e)))

all_behind : (earlier later pages : List ℕ) → AgreeBut earlier later pages → (first count : ℕ) → pages_of (length earlier) ≤ first → first + count ≤ pages_of (length later) → list_all (has_page pages) (pages_from first count) ≡ true
all_behind earlier later pages agree first zero low high = refl
all_behind earlier later pages agree first (suc count) low high = both (has_page pages first) (behind earlier later pages agree first low (omega (arith, high))) (all_behind earlier later pages agree (first + 1) count (omega (arith, low)) (omega (arith, high)))
  where
    both : (b : Bool) → b ≡ true → list_all (has_page pages) (pages_from (first + 1) count) ≡ true → b && list_all (has_page pages) (pages_from (first + 1) count) ≡ true
    both true e later = later
    both false e later = absurd (true_false (sym e))

from_own : (earlier later pages : List ℕ) → AgreeBut earlier later pages → list_all (has_page pages) (pages_from (pages_of (length earlier)) (pages_of (length later) - pages_of (length earlier))) ≡ true
from_own earlier later pages agree = over (pages_of (length earlier)) (pages_of (length later)) (λ first count low high. all_behind earlier later pages agree first count low high)
  where
    over : (own count : ℕ) → ((first more : ℕ) → own ≤ first → first + more ≤ count → list_all (has_page pages) (pages_from first more) ≡ true) → list_all (has_page pages) (pages_from own (count - own)) ≡ true
    over own count h = by_rest (count - own) refl
      where
        by_rest : (more : ℕ) → count - own ≡ more → list_all (has_page pages) (pages_from own more) ≡ true
        by_rest zero e = refl
        by_rest (suc more) e = h own (suc more) (omega arith) (omega (arith, e))

-- ---- the answer ----

fits_all : (own count : ℕ) (pages : List ℕ) → ascend_from 0 pages ≡ true → list_all (λ (page : ℕ). nat_lt page count) pages ≡ true → list_all (has_page pages) (pages_from own (count - own)) ≡ true → are_delta own count pages ≡ true
fits_all own count pages a b d = three (ascend_from 0 pages) (list_all (λ (page : ℕ). nat_lt page count) pages) (list_all (has_page pages) (pages_from own (count - own))) a b d
  where
    three : (x y z : Bool) → x ≡ true → y ≡ true → z ≡ true → x && (y && z) ≡ true
    three true true z a b d = d
    three true false z a b d = absurd (true_false (sym b))
    three false y z a b d = absurd (true_false (sym a))

pub delta_fits : (earlier later : List ℕ) (since : Option (List ℕ)) → AgreeBut earlier later (delta_of (pages_of (length later)) since) → are_delta (pages_of (length earlier)) (pages_of (length later)) (delta_of (pages_of (length later)) since) ≡ true
delta_fits earlier later (Some pages) agree =
    let count : ℕ = pages_of (length later) in
    fits_all (pages_of (length earlier)) count (delta_of count (Some pages)) (ascend_some (has_page pages) 0 0 count (omega arith)) (below_some (has_page pages) count 0 count (omega arith)) (from_own earlier later (delta_of count (Some pages)) agree)
delta_fits earlier later None agree =
    let count : ℕ = pages_of (length later) in
    let ps : List ℕ = pages_from 0 count in
    fits_all (pages_of (length earlier)) count ps
    (subst (λ (qs : List ℕ). ascend_from 0 qs ≡ true) (all_pass ps) (ascend_some (λ (p : ℕ). true) 0 0 count (omega arith)))
    (subst (λ (qs : List ℕ). list_all (λ (page : ℕ). nat_lt page count) qs ≡ true) (all_pass ps) (below_some (λ (p : ℕ). true) count 0 count (omega arith)))
    (from_own earlier later ps agree)
