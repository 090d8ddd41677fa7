-- Lists of numbers of pages, one after the other.
use Rattle.std.proofs.Common.{◌≡◌, ◌<◌, ◌≤◌, ◌+◌, ◌-◌, ◌&&◌, Bool, true, false, ℕ, zero, suc, nat_lt, nat_le, List, [], ◌∷◌, ◌++◌, length, drop, slice_index, refl, sym, ap, ◌∙◌, arith}
use Rattle.std.proofs.lemmas.Bool.Decides.{nat_tests}
use Rattle.std.specs.List.{list_all}
use Rattle.role_steps.proofs.of_plain_facts.Numbers.{at_most_test, less_test}
use Rattle.role_steps.proofs.of_plain_facts.Tests.{and_true}
use Rattle.role_steps.specs.Pulling.{ascend_from}
use Rattle.file_content.specs.Pages.{pages_from}

-- ---- a number at a place ----

pub past : (pages : List ℕ) (place : ℕ) → length pages ≤ place → slice_index pages place ≡ 0
past [] place l = refl
past (p ∷ ps) zero l = absurd (omega arith)
past (p ∷ ps) (suc place) l = past ps place (omega arith)

-- ---- numbers that ascend, from a place on ----

below_test : (least p : ℕ) → p < least → nat_le least p ≡ false
below_test least p l = grind (arith, nat_tests)

ascends_after : (least at page : ℕ) (pages : List ℕ) → at < length pages → page ≡ slice_index pages at → least ≤ page → ascend_from least (drop at pages) ≡ ascend_from (suc page) (drop (suc at) pages)
ascends_after least at page [] l e m = absurd (omega arith)
ascends_after least zero page (p ∷ ps) l e m =
    let test : nat_le least p ≡ true = at_most_test least p (omega (arith, e, m)) in
    let next : suc p ≡ suc page = omega (arith, e) in
    ap (λ (b : Bool). b && ascend_from (suc p) ps) test ∙ ap (λ (n : ℕ). ascend_from n ps) next
ascends_after least (suc at) page (p ∷ ps) l e m = ascends_after least at page ps (omega arith) e m

pub ascends_on : (least at page : ℕ) (pages : List ℕ) → at < length pages → page ≡ slice_index pages at → least ≤ page → ascend_from least (drop at pages) ≡ ascend_from (page + 1) (drop (at + 1) pages)
ascends_on least at page pages l e m =
    let one : suc page ≡ page + 1 = omega arith in
    let next : suc at ≡ at + 1 = omega arith in
    ascends_after least at page pages l e m ∙ (ap (λ (n : ℕ). ascend_from n (drop (suc at) pages)) one ∙ ap (λ (n : ℕ). ascend_from (page + 1) (drop n pages)) next)

pub ascends_not : (least at page : ℕ) (pages : List ℕ) → at < length pages → page ≡ slice_index pages at → page < least → ascend_from least (drop at pages) ≡ false
ascends_not least at page [] l e m = absurd (omega arith)
ascends_not least zero page (p ∷ ps) l e m = let test : nat_le least p ≡ false = below_test least p (omega (arith, e, m)) in ap (λ (b : Bool). b && ascend_from (suc p) ps) test
ascends_not least (suc at) page (p ∷ ps) l e m = ascends_not least at page ps (omega arith) e m

pub ascends_out : (least at : ℕ) (pages : List ℕ) → length pages ≤ at → ascend_from least (drop at pages) ≡ true
ascends_out least at [] l = drop_none at
  where
    drop_none : (n : ℕ) → ascend_from least (drop n []) ≡ true
    drop_none zero = refl
    drop_none (suc n) = refl
ascends_out least zero (p ∷ ps) l = absurd (omega arith)
ascends_out least (suc at) (p ∷ ps) l = ascends_out least at ps (omega arith)

-- ---- all numbers from one on up to an end ----

-- where a number is left, it is the first of those that are left
pub next_from : (page end : ℕ) → page < end → pages_from page (end - page) ≡ page ∷ pages_from (page + 1) (end - (page + 1))
next_from page end l = let more : end - page ≡ suc (end - (page + 1)) = omega (arith, l) in ap (pages_from page) more

pub none_from : (page end : ℕ) → end ≤ page → pages_from page (end - page) ≡ []
none_from page end l = let none : end - page ≡ 0 = omega (arith, l) in ap (pages_from page) none

-- a number put at the end of a list stands before those that follow it
pub put_before : (made : List ℕ) (page : ℕ) (rest : List ℕ) → (made ++ page ∷ []) ++ rest ≡ made ++ page ∷ rest
put_before [] page rest = refl
put_before (x ∷ xs) page rest = ap (λ ys. x ∷ ys) (put_before xs page rest)

pub all_on : (has : ℕ → Bool) (page end : ℕ) → page < end → has page ≡ true → list_all has (pages_from page (end - page)) ≡ list_all has (pages_from (page + 1) (end - (page + 1)))
all_on has page end l h = ap (list_all has) (next_from page end l) ∙ ap (λ (b : Bool). b && list_all has (pages_from (page + 1) (end - (page + 1)))) h

pub all_not : (has : ℕ → Bool) (page end : ℕ) → page < end → has page ≡ false → list_all has (pages_from page (end - page)) ≡ false
all_not has page end l h = ap (list_all has) (next_from page end l) ∙ ap (λ (b : Bool). b && list_all has (pages_from (page + 1) (end - (page + 1)))) h

pub all_out : (has : ℕ → Bool) (page end : ℕ) → end ≤ page → list_all has (pages_from page (end - page)) ≡ true
all_out has page end l = ap (list_all has) (none_from page end l)

-- they ascend, and are below the end
pub from_ascend : (least first more : ℕ) → least ≤ first → ascend_from least (pages_from first more) ≡ true
from_ascend least first zero l = refl
from_ascend least first (suc more) l = and_true (nat_le least first) (ascend_from (suc first) (pages_from (first + 1) more)) (at_most_test least first l) (from_ascend (suc first) (first + 1) more (omega arith))

pub from_below : (end first more : ℕ) → first + more ≤ end → list_all (λ page. nat_lt page end) (pages_from first more) ≡ true
from_below end first zero l = refl
from_below end first (suc more) l = and_true (nat_lt first end) (list_all (λ page. nat_lt page end) (pages_from (first + 1) more)) (less_test first end (omega (arith, l))) (from_below end (first + 1) more (omega (arith, l)))
