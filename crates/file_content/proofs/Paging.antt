-- Pages one after the other.
use Rattle.std.proofs.Common.{◌≡◌, ◌<◌, ◌+◌, ◌-◌, ◌∷◌, ◌++◌, ℕ, zero, suc, nat_le, Bool, true, false, List, [], length, refl, ◌∙◌, ap, arith}
use Rattle.file_content.specs.Pages.{pages_from, placed, ascending}

-- so many pages from one on are so many
pub length_from : (first count : ℕ) → length (pages_from first count) ≡ count
length_from first zero = refl
length_from first (suc more) = ap (λ (n : ℕ). suc n) (length_from (first + 1) more)

length_placed : (page : ℕ) (pages : List ℕ) → length (placed page pages) ≡ suc (length pages)
length_placed page [] = refl
length_placed page (p ∷ ps) = by_test (nat_le page p) (length_placed page ps)
  where
    by_test : (b : Bool) → length (placed page ps) ≡ suc (length ps) → length (elim b as (λ (x : Bool). List ℕ) [ true ↦ page ∷ p ∷ ps | false ↦ p ∷ placed page ps ]) ≡ suc (suc (length ps))
    by_test true e = refl
    by_test false e = ap (λ (n : ℕ). suc n) e

-- in ascending order they are as many
pub length_ascending : (pages : List ℕ) → length (ascending pages) ≡ length pages
length_ascending [] = refl
length_ascending (page ∷ pages) = length_placed page (ascending pages) ∙ ap (λ (n : ℕ). suc n) (length_ascending pages)

-- where a page is left, it is the first of those that are left
pub next_page : (page end : ℕ) → page < end → pages_from page (end - page) ≡ page ∷ pages_from (page + 1) (end - (page + 1))
next_page page end h =
    let more : end - page ≡ suc (end - (page + 1)) = omega (arith, h) in
    ap (pages_from page) more

pub no_page : (end : ℕ) → pages_from end (end - end) ≡ []
no_page end = let none : end - end ≡ 0 = omega arith in ap (pages_from end) none

-- a page put at the end of a list stands before those that follow it
pub put_before : (made : List ℕ) (page : ℕ) (rest : List ℕ) → (made ++ page ∷ []) ++ rest ≡ made ++ page ∷ rest
put_before [] page rest = refl
put_before (x ∷ xs) page rest = ap (λ ys. x ∷ ys) (put_before xs page rest)
