-- A page at its place in an ascending list.
use Rattle.std.proofs.Common.{◌≡◌, ℕ, zero, suc, ◌<◌, ◌≤◌, List, [], ◌∷◌, length, get_or, drop, refl, ap, sym, ◌∙◌, arith}
use Rattle.std.specs.List.{insert}
use Rattle.std.proofs.lemmas.Bool.Decides.{nat_tests}
use Rattle.std.specs.Prelude.{nat_le, true, false}
use Rattle.role_steps.proofs.of_plain_facts.Numbers.{at_most_test}
use Rattle.file_content.specs.Pages.{ascending, placed}

-- the numbers up to this place are below a page
abbrev pub AreBelow : List ℕ → ℕ → ℕ → Type 0
AreBelow pages at page = (j : ℕ) → j < at → get_or pages j 0 < page

above_test : (page p : ℕ) → p < page → nat_le page p ≡ false
above_test page p less = grind (arith, nat_tests)

-- it comes after those that are below it
pub placed_at : (pages : List ℕ) (at page : ℕ) → at ≤ length pages → AreBelow pages at page → (at < length pages → page ≤ get_or pages at 0) → insert pages at page ≡ placed page pages
placed_at [] zero page inside below next = refl
placed_at [] (suc at) page inside below next = absurd (omega arith)
placed_at (p ∷ ps) zero page inside below next = rw (at_most_test page p (next (omega arith)), placed) refl
placed_at (p ∷ ps) (suc at) page inside below next =
    rw (above_test page p (below 0 (omega arith)), placed)
    (ap (λ (xs : List ℕ). p ∷ xs) (placed_at ps at page (omega arith) (λ j m. below (suc j) (omega arith)) (λ m. next (omega arith))))

-- the pages from a place on are that one and those after it
pub drop_at : (pages : List ℕ) (left now : ℕ) → now < length pages → left ≡ suc now → ascending (drop now pages) ≡ placed (get_or pages now 0) (ascending (drop left pages))
drop_at [] left now inside is = absurd (omega arith)
drop_at (p ∷ ps) left zero inside is = ap (λ (n : ℕ). placed p (ascending (drop n (p ∷ ps)))) (sym is)
drop_at (p ∷ ps) left (suc now) inside is = drop_at ps (suc now) now (omega arith) refl ∙ ap (λ (n : ℕ). placed (get_or ps now 0) (ascending (drop n (p ∷ ps)))) (sym is)
