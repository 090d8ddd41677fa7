-- How many numbers below a bound pass a test, and how many pages are changed.
use Rattle.std.proofs.Common.{◌≡◌, ℕ, zero, suc, ◌+◌, ◌<◌, ◌≤◌, Bool, true, false, ⊎_elim, refl, sym, ap, ◌∙◌, arith, add-one, add-zero}
use Rattle.std.specs.Prelude.{if◌then◌else◌}
use Rattle.std.proofs.lemmas.Bool.{cases_lt}
use Rattle.file_content.specs.Pages.{pages_of}
use Rattle.shadow_pages.specs.Working.{Working, count_below}
use Rattle.new_contents.specs.Changed.{HasChanged, is_changed, needed}

module _ (f : ℕ → Bool) where
  one_more : (n : ℕ) → count_below f (n + 1) ≡ count_below f n + (if f n then 1 else 0)
  one_more n = ap (count_below f) (add-one n)

  pub count_true : (n : ℕ) → f n ≡ true → count_below f (n + 1) ≡ count_below f n + 1
  count_true n is = one_more n ∙ ap (λ (b : Bool). count_below f n + (if b then 1 else 0)) is

  pub count_false : (n : ℕ) → f n ≡ false → count_below f (n + 1) ≡ count_below f n
  count_false n is = one_more n ∙ ap (λ (b : Bool). count_below f n + (if b then 1 else 0)) is ∙ add-zero (count_below f n)

  added : (b : Bool) (n : ℕ) → n ≤ n + (if b then 1 else 0)
  added true n = omega arith
  added false n = omega arith

  pub count_grows : (m n : ℕ) → m ≤ n → count_below f m ≤ count_below f n
  count_grows m zero le = let e : m ≡ 0 = omega arith in let same = ap (count_below f) e in omega arith
  count_grows m (suc n) le = ⊎_elim
      (λ (lt : m < suc n). let before = count_grows m n (omega arith) in let more = added (f n) (count_below f n) in omega arith)
      (λ (ge : suc n ≤ m). let e : m ≡ suc n = omega arith in let same = ap (count_below f) e in omega arith)
      (cases_lt m (suc n))

  -- where one passes, there are more behind it
  pub count_passes : (i n : ℕ) → i < n → f i ≡ true → count_below f i < count_below f n
  count_passes i n lt is = let more = count_true i is in let grows = count_grows (i + 1) n (omega arith) in omega arith

  -- none between two numbers passes
  pub count_gap : (m n : ℕ) → m ≤ n → ((p : ℕ) → m ≤ p → p < n → f p ≡ false) → count_below f n ≡ count_below f m
  count_gap m zero le none = let e : m ≡ 0 = omega arith in sym (ap (count_below f) e)
  count_gap m (suc n) le none = ⊎_elim
      (λ (lt : m < suc n). ap (λ (b : Bool). count_below f n + (if b then 1 else 0)) (none n (omega arith) (omega arith)) ∙ add-zero (count_below f n) ∙ count_gap m n (omega arith) (λ p low high. none p low (omega arith)))
      (λ (ge : suc n ≤ m). let e : suc n ≡ m = omega arith in ap (count_below f) e)
      (cases_lt m (suc n))

  -- where none passes from a number on, the others are all there are
  pub none_passes : (from p total : ℕ) → total ≤ p → ((k : ℕ) → from ≤ k → k < p → f k ≡ false) → count_below f from < count_below f total → ⊥
  none_passes from p total end none more = ⊎_elim
      (λ (lt : from < total). let gap = count_gap from total (omega arith) (λ k low high. none k low (omega arith)) in absurd (omega arith))
      (λ (ge : total ≤ from). let grows = count_grows total from ge in absurd (omega arith))
      (cases_lt from total)

not_true : (b : Bool) → (b ≡ true → ⊥) → b ≡ false
not_true true never = absurd (never refl)
not_true false never = refl

-- a page of the content outside the row of the changed ones isn't changed
pub unchanged : (w : Working) (first stop i : ℕ) → HasChanged first stop w → i < pages_of w.size → ((first ≤ i) × (i < stop) → ⊥) → is_changed w i ≡ false
unchanged w first stop i has inside out = not_true (is_changed w i) (λ yes. out (has i inside yes))

module _ (w : Working) (test : ℕ → Bool) (same : (i : ℕ) → i < pages_of w.size → is_changed w i ≡ test i) where
  -- so many of the first pages are changed as pass the test
  counts : (n : ℕ) → n ≤ pages_of w.size → count_below (is_changed w) n ≡ count_below test n
  counts zero le = refl
  counts (suc n) le =
      let before = counts n (omega arith) in
      let here = same n (omega arith) in
      (λ i. let m : ℕ = if here i then 1 else 0 in before i + m)

  pub needed_by : needed w ≡ count_below test (pages_of w.size)
  needed_by = counts (pages_of w.size) (omega arith)

  -- so many as pass it in a row, where all that are changed are there
  pub needed_row : (first stop n : ℕ) → HasChanged first stop w → first ≤ stop → stop ≤ pages_of w.size → count_below test first + n ≡ count_below test stop → n ≡ needed w
  needed_row first stop n has ordered inside is =
      let end = pages_of w.size in
      let before = count_gap (is_changed w) 0 first (omega arith) (λ p low high. unchanged w first stop p has (omega (arith, high, ordered, inside)) (λ out. omega (arith, out.0, high))) in
      let behind = count_gap (is_changed w) stop end inside (λ p low high. unchanged w first stop p has high (λ out. omega (arith, out.1, low))) in
      omega (arith, is, before, behind, counts first (omega arith), counts stop inside)
