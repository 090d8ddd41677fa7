-- How many pages are changed, and how many numbers pass a test.
use Rattle.std.proofs.Common.{◌≡◌, ℕ, zero, suc, ◌+◌, ◌<◌, ◌≤◌, Bool, true, false, cond, List, [], ◌∷◌, ◌++◌, length, get_or, set, take, min, ◌&&◌, IsTrue, ◌↔◌, sym, inl, inr, Option, Some, None, refl, arith}
use Rattle.std.proofs.lemmas.Bool.{cases_lt, cases_Bool}
use Rattle.std.proofs.lemmas.List.{take_more}
use Rattle.std.specs.Option.{is_none, is_some}
use Rattle.shadow_pages.specs.Working.{number_changed, count_below}

pub number_changed-append : (xs ys : List (Option (List ℕ))) → number_changed (xs ++ ys) ≡ number_changed xs + number_changed ys
number_changed-append [] ys = omega arith
number_changed-append (x ∷ xs) ys = omega (arith, number_changed-append xs ys)

pub number_changed_le : (xs : List (Option (List ℕ))) → number_changed xs ≤ length xs
number_changed_le [] = omega arith
number_changed_le (None ∷ xs) = omega (arith, number_changed_le xs)
number_changed_le (Some p ∷ xs) = omega (arith, number_changed_le xs)

-- a page put into its place counts if it wasn't changed before
pub number_changed-set : (xs : List (Option (List ℕ))) (i : ℕ) (page : List ℕ) → i < length xs → number_changed (set xs i (Some page)) ≡ number_changed xs + cond (is_none (get_or xs i None)) 1 0
number_changed-set [] i page lt = absurd (omega arith)
number_changed-set (None ∷ xs) zero page lt = omega arith
number_changed-set (Some p ∷ xs) zero page lt = omega arith
number_changed-set (x ∷ xs) (suc i) page lt = omega (arith, number_changed-set xs i page (omega arith))

pub count_below_le : (test : ℕ → Bool) (n : ℕ) → count_below test n ≤ n
count_below_le test zero = omega arith
count_below_le test (suc n) = one (test n) (count_below_le test n) where
  one : (b : Bool) → count_below test n ≤ n → count_below test n + cond b 1 0 ≤ suc n
  one true h = omega arith
  one false h = omega arith

-- tests that agree count alike
pub count_below_same : (f g : ℕ → Bool) (n : ℕ) → ((i : ℕ) → i < n → f i ≡ g i) → count_below f n ≡ count_below g n
count_below_same f g zero h = refl
count_below_same f g (suc n) h =
    let here : f n ≡ g n = h n (omega arith) in
    let others : count_below f n ≡ count_below g n = count_below_same f g n (λ i lt. h i (omega arith)) in
    rw (here, others) refl

pub count_below_none : (f : ℕ → Bool) (n : ℕ) → ((i : ℕ) → i < n → f i ≡ false) → count_below f n ≡ 0
count_below_none f zero h = refl
count_below_none f (suc n) h =
    let here : f n ≡ false = h n (omega arith) in
    let others : count_below f n ≡ 0 = count_below_none f n (λ i lt. h i (omega arith)) in
    rw (here, others) refl

count_first : (f : ℕ → Bool) (n : ℕ) → count_below f (suc n) ≡ cond (f 0) 1 0 + count_below (λ i. f (suc i)) n
count_first f zero = omega arith
count_first f (suc n) = let rest = count_first f n in omega (arith, rest)

abbrev no_pages : List (Option (List ℕ))
no_pages = []

none_in : (i : ℕ) → is_some (get_or no_pages i None) ≡ false
none_in zero = refl
none_in (suc i) = refl

-- past the last page none is changed
pub number_first : (xs : List (Option (List ℕ))) (n : ℕ) → length xs ≤ n → number_changed xs ≡ count_below (λ i. is_some (get_or xs i None)) n
number_first [] n le = sym (count_below_none (λ i. is_some (get_or no_pages i None)) n (λ i lt. none_in i))
number_first (x ∷ xs) zero le = absurd (omega arith)
number_first (x ∷ xs) (suc n) le =
    let first : count_below (λ i. is_some (get_or (x ∷ xs) i None)) (suc n) ≡ cond (is_some x) 1 0 + count_below (λ i. is_some (get_or xs i None)) n = count_first (λ i. is_some (get_or (x ∷ xs) i None)) n in
    let rest = number_first xs n (omega arith) in
    omega (arith, first, rest)

-- a page of no bytes at the end makes no difference
pub none_at : (xs : List (Option (List ℕ))) (i : ℕ) → get_or (xs ++ None ∷ []) i None ≡ get_or xs i None
none_at [] zero = refl
none_at [] (suc i) = refl
none_at (x ∷ xs) zero = refl
none_at (x ∷ xs) (suc i) = none_at xs i

one_page : (p : Option (List ℕ)) → number_changed (p ∷ []) ≡ cond (is_none p) 0 1
one_page None = refl
one_page (Some p) = refl

-- one page more
pub count_step : (pages : List (Option (List ℕ))) (i n : ℕ) → i < length pages → n ≡ number_changed (take i pages) → number_changed (take (i + 1) pages) ≡ n + cond (is_none (get_or pages i None)) 0 1
count_step pages i n lt e =
    rw (take_more pages i None lt) (omega (arith, number_changed-append (take i pages) (get_or pages i None ∷ []), one_page (get_or pages i None)))

module _ (t f : ℕ → Bool) (first stop : ℕ) (is : (i : ℕ) → IsTrue (t i) ↔ ((first ≤ i) × (i < stop))) (ordered : first ≤ stop) where
  missed : (i : ℕ) → ((first ≤ i) × (i < stop) → ⊥) → (t i && f i) ≡ false
  missed i no_page = elim (cases_Bool (t i)) [
    | inl yes_page ↦ absurd (no_page ((is i).0 yes_page))
    | inr e ↦ rw e refl
  ]

  met : (i : ℕ) → first ≤ i → i < stop → (t i && f i) ≡ f i
  met i low high = rw ((is i).1 (low, high)) refl

  -- the numbers of a span that pass a test
  up_to : (n : ℕ) → count_below (λ i. t i && f i) n + count_below f (min n first) ≡ count_below f (min n stop)
  up_to zero =
      let a : min 0 first ≡ 0 = omega arith in
      let b : min 0 stop ≡ 0 = omega arith in
      rw (a, b) refl
  up_to (suc n) = elim (cases_lt n first) [
    | inl lt ↦
        let a : min (suc n) first ≡ suc n = omega arith in
        let b : min (suc n) stop ≡ suc n = omega arith in
        let c : min n first ≡ n = omega arith in
        let d : min n stop ≡ n = omega arith in
        let so_far : count_below (λ i. t i && f i) n + count_below f n ≡ count_below f n = rw (c, d) at (up_to n) in
        rw (a, b, missed n (λ p. absurd (omega (arith, p.0)))) (omega (arith, so_far))
    | inr le ↦ elim (cases_lt n stop) [
      | inl lt ↦
          let a : min (suc n) first ≡ first = omega arith in
          let b : min (suc n) stop ≡ suc n = omega arith in
          let c : min n first ≡ first = omega arith in
          let d : min n stop ≡ n = omega arith in
          let so_far : count_below (λ i. t i && f i) n + count_below f first ≡ count_below f n = rw (c, d) at (up_to n) in
          rw (a, b, met n le lt) (omega (arith, so_far))
      | inr past ↦
          let a : min (suc n) first ≡ first = omega arith in
          let b : min (suc n) stop ≡ stop = omega arith in
          let c : min n first ≡ first = omega arith in
          let d : min n stop ≡ stop = omega arith in
          let so_far : count_below (λ i. t i && f i) n + count_below f first ≡ count_below f stop = rw (c, d) at (up_to n) in
          rw (a, b, missed n (λ p. absurd (omega (arith, p.1)))) (omega (arith, so_far))
    ]
  ]

  pub span_sum : (n : ℕ) → stop ≤ n → count_below (λ i. t i && f i) n + count_below f first ≡ count_below f stop
  span_sum n le =
      let c : min n first ≡ first = omega arith in
      let d : min n stop ≡ stop = omega arith in
      rw (c, d) at (up_to n)

  pub span_count : (n count : ℕ) → stop ≤ n → count + count_below f first ≡ count_below f stop → count ≡ count_below (λ i. t i && f i) n
  span_count n count le e =
      let c : min n first ≡ first = omega arith in
      let d : min n stop ≡ stop = omega arith in
      let so_far : count_below (λ i. t i && f i) n + count_below f first ≡ count_below f stop = rw (c, d) at (up_to n) in
      omega (arith, so_far, e)

pub at_any : (xs : List (Option (List ℕ))) (i : ℕ) (d e : Option (List ℕ)) → i < length xs → get_or xs i d ≡ get_or xs i e
at_any [] i d e lt = absurd (omega arith)
at_any (x ∷ xs) zero d e lt = refl
at_any (x ∷ xs) (suc i) d e lt = at_any xs i d e (omega arith)
