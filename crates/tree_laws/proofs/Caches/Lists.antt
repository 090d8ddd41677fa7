-- Pieces of lists: the bytes of a content in one page, and those behind it.
use Rattle.std.proofs.Common.{◌≡◌, ◌≤◌, ◌<◌, ℕ, zero, suc, ◌+◌, ◌-◌, min, nat_le, Bool, true, false, ◌⊎◌, inl, inr, List, [], ◌∷◌, ◌++◌, length, take, drop, replicate, refl, sym, ap, ◌∙◌, arith, append-nil}
use Rattle.std.proofs.lemmas.List.{length-take, length-take-le, take_all, take-take, take-append-le, drop_all}
use Rattle.std.proofs.lemmas.Bool.Decides.{nat_tests}
use Rattle.plain_facts.proofs.Numbers.{at_most}

above : (a b : ℕ) → nat_le a b ≡ false → b < a
above a b e = grind (arith, nat_tests)

-- one number is at most another, or above it
pub order : (a b : ℕ) → (a ≤ b) ⊎ (b < a)
order a b = by_test (nat_le a b) refl
  where
    by_test : (t : Bool) → nat_le a b ≡ t → (a ≤ b) ⊎ (b < a)
    by_test true e = inl (at_most a b e)
    by_test false e = inr (above a b e)

abbrev none : List ℕ
none = []

take_none : (k : ℕ) → take k none ≡ none
take_none zero = refl
take_none (suc k) = refl

pub drop_none : (k : ℕ) → drop k none ≡ none
drop_none zero = refl
drop_none (suc k) = refl

-- what is taken of a list, cut at any place
take_split : (m n : ℕ) (xs : List ℕ) → take (m + n) xs ≡ take m xs ++ take n (drop m xs)
take_split zero n xs = let e : 0 + n ≡ n = omega arith in ap (λ k. take k xs) e
take_split (suc m) n [] = take_none (suc m + n) ∙ sym (take_none n)
take_split (suc m) n (x ∷ xs) =
    let e : suc m + n ≡ suc (m + n) = omega arith in
    ap (λ k. take k (x ∷ xs)) e ∙ ap (λ ys. x ∷ ys) (take_split m n xs)

-- what is left of two lists
drop_both : (k : ℕ) (xs ys : List ℕ) → drop k (xs ++ ys) ≡ drop k xs ++ drop (k - length xs) ys
drop_both k [] ys =
    let e : k ≡ k - 0 = omega arith in
    ap (λ j. drop j ys) e ∙ sym (ap (λ zs. zs ++ drop (k - 0) ys) (drop_none k))
drop_both zero (x ∷ xs) ys = let e : 0 ≡ 0 - suc (length xs) = omega arith in ap (λ j. x ∷ (xs ++ drop j ys)) e
drop_both (suc k) (x ∷ xs) ys = let e : k - length xs ≡ suc k - suc (length xs) = omega arith in drop_both k xs ys ∙ ap (λ j. drop k xs ++ drop j ys) e

-- what is taken past a place, seen from there
pub drop_taken : (k n : ℕ) (xs : List ℕ) → drop k (take n xs) ≡ take (n - k) (drop k xs)
drop_taken zero n xs = let e : n ≡ n - 0 = omega arith in ap (λ j. take j xs) e
drop_taken (suc k) zero xs = let e : 0 ≡ 0 - suc k = omega arith in ap (λ j. take j (drop (suc k) xs)) e
drop_taken (suc k) (suc n) [] = sym (take_none (suc n - suc k))
drop_taken (suc k) (suc n) (x ∷ xs) = let e : n - k ≡ suc n - suc k = omega arith in drop_taken k n xs ∙ ap (λ j. take j (drop k xs)) e

-- as many as are asked, or all where there are no more
pub take_same : (m n : ℕ) (xs : List ℕ) → (m ≡ n) ⊎ ((length xs ≤ m) × (length xs ≤ n)) → take m xs ≡ take n xs
take_same m n xs (inl e) = ap (λ k. take k xs) e
take_same m n xs (inr h) = take_all m xs h.0 ∙ sym (take_all n xs h.1)

-- of so many bytes that are filled up, what the content has
padded_so : (e n : ℕ) (xs ys : List ℕ) → ys ≡ take n xs → length ys ≡ min n (length xs) → e ≤ length xs → (e ≤ n) ⊎ (n < e) → take e (ys ++ replicate (n - length ys) 0) ≡ take (min e n) xs
padded_so e n xs ys s few h (inl l) =
    let within : e ≤ length ys = omega (arith, few, h, l) in
    let least : e ≡ min e n = omega (arith, l) in
    take-append-le e ys (replicate (n - length ys) 0) within ∙ (ap (take e) s ∙ (take-take e n xs l ∙ ap (λ k. take k xs) least))
padded_so e n xs ys s few h (inr l) =
    let full : n - length ys ≡ 0 = omega (arith, few, h, l) in
    let least : n ≡ min e n = omega (arith, l) in
    let short : length ys ≤ e = omega (arith, few, l) in
    ap (λ k. take e (ys ++ replicate k 0)) full
    ∙ (ap (take e) (append-nil ys) ∙ (take_all e ys short ∙ (s ∙ ap (λ k. take k xs) least)))

pub take_padded : (e n : ℕ) (xs : List ℕ) → e ≤ length xs → take e (take n xs ++ replicate (n - length (take n xs)) 0) ≡ take (min e n) xs
take_padded e n xs h = padded_so e n xs (take n xs) refl (length-take n xs) h (order e n)

-- behind so many, those that follow them
seam : (a n k : ℕ) (xs : List ℕ) → (n ≤ length xs) ⊎ (length xs < n) → drop (a - length (take n xs)) (take k (drop n xs)) ≡ drop (a - n) (take k (drop n xs))
seam a n k xs (inl m) = ap (λ j. drop (a - j) (take k (drop n xs))) (length-take-le n xs m)
seam a n k xs (inr m) =
    let nothing : take k (drop n xs) ≡ none = ap (take k) (drop_all n xs (omega (arith, m))) ∙ take_none k in
    ap (drop (a - length (take n xs))) nothing ∙ (drop_none (a - length (take n xs)) ∙ (sym (drop_none (a - n)) ∙ ap (drop (a - n)) (sym nothing)))

split_so : (a e n : ℕ) (xs : List ℕ) → a ≤ e → (e ≤ n) ⊎ (n < e) → drop a (take e xs) ≡ drop a (take (min e n) xs) ++ drop (a - n) (take (e - n) (drop n xs))
split_so a e n xs h (inl l) =
    let least : e ≡ min e n = omega (arith, l) in
    let nothing : 0 ≡ e - n = omega (arith, l) in
    let first : 0 ≡ a - n = omega (arith, l, h) in
    ap (λ k. drop a (take k xs)) least
    ∙ (sym (append-nil (drop a (take (min e n) xs)))
    ∙ (ap (λ k. drop a (take (min e n) xs) ++ take k (drop n xs)) nothing
    ∙ ap (λ k. drop a (take (min e n) xs) ++ drop k (take (e - n) (drop n xs))) first))
split_so a e n xs h (inr l) =
    let least : n ≡ min e n = omega (arith, l) in
    let sum : e ≡ n + (e - n) = omega (arith, l) in
    ap (λ k. drop a (take k xs)) sum
    ∙ (ap (drop a) (take_split n (e - n) xs)
    ∙ (drop_both a (take n xs) (take (e - n) (drop n xs))
    ∙ (ap (λ ys. drop a (take n xs) ++ ys) (seam a n (e - n) xs (order n (length xs)))
    ∙ ap (λ k. drop a (take k xs) ++ drop (a - n) (take (e - n) (drop n xs))) least)))

-- the bytes from a place up to an end are those among the first so many, and those behind them
pub piece_split : (a e n : ℕ) (xs : List ℕ) → a ≤ e → drop a (take e xs) ≡ drop a (take (min e n) xs) ++ drop (a - n) (take (e - n) (drop n xs))
piece_split a e n xs h = split_so a e n xs h (order e n)
