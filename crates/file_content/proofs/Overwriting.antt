-- Bytes written within a content, and past its end.
use Rattle.std.proofs.Common.{◌≡◌, ◌≤◌, ◌+◌, ◌-◌, ◌++◌, ◌∷◌, ℕ, zero, suc, List, [], length, take, drop, replicate, refl, sym, ap, ◌∙◌, arith}
use Rattle.file_content.specs.Contents.{written}

take-front : (xs ys : List ℕ) (n : ℕ) → n ≤ length xs → take n (xs ++ ys) ≡ take n xs
take-front xs ys zero h = refl
take-front [] ys (suc n) h = absurd (omega (arith, h))
take-front (x ∷ xs) ys (suc n) h = ap (λ zs. x ∷ zs) (take-front xs ys n (omega (arith, h)))

drop-whole : (xs : List ℕ) (n : ℕ) → length xs ≤ n → drop n xs ≡ []
drop-whole [] zero h = refl
drop-whole [] (suc n) h = refl
drop-whole (x ∷ xs) zero h = absurd (omega (arith, h))
drop-whole (x ∷ xs) (suc n) h = drop-whole xs n (omega (arith, h))

drop-drop : (xs : List ℕ) (n m : ℕ) → drop (n + m) xs ≡ drop m (drop n xs)
drop-drop xs zero m = let same : zero + m ≡ m = omega arith in ap (λ k. drop k xs) same
drop-drop [] (suc n) m = drop-whole [] (suc n + m) (omega arith) ∙ sym (drop-whole [] m (omega arith))
drop-drop (x ∷ xs) (suc n) m =
    let next : suc n + m ≡ suc (n + m) = omega arith in
    ap (λ k. drop k (x ∷ xs)) next ∙ drop-drop xs n m

pub writes : (content : List ℕ) (at : ℕ) (bytes : List ℕ) → at ≤ length content → written content at bytes ≡ take at content ++ bytes ++ drop (length bytes) (drop at content)
writes content at bytes h =
    ap (λ front. front ++ bytes ++ drop (at + length bytes) content) (take-front content (replicate (at - length content) 0) at h)
    ∙ ap (λ back. take at content ++ bytes ++ back) (drop-drop content at (length bytes))

take-whole : (xs : List ℕ) (n : ℕ) → length xs ≤ n → take n xs ≡ xs
take-whole [] zero h = refl
take-whole [] (suc n) h = refl
take-whole (x ∷ xs) zero h = absurd (omega (arith, h))
take-whole (x ∷ xs) (suc n) h = ap (λ zs. x ∷ zs) (take-whole xs n (omega (arith, h)))

length-zeros : (n : ℕ) → length {A = ℕ} (replicate n 0) ≡ n
length-zeros zero = refl
length-zeros (suc n) = ap suc (length-zeros n)

length-both : (xs ys : List ℕ) → length (xs ++ ys) ≡ length xs + length ys
length-both [] ys = omega arith
length-both (x ∷ xs) ys = let e = length-both xs ys in omega (arith, e)

append-nothing : (xs : List ℕ) → xs ++ [] ≡ xs
append-nothing [] = refl
append-nothing (x ∷ xs) = ap (λ ys. x ∷ ys) (append-nothing xs)

pub writes_past : (content : List ℕ) (at : ℕ) (bytes : List ℕ) → length content ≤ at → written content at bytes ≡ (content ++ replicate (at - length content) 0) ++ bytes
writes_past content at bytes h =
    let zeros : List ℕ = replicate (at - length content) 0 in
    let long : length (content ++ zeros) ≤ at = omega (arith, length-both content zeros, length-zeros (at - length content), h) in
    let front : take at (content ++ zeros) ≡ content ++ zeros = take-whole (content ++ zeros) at long in
    let nothing : drop (at + length bytes) content ≡ [] = drop-whole content (at + length bytes) (omega (arith, h)) in
    ap (λ (xs : List ℕ). xs ++ bytes ++ drop (at + length bytes) content) front
    ∙ ap (λ (xs : List ℕ). (content ++ zeros) ++ bytes ++ xs) nothing
    ∙ append-nothing ((content ++ zeros) ++ bytes)
