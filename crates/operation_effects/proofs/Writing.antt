-- Bytes written in place: within the content, over its end, and past it.
use Rattle.std.proofs.Common.{◌≡◌, ◌≤◌, ◌+◌, ◌-◌, ◌++◌, ◌∷◌, ℕ, zero, suc, List, [], length, take, drop, replicate, refl, sym, ap, ◌∙◌, subst, arith}
use Rattle.file_content.specs.Contents.{written}
use Rattle.file_content.proofs.Overwriting.{writes, writes_past}

drop-sum : (xs : List ℕ) (n m : ℕ) → drop m (drop n xs) ≡ drop (n + m) xs
drop-sum xs zero m = let same : zero + m ≡ m = omega arith in ap (λ k. drop k xs) (sym same)
drop-sum [] (suc n) m = none m ∙ sym (none (suc n + m)) where
  none : (k : ℕ) → drop {A = ℕ} k [] ≡ []
  none zero = refl
  none (suc k) = refl
drop-sum (x ∷ xs) (suc n) m = let next : suc n + m ≡ suc (n + m) = omega arith in drop-sum xs n m ∙ ap (λ k. drop k (x ∷ xs)) (sym next)

drop-whole : (xs : List ℕ) (n : ℕ) → length xs ≤ n → drop n xs ≡ []
drop-whole [] zero h = refl
drop-whole [] (suc n) h = refl
drop-whole (x ∷ xs) zero h = absurd (omega (arith, h))
drop-whole (x ∷ xs) (suc n) h = drop-whole xs n (omega (arith, h))

append-nothing : (xs : List ℕ) → xs ++ [] ≡ xs
append-nothing [] = refl
append-nothing (x ∷ xs) = ap (λ ys. x ∷ ys) (append-nothing xs)

pub within : (content : List ℕ) (at : ℕ) (bytes : List ℕ) → at + length bytes ≤ length content → take at content ++ bytes ++ drop (at + length bytes) content ≡ written content at bytes
within content at bytes h =
    ap (λ (back : List ℕ). take at content ++ bytes ++ back) (sym (drop-sum content at (length bytes)))
    ∙ sym (writes content at bytes (omega (arith, h)))

pub over_end : (content : List ℕ) (at : ℕ) (bytes : List ℕ) → at ≤ length content → length content ≤ at + length bytes → take at content ++ bytes ≡ written content at bytes
over_end content at bytes h k =
    sym (append-nothing (take at content ++ bytes))
    ∙ ap (λ (back : List ℕ). take at content ++ bytes ++ back) (sym (drop-whole content (at + length bytes) k) ∙ sym (drop-sum content at (length bytes)))
    ∙ sym (writes content at bytes h)

pub past : (content : List ℕ) (at : ℕ) (bytes : List ℕ) → length content ≤ at → (content ++ replicate (at - length content) 0) ++ bytes ≡ written content at bytes
past content at bytes h = sym (writes_past content at bytes h)
