-- The value of digits, one after another.
use Rattle.std.proofs.Common.{ℕ, zero, suc, ◌≡◌, ◌+◌, ◌*◌, ◌<◌, ◌≤◌, ◌^◌, true, List, [], ◌∷◌, length, take, drop, get_or, refl, sym, ap, ◌∙◌, subst, arith}
use Rattle.std.specs.Fmt.{decimal}
use Rattle.std.specs.Char.{digit_value}
use Rattle.std.specs.Str.Parse.{AllDigits, digits_value, digits_value_after}
use Rattle.std.proofs.lemmas.Str.{digit_value_digit}
use Rattle.std.proofs.lemmas.Str.Parse.{digit_at}
use Rattle.std.proofs.lemmas.Fmt.{decimal-digits_value, decimal_is_IsNumeral}
use Rattle.line_text.specs.Numerals.{IsNumber, begins_well}
use Rattle.line_text.proofs.NumberTexts.{own, well_first}

-- more digits make no less
pub no_less : (n : ℕ) (bs : List ℕ) → n ≤ digits_value_after 10 n bs
no_less n [] = omega arith
no_less n (c ∷ cs) = let h : n * 10 + digit_value c ≤ digits_value_after 10 (n * 10 + digit_value c) cs = no_less (n * 10 + digit_value c) cs in omega arith

-- the next digit
pub next_value : (bs : List ℕ) (i n : ℕ) → i < length bs → digits_value_after 10 n (drop i bs) ≡ digits_value_after 10 (n * 10 + digit_value (get_or bs i 0)) (drop (suc i) bs)
next_value [] i n l = absurd (omega (arith, l))
next_value (c ∷ cs) zero n l = refl
next_value (c ∷ cs) (suc i) n l = next_value cs i n (omega (arith, l))

pub next_digit : (bs : List ℕ) (i : ℕ) → i < length bs → AllDigits 10 (take i bs) → digit_value (get_or bs i 0) < 10 → AllDigits 10 (take (suc i) bs)
next_digit [] i l h d = absurd (omega (arith, l))
next_digit (c ∷ cs) zero l h d = (d, tt)
next_digit (c ∷ cs) (suc i) l h d = (h.0, next_digit cs i (omega (arith, l)) h.1 d)

-- digits that begin well are the text of their value
pub text_of_value : (bs : List ℕ) (n : ℕ) → AllDigits 10 bs → n ≡ digits_value 10 bs → n < 2 ^ 32 → begins_well bs ≡ true → bs ≡ decimal n
text_of_value bs n all same small well =
    let f = well_first bs well in
    let low : digits_value 10 bs < 2 ^ 64 = omega (arith, same, small) in
    sym (decimal-digits_value own bs all f.1 f.2 low) ∙ ap decimal (sym same)

-- a number's text has its value, and is of digits alone
pub value_of_text : (most n : ℕ) (bs : List ℕ) → most < 2 ^ 32 → IsNumber most bs n → (digits_value 10 bs ≡ n) × AllDigits 10 bs
value_of_text most n bs small h =
    let low : n < 2 ^ 64 = omega (arith, h.1, small) in
    (ap (digits_value 10) h.0 ∙ (decimal_is_IsNumeral n low).1, subst (AllDigits 10) (sym h.0) (decimal_is_IsNumeral n low).0.1)

-- behind the last

pub take_beyond : (bs : List ℕ) (i : ℕ) → length bs ≤ i → take i bs ≡ bs
take_beyond [] zero l = refl
take_beyond [] (suc i) l = refl
take_beyond (c ∷ cs) zero l = absurd (omega (arith, l))
take_beyond (c ∷ cs) (suc i) l = ap (λ ds. c ∷ ds) (take_beyond cs i (omega (arith, l)))

pub drop_beyond : (bs : List ℕ) (i : ℕ) → length bs ≤ i → drop i bs ≡ []
drop_beyond [] zero l = refl
drop_beyond [] (suc i) l = refl
drop_beyond (c ∷ cs) zero l = absurd (omega (arith, l))
drop_beyond (c ∷ cs) (suc i) l = drop_beyond cs i (omega (arith, l))

-- the value that is read is that of all digits, where none is left
pub read_value : (bs : List ℕ) (i n : ℕ) → length bs ≤ i → digits_value_after 10 n (drop i bs) ≡ digits_value 10 bs → n ≡ digits_value 10 bs
read_value bs i n l h = sym (ap (digits_value_after 10 n) (drop_beyond bs i l)) ∙ h
