-- The texts of numbers.
use Rattle.std.proofs.Common.{◌≡◌, ℕ, ◌+◌, ◌<◌, ◌≤◌, ◌^◌, true, false, List, [], ◌∷◌, length, get_or, Some, None, refl, sym, ap, ◌∙◌, arith, ⊎_elim}
use Rattle.std.specs.Prelude.{◌&&◌, nat_le}
use Rattle.std.specs.Fmt.{decimal}
use Rattle.std.specs.Str.{bytes_eq}
use Rattle.std.specs.Str.Parse.{AllDigits, digits_value}
use Rattle.std.proofs.lemmas.Bool.{false≢true, leb-true, le-leb, and_parts, cases_lt}
use Rattle.std.proofs.lemmas.Bool.Decides.{nat_tests}
use Rattle.std.proofs.lemmas.Option.{cond_some}
use Rattle.std.proofs.lemmas.Slice.Eq.{bytes_eq-Decides}
use Rattle.std.proofs.lemmas.Str.Parse.{IsNumeralModel, numerals_by_value, tells_digits, not_in_digits, digit_at}
use Rattle.std.proofs.lemmas.Fmt.{digits_decimal, decimal_is_IsNumeral, decimal_injective, decimal_nonempty, decimal_digit, first_decimal}
use Rattle.schedule_lines.specs.Ranges.{is_between}
use Rattle.line_text.specs.Numerals.{begins_well}
use Rattle.line_text.specs.Words.{Lacks, is_decimal, number_in}

pub own : IsNumeralModel (AllDigits 10) (digits_value 10)
own = numerals_by_value (AllDigits 10) tells_digits

pub well_first : (w : List ℕ) → begins_well w ≡ true → (get_or w 0 0 ≡ 43 → ⊥) × (0 < length w) × (get_or w 0 0 ≡ 48 → length w ≡ 1)
well_first [] h = absurd (false≢true h)
well_first (c ∷ []) h =
    let p = and_parts (nat_le 48 c) (nat_le c 57) h in
    let low : 48 ≤ c = leb-true 48 c p.0 in
    (λ e. omega arith, omega arith, λ e. refl)
well_first (c ∷ d ∷ ds) h =
    let p = and_parts (nat_le 49 c) (nat_le c 57) h in
    let low : 49 ≤ c = leb-true 49 c p.0 in
    (λ e. omega arith, omega arith, λ e. absurd (omega arith))

both_ways : (a b c : ℕ) → a ≤ c → c ≤ b → (nat_le a c && nat_le c b) ≡ true
both_ways a b c low high = rw (le-leb a c low, le-leb c b high) refl

digits_begin_well : (ds : List ℕ) → AllDigits 10 ds → 0 < length ds → 48 < get_or ds 0 0 → begins_well ds ≡ true
digits_begin_well [] h some first = absurd (omega arith)
digits_begin_well (c ∷ []) h some first = let r = digit_at (c ∷ []) 0 h some in both_ways 48 57 c (omega arith) r.1
digits_begin_well (c ∷ d ∷ ds) h some first = let r = digit_at (c ∷ d ∷ ds) 0 h some in both_ways 49 57 c (omega arith) r.1

pub decimal_begins_well : (n : ℕ) → n < 2 ^ 32 → begins_well (decimal n) ≡ true
decimal_begins_well n small =
    ⊎_elim
    (λ (low : n < 10). rw (decimal_digit n low) (both_ways 48 57 (48 + n) (omega arith) (omega arith)))
    (λ (high : 10 ≤ n). digits_begin_well (decimal n) (digits_decimal own n (omega arith)) (decimal_nonempty n (omega arith)) (first_decimal n (omega arith) (omega arith)))
    (cases_lt n 10)

pub same_number : (m n : ℕ) → m < 2 ^ 32 → n < 2 ^ 32 → decimal m ≡ decimal n → m ≡ n
same_number m n hm hn e = decimal_injective m n (omega arith) (omega arith) e

-- the text of a number has no byte below the digits
pub decimal_lacks : (b n : ℕ) → b < 48 → n < 2 ^ 32 → Lacks b (decimal n)
decimal_lacks b n low small k lt = not_in_digits own (decimal n) b (digits_decimal own n (omega arith)) (λ r. omega arith) k lt

-- ---- numbers in a range

pub between_parts : (low most n : ℕ) → is_between low most n ≡ true → (low ≤ n) × (n ≤ most)
between_parts low most n h =
    let p = and_parts (nat_le low n) (nat_le n most) h in
    (leb-true low n p.0, leb-true n most p.1)

pub is_between_from : (low most n : ℕ) → low ≤ n → n ≤ most → is_between low most n ≡ true
is_between_from low most n a b = both_ways low most n a b

-- the number that a word gives is in the range, and the word is its text
pub number_sound : (low most : ℕ) (word : List ℕ) (n : ℕ) → number_in low most word ≡ Some n → (word ≡ decimal n) × (is_between low most n ≡ true)
number_sound low most word n h =
    let v = digits_value 10 word in
    let p = cond_some (is_decimal word v && is_between low most v) v n h in
    let q = and_parts (is_decimal word v) (is_between low most v) p.0 in
    let text : word ≡ decimal v = (bytes_eq-Decides word (decimal v)).0 q.0 in
    (text ∙ ap decimal p.1, ap (is_between low most) (sym p.1) ∙ q.1)

-- the text of a number gives the number
pub number_complete : (low most n : ℕ) → n < 2 ^ 32 → is_between low most n ≡ true → number_in low most (decimal n) ≡ Some n
number_complete low most n small h =
    let v : digits_value 10 (decimal n) ≡ n = (decimal_is_IsNumeral n (omega arith)).1 in
    let same : bytes_eq (decimal n) (decimal n) ≡ true = (bytes_eq-Decides (decimal n) (decimal n)).1 refl in
    rw (v, same, h) refl

is_between_below : (low most n : ℕ) → n < low → is_between low most n ≡ false
is_between_below low most n lt = grind (arith, nat_tests)

-- a word that is the text of a number below the range gives none
pub number_below : (low most : ℕ) (word : List ℕ) (n : ℕ) → n < 2 ^ 32 → word ≡ decimal n → n < low → number_in low most word ≡ None
number_below low most word n small e lt =
    let v : digits_value 10 (decimal n) ≡ n = (decimal_is_IsNumeral n (omega arith)).1 in
    let same : bytes_eq (decimal n) (decimal n) ≡ true = (bytes_eq-Decides (decimal n) (decimal n)).1 refl in
    rw (e, v, same, is_between_below low most n lt) refl
