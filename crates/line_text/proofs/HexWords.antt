-- Words of lower-case hexadecimal.
use Rattle.std.proofs.Common.{◌≡◌, ℕ, zero, suc, ◌+◌, ◌*◌, ◌/◌, ◌%◌, ◌<◌, ◌≤◌, ◌==◌, Bool, true, false, ◌&&◌, ◌⊎◌, List, [], ◌∷◌, length, slice_index, Option, Some, None, unwrap_or, Result, Ok, Err, refl, sym, ap, ◌∙◌, arith, inl, inr, ⊎_elim}
use Rattle.std.specs.Prelude.{◌||◌, not, nat_le, MatchResult}
use Rattle.std.specs.List.{list_all}
use Rattle.std.specs.Result.{result_unwrap_or}
use Rattle.std.specs.Str.{bytes_eq}
use Rattle.std.proofs.lemmas.Bool.{false≢true, and_parts, cases_lt, eqb-true, leb-true, lt-ltb, ltb-true}
use Rattle.std.proofs.lemmas.Option.{cond_some, none-some, option_and_then_some}
use Rattle.std.proofs.lemmas.Slice.Eq.{bytes_eq-Decides}
use Rattle.hex.specs.Hex.{IsBytes, decode_of, decode_pairs, digit_or_error, hex_digit_value, decode_sized, encode_lower, encode_with, lower_digits, pair_value, value_at, ◌>>=◌}
use Rattle.hex.specs.declared.error.FromHexError.{FromHexError}
use Rattle.hex.proofs.HexLemmas.{decode_of-even, decode_of-ok, decode_of-encode_lower, decode_sized-encode_lower, decode_sized-ok, decode_sized-twice, length-encode_with}
use Rattle.schedule_lines.specs.Ranges.{is_between, is_byte}
use Rattle.line_text.specs.Words.{byte_in, checked_bytes, hex_in, is_lower_digit, only_one}
use Rattle.line_text.proofs.NumberTexts.{between_parts, is_between_from}

-- the digit that the value of this digit is written as
abbrev rewritten : ℕ → ℕ
rewritten c = slice_index lower_digits (unwrap_or (hex_digit_value c) 16)

abbrev keeps : ℕ → Bool
keeps c = not (is_lower_digit c) || (rewritten c == c)

abbrev all_keep : ℕ → Bool
all_keep zero = true
all_keep (suc n) = keeps n && all_keep n

all_keep-at : (n k : ℕ) → all_keep n ≡ true → k < n → keeps k ≡ true
all_keep-at zero k h lt = absurd (omega arith)
all_keep-at (suc n) k h lt =
    let parts = and_parts (keeps n) (all_keep n) h in
    elim (cases_lt k n) [
      | inl below ↦ all_keep-at n k parts.1 below
      | inr top ↦
          let e : k ≡ n = omega arith in
          rw e parts.0
    ]

or_second : (a b : Bool) → (not a || b) ≡ true → a ≡ true → b ≡ true
or_second true b h e = h
or_second false b h e = absurd (false≢true e)

or_low : (a b : Bool) → (a || b) ≡ true → (a ≡ true) ⊎ (b ≡ true)
or_low a b h = elim a as (λ v. (v || b) ≡ true → (v ≡ true) ⊎ (b ≡ true)) [ true ↦ λ e. inl refl | false ↦ λ e. inr e ] h

digit_small : (c : ℕ) → is_lower_digit c ≡ true → c < 103
digit_small c h =
    ⊎_elim
    (λ (d : (nat_le 48 c && nat_le c 57) ≡ true). let top : c ≤ 57 = leb-true c 57 (and_parts (nat_le 48 c) (nat_le c 57) d).1 in omega arith)
    (λ (d : (nat_le 97 c && nat_le c 102) ≡ true). let top : c ≤ 102 = leb-true c 102 (and_parts (nat_le 97 c) (nat_le c 102) d).1 in omega arith)
    (or_low (nat_le 48 c && nat_le c 57) (nat_le 97 c && nat_le c 102) h)

digit_kept : (c : ℕ) → is_lower_digit c ≡ true → rewritten c ≡ c
digit_kept c h = eqb-true (rewritten c) c (or_second (is_lower_digit c) (rewritten c == c) (all_keep-at 103 c refl (digit_small c h)) h)

abbrev all_lower : ℕ → Bool
all_lower zero = true
all_lower (suc n) = is_lower_digit (slice_index lower_digits n) && all_lower n

all_lower-at : (n k : ℕ) → all_lower n ≡ true → k < n → is_lower_digit (slice_index lower_digits k) ≡ true
all_lower-at zero k h lt = absurd (omega arith)
all_lower-at (suc n) k h lt =
    let parts = and_parts (is_lower_digit (slice_index lower_digits n)) (all_lower n) h in
    elim (cases_lt k n) [
      | inl below ↦ all_lower-at n k parts.1 below
      | inr top ↦
          let e : k ≡ n = omega arith in
          rw e parts.0
    ]

-- the text of bytes is in lower case
pub encode_is_lower : (bytes : List ℕ) → IsBytes bytes → list_all is_lower_digit (encode_lower bytes) ≡ true
unfolding encode_with
encode_is_lower [] h = refl
encode_is_lower (b ∷ rest) h =
    let small : b < 256 = h 0 in
    let high = all_lower-at 16 (b / 16) refl (omega arith) in
    let low = all_lower-at 16 (b % 16) refl (omega arith) in
    let more = encode_is_lower rest (λ k. h (suc k)) in
    rw (high, low) more

bind_ok : {A B : Type 0} (r : Result A FromHexError) (f : A → Result B FromHexError) (y : B) → (r >>= f) ≡ Ok y → (x : A) × (r ≡ Ok x) × (f x ≡ Ok y)
bind_ok (Ok x) f y h = (x, refl, h)
bind_ok (Err e) f y h = cc h

digit_read : (c i : ℕ) (o : Option ℕ) (v : ℕ) → digit_or_error c i o ≡ Ok v → o ≡ Some v
digit_read c i (Some w) v h = ap Some (ap (λ (r : Result ℕ FromHexError). result_unwrap_or r 0) h)
digit_read c i None v h = cc h

digit_of : (c v : ℕ) → is_lower_digit c ≡ true → hex_digit_value c ≡ Some v → slice_index lower_digits v ≡ c
digit_of c v h e = ap (λ o. slice_index lower_digits (unwrap_or o 16)) (sym e) ∙ digit_kept c h

digit_value-small : (c v : ℕ) → hex_digit_value c ≡ Some v → v < 16
digit_value-small c v h = grind (arith)

-- lower-case digits are the text of the bytes that they decode to
pub encode_again : (i : ℕ) (s bytes : List ℕ) → decode_pairs i s ≡ Ok bytes → list_all is_lower_digit s ≡ true → s ≡ encode_lower bytes
unfolding decode_pairs encode_with
encode_again i [] bytes h low =
    let e : [] ≡ bytes = ap (λ (r : Result (List ℕ) FromHexError). result_unwrap_or r []) h in
    ap encode_lower e
encode_again i (a ∷ []) bytes h low = cc h
encode_again i (a ∷ b ∷ rest) bytes h low =
    let p0 = bind_ok (pair_value a b i) _ bytes h in
    let p1 = bind_ok (value_at a i) _ p0.0 p0.1 in
    let p2 = bind_ok (value_at b (i + 1)) _ p0.0 p1.2 in
    let p3 = bind_ok (decode_pairs (i + 2) rest) _ bytes p0.2 in
    let la = and_parts (is_lower_digit a) (is_lower_digit b && list_all is_lower_digit rest) low in
    let lb = and_parts (is_lower_digit b) (list_all is_lower_digit rest) la.1 in
    let ih = encode_again (i + 2) rest p3.0 p3.1 lb.1 in
    let e : p0.0 ∷ p3.0 ≡ bytes = ap (λ (r : Result (List ℕ) FromHexError). result_unwrap_or r []) p3.2 in
    let ra = digit_read a i (hex_digit_value a) p1.0 p1.1 in
    let rb = digit_read b (i + 1) (hex_digit_value b) p2.0 p2.1 in
    let va = digit_value-small a p1.0 ra in
    let vb = digit_value-small b p2.0 rb in
    let byte : p1.0 * 16 + p2.0 ≡ p0.0 = ap (λ (r : Result ℕ FromHexError). result_unwrap_or r 0) p2.2 in
    let high : p0.0 / 16 ≡ p1.0 = omega arith in
    let lows : p0.0 % 16 ≡ p2.0 = omega arith in
    let da : slice_index lower_digits (p0.0 / 16) ≡ a = ap (λ k. slice_index lower_digits k) high ∙ digit_of a p1.0 la.0 ra in
    let db : slice_index lower_digits (p0.0 % 16) ≡ b = ap (λ k. slice_index lower_digits k) lows ∙ digit_of b p2.0 lb.0 rb in
    let front : encode_lower (p0.0 ∷ p3.0) ≡ a ∷ b ∷ encode_lower p3.0 = rw (da, db) refl in
    ap (λ l. a ∷ b ∷ l) ih ∙ sym front ∙ ap encode_lower e

-- ---- the bytes that a word gives

and_both : (a b : Bool) → a ≡ true → b ≡ true → (a && b) ≡ true
and_both a b ha hb = rw (ha, hb) refl

by_place : (xs : List ℕ) → list_all is_byte xs ≡ true → IsBytes xs
by_place [] h k = omega arith
by_place (x ∷ xs) h zero = ltb-true x 256 (and_parts (is_byte x) (list_all is_byte xs) h).0
by_place (x ∷ xs) h (suc k) = by_place xs (and_parts (is_byte x) (list_all is_byte xs) h).1 k

by_element : (xs : List ℕ) → IsBytes xs → list_all is_byte xs ≡ true
by_element [] h = refl
by_element (x ∷ xs) h = and_both (is_byte x) (list_all is_byte xs) (lt-ltb x 256 (h 0)) (by_element xs (λ k. h (suc k)))

-- the word is these bytes, 1 to so many, in lower-case hexadecimal
abbrev pub IsHex : ℕ → List ℕ → List ℕ → Type 0
IsHex most word bytes = (word ≡ encode_lower bytes) × (is_between 1 most (length bytes) ≡ true) × (list_all is_byte bytes ≡ true)

checked_sound : (most : ℕ) (word bytes : List ℕ) (r : Result (List ℕ) FromHexError) → checked_bytes most word r ≡ Some bytes → IsHex most word bytes
checked_sound most word bytes (Err e) h = absurd (none-some bytes h)
checked_sound most word bytes (Ok b) h =
    let p = cond_some (bytes_eq word (encode_lower b) && is_between 1 most (length b) && list_all is_byte b) b bytes h in
    let q = and_parts (bytes_eq word (encode_lower b) && is_between 1 most (length b)) (list_all is_byte b) p.0 in
    let r = and_parts (bytes_eq word (encode_lower b)) (is_between 1 most (length b)) q.0 in
    let text : word ≡ encode_lower b = (bytes_eq-Decides word (encode_lower b)).0 r.0 in
    (text ∙ ap encode_lower p.1, ap (λ l. is_between 1 most (length l)) (sym p.1) ∙ r.1, ap (list_all is_byte) (sym p.1) ∙ q.1)

-- what a word gives is in the range, and the word is its text
pub hex_sound : (most : ℕ) (word bytes : List ℕ) → hex_in most word ≡ Some bytes → IsHex most word bytes
hex_sound most word bytes h = checked_sound most word bytes (decode_of word) h

-- a word that is the text of bytes and decodes to them gives them
pub hex_read : (most : ℕ) (word bytes : List ℕ) → decode_of word ≡ Ok bytes → IsHex most word bytes → hex_in most word ≡ Some bytes
hex_read most word bytes d h = rw (d, (bytes_eq-Decides word (encode_lower bytes)).1 h.0, h.1, h.2) refl

-- the text of bytes gives the bytes
pub hex_complete : (most : ℕ) (bytes : List ℕ) → is_between 1 most (length bytes) ≡ true → list_all is_byte bytes ≡ true → hex_in most (encode_lower bytes) ≡ Some bytes
hex_complete most bytes r b = hex_read most (encode_lower bytes) bytes (decode_of-encode_lower bytes (by_place bytes b)) (refl, r, b)

-- lower-case digits that decode are the hexadecimal of the bytes
pub hex_found : (most : ℕ) (word bytes : List ℕ) → decode_of word ≡ Ok bytes → list_all is_lower_digit word ≡ true → 0 < length word → length word ≤ 2 * most → hex_in most word ≡ Some bytes
hex_found most word bytes d low some short =
    let ok = decode_of-ok word bytes d in
    let pairs : decode_pairs 0 word ≡ Ok bytes = sym (decode_of-even word ok.0) ∙ d in
    let size : length word ≡ 2 * length bytes = ok.2 in
    let more : 1 ≤ length bytes = omega arith in
    hex_read most word bytes d (encode_again 0 word bytes pairs low, is_between_from 1 most (length bytes) more (omega arith), by_element bytes ok.3)

-- what a word in hexadecimal is like
pub record IsHexWord (most : ℕ) (word : List ℕ) : Type 0 where
  pub some : 0 < length word
  pub even : length word % 2 ≡ 0
  pub short : length word ≤ 2 * most
  pub lower : list_all is_lower_digit word ≡ true

pub hex_word : (most : ℕ) (word bytes : List ℕ) → hex_in most word ≡ Some bytes → IsHexWord most word
hex_word most word bytes h =
    let s = hex_sound most word bytes h in
    let size : length word ≡ 2 * length bytes = ap length s.0 ∙ length-encode_with lower_digits bytes in
    let p = between_parts 1 most (length bytes) s.1 in
    let more : 1 ≤ length bytes = p.0 in
    let few : length bytes ≤ most = p.1 in
    record {
      some = omega arith;
      even = omega arith;
      short = omega arith;
      lower = ap (list_all is_lower_digit) s.0 ∙ encode_is_lower bytes (by_place bytes s.2);
    }

-- a word that gives nothing
pub gives_none : {X : Type 0} (o : Option X) → ((x : X) → o ≡ Some x → ⊥) → None ≡ o
gives_none None h = refl
gives_none (Some x) h = absurd (h x refl)

pub not_empty : (n : ℕ) → false ≡ (n == 0) → 0 < n
not_empty zero h = absurd (false≢true h)
not_empty (suc n) h = omega arith

-- ---- one byte

written_ok : (d : Result (List ℕ) FromHexError) (r : Result (Unit {0}) FromHexError) (out : List ℕ) (x : Unit {0}) →
    MatchResult d (λ bytes. (r ≡ Ok tt) × (out ≡ bytes)) (λ e. r ≡ Err e) → r ≡ Ok x → d ≡ Ok out
written_ok (Ok bytes) r out x m h = ap Ok (sym m.1)
written_ok (Err e) r out x m h = cc

written_err : (d : Result (List ℕ) FromHexError) (r : Result (Unit {0}) FromHexError) (out bytes : List ℕ) (e : FromHexError) →
    MatchResult d (λ bytes. (r ≡ Ok tt) × (out ≡ bytes)) (λ e. r ≡ Err e) → r ≡ Err e → d ≡ Ok bytes → ⊥
written_err (Ok b) r out bytes e m h k = let done : r ≡ Ok tt = m.0 in cc
written_err (Err f) r out bytes e m h k = cc

only : (out : List ℕ) → length out ≡ 1 → Some (slice_index out 0) ≡ only_one out
only [] h = absurd (omega arith)
only (b ∷ []) h = refl
only (b ∷ c ∷ cs) h = absurd (omega arith)

pub byte_found : (word out : List ℕ) (r : Result (Unit {0}) FromHexError) (x : Unit {0}) →
    MatchResult (decode_sized word 1) (λ bytes. (r ≡ Ok tt) × (out ≡ bytes)) (λ e. r ≡ Err e) → r ≡ Ok x →
    list_all is_lower_digit word ≡ true → Some (slice_index out 0) ≡ byte_in word
byte_found word out r x m h low =
    let sized : decode_sized word 1 ≡ Ok out = written_ok (decode_sized word 1) r out x m h in
    let two : length word ≡ 2 * 1 = (decode_sized-ok word 1 out sized) in
    let read : decode_of word ≡ Ok out = sym (decode_sized-twice word 1 two) ∙ sized in
    let size : length word ≡ 2 * length out = (decode_of-ok word out read).2 in
    let one : length out ≡ 1 = omega arith in
    let found : hex_in 1 word ≡ Some out = hex_found 1 word out read low (omega arith) (omega arith) in
    rw found (only out one)

pub byte_none : (word out : List ℕ) (r : Result (Unit {0}) FromHexError) (e : FromHexError) →
    MatchResult (decode_sized word 1) (λ bytes. (r ≡ Ok tt) × (out ≡ bytes)) (λ e. r ≡ Err e) → r ≡ Err e → None ≡ byte_in word
byte_none word out r e m h = gives_none (byte_in word) (λ b k.
    option_and_then_some only_one (hex_in 1 word) b k (λ bytes f g.
    let s = hex_sound 1 word bytes f in
    let p = between_parts 1 1 (length bytes) s.1 in
    let low : 1 ≤ length bytes = p.0 in
    let high : length bytes ≤ 1 = p.1 in
    let one : length bytes ≡ 1 = omega arith in
    let sized : decode_sized word 1 ≡ Ok bytes = ap (λ w. decode_sized w 1) s.0 ∙ decode_sized-encode_lower bytes 1 one (by_place bytes s.2) in
    written_err (decode_sized word 1) r out bytes e m h sized))

pub byte_upper : (word : List ℕ) → list_all is_lower_digit word ≡ false → None ≡ byte_in word
byte_upper word h = gives_none (byte_in word) (λ b k.
    option_and_then_some only_one (hex_in 1 word) b k (λ bytes f g. false≢true (sym h ∙ (hex_word 1 word bytes f).lower)))
