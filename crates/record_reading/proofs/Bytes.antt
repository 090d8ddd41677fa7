-- Texts in which some byte does not stand.
use Rattle.std.proofs.Common.{◌≡◌, ℕ, zero, suc, ◌<◌, ◌^◌, ◌==◌, Bool, true, false, List, [], ◌∷◌, ◌++◌, length, get_or, refl, sym, ap, ◌∙◌, arith, eq-eqb, ⊎_elim}
use Rattle.std.specs.Prelude.{not}
use Rattle.std.specs.Fmt.{decimal}
use Rattle.std.specs.List.{list_all}
use Rattle.std.proofs.lemmas.Bool.{and_parts, eqb-true, false≢true}
use Rattle.std.proofs.lemmas.Fmt.{digits_decimal}
use Rattle.std.proofs.lemmas.List.Folds.{list_all-append}
use Rattle.std.proofs.lemmas.Str.Parse.{digit_at}
use Rattle.schedule_lines.specs.Ranges.{is_between}
use Rattle.line_text.specs.Words.{Lacks}
use Rattle.line_text.proofs.CallForms.{and_both}
use Rattle.line_text.proofs.NumberTexts.{is_between_from, own}
use Rattle.line_text.proofs.Splits.{true_or_false}

-- no byte is this
abbrev pub free : ℕ → List ℕ → Bool
free b bytes = list_all (λ c. not (c == b)) bytes

unlike : (b c : ℕ) → not (c == b) ≡ true → c ≡ b → ⊥
unlike b c h e = let same : (c == b) ≡ true = eq-eqb c b e in false≢true (rw same at h)

pub free_lacks : (b : ℕ) (bytes : List ℕ) → free b bytes ≡ true → Lacks b bytes
free_lacks b [] h k lt = absurd (omega arith)
free_lacks b (c ∷ cs) h zero lt = unlike b c (and_parts (not (c == b)) (free b cs) h).0
free_lacks b (c ∷ cs) h (suc k) lt = free_lacks b cs (and_parts (not (c == b)) (free b cs) h).1 k (omega arith)

-- what each byte of one kind is, each byte is
pub each_is : (p q : ℕ → Bool) → ((c : ℕ) → p c ≡ true → q c ≡ true) → (bytes : List ℕ) → list_all p bytes ≡ true → list_all q bytes ≡ true
each_is p q f [] h = refl
each_is p q f (c ∷ cs) h =
    let t = and_parts (p c) (list_all p cs) h in
    and_both (q c) (list_all q cs) (f c t.0) (each_is p q f cs t.1)

pub all_append : (p : ℕ → Bool) (xs ys : List ℕ) → list_all p xs ≡ true → list_all p ys ≡ true → list_all p (xs ++ ys) ≡ true
all_append p xs ys hx hy = list_all-append p xs ys ∙ and_both (list_all p xs) (list_all p ys) hx hy

-- a text with a byte between its two parts
pub all_joined : (p : ℕ → Bool) (c : ℕ) (xs ys : List ℕ) → p c ≡ true → list_all p xs ≡ true → list_all p ys ≡ true → list_all p (xs ++ (c ∷ ys)) ≡ true
all_joined p c xs ys hc hx hy = all_append p xs (c ∷ ys) hx (and_both (p c) (list_all p ys) hc hy)

-- ---- numbers

abbrev pub is_digit_byte : ℕ → Bool
is_digit_byte c = is_between 48 57 c

each_index : (p : ℕ → Bool) (bytes : List ℕ) → ((i : ℕ) → i < length bytes → p (get_or bytes i 0) ≡ true) → list_all p bytes ≡ true
each_index p [] f = refl
each_index p (c ∷ cs) f = and_both (p c) (list_all p cs) (f 0 (omega arith)) (each_index p cs (λ i lt. f (suc i) (omega arith)))

pub decimal_digits : (n : ℕ) → n < 2 ^ 32 → list_all is_digit_byte (decimal n) ≡ true
decimal_digits n small = each_index is_digit_byte (decimal n) (λ i lt.
    let r = digit_at (decimal n) i (digits_decimal own n (omega arith)) lt in
    is_between_from 48 57 (get_or (decimal n) i 0) (omega arith) r.1)

pub digit_unlike : (b : ℕ) → not (is_digit_byte b) ≡ true → (c : ℕ) → is_digit_byte c ≡ true → not (c == b) ≡ true
digit_unlike b h c d =
    ⊎_elim
    (λ (e : (c == b) ≡ true).
    let digit : is_digit_byte b ≡ true = ap is_digit_byte (sym (eqb-true c b e)) ∙ d in
    absurd (false≢true (rw digit at h)))
    (λ (e : (c == b) ≡ false). rw e refl)
    (true_or_false (c == b))

-- the text of a number has digits alone
pub decimal_free : (b n : ℕ) → not (is_digit_byte b) ≡ true → n < 2 ^ 32 → free b (decimal n) ≡ true
decimal_free b n h small = each_is is_digit_byte (λ c. not (c == b)) (digit_unlike b h) (decimal n) (decimal_digits n small)
