-- When some digits are those of a number.
use Rattle.std.proofs.Common.{◌≡◌, ℕ, ◌+◌, ◌/◌, ◌%◌, ◌^◌, ◌<◌, ◌≤◌, Bool, true, false, eqb, List, [], ◌∷◌, ◌++◌, length, refl, sym, ◌∙◌, ap, arith, ⊎_elim}
use Rattle.std.specs.Fmt.{decimal}
use Rattle.std.specs.Str.{bytes_eq}
use Rattle.std.proofs.lemmas.Bool.{false≢true, false_from_ne_true, cases_lt}
use Rattle.std.proofs.lemmas.Bool.Decides.{eqb_tells}
use Rattle.std.proofs.lemmas.Fmt.{decimal_digit, decimal_step, decimal_nonempty}
use Rattle.std.proofs.lemmas.List.{same_from_push}
use Rattle.std.proofs.lemmas.Slice.Eq.{bytes_eq-Decides}

-- a test that tells whether two lists are equal is the test by bytes
pub decided : (r : Bool) (xs ys : List ℕ) → (r ≡ true → xs ≡ ys) → (xs ≡ ys → r ≡ true) → r ≡ bytes_eq xs ys
decided true xs ys to from = sym ((bytes_eq-Decides xs ys).1 (to refl))
decided false xs ys to from = sym (false_from_ne_true (bytes_eq xs ys) (λ t. false≢true (from ((bytes_eq-Decides xs ys).0 t))))

pub differ : (xs ys : List ℕ) → (xs ≡ ys → ⊥) → false ≡ bytes_eq xs ys
differ xs ys apart = decided false xs ys (λ t. absurd (false≢true t)) (λ e. absurd (apart e))

-- a number has a digit
pub no_digits : (n : ℕ) (digits : List ℕ) → n < 2 ^ 16 → length digits ≡ 0 → false ≡ bytes_eq (decimal n) digits
no_digits n digits small none = differ (decimal n) digits (λ e. omega (arith, ap length e, none, decimal_nonempty n (omega (arith, small))))

-- the last digit
last_digit : (n : ℕ) → n < 2 ^ 16 → (front : List ℕ) × (decimal n ≡ front ++ (48 + n % 10) ∷ [])
last_digit n small = ⊎_elim
    (λ (l : n < 10). ([], let same : 48 + n ≡ 48 + n % 10 = omega (arith, l) in decimal_digit n l ∙ ap (λ d. d ∷ []) same))
    (λ (g : 10 ≤ n). (decimal (n / 10), decimal_step n g (omega (arith, small))))
    (cases_lt n 10)

pub other_last : (n : ℕ) (digits front : List ℕ) (last : ℕ) → n < 2 ^ 16 → digits ≡ front ++ last ∷ [] → (last ≡ 48 + n % 10 → ⊥) → false ≡ bytes_eq (decimal n) digits
other_last n digits front last small parts apart = differ (decimal n) digits (λ e.
    let own = last_digit n small in
    apart (sym (same_from_push own.0 front (48 + n % 10) last (sym own.1 ∙ e ∙ parts)).1))

no_front : (front : List ℕ) → length front ≡ 0 → front ≡ []
no_front [] e = refl
no_front (x ∷ xs) e = absurd (omega (arith, e))

eqb_true : (a b : ℕ) → eqb a b ≡ true → a ≡ b
eqb_true a b h = ⊎_elim (λ t. t.1) (λ t. absurd (false≢true (sym t.0 ∙ h))) (eqb_tells a b)

true_eqb : (a b : ℕ) → a ≡ b → eqb a b ≡ true
true_eqb a b h = ⊎_elim (λ t. t.0) (λ t. absurd (t.1 h)) (eqb_tells a b)

pub false_eqb : (a b : ℕ) → (a ≡ b → ⊥) → eqb a b ≡ false
false_eqb a b h = ⊎_elim (λ t. absurd (h t.1)) (λ t. t.0) (eqb_tells a b)

-- a number below ten has one digit
pub one_digit : (n : ℕ) (digits front : List ℕ) (last : ℕ) → n < 10 → digits ≡ front ++ last ∷ [] → last ≡ 48 + n % 10 → eqb (length front) 0 ≡ bytes_eq (decimal n) digits
one_digit n digits front last low parts is =
    let same : 48 + n ≡ last = omega (arith, low, is) in
    decided (eqb (length front) 0) (decimal n) digits
    (λ t. decimal_digit n low ∙ ap (λ d. d ∷ []) same ∙ ap (λ f. f ++ last ∷ []) (sym (no_front front (eqb_true (length front) 0 t))) ∙ sym parts)
    (λ e. true_eqb (length front) 0 (sym (ap length (same_from_push [] front (48 + n) last (sym (decimal_digit n low) ∙ e ∙ parts)).0)))

-- the digits before the last are those of a tenth
pub more_digits : (n : ℕ) (digits front : List ℕ) (last : ℕ) → 10 ≤ n → n < 2 ^ 16 → digits ≡ front ++ last ∷ [] → last ≡ 48 + n % 10 → bytes_eq (decimal (n / 10)) front ≡ bytes_eq (decimal n) digits
more_digits n digits front last high small parts is =
    let step : decimal n ≡ decimal (n / 10) ++ (48 + n % 10) ∷ [] = decimal_step n high (omega (arith, small)) in
    decided (bytes_eq (decimal (n / 10)) front) (decimal n) digits
    (λ t. step ∙ ap (λ f. f ++ (48 + n % 10) ∷ []) ((bytes_eq-Decides (decimal (n / 10)) front).0 t) ∙ ap (λ d. front ++ d ∷ []) (sym is) ∙ sym parts)
    (λ e. (bytes_eq-Decides (decimal (n / 10)) front).1 (same_from_push (decimal (n / 10)) front (48 + n % 10) last (sym step ∙ e ∙ parts)).0)
