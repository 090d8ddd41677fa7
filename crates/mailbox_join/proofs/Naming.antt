-- The names of messages: each is a name, it is told to be that of a message, and no two calls give one.
use Rattle.std.proofs.Common.{◌≡◌, ℕ, suc, ◌+◌, ◌==◌, ◌<◌, ◌≤◌, ◌^◌, ◌-◌, ◌%◌, Bool, true, false, ◌&&◌, nat_le, nat_lt, List, [], ◌∷◌, ◌++◌, length, length-append, append_assoc, refl, sym, ◌∙◌, ap, subst, arith}
use Rattle.std.specs.Fmt.{decimal}
use Rattle.std.specs.List.{list_all}
use Rattle.std.specs.Str.{bytes_eq}
use Rattle.std.specs.Str.Parse.{digits_value}
use Rattle.std.proofs.lemmas.Bool.{and_parts, le-leb}
use Rattle.std.proofs.lemmas.Bool.Decides.{nat_tests}
use Rattle.std.proofs.lemmas.Fmt.{decimal_by_steps, decimal_injective, decimal_is_IsNumeral, length-decimal-le}
use Rattle.std.proofs.lemmas.List.Folds.{list_all-append}
use Rattle.std.proofs.lemmas.Slice.Eq.{bytes_eq-Decides}
use Rattle.locus_ids.specs.declared.ids.CallId.{CallId}
use Rattle.trace_book.specs.Names.{is_name, is_name_byte}
use Rattle.trace_book.specs.Messages.{is_message, is_number_to, message_name, past, up_to}

-- ---- digits ----

abbrev is_digit : ℕ → Bool
is_digit c = nat_le 48 c && nat_le c 57

digit_of : (n : ℕ) → n < 10 → is_digit (48 + n) ≡ true
digit_of n lt = grind (arith, nat_tests)

last_digit : (n : ℕ) → n % 10 < 10
last_digit n = omega arith

pub digits_of : (n : ℕ) → n < 2 ^ 64 → list_all is_digit (decimal n) ≡ true
digits_of n small = decimal_by_steps (λ (m : ℕ) (ds : List ℕ). list_all is_digit ds ≡ true) one more n small
  where
    one : (m : ℕ) → m < 10 → list_all is_digit ((48 + m) ∷ []) ≡ true
    one m lt = rw (digit_of m lt) refl

    more : (m : ℕ) (ds : List ℕ) → 10 ≤ m → list_all is_digit ds ≡ true → list_all is_digit (ds ++ ((48 + m % 10) ∷ [])) ≡ true
    more m ds le h = rw (list_all-append is_digit ds ((48 + m % 10) ∷ []), h, digit_of (m % 10) (last_digit m)) refl

-- ---- the numbers of a name ----

no_point : (c : ℕ) → is_digit c ≡ true → (c == 46) ≡ false
no_point c h = grind (arith, nat_tests)

up_to_point : (xs ys : List ℕ) → list_all is_digit xs ≡ true → up_to 46 (xs ++ 46 ∷ ys) ≡ xs
up_to_point [] ys h = refl
up_to_point (c ∷ cs) ys h =
    let k : (is_digit c ≡ true) × (list_all is_digit cs ≡ true) = and_parts (is_digit c) (list_all is_digit cs) h in
    rw (no_point c k.0) (ap (λ (l : List ℕ). c ∷ l) (up_to_point cs ys k.1))

past_point : (xs ys : List ℕ) → list_all is_digit xs ≡ true → past 46 (xs ++ 46 ∷ ys) ≡ ys
past_point [] ys h = refl
past_point (c ∷ cs) ys h =
    let k : (is_digit c ≡ true) × (list_all is_digit cs ≡ true) = and_parts (is_digit c) (list_all is_digit cs) h in
    rw (no_point c k.0) (past_point cs ys k.1)

abbrev numbers : CallId → List ℕ
numbers c = decimal c.site ++ 46 ∷ (decimal c.boot ++ 46 ∷ decimal c.n)

name_is : (c : CallId) → message_name c ≡ 109 ∷ numbers c
name_is c = simp append_assoc

wide : (n : ℕ) → n < 2 ^ 32 → n < 2 ^ 64
wide n lt = omega arith

byte_wide : (n : ℕ) → n < 2 ^ 8 → n < 2 ^ 64
byte_wide n lt = omega arith

-- ---- a name ----

name_digits : (ds : List ℕ) → list_all is_digit ds ≡ true → list_all is_name_byte ds ≡ true
name_digits [] h = refl
name_digits (c ∷ cs) h =
    let k : (is_digit c ≡ true) × (list_all is_digit cs ≡ true) = and_parts (is_digit c) (list_all is_digit cs) h in
    rw (byte c k.0, name_digits cs k.1) refl
  where
    byte : (c : ℕ) → is_digit c ≡ true → is_name_byte c ≡ true
    byte c h = grind (arith, nat_tests)

name_bytes : (c : CallId) → c.site < 2 ^ 8 → c.boot < 2 ^ 32 → c.n < 2 ^ 32 → list_all is_name_byte (numbers c) ≡ true
name_bytes c s b n = rw (list_all-append is_name_byte (decimal c.site) (46 ∷ (decimal c.boot ++ 46 ∷ decimal c.n)), name_digits (decimal c.site) (digits_of c.site (byte_wide c.site s)), list_all-append is_name_byte (decimal c.boot) (46 ∷ decimal c.n), name_digits (decimal c.boot) (digits_of c.boot (wide c.boot b)), name_digits (decimal c.n) (digits_of c.n (wide c.n n))) refl

name_short : (c : CallId) → c.site < 2 ^ 8 → c.boot < 2 ^ 32 → c.n < 2 ^ 32 → length (numbers c) ≤ 30
name_short c s b n =
    let x : length (decimal c.site) ≤ 3 = length-decimal-le 3 c.site (omega arith) (omega arith) (byte_wide c.site s) in
    let y : length (decimal c.boot) ≤ 10 = length-decimal-le 10 c.boot (omega arith) (omega arith) (wide c.boot b) in
    let z : length (decimal c.n) ≤ 10 = length-decimal-le 10 c.n (omega arith) (omega arith) (wide c.n n) in
    simp length-append (omega (arith, x, y, z))

both : (a b : Bool) → a ≡ true → b ≡ true → (a && b) ≡ true
both true b h k = k
both false b h k = h

name_from : (xs : List ℕ) → length xs ≤ 30 → list_all is_name_byte xs ≡ true → is_name (109 ∷ xs) ≡ true
name_from xs le h = both _ _ (some (length xs)) (both _ _ (few (length xs) le) (both _ _ refl (both _ _ refl h)))
  where
    some : (k : ℕ) → nat_lt 0 (suc k) ≡ true
    some k = grind (arith, nat_tests)

    few : (k : ℕ) → k ≤ 30 → nat_le (suc k) 60 ≡ true
    few k le = grind (arith, nat_tests)

pub named : (c : CallId) → c.site < 2 ^ 8 → c.boot < 2 ^ 32 → c.n < 2 ^ 32 → is_name (message_name c) ≡ true
named c s b n = subst (λ (l : List ℕ). is_name l ≡ true) (sym (name_is c)) (name_from (numbers c) (name_short c s b n) (name_bytes c s b n))

-- ---- that of a message ----

number_to : (most n : ℕ) → 1 ≤ n → n ≤ most → n < 2 ^ 64 → is_number_to most (decimal n) ≡ true
number_to most n low high small =
    let v : digits_value 10 (decimal n) ≡ n = (decimal_is_IsNumeral n small).1 in
    let same : bytes_eq (decimal n) (decimal n) ≡ true = (bytes_eq-Decides (decimal n) (decimal n)).1 refl in
    rw (v, same, le-leb 1 n low, le-leb n most high) refl

pub told : (c : CallId) → 1 ≤ c.site → c.site ≤ 32 → 1 ≤ c.boot → c.boot < 2 ^ 32 → 1 ≤ c.n → c.n < 2 ^ 32 → is_message (message_name c) ≡ true
told c s most b boots n calls = subst (λ (l : List ℕ). is_message l ≡ true) (sym (name_is c))
    (rw (
      up_to_point (decimal c.site) (decimal c.boot ++ 46 ∷ decimal c.n) (digits_of c.site (omega arith)),
      past_point (decimal c.site) (decimal c.boot ++ 46 ∷ decimal c.n) (digits_of c.site (omega arith)),
      up_to_point (decimal c.boot) (decimal c.n) (digits_of c.boot (wide c.boot boots)),
      past_point (decimal c.boot) (decimal c.n) (digits_of c.boot (wide c.boot boots)),
      number_to 32 c.site s most (omega arith),
      number_to (2 ^ 32 - 1) c.boot b (omega arith) (wide c.boot boots),
      number_to (2 ^ 32 - 1) c.n n (omega arith) (wide c.n calls),
    ) refl)

-- ---- no two calls give one ----

pub once : (c d : CallId) → c.site < 2 ^ 8 → c.boot < 2 ^ 32 → c.n < 2 ^ 32 → d.site < 2 ^ 8 → d.boot < 2 ^ 32 → d.n < 2 ^ 32 → message_name c ≡ message_name d → c ≡ d
once c d cs cb cn ds db dn e = λ i. record { site = sites i; boot = boots i; n = calls i }
  where
    tail : 109 ∷ numbers c ≡ 109 ∷ numbers d → numbers c ≡ numbers d
    tail h = cc

    same : numbers c ≡ numbers d
    same = tail (sym (name_is c) ∙ (e ∙ name_is d))

    sites : c.site ≡ d.site
    sites = decimal_injective c.site d.site (byte_wide c.site cs) (byte_wide d.site ds)
        (sym (up_to_point (decimal c.site) (decimal c.boot ++ 46 ∷ decimal c.n) (digits_of c.site (byte_wide c.site cs))) ∙ (ap (up_to 46) same ∙ up_to_point (decimal d.site) (decimal d.boot ++ 46 ∷ decimal d.n) (digits_of d.site (byte_wide d.site ds))))

    later : decimal c.boot ++ 46 ∷ decimal c.n ≡ decimal d.boot ++ 46 ∷ decimal d.n
    later = sym (past_point (decimal c.site) (decimal c.boot ++ 46 ∷ decimal c.n) (digits_of c.site (byte_wide c.site cs))) ∙ (ap (past 46) same ∙ past_point (decimal d.site) (decimal d.boot ++ 46 ∷ decimal d.n) (digits_of d.site (byte_wide d.site ds)))

    boots : c.boot ≡ d.boot
    boots = decimal_injective c.boot d.boot (wide c.boot cb) (wide d.boot db)
        (sym (up_to_point (decimal c.boot) (decimal c.n) (digits_of c.boot (wide c.boot cb))) ∙ (ap (up_to 46) later ∙ up_to_point (decimal d.boot) (decimal d.n) (digits_of d.boot (wide d.boot db))))

    calls : c.n ≡ d.n
    calls = decimal_injective c.n d.n (wide c.n cn) (wide d.n dn)
        (sym (past_point (decimal c.boot) (decimal c.n) (digits_of c.boot (wide c.boot cb))) ∙ (ap (past 46) later ∙ past_point (decimal d.boot) (decimal d.n) (digits_of d.boot (wide d.boot db))))
