-- Tables whose keys ascend: what is in them once a row is put or taken away.
use Rattle.std.proofs.Common.{◌≡◌, ◌≤◌, ℕ, ◌+◌, ◌==◌, ◌⊎◌, nat_lt, Bool, true, false, List, [], ◌∷◌, Option, Some, None, refl, sym, ◌∙◌, ap, subst, inl, inr, arith}
use Rattle.std.proofs.lemmas.Bool.Decides.{nat_tests}
use Rattle.role_steps.proofs.of_plain_facts.Numbers.{apart, equal}
use Rattle.role_steps.proofs.of_plain_facts.Options.{none_some, some_same}
use Rattle.role_steps.specs.Tables.{row, with_row, without_row, first_that}
use Rattle.the_run.specs.Kept.{Among}
use Rattle.row_laws.specs.CallRows.Serials.{Rises}

-- ---- tests ----

below : (a b : ℕ) → nat_lt a b ≡ true → a + 1 ≤ b
below a b e = grind (arith, nat_tests)

below_other : (a b : ℕ) → nat_lt a b ≡ true → a ≡ b → ⊥
below_other a b e f = grind (arith, nat_tests)

above : (a b : ℕ) → nat_lt a b ≡ false → (a == b) ≡ false → b + 1 ≤ a
above a b e f = grind (arith, nat_tests)

-- two keys are one, or they aren't
pub key_case : (P : Type 0) (a b : ℕ) → (a ≡ b → P) → ((a ≡ b → ⊥) → P) → P
key_case P a b same other = (elim (a == b) as (λ t. (a == b) ≡ t → P) [ true ↦ λ e. same (equal a b e) | false ↦ λ e. other (apart a b e) ]) refl

-- ---- rows that are found ----

pub row_found : {A : Type 0} (key : A → ℕ) (k : ℕ) (xs : List A) (x : A) → row key k xs ≡ Some x → Among x xs × (key x ≡ k)
row_found key k [] x e = absurd (none_some x e)
row_found key k (y ∷ ys) x e =
    (elim (key y == k) as (λ b. (key y == k) ≡ b → elim b [ true ↦ Some y | false ↦ row key k ys ] ≡ Some x → Among x (y ∷ ys) × (key x ≡ k)) [
      | true ↦ λ t f. (let same : y ≡ x = some_same y x f in (inl (sym same), ap key (sym same) ∙ equal (key y) k t))
      | false ↦ λ t f. later (row_found key k ys x f)
    ]) refl e
  where
    later : Among x ys × (key x ≡ k) → Among x (y ∷ ys) × (key x ≡ k)
    later h = (inr h.0, h.1)

pub row_there : {A : Type 0} (key : A → ℕ) (k : ℕ) (xs : List A) (x : A) → Among x xs → key x ≡ k → ◌≡◌ {A = Option A} (row key k xs) None → ⊥
row_there key k [] x a e f = a
row_there {A} key k (y ∷ ys) x a e f =
    (elim (key y == k) as (λ b. (key y == k) ≡ b → ◌≡◌ {A = Option A} (elim b [ true ↦ Some y | false ↦ row key k ys ]) None → ⊥) [
      | true ↦ λ t g. none_some y (sym g)
      | false ↦ λ t g. by_place a t (λ b. row_there key k ys x b e g)
    ]) refl f
  where
    by_place : (x ≡ y) ⊎ Among x ys → (key y == k) ≡ false → (Among x ys → ⊥) → ⊥
    by_place (inl same) t go = apart (key y) k t (ap key (sym same) ∙ e)
    by_place (inr b) t go = go b

pub first_found : {A : Type 0} (test : A → Bool) (xs : List A) (x : A) → first_that test xs ≡ Some x → Among x xs × (test x ≡ true)
first_found test [] x e = absurd (none_some x e)
first_found test (y ∷ ys) x e =
    (elim (test y) as (λ b. test y ≡ b → elim b [ true ↦ Some y | false ↦ first_that test ys ] ≡ Some x → Among x (y ∷ ys) × (test x ≡ true)) [
      | true ↦ λ t f. (let same : y ≡ x = some_same y x f in (inl (sym same), ap test (sym same) ∙ t))
      | false ↦ λ t f. later (first_found test ys x f)
    ]) refl e
  where
    later : Among x ys × (test x ≡ true) → Among x (y ∷ ys) × (test x ≡ true)
    later h = (inr h.0, h.1)

-- ---- ascending keys ----

pub rises_above : {A : Type 0} (key : A → ℕ) (n : ℕ) (xs : List A) → Rises key n xs → (x : A) → Among x xs → n ≤ key x
rises_above key n [] h x a = absurd a
rises_above key n (y ∷ ys) h x (inl e) = subst (λ (z : _). n ≤ key z) (sym e) h.0
rises_above key n (y ∷ ys) h x (inr a) = let k : n ≤ key y = h.0 in let m : key y + 1 ≤ key x = rises_above key (key y + 1) ys h.1 x a in omega (arith, k, m)

rises_from : {A : Type 0} (key : A → ℕ) (n m : ℕ) (xs : List A) → n ≤ m → Rises key m xs → Rises key n xs
rises_from key n m [] le h = tt
rises_from key n m (x ∷ xs) le h = ((let k : m ≤ key x = h.0 in omega (arith, k, le)), h.1)

-- rows of one key are one
pub one_row : {A : Type 0} (key : A → ℕ) (n : ℕ) (xs : List A) → Rises key n xs → (x y : A) → Among x xs → Among y xs → key x ≡ key y → x ≡ y
one_row key n [] h x y a b e = absurd a
one_row key n (z ∷ zs) h x y (inl p) (inl q) e = p ∙ sym q
one_row key n (z ∷ zs) h x y (inl p) (inr b) e = let m : key z + 1 ≤ key y = rises_above key (key z + 1) zs h.1 y b in let same : key z ≡ key y = ap key (sym p) ∙ e in absurd (omega (arith, m, same))
one_row key n (z ∷ zs) h x y (inr a) (inl q) e = let m : key z + 1 ≤ key x = rises_above key (key z + 1) zs h.1 x a in let same : key z ≡ key x = ap key (sym q) ∙ sym e in absurd (omega (arith, m, same))
one_row key n (z ∷ zs) h x y (inr a) (inr b) e = one_row key (key z + 1) zs h.1 x y a b e

-- ---- a row is put ----

pub put_rises : {A : Type 0} (key : A → ℕ) (x : A) (n : ℕ) (xs : List A) → n ≤ key x → Rises key n xs → Rises key n (with_row key x xs)
put_rises key x n [] le h = (le, tt)
put_rises key x n (y ∷ ys) le h =
    (elim (nat_lt (key y) (key x)) as (λ b. nat_lt (key y) (key x) ≡ b → Rises key n (elim b [ true ↦ y ∷ with_row key x ys | false ↦ elim (key y == key x) [ true ↦ x ∷ ys | false ↦ x ∷ y ∷ ys ] ])) [
      | true ↦ λ e. (h.0, put_rises key x (key y + 1) ys (below (key y) (key x) e) h.1)
      | false ↦ λ e. (elim (key y == key x) as (λ b. (key y == key x) ≡ b → Rises key n (elim b [ true ↦ x ∷ ys | false ↦ x ∷ y ∷ ys ])) [
        | true ↦ λ f. (le, subst (λ (m : ℕ). Rises key (m + 1) ys) (equal (key y) (key x) f) h.1)
        | false ↦ λ f. (le, (above (key y) (key x) e f, h.1))
      ]) refl
    ]) refl

pub put_there : {A : Type 0} (key : A → ℕ) (x : A) (xs : List A) → Among x (with_row key x xs)
put_there key x [] = inl refl
put_there key x (y ∷ ys) =
    elim (nat_lt (key y) (key x)) as (λ b. Among x (elim b [ true ↦ y ∷ with_row key x ys | false ↦ elim (key y == key x) [ true ↦ x ∷ ys | false ↦ x ∷ y ∷ ys ] ])) [
      | true ↦ inr (put_there key x ys)
      | false ↦ elim (key y == key x) as (λ b. Among x (elim b [ true ↦ x ∷ ys | false ↦ x ∷ y ∷ ys ])) [ true ↦ inl refl | false ↦ inl refl ]
    ]

-- the others stay
pub put_keeps : {A : Type 0} (key : A → ℕ) (x : A) (xs : List A) (z : A) → Among z xs → (key z ≡ key x → ⊥) → Among z (with_row key x xs)
put_keeps key x [] z a ne = absurd a
put_keeps key x (y ∷ ys) z a ne =
    (elim (nat_lt (key y) (key x)) as (λ b. Among z (elim b [ true ↦ y ∷ with_row key x ys | false ↦ elim (key y == key x) [ true ↦ x ∷ ys | false ↦ x ∷ y ∷ ys ] ])) [
      | true ↦ by_place a (λ b. put_keeps key x ys z b ne)
      | false ↦ (elim (key y == key x) as (λ b. (key y == key x) ≡ b → Among z (elim b [ true ↦ x ∷ ys | false ↦ x ∷ y ∷ ys ])) [
        | true ↦ λ f. replaced a f
        | false ↦ λ f. inr a
      ]) refl
    ])
  where
    by_place : {B : Type 0} → (z ≡ y) ⊎ B → (B → Among z (with_row key x ys)) → (z ≡ y) ⊎ Among z (with_row key x ys)
    by_place (inl e) go = inl e
    by_place (inr b) go = inr (go b)

    replaced : (z ≡ y) ⊎ Among z ys → (key y == key x) ≡ true → (z ≡ x) ⊎ Among z ys
    replaced (inl e) f = absurd (ne (ap key e ∙ equal (key y) (key x) f))
    replaced (inr b) f = inr b

-- what is there is the row, or an old one of another key
pub put_old : {A : Type 0} (key : A → ℕ) (x : A) (n : ℕ) (xs : List A) → Rises key n xs → (z : A) → Among z (with_row key x xs) → (z ≡ x) ⊎ (Among z xs × (key z ≡ key x → ⊥))
put_old key x n [] h z (inl e) = inl e
put_old key x n [] h z (inr a) = absurd a
put_old key x n (y ∷ ys) h z a =
    (elim (nat_lt (key y) (key x)) as (λ b. nat_lt (key y) (key x) ≡ b → Among z (elim b [ true ↦ y ∷ with_row key x ys | false ↦ elim (key y == key x) [ true ↦ x ∷ ys | false ↦ x ∷ y ∷ ys ] ]) → (z ≡ x) ⊎ (Among z (y ∷ ys) × (key z ≡ key x → ⊥))) [
      | true ↦ λ e c. first e (put_old key x (key y + 1) ys h.1 z) c
      | false ↦ λ e. (elim (key y == key x) as (λ b. (key y == key x) ≡ b → Among z (elim b [ true ↦ x ∷ ys | false ↦ x ∷ y ∷ ys ]) → (z ≡ x) ⊎ (Among z (y ∷ ys) × (key z ≡ key x → ⊥))) [
        | true ↦ λ f c. in_place f c
        | false ↦ λ f c. before e f c
      ]) refl
    ]) refl a
  where
    later : Among z ys → key x ≤ key y → key z ≡ key x → ⊥
    later b le same = (let m : key y + 1 ≤ key z = rises_above key (key y + 1) ys h.1 z b in omega (arith, m, le, same))

    first : nat_lt (key y) (key x) ≡ true → (Among z (with_row key x ys) → (z ≡ x) ⊎ (Among z ys × (key z ≡ key x → ⊥))) → (z ≡ y) ⊎ Among z (with_row key x ys) → (z ≡ x) ⊎ (Among z (y ∷ ys) × (key z ≡ key x → ⊥))
    first e rest (inl p) = inr (inl p, λ same. below_other (key y) (key x) e (ap key (sym p) ∙ same))
    first e rest (inr b) = longer (rest b)
      where
        longer : (z ≡ x) ⊎ (Among z ys × (key z ≡ key x → ⊥)) → (z ≡ x) ⊎ (Among z (y ∷ ys) × (key z ≡ key x → ⊥))
        longer (inl p) = inl p
        longer (inr k) = inr (inr k.0, k.1)

    in_place : (key y == key x) ≡ true → (z ≡ x) ⊎ Among z ys → (z ≡ x) ⊎ (Among z (y ∷ ys) × (key z ≡ key x → ⊥))
    in_place f (inl p) = inl p
    in_place f (inr b) = inr (inr b, later b (let s : key y ≡ key x = equal (key y) (key x) f in omega (arith, s)))

    before : nat_lt (key y) (key x) ≡ false → (key y == key x) ≡ false → (z ≡ x) ⊎ ((z ≡ y) ⊎ Among z ys) → (z ≡ x) ⊎ (Among z (y ∷ ys) × (key z ≡ key x → ⊥))
    before e f (inl p) = inl p
    before e f (inr (inl p)) = inr (inl p, λ same. apart (key y) (key x) f (ap key (sym p) ∙ same))
    before e f (inr (inr b)) = inr (inr b, later b (let m : key x + 1 ≤ key y = above (key y) (key x) e f in omega (arith, m)))

-- ---- a row is taken away ----

pub taken_rises : {A : Type 0} (key : A → ℕ) (k n : ℕ) (xs : List A) → Rises key n xs → Rises key n (without_row key k xs)
taken_rises key k n [] h = tt
taken_rises key k n (y ∷ ys) h =
    elim (key y == k) as (λ b. Rises key n (elim b [ true ↦ ys | false ↦ y ∷ without_row key k ys ])) [
      | true ↦ rises_from key n (key y + 1) ys (let m : n ≤ key y = h.0 in omega (arith, m)) h.1
      | false ↦ (h.0, taken_rises key k (key y + 1) ys h.1)
    ]

pub taken_keeps : {A : Type 0} (key : A → ℕ) (k : ℕ) (xs : List A) (z : A) → Among z xs → (key z ≡ k → ⊥) → Among z (without_row key k xs)
taken_keeps key k [] z a ne = absurd a
taken_keeps key k (y ∷ ys) z a ne =
    (elim (key y == k) as (λ b. (key y == k) ≡ b → Among z (elim b [ true ↦ ys | false ↦ y ∷ without_row key k ys ])) [
      | true ↦ λ t. gone a t
      | false ↦ λ t. by_place a (λ b. taken_keeps key k ys z b ne)
    ]) refl
  where
    gone : (z ≡ y) ⊎ Among z ys → (key y == k) ≡ true → Among z ys
    gone (inl e) t = absurd (ne (ap key e ∙ equal (key y) k t))
    gone (inr b) t = b

    by_place : {B : Type 0} → (z ≡ y) ⊎ B → (B → Among z (without_row key k ys)) → (z ≡ y) ⊎ Among z (without_row key k ys)
    by_place (inl e) go = inl e
    by_place (inr b) go = inr (go b)

-- what is left was there, and has another key
pub taken_old : {A : Type 0} (key : A → ℕ) (k n : ℕ) (xs : List A) → Rises key n xs → (z : A) → Among z (without_row key k xs) → Among z xs × (key z ≡ k → ⊥)
taken_old key k n [] h z a = absurd a
taken_old key k n (y ∷ ys) h z a =
    (elim (key y == k) as (λ b. (key y == k) ≡ b → Among z (elim b [ true ↦ ys | false ↦ y ∷ without_row key k ys ]) → Among z (y ∷ ys) × (key z ≡ k → ⊥)) [
      | true ↦ λ t c. (inr c, later c (equal (key y) k t))
      | false ↦ λ t c. by_place t (taken_old key k (key y + 1) ys h.1 z) c
    ]) refl a
  where
    later : Among z ys → key y ≡ k → key z ≡ k → ⊥
    later b s same = (let m : key y + 1 ≤ key z = rises_above key (key y + 1) ys h.1 z b in omega (arith, m, s, same))

    by_place : (key y == k) ≡ false → (Among z (without_row key k ys) → Among z ys × (key z ≡ k → ⊥)) → (z ≡ y) ⊎ Among z (without_row key k ys) → Among z (y ∷ ys) × (key z ≡ k → ⊥)
    by_place t rest (inl e) = (inl e, λ same. apart (key y) k t (ap key (sym e) ∙ same))
    by_place t rest (inr b) = (let r : Among z ys × (key z ≡ k → ⊥) = rest b in (inr r.0, r.1))
