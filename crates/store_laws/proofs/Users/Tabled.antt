-- Tables in ascending order of their keys: what they are once a row is put in or taken away.
use Rattle.std.proofs.Common.{◌≡◌, ℕ, ◌<◌, ◌==◌, Bool, true, false, List, [], ◌∷◌, Option, Some, None, refl, sym, ◌∙◌, ap, subst, arith, ◌⊎◌, inl, inr}
use Rattle.std.specs.Prelude.{nat_lt}
use Rattle.std.proofs.lemmas.Bool.Decides.{nat_tests}
use Rattle.role_steps.proofs.of_plain_facts.Numbers.{apart, apart_test, equal, less}
use Rattle.role_steps.proofs.of_plain_facts.Options.{none_some, some_same}
use Rattle.role_steps.specs.Own.{Every}
use Rattle.role_steps.specs.Tables.{row, with_row, without_row, first_that}
use Rattle.tree_laws.specs.of_the_run.Kept.{Among}
use Rattle.tree_laws.specs.Stores.{Ascends}

not_less : (a b : ℕ) → nat_lt a b ≡ false → (a == b) ≡ false → b < a
not_less a b e f = grind (arith, nat_tests)

trans : (a b d : ℕ) → a < b → b < d → a < d
trans a b d e f = omega (arith, e, f)

apart_above : (k a : ℕ) → k < a → a ≡ k → ⊥
apart_above k a lt e = omega (arith, lt, e)

apart_below : (k a : ℕ) → a < k → a ≡ k → ⊥
apart_below k a lt e = omega (arith, lt, e)

below_all : {A : Type 0} (key : A → ℕ) (j k : ℕ) (xs : List A) → j < k → Every (λ y. k < key y) xs → Every (λ y. j < key y) xs
below_all key j k [] lt h = tt
below_all key j k (y ∷ ys) lt h = (trans j k (key y) lt h.0, below_all key j k ys lt h.1)

-- ---- rows above a key have another ----

above_other : {A : Type 0} (key : A → ℕ) (k : ℕ) (P Q : A → Type 0) (xs : List A) → ((y : A) → (key y ≡ k → ⊥) → P y → Q y) → Every (λ z. k < key z) xs → Every P xs → Every Q xs
above_other key k P Q [] other up h = tt
above_other key k P Q (y ∷ ys) other up h = (other y (apart_above k (key y) up.0) h.0, above_other key k P Q ys other up.1 h.1)

-- ---- a row is put in ----

pub every_with : {A : Type 0} (key : A → ℕ) (x : A) (P Q : A → Type 0) (xs : List A) → ((y : A) → (key y ≡ key x → ⊥) → P y → Q y) → Ascends key xs → Every P xs → Q x → Every Q (with_row key x xs)
every_with key x P Q [] other up h q = (q, tt)
every_with key x P Q (y ∷ ys) other up h q = at (every_with key x P Q ys other up.1 h.1 q) (nat_lt (key y) (key x)) (key y == key x) refl refl
  where
    at : Every Q (with_row key x ys) → (a b : Bool) → nat_lt (key y) (key x) ≡ a → (key y == key x) ≡ b → Every Q (elim a [ true ↦ y ∷ with_row key x ys | false ↦ elim b [ true ↦ x ∷ ys | false ↦ x ∷ y ∷ ys ] ])
    at later true b t s = (other y (apart_below (key x) (key y) (less (key y) (key x) t)) h.0, later)
    at later false true t s = (q, above_other key (key x) P Q ys other (subst (λ (k : ℕ). Every (λ z. k < key z) ys) (equal (key y) (key x) s) up.0) h.1)
    at later false false t s = (q, (other y (apart (key y) (key x) s) h.0, above_other key (key x) P Q ys other (below_all key (key x) (key y) ys (not_less (key y) (key x) t s) up.0) h.1))

below_rest : {A : Type 0} (key : A → ℕ) (k : ℕ) (x : A) (xs : List A) → k < key x → Every (λ y. k < key y) xs → Every (λ y. k < key y) (with_row key x xs)
below_rest key k x [] lt h = (lt, tt)
below_rest key k x (y ∷ ys) lt h = at (below_rest key k x ys lt h.1) (nat_lt (key y) (key x)) (key y == key x)
  where
    at : Every (λ z. k < key z) (with_row key x ys) → (a b : Bool) → Every (λ z. k < key z) (elim a [ true ↦ y ∷ with_row key x ys | false ↦ elim b [ true ↦ x ∷ ys | false ↦ x ∷ y ∷ ys ] ])
    at later true b = (h.0, later)
    at later false true = (lt, h.1)
    at later false false = (lt, h)

pub ascends_with : {A : Type 0} (key : A → ℕ) (x : A) (xs : List A) → Ascends key xs → Ascends key (with_row key x xs)
ascends_with key x [] h = (tt, tt)
ascends_with key x (y ∷ ys) h = at (ascends_with key x ys h.1) (nat_lt (key y) (key x)) (key y == key x) refl refl
  where
    at : Ascends key (with_row key x ys) → (a b : Bool) → nat_lt (key y) (key x) ≡ a → (key y == key x) ≡ b → Ascends key (elim a [ true ↦ y ∷ with_row key x ys | false ↦ elim b [ true ↦ x ∷ ys | false ↦ x ∷ y ∷ ys ] ])
    at later true b t u = (below_rest key (key y) x ys (less (key y) (key x) t) h.0, later)
    at later false true t u = (subst (λ (k : ℕ). Every (λ z. k < key z) ys) (equal (key y) (key x) u) h.0, h.1)
    at later false false t u = ((not_less (key y) (key x) t u, below_all key (key x) (key y) ys (not_less (key y) (key x) t u) h.0), h)

pub among_with : {A : Type 0} (key : A → ℕ) (x : A) (xs : List A) → Among x (with_row key x xs)
among_with key x [] = inl refl
among_with key x (y ∷ ys) = at (among_with key x ys) (nat_lt (key y) (key x)) (key y == key x)
  where
    at : Among x (with_row key x ys) → (a b : Bool) → Among x (elim a [ true ↦ y ∷ with_row key x ys | false ↦ elim b [ true ↦ x ∷ ys | false ↦ x ∷ y ∷ ys ] ])
    at later true b = inr later
    at later false true = inl refl
    at later false false = inl refl

pub among_kept : {A : Type 0} (key : A → ℕ) (x v : A) (xs : List A) → (key v ≡ key x → ⊥) → Among v xs → Among v (with_row key x xs)
among_kept key x v [] ne k = absurd k
among_kept key x v (y ∷ ys) ne k = at (λ (m : Among v ys). among_kept key x v ys ne m) (nat_lt (key y) (key x)) (key y == key x) refl k
  where
    at : (Among v ys → Among v (with_row key x ys)) → (a b : Bool) → (key y == key x) ≡ b → (v ≡ y) ⊎ Among v ys → Among v (elim a [ true ↦ y ∷ with_row key x ys | false ↦ elim b [ true ↦ x ∷ ys | false ↦ x ∷ y ∷ ys ] ])
    at later true b s (inl e) = inl e
    at later true b s (inr m) = inr (later m)
    at later false true s (inl e) = absurd (ne (ap key e ∙ equal (key y) (key x) s))
    at later false true s (inr m) = inr m
    at later false false s m = inr m

-- ---- a row is taken away ----

every_sub : {A : Type 0} (key : A → ℕ) (k : ℕ) (P : A → Type 0) (xs : List A) → Every P xs → Every P (without_row key k xs)
every_sub key k P [] h = tt
every_sub key k P (y ∷ ys) h = at (every_sub key k P ys h.1) (key y == k)
  where
    at : Every P (without_row key k ys) → (b : Bool) → Every P (elim b [ true ↦ ys | false ↦ y ∷ without_row key k ys ])
    at later true = h.1
    at later false = (h.0, later)

pub every_without : {A : Type 0} (key : A → ℕ) (k : ℕ) (P Q : A → Type 0) (xs : List A) → ((y : A) → (key y ≡ k → ⊥) → P y → Q y) → Ascends key xs → Every P xs → Every Q (without_row key k xs)
every_without key k P Q [] other up h = tt
every_without key k P Q (y ∷ ys) other up h = at (every_without key k P Q ys other up.1 h.1) (key y == k) refl
  where
    at : Every Q (without_row key k ys) → (b : Bool) → (key y == k) ≡ b → Every Q (elim b [ true ↦ ys | false ↦ y ∷ without_row key k ys ])
    at later true t = above_other key k P Q ys other (subst (λ (j : ℕ). Every (λ z. j < key z) ys) (equal (key y) k t) up.0) h.1
    at later false t = (other y (apart (key y) k t) h.0, later)

pub ascends_without : {A : Type 0} (key : A → ℕ) (k : ℕ) (xs : List A) → Ascends key xs → Ascends key (without_row key k xs)
ascends_without key k [] h = tt
ascends_without key k (y ∷ ys) h = at (ascends_without key k ys h.1) (key y == k)
  where
    at : Ascends key (without_row key k ys) → (b : Bool) → Ascends key (elim b [ true ↦ ys | false ↦ y ∷ without_row key k ys ])
    at later true = h.1
    at later false = (every_sub key k (λ z. key y < key z) ys h.0, later)

pub among_without : {A : Type 0} (key : A → ℕ) (k : ℕ) (v : A) (xs : List A) → (key v ≡ k → ⊥) → Among v xs → Among v (without_row key k xs)
among_without key k v [] ne m = absurd m
among_without key k v (y ∷ ys) ne m = at (λ (q : Among v ys). among_without key k v ys ne q) (key y == k) refl m
  where
    at : (Among v ys → Among v (without_row key k ys)) → (b : Bool) → (key y == k) ≡ b → (v ≡ y) ⊎ Among v ys → Among v (elim b [ true ↦ ys | false ↦ y ∷ without_row key k ys ])
    at later true t (inl e) = absurd (ne (ap key e ∙ equal (key y) k t))
    at later true t (inr q) = q
    at later false t (inl e) = inl e
    at later false t (inr q) = inr (later q)

none_below : {A : Type 0} (key : A → ℕ) (k : ℕ) (xs : List A) → Every (λ y. k < key y) xs → row key k xs ≡ None
none_below key k [] h = refl
none_below key k (y ∷ ys) h = rw (apart_test (key y) k (apart_above k (key y) h.0), row) (none_below key k ys h.1)

pub row_gone : {A : Type 0} (key : A → ℕ) (k : ℕ) (xs : List A) → Ascends key xs → row key k (without_row key k xs) ≡ None
row_gone key k [] h = refl
row_gone {A} key k (y ∷ ys) h = at (row_gone key k ys h.1) (key y == k) refl
  where
    at : row key k (without_row key k ys) ≡ None → (b : Bool) → (key y == k) ≡ b → ◌≡◌ {A = Option A} (row key k (elim b [ true ↦ ys | false ↦ y ∷ without_row key k ys ])) None
    at later true t = none_below key k ys (subst (λ (j : ℕ). Every (λ z. j < key z) ys) (equal (key y) k t) h.0)
    at later false t = rw (t, row) later

pub row_left : {A : Type 0} (key : A → ℕ) (k t : ℕ) (xs : List A) → (k ≡ t → ⊥) → row key t (without_row key k xs) ≡ row key t xs
row_left key k t [] ne = refl
row_left {A} key k t (y ∷ ys) ne = at (row_left key k t ys ne) (key y == k) refl
  where
    inner : row key t (without_row key k ys) ≡ row key t ys → (b : Bool) → ◌≡◌ {A = Option A} (elim b [ true ↦ Some y | false ↦ row key t (without_row key k ys) ]) (elim b [ true ↦ Some y | false ↦ row key t ys ])
    inner later true = refl
    inner later false = later

    at : row key t (without_row key k ys) ≡ row key t ys → (b : Bool) → (key y == k) ≡ b → ◌≡◌ {A = Option A} (row key t (elim b [ true ↦ ys | false ↦ y ∷ without_row key k ys ])) (row key t (y ∷ ys))
    at later true s = rw (apart_test (key y) t (λ e. ne (sym (equal (key y) k s) ∙ e)), row) refl
    at later false s = inner later (key y == t)

-- ---- what is found ----

among_every : {A : Type 0} (P : A → Type 0) (x : A) (xs : List A) → Among x xs → Every P xs → P x
among_every P x [] m h = absurd m
among_every P x (y ∷ ys) (inl e) h = subst P (sym e) h.0
among_every P x (y ∷ ys) (inr m) h = among_every P x ys m h.1

pub every_among : {A : Type 0} (P : A → Type 0) (x : A) (xs : List A) → Among x xs → Every P xs → P x
every_among P x xs m h = among_every P x xs m h

pub one_row : {A : Type 0} (key : A → ℕ) (v w : A) (xs : List A) → Ascends key xs → Among v xs → Among w xs → key v ≡ key w → v ≡ w
one_row key v w [] up a b e = absurd a
one_row key v w (y ∷ ys) up (inl a) (inl b) e = a ∙ sym b
one_row key v w (y ∷ ys) up (inl a) (inr b) e = absurd (apart_above (key y) (key w) (among_every (λ z. key y < key z) w ys b up.0) (sym e ∙ ap key a))
one_row key v w (y ∷ ys) up (inr a) (inl b) e = absurd (apart_above (key y) (key v) (among_every (λ z. key y < key z) v ys a up.0) (e ∙ ap key b))
one_row key v w (y ∷ ys) up (inr a) (inr b) e = one_row key v w ys up.1 a b e

pub row_found : {A : Type 0} (key : A → ℕ) (k : ℕ) (xs : List A) (x : A) → row key k xs ≡ Some x → Among x xs × (key x ≡ k)
row_found key k [] x e = absurd (none_some x e)
row_found {A} key k (y ∷ ys) x e = at (row_found key k ys x) (key y == k) refl e
  where
    at : (row key k ys ≡ Some x → Among x ys × (key x ≡ k)) → (b : Bool) → (key y == k) ≡ b → ◌≡◌ {A = Option A} (elim b [ true ↦ Some y | false ↦ row key k ys ]) (Some x) → ((x ≡ y) ⊎ Among x ys) × (key x ≡ k)
    at later true t f = (inl (sym (some_same y x f)), ap key (sym (some_same y x f)) ∙ equal (key y) k t)
    at later false t f = (inr (later f).0, (later f).1)

pub first_found : {A : Type 0} (test : A → Bool) (xs : List A) (x : A) → first_that test xs ≡ Some x → Among x xs × (test x ≡ true)
first_found test [] x e = absurd (none_some x e)
first_found {A} test (y ∷ ys) x e = at (first_found test ys x) (test y) refl e
  where
    at : (first_that test ys ≡ Some x → Among x ys × (test x ≡ true)) → (b : Bool) → test y ≡ b → ◌≡◌ {A = Option A} (elim b [ true ↦ Some y | false ↦ first_that test ys ]) (Some x) → ((x ≡ y) ⊎ Among x ys) × (test x ≡ true)
    at later true t f = (inl (sym (some_same y x f)), ap test (sym (some_same y x f)) ∙ t)
    at later false t f = (inr (later f).0, (later f).1)
