-- Tables with keys: what is found in them, and what they are once a row is put in.
use Rattle.std.proofs.Common.{◌≡◌, ℕ, ◌<◌, ◌+◌, ◌*◌, ◌==◌, Bool, true, false, List, [], ◌∷◌, Option, Some, refl, sym, ◌∙◌, ap, subst, arith, ◌⊎◌, inl, inr}
use Rattle.std.specs.Prelude.{nat_lt}
use Rattle.std.proofs.lemmas.Bool.Decides.{nat_tests}
use Rattle.role_steps.proofs.of_plain_facts.Numbers.{apart_test, equal, equal_self, less}
use Rattle.role_steps.proofs.of_plain_facts.Options.{none_some, some_same}
use Rattle.role_steps.proofs.of_plain_facts.Tests.{true_false}
use Rattle.locus_ids.specs.declared.ids.FileId.{FileId}
use Rattle.locus_ids.specs.Sizes.{inode_span}
use Rattle.role_steps.specs.Own.{Every}
use Rattle.role_steps.specs.Views.{file_key}
use Rattle.the_run.specs.Kept.{Among}
use Rattle.role_steps.specs.Tables.{row, with_row, with_latest}
use Rattle.tree_laws.specs.Stores.{AreApart, Ascends}

-- ---- what is found ----

pub row_found : {A : Type 0} (key : A → ℕ) (k : ℕ) (xs : List A) (x : A) (P : A → Type 0) → row key k xs ≡ Some x → Every P xs → P x × (key x ≡ k)
row_found key k [] x P e h = absurd (none_some x e)
row_found key k (y ∷ ys) x P e h = at (λ (f : row key k ys ≡ Some x). row_found key k ys x P f h.1) (key y == k) refl e
  where
    at : (row key k ys ≡ Some x → P x × (key x ≡ k)) → (b : Bool) → (key y == k) ≡ b → elim b [ true ↦ Some y | false ↦ row key k ys ] ≡ Some x → P x × (key x ≡ k)
    at later true t e = (subst P (some_same y x e) h.0, ap key (sym (some_same y x e)) ∙ equal (key y) k t)
    at later false t e = later e

pub row_among : {A : Type 0} (key : A → ℕ) (k : ℕ) (xs : List A) (x : A) → row key k xs ≡ Some x → Among x xs
row_among key k [] x e = absurd (none_some x e)
row_among {A} key k (y ∷ ys) x e = at (row_among key k ys x) (key y == k) e
  where
    at : (row key k ys ≡ Some x → Among x ys) → (b : Bool) → ◌≡◌ {A = Option A} (elim b [ true ↦ Some y | false ↦ row key k ys ]) (Some x) → (x ≡ y) ⊎ Among x ys
    at later true f = inl (sym (some_same y x f))
    at later false f = inr (later f)

-- files whose numbers have 16 bits have keys of their own
pub file_of_key : (a b : FileId) → a.ino < inode_span → b.ino < inode_span → file_key a ≡ file_key b → a ≡ b
file_of_key a b low narrow e = id_eq (groups a.group b.group a.ino b.ino low narrow e) (numbers a.group b.group a.ino b.ino low narrow e)
  where
    groups : (g h i j : ℕ) → i < inode_span → j < inode_span → g * inode_span + i ≡ h * inode_span + j → g ≡ h
    groups g h i j l m k = omega (arith, l, m, k)

    numbers : (g h i j : ℕ) → i < inode_span → j < inode_span → g * inode_span + i ≡ h * inode_span + j → i ≡ j
    numbers g h i j l m k = omega (arith, l, m, k)

    id_eq : a.group ≡ b.group → a.ino ≡ b.ino → a ≡ b
    id_eq k l = λ j. record { group = k j; ino = l j }

-- ---- in the order of coming ----

pub every_latest : {A : Type 0} (key : A → ℕ) (x : A) (P Q : A → Type 0) (xs : List A) → ((y : A) → (key y ≡ key x → ⊥) → P y → Q y) → AreApart key xs → Every P xs → Q x → Every Q (with_latest key x xs)
every_latest key x P Q [] other apart h q = (q, tt)
every_latest key x P Q (y ∷ ys) other apart h q = at (every_latest key x P Q ys other apart.1 h.1 q) (key y == key x) refl
  where
    rest : (key y ≡ key x) → (zs : List _) → Every (λ z. key z ≡ key y → ⊥) zs → Every P zs → Every Q zs
    rest same [] a p = tt
    rest same (z ∷ zs) a p = (other z (λ e. a.0 (e ∙ sym same)) p.0, rest same zs a.1 p.1)

    at : Every Q (with_latest key x ys) → (b : Bool) → (key y == key x) ≡ b → Every Q (elim b [ true ↦ x ∷ ys | false ↦ y ∷ with_latest key x ys ])
    at later true t = (q, rest (equal (key y) (key x) t) ys apart.0 h.1)
    at later false t = (other y (λ e. true_false (sym (subst (λ (k : ℕ). (key y == k) ≡ true) e (equal_self (key y))) ∙ t)) h.0, later)

other_keys : {A : Type 0} (key : A → ℕ) (x : A) (k : ℕ) (xs : List A) → (key x ≡ k → ⊥) → Every (λ z. key z ≡ k → ⊥) xs → Every (λ z. key z ≡ k → ⊥) (with_latest key x xs)
other_keys key x k [] ne h = (ne, tt)
other_keys key x k (y ∷ ys) ne h = at (other_keys key x k ys ne h.1) (key y == key x)
  where
    at : Every (λ z. key z ≡ k → ⊥) (with_latest key x ys) → (b : Bool) → Every (λ z. key z ≡ k → ⊥) (elim b [ true ↦ x ∷ ys | false ↦ y ∷ with_latest key x ys ])
    at later true = (ne, h.1)
    at later false = (h.0, later)

pub apart_latest : {A : Type 0} (key : A → ℕ) (x : A) (xs : List A) → AreApart key xs → AreApart key (with_latest key x xs)
apart_latest key x [] h = (tt, tt)
apart_latest key x (y ∷ ys) h = at (apart_latest key x ys h.1) (key y == key x) refl
  where
    at : AreApart key (with_latest key x ys) → (b : Bool) → (key y == key x) ≡ b → AreApart key (elim b [ true ↦ x ∷ ys | false ↦ y ∷ with_latest key x ys ])
    at later true t = (subst (λ (k : ℕ). Every (λ z. key z ≡ k → ⊥) ys) (equal (key y) (key x) t) h.0, h.1)
    at later false t = (other_keys key x (key y) ys (λ e. true_false (sym (subst (λ (k : ℕ). (key y == k) ≡ true) (sym e) (equal_self (key y))) ∙ t)) h.0, later)

pub latest_same : {A : Type 0} (key : A → ℕ) (x : A) (xs : List A) → row key (key x) (with_latest key x xs) ≡ Some x
latest_same key x [] = rw (equal_self (key x), row) refl
latest_same key x (y ∷ ys) = at (latest_same key x ys) (key y == key x) refl
  where
    at : row key (key x) (with_latest key x ys) ≡ Some x → (b : Bool) → (key y == key x) ≡ b → row key (key x) (elim b [ true ↦ x ∷ ys | false ↦ y ∷ with_latest key x ys ]) ≡ Some x
    at later true t = rw (equal_self (key x), row) refl
    at later false t = rw (t, row) later

pub latest_other : {A : Type 0} (key : A → ℕ) (x : A) (k : ℕ) (xs : List A) → (key x ≡ k → ⊥) → row key k (with_latest key x xs) ≡ row key k xs
latest_other key x k [] ne = rw (apart_test (key x) k ne, row) refl
latest_other {A} key x k (y ∷ ys) ne = at (latest_other key x k ys ne) (key y == key x) refl
  where
    at : row key k (with_latest key x ys) ≡ row key k ys → (b : Bool) → (key y == key x) ≡ b → row key k (elim b [ true ↦ x ∷ ys | false ↦ y ∷ with_latest key x ys ]) ≡ row key k (y ∷ ys)
    at later true t = rw (apart_test (key x) k ne, apart_test (key y) k (λ e. ne (sym (equal (key y) (key x) t) ∙ e)), row) refl
    at later false t = inner later (key y == k)
      where
        inner : row key k (with_latest key x ys) ≡ row key k ys → (b : Bool) → ◌≡◌ {A = Option A} (elim b [ true ↦ Some y | false ↦ row key k (with_latest key x ys) ]) (elim b [ true ↦ Some y | false ↦ row key k ys ])
        inner later true = refl
        inner later false = later

-- what is found after it was found before, or is the row that was put in
pub latest_has : {A : Type 0} (key : A → ℕ) (x : A) (k : ℕ) (xs : List A) → ((y : A) × (row key k xs ≡ Some y)) → (y : A) × (row key k (with_latest key x xs) ≡ Some y)
latest_has key x k xs h = at (key x == k) refl
  where
    at : (b : Bool) → (key x == k) ≡ b → (y : _) × (row key k (with_latest key x xs) ≡ Some y)
    at true t = (x, subst (λ (j : ℕ). row key j (with_latest key x xs) ≡ Some x) (equal (key x) k t) (latest_same key x xs))
    at false t = (h.0, latest_other key x k xs (λ e. true_false (sym (subst (λ (j : ℕ). (key x == j) ≡ true) e (equal_self (key x))) ∙ t)) ∙ h.1)

-- ---- each has a property ----

pub every_row : {A : Type 0} (key : A → ℕ) (x : A) (P : A → Type 0) (xs : List A) → Every P xs → P x → Every P (with_row key x xs)
every_row key x P [] h p = (p, tt)
every_row key x P (y ∷ ys) h p = at (every_row key x P ys h.1 p) (nat_lt (key y) (key x)) (key y == key x)
  where
    at : Every P (with_row key x ys) → (a b : Bool) → Every P (elim a [ true ↦ y ∷ with_row key x ys | false ↦ elim b [ true ↦ x ∷ ys | false ↦ x ∷ y ∷ ys ] ])
    at later true b = (h.0, later)
    at later false true = (p, h.1)
    at later false false = (p, h)

-- ---- ascending ----

below_rest : {A : Type 0} (key : A → ℕ) (k : ℕ) (x : A) (xs : List A) → k < key x → Every (λ y. k < key y) xs → Every (λ y. k < key y) (with_row key x xs)
below_rest key k x [] lt h = (lt, tt)
below_rest key k x (y ∷ ys) lt h = at (below_rest key k x ys lt h.1) (nat_lt (key y) (key x)) (key y == key x)
  where
    at : Every (λ z. k < key z) (with_row key x ys) → (a b : Bool) → Every (λ z. k < key z) (elim a [ true ↦ y ∷ with_row key x ys | false ↦ elim b [ true ↦ x ∷ ys | false ↦ x ∷ y ∷ ys ] ])
    at later true b = (h.0, later)
    at later false true = (lt, h.1)
    at later false false = (lt, h)

not_less : (a b : ℕ) → nat_lt a b ≡ false → (a == b) ≡ false → b < a
not_less a b e f = grind (arith, nat_tests)

below_all : {A : Type 0} (key : A → ℕ) (j k : ℕ) (xs : List A) → j < k → Every (λ y. k < key y) xs → Every (λ y. j < key y) xs
below_all key j k [] lt h = tt
below_all key j k (y ∷ ys) lt h = (trans j k (key y) lt h.0, below_all key j k ys lt h.1)
  where
    trans : (a b d : ℕ) → a < b → b < d → a < d
    trans a b d e f = omega (arith, e, f)

pub ascends_row : {A : Type 0} (key : A → ℕ) (x : A) (xs : List A) → Ascends key xs → Ascends key (with_row key x xs)
ascends_row key x [] h = (tt, tt)
ascends_row key x (y ∷ ys) h = at (ascends_row key x ys h.1) (nat_lt (key y) (key x)) (key y == key x) refl refl
  where
    at : Ascends key (with_row key x ys) → (a b : Bool) → nat_lt (key y) (key x) ≡ a → (key y == key x) ≡ b → Ascends key (elim a [ true ↦ y ∷ with_row key x ys | false ↦ elim b [ true ↦ x ∷ ys | false ↦ x ∷ y ∷ ys ] ])
    at later true b t u = (below_rest key (key y) x ys (less (key y) (key x) t) h.0, later)
    at later false true t u = (subst (λ (k : ℕ). Every (λ z. k < key z) ys) (equal (key y) (key x) u) h.0, h.1)
    at later false false t u = ((not_less (key y) (key x) t u, below_all key (key x) (key y) ys (not_less (key y) (key x) t u) h.0), h)

pub row_same : {A : Type 0} (key : A → ℕ) (x : A) (xs : List A) → row key (key x) (with_row key x xs) ≡ Some x
row_same key x [] = rw (equal_self (key x), row) refl
row_same key x (y ∷ ys) = at (row_same key x ys) (nat_lt (key y) (key x)) (key y == key x) refl refl
  where
    apart : nat_lt (key y) (key x) ≡ true → key y ≡ key x → ⊥
    apart t e = let lt : key y < key x = less (key y) (key x) t in omega (arith, lt, e)

    at : row key (key x) (with_row key x ys) ≡ Some x → (a b : Bool) → nat_lt (key y) (key x) ≡ a → (key y == key x) ≡ b → row key (key x) (elim a [ true ↦ y ∷ with_row key x ys | false ↦ elim b [ true ↦ x ∷ ys | false ↦ x ∷ y ∷ ys ] ]) ≡ Some x
    at later true b t u = rw (apart_test (key y) (key x) (apart t), row) later
    at later false true t u = rw (equal_self (key x), row) refl
    at later false false t u = rw (equal_self (key x), row) refl

pub row_other : {A : Type 0} (key : A → ℕ) (x : A) (k : ℕ) (xs : List A) → (key x ≡ k → ⊥) → row key k (with_row key x xs) ≡ row key k xs
row_other key x k [] ne = rw (apart_test (key x) k ne, row) refl
row_other {A} key x k (y ∷ ys) ne = at (row_other key x k ys ne) (nat_lt (key y) (key x)) (key y == key x) refl
  where
    inner : row key k (with_row key x ys) ≡ row key k ys → (b : Bool) → ◌≡◌ {A = Option A} (elim b [ true ↦ Some y | false ↦ row key k (with_row key x ys) ]) (elim b [ true ↦ Some y | false ↦ row key k ys ])
    inner later true = refl
    inner later false = later

    at : row key k (with_row key x ys) ≡ row key k ys → (a b : Bool) → (key y == key x) ≡ b → row key k (elim a [ true ↦ y ∷ with_row key x ys | false ↦ elim b [ true ↦ x ∷ ys | false ↦ x ∷ y ∷ ys ] ]) ≡ row key k (y ∷ ys)
    at later true b u = inner later (key y == k)
    at later false true u = rw (apart_test (key x) k ne, apart_test (key y) k (λ e. ne (sym (equal (key y) (key x) u) ∙ e)), row) refl
    at later false false u = rw (apart_test (key x) k ne, row) refl
