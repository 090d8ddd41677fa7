-- Tables of a site stand in ascending order of their groups, each once; one of them changes, the others stay.
use Rattle.std.proofs.Common.{◌≡◌, ℕ, ◌==◌, nat_lt, ◌<◌, Bool, true, false, cond, List, [], ◌∷◌, map, filter, Option, Some, None, refl, sym, ap, subst, inl, inr, arith}
use Rattle.std.proofs.lemmas.Bool.Decides.{nat_tests}
use Rattle.role_steps.proofs.of_plain_facts.Numbers.{equal}
use Rattle.role_steps.proofs.of_plain_facts.Options.{none_some, some_same}
use Rattle.role_steps.specs.Own.{Every}
use Rattle.role_steps.specs.Tables.{row, with_row, first_that}
use Rattle.the_run.specs.Kept.{Among}
use Rattle.tree_laws.proofs.Boots.{every_filter}

-- each is above the ones before it
abbrev pub Rising : List ℕ → Type 0
Rising [] = Unit {0}
Rising (x ∷ xs) = Every (λ (y : ℕ). x < y) xs × Rising xs

pub rising_filter : (p : ℕ → Bool) (xs : List ℕ) → Rising xs → Rising (filter p xs)
rising_filter p [] h = tt
rising_filter p (x ∷ xs) h = over (p x) (rising_filter p xs h.1)
  where
    over : (b : Bool) → Rising (filter p xs) → Rising (cond b (x ∷ filter p xs) (filter p xs))
    over true k = (every_filter (λ (y : ℕ). x < y) p xs h.0, k)
    over false k = k

below_apart : (a b : ℕ) → a < b → b ≡ a → ⊥
below_apart a b h e = grind (arith)

above_each : {A : Type 0} (P : A → Type 0) (key : A → ℕ) (k : ℕ) (xs : List A) → Every (λ (y : ℕ). k < y) (map key xs) → Every (λ (x : A). (key x ≡ k → ⊥) → P x) xs → Every P xs
above_each P key k [] h p = tt
above_each P key k (x ∷ xs) h p = (p.0 (below_apart k (key x) h.0), above_each P key k xs h.1 p.1)

less_apart : (a b : ℕ) → nat_lt a b ≡ true → a ≡ b → ⊥
less_apart a b h e = grind (arith, nat_tests)

between : (a b : ℕ) → nat_lt a b ≡ false → (a == b) ≡ false → b < a
between a b h k = grind (arith, nat_tests)

every_above : (a b : ℕ) (xs : List ℕ) → a < b → Every (λ (y : ℕ). b < y) xs → Every (λ (y : ℕ). a < y) xs
every_above a b [] h k = tt
every_above a b (x ∷ xs) h k = (grind (arith), every_above a b xs h k.1)

-- a row takes the place of the one with its key, and the others stay
pub every_replaced : {A : Type 0} (P : A → Type 0) (key : A → ℕ) (x : A) (xs : List A) → Rising (map key xs) → P x → Every (λ (y : A). (key y ≡ key x → ⊥) → P y) xs → Every P (with_row key x xs)
every_replaced P key x [] r p h = (p, tt)
every_replaced P key x (y ∷ ys) r p h = over (nat_lt (key y) (key x)) (key y == key x) refl refl (every_replaced P key x ys r.1 p h.1)
  where
    over : (a b : Bool) → nat_lt (key y) (key x) ≡ a → (key y == key x) ≡ b → Every P (with_row key x ys) → Every P (elim a [ true ↦ y ∷ with_row key x ys | false ↦ elim b [ true ↦ x ∷ ys | false ↦ x ∷ y ∷ ys ] ])
    over true b lt same k = (h.0 (less_apart (key y) (key x) lt), k)
    over false true lt same k = (p, above_each P key (key x) ys (subst (λ (m : ℕ). Every (λ (z : ℕ). m < z) (map key ys)) (equal (key y) (key x) same) r.0) h.1)
    over false false lt same k = (p, (h.0 (below_apart (key x) (key y) (between (key y) (key x) lt same)), above_each P key (key x) ys (every_above (key x) (key y) (map key ys) (between (key y) (key x) lt same) r.0) h.1))

among_above : (k : ℕ) (xs : List ℕ) → Every (λ (y : ℕ). k < y) xs → Among k xs → ⊥
among_above k [] h m = absurd m
among_above k (x ∷ xs) h (inl e) = below_apart k x h.0 (sym e)
among_above k (x ∷ xs) h (inr m) = among_above k xs h.1 m

-- the keys stay where the key of the row is one of them
pub keys_same : {A : Type 0} (key : A → ℕ) (x : A) (xs : List A) → Rising (map key xs) → Among (key x) (map key xs) → map key (with_row key x xs) ≡ map key xs
keys_same key x [] r m = absurd m
keys_same key x (y ∷ ys) r m = over (nat_lt (key y) (key x)) (key y == key x) refl refl (λ k. keys_same key x ys r.1 k) m
  where
    over : (a b : Bool) → nat_lt (key y) (key x) ≡ a → (key y == key x) ≡ b → (Among (key x) (map key ys) → map key (with_row key x ys) ≡ map key ys) → Among (key x) (key y ∷ map key ys) → map key (elim a [ true ↦ y ∷ with_row key x ys | false ↦ elim b [ true ↦ x ∷ ys | false ↦ x ∷ y ∷ ys ] ]) ≡ key y ∷ map key ys
    over true b lt same rest (inl e) = absurd (less_apart (key y) (key x) lt (sym e))
    over true b lt same rest (inr k) = ap (λ (zs : List ℕ). key y ∷ zs) (rest k)
    over false true lt same rest k = ap (λ (z : ℕ). z ∷ map key ys) (sym (equal (key y) (key x) same))
    over false false lt same rest (inl e) = absurd (below_apart (key x) (key y) (between (key y) (key x) lt same) (sym e))
    over false false lt same rest (inr k) = absurd (among_above (key x) (map key ys) (every_above (key x) (key y) (map key ys) (between (key y) (key x) lt same) r.0) k)

-- ---- what is found ----

pub row_key : {A : Type 0} (key : A → ℕ) (k : ℕ) (xs : List A) (x : A) → row key k xs ≡ Some x → Among x xs × (key x ≡ k)
row_key key k [] x e = absurd (none_some x e)
row_key key k (y ∷ ys) x e = over (key y == k) refl (λ h. row_key key k ys x h) e
  where
    over : (b : Bool) → (key y == k) ≡ b → (row key k ys ≡ Some x → Among x ys × (key x ≡ k)) → elim b [ true ↦ Some y | false ↦ row key k ys ] ≡ Some x → Among x (y ∷ ys) × (key x ≡ k)
    over true same rest h = (inl (sym (some_same y x h)), subst (λ (z : _). key z ≡ k) (some_same y x h) (equal (key y) k same))
    over false same rest h = let r : Among x ys × (key x ≡ k) = rest h in (inr r.0, r.1)

pub first_among : {A : Type 0} (test : A → Bool) (xs : List A) (x : A) → first_that test xs ≡ Some x → Among x xs
first_among test [] x e = absurd (none_some x e)
first_among test (y ∷ ys) x e = over (test y) (λ h. first_among test ys x h) e
  where
    over : (b : Bool) → (first_that test ys ≡ Some x → Among x ys) → elim b [ true ↦ Some y | false ↦ first_that test ys ] ≡ Some x → Among x (y ∷ ys)
    over true rest h = inl (sym (some_same y x h))
    over false rest h = inr (rest h)

pub every_among : {A : Type 0} (P : A → Type 0) (x : A) (xs : List A) → Among x xs → Every P xs → P x
every_among P x [] m h = absurd m
every_among P x (y ∷ ys) (inl e) h = subst P (sym e) h.0
every_among P x (y ∷ ys) (inr m) h = every_among P x ys m h.1

pub among_map : {A B : Type 0} (g : A → B) (x : A) (xs : List A) → Among x xs → Among (g x) (map g xs)
among_map g x [] m = absurd m
among_map g x (y ∷ ys) (inl e) = inl (ap g e)
among_map g x (y ∷ ys) (inr m) = inr (among_map g x ys m)

pub among_filter : (p : ℕ → Bool) (k : ℕ) (xs : List ℕ) → Among k (filter p xs) → p k ≡ true
among_filter p k [] m = absurd m
among_filter p k (x ∷ xs) m = over (p x) refl (λ h. among_filter p k xs h) m
  where
    over : (b : Bool) → p x ≡ b → (Among k (filter p xs) → p k ≡ true) → Among k (cond b (x ∷ filter p xs) (filter p xs)) → p k ≡ true
    over true e rest (inl h) = subst (λ (z : ℕ). p z ≡ true) (sym h) e
    over true e rest (inr h) = rest h
    over false e rest h = rest h
