-- Rows of a table in order.
use Rattle.std.proofs.Common.{◌≡◌, ◌≢◌, ℕ, zero, suc, ◌+◌, ◌<◌, ◌≤◌, List, [], ◌∷◌, length, set, get_or, Option, Some, None, slice_get, true, false, nat_eq, nat_lt, refl, sym, ap, ◌∙◌, subst, arith}
use Rattle.std.specs.List.{insert, remove}
use Rattle.std.proofs.lemmas.Bool.Decides.{nat_tests}
use Rattle.role_steps.proofs.of_plain_facts.Numbers.{differ_test, less_test, not_less_test, same_test}
use Rattle.role_steps.proofs.of_plain_facts.Options.{some_same}
use Rattle.role_steps.specs.Tables.{row, with_row, without_row}
use Rattle.keyed_tables.specs.Rising.{Above, Rising, Within, BelowTo}

none_some : {A : Type 0} {B : Type 0} (a : A) → ◌≡◌ {A = Option A} None (Some a) → B
none_some a e = absurd (cc)

above_at : {A : Type 0} (key : A → ℕ) (m : ℕ) (xs : List A) (i : ℕ) (a : A) → Above key m xs → slice_get xs i ≡ Some a → m < key a
above_at key m [] i a h e = none_some a e
above_at key m (x ∷ xs) zero a h e = subst (λ y. m < key y) (some_same x a e) h.0
above_at key m (x ∷ xs) (suc i) a h e = above_at key m xs i a h.1 e

rising_at : {A : Type 0} (key : A → ℕ) (xs : List A) (i j : ℕ) (a b : A) → Rising key xs → slice_get xs i ≡ Some a → slice_get xs j ≡ Some b → i < j → key a < key b
rising_at key [] i j a b h e f less = none_some a e
rising_at key (x ∷ xs) zero zero a b h e f less = absurd (omega arith)
rising_at key (x ∷ xs) zero (suc j) a b h e f less = subst (λ y. key y < key b) (some_same x a e) (above_at key (key x) xs j b h.0 f)
rising_at key (x ∷ xs) (suc i) zero a b h e f less = absurd (omega arith)
rising_at key (x ∷ xs) (suc i) (suc j) a b h e f less = rising_at key xs i j a b h.1 e f (omega arith)

-- the search goes on in the upper half, or in the lower one
pub goes_up : {A : Type 0} (key : A → ℕ) (k : ℕ) (xs : List A) (low high mid : ℕ) (m : A) → Rising key xs → Within key k xs low high → slice_get xs mid ≡ Some m → mid < high → key m < k → Within key k xs (mid + 1) high
goes_up {A = A} key k xs low high mid m r w e less small = record {
  order = omega arith;
  bound = w.bound;
  before = λ i a f g. before i a f g;
  after = w.after;
} where
  at_mid : (i : ℕ) (a : A) → slice_get xs i ≡ Some a → i ≡ mid → key a < k
  at_mid i a f same = subst (λ y. key y < k) (some_same m a (sym e ∙ (ap (slice_get xs) (sym same) ∙ f))) small

  before : (i : ℕ) (a : A) → slice_get xs i ≡ Some a → i < mid + 1 → key a < k
  before i a f g = elim (nat_lt i mid) as (λ b. nat_lt i mid ≡ b → key a < k) [ true ↦ λ t. below (grind (arith, nat_tests)) | false ↦ λ t. at_mid i a f (grind (arith, nat_tests)) ] refl where
    below : i < mid → key a < k
    below l = let h : key a < key m = rising_at key xs i mid a m r f e l in omega arith

pub goes_down : {A : Type 0} (key : A → ℕ) (k : ℕ) (xs : List A) (low high mid : ℕ) (m : A) → Rising key xs → Within key k xs low high → slice_get xs mid ≡ Some m → low ≤ mid → mid < high → k < key m → Within key k xs low mid
goes_down {A = A} key k xs low high mid m r w e more less great = record {
  order = more;
  bound = let h : high ≤ length xs = w.bound in omega arith;
  before = w.before;
  after = λ i a f g. after i a f g;
} where
  at_mid : (i : ℕ) (a : A) → slice_get xs i ≡ Some a → i ≡ mid → k < key a
  at_mid i a f same = subst (λ y. k < key y) (some_same m a (sym e ∙ (ap (slice_get xs) (sym same) ∙ f))) great

  after : (i : ℕ) (a : A) → slice_get xs i ≡ Some a → mid ≤ i → k < key a
  after i a f g = elim (nat_lt mid i) as (λ b. nat_lt mid i ≡ b → k < key a) [ true ↦ λ t. above (grind (arith, nat_tests)) | false ↦ λ t. at_mid i a f (grind (arith, nat_tests)) ] refl where
    above : mid < i → k < key a
    above l = let h : key m < key a = rising_at key xs mid i m a r e f l in omega arith

-- ---- what is found, and what is put, at a place ----

pub row_at : {A : Type 0} (key : A → ℕ) (k : ℕ) (xs : List A) (i : ℕ) (a : A) → Rising key xs → slice_get xs i ≡ Some a → key a ≡ k → row key k xs ≡ Some a
row_at key k [] i a r e same = none_some a e
row_at key k (x ∷ xs) zero a r e same = rw (same_test (key x) k (ap key (some_same x a e) ∙ same), row) e
row_at key k (x ∷ xs) (suc i) a r e same =
    let less : key x < key a = above_at key (key x) xs i a r.0 e in
    rw (differ_test (key x) k (λ f. absurd (omega arith)), row) (row_at key k xs i a r.1 e same)

pub row_none : {A : Type 0} (key : A → ℕ) (k : ℕ) (xs : List A) → ((i : ℕ) (a : A) → slice_get xs i ≡ Some a → key a ≢ k) → row key k xs ≡ None
row_none key k [] h = refl
row_none key k (x ∷ xs) h = rw (differ_test (key x) k (h 0 x refl), row) (row_none key k xs (λ i a e. h (suc i) a e))

pub put_over : {A : Type 0} (key : A → ℕ) (x : A) (xs : List A) (i : ℕ) (a : A) → Rising key xs → slice_get xs i ≡ Some a → key a ≡ key x → with_row key x xs ≡ set xs i x
put_over key x [] i a r e same = none_some a e
put_over key x (y ∷ ys) zero a r e same =
    let here : key y ≡ key x = ap key (some_same y a e) ∙ same in
    rw (not_less_test (key y) (key x) (omega arith), same_test (key y) (key x) here, with_row) refl
put_over key x (y ∷ ys) (suc i) a r e same =
    let less : key y < key a = above_at key (key y) ys i a r.0 e in
    rw (less_test (key y) (key x) (omega arith), with_row) (ap (λ zs. y ∷ zs) (put_over key x ys i a r.1 e same))

pub put_between : {A : Type 0} (key : A → ℕ) (x : A) (xs : List A) (i : ℕ) → i ≤ length xs → ((j : ℕ) (a : A) → slice_get xs j ≡ Some a → j < i → key a < key x) → ((j : ℕ) (a : A) → slice_get xs j ≡ Some a → i ≤ j → key x < key a) → with_row key x xs ≡ insert xs i x
put_between key x [] zero l h g = refl
put_between key x [] (suc i) l h g = absurd (omega arith)
put_between key x (y ∷ ys) zero l h g =
    let less : key x < key y = g 0 y refl (omega arith) in
    rw (not_less_test (key y) (key x) (omega arith), differ_test (key y) (key x) (λ e. absurd (omega arith)), with_row) refl
put_between key x (y ∷ ys) (suc i) l h g =
    rw (less_test (key y) (key x) (h 0 y refl (omega arith)), with_row) (ap (λ zs. y ∷ zs) (put_between key x ys i (omega arith) (λ j a e m. h (suc j) a e (omega arith)) (λ j a e m. g (suc j) a e (omega arith))))

-- ---- a table stays in order ----

above_weaker : {A : Type 0} (key : A → ℕ) (m k : ℕ) (xs : List A) → m < k → Above key k xs → Above key m xs
above_weaker key m k [] l h = tt
above_weaker key m k (x ∷ xs) l h = (let g : k < key x = h.0 in omega arith, above_weaker key m k xs l h.1)

above_same : {A : Type 0} (key : A → ℕ) (m k : ℕ) (xs : List A) → m ≡ k → Above key k xs → Above key m xs
above_same key m k xs e h = subst (λ y. Above key y xs) (sym e) h

above_put : {A : Type 0} (key : A → ℕ) (m : ℕ) (x : A) (xs : List A) → m < key x → Above key m xs → Above key m (with_row key x xs)
above_put key m x [] l h = (l, tt)
above_put key m x (y ∷ ys) l h = elim (nat_lt (key y) (key x)) as (λ b. Above key m (elim b [ true ↦ y ∷ with_row key x ys | false ↦ elim (nat_eq (key y) (key x)) [ true ↦ x ∷ ys | false ↦ x ∷ y ∷ ys ] ])) [
  | true ↦ (h.0, above_put key m x ys l h.1)
  | false ↦ elim (nat_eq (key y) (key x)) as (λ b. Above key m (elim b [ true ↦ x ∷ ys | false ↦ x ∷ y ∷ ys ])) [ true ↦ (l, h.1) | false ↦ (l, h) ]
]

pub put_rising : {A : Type 0} (key : A → ℕ) (x : A) (xs : List A) → Rising key xs → Rising key (with_row key x xs)
put_rising key x [] r = (tt, tt)
put_rising key x (y ∷ ys) r = elim (nat_lt (key y) (key x)) as (λ b. nat_lt (key y) (key x) ≡ b → Rising key (elim b [ true ↦ y ∷ with_row key x ys | false ↦ elim (nat_eq (key y) (key x)) [ true ↦ x ∷ ys | false ↦ x ∷ y ∷ ys ] ])) [
  | true ↦ λ t. (above_put key (key y) x ys (grind (arith, nat_tests)) r.0, put_rising key x ys r.1)
  | false ↦ λ t. elim (nat_eq (key y) (key x)) as (λ b. nat_eq (key y) (key x) ≡ b → Rising key (elim b [ true ↦ x ∷ ys | false ↦ x ∷ y ∷ ys ])) [
    | true ↦ λ f. (above_same key (key x) (key y) ys (grind (arith, nat_tests)) r.0, r.1)
    | false ↦ λ f. let less : key x < key y = (grind (arith, nat_tests)) in ((less, above_weaker key (key x) (key y) ys less r.0), r)
  ] refl
] refl

-- ---- the search, as the code says it: the middle row read with some default ----

pub get_some : {A : Type 0} (xs : List A) (i : ℕ) (d : A) → i < length xs → slice_get xs i ≡ Some (get_or xs i d)
get_some [] i d l = absurd (omega arith)
get_some (x ∷ xs) zero d l = refl
get_some (x ∷ xs) (suc i) d l = get_some xs i d (omega arith)

pub up : {A : Type 0} (key : A → ℕ) (k : ℕ) (xs : List A) (low high mid here : ℕ) (d : A) → Rising key xs → Within key k xs low high → mid < high → here ≡ key (get_or xs mid d) → here < k → Within key k xs (mid + 1) high
up key k xs low high mid here d r w l e less = let b : high ≤ length xs = w.bound in goes_up key k xs low high mid (get_or xs mid d) r w (get_some xs mid d (omega arith)) l (subst (λ y. y < k) e less)

pub down : {A : Type 0} (key : A → ℕ) (k : ℕ) (xs : List A) (low high mid here : ℕ) (d : A) → Rising key xs → Within key k xs low high → low ≤ mid → mid < high → here ≡ key (get_or xs mid d) → k < here → Within key k xs low mid
down key k xs low high mid here d r w m l e more = let b : high ≤ length xs = w.bound in goes_down key k xs low high mid (get_or xs mid d) r w (get_some xs mid d (omega arith)) m l (subst (λ y. k < y) e more)

pub found_row : {A : Type 0} (key : A → ℕ) (k : ℕ) (xs : List A) (low high mid here : ℕ) (d : A) → Rising key xs → Within key k xs low high → mid < high → here ≡ key (get_or xs mid d) → here ≡ k → (mid < length xs) × (row key k xs ≡ slice_get xs mid)
found_row key k xs low high mid here d r w l e same =
    let b : high ≤ length xs = w.bound in
    let in_it : mid < length xs = omega arith in
    let at : slice_get xs mid ≡ Some (get_or xs mid d) = get_some xs mid d in_it in
    (in_it, row_at key k xs mid (get_or xs mid d) r at (sym e ∙ same) ∙ sym at)

pub found_put : {A : Type 0} (key : A → ℕ) (k : ℕ) (xs : List A) (low high mid here : ℕ) (d x : A) → Rising key xs → Within key k xs low high → mid < high → here ≡ key (get_or xs mid d) → here ≡ k → key x ≡ k → with_row key x xs ≡ set xs mid x
found_put key k xs low high mid here d x r w l e same f =
    let b : high ≤ length xs = w.bound in
    put_over key x xs mid (get_or xs mid d) r (get_some xs mid d (omega arith)) (sym e ∙ (same ∙ sym f))

no_row_of : {A : Type 0} (key : A → ℕ) (k : ℕ) (xs : List A) (low high : ℕ) → Within key k xs low high → high ≤ low → (i : ℕ) (a : A) → slice_get xs i ≡ Some a → key a ≢ k
no_row_of key k xs low high w l i a e same = elim (nat_lt i low) as (λ b. nat_lt i low ≡ b → ⊥) [
  | true ↦ λ t. (let h : key a < k = w.before i a e (grind (arith, nat_tests)) in absurd (omega arith))
  | false ↦ λ t. (let h : k < key a = w.after i a e (grind (arith, nat_tests)) in absurd (omega arith))
] refl

pub gap_row : {A : Type 0} (key : A → ℕ) (k : ℕ) (xs : List A) (low high : ℕ) → Within key k xs low high → high ≤ low → (low ≤ length xs) × (row key k xs ≡ None)
gap_row {A = A} key k xs low high w l =
    let b : high ≤ length xs = w.bound in
    let o : low ≤ high = w.order in
    (omega arith, row_none key k xs (no_row_of key k xs low high w l))

pub gap_put : {A : Type 0} (key : A → ℕ) (k : ℕ) (xs : List A) (low high : ℕ) (x : A) → Within key k xs low high → high ≤ low → key x ≡ k → with_row key x xs ≡ insert xs low x
gap_put key k xs low high x w l f =
    let b : high ≤ length xs = w.bound in
    let o : low ≤ high = w.order in
    put_between key x xs low (omega arith) (λ j a e m. let h : key a < k = w.before j a e m in omega arith) (λ j a e m. let h : k < key a = w.after j a e (omega arith) in omega arith)

pub rising_along : {A : Type 0} (key : A → ℕ) (xs ys : List A) → xs ≡ ys → Rising key xs → Rising key ys
rising_along {A = A} key xs ys e r = subst (λ (zs : List A). Rising key zs) e r

-- ---- what is left without a row ----

pub without_at : {A : Type 0} (key : A → ℕ) (k : ℕ) (xs : List A) (i : ℕ) (a : A) → Rising key xs → slice_get xs i ≡ Some a → key a ≡ k → without_row key k xs ≡ remove xs i
without_at key k [] i a r e same = none_some a e
without_at key k (x ∷ xs) zero a r e same = rw (same_test (key x) k (ap key (some_same x a e) ∙ same), without_row) refl
without_at key k (x ∷ xs) (suc i) a r e same =
    let less : key x < key a = above_at key (key x) xs i a r.0 e in
    rw (differ_test (key x) k (λ f. absurd (omega arith)), without_row) (ap (λ zs. x ∷ zs) (without_at key k xs i a r.1 e same))

pub without_none : {A : Type 0} (key : A → ℕ) (k : ℕ) (xs : List A) → ((i : ℕ) (a : A) → slice_get xs i ≡ Some a → key a ≢ k) → without_row key k xs ≡ xs
without_none key k [] h = refl
without_none key k (x ∷ xs) h = rw (differ_test (key x) k (h 0 x refl), without_row) (ap (λ zs. x ∷ zs) (without_none key k xs (λ i a e. h (suc i) a e)))

above_without : {A : Type 0} (key : A → ℕ) (m k : ℕ) (xs : List A) → Above key m xs → Above key m (without_row key k xs)
above_without key m k [] h = tt
above_without key m k (x ∷ xs) h = elim (nat_eq (key x) k) as (λ b. Above key m (elim b [ true ↦ xs | false ↦ x ∷ without_row key k xs ])) [
  | true ↦ h.1
  | false ↦ (h.0, above_without key m k xs h.1)
]

pub without_rising : {A : Type 0} (key : A → ℕ) (k : ℕ) (xs : List A) → Rising key xs → Rising key (without_row key k xs)
without_rising key k [] r = tt
without_rising key k (x ∷ xs) r = elim (nat_eq (key x) k) as (λ b. Rising key (elim b [ true ↦ xs | false ↦ x ∷ without_row key k xs ])) [
  | true ↦ r.1
  | false ↦ (above_without key (key x) k xs r.0, without_rising key k xs r.1)
]

pub found_without : {A : Type 0} (key : A → ℕ) (k : ℕ) (xs : List A) (low high mid here : ℕ) (d : A) → Rising key xs → Within key k xs low high → mid < high → here ≡ key (get_or xs mid d) → here ≡ k → without_row key k xs ≡ remove xs mid
found_without key k xs low high mid here d r w l e same =
    let b : high ≤ length xs = w.bound in
    without_at key k xs mid (get_or xs mid d) r (get_some xs mid d (omega arith)) (sym e ∙ same)

pub gap_without : {A : Type 0} (key : A → ℕ) (k : ℕ) (xs : List A) (low high : ℕ) → Within key k xs low high → high ≤ low → without_row key k xs ≡ xs
gap_without {A = A} key k xs low high w l = without_none key k xs (no_row_of key k xs low high w l)

-- ---- a scan from the first row on ----

pub scan_row : {A : Type 0} (key : A → ℕ) (k : ℕ) (xs : List A) (i here : ℕ) (d : A) → BelowTo key k i xs → i < length xs → here ≡ key (get_or xs i d) → here < k → BelowTo key k (i + 1) xs
scan_row {A = A} key k xs i here d w l e less j a f g = elim (nat_lt j i) as (λ b. nat_lt j i ≡ b → key a < k) [
  | true ↦ λ t. w j a f (grind (arith, nat_tests))
  | false ↦ λ t. (let same : j ≡ i = (grind (arith, nat_tests)) in subst (λ y. key y < k) (some_same (get_or xs i d) a (sym (get_some xs i d l) ∙ (ap (slice_get xs) (sym same) ∙ f))) (subst (λ n. n < k) e less))
] refl

put_scanned : {A : Type 0} (key : A → ℕ) (x : A) (xs : List A) (i : ℕ) (a : A) → BelowTo key (key x) i xs → slice_get xs i ≡ Some a → key a ≡ key x → with_row key x xs ≡ set xs i x
put_scanned key x [] i a w e same = none_some a e
put_scanned key x (y ∷ ys) zero a w e same =
    let here : key y ≡ key x = ap key (some_same y a e) ∙ same in
    rw (not_less_test (key y) (key x) (omega arith), same_test (key y) (key x) here, with_row) refl
put_scanned key x (y ∷ ys) (suc i) a w e same =
    rw (less_test (key y) (key x) (w 0 y refl (omega arith)), with_row) (ap (λ zs. y ∷ zs) (put_scanned key x ys i a (λ j b f l. w (suc j) b f (omega arith)) e same))

pub scanned_put : {A : Type 0} (key : A → ℕ) (k : ℕ) (xs : List A) (i here : ℕ) (d x : A) → BelowTo key k i xs → i < length xs → here ≡ key (get_or xs i d) → here ≡ k → key x ≡ k → with_row key x xs ≡ set xs i x
scanned_put {A = A} key k xs i here d x w l e same f = put_scanned key x xs i (get_or xs i d) (subst (λ n. BelowTo key n i xs) (sym f) w) (get_some xs i d l) (sym e ∙ (same ∙ sym f))

put_before_next : {A : Type 0} (key : A → ℕ) (x : A) (xs : List A) (i : ℕ) → i ≤ length xs → BelowTo key (key x) i xs → ((a : A) → slice_get xs i ≡ Some a → key x < key a) → with_row key x xs ≡ insert xs i x
put_before_next key x [] zero l w g = refl
put_before_next key x [] (suc i) l w g = absurd (omega arith)
put_before_next key x (y ∷ ys) zero l w g =
    let less : key x < key y = g y refl in
    rw (not_less_test (key y) (key x) (omega arith), differ_test (key y) (key x) (λ e. absurd (omega arith)), with_row) refl
put_before_next key x (y ∷ ys) (suc i) l w g =
    rw (less_test (key y) (key x) (w 0 y refl (omega arith)), with_row) (ap (λ zs. y ∷ zs) (put_before_next key x ys i (omega arith) (λ j b f m. w (suc j) b f (omega arith)) g))

pub scanned_between : {A : Type 0} (key : A → ℕ) (k : ℕ) (xs : List A) (i here : ℕ) (d x : A) → BelowTo key k i xs → i < length xs → here ≡ key (get_or xs i d) → k < here → key x ≡ k → with_row key x xs ≡ insert xs i x
scanned_between {A = A} key k xs i here d x w l e less f = put_before_next key x xs i (omega arith) (subst (λ n. BelowTo key n i xs) (sym f) w) next where
  next : (a : A) → slice_get xs i ≡ Some a → key x < key a
  next a h = subst (λ y. key x < key y) (some_same (get_or xs i d) a (sym (get_some xs i d l) ∙ h)) (subst (λ n. n < key (get_or xs i d)) (sym f) (subst (λ n. k < n) e less))

pub scanned_all : {A : Type 0} (key : A → ℕ) (k : ℕ) (xs : List A) (i : ℕ) (x : A) → BelowTo key k i xs → i ≡ length xs → key x ≡ k → with_row key x xs ≡ insert xs (length xs) x
scanned_all {A = A} key k xs i x w all f = subst (λ n. with_row key x xs ≡ insert xs n x) all (put_before_next key x xs i (omega arith) (subst (λ n. BelowTo key n i xs) (sym f) w) (λ a e. past xs i a all e)) where
  past : (ys : List A) (j : ℕ) (a : A) → j ≡ length ys → slice_get ys j ≡ Some a → key x < key a
  past [] j a h e = none_some a e
  past (y ∷ ys) zero a h e = absurd (omega arith)
  past (y ∷ ys) (suc j) a h e = past ys j a (omega arith) e

pub row_removed : {A : Type 0} (key : A → ℕ) (k : ℕ) (seen xs : List A) (i : ℕ) (d : A) → seen ≡ xs → i < length seen → row key k seen ≡ slice_get seen i → d ≡ get_or xs i d → ◌≡◌ {A = Option A} (Some d) (row key k xs)
row_removed {A = A} key k seen xs i d same l e r =
    ap (λ (a : A). Some a) r ∙ sym (sym (ap (row key k) same) ∙ (e ∙ (get_some seen i d l ∙ ap (λ (ys : List A). Some (get_or ys i d)) same)))
