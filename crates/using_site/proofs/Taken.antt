-- A row of a table in order that is taken out, and put back or replaced.
use Rattle.std.proofs.Common.{◌≡◌, ◌≢◌, ℕ, ◌<◌, ◌≤◌, List, [], ◌∷◌, Option, Some, None, Bool, true, false, nat_eq, nat_lt, refl, sym, ap, ◌∙◌, subst, arith}
use Rattle.std.proofs.lemmas.Bool.Decides.{nat_tests}
use Rattle.role_steps.proofs.of_plain_facts.Numbers.{differ_test, less_test, not_less, not_less_test, same, same_test}
use Rattle.role_steps.proofs.of_plain_facts.Options.{some_same}
use Rattle.role_steps.specs.Tables.{row, with_row, without_row, first_that}
use Rattle.keyed_tables.specs.Rising.{Above, Rising}

by_test : {P : Type 0} (b : Bool) → (b ≡ true → P) → (b ≡ false → P) → P
by_test true f g = f refl
by_test false f g = g refl

none_some : {A : Type 0} {B : Type 0} (a : A) → ◌≡◌ {A = Option A} None (Some a) → B
none_some a e = absurd (cc)

same_false : (a b : ℕ) → nat_eq a b ≡ false → a ≢ b
same_false a b e = grind (arith, nat_tests)

-- ---- one step of each function ----

row_yes : {A : Type 0} (key : A → ℕ) (k : ℕ) (y : A) (ys : List A) → nat_eq (key y) k ≡ true → row key k (y ∷ ys) ≡ Some y
row_yes key k y ys e = rw (e, row) refl

row_no : {A : Type 0} (key : A → ℕ) (k : ℕ) (y : A) (ys : List A) → nat_eq (key y) k ≡ false → row key k (y ∷ ys) ≡ row key k ys
row_no key k y ys e = rw (e, row) refl

out_yes : {A : Type 0} (key : A → ℕ) (k : ℕ) (y : A) (ys : List A) → nat_eq (key y) k ≡ true → without_row key k (y ∷ ys) ≡ ys
out_yes key k y ys e = rw (e, without_row) refl

out_no : {A : Type 0} (key : A → ℕ) (k : ℕ) (y : A) (ys : List A) → nat_eq (key y) k ≡ false → without_row key k (y ∷ ys) ≡ y ∷ without_row key k ys
out_no key k y ys e = rw (e, without_row) refl

put_later : {A : Type 0} (key : A → ℕ) (x y : A) (ys : List A) → nat_lt (key y) (key x) ≡ true → with_row key x (y ∷ ys) ≡ y ∷ with_row key x ys
put_later key x y ys e = rw (e, with_row) refl

put_here : {A : Type 0} (key : A → ℕ) (x y : A) (ys : List A) → nat_lt (key y) (key x) ≡ false → nat_eq (key y) (key x) ≡ true → with_row key x (y ∷ ys) ≡ x ∷ ys
put_here key x y ys e f = rw (e, with_row) (rw f refl)

put_first : {A : Type 0} (key : A → ℕ) (x y : A) (ys : List A) → nat_lt (key y) (key x) ≡ false → nat_eq (key y) (key x) ≡ false → with_row key x (y ∷ ys) ≡ x ∷ y ∷ ys
put_first key x y ys e f = rw (e, with_row) (rw f refl)

first_yes : {A : Type 0} (test : A → Bool) (y : A) (ys : List A) → test y ≡ true → first_that test (y ∷ ys) ≡ Some y
first_yes test y ys e = rw (e, first_that) refl

first_no : {A : Type 0} (test : A → Bool) (y : A) (ys : List A) → test y ≡ false → first_that test (y ∷ ys) ≡ first_that test ys
first_no test y ys e = rw (e, first_that) refl

-- ---- rows above a key ----

put_low : {A : Type 0} (key : A → ℕ) (x : A) (ys : List A) → Above key (key x) ys → with_row key x ys ≡ x ∷ ys
put_low key x [] h = refl
put_low key x (z ∷ zs) h =
    let l : key x < key z = h.0 in
    put_first key x z zs (not_less_test (key z) (key x) (omega arith)) (differ_test (key z) (key x) (λ e. absurd (omega arith)))

out_low : {A : Type 0} (key : A → ℕ) (k : ℕ) (ys : List A) → Above key k ys → without_row key k ys ≡ ys
out_low key k [] h = refl
out_low key k (z ∷ zs) h =
    let l : k < key z = h.0 in
    out_no key k z zs (differ_test (key z) k (λ e. absurd (omega arith))) ∙ ap (λ xs. z ∷ xs) (out_low key k zs h.1)

above_weaker : {A : Type 0} (key : A → ℕ) (m k : ℕ) (xs : List A) → m ≤ k → Above key k xs → Above key m xs
above_weaker key m k [] l h = tt
above_weaker key m k (x ∷ xs) l h = (let g : k < key x = h.0 in omega arith, above_weaker key m k xs l h.1)

row_above : {A : Type 0} (key : A → ℕ) (m k : ℕ) (x : A) (ys : List A) → Above key m ys → row key k ys ≡ Some x → m < key x
row_above key m k x [] h e = none_some x e
row_above key m k x (y ∷ ys) h e = by_test (nat_eq (key y) k)
    (λ t. subst (λ z. m < key z) (some_same y x (sym (row_yes key k y ys t) ∙ e)) h.0)
    (λ t. row_above key m k x ys h.1 (sym (row_no key k y ys t) ∙ e))

first_above : {A : Type 0} (key : A → ℕ) (m : ℕ) (test : A → Bool) (x : A) (ys : List A) → Above key m ys → first_that test ys ≡ Some x → m < key x
first_above key m test x [] h e = none_some x e
first_above key m test x (y ∷ ys) h e = by_test (test y)
    (λ t. subst (λ z. m < key z) (some_same y x (sym (first_yes test y ys t) ∙ e)) h.0)
    (λ t. first_above key m test x ys h.1 (sym (first_no test y ys t) ∙ e))

-- ---- what is found ----

-- a row is found by its key
pub row_key : {A : Type 0} (key : A → ℕ) (k : ℕ) (x : A) (ys : List A) → row key k ys ≡ Some x → key x ≡ k
row_key key k x [] e = none_some x e
row_key key k x (y ∷ ys) e = by_test (nat_eq (key y) k)
    (λ t. ap key (sym (some_same y x (sym (row_yes key k y ys t) ∙ e))) ∙ same (key y) k t)
    (λ t. row_key key k x ys (sym (row_no key k y ys t) ∙ e))

-- the first row that passes is the row of its key
pub row_of_first : {A : Type 0} (key : A → ℕ) (test : A → Bool) (x : A) (ys : List A) → Rising key ys → first_that test ys ≡ Some x → row key (key x) ys ≡ Some x
row_of_first key test x [] r e = none_some x e
row_of_first key test x (y ∷ ys) r e = by_test (test y)
    (λ t. let s : y ≡ x = some_same y x (sym (first_yes test y ys t) ∙ e) in
    row_yes key (key x) y ys (same_test (key y) (key x) (ap key s)) ∙ ap Some s)
    (λ t. let f : first_that test ys ≡ Some x = sym (first_no test y ys t) ∙ e in
    let l : key y < key x = first_above key (key y) test x ys r.0 f in
    row_no key (key x) y ys (differ_test (key y) (key x) (λ s. absurd (omega arith))) ∙ row_of_first key test x ys r.1 f)

-- ---- what is taken out ----

-- a row that is taken out and put back is where it was
pub put_back : {A : Type 0} (key : A → ℕ) (k : ℕ) (x : A) (ys : List A) → Rising key ys → row key k ys ≡ Some x → with_row key x (without_row key k ys) ≡ ys
put_back key k x [] r e = none_some x e
put_back key k x (y ∷ ys) r e = by_test (nat_eq (key y) k)
    (λ t. let s : y ≡ x = some_same y x (sym (row_yes key k y ys t) ∙ e) in
    ap (with_row key x) (out_yes key k y ys t) ∙ (put_low key x ys (subst (λ z. Above key (key z) ys) s r.0) ∙ ap (λ z. z ∷ ys) (sym s)))
    (λ t. let f : row key k ys ≡ Some x = sym (row_no key k y ys t) ∙ e in
    let l : key y < key x = row_above key (key y) k x ys r.0 f in
    ap (with_row key x) (out_no key k y ys t) ∙ (put_later key x y (without_row key k ys) (less_test (key y) (key x) l) ∙ ap (λ zs. y ∷ zs) (put_back key k x ys r.1 f)))

-- a row that is taken out and replaced stands where it stood
pub put_over : {A : Type 0} (key : A → ℕ) (k : ℕ) (x : A) (ys : List A) → Rising key ys → key x ≡ k → with_row key x (without_row key k ys) ≡ with_row key x ys
put_over key k x [] r e = refl
put_over key k x (y ∷ ys) r e = by_test (nat_eq (key y) k)
    (λ t. let s : key y ≡ k = same (key y) k t in
    ap (with_row key x) (out_yes key k y ys t)
    ∙ (put_low key x ys (above_weaker key (key x) (key y) ys (omega arith) r.0)
    ∙ sym (put_here key x y ys (not_less_test (key y) (key x) (omega arith)) (same_test (key y) (key x) (s ∙ sym e)))))
    (λ t. let n : key y ≢ k = same_false (key y) k t in
    ap (with_row key x) (out_no key k y ys t) ∙ by_test (nat_lt (key y) (key x))
    (λ l. put_later key x y (without_row key k ys) l ∙ (ap (λ zs. y ∷ zs) (put_over key k x ys r.1 e) ∙ sym (put_later key x y ys l)))
    (λ l. let g : key x ≤ key y = not_less (key y) (key x) l in
    let m : nat_eq (key y) (key x) ≡ false = differ_test (key y) (key x) (λ s. n (s ∙ e)) in
    put_first key x y (without_row key k ys) l m
    ∙ (ap (λ zs. x ∷ y ∷ zs) (out_low key k ys (above_weaker key k (key y) ys (omega arith) r.0))
    ∙ sym (put_first key x y ys l m))))
