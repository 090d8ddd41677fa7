-- The elements of a list that are below no other: where one more is put in its place, those that it is above go.
use Rattle.std.proofs.Common.{◌≡◌, ℕ, ◌==◌, ◌<◌, nat_lt, Bool, true, false, not, ◌&&◌, ◌||◌, cond, List, [], ◌∷◌, filter, refl, sym, ◌∙◌, ap, subst, arith, ◌⊎◌, inl, inr}
use Rattle.std.specs.List.{list_any}
use Rattle.std.proofs.lemmas.Bool.Decides.{nat_tests}
use Rattle.role_steps.proofs.of_plain_facts.Numbers.{equal}
use Rattle.role_steps.proofs.of_plain_facts.Tests.{true_false}
use Rattle.role_steps.specs.Own.{Every}
use Rattle.role_steps.specs.Tables.{with_row}
use Rattle.tree_laws.specs.Stores.{Ascends}

-- ---- tests of lists ----

filter_ext : {A : Type 0} (p q : A → Bool) (xs : List A) → ((x : A) → p x ≡ q x) → filter p xs ≡ filter q xs
filter_ext p q [] same = refl
filter_ext {A} p q (x ∷ xs) same = ap (λ (b : Bool). cond b (x ∷ filter p xs) (filter p xs)) (same x) ∙ ap (λ (ys : List A). cond (q x) (x ∷ ys) ys) (filter_ext p q xs same)

filter_both : {A : Type 0} (p q : A → Bool) (xs : List A) → filter p (filter q xs) ≡ filter (λ (x : A). q x && p x) xs
filter_both p q [] = refl
filter_both {A} p q (x ∷ xs) = over (q x) (filter_both p q xs)
  where
    over : (b : Bool) → filter p (filter q xs) ≡ filter (λ (y : A). q y && p y) xs → filter p (cond b (x ∷ filter q xs) (filter q xs)) ≡ cond (b && p x) (x ∷ filter (λ (y : A). q y && p y) xs) (filter (λ (y : A). q y && p y) xs)
    over true later = ap (λ (ys : List A). cond (p x) (x ∷ ys) ys) later
    over false later = later

any_more : {A : Type 0} (f g : A → Bool) (xs : List A) → ((x : A) → f x ≡ true → g x ≡ true) → list_any f xs ≡ true → list_any g xs ≡ true
any_more f g [] h e = e
any_more f g (x ∷ xs) h e = over (f x) refl (g x) refl e (any_more f g xs h)
  where
    over : (a : Bool) → f x ≡ a → (b : Bool) → g x ≡ b → a || list_any f xs ≡ true → (list_any f xs ≡ true → list_any g xs ≡ true) → b || list_any g xs ≡ true
    over a p true q e later = refl
    over true p false q e later = absurd (true_false (sym (h x p) ∙ q))
    over false p false q e later = later e

-- one that passes is left by a filter, or the filter stops one that passes
any_left : {A : Type 0} (f p : A → Bool) (xs : List A) → list_any f xs ≡ true → (list_any f (filter p xs) ≡ true) ⊎ ((x : A) × (f x ≡ true) × (p x ≡ false))
any_left f p [] e = inl e
any_left {A} f p (x ∷ xs) e = over (f x) refl (p x) refl e (any_left f p xs)
  where
    over : (a : Bool) → f x ≡ a → (b : Bool) → p x ≡ b → a || list_any f xs ≡ true → (list_any f xs ≡ true → (list_any f (filter p xs) ≡ true) ⊎ ((y : A) × (f y ≡ true) × (p y ≡ false))) → (list_any f (cond b (x ∷ filter p xs) (filter p xs)) ≡ true) ⊎ ((y : A) × (f y ≡ true) × (p y ≡ false))
    over true q true r e later = inl (ap (λ (t : Bool). t || list_any f (filter p xs)) q)
    over true q false r e later = inr (x, q, r)
    over false q true r e later = again (later e)
      where
        again : (list_any f (filter p xs) ≡ true) ⊎ ((y : A) × (f y ≡ true) × (p y ≡ false)) → (f x || list_any f (filter p xs) ≡ true) ⊎ ((y : A) × (f y ≡ true) × (p y ≡ false))
        again (inl k) = inl (ap (λ (t : Bool). t || list_any f (filter p xs)) q ∙ k)
        again (inr k) = inr k
    over false q false r e later = later e

-- an element of the key is this one
abbrev pub IsOnly : {A : Type 0} → (A → ℕ) → A → A → Type 0
IsOnly key v w = key w ≡ key v → w ≡ v

-- ---- an order ----

module _ {A : Type 0} (below : A → A → Bool) (never : (a : A) → below a a ≡ false) (through : (a b c : A) → below a b ≡ true → below b c ≡ true → below a c ≡ true) where
  abbrev under : A → List A → Bool
  under a bs = list_any (below a) bs

  abbrev tops : List A → List A
  tops bs = filter (λ (a : A). not (under a bs)) bs

  under_through : (a x : A) (bs : List A) → below a x ≡ true → under x bs ≡ true → under a bs ≡ true
  under_through a x bs e k = any_more (below x) (below a) bs (λ b h. through a x b e h) k

  -- who is under one of the others adds nothing to what is above
  adds_nothing : (x : A) (bs : List A) → under x bs ≡ true → (a : A) → below a x || under a bs ≡ under a bs
  adds_nothing x bs k a = over (below a x) refl
    where
      over : (b : Bool) → below a x ≡ b → b || under a bs ≡ under a bs
      over true e = sym (under_through a x bs e k)
      over false e = refl

  -- what is under one of a list is under one that is below no other
  pub under_tops : (bs : List A) (a : A) → under a bs ≡ true → under a (tops bs) ≡ true
  under_tops [] a e = e
  under_tops (x ∷ xs) a e = over (under_tops xs a) (under x xs) refl
    where
      test : A → Bool
      test w = not (below w x || under w xs)

      narrower : under x xs ≡ true → tops (x ∷ xs) ≡ tops xs
      narrower k =
          ap (λ (b : Bool). cond (not b) (x ∷ filter test xs) (filter test xs)) (adds_nothing x xs k x ∙ k)
          ∙ filter_ext test (λ (w : A). not (under w xs)) xs (λ w. ap not (adds_nothing x xs k w))

      wider : under x xs ≡ false → tops (x ∷ xs) ≡ x ∷ filter (λ (w : A). not (below w x)) (tops xs)
      wider k =
          ap (λ (b : Bool). cond (not (b || under x xs)) (x ∷ filter test xs) (filter test xs)) (never x)
          ∙ (ap (λ (b : Bool). cond (not b) (x ∷ filter test xs) (filter test xs)) k
          ∙ ap (λ (ys : List A). x ∷ ys) (filter_ext test (λ (w : A). not (under w xs) && not (below w x)) xs (λ w. apart (below w x) (under w xs)) ∙ sym (filter_both (λ (w : A). not (below w x)) (λ (w : A). not (under w xs)) xs)))
        where
          apart : (p q : Bool) → not (p || q) ≡ not q && not p
          apart true true = refl
          apart true false = refl
          apart false true = refl
          apart false false = refl

      some : (b : Bool) → below a x ≡ b → b || under a xs ≡ true → under x xs ≡ true → under a xs ≡ true
      some true p e k = under_through a x xs p k
      some false p e k = e

      -- the first is above it, or one of the others that the first isn't above
      first_or : (under a xs ≡ true → under a (tops xs) ≡ true) → (b : Bool) → below a x ≡ b → b || under a xs ≡ true → b || under a (filter (λ (w : A). not (below w x)) (tops xs)) ≡ true
      first_or later true p e = refl
      first_or later false p e = by (any_left (below a) (λ (w : A). not (below w x)) (tops xs) (later e))
        where
          stopped : (w : A) → below a w ≡ true → (c : Bool) → below w x ≡ c → not c ≡ false → ⊥
          stopped w h true q n = true_false (sym (through a w x h q) ∙ p)
          stopped w h false q n = true_false n

          by : (under a (filter (λ (w : A). not (below w x)) (tops xs)) ≡ true) ⊎ ((w : A) × (below a w ≡ true) × (not (below w x) ≡ false)) → under a (filter (λ (w : A). not (below w x)) (tops xs)) ≡ true
          by (inl k) = k
          by (inr k) = absurd (stopped k.0 k.1 (below k.0 x) refl k.2)

      over : (under a xs ≡ true → under a (tops xs) ≡ true) → (b : Bool) → under x xs ≡ b → under a (tops (x ∷ xs)) ≡ true
      over later true k = ap (under a) (narrower k) ∙ later (some (below a x) refl e k)
      over later false k = ap (under a) (wider k) ∙ first_or later (below a x) refl e

  -- ---- with one more in its place ----

  module _ (key : A → ℕ) (v : A) where
    any_row : (f : A → Bool) (vs : List A) → Every (IsOnly key v) vs → list_any f (with_row key v vs) ≡ f v || list_any f vs
    any_row f [] h = refl
    any_row f (y ∷ ys) h = over (nat_lt (key y) (key v)) (key y == key v) refl (any_row f ys h.1)
      where
        swap : (p q r : Bool) → p || (q || r) ≡ q || (p || r)
        swap true true r = refl
        swap true false r = refl
        swap false true r = refl
        swap false false r = refl

        twice : (p q r : Bool) → p ≡ q → p || r ≡ p || (q || r)
        twice true q r e = refl
        twice false true r e = absurd (true_false (sym e))
        twice false false r e = refl

        over : (a b : Bool) → (key y == key v) ≡ b → list_any f (with_row key v ys) ≡ f v || list_any f ys → list_any f (elim a [ true ↦ y ∷ with_row key v ys | false ↦ elim b [ true ↦ v ∷ ys | false ↦ v ∷ y ∷ ys ] ]) ≡ f v || (f y || list_any f ys)
        over true b e later = ap (λ (t : Bool). f y || t) later ∙ swap (f y) (f v) (list_any f ys)
        over false true e later = twice (f v) (f y) (list_any f ys) (ap f (sym (h.0 (equal (key y) (key v) e))))
        over false false e later = refl

    less_test : (a b : ℕ) → nat_lt a b ≡ true → (b == a) ≡ false
    less_test a b e = grind (arith, nat_tests)

    lower : (a b : ℕ) → a < b → nat_lt b a ≡ false
    lower a b e = grind (arith, nat_tests)

    other : (a b : ℕ) → a < b → (b == a) ≡ false
    other a b e = grind (arith, nat_tests)

    above : (a b : ℕ) → nat_lt a b ≡ false → (a == b) ≡ false → b < a
    above a b e f = grind (arith, nat_tests)

    comes_first : (ys : List A) → Every (λ (y : A). key v < key y) ys → with_row key v ys ≡ v ∷ ys
    comes_first [] h = refl
    comes_first (y ∷ ys) h = at (nat_lt (key y) (key v)) (lower (key v) (key y) h.0) (key y == key v) (other (key v) (key y) h.0)
      where
        at : (a : Bool) → a ≡ false → (b : Bool) → b ≡ false → (elim a as (λ (z : Bool). List A) [ true ↦ y ∷ with_row key v ys | false ↦ elim b as (λ (z : Bool). List A) [ true ↦ v ∷ ys | false ↦ v ∷ y ∷ ys ] ]) ≡ v ∷ y ∷ ys
        at true e b k = absurd (true_false e)
        at false e true k = absurd (true_false k)
        at false e false k = refl

    left_above : (p : A → Bool) (ys : List A) → Every (λ (y : A). key v < key y) ys → Every (λ (y : A). key v < key y) (filter p ys)
    left_above p [] h = tt
    left_above p (y ∷ ys) h = over (p y) (left_above p ys h.1)
      where
        over : (b : Bool) → Every (λ (z : A). key v < key z) (filter p ys) → Every (λ (z : A). key v < key z) (cond b (y ∷ filter p ys) (filter p ys))
        over true later = (h.0, later)
        over false later = later

    above_all : (j : ℕ) (ys : List A) → key v < j → Every (λ (y : A). j < key y) ys → Every (λ (y : A). key v < key y) ys
    above_all j [] e h = tt
    above_all j (y ∷ ys) e h = (trans (key v) j (key y) e h.0, above_all j ys e h.1)
      where
        trans : (a b d : ℕ) → a < b → b < d → a < d
        trans a b d p q = omega (arith, p, q)

    -- the new one passes
    filter_in : (p : A → Bool) → p v ≡ true → (vs : List A) → Ascends key vs → Every (IsOnly key v) vs → filter p (with_row key v vs) ≡ with_row key v (filter p vs)
    filter_in p passes [] up h = ap (λ (b : Bool). cond b (v ∷ []) []) passes
    filter_in p passes (y ∷ ys) up h = over (nat_lt (key y) (key v)) refl (key y == key v) refl (filter_in p passes ys up.1 h.1)
      where
        back : (b : Bool) → nat_lt (key y) (key v) ≡ true → filter p (with_row key v ys) ≡ with_row key v (filter p ys) → cond b (y ∷ filter p (with_row key v ys)) (filter p (with_row key v ys)) ≡ with_row key v (cond b (y ∷ filter p ys) (filter p ys))
        back true low later = ap (λ (zs : List A). y ∷ zs) later ∙ sym (ap (λ (a : Bool). elim a as (λ (z : Bool). List A) [ true ↦ y ∷ with_row key v (filter p ys) | false ↦ elim (key y == key v) as (λ (z : Bool). List A) [ true ↦ v ∷ filter p ys | false ↦ v ∷ y ∷ filter p ys ] ]) low)
        back false low later = later

        over_low : (a : Bool) → nat_lt (key y) (key v) ≡ a → (b : Bool) → (key y == key v) ≡ b → a ≡ false → filter p (elim b as (λ (z : Bool). List A) [ true ↦ v ∷ ys | false ↦ v ∷ y ∷ ys ]) ≡ with_row key v (filter p (y ∷ ys))
        over_low a low true e is =
            ap (λ (t : Bool). cond t (v ∷ filter p ys) (filter p ys)) passes
            ∙ sym (ap (λ (t : Bool). with_row key v (cond t (y ∷ filter p ys) (filter p ys))) (ap p (h.0 (equal (key y) (key v) e)) ∙ passes)
            ∙ (ap (λ (t : Bool). elim t as (λ (z : Bool). List A) [ true ↦ y ∷ with_row key v (filter p ys) | false ↦ elim (key y == key v) as (λ (z : Bool). List A) [ true ↦ v ∷ filter p ys | false ↦ v ∷ y ∷ filter p ys ] ]) (low ∙ is)
            ∙ ap (λ (t : Bool). elim t as (λ (z : Bool). List A) [ true ↦ v ∷ filter p ys | false ↦ v ∷ y ∷ filter p ys ]) e))
        over_low a low false e is =
            ap (λ (t : Bool). cond t (v ∷ filter p (y ∷ ys)) (filter p (y ∷ ys))) passes
            ∙ sym (comes_first (filter p (y ∷ ys)) (left_above p (y ∷ ys) (above (key y) (key v) (low ∙ is) e, above_all (key y) ys (above (key y) (key v) (low ∙ is) e) up.0)))

        over : (a : Bool) → nat_lt (key y) (key v) ≡ a → (b : Bool) → (key y == key v) ≡ b → filter p (with_row key v ys) ≡ with_row key v (filter p ys) →
            filter p (elim a as (λ (z : Bool). List A) [ true ↦ y ∷ with_row key v ys | false ↦ elim b as (λ (z : Bool). List A) [ true ↦ v ∷ ys | false ↦ v ∷ y ∷ ys ] ]) ≡ with_row key v (filter p (y ∷ ys))
        over true low b e later = back (p y) low later
        over false low b e later = over_low false low b e refl

    -- it doesn't
    filter_out : (p : A → Bool) → p v ≡ false → (vs : List A) → Every (IsOnly key v) vs → filter p (with_row key v vs) ≡ filter p vs
    filter_out p stops [] h = ap (λ (b : Bool). cond b (v ∷ []) []) stops
    filter_out p stops (y ∷ ys) h = over (nat_lt (key y) (key v)) (key y == key v) refl (filter_out p stops ys h.1)
      where
        over : (a b : Bool) → (key y == key v) ≡ b → filter p (with_row key v ys) ≡ filter p ys → filter p (elim a as (λ (z : Bool). List A) [ true ↦ y ∷ with_row key v ys | false ↦ elim b as (λ (z : Bool). List A) [ true ↦ v ∷ ys | false ↦ v ∷ y ∷ ys ] ]) ≡ filter p (y ∷ ys)
        over true b e later = ap (λ (zs : List A). cond (p y) (y ∷ zs) zs) later
        over false true e later =
            ap (λ (t : Bool). cond t (v ∷ filter p ys) (filter p ys)) stops
            ∙ sym (ap (λ (t : Bool). cond t (y ∷ filter p ys) (filter p ys)) (ap p (h.0 (equal (key y) (key v) e)) ∙ stops))
        over false false e later = ap (λ (t : Bool). cond t (v ∷ filter p (y ∷ ys)) (filter p (y ∷ ys))) stops

    -- those that are below no other, where it is put in its place
    pub tops_row : (vs : List A) → Ascends key vs → Every (IsOnly key v) vs → (elim (under v (tops vs)) as (λ (z : Bool). List A) [ true ↦ tops vs | false ↦ with_row key v (filter (λ (w : A). not (below w v)) (tops vs)) ]) ≡ tops (with_row key v vs)
    tops_row vs up h = over (under v (tops vs)) refl
      where
        test : A → Bool
        test w = not (under w (with_row key v vs))

        test_is : (w : A) → test w ≡ not (below w v || under w vs)
        test_is w = ap not (any_row (below w) vs h)

        apart : (p q : Bool) → not (p || q) ≡ not q && not p
        apart true true = refl
        apart true false = refl
        apart false true = refl
        apart false false = refl

        covered : under v vs ≡ true → tops vs ≡ tops (with_row key v vs)
        covered k = sym (filter_out test (test_is v ∙ ap not (adds_nothing v vs k v ∙ k)) vs h ∙ filter_ext test (λ (w : A). not (under w vs)) vs (λ w. test_is w ∙ ap not (adds_nothing v vs k w)))

        free : under v vs ≡ false → with_row key v (filter (λ (w : A). not (below w v)) (tops vs)) ≡ tops (with_row key v vs)
        free k = sym (filter_in test (test_is v ∙ (ap (λ (b : Bool). not (b || under v vs)) (never v) ∙ ap not k)) vs up h
            ∙ ap (with_row key v) (filter_ext test (λ (w : A). not (under w vs) && not (below w v)) vs (λ w. test_is w ∙ apart (below w v) (under w vs)) ∙ sym (filter_both (λ (w : A). not (below w v)) (λ (w : A). not (under w vs)) vs)))

        of_tops : (f p : A → Bool) (xs : List A) → list_any f (filter p xs) ≡ true → list_any f xs ≡ true
        of_tops f p [] e = e
        of_tops f p (x ∷ xs) e = at (p x) (f x) refl e (of_tops f p xs)
          where
            at : (b c : Bool) → f x ≡ c → list_any f (cond b (x ∷ filter p xs) (filter p xs)) ≡ true → (list_any f (filter p xs) ≡ true → list_any f xs ≡ true) → c || list_any f xs ≡ true
            at b true q e later = refl
            at true false q e later = later (sym (ap (λ (t : Bool). t || list_any f (filter p xs)) q) ∙ e)
            at false false q e later = later e

        not_under : (b : Bool) → under v vs ≡ b → under v (tops vs) ≡ false → under v vs ≡ false
        not_under true k e = absurd (true_false (sym (under_tops vs v k) ∙ e))
        not_under false k e = k

        over : (b : Bool) → under v (tops vs) ≡ b → (elim b as (λ (z : Bool). List A) [ true ↦ tops vs | false ↦ with_row key v (filter (λ (w : A). not (below w v)) (tops vs)) ]) ≡ tops (with_row key v vs)
        over true e = covered (of_tops (below v) (λ (a : A). not (under a vs)) vs e)
        over false e = free (not_under (under v vs) refl e)

-- ---- rows in ascending order ----

below_rest : {A : Type 0} (key : A → ℕ) (k : ℕ) (x : A) (xs : List A) → k < key x → Every (λ (y : A). k < key y) xs → Every (λ (y : A). k < key y) (with_row key x xs)
below_rest key k x [] lt h = (lt, tt)
below_rest {A} key k x (y ∷ ys) lt h = at (below_rest key k x ys lt h.1) (nat_lt (key y) (key x)) (key y == key x)
  where
    at : Every (λ (z : A). k < key z) (with_row key x ys) → (a b : Bool) → Every (λ (z : A). k < key z) (elim a [ true ↦ y ∷ with_row key x ys | false ↦ elim b [ true ↦ x ∷ ys | false ↦ x ∷ y ∷ ys ] ])
    at later true b = (h.0, later)
    at later false true = (lt, h.1)
    at later false false = (lt, h)

pub ascends_row : {A : Type 0} (key : A → ℕ) (x : A) (xs : List A) → Ascends key xs → Ascends key (with_row key x xs)
ascends_row key x [] h = (tt, tt)
ascends_row {A} key x (y ∷ ys) h = at (ascends_row key x ys h.1) (nat_lt (key y) (key x)) (key y == key x) refl refl
  where
    less_test : (a b : ℕ) → nat_lt a b ≡ true → a < b
    less_test a b e = grind (arith, nat_tests)

    not_less : (a b : ℕ) → nat_lt a b ≡ false → (a == b) ≡ false → b < a
    not_less a b e f = grind (arith, nat_tests)

    through : (a b d : ℕ) → a < b → b < d → a < d
    through a b d e f = omega (arith, e, f)

    below_all : (j k : ℕ) (zs : List A) → j < k → Every (λ (z : A). k < key z) zs → Every (λ (z : A). j < key z) zs
    below_all j k [] lt h = tt
    below_all j k (z ∷ zs) lt h = (through j k (key z) lt h.0, below_all j k zs lt h.1)

    at : Ascends key (with_row key x ys) → (a b : Bool) → nat_lt (key y) (key x) ≡ a → (key y == key x) ≡ b → Ascends key (elim a [ true ↦ y ∷ with_row key x ys | false ↦ elim b [ true ↦ x ∷ ys | false ↦ x ∷ y ∷ ys ] ])
    at later true b t u = (below_rest key (key y) x ys (less_test (key y) (key x) t) h.0, later)
    at later false true t u = (subst (λ (k : ℕ). Every (λ (z : A). k < key z) ys) (equal (key y) (key x) u) h.0, h.1)
    at later false false t u = ((not_less (key y) (key x) t u, below_all (key x) (key y) ys (not_less (key y) (key x) t u) h.0), h)
