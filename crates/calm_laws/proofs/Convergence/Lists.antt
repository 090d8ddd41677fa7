-- Elements of lists and of tables: one that is taken out, one that is put in, and the rest.
use Rattle.std.proofs.Common.{◌≡◌, ℕ, suc, ◌==◌, nat_lt, ◌⊎◌, Bool, true, false, List, [], ◌∷◌, ◌++◌, length, Option, Some, refl, sym, ◌∙◌, ap, inl, inr, arith}
use Rattle.std.proofs.lemmas.Bool.Decides.{nat_tests}
use Rattle.role_steps.proofs.of_plain_facts.Tests.{true_false}
use Rattle.role_steps.specs.Tables.{row, with_row, without_row}
use Rattle.the_run.specs.Kept.{Among}

-- ---- lists ----

-- a list without one place at which an element stands
pub record Without {A : Type 0} (d : A) (xs : List A) : Type 0 where
  pub rest : List A
  pub one_less : length xs ≡ suc (length rest)
  pub others : (y : A) → Among y xs → (y ≡ d) ⊎ Among y rest

pub taken_out : {A : Type 0} (d : A) (xs : List A) → Among d xs → Without d xs
taken_out d [] a = absurd a
taken_out {A = A} d (x ∷ xs) (inl e) = record { rest = xs; one_less = refl; others = λ y a. over y a }
  where
    over : (y : A) → Among y (x ∷ xs) → (y ≡ d) ⊎ Among y xs
    over y (inl k) = inl (k ∙ sym e)
    over y (inr k) = inr k
taken_out {A = A} d (x ∷ xs) (inr a) = (let k : Without d xs = taken_out d xs a in record { rest = x ∷ k.rest; one_less = ap suc k.one_less; others = λ y b. over k y b })
  where
    over : (k : Without d xs) (y : A) → Among y (x ∷ xs) → (y ≡ d) ⊎ Among y (x ∷ k.rest)
    over k y (inl b) = inr (inl b)
    over k y (inr b) = next (k.others y b)
      where
        next : (y ≡ d) ⊎ Among y k.rest → (y ≡ d) ⊎ Among y (x ∷ k.rest)
        next (inl z) = inl z
        next (inr z) = inr (inr z)

pub among_either : {A : Type 0} (y : A) (xs ys : List A) → Among y (xs ++ ys) → Among y xs ⊎ Among y ys
among_either y [] ys a = inr a
among_either y (x ∷ xs) ys (inl e) = inl (inl e)
among_either y (x ∷ xs) ys (inr a) = over (among_either y xs ys a)
  where
    over : Among y xs ⊎ Among y ys → Among y (x ∷ xs) ⊎ Among y ys
    over (inl k) = inl (inr k)
    over (inr k) = inr k

-- ---- tables ----

-- what stands in a table after a row was put in place is that row, or stood there before
pub among_row : {A : Type 0} (key : A → ℕ) (x y : A) (xs : List A) → Among y (with_row key x xs) → (y ≡ x) ⊎ Among y xs
among_row key x y [] (inl e) = inl e
among_row key x y [] (inr h) = absurd h
among_row {A = A} key x y (z ∷ zs) h = by_order (nat_lt (key z) (key x)) (key z == key x) (λ k. among_row key x y zs k) h
  where
    over : (y ≡ x) ⊎ Among y zs → (y ≡ x) ⊎ Among y (z ∷ zs)
    over (inl e) = inl e
    over (inr m) = inr (inr m)

    by_order : (a b : Bool) → (Among y (with_row key x zs) → (y ≡ x) ⊎ Among y zs) → Among {A = A} y (elim a [ true ↦ z ∷ with_row key x zs | false ↦ elim b [ true ↦ x ∷ zs | false ↦ x ∷ z ∷ zs ] ]) → (y ≡ x) ⊎ Among y (z ∷ zs)
    by_order true b f (inl e) = inr (inl e)
    by_order true b f (inr k) = over (f k)
    by_order false true f (inl e) = inl e
    by_order false true f (inr k) = inr (inr k)
    by_order false false f (inl e) = inl e
    by_order false false f (inr k) = inr k

-- without the row of a key, each other key finds what it found
pub row_without : {A : Type 0} (key : A → ℕ) (k t : ℕ) (xs : List A) → (k == t) ≡ false → row key t (without_row key k xs) ≡ row key t xs
row_without key k t [] ne = refl
row_without {A = A} key k t (x ∷ xs) ne = by_key (key x == k) (key x == t) refl refl (row_without key k t xs ne)
  where
    same_other : (a : ℕ) → (a == k) ≡ true → (a == t) ≡ true → (k == t) ≡ true
    same_other a p q = grind (arith, nat_tests)

    by_key : (a b : Bool) → (key x == k) ≡ a → (key x == t) ≡ b → row key t (without_row key k xs) ≡ row key t xs → row key t (elim a [ true ↦ xs | false ↦ x ∷ without_row key k xs ]) ≡ elim b [ true ↦ Some x | false ↦ row key t xs ]
    by_key true true p q h = absurd (true_false (sym (same_other (key x) p q) ∙ ne))
    by_key true false p q h = refl
    by_key false true p q h = found (key x == t) q
      where
        found : (b : Bool) → b ≡ true → ◌≡◌ {A = Option A} (elim b [ true ↦ Some x | false ↦ row key t (without_row key k xs) ]) (Some x)
        found true d = refl
        found false d = absurd (true_false (sym d))
    by_key false false p q h = passed (key x == t) q
      where
        passed : (b : Bool) → b ≡ false → ◌≡◌ {A = Option A} (elim b [ true ↦ Some x | false ↦ row key t (without_row key k xs) ]) (row key t xs)
        passed true d = absurd (true_false d)
        passed false d = h
