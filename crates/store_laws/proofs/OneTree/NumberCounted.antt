-- A range of numbers of which each passes a test, or has one of a list that no other number has, is as long as those that pass and the
-- list are together.
use Rattle.std.proofs.Common.{◌≡◌, ℕ, zero, suc, ◌+◌, ◌<◌, ◌≤◌, Bool, true, false, cond, List, [], ◌∷◌, length, filter, refl, sym, ◌∙◌, ap, subst, arith, ◌⊎◌, inl, inr}
use Rattle.role_steps.proofs.of_plain_facts.Tests.{true_false}
use Rattle.commit_graph.specs.Vectors.{numbers_from}
use Rattle.the_run.specs.Kept.{Among}

-- ---- one less ----

-- a list without the one at this place
abbrev without : {X : Type 0} (x : X) (ys : List X) → Among x ys → List X
without x [] p = []
without x (y ∷ ys) (inl e) = ys
without x (y ∷ ys) (inr p) = y ∷ without x ys p

one_less : {X : Type 0} (x : X) (ys : List X) (p : Among x ys) → length ys ≡ suc (length (without x ys p))
one_less x [] p = absurd p
one_less x (y ∷ ys) (inl e) = refl
one_less x (y ∷ ys) (inr p) = ap suc (one_less x ys p)

others_stay : {X : Type 0} (x z : X) (ys : List X) (p : Among x ys) → Among z ys → (z ≡ x → ⊥) → Among z (without x ys p)
others_stay x z [] p q ne = absurd p
others_stay x z (y ∷ ys) (inl e) (inl t) ne = absurd (ne (t ∙ sym e))
others_stay x z (y ∷ ys) (inl e) (inr q) ne = q
others_stay x z (y ∷ ys) (inr p) (inl t) ne = inl t
others_stay x z (y ∷ ys) (inr p) (inr q) ne = inr (others_stay x z ys p q ne)

-- ---- the count ----

module _ {X : Type 0} (P : ℕ → Bool) (R : ℕ → X → Type 0) (one : (a b : ℕ) (x : X) → R a x → R b x → a ≡ b) where
  -- the number has one of the list
  abbrev pub Has : List X → ℕ → Type 0
  Has ys n = (x : X) × R n x × Among x ys

  pub counted : (m k : ℕ) (ys : List X) → ((n : ℕ) → k ≤ n → n < k + m → (P n ≡ true) ⊎ Has ys n) → m ≤ length (filter P (numbers_from k m)) + length ys
  counted zero k ys each = omega arith
  counted (suc m) k ys each = over (P k) refl (each k (omega arith) (omega arith)) (λ zs left. counted m (k + 1) zs left)
    where
      Left : List X → Type 0
      Left zs = (n : ℕ) → k + 1 ≤ n → n < k + 1 + m → (P n ≡ true) ⊎ Has zs n

      later : Left ys
      later n low high = each n (omega (arith, low)) (omega (arith, high))

      -- a number more, or one less
      longer : (a b : ℕ) → m ≤ a + b → suc m ≤ suc a + b
      longer a b h = omega (arith, h)

      shorter : (a b d : ℕ) → d ≡ suc b → m ≤ a + b → suc m ≤ a + d
      shorter a b d e h = omega (arith, e, h)

      over : (b : Bool) → P k ≡ b → (P k ≡ true) ⊎ Has ys k → ((zs : List X) → Left zs → m ≤ length (filter P (numbers_from (k + 1) m)) + length zs) → suc m ≤ length (cond b (k ∷ filter P (numbers_from (k + 1) m)) (filter P (numbers_from (k + 1) m))) + length ys
      over true e t again = longer (length (filter P (numbers_from (k + 1) m))) (length ys) (again ys later)
      over false e (inl t) again = absurd (true_false (sym t ∙ e))
      over false e (inr w) again = shorter (length (filter P (numbers_from (k + 1) m))) (length (without w.0 ys w.2)) (length ys) (one_less w.0 ys w.2) (again (without w.0 ys w.2) left)
        where
          left : Left (without w.0 ys w.2)
          left n low high = at (later n low high)
            where
              apart : (v : Has ys n) → v.0 ≡ w.0 → ⊥
              apart v same = (let is : n ≡ k = one n k w.0 (subst (λ (x : X). R n x) same v.1) w.1 in omega (arith, is, low))

              at : (P n ≡ true) ⊎ Has ys n → (P n ≡ true) ⊎ Has (without w.0 ys w.2) n
              at (inl t) = inl t
              at (inr v) = inr (v.0, v.1, others_stay w.0 v.0 ys w.2 v.2 (apart v))
