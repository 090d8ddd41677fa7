-- Two lists in which each key stands once, and which give each key the same amount, have the same sum.
use Rattle.std.proofs.Common.{◌≡◌, ℕ, ◌+◌, Bool, true, false, cond, List, [], ◌∷◌, refl, sym, ap, ◌∙◌, subst, arith}
use Rattle.std.specs.List.{AllByRecursion}
use Rattle.tree_laws.proofs.of_plain_facts.Tests.{true_false}

-- an amount under a key
pub record Amount (K : Type 0) : Type 0 where
  pub key : K
  pub amount : ℕ

abbrev pub sum_of : {K : Type 0} → List (Amount K) → ℕ
sum_of [] = 0
sum_of (p ∷ ps) = p.amount + sum_of ps

-- tests that tell the same keys
pub record TellsKeys {K : Type 0} (same : K → K → Bool) : Type 0 where
  pub is : (a b : K) → same a b ≡ true → a ≡ b
  pub own : (a : K) → same a a ≡ true

module _ {K : Type 0} (same : K → K → Bool) (tells : TellsKeys same) where
  -- what a key has
  abbrev pub amount_at : K → List (Amount K) → ℕ
  amount_at k [] = 0
  amount_at k (p ∷ ps) = cond (same p.key k) p.amount (amount_at k ps)

  abbrev pub AreSingle : List (Amount K) → Type 0
  AreSingle [] = Unit {0}
  AreSingle (p ∷ ps) = AllByRecursion (λ (q : Amount K). same p.key q.key ≡ false) ps × AreSingle ps

  -- without the first of a key
  abbrev without : K → List (Amount K) → List (Amount K)
  without k [] = []
  without k (p ∷ ps) = cond (same p.key k) ps (p ∷ without k ps)

  -- a key that none of a list has
  none_at : (k : K) (ps : List (Amount K)) → AllByRecursion (λ (q : Amount K). same k q.key ≡ false) ps → amount_at k ps ≡ 0
  none_at k [] all = refl
  none_at k (p ∷ ps) all = over (same p.key k) refl (none_at k ps all.1)
    where
      over : (b : Bool) → same p.key k ≡ b → amount_at k ps ≡ 0 → cond b p.amount (amount_at k ps) ≡ 0
      over true e later = absurd (true_false (sym (subst (λ (x : K). same x p.key ≡ true) (tells.is p.key k e) (tells.own p.key)) ∙ all.0))
      over false e later = later

  split : (k : K) (ps : List (Amount K)) → sum_of ps ≡ amount_at k ps + sum_of (without k ps)
  split k [] = refl
  split k (p ∷ ps) = over (same p.key k) (split k ps)
    where
      move : (a b d n : ℕ) → n ≡ b + d → a + n ≡ b + (a + d)
      move a b d n e = omega (arith, e)

      over : (b : Bool) → sum_of ps ≡ amount_at k ps + sum_of (without k ps) → p.amount + sum_of ps ≡ cond b p.amount (amount_at k ps) + sum_of (cond b ps (p ∷ without k ps))
      over true later = refl
      over false later = move p.amount (amount_at k ps) (sum_of (without k ps)) (sum_of ps) later

  all_without : (P : Amount K → Type 0) (k : K) (ps : List (Amount K)) → AllByRecursion P ps → AllByRecursion P (without k ps)
  all_without P k [] all = tt
  all_without P k (p ∷ ps) all = over (same p.key k) (all_without P k ps all.1)
    where
      over : (b : Bool) → AllByRecursion P (without k ps) → AllByRecursion P (cond b ps (p ∷ without k ps))
      over true later = all.1
      over false later = (all.0, later)

  single_without : (k : K) (ps : List (Amount K)) → AreSingle ps → AreSingle (without k ps)
  single_without k [] single = tt
  single_without k (p ∷ ps) single = over (same p.key k) (single_without k ps single.1)
    where
      over : (b : Bool) → AreSingle (without k ps) → AreSingle (cond b ps (p ∷ without k ps))
      over true later = single.1
      over false later = (all_without (λ (q : Amount K). same p.key q.key ≡ false) k ps single.0, later)

  -- another key has what it had, and the key has none
  at_without : (j k : K) (ps : List (Amount K)) → AreSingle ps → amount_at j (without k ps) ≡ cond (same k j) 0 (amount_at j ps)
  at_without j k [] single = over (same k j)
    where
      over : (b : Bool) → ◌≡◌ {A = ℕ} 0 (cond b 0 0)
      over true = refl
      over false = refl
  at_without j k (p ∷ ps) single = over (same p.key k) refl (same k j) refl (same p.key j) refl (at_without j k ps single.1)
    where
      over : (a : Bool) → same p.key k ≡ a → (b : Bool) → same k j ≡ b → (d : Bool) → same p.key j ≡ d → amount_at j (without k ps) ≡ cond (same k j) 0 (amount_at j ps) →
          amount_at j (cond a ps (p ∷ without k ps)) ≡ cond b 0 (cond d p.amount (amount_at j ps))
      over true e true f d g later = subst (λ (x : K). amount_at x ps ≡ 0) (tells.is p.key k e ∙ tells.is k j f) (none_at p.key ps single.0)
      over true e false f true g later = absurd (true_false (sym (subst (λ (x : K). same x j ≡ true) (tells.is p.key k e) g) ∙ f))
      over true e false f false g later = refl
      over false e true f true g later = absurd (true_false (sym (subst (λ (x : K). same p.key x ≡ true) (sym (tells.is k j f)) g) ∙ e))
      over false e true f false g later = ap (λ (b : Bool). cond b p.amount (amount_at j (without k ps))) g ∙ (later ∙ ap (λ (b : Bool). cond b 0 (amount_at j ps)) f)
      over false e false f true g later = ap (λ (b : Bool). cond b p.amount (amount_at j (without k ps))) g
      over false e false f false g later = ap (λ (b : Bool). cond b p.amount (amount_at j (without k ps))) g ∙ (later ∙ ap (λ (b : Bool). cond b 0 (amount_at j ps)) f)

  nothing_there : (qs : List (Amount K)) → AreSingle qs → ((k : K) → amount_at k qs ≡ 0) → sum_of qs ≡ 0
  nothing_there [] single none = refl
  nothing_there (q ∷ qs) single none = zeros q.amount (sum_of qs) here (nothing_there qs single.1 rest)
    where
      zeros : (a b : ℕ) → a ≡ 0 → b ≡ 0 → a + b ≡ 0
      zeros a b e f = omega (arith, e, f)

      here : q.amount ≡ 0
      here = sym (ap (λ (b : Bool). cond b q.amount (amount_at q.key qs)) (tells.own q.key)) ∙ none q.key

      rest : (k : K) → amount_at k qs ≡ 0
      rest k = over (same q.key k) refl
        where
          over : (b : Bool) → same q.key k ≡ b → amount_at k qs ≡ 0
          over true e = subst (λ (x : K). amount_at x qs ≡ 0) (tells.is q.key k e) (none_at q.key qs single.0)
          over false e = sym (ap (λ (b : Bool). cond b q.amount (amount_at k qs)) e) ∙ none k

  pub same_sum : (ps qs : List (Amount K)) → AreSingle ps → AreSingle qs → ((k : K) → amount_at k ps ≡ amount_at k qs) → sum_of ps ≡ sum_of qs
  same_sum [] qs single other alike = sym (nothing_there qs other (λ k. sym (alike k)))
  same_sum (p ∷ ps) qs single other alike = add p.amount (sum_of ps) (sum_of (without p.key qs)) (amount_at p.key qs) (sum_of qs) mine (same_sum ps (without p.key qs) single.1 (single_without p.key qs other) rest) (split p.key qs)
    where
      add : (a b d m n : ℕ) → m ≡ a → b ≡ d → n ≡ m + d → a + b ≡ n
      add a b d m n e f g = omega (arith, e, f, g)

      mine : amount_at p.key qs ≡ p.amount
      mine = sym (alike p.key) ∙ ap (λ (b : Bool). cond b p.amount (amount_at p.key ps)) (tells.own p.key)

      rest : (k : K) → amount_at k ps ≡ amount_at k (without p.key qs)
      rest k = over (same p.key k) refl ∙ sym (at_without k p.key qs other)
        where
          over : (b : Bool) → same p.key k ≡ b → amount_at k ps ≡ cond (same p.key k) 0 (amount_at k qs)
          over true e = subst (λ (x : K). amount_at x ps ≡ 0) (tells.is p.key k e) (none_at p.key ps single.0) ∙ sym (ap (λ (b : Bool). cond b 0 (amount_at k qs)) e)
          over false e = sym (ap (λ (b : Bool). cond b p.amount (amount_at k ps)) e) ∙ (alike k ∙ sym (ap (λ (b : Bool). cond b 0 (amount_at k qs)) e))
