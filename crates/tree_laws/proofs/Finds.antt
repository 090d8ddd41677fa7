-- What is found in a list when one of it is changed or taken out, or one is added.
use Rattle.std.proofs.Common.{◌≡◌, Bool, true, false, List, [], ◌∷◌, ◌++◌, Option, Some, None, refl, ◌⊎◌, inl, inr}
use Rattle.std.specs.List.{find}
use Rattle.the_run.proofs.of_plain_facts.Options.{none_some}
use Rattle.lawful_trace.specs.of_tree_model.Lists.{change_first, without_first}

-- the first that passes q is changed, in a way that p doesn't see: what p finds is as it was, or it is the one that is changed
pub record IsChanged {X : Type 0} (p q : X → Bool) (change : X → X) (xs : List X) : Type 0 where
  pub old : X
  pub was : find p xs ≡ Some old
  pub passes : q old ≡ true
  pub is : find p (change_first q change xs) ≡ Some (change old)

pub find_changed : {X : Type 0} (p q : X → Bool) (change : X → X) → ((x : X) → p (change x) ≡ p x) → (xs : List X) → (find p (change_first q change xs) ≡ find p xs) ⊎ IsChanged p q change xs
find_changed p q change same [] = inl refl
find_changed {X} p q change same (x ∷ xs) = at (find_changed p q change same xs) (q x) (p x) refl refl
  where
    skip : p x ≡ false → q x ≡ false → (find p (change_first q change xs) ≡ find p xs) ⊎ IsChanged p q change xs → (find p (change_first q change (x ∷ xs)) ≡ find p (x ∷ xs)) ⊎ IsChanged p q change (x ∷ xs)
    skip e f (inl h) = inl (rw f (rw e h))
    skip e f (inr h) = inr (record { old = h.old; was = rw e h.was; passes = h.passes; is = rw f (rw e h.is) })

    at : (find p (change_first q change xs) ≡ find p xs) ⊎ IsChanged p q change xs → (b a : Bool) → q x ≡ b → p x ≡ a → (find p (change_first q change (x ∷ xs)) ≡ find p (x ∷ xs)) ⊎ IsChanged p q change (x ∷ xs)
    at later true true f e = inr (record { old = x; was = rw e refl; passes = f; is = rw f (rw (same x) (rw e refl)) })
    at later true false f e = inl (rw f (rw (same x) (rw e refl)))
    at later false true f e = inl (rw f (rw e refl))
    at later false false f e = skip e f later

pub find_added : {X : Type 0} (p : X → Bool) (xs ys : List X) (x : X) → find p xs ≡ Some x → find p (xs ++ ys) ≡ Some x
find_added p [] ys x e = absurd (none_some x e)
find_added p (y ∷ xs) ys x e = at (find_added p xs ys x) (p y) refl
  where
    at : (find p xs ≡ Some x → find p (xs ++ ys) ≡ Some x) → (b : Bool) → p y ≡ b → find p (y ∷ xs ++ ys) ≡ Some x
    at later true f = rw f (rw f at e)
    at later false f = rw f (later (rw f at e))

-- what is added is found, or it was found before
pub find_in_added : {X : Type 0} (p : X → Bool) (xs : List X) (y x : X) → find p (xs ++ y ∷ []) ≡ Some x → (find p xs ≡ Some x) ⊎ (p y ≡ true)
find_in_added {X} p [] y x e = at (p y) refl
  where
    at : (b : Bool) → p y ≡ b → (◌≡◌ {A = Option X} None (Some x)) ⊎ (p y ≡ true)
    at true f = inr f
    at false f = absurd (none_some x (rw f at e))
find_in_added p (z ∷ xs) y x e = at (find_in_added p xs y x) (p z) refl
  where
    at : (find p (xs ++ y ∷ []) ≡ Some x → (find p xs ≡ Some x) ⊎ (p y ≡ true)) → (b : Bool) → p z ≡ b → (find p (z ∷ xs) ≡ Some x) ⊎ (p y ≡ true)
    at later true f = inl (rw f (rw f at e))
    at later false f = rw f (later (rw f at e))

-- one that p doesn't find is taken out
pub find_without : {X : Type 0} (p q : X → Bool) → ((x : X) → q x ≡ true → p x ≡ false) → (xs : List X) → find p (without_first q xs) ≡ find p xs
find_without p q apart [] = refl
find_without p q apart (x ∷ xs) = at (find_without p q apart xs) (q x) (p x) refl refl
  where
    at : find p (without_first q xs) ≡ find p xs → (b a : Bool) → q x ≡ b → p x ≡ a → find p (without_first q (x ∷ xs)) ≡ find p (x ∷ xs)
    at later true a f e = rw f (rw (apart x f) refl)
    at later false true f e = rw f (rw e refl)
    at later false false f e = rw f (rw e later)

-- what is found where one was taken out was there
pub found_within : {X : Type 0} (p q : X → Bool) (xs : List X) (x : X) → find p (without_first q xs) ≡ Some x → (y : X) × (find p xs ≡ Some y)
found_within p q [] x e = (x, e)
found_within {X} p q (z ∷ xs) x e = at (found_within p q xs x) (q z) (p z) refl refl
  where
    at : (find p (without_first q xs) ≡ Some x → (y : X) × (find p xs ≡ Some y)) → (b a : Bool) → q z ≡ b → p z ≡ a → (y : X) × (find p (z ∷ xs) ≡ Some y)
    at later b true f t = (z, rw t refl)
    at later true false f t = (x, rw t (rw f at e))
    at later false false f t = (let k : (y : X) × (find p xs ≡ Some y) = later (rw t at (rw f at e)) in (k.0, rw t k.1))
