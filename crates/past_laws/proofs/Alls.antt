-- Lists of which all pass.
use Rattle.std.proofs.Common.{◌≡◌, Bool, true, false, cond, List, [], ◌∷◌, ◌++◌, filter, map, Some, refl, subst}
use Rattle.std.specs.List.{find, list_all}
use Rattle.promises.specs.Past.{first_or}
use Rattle.promises.specs.After.{change}
use Rattle.past_laws.proofs.Names.{both, both_parts, none_some, some_same}

pub all_more : {X : Type 0} (q : X → Bool) (x : X) (xs : List X) → q x ≡ true → list_all q xs ≡ true → list_all q (x ∷ xs) ≡ true
all_more q x xs h k = both (q x) (list_all q xs) h k

pub all_first : {X : Type 0} (q : X → Bool) (x : X) (xs : List X) → list_all q (x ∷ xs) ≡ true → (q x ≡ true) × (list_all q xs ≡ true)
all_first q x xs h = both_parts (q x) (list_all q xs) h

pub all_joined : {X : Type 0} (q : X → Bool) (xs ys : List X) → list_all q xs ≡ true → list_all q ys ≡ true → list_all q (xs ++ ys) ≡ true
all_joined q [] ys h k = k
all_joined q (x ∷ xs) ys h k = let parts = all_first q x xs h in all_more q x (xs ++ ys) parts.0 (all_joined q xs ys parts.1 k)

-- a test that says less
pub all_weaker : {X : Type 0} (q r : X → Bool) → ((x : X) → q x ≡ true → r x ≡ true) → (xs : List X) → list_all q xs ≡ true → list_all r xs ≡ true
all_weaker q r less [] h = refl
all_weaker q r less (x ∷ xs) h = let parts = all_first q x xs h in all_more r x xs (less x parts.0) (all_weaker q r less xs parts.1)

-- each that is changed passes again
pub all_changed : {X : Type 0} (q p : X → Bool) (f : X → X) → ((x : X) → p x ≡ true → q x ≡ true → q (f x) ≡ true) → (xs : List X) → list_all q xs ≡ true → list_all q (change p f xs) ≡ true
all_changed q p f again [] h = refl
all_changed {X} q p f again (x ∷ xs) h = let parts = all_first q x xs h in both (q (cond (p x) (f x) x)) (list_all q (change p f xs)) (at parts.0 (p x) refl) (all_changed q p f again xs parts.1)
  where
    at : q x ≡ true → (b : Bool) → p x ≡ b → q (cond b (f x) x) ≡ true
    at own true e = again x e own
    at own false e = own

pub all_filtered : {X : Type 0} (q p : X → Bool) (xs : List X) → list_all q xs ≡ true → list_all q (filter p xs) ≡ true
all_filtered q p [] h = refl
all_filtered {X} q p (x ∷ xs) h = let parts = all_first q x xs h in at parts.0 (all_filtered q p xs parts.1) (p x)
  where
    at : q x ≡ true → list_all q (filter p xs) ≡ true → (b : Bool) → list_all q (cond b (x ∷ filter p xs) (filter p xs)) ≡ true
    at own later true = all_more q x (filter p xs) own later
    at own later false = later

pub all_mapped : {X Y : Type 0} (q : Y → Bool) (g : X → Y) → ((x : X) → q (g x) ≡ true) → (xs : List X) → list_all q (map g xs) ≡ true
all_mapped q g each [] = refl
all_mapped q g each (x ∷ xs) = all_more q (g x) (map g xs) (each x) (all_mapped q g each xs)

-- one of them
pub all_found : {X : Type 0} (q p : X → Bool) (xs : List X) (x : X) → find p xs ≡ Some x → list_all q xs ≡ true → q x ≡ true
all_found q p [] x e h = none_some x e
all_found q p (y ∷ xs) x e h = let parts = all_first q y xs h in at parts.0 (λ k. all_found q p xs x k parts.1) (p y) refl
  where
    at : q y ≡ true → (find p xs ≡ Some x → q x ≡ true) → (b : Bool) → p y ≡ b → q x ≡ true
    at own later true f = subst (λ z. q z ≡ true) (some_same y x (rw f at e)) own
    at own later false f = later (rw f at e)

pub all_first_or : {X : Type 0} (q p : X → Bool) (d : X) (xs : List X) → q d ≡ true → list_all q xs ≡ true → q (first_or d p xs) ≡ true
all_first_or q p d [] other h = other
all_first_or {X} q p d (x ∷ xs) other h = let parts = all_first q x xs h in at parts.0 (all_first_or q p d xs other parts.1) (p x)
  where
    at : q x ≡ true → q (first_or d p xs) ≡ true → (b : Bool) → q (cond b x (first_or d p xs)) ≡ true
    at own later true = own
    at own later false = later

pub all_images : {X Y : Type 0} (q : Y → Bool) (g : X → Y) (xs : List X) → list_all (λ x. q (g x)) xs ≡ true → list_all q (map g xs) ≡ true
all_images q g [] h = refl
all_images q g (x ∷ xs) h = let parts = all_first (λ y. q (g y)) x xs h in all_more q (g x) (map g xs) parts.0 (all_images q g xs parts.1)
