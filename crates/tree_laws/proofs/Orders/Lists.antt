-- What is so of all of a list stays so when one is added, changed or taken out.
use Rattle.std.proofs.Common.{◌≡◌, Bool, true, false, ◌||◌, cond, List, [], ◌∷◌, ◌++◌, filter, map, Option, Some, None, refl, subst}
use Rattle.std.specs.List.{AllByRecursion, find, list_any}
use Rattle.tree_model.specs.Lists.{change_first, put_first, without_first}

pub all_more : {X : Type 0} (P : X → Type 0) (xs : List X) (y : X) → AllByRecursion P xs → P y → AllByRecursion P (xs ++ y ∷ [])
all_more P [] y all p = (p, tt)
all_more P (x ∷ xs) y all p = (all.0, all_more P xs y all.1 p)

pub all_then : {X : Type 0} (P Q : X → Type 0) → ((x : X) → P x → Q x) → (xs : List X) → AllByRecursion P xs → AllByRecursion Q xs
all_then P Q then [] all = tt
all_then P Q then (x ∷ xs) all = (then x all.0, all_then P Q then xs all.1)

pub all_changed : {X : Type 0} (P : X → Type 0) (q : X → Bool) (change : X → X) → ((x : X) → P x → P (change x)) → (xs : List X) → AllByRecursion P xs → AllByRecursion P (change_first q change xs)
all_changed P q change then [] all = tt
all_changed P q change then (x ∷ xs) all = at (q x) (all_changed P q change then xs all.1)
  where
    at : (b : Bool) → AllByRecursion P (change_first q change xs) → AllByRecursion P (cond b (change x ∷ xs) (x ∷ change_first q change xs))
    at true later = (then x all.0, all.1)
    at false later = (all.0, later)

pub all_without : {X : Type 0} (P : X → Type 0) (q : X → Bool) (xs : List X) → AllByRecursion P xs → AllByRecursion P (without_first q xs)
all_without P q [] all = tt
all_without P q (x ∷ xs) all = at (q x) (all_without P q xs all.1)
  where
    at : (b : Bool) → AllByRecursion P (without_first q xs) → AllByRecursion P (cond b xs (x ∷ without_first q xs))
    at true later = all.1
    at false later = (all.0, later)

-- what one of a list passes, one of a longer list does
pub any_more : {X : Type 0} (p : X → Bool) (xs ys : List X) → list_any p xs ≡ true → list_any p (xs ++ ys) ≡ true
any_more p [] ys h = absurd cc
any_more p (x ∷ xs) ys h = at (p x) h (any_more p xs ys)
  where
    at : (b : Bool) → b || list_any p xs ≡ true → (list_any p xs ≡ true → list_any p (xs ++ ys) ≡ true) → b || list_any p (xs ++ ys) ≡ true
    at true h later = refl
    at false h later = later h

pub any_last : {X : Type 0} (p : X → Bool) (xs : List X) (y : X) → p y ≡ true → list_any p (xs ++ y ∷ []) ≡ true
any_last p [] y h = at (p y) h
  where
    at : (b : Bool) → b ≡ true → b || false ≡ true
    at true h = refl
    at false h = absurd cc
any_last p (x ∷ xs) y h = at (p x) (any_last p xs y h)
  where
    at : (b : Bool) → list_any p (xs ++ y ∷ []) ≡ true → b || list_any p (xs ++ y ∷ []) ≡ true
    at true later = refl
    at false later = later

pub all_filtered : {X : Type 0} (P : X → Type 0) (q : X → Bool) (xs : List X) → AllByRecursion P xs → AllByRecursion P (filter q xs)
all_filtered P q [] all = tt
all_filtered P q (x ∷ xs) all = at (q x) (all_filtered P q xs all.1)
  where
    at : (b : Bool) → AllByRecursion P (filter q xs) → AllByRecursion P (cond b (x ∷ filter q xs) (filter q xs))
    at true later = (all.0, later)
    at false later = later

pub all_mapped : {X : Type 0} (P : X → Type 0) (f : X → X) → ((x : X) → P x → P (f x)) → (xs : List X) → AllByRecursion P xs → AllByRecursion P (map f xs)
all_mapped P f then [] all = tt
all_mapped P f then (x ∷ xs) all = (then x all.0, all_mapped P f then xs all.1)

pub all_put : {X : Type 0} (P : X → Type 0) (q : X → Bool) (new : X) (xs : List X) → P new → AllByRecursion P xs → AllByRecursion P (put_first q new xs)
all_put P q new [] p all = (p, tt)
all_put P q new (x ∷ xs) p all = at (q x) (all_put P q new xs p all.1)
  where
    at : (b : Bool) → AllByRecursion P (put_first q new xs) → AllByRecursion P (cond b (new ∷ xs) (x ∷ put_first q new xs))
    at true later = (p, all.1)
    at false later = (all.0, later)

-- the first that passes is changed: what is so of it then may rest on its passing
pub all_passed : {X : Type 0} (P : X → Type 0) (q : X → Bool) (change : X → X) → ((x : X) → q x ≡ true → P (change x)) → (xs : List X) → AllByRecursion P xs → AllByRecursion P (change_first q change xs)
all_passed P q change then [] all = tt
all_passed P q change then (x ∷ xs) all = at (q x) refl (all_passed P q change then xs all.1)
  where
    at : (b : Bool) → q x ≡ b → AllByRecursion P (change_first q change xs) → AllByRecursion P (cond b (change x ∷ xs) (x ∷ change_first q change xs))
    at true e later = (then x e, all.1)
    at false e later = (all.0, later)

-- what is found is one of them
pub all_found : {X : Type 0} (P : X → Type 0) (q : X → Bool) (xs : List X) (x : X) → AllByRecursion P xs → find q xs ≡ Some x → P x
all_found P q [] x all e = absurd (none e)
  where
    none : ◌≡◌ {A = Option _} None (Some x) → ⊥
    none e = cc
all_found P q (y ∷ ys) x all e = at (q y) e (all_found P q ys x all.1)
  where
    is : ◌≡◌ {A = Option _} (Some y) (Some x) → y ≡ x
    is e = cc

    at : (b : Bool) → cond b (Some y) (find q ys) ≡ Some x → (find q ys ≡ Some x → P x) → P x
    at true e later = subst P (is e) all.0
    at false e later = later e
