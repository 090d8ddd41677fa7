-- What is found among the images of a list, in a filtered list, and where at most one passes.
use Rattle.std.proofs.Common.{◌≡◌, ◌≤◌, Bool, true, false, ◌&&◌, ◌||◌, cond, List, [], ◌∷◌, length, filter, map, Option, Some, None, refl, sym, ap, ◌∙◌}
use Rattle.std.specs.List.{find, list_any, list_all}
use Rattle.std.specs.Option.{option_map}
use Rattle.promises.specs.Past.{first_or}
use Rattle.past_laws.proofs.Names.{false_true, none_some, some_same, both}
use Rattle.past_laws.proofs.Changing.{none_after}

-- Images.

pub find_mapped : {X Y : Type 0} (g : X → Y) (q : Y → Bool) (xs : List X) → find q (map g xs) ≡ option_map g (find (λ x. q (g x)) xs)
find_mapped g q [] = refl
find_mapped {Y = Y} g q (x ∷ xs) = at (find_mapped g q xs) (q (g x))
  where
    at : find q (map g xs) ≡ option_map g (find (λ y. q (g y)) xs) → (b : Bool) → cond b (Some (g x)) (find q (map g xs)) ≡ option_map g (cond b (Some x) (find (λ y. q (g y)) xs))
    at later true = refl
    at later false = later

pub any_mapped : {X Y : Type 0} (g : X → Y) (q : Y → Bool) (xs : List X) → list_any q (map g xs) ≡ list_any (λ x. q (g x)) xs
any_mapped g q [] = refl
any_mapped g q (x ∷ xs) = ap (λ b. q (g x) || b) (any_mapped g q xs)

pub filter_mapped : {X Y : Type 0} (g : X → Y) (q : Y → Bool) (xs : List X) → filter q (map g xs) ≡ map g (filter (λ x. q (g x)) xs)
filter_mapped g q [] = refl
filter_mapped {Y = Y} g q (x ∷ xs) = at (filter_mapped g q xs) (q (g x))
  where
    at : filter q (map g xs) ≡ map g (filter (λ y. q (g y)) xs) → (b : Bool) → cond b (g x ∷ filter q (map g xs)) (filter q (map g xs)) ≡ map g (cond b (x ∷ filter (λ y. q (g y)) xs) (filter (λ y. q (g y)) xs))
    at later true = ap (λ ys. g x ∷ ys) later
    at later false = later

-- a part that all images and the other have is that of the first that passes
pub first_each : {X Y Z : Type 0} (part : Y → Z) (d : Y) (q : Y → Bool) (g : X → Y) (z : Z) → part d ≡ z → ((x : X) → part (g x) ≡ z) → (xs : List X) → part (first_or d q (map g xs)) ≡ z
first_each part d q g z other each [] = other
first_each {Y = Y} part d q g z other each (x ∷ xs) = at (first_each part d q g z other each xs) (q (g x))
  where
    at : part (first_or d q (map g xs)) ≡ z → (b : Bool) → part (cond b (g x) (first_or d q (map g xs))) ≡ z
    at later true = each x
    at later false = later

-- the image that was found is one of what was found
pub record IsImage {X Y : Type 0} (g : X → Y) (q : X → Bool) (xs : List X) (y : Y) : Type 0 where
  pub one : X
  pub found : find q xs ≡ Some one
  pub is : g one ≡ y

pub found_image : {X Y : Type 0} (g : X → Y) (q : Y → Bool) (xs : List X) (y : Y) → find q (map g xs) ≡ Some y → IsImage g (λ x. q (g x)) xs y
found_image {X} g q xs y e = at (find (λ x. q (g x)) xs) refl
  where
    at : (o : Option X) → find (λ x. q (g x)) xs ≡ o → IsImage g (λ x. q (g x)) xs y
    at None f = none_some y (ap (option_map g) (sym f) ∙ (sym (find_mapped g q xs) ∙ e))
    at (Some x) f = record { one = x; found = f; is = some_same (g x) y (ap (option_map g) (sym f) ∙ (sym (find_mapped g q xs) ∙ e)) }

-- Filtered lists.

pub find_both : {X : Type 0} (q p : X → Bool) (xs : List X) → find q (filter p xs) ≡ find (λ x. p x && q x) xs
find_both q p [] = refl
find_both {X} q p (x ∷ xs) = at (find_both q p xs) (p x)
  where
    at : find q (filter p xs) ≡ find (λ y. p y && q y) xs → (a : Bool) → find q (cond a (x ∷ filter p xs) (filter p xs)) ≡ cond (a && q x) (Some x) (find (λ y. p y && q y) xs)
    at later true = ap (λ o. cond (q x) (Some x) o) later
    at later false = later

-- where at most one passes, what a stricter test finds is that one
pub found_only : {X : Type 0} (q r : X → Bool) → ((x : X) → r x ≡ true → q x ≡ true) → (xs : List X) (y : X) → length (filter q xs) ≤ 1 → find r xs ≡ Some y → find q xs ≡ Some y
found_only q r within [] y h e = none_some y e
found_only {X} q r within (x ∷ xs) y h e = at (found_only q r within xs y) (q x) (r x) refl refl
  where
    first : q x ≡ true → r x ≡ false → cond (q x) (Some x) (find q xs) ≡ Some y
    first f g = false_true (sym (none_after q x xs (rw f at h)) ∙ found_so xs (rw g at e))
      where
        found_so : (zs : List X) → find r zs ≡ Some y → list_any q zs ≡ true
        found_so [] k = none_some y k
        found_so (z ∷ zs) k = here (found_so zs) (r z) refl
          where
            later_too : (a b : Bool) → b ≡ true → (a || b) ≡ true
            later_too true b l = refl
            later_too false b l = l

            here : (find r zs ≡ Some y → list_any q zs ≡ true) → (b : Bool) → r z ≡ b → list_any q (z ∷ zs) ≡ true
            here later true l = rw (within z l) refl
            here later false l = later_too (q z) (list_any q zs) (later (rw l at k))

    at : (length (filter q xs) ≤ 1 → find r xs ≡ Some y → find q xs ≡ Some y) → (a b : Bool) → q x ≡ a → r x ≡ b → find q (x ∷ xs) ≡ Some y
    at later true true f g = rw f (rw g at e)
    at later true false f g = first f g
    at later false true f g = false_true (sym f ∙ within x g)
    at later false false f g = rw f (later (rw f at h) (rw g at e))

-- All of a list pass.

pub all_of_none : {X : Type 0} (p : X → Bool) (xs : List X) → xs ≡ [] → list_all p xs ≡ true
all_of_none p xs e = rw e refl

pub all_of_one : {X : Type 0} (p : X → Bool) (xs : List X) (x : X) → xs ≡ x ∷ [] → p x ≡ true → list_all p xs ≡ true
all_of_one p xs x e h = rw e (both (p x) true h refl)
