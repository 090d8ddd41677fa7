-- Lists of which all, one or no row passes.
use Rattle.std.proofs.Common.{◌≡◌, Bool, true, false, cond, List, [], ◌∷◌, filter, refl, ap, ◌∙◌}
use Rattle.std.specs.Prelude.{fold}
use Rattle.promises.specs.After.{change}

pub change_same : {X : Type 0} (q r : X → Bool) (f : X → X) → ((x : X) → q x ≡ r x) → (xs : List X) → change q f xs ≡ change r f xs
change_same q r f same [] = refl
change_same q r f same (x ∷ xs) = ap (λ b. cond b (f x) x ∷ change q f xs) (same x) ∙ ap (λ ys. cond (r x) (f x) x ∷ ys) (change_same q r f same xs)

pub change_never : {X : Type 0} (q : X → Bool) (f : X → X) → ((x : X) → q x ≡ false) → (xs : List X) → change q f xs ≡ xs
change_never q f never [] = refl
change_never q f never (x ∷ xs) = ap (λ b. cond b (f x) x ∷ change q f xs) (never x) ∙ ap (λ ys. x ∷ ys) (change_never q f never xs)

pub filter_never : {X : Type 0} (q : X → Bool) → ((x : X) → q x ≡ false) → (xs : List X) → filter q xs ≡ []
filter_never q never [] = refl
filter_never q never (x ∷ xs) = ap (λ b. cond b (x ∷ filter q xs) (filter q xs)) (never x) ∙ filter_never q never xs

pub filter_always : {X : Type 0} (q : X → Bool) → ((x : X) → q x ≡ true) → (xs : List X) → filter q xs ≡ xs
filter_always q always [] = refl
filter_always q always (x ∷ xs) = ap (λ b. cond b (x ∷ filter q xs) (filter q xs)) (always x) ∙ ap (λ ys. x ∷ ys) (filter_always q always xs)

pub fold_same : {A X : Type 0} (f g : A → X → A) → ((a : A) (x : X) → f a x ≡ g a x) → (a : A) (xs : List X) → fold f a xs ≡ fold g a xs
fold_same f g same a [] = refl
fold_same f g same a (x ∷ xs) = ap (λ b. fold f b xs) (same a x) ∙ fold_same f g same (g a x) xs
