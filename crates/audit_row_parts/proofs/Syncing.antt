-- The least that passes among others.
use Rattle.std.proofs.Common.{◌≡◌, Bool, true, false, ◌||◌, cond, List, [], ◌∷◌, None, Some, refl, sym, ap, ◌∙◌}
use Rattle.std.specs.Prelude.{filter, take}
use Rattle.std.specs.List.{find, list_any}
use Rattle.plain_facts.proofs.Options.{none_some, some_none, some_same}

or_false : (b : Bool) → (b || false) ≡ b
or_false true = refl
or_false false = refl

pub first_found : {X : Type 0} (q p : X → Bool) (xs : List X) (x : X) → Some x ≡ find p xs → q x ≡ list_any q (take 1 (filter p xs))
first_found q p [] x e = absurd (some_none x e)
first_found {X} q p (y ∷ ys) x e = at (first_found q p ys x) (p y) e
  where
    at : (Some x ≡ find p ys → q x ≡ list_any q (take 1 (filter p ys))) → (b : Bool) → Some x ≡ cond b (Some y) (find p ys) → q x ≡ list_any q (take 1 (cond b (y ∷ filter p ys) (filter p ys)))
    at later true t = ap q (some_same x y t) ∙ sym (or_false (q y))
    at later false t = later t

pub first_nowhere : {X : Type 0} (q p : X → Bool) (xs : List X) → None ≡ find p xs → false ≡ list_any q (take 1 (filter p xs))
first_nowhere q p [] e = refl
first_nowhere {X} q p (y ∷ ys) e = at (first_nowhere q p ys) (p y) e
  where
    at : (None ≡ find p ys → false ≡ list_any q (take 1 (filter p ys))) → (b : Bool) → None ≡ cond b (Some y) (find p ys) → false ≡ list_any q (take 1 (cond b (y ∷ filter p ys) (filter p ys)))
    at later true t = absurd (none_some y t)
    at later false t = later t
