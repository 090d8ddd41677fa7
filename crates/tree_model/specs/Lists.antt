-- Lists in which the first entry that passes a test counts, and lists that only grow, in which the last one does.
use Rattle.std.specs.Prelude.{Bool, cond, List, [], ◌∷◌, Option, None, Some}
use Rattle.std.specs.Option.{option_or}

-- the first that passes is this one, or a new one after the others is
abbrev pub put_first : {X : Type 0} → (X → Bool) → X → List X → List X
put_first p new [] = new ∷ []
put_first p new (x ∷ xs) = cond (p x) (new ∷ xs) (x ∷ put_first p new xs)

-- the first that passes is changed
abbrev pub change_first : {X : Type 0} → (X → Bool) → (X → X) → List X → List X
change_first p change [] = []
change_first p change (x ∷ xs) = cond (p x) (change x ∷ xs) (x ∷ change_first p change xs)

-- the first that passes is taken out
abbrev pub without_first : {X : Type 0} → (X → Bool) → List X → List X
without_first p [] = []
without_first p (x ∷ xs) = cond (p x) xs (x ∷ without_first p xs)

-- the last that passes
abbrev pub latest : {X : Type 0} → (X → Bool) → List X → Option X
latest p [] = None
latest p (x ∷ xs) = option_or (latest p xs) (cond (p x) (Some x) None)
