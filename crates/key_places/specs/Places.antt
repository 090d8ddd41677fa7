-- Where keys stand that came one after another. A list of keys has the newest first; a place is the number of keys that came
-- before.
use Rattle.std.specs.Prelude.{ℕ, ◌≡◌, cond, List, [], ◌∷◌, length, Option, None, Some}
use Rattle.key_places.specs.declared.key.Key.{Key}
use Rattle.key_places.specs.Keys.{same_key}

-- the place of the newest key that equals this one
abbrev pub place_of : Key → List Key → Option ℕ
place_of k [] = None
place_of k (x ∷ older) = cond (same_key x k) (Some (length older)) (place_of k older)

-- no key stands twice
abbrev pub AllApart : List Key → Type 0
AllApart [] = Unit {0}
AllApart (x ∷ older) = (place_of x older ≡ None) × AllApart older
