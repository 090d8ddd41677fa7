-- A number is reserved for a file of which there is no version yet.
use Rattle.std.specs.Prelude.{◌≡◌, List, [], ◌∷◌}
use Rattle.role_steps.specs.Views.{Told, Reserves}
use Rattle.site_laws.specs.Packs.Making.{WasCommitted}

-- the file is no root, and nobody has committed it
abbrev pub FreshTold : List Told → Told → Type 0
FreshTold older (Reserves s e inst file) = (file.ino ≡ 1 → ⊥) × (WasCommitted older file → ⊥)
FreshTold older _ = Unit {0}

-- so it is of each number that is reserved
abbrev pub NumbersAreFresh : List Told → Type 0
NumbersAreFresh [] = Unit {0}
NumbersAreFresh (x ∷ older) = FreshTold older x × NumbersAreFresh older
