-- What the parser of numbers tests of a word before it takes its value.
use Rattle.std.specs.Prelude.{ℕ, ◌≡◌, ◌≤◌, Bool, false, List, [], ◌∷◌}
use Rattle.std.specs.Fmt.{decimal}
use Rattle.schedule_lines.specs.Ranges.{is_between}

-- the first byte is a digit, and no zero before other bytes
abbrev pub begins_well : List ℕ → Bool
begins_well [] = false
begins_well (c ∷ []) = is_between 48 57 c
begins_well (c ∷ d ∷ ds) = is_between 49 57 c

-- the word is this number in decimal, which is at most so much
abbrev pub IsNumber : ℕ → List ℕ → ℕ → Type 0
IsNumber most word n = (word ≡ decimal n) × (n ≤ most)
