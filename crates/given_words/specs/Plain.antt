-- Words that can't be flags, and those that are given.
use Rattle.std.specs.Prelude.{◌≡◌, ◌==◌, ℕ, Bool, true, false, not, List, [], ◌∷◌, map}
use Rattle.std.specs.Borrow.{Bor}
use Rattle.std.specs.Str.{IsUtf8}
use Rattle.given_words.specs.declared.Given.{Given}
use Rattle.given_words.specs.declared.Given.TheVariants.{One, Three}

-- the texts behind references
abbrev pub texts : List (Bor (List ℕ)) → List (List ℕ)
texts = map (λ s. s.now)

-- a first byte that isn't a hyphen
abbrev pub begins_plainly : List ℕ → Bool
begins_plainly [] = false
begins_plainly (c ∷ cs) = not (c == 45)

-- some text that can't be a flag
abbrev pub IsPlain : List ℕ → Type 0
IsPlain word = IsUtf8 word × (begins_plainly word ≡ true)

abbrev pub words_given : Given → List (List ℕ)
words_given (One word) = word.now ∷ []
words_given (Three word number events) = word.now ∷ number.now ∷ events.now ∷ []
