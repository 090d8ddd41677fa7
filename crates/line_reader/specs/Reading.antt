-- The lines of some bytes, and what a reader of lines takes from a source that tells its bytes.
use Rattle.std.specs.Prelude.{ℕ, ◌≡◌, ◌<◌, ◌==◌, Bool, false, cond, List, [], ◌∷◌, ◌++◌, length, take, slice_index, Some, None}
use Rattle.std.specs.declared.option.Option.{Option}
use Rattle.std.specs.List.{list_any, onto_first}
use Rattle.std.specs.Io.KnownBytes.{prepend_known}

-- the lines of some bytes: each ends with a line feed, and the last may lack it
abbrev pub lines_of : List ℕ → List (List ℕ)
lines_of [] = []
lines_of (b ∷ bs) = cond (b == 10) ([] ∷ lines_of bs) (onto_first b (lines_of bs))

-- the byte at the front of the first line, if there is one
abbrev pub onto_whole : ℕ → List (List ℕ) → List (List ℕ)
onto_whole b [] = []
onto_whole b (line ∷ lines) = (b ∷ line) ∷ lines

-- the lines of some bytes that end with a line feed
abbrev pub whole_lines : List ℕ → List (List ℕ)
whole_lines [] = []
whole_lines (b ∷ bs) = cond (b == 10) ([] ∷ whole_lines bs) (onto_whole b (whole_lines bs))

-- the bytes before the first line feed, or all of them
abbrev pub first_line : List ℕ → List ℕ
first_line [] = []
first_line (b ∷ bs) = cond (b == 10) [] (b ∷ first_line bs)

-- the bytes after the first line feed, or none
abbrev pub after_line : List ℕ → List ℕ
after_line [] = []
after_line (b ∷ bs) = cond (b == 10) bs (after_line bs)

-- some byte is a line feed
abbrev pub has_feed : List ℕ → Bool
has_feed bytes = list_any (λ b. b == 10) bytes

-- the first line feed stands at this place
pub record IsFirstFeed (bytes : List ℕ) (at : ℕ) : Type 0 where
  pub within : at < length bytes
  pub feed : slice_index bytes at ≡ 10
  pub free : has_feed (take at bytes) ≡ false

-- what is still to be read, where the source tells it: the bytes that were taken ahead, and those that it has left
abbrev pub to_read : List ℕ → Option (List ℕ) → Option (List ℕ)
to_read ahead left = prepend_known ahead left

-- R holds of the bytes before and after, where they are told
abbrev pub Between : Option (List ℕ) → Option (List ℕ) → (List ℕ → List ℕ → Type 0) → Type 0
Between None new R = Unit {0}
Between (Some xs) None R = ⊥
Between (Some xs) (Some ys) R = R xs ys

-- the first line of xs is read, and ys is what follows it
pub record ReadsLine (line xs ys : List ℕ) : Type 0 where
  pub some : 0 < length xs
  pub first : line ≡ first_line xs
  pub rest : ys ≡ after_line xs
  pub lines : lines_of xs ≡ line ∷ lines_of ys

-- the line stands at the front of xs with its line feed, and ys is what follows that
pub record EndsInFeed (line xs ys : List ℕ) : Type 0 where
  pub parts : xs ≡ line ++ 10 ∷ ys
  pub free : has_feed line ≡ false

-- the first line of xs is longer than the limit
pub record IsLong (limit : ℕ) (xs : List ℕ) : Type 0 where
  pub long : limit < length (first_line xs)
  pub lines : lines_of xs ≡ first_line xs ∷ lines_of (after_line xs)
