-- What a reader of lines shows.
use Rattle.std.specs.Prelude.{ℕ, ◌≡◌, Bool, cond, List, [], Some, None}
use Rattle.std.specs.declared.option.Option.{Option}
use Rattle.std.specs.Io.KnownBytes.{Keeps}
use Rattle.line_reader.specs.Reading.{to_read, Between}

-- at least so many bytes are asked of a source at once
abbrev pub block_bytes : ℕ
block_bytes = 65536

-- a reader: the bytes taken ahead of the lines, the line handed out last, how many lines it has read, how long one may be, and
-- whether it has seen the end of its source, which it then asks no more
pub record Reader : Type 0 where
  pub ahead : List ℕ
  pub line : List ℕ
  pub number : ℕ
  pub limit : ℕ
  pub ended : Bool

-- nothing, where it is told
abbrev pub nothing_of : Option (List ℕ) → Option (List ℕ)
nothing_of None = None
nothing_of (Some left) = Some []

-- what the reader may still take from a source that has this left: nothing where it has seen its end
abbrev pub left_for : Reader → Option (List ℕ) → Option (List ℕ)
left_for r left = cond r.ended (nothing_of left) left

-- what the reader is still to read, from a source that has this left
abbrev pub still_read : Reader → Option (List ℕ) → Option (List ℕ)
still_read r left = to_read r.ahead (left_for r left)

-- no line was read and nothing is lost: all that was to be read still is
pub record Stays (old new : Reader) (before after : Option (List ℕ)) : Type 0 where
  pub bytes : Keeps (still_read old before) (still_read new after)
  pub number : new.number ≡ old.number
  pub line : new.line ≡ []

-- R holds of what is to be read before and after, where the source tells it
abbrev pub IfTold : Reader → Reader → Option (List ℕ) → Option (List ℕ) → (List ℕ → List ℕ → Type 0) → Type 0
IfTold old new before after R = Between (still_read old before) (still_read new after) R
