-- What the content of a file is: a list of bytes.
use Rattle.std.specs.Prelude.{ℕ, ◌+◌, ◌-◌, List, ◌++◌, length, take, drop, replicate}

-- the content with these bytes from the place on; a gap before them is filled with zeros
abbrev pub written : List ℕ → ℕ → List ℕ → List ℕ
written content at bytes = take at (content ++ replicate (at - length content) 0) ++ bytes ++ drop (at + length bytes) content

-- at most so many bytes of the content from the place on
abbrev pub part : List ℕ → ℕ → ℕ → List ℕ
part content at len = take len (drop at content)

-- the first so many bytes of the content, or all where it has no more
abbrev pub cut : List ℕ → ℕ → List ℕ
cut content len = take len content
