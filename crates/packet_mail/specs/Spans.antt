-- The bytes of packets, each alone, at places in one row of bytes.
use Rattle.std.specs.Prelude.{ℕ, ◌≡◌, ◌≤◌, List, [], ◌∷◌, map, slice_range}
use Rattle.std.specs.List.{AllByRecursion}
use Rattle.packet_mail.specs.declared.letter_row.Span.{Span}

-- the bytes at one place
abbrev pub bytes_at : List ℕ → Span → List ℕ
bytes_at row s = slice_range row s.start s.end

abbrev pub letters_in : List ℕ → List Span → List (List ℕ)
letters_in row places = map (bytes_at row) places

-- the place is one in a row of so many bytes
abbrev pub IsPlace : ℕ → Span → Type 0
IsPlace n s = (s.start ≤ s.end) × (s.end ≤ n)

abbrev pub ArePlaces : ℕ → List Span → Type 0
ArePlaces n places = AllByRecursion (IsPlace n) places

-- the places stand one behind the other, the first from here on, and the last one ends with the row of so many bytes
abbrev pub AreOneRow : ℕ → ℕ → List Span → Type 0
AreOneRow from n [] = from ≡ n
AreOneRow from n (s ∷ ss) = (s.start ≡ from) × ((s.start ≤ s.end) × AreOneRow s.end n ss)
