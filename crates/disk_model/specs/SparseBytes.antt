-- The bytes of a disk whose chunks are kept up to the last byte that was written.
use Rattle.std.specs.Prelude.{ℕ, zero, suc, ◌/◌, ◌%◌, List, [], ◌∷◌, slice_index, slice_index_or}

-- the byte at a place: a chunk has 1,048,576, and those behind its list are zeros
abbrev pub byte_at : List (List ℕ) → ℕ → ℕ
byte_at chunks k = slice_index (slice_index_or chunks (k / 1048576) []) (k % 1048576)

-- so many bytes from a place on
abbrev pub bytes_of : List (List ℕ) → ℕ → ℕ → List ℕ
bytes_of chunks k zero = []
bytes_of chunks k (suc n) = byte_at chunks k ∷ bytes_of chunks (suc k) n
