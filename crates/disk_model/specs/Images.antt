-- What a crash may leave of the bytes of a disk.
use Rattle.std.specs.Prelude.{ℕ, ◌+◌, ◌≡◌, ◌&&◌, ◌||◌, Bool, false, nat_le, nat_lt, List, [], ◌∷◌, ◌++◌, length, take, drop, slice_index}
use Rattle.disk_model.specs.declared.store.Span.{Span}

-- old with these bytes at this place
abbrev pub overwritten : List ℕ → ℕ → List ℕ → List ℕ
overwritten old at bytes = take at old ++ (bytes ++ drop (at + length bytes) old)

-- the n bytes from a place on
abbrev pub bytes_at : List ℕ → ℕ → ℕ → List ℕ
bytes_at disk at n = take n (drop at disk)

-- place k is one of the n from a place on
abbrev pub is_within : ℕ → ℕ → ℕ → Bool
is_within at n k = nat_le at k && nat_lt k (at + n)

-- new is old, but with any bytes in the n places from a place on
pub record Torn (at n : ℕ) (old new : List ℕ) : Type 0 where
  pub long : length new ≡ length old
  pub outside : (k : ℕ) → is_within at n k ≡ false → slice_index new k ≡ slice_index old k

-- nothing has changed
abbrev pub Same : List ℕ → List ℕ → Type 0
Same old new = new ≡ old

-- place k is in one of these ranges
abbrev pub covers : List Span → ℕ → Bool
covers [] k = false
covers (span ∷ spans) k = is_within span.at span.len k || covers spans k

-- a crash may leave any bytes in these ranges, and else what a read gives
pub record IsImage (unsynced : List Span) (seen image : List ℕ) : Type 0 where
  pub long : length image ≡ length seen
  pub outside : (k : ℕ) → covers unsynced k ≡ false → slice_index image k ≡ slice_index seen k
