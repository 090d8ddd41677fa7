-- Ranges that wait for a sync.
use Rattle.std.specs.Prelude.{ℕ, ◌+◌, ◌≤◌, ◌≡◌, Bool, false, cond, nat_lt, List, [], ◌∷◌, length, take, drop, replicate, slice_index}
use Rattle.std.specs.List.{All}
use Rattle.disk_model.specs.declared.store.Span.{Span}
use Rattle.disk_model.specs.declared.script.Leave.{Leave}
use Rattle.disk_model.specs.declared.script.Leave.TheVariants.{Old, New, Byte}
use Rattle.disk_model.specs.Images.{covers, overwritten}

-- so many ranges may wait for a sync
abbrev pub unsynced_max : ℕ
unsynced_max = 1024

-- the most bytes that are kept of what stood in these ranges
abbrev pub kept_max : ℕ
kept_max = 131072

-- each of these ranges ends within so many bytes
abbrev pub AreInRange : List Span → ℕ → Type 0
AreInRange spans n = All (λ span. span.at + span.len ≤ n) spans

-- outside these ranges the bytes are the same
abbrev pub SameOutside : List Span → List ℕ → List ℕ → Type 0
SameOutside spans a b = (k : ℕ) → covers spans k ≡ false → slice_index a k ≡ slice_index b k

-- the ranges that wait once there is room for a further one
abbrev pub with_room : List Span → List Span
with_room unsynced = cond (nat_lt (length unsynced) unsynced_max) unsynced []

-- what is durable once there is room for a further range
abbrev pub durable_with_room : List Span → List ℕ → List ℕ → List ℕ
durable_with_room unsynced durable seen = cond (nat_lt (length unsynced) unsynced_max) durable seen

-- the bytes of these ranges together
abbrev pub bytes_in : List Span → ℕ
bytes_in [] = 0
bytes_in (span ∷ spans) = span.len + bytes_in spans

-- the bytes with what stood in these ranges before each was written: that of the last one is put back first
abbrev pub put_back : List Span → List ℕ → List ℕ → List ℕ
put_back [] before seen = seen
put_back (span ∷ spans) before seen = overwritten (put_back spans (drop span.len before) seen) span.at (take span.len before)

-- what is durable: it is kept apart, or is what stood in the ranges, put back
abbrev pub durable_of : Bool → List ℕ → List Span → List ℕ → List ℕ → List ℕ
durable_of is_apart durable spans before seen = cond is_apart durable (put_back spans before seen)

-- what a read gives where a stopped write was to write these bytes
abbrev pub left_in : Leave → List ℕ → ℕ → List ℕ → List ℕ
left_in Old seen at bytes = seen
left_in New seen at bytes = overwritten seen at bytes
left_in (Byte byte) seen at bytes = overwritten seen at (replicate (length bytes) byte)
