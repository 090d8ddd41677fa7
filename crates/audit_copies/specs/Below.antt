-- Where a list of versions in order is split.
use Rattle.std.specs.Prelude.{◌≡◌, ℕ, ◌==◌, ◌<◌, ◌≤◌, Bool, true, false, not, ◌&&◌, ◌||◌, nat_lt, List, length}
use Rattle.std.specs.List.{slice_index_or}
use Rattle.locus_ids.specs.declared.ids.FileId.{FileId}
use Rattle.commit_graph.specs.Versions.{same_file, same_stamp}
use Rattle.past_laws.specs.of_promises.Past.{Copy}
use Rattle.past_laws.specs.of_promises.After.{is_copy_below}

-- files are ordered by group and inode
abbrev pub is_file_below : FileId → FileId → Bool
is_file_below a b = nat_lt a.group b.group || ((a.group == b.group) && nat_lt a.ino b.ino)

-- the row is this version
abbrev pub is_version_of : Copy → Copy → Bool
is_version_of v w = same_file w.file v.file && same_stamp w.stamp v.stamp

-- the first so many pass, and no other does
pub record IsSplit (p : Copy → Bool) (xs : List Copy) (k : ℕ) : Type 0 where
  pub within : k ≤ length xs
  pub first : (i : ℕ) (d : Copy) → i < k → p (slice_index_or xs i d) ≡ true
  pub other : (i : ℕ) (d : Copy) → k ≤ i → i < length xs → p (slice_index_or xs i d) ≡ false

-- where a version would come, one stands that isn't above it
abbrev pub stands_at : List Copy → ℕ → Copy → Bool
stands_at xs k v = nat_lt k (length xs) && not (is_copy_below v (slice_index_or xs k v))
