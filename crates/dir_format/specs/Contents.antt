-- The entries of a directory's content, computed.
use Rattle.std.specs.Prelude.{ℕ, zero, suc, ◌+◌, ◌%◌, ◌==◌, Bool, true, false, not, ◌&&◌, ◌||◌, cond, nat_le, List, [], ◌∷◌, length, take, drop, slice_index, ◌*◌}
use Rattle.std.specs.Int.{from_be_bytes, w16, w32}
use Rattle.std.specs.List.{list_all}
use Rattle.std.specs.Ordering.{is_lt}
use Rattle.std.specs.Str.{bytes_eq}
use Rattle.field_codec.specs.of_locus_ids.Sizes.{sites_max, inodes_max}
use Rattle.trace_book.specs.Names.{is_name}
use Rattle.dir_format.specs.declared.entry.Entry.{Entry}
use Rattle.dir_format.specs.Entries.{is_live, nothing_seen, max_count, entry_cmp}
use Rattle.dir_format.specs.Grammar.{kind_byte, kind_of, dir_bytes}

-- so many counters from the front, where each that is lacking is 0
abbrev pub counters : ℕ → List ℕ → List ℕ
counters zero bytes = []
counters (suc n) bytes = from_be_bytes w32 (take 4 bytes) ∷ counters n (drop 4 bytes)

-- the vector that stands after the count of a removed entry
abbrev pub seen_at : Bool → List ℕ → List ℕ
seen_at true bytes = nothing_seen
seen_at false bytes = counters sites_max bytes

abbrev pub count_at : ℕ → List ℕ → ℕ
count_at n bytes = from_be_bytes w32 (take 4 (drop (n + 3) bytes))

abbrev pub is_odd : ℕ → Bool
is_odd n = (n % 2) == 1

-- the entry whose name has n bytes, at the front of what follows its length
abbrev pub entry_at : ℕ → List ℕ → Entry
entry_at n bytes = record {
  name = take n bytes;
  ino = from_be_bytes w16 (take 2 (drop n bytes));
  kind = kind_of (slice_index bytes (n + 2));
  count = count_at n bytes;
  seen = seen_at (is_odd (count_at n bytes)) (drop (n + 7) bytes);
}

-- the bytes of that entry after its length
abbrev pub width_at : ℕ → List ℕ → ℕ
width_at n bytes = n + (7 + cond (is_odd (count_at n bytes)) 0 (4 * sites_max))

-- at most so many entries of any bytes
abbrev pub entries_from : ℕ → List ℕ → List Entry
entries_from zero bytes = []
entries_from (suc most) [] = []
entries_from (suc most) (n ∷ bytes) = entry_at n bytes ∷ entries_from most (drop (width_at n bytes) bytes)

-- the entry can stand in a directory
abbrev pub is_entry : Entry → Bool
is_entry d =
    is_name d.name
    && ((nat_le 1 d.ino && nat_le d.ino inodes_max)
    && ((nat_le 1 d.count && nat_le d.count max_count)
    && (((length d.seen == sites_max) && list_all (λ n. nat_le n max_count) d.seen)
    && (not (is_live d) || bytes_eq d.seen nothing_seen))))

-- each entry stands before all that follow it
abbrev pub ascends : List Entry → Bool
ascends [] = true
ascends (d ∷ ds) = list_all (λ e. is_lt (entry_cmp d e)) ds && ascends ds

-- entries of one inode have one kind
abbrev pub has_one_kind : List Entry → Bool
has_one_kind [] = true
has_one_kind (d ∷ ds) = list_all (λ e. not (e.ino == d.ino) || (kind_byte e.kind == kind_byte d.kind)) ds && has_one_kind ds

abbrev pub is_dir : List Entry → Bool
is_dir ds = list_all is_entry ds && (ascends ds && has_one_kind ds)

-- the entries where the bytes are the content of a directory of them, else none
abbrev pub entries_where : List ℕ → List Entry → List Entry
entries_where bytes ds = cond (bytes_eq (dir_bytes ds) bytes && is_dir ds) ds []

-- the entries of a content that is a directory's, and none of any other
abbrev pub entries_of : List ℕ → List Entry
entries_of bytes = entries_where bytes (entries_from (length bytes) bytes)
