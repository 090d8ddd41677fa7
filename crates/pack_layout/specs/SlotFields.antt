-- What the bytes of a slot say: each field by its name, read at its place.
use Rattle.std.specs.Prelude.{ℕ, zero, suc, ◌+◌, ◌*◌, ◌==◌, cond, List, [], ◌∷◌, drop, slice_index}
use Rattle.locus_ids.specs.Sizes.{sites_max}
use Rattle.locus_ids.specs.declared.ids.Kind.{Kind}
use Rattle.locus_ids.specs.declared.ids.Kind.TheVariants.{File, Dir}
use Rattle.locus_ids.specs.declared.ids.Stamp.{Stamp}
use Rattle.locus_ids.specs.declared.sites.Sites.{Sites}
use Rattle.pack_layout.specs.declared.slot.Slot.{Slot}
use Rattle.pack_layout.specs.Layout.{layout, kind_number}

-- a number of two bytes, and one of four; the greater bytes come first
abbrev pub number : List ℕ → ℕ → ℕ
number bytes at = slice_index bytes at * 256 + slice_index bytes (at + 1)

abbrev pub long_number : List ℕ → ℕ → ℕ
long_number bytes at = (number bytes at * 256 + slice_index bytes (at + 2)) * 256 + slice_index bytes (at + 3)

-- so many counters, one behind the other
abbrev pub counters : ℕ → List ℕ → List ℕ
counters zero bytes = []
counters (suc n) bytes = long_number bytes 0 ∷ counters n (drop layout.counter_length bytes)

abbrev pub kind_of : ℕ → Kind
kind_of n = cond (n == kind_number Dir) Dir File

-- what a slot says of its inode, but for its turn and its numbers of pages and tables
pub record SlotFields : Type 0 where
  pub kind : Kind
  pub ino : ℕ
  pub set : Sites
  pub size : ℕ
  pub stamp : Stamp
  pub vector : List ℕ

unfoldable pub fields_in : List ℕ → SlotFields
fields_in bytes = record {
  kind = kind_of (slice_index bytes layout.kind_at);
  ino = number bytes layout.ino_at;
  set = record { 0 = number bytes layout.set_at };
  size = long_number bytes layout.size_at;
  stamp = record { site = slice_index bytes layout.site_at; n = long_number bytes layout.stamp_number_at };
  vector = counters sites_max (drop layout.vector_at bytes);
}

abbrev pub fields_of : Slot → SlotFields
fields_of s = record { kind = s.kind; ino = s.ino; set = s.set; size = s.size; stamp = s.stamp; vector = s.vector }
