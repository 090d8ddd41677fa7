-- A directory as bytes: which bytes are those of which entries, and where bytes are no directory's.
use Rattle.std.specs.Prelude.{◌≡◌, ℕ, zero, suc, ◌≤◌, ◌==◌, Bool, true, false, not, ◌&&◌, ◌||◌, ◌%◌, nat_lt, List, [], ◌∷◌, ◌++◌, length, Result, Ok, if◌then◌else◌, cond}
use Rattle.std.specs.Int.{to_be_bytes, w16, w32}
use Rattle.std.specs.List.{flat_map, list_all}
use Rattle.std.specs.Ordering.{nat_cmp, is_lt}
use Rattle.std.specs.Cmp.Lexicographic.{slice_cmp}
use Rattle.std.specs.Str.{bytes_eq}
use Rattle.field_codec.specs.of_locus_ids.Sizes.{sites_max, inodes_max}
use Rattle.field_codec.specs.of_locus_ids.declared.ids.Kind.{Kind}
use Rattle.field_codec.specs.of_locus_ids.declared.ids.Kind.TheVariants.{File, Dir}
use Rattle.field_codec.specs.declared.faults.FieldFault.{FieldFault}
use Rattle.field_codec.specs.Codec.{Codec, Unread, Read, ◌>>=◌, AreBytes, slice, u8_in, u16_in, u32, u32_in, within, followed_by, made}
use Rattle.field_codec.specs.Lists.{list}
use Rattle.trace_book.specs.Names.{is_name}
use Rattle.dir_format.specs.declared.entry.Entry.{Entry}
use Rattle.dir_format.specs.Entries.{is_live, nothing_seen, IsDir}

abbrev pub kind_byte : Kind → ℕ
kind_byte File = 1
kind_byte Dir = 2

abbrev pub kind_of : ℕ → Kind
kind_of n = cond (n == 1) File Dir

-- the counters of site 1 to site 16, the greater bytes first
abbrev pub vector_bytes : List ℕ → List ℕ
vector_bytes v = flat_map (to_be_bytes w32) v

-- what follows a count: of a removed entry the vector that its removal saw, of a live one nothing
abbrev pub seen_bytes : Bool → List ℕ → List ℕ
seen_bytes true seen = []
seen_bytes false seen = vector_bytes seen

-- the length of the name, the name, inode, kind and count, and where the entry is removed the vector that its removal saw
abbrev pub entry_bytes : Entry → List ℕ
entry_bytes d = (length d.name ∷ d.name) ++ (to_be_bytes w16 d.ino ++ (kind_byte d.kind ∷ [] ++ (to_be_bytes w32 d.count ++ seen_bytes (is_live d) d.seen)))

-- the entries in their order, with nothing between and nothing after
abbrev pub dir_bytes : List Entry → List ℕ
dir_bytes ds = flat_map entry_bytes ds

-- the bytes are the content of a directory of these entries
pub record IsDirectory (bytes : List ℕ) (ds : List Entry) : Type 0 where
  pub spelled : bytes ≡ dir_bytes ds
  pub fits : IsDir ds

-- How bytes are read, field by field from the left, each field in the range that those before it leave. The entries before
-- stand last one first.

-- a length of 1 to 60 and so many bytes
abbrev pub sized : Codec (List ℕ)
sized = record {
  Fits = λ bytes. ((1 ≤ length bytes) × (length bytes ≤ 60)) × AreBytes bytes;
  spell = λ bytes. length bytes ∷ bytes;
  read = λ u. (u8_in 1 60).read u >>= λ n. (slice n.0).read n.1;
}

abbrev pub kind_field : Codec Kind
kind_field = record {
  Fits = λ _. Unit {0};
  spell = λ k. kind_byte k ∷ [];
  read = λ u. (u8_in 1 2).read u >>= λ n. Ok (kind_of n.0, n.1);
}

-- a value that is known, and has no bytes
abbrev pub given : {A : Type 0} → A → Codec A
given x = record { Fits = λ y. y ≡ x; spell = λ _. []; read = λ u. Ok (x, u) }

abbrev pub vector : Codec (List ℕ)
vector = list (given sites_max) u32

abbrev pub seen_field : Bool → Codec (List ℕ)
seen_field true = given nothing_seen
seen_field false = vector

-- a name of the grammar that isn't before the last one
abbrev pub name_follows : List Entry → List ℕ → Bool
name_follows [] name = is_name name
name_follows (last ∷ before) name = is_name name && not (is_lt (slice_cmp nat_cmp name last.name))

-- under the same name a greater inode
abbrev pub ino_follows : List Entry → List ℕ → ℕ → Bool
ino_follows [] name ino = true
ino_follows (last ∷ before) name ino = not (bytes_eq name last.name) || nat_lt last.ino ino

-- the kind of each entry before of that inode
abbrev pub kind_follows : List Entry → ℕ → Kind → Bool
kind_follows before ino kind = list_all (λ e. not (e.ino == ino) || (kind_byte e.kind == kind_byte kind)) before

abbrev pub Parts : Type 0
Parts = List ℕ × (ℕ × (Kind × (ℕ × List ℕ)))

abbrev pub entry_of : Parts → Entry
entry_of p = record { name = p.0; ino = p.1.0; kind = p.1.1.0; count = p.1.1.1.0; seen = p.1.1.1.1 }

abbrev pub parts_of : Entry → Parts
parts_of d = (d.name, (d.ino, (d.kind, (d.count, d.seen))))

-- an entry that follows those before
abbrev pub entry_after : List Entry → Codec Entry
entry_after before =
    made entry_of parts_of
    (followed_by (within (name_follows before) sized) (λ name.
    followed_by (within (ino_follows before name) (u16_in 1 inodes_max)) (λ ino.
    followed_by (within (kind_follows before ino) kind_field) (λ _.
    followed_by (u32_in 1 4294967295) (λ count. seen_field ((count % 2) == 1))))))

-- entries up to the end of the bytes, at most so many
unfoldable pub read_entries : ℕ → List Entry → Unread → Read (List Entry)
read_entries zero before u = Ok ([], u)
read_entries (suc most) before u =
    if length u.bytes == 0 then Ok ([], u)
    else ((entry_after before).read u >>= λ d. read_entries most (d.0 ∷ before) d.1 >>= λ ds. Ok (d.0 ∷ ds.0, ds.1))

-- the entries that were read, without what is left
abbrev pub entries_alone : Read (List Entry) → Result (List Entry) FieldFault
entries_alone read = read >>= λ ds. Ok ds.0

-- the entries of a directory's content, or the first field from the left that is short or out of range
abbrev pub read_dir : List ℕ → Result (List Entry) FieldFault
read_dir bytes = entries_alone (read_entries (length bytes) [] (record { at = 0; bytes = bytes }))
