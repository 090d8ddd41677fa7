-- The entries of a directory, their order, and which lists of entries are a directory.
use Rattle.std.specs.Prelude.{◌≡◌, ℕ, ◌≤◌, ◌<◌, ◌^◌, ◌%◌, ◌==◌, Bool, true, ◌&&◌, List, [], ◌∷◌, length, replicate, Option}
use Rattle.std.specs.List.{AllByRecursion, find}
use Rattle.std.specs.Str.{bytes_eq}
use Rattle.std.specs.Ordering.{nat_cmp, ordering_then}
use Rattle.std.specs.Cmp.Lexicographic.{slice_cmp}
use Rattle.std.specs.declared.cmp.Ordering.{Ordering}
use Rattle.std.specs.declared.cmp.Ordering.TheVariants.{Less, Equal, Greater}
use Rattle.field_codec.specs.of_locus_ids.Sizes.{sites_max, inodes_max}
use Rattle.field_codec.specs.of_locus_ids.declared.ids.Kind.{Kind}
use Rattle.trace_book.specs.Names.{is_name}
use Rattle.dir_format.specs.declared.entry.Entry.{Entry}

-- an entry is live where its count is odd, and where it is even it stands as removed
abbrev pub is_live : Entry → Bool
is_live d = (d.count % 2) == 1

-- the vector of a file of which nothing was seen
abbrev pub nothing_seen : List ℕ
nothing_seen = replicate sites_max 0

-- the greatest count
abbrev pub max_count : ℕ
max_count = 4294967295

-- entries are ordered by the bytes of the name, a proper prefix first, then by inode
abbrev pub entry_cmp : Entry → Entry → Ordering
entry_cmp a b = ordering_then (slice_cmp nat_cmp a.name b.name) (nat_cmp a.ino b.ino)

-- the entry has this name and this inode
abbrev pub is_pair : List ℕ → ℕ → Entry → Bool
is_pair name ino d = bytes_eq d.name name && (d.ino == ino)

-- the entry of a pair of name and inode, live or not
abbrev pub pair_in : List ℕ → ℕ → List Entry → Option Entry
pair_in name ino ds = find (is_pair name ino) ds

-- the entry stands for its pair of name and inode, at its place in the order, and all others stay
abbrev pub placed : Ordering → Entry → Entry → List Entry → List Entry → List Entry
placed Less d e es with_es = d ∷ e ∷ es
placed Equal d e es with_es = d ∷ es
placed Greater d e es with_es = e ∷ with_es

abbrev pub with_entry : Entry → List Entry → List Entry
with_entry d [] = d ∷ []
with_entry d (e ∷ es) = placed (entry_cmp d e) d e es (with_entry d es)

-- sixteen counters of four bytes each
pub record IsVector (v : List ℕ) : Type 0 where
  pub sites : length v ≡ sites_max
  pub counters : AllByRecursion (λ n. n < 2 ^ 32) v

-- what can stand in a directory
pub record IsEntry (d : Entry) : Type 0 where
  pub name : is_name d.name ≡ true
  pub ino : (1 ≤ d.ino) × (d.ino ≤ inodes_max)
  pub count : (1 ≤ d.count) × (d.count < 2 ^ 32)
  pub seen : IsVector d.seen
  pub live : is_live d ≡ true → d.seen ≡ nothing_seen

-- each entry stands before all that follow it
abbrev pub Ascends : List Entry → Type 0
Ascends [] = Unit {0}
Ascends (d ∷ ds) = AllByRecursion (λ e. entry_cmp d e ≡ Less) ds × Ascends ds

-- entries of one inode have one kind
abbrev pub OneKind : List Entry → Type 0
OneKind [] = Unit {0}
OneKind (d ∷ ds) = AllByRecursion (λ e. e.ino ≡ d.ino → e.kind ≡ d.kind) ds × OneKind ds

-- the entries are those of a directory
pub record IsDir (ds : List Entry) : Type 0 where
  pub entries : AllByRecursion IsEntry ds
  pub order : Ascends ds
  pub kinds : OneKind ds

-- each entry of the inode has this kind
abbrev pub HasKind : ℕ → Kind → List Entry → Type 0
HasKind ino kind ds = AllByRecursion (λ e. e.ino ≡ ino → e.kind ≡ kind) ds

-- the entry has the kind of each entry of its inode
abbrev pub HasKindOf : Entry → List Entry → Type 0
HasKindOf d ds = HasKind d.ino d.kind ds
