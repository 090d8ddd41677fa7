-- The kinds of inodes as a table.
use Rattle.std.specs.Prelude.{◌≡◌, ℕ, zero, suc, ◌==◌, Bool, true, List, slice_index}
use Rattle.locus_ids.specs.declared.ids.Kind.{Kind}
use Rattle.dir_format.specs.declared.entry.Entry.{Entry}
use Rattle.dir_format.specs.Grammar.{kind_byte, kind_follows}

-- whether an entry of an inode may have this kind, where the table has this byte for the inode: 0 where none was seen
abbrev pub table_allows : ℕ → Kind → Bool
table_allows zero kind = true
table_allows (suc n) kind = suc n == kind_byte kind

-- the table tells of each inode which kinds may follow
pub record KnowsKinds (table : List ℕ) (before : List Entry) : Type 0 where
  pub each : (ino : ℕ) (kind : Kind) → kind_follows before ino kind ≡ table_allows (slice_index table ino) kind
