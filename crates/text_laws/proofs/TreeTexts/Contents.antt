-- The contents of directories are bytes, and what they have entries of is in range.
use Rattle.std.proofs.Common.{◌≡◌, ℕ, zero, suc, ◌/◌, ◌%◌, ◌^◌, ◌==◌, Bool, true, false, cond, not, ◌&&◌, List, [], ◌∷◌, ◌++◌, length, refl, arith, codes}
use Rattle.std.proofs.lemmas.Bool.Decides.{nat_tests}
use Rattle.std.specs.Int.{bytes_high_first, byte_at, to_be_bytes, w16, w32}
use Rattle.std.specs.List.{list_all}
use Rattle.std.specs.Prelude.{nat_le, nat_lt}
use Rattle.std.specs.Str.{bytes_eq}
use Rattle.locus_ids.specs.Sizes.{inodes_max}
use Rattle.locus_ids.specs.declared.ids.Kind.{Kind}
use Rattle.locus_ids.specs.declared.ids.Kind.TheVariants.{File, Dir}
use Rattle.schedule_lines.specs.Ranges.{is_byte}
use Rattle.trace_book.specs.Names.{is_name, is_name_byte}
use Rattle.dir_format.specs.Contents.{entries_from, entries_of, is_dir, is_entry, ascends, has_one_kind}
use Rattle.dir_format.specs.Entries.{is_live}
use Rattle.dir_format.specs.Grammar.{dir_bytes, entry_bytes, kind_byte, seen_bytes, vector_bytes}
use Rattle.dir_format.specs.declared.entry.Entry.{Entry}
use Rattle.record_reading.specs.Ranges.{is_inode}
use Rattle.past_laws.proofs.Alls.{all_joined, all_more, all_first, all_weaker}
use Rattle.past_laws.proofs.Names.{both_parts}

-- ---- bytes ----

abbrev pub are_bytes : List ℕ → Bool
are_bytes bytes = list_all is_byte bytes

low_byte : (m : ℕ) → is_byte (m % 256) ≡ true
low_byte m = grind (arith, nat_tests)

one_byte : (k n : ℕ) → is_byte (byte_at k n) ≡ true
one_byte zero n = low_byte n
one_byte (suc k) n = low_byte (n / 256 ^ suc k)

number_bytes : (k n : ℕ) → are_bytes (bytes_high_first k n) ≡ true
number_bytes zero n = refl
number_bytes (suc k) n = all_more is_byte (byte_at k n) (bytes_high_first k n) (one_byte k n) (number_bytes k n)

vector_are : (v : List ℕ) → are_bytes (vector_bytes v) ≡ true
vector_are [] = refl
vector_are (n ∷ v) = all_joined is_byte (to_be_bytes w32 n) (vector_bytes v) (number_bytes 4 n) (vector_are v)

seen_are : (live : Bool) (seen : List ℕ) → are_bytes (seen_bytes live seen) ≡ true
seen_are true seen = refl
seen_are false seen = vector_are seen

kind_is : (kind : Kind) → is_byte (kind_byte kind) ≡ true
kind_is File = refl
kind_is Dir = refl

-- ---- names ----

last_of_four : (a b x d : Bool) → (a && b && x && d) ≡ true → (b ≡ true)
last_of_four a true x d h = refl
last_of_four true false x d h = absurd (cc)
last_of_four false false x d h = absurd (cc)

name_byte : (c : ℕ) → is_name_byte c ≡ true → is_byte c ≡ true
name_byte c h = low c (last_of_four (nat_le 33 c) (nat_le c 126) (not (c == 47)) (not (c == 64)) h)
  where
    low : (n : ℕ) → nat_le n 126 ≡ true → is_byte n ≡ true
    low n e = grind (arith, nat_tests)

-- a name is bytes, and few
record NameIs (name : List ℕ) : Type 0 where
  short : nat_le (length name) 60 ≡ true
  bytes : list_all is_name_byte name ≡ true

name_is : (name : List ℕ) → is_name name ≡ true → NameIs name
name_is name h =
    let a = both_parts (nat_lt 0 (length name)) (nat_le (length name) 60 && (not (bytes_eq name (codes ".")) && (not (bytes_eq name (codes "..")) && list_all is_name_byte name))) h in
    let b = both_parts (nat_le (length name) 60) (not (bytes_eq name (codes ".")) && (not (bytes_eq name (codes "..")) && list_all is_name_byte name)) a.1 in
    let d = both_parts (not (bytes_eq name (codes "."))) (not (bytes_eq name (codes "..")) && list_all is_name_byte name) b.1 in
    record { short = b.0; bytes = (both_parts (not (bytes_eq name (codes ".."))) (list_all is_name_byte name) d.1).1 }

name_are : (name : List ℕ) → is_name name ≡ true → are_bytes name ≡ true
name_are name h = all_weaker is_name_byte is_byte name_byte name (name_is name h).bytes

length_is : (name : List ℕ) → is_name name ≡ true → is_byte (length name) ≡ true
length_is name h = low (length name) (name_is name h).short
  where
    low : (n : ℕ) → nat_le n 60 ≡ true → is_byte n ≡ true
    low n e = grind (arith, nat_tests)

-- ---- entries ----

abbrev pub has_good_name : Entry → Bool
has_good_name d = is_name d.name

entry_are : (d : Entry) → has_good_name d ≡ true → are_bytes (entry_bytes d) ≡ true
entry_are d h =
    let numbers : are_bytes (to_be_bytes w32 d.count ++ seen_bytes (is_live d) d.seen) ≡ true = all_joined is_byte (to_be_bytes w32 d.count) (seen_bytes (is_live d) d.seen) (number_bytes 4 d.count) (seen_are (is_live d) d.seen) in
    let kinds : are_bytes (kind_byte d.kind ∷ [] ++ (to_be_bytes w32 d.count ++ seen_bytes (is_live d) d.seen)) ≡ true = all_more is_byte (kind_byte d.kind) (to_be_bytes w32 d.count ++ seen_bytes (is_live d) d.seen) (kind_is d.kind) numbers in
    all_joined is_byte (length d.name ∷ d.name) (to_be_bytes w16 d.ino ++ (kind_byte d.kind ∷ [] ++ (to_be_bytes w32 d.count ++ seen_bytes (is_live d) d.seen)))
    (all_more is_byte (length d.name) d.name (length_is d.name h) (name_are d.name h))
    (all_joined is_byte (to_be_bytes w16 d.ino) (kind_byte d.kind ∷ [] ++ (to_be_bytes w32 d.count ++ seen_bytes (is_live d) d.seen)) (number_bytes 2 d.ino) kinds)

pub dir_are : (ds : List Entry) → list_all has_good_name ds ≡ true → are_bytes (dir_bytes ds) ≡ true
dir_are [] h = refl
dir_are (d ∷ ds) h = let parts = all_first has_good_name d ds h in all_joined is_byte (entry_bytes d) (dir_bytes ds) (entry_are d parts.0) (dir_are ds parts.1)

-- what stands in a directory
pub record EntryIs (d : Entry) : Type 0 where
  pub name : is_name d.name ≡ true
  pub ino : is_inode d.ino ≡ true

pub entry_is : (d : Entry) → is_entry d ≡ true → EntryIs d
entry_is d h = let a = both_parts (is_name d.name) _ h in record { name = a.0; ino = (both_parts (nat_le 1 d.ino && nat_le d.ino inodes_max) _ a.1).0 }

pub good_names : (ds : List Entry) → list_all is_entry ds ≡ true → list_all has_good_name ds ≡ true
good_names ds h = all_weaker is_entry has_good_name (λ d k. (entry_is d k).name) ds h

-- a list of entries that is a directory's is bytes
pub is_dir_are : (ds : List Entry) → is_dir ds ≡ true → are_bytes (dir_bytes ds) ≡ true
is_dir_are ds h = dir_are ds (good_names ds (both_parts (list_all is_entry ds) (ascends ds && has_one_kind ds) h).0)

-- the entries of any content may stand in a directory
pub entries_are : (content : List ℕ) → list_all is_entry (entries_of content) ≡ true
entries_are content = over (bytes_eq (dir_bytes ds) content && is_dir ds) refl
  where
    ds : List Entry
    ds = entries_from (length content) content

    over : (b : Bool) → (bytes_eq (dir_bytes ds) content && is_dir ds) ≡ b → list_all is_entry (cond b ds []) ≡ true
    over true e = (both_parts (list_all is_entry ds) (ascends ds && has_one_kind ds) (both_parts (bytes_eq (dir_bytes ds) content) (is_dir ds) e).1).0
    over false e = refl
