-- The parts that packets are made of, as bytes: sites, boots, epochs, files, stamps, vectors, names.
use Rattle.std.specs.Prelude.{ℕ, ◌-◌, ◌==◌, Bool, ◌&&◌, ◌||◌, cond, List, [], ◌∷◌, Option, None, Some, nat_lt, slice_index, replicate}
use Rattle.std.specs.List.{list_all}
use Rattle.field_codec.specs.of_locus_ids.Sizes.{sites_max, inodes_max, file_bytes_max, set_span}
use Rattle.field_codec.specs.of_locus_ids.declared.ids.Kind.{Kind}
use Rattle.field_codec.specs.of_locus_ids.declared.ids.Kind.TheVariants.{File, Dir}
use Rattle.field_codec.specs.of_locus_ids.declared.ids.Stamp.{Stamp}
use Rattle.field_codec.specs.of_locus_ids.declared.ids.FileId.{FileId}
use Rattle.field_codec.specs.of_locus_ids.declared.ids.EpochId.{EpochId}
use Rattle.field_codec.specs.of_locus_ids.declared.ids.Serial.{Serial}
use Rattle.field_codec.specs.of_locus_ids.declared.sites.Sites.{Sites}
use Rattle.field_codec.specs.Codec.{Codec, u8, u16, u32, u8_in, u16_in, u32_in, pair, followed_by, made, within, empty}
use Rattle.field_codec.specs.Sums.{variant, kind, no_kind, tagged}
use Rattle.field_codec.specs.Lists.{counted}
use Rattle.field_codec.specs.Shapes.{counted_bytes, repeated, only}
use Rattle.trace_book.specs.Names.{is_name}
use Rattle.wire_fields.specs.Components.{is_component}

abbrev pub sites : Codec ℕ
sites = u8_in 1 sites_max

-- a number of four bytes that is not 0: of a boot, an epoch, an instance
abbrev pub numbers : Codec ℕ
numbers = u32_in 1 4294967295

-- 0 is the system
abbrev pub processes : Codec ℕ
processes = u8_in 0 8

abbrev pub inodes : Codec ℕ
inodes = u16_in 1 inodes_max

-- of a content, in bytes
abbrev pub sizes : Codec ℕ
sizes = u32_in 0 file_bytes_max

abbrev pub epochs : Codec EpochId
epochs = made (λ p. record { number = p.0; site = p.1.0; boot = p.1.1 }) (λ e. (e.number, (e.site, e.boot))) (pair numbers (pair sites numbers))

abbrev pub instances : Codec Serial
instances = made (λ p. record { us = p.0; serial = p.1 }) (λ s. (s.us, s.serial)) (pair sites numbers)

abbrev pub files : Codec FileId
files = made (λ p. record { group = p.0; ino = p.1 }) (λ f. (f.group, f.ino)) (pair u8 inodes)

-- a file, or, with inode 0, one that is still to be made
abbrev pub files_or_new : Codec FileId
files_or_new = made (λ p. record { group = p.0; ino = p.1 }) (λ f. (f.group, f.ino)) (pair u8 (u16_in 0 inodes_max))

abbrev pub any_set : Codec Sites
any_set = made (λ n. record { 0 = n }) (λ s. s.0) u16

abbrev pub some_set : Codec Sites
some_set = made (λ n. record { 0 = n }) (λ s. s.0) (u16_in 1 (set_span - 1))

abbrev pub kind_number : Kind → ℕ
kind_number File = 1
kind_number Dir = 2

abbrev pub kinds : Codec Kind
kinds = tagged kind_number (kind 1 (variant (λ _. File) (λ _. tt) empty) (kind 2 (variant (λ _. Dir) (λ _. tt) empty) no_kind))

-- the least site that a stamp after this one may have
abbrev pub site_after : Option Stamp → ℕ
site_after None = 0
site_after (Some s) = s.site

-- a stamp is 0.0, or both its site and its number are above 0
abbrev pub is_stamp : ℕ → ℕ → Bool
is_stamp site n = cond (site == 0) (n == 0) (nat_lt 0 n)

-- the site, which is not below that of the last stamp, makes with this number a stamp after it
abbrev pub is_after : Option Stamp → ℕ → ℕ → Bool
is_after None site n = is_stamp site n
is_after (Some last) site n = is_stamp site n && (nat_lt last.site site || nat_lt last.n n)

abbrev pub stamp_of : ℕ × ℕ → Stamp
stamp_of p = record { site = p.0; n = p.1 }

abbrev pub parts_of : Stamp → ℕ × ℕ
parts_of t = (t.site, t.n)

-- a stamp after the last one: out of range at its site where that is less, else at its number
abbrev pub stamps_after : Option Stamp → Codec Stamp
stamps_after last = made stamp_of parts_of (followed_by (u8_in (site_after last) sites_max) (λ site. within (is_after last site) u32))

abbrev pub stamps : Codec Stamp
stamps = stamps_after None

-- a count, and so many stamps that ascend
abbrev pub ascending_stamps : Codec (List Stamp)
ascending_stamps = counted stamps_after (λ _ stamp. Some stamp) u8 None

-- a counter for each of the 16 sites
abbrev pub vectors : Codec (List ℕ)
vectors = repeated sites_max u32

-- the counter of the stamp's site is its number; for 0.0 all are 0
abbrev pub agrees : Stamp → List ℕ → Bool
agrees stamp v = cond (stamp.site == 0) (list_all (λ n. n == 0) v) (slice_index v (stamp.site - 1) == stamp.n)

-- a vector that doesn't agree with the stamp is out of range at its start
abbrev pub vectors_of : Stamp → Codec (List ℕ)
vectors_of stamp = within (agrees stamp) vectors

-- no vector stands there, since it is zero
abbrev pub no_vector : Codec (List ℕ)
no_vector = only (replicate sites_max 0)

-- a length and so many bytes, which are out of range at the length where they are not of the grammar
abbrev pub names : Codec (List ℕ)
names = within is_name (counted_bytes (u8_in 1 60))

abbrev pub components : Codec (List ℕ)
components = within is_component (counted_bytes (u8_in 1 65))
