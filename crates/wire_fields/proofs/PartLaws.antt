-- The laws of the parts, from those of their fields.
use Rattle.std.proofs.Common.{◌≡◌, ℕ, List, Option, None, Some, replicate, refl}
use Rattle.field_codec.specs.of_locus_ids.Sizes.{sites_max, inodes_max, file_bytes_max}
use Rattle.field_codec.specs.of_locus_ids.declared.ids.Kind.{Kind}
use Rattle.field_codec.specs.of_locus_ids.declared.ids.Kind.TheVariants.{File, Dir}
use Rattle.field_codec.specs.of_locus_ids.declared.ids.Stamp.{Stamp}
use Rattle.field_codec.specs.Codec.{u8, u16, u32, u8_in, u16_in, u32_in, from_to, within}
use Rattle.field_codec.specs.Shapes.{counted_bytes}
use Rattle.field_codec.proofs.Laws.{Lawful, u8_laws, u16_laws, u32_laws, within_laws, pair_laws, followed_by_laws, made_laws, empty_laws}
use Rattle.field_codec.proofs.Sums.{kind_laws, no_kind_laws, tagged_laws}
use Rattle.field_codec.proofs.Lists.{counted_laws}
use Rattle.field_codec.proofs.Shapes.{counted_bytes_laws, repeated_laws, only_laws}
use Rattle.trace_book.specs.Names.{is_name}
use Rattle.wire_fields.specs.Components.{is_component}
use Rattle.wire_fields.specs.Parts.{sites, numbers, processes, inodes, sizes, epochs, instances, files, files_or_new, any_set, some_set, kind_number, kinds, site_after, is_after, stamp_of, parts_of, stamps_after, stamps, ascending_stamps, vectors, agrees, vectors_of, no_vector, names, components}

pub u8_in_laws : (lo hi : ℕ) → Lawful (u8_in lo hi)
u8_in_laws lo hi = within_laws (from_to lo hi) u8 u8_laws

pub u16_in_laws : (lo hi : ℕ) → Lawful (u16_in lo hi)
u16_in_laws lo hi = within_laws (from_to lo hi) u16 u16_laws

pub u32_in_laws : (lo hi : ℕ) → Lawful (u32_in lo hi)
u32_in_laws lo hi = within_laws (from_to lo hi) u32 u32_laws

pub sites_laws : Lawful sites
sites_laws = u8_in_laws 1 sites_max

pub numbers_laws : Lawful numbers
numbers_laws = u32_in_laws 1 4294967295

pub processes_laws : Lawful processes
processes_laws = u8_in_laws 0 8

pub inodes_laws : Lawful inodes
inodes_laws = u16_in_laws 1 inodes_max

pub sizes_laws : Lawful sizes
sizes_laws = u32_in_laws 0 file_bytes_max

pub epochs_laws : Lawful epochs
epochs_laws = made_laws _ _ (λ _. refl) (λ _. refl) (pair_laws numbers_laws (pair_laws sites_laws numbers_laws))

pub instances_laws : Lawful instances
instances_laws = made_laws _ _ (λ _. refl) (λ _. refl) (pair_laws sites_laws numbers_laws)

pub files_laws : Lawful files
files_laws = made_laws _ _ (λ _. refl) (λ _. refl) (pair_laws u8_laws inodes_laws)

pub files_or_new_laws : Lawful files_or_new
files_or_new_laws = made_laws _ _ (λ _. refl) (λ _. refl) (pair_laws u8_laws (u16_in_laws 0 inodes_max))

pub any_set_laws : Lawful any_set
any_set_laws = made_laws _ _ (λ _. refl) (λ _. refl) u16_laws

pub some_set_laws : Lawful some_set
some_set_laws = made_laws _ _ (λ _. refl) (λ _. refl) (u16_in_laws 1 65535)

pub kinds_laws : Lawful kinds
kinds_laws = tagged_laws (kind_laws 1 (λ _. File) (λ _. tt) (λ _. refl) (λ _. refl) empty_laws (kind_laws 2 (λ _. Dir) (λ _. tt) (λ _. refl) (λ _. refl) empty_laws (no_kind_laws kind_number)))

pub stamps_after_laws : (last : Option Stamp) → Lawful (stamps_after last)
stamps_after_laws last = made_laws stamp_of parts_of (λ _. refl) (λ _. refl)
    (followed_by_laws (u8_in (site_after last) sites_max) (λ site. within (is_after last site) u32) (u8_in_laws (site_after last) sites_max) (λ site. within_laws (is_after last site) u32 u32_laws))

pub stamps_laws : Lawful stamps
stamps_laws = stamps_after_laws None

pub ascending_stamps_laws : Lawful ascending_stamps
ascending_stamps_laws = counted_laws stamps_after (λ _ stamp. Some stamp) stamps_after_laws u8 u8_laws None

pub vectors_laws : Lawful vectors
vectors_laws = repeated_laws sites_max u32_laws

pub vectors_of_laws : (stamp : Stamp) → Lawful (vectors_of stamp)
vectors_of_laws stamp = within_laws (agrees stamp) vectors vectors_laws

pub no_vector_laws : Lawful no_vector
no_vector_laws = only_laws (replicate sites_max 0)

pub names_laws : Lawful names
names_laws = within_laws is_name (counted_bytes (u8_in 1 60)) (counted_bytes_laws (u8_in_laws 1 60))

pub components_laws : Lawful components
components_laws = within_laws is_component (counted_bytes (u8_in 1 65)) (counted_bytes_laws (u8_in_laws 1 65))
