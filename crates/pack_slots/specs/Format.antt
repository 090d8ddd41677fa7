-- A pack as a format leaves it.
use Rattle.std.specs.Prelude.{◌≡◌, ℕ, ◌+◌, ◌<◌, ◌≤◌, ◌==◌, List, [], replicate, slice_index, Option, None, Some, if◌then◌else◌}
use Rattle.locus_ids.specs.Sizes.{sites_max, slot_pages, content_tables_max}
use Rattle.disk_model.specs.Images.{bytes_at}
use Rattle.locus_ids.specs.declared.ids.Kind.TheVariants.{Dir}
use Rattle.locus_ids.specs.declared.sites.Sites.{Sites}
use Rattle.pack_layout.specs.declared.slot.Slot.{Slot}
use Rattle.pack_layout.specs.declared.half.Half.TheVariants.{First}
use Rattle.pack_layout.specs.Layout.{layout, slot_bytes, none, tables_at}
use Rattle.pack_slots.specs.declared.inode_copy.InodeCopy.{InodeCopy}
use Rattle.pack_slots.specs.Copies.{IsPackOf}

-- the root directory of a new pack: empty, stored at these sites, of the stamp 0.0
abbrev pub root_slot : Sites → Slot
root_slot set = record { turn = 0; kind = Dir; ino = 1; set = set; size = 0; stamp = record { site = 0; n = 0 }; vector = replicate sites_max 0; pages = replicate slot_pages none; tables = replicate content_tables_max none }

-- a new pack has a copy of the root, in its first slot, and no other
abbrev pub new_copy : Sites → ℕ → Option InodeCopy
new_copy set ino = if ino == 1 then Some (record { half = First; slot = root_slot set; more = [] }) else None

-- a format writes zeros over all slots in pieces of one length, and the superblock before them and the root behind; then it syncs
abbrev pub piece_length : ℕ
piece_length = 16384

abbrev pub slot_pieces : ℕ
slot_pieces = 128

abbrev pub format_calls : ℕ
format_calls = slot_pieces + 3

-- the area is a new pack: its first bytes name it, the root stands in its first slot, and all other slots are zeros
pub record IsNew (base group site : ℕ) (set : Sites) (image : List ℕ) : Type 0 where
  pub named : IsPackOf base group site image
  pub root : bytes_at image (base + layout.slots_at) layout.slot_length ≡ slot_bytes (root_slot set)
  pub zeros : (k : ℕ) → layout.slots_at + layout.slot_length ≤ k → k < tables_at → slice_index image (base + k) ≡ 0
