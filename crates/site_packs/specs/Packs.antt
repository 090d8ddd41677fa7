-- What a site knows of its packs, and when they stand on its disk.
use Rattle.std.specs.Prelude.{◌≡◌, ℕ, zero, suc, ◌||◌, is_some, ◌+◌, ◌*◌, ◌≤◌, ◌==◌, Bool, true, false, List, [], ◌∷◌, ◌++◌, map, filter, Option, Some, None}
use Rattle.std.specs.List.{list_any}
use Rattle.std.specs.Option.{option_map}
use Rattle.locus_ids.specs.Sites.{has}
use Rattle.locus_ids.specs.declared.config.Config.{Config}
use Rattle.locus_ids.specs.declared.ids.FileId.{FileId}
use Rattle.disk_model.specs.Disk.{Moment, IsSettled}
use Rattle.pack_layout.specs.Layout.{layout, area_length, area_at}
use Rattle.pack_layout.specs.declared.slot.Slot.{Slot}
use Rattle.pack_slots.specs.declared.inode_copy.InodeCopy.{InodeCopy}
use Rattle.inode_pack.specs.Pack.{PackState, Shows}
use Rattle.pack_slots.specs.Copies.{AreCopies, copy_of}
use Rattle.wire_messages.specs.declared.body.ReportedCopy.{ReportedCopy}
use Rattle.role_steps.specs.Tables.{row}
use Rattle.role_steps.specs.Views.{Store, pack_sites, all_groups, file_key}
use Rattle.role_steps.specs.Storage.{content_of, copy_key, is_making}
use Rattle.role_steps.specs.declared.copies.FileCopy.{FileCopy}
use Rattle.site_packs.specs.Copies.{copies_on}
use Rattle.site_packs.specs.Live.{is_all_live, is_marked}

-- the site, its packs, and which copies are marked as directories without a removed entry
pub record PacksState : Type 0 where
  pub site : ℕ
  pub packs : List PackState
  pub live : List Bool

abbrev pub pack_group : PackState → ℕ
pack_group pack = pack.group

-- the groups of which the site has a pack
abbrev pub groups_of : PacksState → List ℕ
groups_of p = map pack_group p.packs

-- the groups of which a site has a pack, ascending
unfoldable pub groups_at : Config → ℕ → List ℕ
groups_at c site = filter (λ group. has (pack_sites c group) site) all_groups

-- the pack of a group
abbrev pub pack_in : ℕ → List PackState → Option PackState
pack_in group [] = None
pack_in group (pack ∷ packs) = elim (pack.group == group) [
  | true ↦ Some pack
  | false ↦ pack_in group packs
]

abbrev pub slot_in : Option InodeCopy → Option Slot
slot_in copy = option_map (λ (one : InodeCopy). one.slot) copy

-- what the slot of an inode says there
abbrev pub slot_held : Option PackState → ℕ → Option Slot
slot_held None ino = None
slot_held (Some pack) ino = slot_in (copy_of pack.copies ino)

-- the same as it is reported
abbrev pub slot_reported : ℕ → Slot → ReportedCopy
slot_reported ino s = record { ino = ino; kind = s.kind; set = s.set; size = s.size; stamp = s.stamp; vector = s.vector }

abbrev pub slots_reported : ℕ → Option Slot → List ReportedCopy
slots_reported ino None = []
slots_reported ino (Some s) = slot_reported ino s ∷ []

-- what the slots of the inodes from this one on say
abbrev pub slots_from : ℕ → List (Option InodeCopy) → List ReportedCopy
slots_from ino [] = []
slots_from ino (copy ∷ copies) = slots_reported ino (slot_in copy) ++ slots_from (ino + 1) copies

abbrev pub pack_reported : Option PackState → List ReportedCopy
pack_reported None = []
pack_reported (Some pack) = slots_from 1 pack.copies

-- the number is in a slot of the pack or among those that are made
abbrev pub is_taken : List PackState → ℕ → List ℕ → ℕ → Bool
is_taken packs group making ino = is_some (slot_held (pack_in group packs) ino) || list_any (λ one. one == ino) making

-- the least number from this one on that isn't taken, where so many are left
abbrev pub free_ino : List PackState → ℕ → List ℕ → ℕ → ℕ → Option ℕ
free_ino packs group making ino zero = None
free_ino packs group making ino (suc left) = elim (is_taken packs group making ino) [
  | true ↦ free_ino packs group making (ino + 1) left
  | false ↦ Some ino
]

abbrev pub has_group : List ℕ → ℕ → Bool
has_group groups group = list_any (λ one. one == group) groups

-- where the area of the pack behind that of so many ends
abbrev pub areas_end : ℕ → ℕ
areas_end count = layout.label_length + area_length * count

-- the nth pack of the site, of a group that isn't below this one
pub record IsPackAt (nth least home : ℕ) (pack : PackState) : Type 0 where
  pub base : pack.base ≡ area_at nth
  pub site : pack.site ≡ home
  pub low : least ≤ pack.group
  pub high : pack.group ≤ 3
  pub copies : AreCopies pack.copies

-- packs whose areas stand one behind the other, their groups ascending
abbrev pub ArePacks : ℕ → ℕ → ℕ → List PackState → Type 0
ArePacks nth least site [] = Unit {0}
ArePacks nth least site (pack ∷ packs) = IsPackAt nth least site pack × ArePacks (nth + 1) (pack.group + 1) site packs

-- in this image each of the packs stands
abbrev pub AreShown : List PackState → List ℕ → Type 0
AreShown [] image = Unit {0}
AreShown (pack ∷ packs) image = Shows pack image × AreShown packs image

-- the same site with packs of the same groups
pub record SamePlaces (old new : PacksState) : Type 0 where
  pub site : new.site ≡ old.site
  pub groups : groups_of new ≡ groups_of old

-- the copy of a file in this image
abbrev pub copy_at : PacksState → List ℕ → FileId → Option FileCopy
copy_at p image file = row copy_key (file_key file) (copies_on (groups_of p) image)

-- the packs are found on the disk: a read shows them, and a crash leaves what a read gives
pub record AreFound (packs : List PackState) (moment : Moment) : Type 0 where
  pub settled : IsSettled moment
  pub shown : AreShown packs moment.seen

-- a copy that is marked has no removed entry in this image
pub record AreLive (p : PacksState) (image : List ℕ) : Type 0 where
  pub each : (file : FileId) → is_marked p.live file ≡ true → is_all_live (content_of (copy_at p image file)) ≡ true

-- the packs stand on the disk: a read shows them, a crash leaves what a read gives, and what is marked is so
pub record Stand (p : PacksState) (moment : Moment) : Type 0 where
  pub settled : IsSettled moment
  pub shown : AreShown p.packs moment.seen
  pub live : AreLive p moment.seen

-- these are the inodes that open instances of the group make
abbrev pub AreMaking : ℕ → List ℕ → Store → Type 0
AreMaking group making s = (ino : ℕ) → list_any (is_making group ino) s.instances ≡ list_any (λ one. one == ino) making
