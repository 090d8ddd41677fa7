-- Which disks mount, why another doesn't, and what a format and a mount leave.
use Rattle.std.specs.Prelude.{◌≡◌, ◌⊎◌, ℕ, ◌+◌, ◌*◌, ◌≤◌, List, [], ◌∷◌, ◌++◌, length, map, Result, Ok, Err}
use Rattle.locus_ids.specs.Sizes.{inodes_max}
use Rattle.locus_ids.specs.declared.config.Config.{Config}
use Rattle.locus_ids.specs.declared.ids.Kind.TheVariants as kind
use Rattle.disk_model.specs.declared.disk.DiskFault.{DiskFault}
use Rattle.disk_model.specs.declared.disk.DiskFault.TheVariants.{Failed}
use Rattle.disk_model.specs.Disk.{Moment, IsSettled, Passing}
use Rattle.disk_model.specs.Images.{Torn}
use Rattle.disk_model.specs.Moments.{TellsMany}
use Rattle.role_steps.specs.of_dir_format.Entries.{nothing_seen}
use Rattle.pack_layout.specs.Layout.{layout, area_length, area_at}
use Rattle.pack_slots.specs.declared.mount_fault.MountFault.{MountFault}
use Rattle.pack_slots.specs.declared.mount_fault.MountFault.TheVariants.{Disk, NotAPack, BadSlot, SharedTable, SharedPage, NoMemory}
use Rattle.pack_slots.specs.Mounting.{IsSound, IsCause as IsCauseOfPack, IsPassing, KeepsTables, losing_gates}
use Rattle.role_steps.specs.Views.{pack_sites}
use Rattle.role_steps.specs.declared.copies.FileCopy.{FileCopy}
use Rattle.site_packs.specs.Copies.{copies_on}
use Rattle.site_packs.specs.Packs.{pack_group, groups_at, ArePacks, AreShown}
use Rattle.inode_pack.specs.Pack.{PackState}
use Rattle.pack_slots.specs.of_inode_switch.View.{SameView}

-- each of the packs of these groups mounts
abbrev pub AreSoundBehind : ℕ → ℕ → List ℕ → List ℕ → Type 0
AreSoundBehind nth site [] image = Unit {0}
AreSoundBehind nth site (group ∷ groups) image = IsSound (area_at nth) group site image × AreSoundBehind (nth + 1) site groups image

abbrev pub AreSound : ℕ → List ℕ → List ℕ → Type 0
AreSound site groups image = AreSoundBehind 0 site groups image

-- why an image doesn't mount: the first pack that doesn't, and why; a failing disk and want of memory say nothing of it
abbrev pub IsFirstCause : ℕ → ℕ → List ℕ → List ℕ → MountFault → Type 0
IsFirstCause nth site [] image fault = ⊥
IsFirstCause nth site (group ∷ groups) image fault =
    IsCauseOfPack (area_at nth) group site image fault ⊎ (IsSound (area_at nth) group site image × IsFirstCause (nth + 1) site groups image fault)

abbrev pub IsCauseBehind : ℕ → ℕ → List ℕ → List ℕ → MountFault → Type 0
IsCauseBehind nth site groups image fault = IsPassing fault ⊎ IsFirstCause nth site groups image fault

abbrev pub IsCause : ℕ → List ℕ → List ℕ → MountFault → Type 0
IsCause site groups image fault = IsCauseBehind 0 site groups image fault

-- groups from this one on, ascending
abbrev pub AreGroups : ℕ → List ℕ → Type 0
AreGroups least [] = Unit {0}
AreGroups least (group ∷ groups) = (least ≤ group) × (group ≤ 3) × AreGroups (group + 1) groups

-- each pack has the same view in both images, and mounts in the new one
abbrev pub AreKept : ℕ → ℕ → List ℕ → List ℕ → List ℕ → Type 0
AreKept nth site [] old new = Unit {0}
AreKept nth site (group ∷ groups) old new = SameView (area_at nth) old new × IsSound (area_at nth) group site new × AreKept (nth + 1) site groups old new

-- in each area the open slots have their tables as before
abbrev pub AreTablesKept : List ℕ → List ℕ → Type 0
AreTablesKept old new = (nth : ℕ) → KeepsTables (area_at nth) old new

-- the same, with their tables, and nothing changed outside the areas
pub record LeavesPacks (nth site : ℕ) (groups old new : List ℕ) : Type 0 where
  pub kept : AreKept nth site groups old new
  pub tables : AreTablesKept old new
  pub outside : Torn (area_at nth) (area_length * length groups) old new

-- these packs were mounted
pub record AreMounted (nth home : ℕ) (groups : List ℕ) (before after : List PackState) (old new : Moment) : Type 0 where
  pub packs : List PackState
  pub adds : after ≡ before ++ packs
  pub are : (least : ℕ) → AreGroups least groups → ArePacks nth least home packs
  pub groups_are : map pack_group packs ≡ groups
  pub shown : AreShown packs new.seen
  pub sound : AreSoundBehind nth home groups old.seen
  pub leaves : LeavesPacks nth home groups old.seen new.seen
  pub settled : IsSettled new

-- what a crash within a mount leaves: the copies are as before, packs that mounted do, and open slots have their tables
pub record KeepsCopies (site : ℕ) (groups old new : List ℕ) : Type 0 where
  pub copies : copies_on groups new ≡ copies_on groups old
  pub sound : AreSound site groups old → AreSound site groups new
  pub tables : AreTablesKept old new
  pub outside : Torn layout.label_length (area_length * length groups) old new

-- the writes and syncs of a mount: two for each inode of which both slots are open
abbrev pub gates_behind : ℕ → List ℕ → List ℕ → ℕ
gates_behind nth [] image = 0
gates_behind nth (group ∷ groups) image = losing_gates (area_at nth) inodes_max image + gates_behind (nth + 1) groups image

abbrev pub mount_calls : List ℕ → List ℕ → ℕ
mount_calls groups image = 2 * gates_behind 0 groups image

-- where a disk tells how many calls pass, a mount that isn't refused by what it reads fails exactly where they are too few
abbrev pub TellsMount : {T : Type 0} → ℕ → Passing → Passing → Result T MountFault → Type 0
TellsMount calls before after (Ok packs) = TellsMany {T = Unit {0}} {E = DiskFault} calls before after (Ok tt)
TellsMount calls before after (Err Disk) = TellsMany {T = Unit {0}} {E = DiskFault} calls before after (Err Failed)
TellsMount calls before after (Err NotAPack) = Unit {0}
TellsMount calls before after (Err (BadSlot ino)) = Unit {0}
TellsMount calls before after (Err (SharedTable number)) = Unit {0}
TellsMount calls before after (Err (SharedPage number)) = Unit {0}
TellsMount calls before after (Err NoMemory) = Unit {0}

-- ---- a format ----

-- a freshly formatted pack has the empty root directory
abbrev pub root_copy : Config → ℕ → FileCopy
root_copy c group = record {
  file = record { group = group; ino = 1 };
  kind = kind.Dir;
  set = pack_sites c group;
  stamp = record { site = 0; n = 0 };
  vector = nothing_seen;
  content = [];
}

abbrev pub new_copies : Config → ℕ → List FileCopy
new_copies c site = map (root_copy c) (groups_at c site)
