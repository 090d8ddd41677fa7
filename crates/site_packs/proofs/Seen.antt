-- What the view has of the inodes of a pack that an image shows.
use Rattle.std.proofs.Common.{◌≡◌, ℕ, ◌≤◌, false, List, length, Option, None, Some, refl, ap, subst, ◌∙◌}
use Rattle.std.specs.Prelude.{IfSome}
use Rattle.std.specs.Option.{option_map}
use Rattle.locus_ids.specs.Sizes.{inodes_max}
use Rattle.pack_layout.specs.declared.slot.Slot.{Slot}
use Rattle.pack_layout.specs.Layout.{slot_at}
use Rattle.pack_layout.specs.SlotFields.{fields_of}
use Rattle.pack_slots.specs.of_inode_switch.View.{Version, version, version_in, view}
use Rattle.pack_slots.proofs.of_inode_switch.SlotBytes.{says}
use Rattle.pack_slots.proofs.of_inode_switch.TableBytes.{page_named}
use Rattle.pack_slots.proofs.of_inode_switch.VersionBytes.{content_length}
use Rattle.pack_slots.proofs.Numbers.{first_numbers}
use Rattle.pack_slots.specs.declared.inode_copy.InodeCopy.{InodeCopy}
use Rattle.inode_pack.specs.Pack.{PackState, Shows}
use Rattle.pack_slots.specs.Copies.{AreCopies, ShowsSlot, ShowsTables, IsCopy, copy_of, numbers_in}
use Rattle.pack_slots.specs.Slots.{IsFound}
use Rattle.pack_slots.proofs.Counting.{found_counts}
use Rattle.role_steps.specs.Storage.{reported}
use Rattle.role_steps.specs.declared.copies.FileCopy.{FileCopy}
use Rattle.site_packs.specs.Copies.{copy_in}
use Rattle.site_packs.specs.Packs.{slot_reported, slot_in}
use Rattle.site_packs.proofs.Fields.{copy_of_fields}

-- the version that the view has of an inode with this copy
pub record Held (base ino : ℕ) (slot : Slot) (image : List ℕ) : Type 0 where
  pub version : Version
  pub seen : view image base ino ≡ Some version
  pub fields : version.fields ≡ fields_of slot
  pub size : length version.content ≡ slot.size

shown : (pack : PackState) (ino : ℕ) (image : List ℕ) (o : Option InodeCopy) → AreCopies pack.copies → Shows pack image → 1 ≤ ino → ino ≤ inodes_max → copy_of pack.copies ino ≡ o → IsFound pack.base ino image o false
shown pack ino image o are shows low high is = record {
  says = subst (λ (p : Option InodeCopy). ShowsSlot pack.base ino image p) is (shows.copies ino low high).0;
  own = subst (λ (p : Option InodeCopy). IfSome p (λ one. IsCopy ino one)) is (are.own ino);
  tables = subst (λ (p : Option InodeCopy). ShowsTables pack.base image p) is (shows.copies ino low high).1;
}

pub held_none : (pack : PackState) (ino : ℕ) (image : List ℕ) → AreCopies pack.copies → Shows pack image → 1 ≤ ino → ino ≤ inodes_max → copy_of pack.copies ino ≡ None → view image pack.base ino ≡ None
held_none pack ino image are shows low high is = ap (λ (o : Option ℕ). version_in image pack.base o) (found_counts pack.base ino image None false (shown pack ino image None are shows low high is))

pub held_some : (pack : PackState) (ino : ℕ) (image : List ℕ) (copy : InodeCopy) → AreCopies pack.copies → Shows pack image → 1 ≤ ino → ino ≤ inodes_max → copy_of pack.copies ino ≡ Some copy → Held pack.base ino copy.slot image
held_some pack ino image copy are shows low high is =
    let found = shown pack ino image (Some copy) are shows low high is in
    let counts = found_counts pack.base ino image (Some copy) false found in
    let place = slot_at pack.base ino copy.half in
    let s = says image place copy.slot found.says.bytes found.own.slot in
    let named = page_named image pack.base place copy.slot (numbers_in copy) found.own.slot s found.tables found.own.pages (first_numbers copy found.own.slot) in
    record {
      version = version image pack.base place;
      seen = ap (λ (o : Option ℕ). version_in image pack.base o) counts.place;
      fields = s.fields;
      size = content_length image pack.base place copy.slot (numbers_in copy) found.own.slot s found.own.pages named shows.area;
    }

reported_some : (pack : PackState) (group ino : ℕ) (image : List ℕ) (copy : InodeCopy) → AreCopies pack.copies → Shows pack image → 1 ≤ ino → ino ≤ inodes_max → copy_of pack.copies ino ≡ Some copy
    → option_map reported (option_map (copy_in group ino) (view image pack.base ino)) ≡ Some (slot_reported ino copy.slot)
reported_some pack group ino image copy are shows low high is =
    let held = held_some pack ino image copy are shows low high is in
    let made = copy_of_fields group ino (fields_of copy.slot) held.version held.fields in
    let size = held.size in
    ap (λ (o : Option Version). option_map reported (option_map (copy_in group ino) o)) held.seen
    ∙ ap (λ (x : FileCopy). Some (reported x)) made
    ∙ (λ i. Some (record { ino = ino; kind = copy.slot.kind; set = copy.slot.set; size = size i; stamp = copy.slot.stamp; vector = copy.slot.vector }))

reported_by : (pack : PackState) (group ino : ℕ) (image : List ℕ) (o : Option InodeCopy) → AreCopies pack.copies → Shows pack image → 1 ≤ ino → ino ≤ inodes_max → copy_of pack.copies ino ≡ o
    → option_map reported (option_map (copy_in group ino) (view image pack.base ino)) ≡ option_map (slot_reported ino) (slot_in o)
reported_by pack group ino image None are shows low high is = ap (λ (o : Option Version). option_map reported (option_map (copy_in group ino) o)) (held_none pack ino image are shows low high is)
reported_by pack group ino image (Some copy) are shows low high is = reported_some pack group ino image copy are shows low high is

-- what the view has of an inode, as it is reported, is what the pack's slot says
pub reported_here : (pack : PackState) (group ino : ℕ) (image : List ℕ) → AreCopies pack.copies → Shows pack image → 1 ≤ ino → ino ≤ inodes_max
    → option_map reported (option_map (copy_in group ino) (view image pack.base ino)) ≡ option_map (slot_reported ino) (slot_in (copy_of pack.copies ino))
reported_here pack group ino image are shows low high = reported_by pack group ino image (copy_of pack.copies ino) are shows low high refl
