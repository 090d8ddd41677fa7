-- The content of a site's copy is that of the version that the view has.
use Rattle.std.proofs.Common.{◌≡◌, ℕ, ◌≤◌, ◌<◌, List, [], length, Option, None, Some, refl, sym, ap, subst, ◌∙◌}
use Rattle.std.specs.Prelude.{IfSome}
use Rattle.std.specs.Option.{option_map}
use Rattle.locus_ids.specs.Sizes.{inodes_max, content_bytes_max, inode_span}
use Rattle.locus_ids.specs.declared.ids.FileId.{FileId}
use Rattle.pack_layout.specs.declared.slot.Slot.{Slot}
use Rattle.pack_slots.specs.of_inode_switch.View.{Version, view}
use Rattle.pack_slots.specs.declared.inode_copy.InodeCopy.{InodeCopy}
use Rattle.inode_pack.specs.Pack.{PackState}
use Rattle.pack_slots.specs.Copies.{IsCopy, copy_of}
use Rattle.inode_pack.specs.Committing.{content_of as content_in}
use Rattle.role_steps.specs.Storage.{content_of, reported}
use Rattle.role_steps.specs.declared.copies.FileCopy.{FileCopy}
use Rattle.site_packs.specs.Copies.{copy_in}
use Rattle.site_packs.specs.Packs.{PacksState, ArePacks, AreShown, pack_in, slot_in, slot_held, slot_reported, copy_at}
use Rattle.site_packs.specs.Reading.{HasContent}
use Rattle.site_packs.proofs.Fields.{content_of_copy}
use Rattle.site_packs.proofs.Seen.{held_some}
use Rattle.site_packs.proofs.Behind.{pack_row, behind_found, found_in}
use Rattle.site_packs.proofs.Reports.{found_pack, head_is}

-- a copy that isn't reported isn't there
none_reported : (o : Option FileCopy) → option_map reported o ≡ None → content_of o ≡ []
none_reported None is = refl
none_reported (Some x) is = absurd (let e : Some (reported x) ≡ None = is in cc)

content_made : (group ino : ℕ) (o : Option Version) → content_of (option_map (copy_in group ino) o) ≡ content_in o
content_made group ino None = refl
content_made group ino (Some v) = content_of_copy group ino v

module _ (p : PacksState) (image : List ℕ) (file : FileId) (are : ArePacks 0 0 p.site p.packs) (shown : AreShown p.packs image) (fits : file.ino < inode_span) where
  pub no_content : slot_held (pack_in file.group p.packs) file.ino ≡ None → content_of (copy_at p image file) ≡ []
  no_content none = none_reported (copy_at p image file) (head_is p image file are shown fits ∙ ap (λ (o : Option Slot). option_map (slot_reported file.ino) o) none)

  pub copy_found : (pack : PackState) → pack_in file.group p.packs ≡ Some pack → 1 ≤ file.ino → file.ino ≤ inodes_max → copy_at p image file ≡ option_map (copy_in file.group file.ino) (view image pack.base file.ino)
  copy_found pack is low high =
      let f = found_pack p.site file.group p.packs image pack are shown is in
      behind_found 0 0 p.site file.group file.ino p.packs image are fits
      ∙ ap (λ (o : Option PackState). found_in file.group file.ino image o) is
      ∙ subst (λ (g : ℕ). found_in g file.ino image (Some pack) ≡ option_map (copy_in g file.ino) (view image pack.base file.ino)) f.own (pack_row pack.base pack.group file.ino image low high)

  pub content_at : (pack : PackState) → pack_in file.group p.packs ≡ Some pack → 1 ≤ file.ino → file.ino ≤ inodes_max → content_of (copy_at p image file) ≡ content_in (view image pack.base file.ino)
  content_at pack is low high = ap (λ (o : Option FileCopy). content_of o) (copy_found pack is low high) ∙ content_made file.group file.ino (view image pack.base file.ino)

has_by : (home group ino : ℕ) (packs : List PackState) (image : List ℕ) (pack : PackState) (slot : Slot) (o : Option InodeCopy) → ArePacks 0 0 home packs → AreShown packs image → pack_in group packs ≡ Some pack → copy_of pack.copies ino ≡ o → slot_in o ≡ Some slot
    → (1 ≤ ino) × (ino ≤ inodes_max) × HasContent pack ino slot.size image
has_by home group ino packs image pack slot None are shown is copy given = absurd (let e : None ≡ Some slot = given in cc)
has_by home group ino packs image pack slot (Some one) are shown is copy given =
    let f = found_pack home group packs image pack are shown is in
    let own = subst (λ (p : Option InodeCopy). IfSome p (λ c. IsCopy ino c)) copy (f.here.copies.own ino) in
    let same : one.slot ≡ slot = (let e : Some one.slot ≡ Some slot = given in cc) in
    let low : 1 ≤ ino = subst (λ (n : ℕ). 1 ≤ n) own.own own.slot.low in
    let high : ino ≤ inodes_max = subst (λ (n : ℕ). n ≤ inodes_max) own.own own.slot.high in
    let held = held_some pack ino image one f.here.copies f.shows low high copy in (
      low,
      high,
      subst (λ (s : Slot). HasContent pack ino s.size image) same (record {
        version = held.version;
        seen = held.seen;
        size = held.size;
        few = own.slot.size;
        pages = λ page lt. record { copy = one; held = copy; inside = lt };
      }),
    )

-- a slot that was found has a content
pub has_content : (home group ino : ℕ) (packs : List PackState) (image : List ℕ) (pack : PackState) (slot : Slot) → ArePacks 0 0 home packs → AreShown packs image → pack_in group packs ≡ Some pack → slot_in (copy_of pack.copies ino) ≡ Some slot
    → (1 ≤ ino) × (ino ≤ inodes_max) × HasContent pack ino slot.size image
has_content home group ino packs image pack slot are shown is given = has_by home group ino packs image pack slot (copy_of pack.copies ino) are shown is refl given

-- it has no more bytes than a file may have
pub short_content : (pack : PackState) (ino bytes : ℕ) (image : List ℕ) → HasContent pack ino bytes image → length (content_in (view image pack.base ino)) ≤ content_bytes_max
short_content pack ino bytes image has =
    subst (λ (o : Option Version). length (content_in o) ≤ content_bytes_max) (sym has.seen) (subst (λ (n : ℕ). n ≤ content_bytes_max) (sym has.size) has.few)
