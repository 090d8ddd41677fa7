-- The bytes of a copy's data pages are those of the content that the view has.
use Rattle.std.proofs.Common.{◌≡◌, ℕ, ◌+◌, ◌*◌, ◌/◌, ◌%◌, ◌≤◌, ◌<◌, List, length, drop, get_or, sym, ◌∙◌, ap, subst, arith}
use Rattle.std.specs.Prelude.{Option, Some, IfSome, false}
use Rattle.std.proofs.lemmas.List.{get_or-take, get_or-drop}
use Rattle.locus_ids.specs.Sizes.{page_bytes}
use Rattle.disk_model.specs.Images.{bytes_at}
use Rattle.file_content.specs.Pages.{pages_of}
use Rattle.pack_layout.specs.Layout.{area_length, slot_at, page_at}
use Rattle.inode_switch.specs.View.{Version, version, version_in, view}
use Rattle.inode_switch.proofs.SlotBytes.{says}
use Rattle.inode_switch.proofs.TableBytes.{page_named}
use Rattle.inode_switch.proofs.VersionBytes.{content_length, content_byte}
use Rattle.pack_slots.specs.declared.inode_copy.InodeCopy.{InodeCopy}
use Rattle.inode_pack.specs.Pack.{PackState, Shows, HasPage, IsPageOf, number_in}
use Rattle.pack_slots.specs.Copies.{numbers_in, AreCopies, ShowsCopy, IsCopy, copy_of}
use Rattle.pack_slots.specs.Slots.{IsCounting, IsFound}
use Rattle.pack_slots.proofs.Counting.{found_counts}
use Rattle.pack_slots.proofs.Numbers.{first_numbers}

pub page_of_content : (base ino i : ℕ) (image : List ℕ) (copy : InodeCopy) (v : Version) → base + area_length ≤ length image → IsCopy ino copy → IsCounting base ino image copy → i < pages_of copy.slot.size
    → view image base ino ≡ Some v → IsPageOf v.content i (bytes_at image (page_at base (get_or (numbers_in copy) i 0)) page_bytes)
page_of_content base ino i image copy v area is counts lt seen k small inside =
    let place = slot_at base ino copy.half in
    let at = page_at base (get_or (numbers_in copy) i 0) in
    let byte = page_bytes * i + k in
    let s = says image place copy.slot counts.bytes is.slot in
    let named = page_named image base place copy.slot (numbers_in copy) is.slot s counts.tables is.pages (first_numbers copy is.slot) in
    let made : view image base ino ≡ Some (version image base place) = ap (λ (o : Option ℕ). version_in image base o) counts.place in
    let same : v ≡ version image base place = (let e : Some v ≡ Some (version image base place) = sym seen ∙ made in cc) in
    let long = ap (λ (w : Version). length w.content) same ∙ content_length image base place copy.slot (numbers_in copy) is.slot s is.pages named area in
    let fits : page_bytes * i + k < copy.slot.size = omega (arith, inside, long) in
    let page_is : (page_bytes * i + k) / page_bytes ≡ i = omega arith in
    let rest_is : (page_bytes * i + k) % page_bytes ≡ k = omega arith in
    ap (λ (w : Version). get_or w.content byte 0) same
    ∙ content_byte image base place copy.slot (numbers_in copy) is.slot s is.pages named area byte fits
    ∙ (λ j. get_or image (page_at base (get_or (numbers_in copy) (page_is j) 0) + rest_is j) 0)
    ∙ sym (get_or-take page_bytes (drop at image) k 0 small ∙ get_or-drop at image k 0)

-- a copy that a pack has and shows
pub shown_copy : (pack : PackState) (ino : ℕ) (image : List ℕ) (copy : InodeCopy) → AreCopies pack.copies → Shows pack image → copy_of pack.copies ino ≡ Some copy → IsFound pack.base ino image (Some copy) false
shown_copy pack ino image copy are shows held =
    let is : IsCopy ino copy = subst (λ (o : Option InodeCopy). IfSome o (λ one. IsCopy ino one)) held (are.own ino) in
    let low = is.slot.low in
    let high = is.slot.high in
    let own = is.own in
    let shown = subst (λ (o : Option InodeCopy). ShowsCopy pack.base ino image o) held (shows.copies ino (omega arith) (omega arith)) in
    record { says = shown.0; own = is; tables = shown.1 }

pub shown_page : (pack : PackState) (ino i : ℕ) (image : List ℕ) → AreCopies pack.copies → Shows pack image → (has : HasPage pack ino i) → (v : Version) → view image pack.base ino ≡ Some v
    → IsPageOf v.content i (bytes_at image (page_at pack.base (number_in (copy_of pack.copies ino) i)) page_bytes)
shown_page pack ino i image are shows has v seen =
    let found = shown_copy pack ino image has.copy are shows has.held in
    let counts = found_counts pack.base ino image (Some has.copy) false found in
    subst (λ (o : Option InodeCopy). IsPageOf v.content i (bytes_at image (page_at pack.base (number_in o i)) page_bytes)) (sym has.held)
    (page_of_content pack.base ino i image has.copy v shows.area found.own counts has.inside seen)
