-- A pack as a format leaves it: one copy, the empty root directory, and no inode with two open slots.
use Rattle.std.proofs.Common.{◌≡◌, ◌≢◌, ℕ, zero, suc, ◌+◌, ◌-◌, ◌*◌, ◌≤◌, ◌<◌, Bool, true, false, List, [], ◌∷◌, ◌++◌, length, Option, None, Some, refl, sym, ap, subst, ◌∙◌, arith, ⊎_elim}
use Rattle.std.specs.Prelude.{◌==◌, ◌&&◌, cond, map, if◌then◌else◌}
use Rattle.std.proofs.lemmas.Bool.{eqb-true, cases_Bool}
use Rattle.locus_ids.specs.Sizes.{inodes_max, set_span}
use Rattle.locus_ids.specs.Sites.{has}
use Rattle.locus_ids.specs.declared.config.Config.{Config}
use Rattle.locus_ids.specs.declared.ids.Kind.TheVariants as kind
use Rattle.locus_ids.specs.declared.sites.Sites.{Sites}
use Rattle.role_steps.specs.of_dir_format.Entries.{nothing_seen}
use Rattle.disk_model.specs.Images.{Torn}
use Rattle.pack_layout.specs.declared.half.Half.{Half}
use Rattle.pack_layout.specs.declared.half.Half.TheVariants.{First, Second}
use Rattle.pack_layout.specs.Layout.{area_length, area_at, slot_at, IsSlot, other_half}
use Rattle.pack_layout.specs.SlotFields.{fields_of}
use Rattle.pack_slots.specs.of_inode_switch.View.{is_open, Version, version, version_in, view}
use Rattle.pack_slots.proofs.of_inode_switch.SlotBytes.{says}
use Rattle.pack_slots.proofs.of_inode_switch.TableBytes.{page_named}
use Rattle.pack_slots.proofs.of_inode_switch.VersionBytes.{content_length}
use Rattle.pack_slots.specs.declared.inode_copy.InodeCopy.{InodeCopy}
use Rattle.inode_pack.specs.Pack.{PackState}
use Rattle.pack_slots.specs.Copies.{copy_of, numbers_in, ShowsCopy, ShowsCopies}
use Rattle.pack_slots.specs.Slots.{IsFound}
use Rattle.pack_slots.specs.Mounting.{IsSound, has_losing_gate, losing_gates}
use Rattle.pack_slots.specs.Format.{root_slot, new_copy}
use Rattle.pack_slots.proofs.Counting.{found_counts}
use Rattle.pack_slots.proofs.New.{stored_somewhere, root_is_slot}
use Rattle.pack_slots.proofs.Numbers.{few_named, first_numbers}
use Rattle.role_steps.specs.Views.{pack_sites}
use Rattle.role_steps.specs.declared.copies.FileCopy.{FileCopy}
use Rattle.site_packs.specs.Copies.{copy_in, with_version, copies_from, copies_in}
use Rattle.site_packs.specs.Packs.{pack_group, ArePacks, AreShown}
use Rattle.site_packs.specs.Mounting.{gates_behind}
use Rattle.site_packs.specs.Formatting.{root_in, HasRootAlone, stored_among, AreNew}
use Rattle.site_packs.proofs.Fields.{copy_of_fields}
use Rattle.site_packs.proofs.Areas.{AgreeOn, view_same, sound_same, gates_same}
use Rattle.site_packs.proofs.Behind.{pack_same}
use Rattle.locus_ids.specs.declared.ids.FileId.{FileId}
use Rattle.site_packs.specs.Cutting.{both_open_on}
use Rattle.site_packs.proofs.Mounts.{before_torn}
use Rattle.site_packs.proofs.Cutting.{mount_calls_are}

-- ---- one pack ----

none_from : (group : ℕ) (held : ℕ → Option Version) (ino left : ℕ) → ((i : ℕ) → ino ≤ i → i < ino + left → held i ≡ None) → copies_from group held ino left ≡ []
none_from group held ino zero none = refl
none_from group held ino (suc left) none =
    let rest = none_from group held (ino + 1) left (λ i low high. none i (omega arith) (omega arith)) in
    let here = none ino (omega arith) (omega arith) in
    (λ i. with_version group ino (here i) (rest i))

root_from : (group left : ℕ) (held : ℕ → Option Version) (v : Version) → held 1 ≡ Some v → ((i : ℕ) → 2 ≤ i → i < 2 + left → held i ≡ None) → copies_from group held 1 (suc left) ≡ copy_in group 1 v ∷ []
root_from group left held v one none =
    let rest = none_from group held 2 left none in
    (λ i. with_version group 1 (one i) (rest i))

no_bytes : (l : List ℕ) → length l ≡ 0 → l ≡ []
no_bytes [] e = refl
no_bytes (x ∷ l) e = absurd (omega arith)

is_other : (ino : ℕ) → ino ≢ 1 → (ino == 1) ≡ false
is_other ino ne = ⊎_elim (λ (yes : (ino == 1) ≡ true). absurd (ne (eqb-true ino 1 yes))) (λ (no : (ino == 1) ≡ false). no) (cases_Bool (ino == 1))

abbrev root : Sites → InodeCopy
root set = record { half = First; slot = root_slot set; more = [] }

none_there : (base ino : ℕ) (set : Sites) (image : List ℕ) → ino ≢ 1 → ShowsCopy base ino image (new_copy set ino) → view image base ino ≡ None
none_there base ino set image ne shows =
    let says' : ShowsCopy base ino image None = subst (λ (b : Bool). ShowsCopy base ino image (if b then Some (root set) else None)) (is_other ino ne) shows in
    ap (λ (o : Option ℕ). version_in image base o) (found_counts base ino image None false (record { says = says'.0; own = tt; tables = tt }))

root_there : (base group : ℕ) (set : Sites) (image : List ℕ) → base + area_length ≤ length image → IsSlot (root_slot set) → ShowsCopies base image (new_copy set)
    → (v : Version) × (view image base 1 ≡ Some v) × (copy_in group 1 v ≡ root_in group set)
root_there base group set image area slot shows =
    let here = shows 1 (omega arith) (omega arith) in
    let names = few_named 0 (root_slot set).pages (omega arith) slot.pages in
    let found : IsFound base 1 image (Some (root set)) false = record { says = here.0; own = record { slot = slot; own = refl; pages = names }; tables = here.1 } in
    let counts = found_counts base 1 image (Some (root set)) false found in
    let place = slot_at base 1 First in
    let s = says image place (root_slot set) found.says.bytes slot in
    let v = version image base place in
    let named = page_named image base place (root_slot set) (numbers_in (root set)) slot s here.1 names (first_numbers (root set) slot) in
    let empty = no_bytes v.content (content_length image base place (root_slot set) (numbers_in (root set)) slot s names named area) in
    let made = copy_of_fields group 1 (fields_of (root_slot set)) v s.fields in
    (v, ap (λ (o : Option ℕ). version_in image base o) counts.place, made ∙ ap (λ (l : List ℕ). record { file = record { group = group; ino = 1 }; kind = kind.Dir; set = set; stamp = record { site = 0; n = 0 }; vector = nothing_seen; content = l }) empty)

new_copies_in : (base group : ℕ) (set : Sites) (image : List ℕ) → base + area_length ≤ length image → IsSlot (root_slot set) → ShowsCopies base image (new_copy set) → copies_in base group image ≡ root_in group set ∷ []
unfolding copies_in
new_copies_in base group set image area slot shows =
    let r = root_there base group set image area slot shows in
    root_from group (inodes_max - 1) (view image base) r.0 r.1 (λ i low high. none_there base i set image (λ e. omega arith) (shows i (omega arith) (omega arith)))
    ∙ ap (λ (x : FileCopy). x ∷ []) r.2

-- an inode with at most one open slot
one_shut : (a b : Bool) → b ≡ false → (a && b) ≡ false
one_shut true b e = e
one_shut false b e = refl

shut_at : (base ino : ℕ) (image : List ℕ) (o : Option InodeCopy) → ShowsCopy base ino image o → has_losing_gate base ino image ≡ false
shut_at base ino image None shows = one_shut (is_open image (slot_at base ino First)) (is_open image (slot_at base ino Second)) (shows.0 Second)
shut_at base ino image (Some copy) shows = by copy.half shows.0.other
  where
    by : (half : Half) → is_open image (slot_at base ino (other_half half)) ≡ false → has_losing_gate base ino image ≡ false
    by First other = one_shut (is_open image (slot_at base ino First)) (is_open image (slot_at base ino Second)) other
    by Second other = ap (λ (b : Bool). b && is_open image (slot_at base ino Second)) other

none_lose : (base n : ℕ) (copies : ℕ → Option InodeCopy) (image : List ℕ) → n ≤ inodes_max → ShowsCopies base image copies → losing_gates base n image ≡ 0
unfolding losing_gates
none_lose base zero copies image le shows = refl
none_lose base (suc n) copies image le shows =
    let rest = none_lose base n copies image (omega arith) shows in
    let here = shut_at base (suc n) image (copies (suc n)) (shows (suc n) (omega arith) le) in
    (λ i. let m : ℕ = if here i then 1 else 0 in rest i + m)

pub root_alone : (base group site : ℕ) (set : Sites) (image : List ℕ) → base + area_length ≤ length image → has set site ≡ true → set.0 < set_span
    → IsSound base group site image → ShowsCopies base image (new_copy set) → HasRootAlone base group site set image
root_alone base group site set image area stored small sound shows = record {
  copies = new_copies_in base group set image area (root_is_slot set (stored_somewhere set site stored) small) shows;
  sound = sound;
  shut = none_lose base inodes_max (new_copy set) image (omega arith) shows;
}

-- ---- packs one behind the other ----

root_same : (base group site : ℕ) (set : Sites) (a b : List ℕ) → AgreeOn base a b → HasRootAlone base group site set a → HasRootAlone base group site set b
root_same base group site set a b agree has = record {
  copies = pack_same base group a b (λ ino low high. view_same base a b agree ino low high (has.sound.inodes ino low high)) ∙ has.copies;
  sound = sound_same base a b agree group site has.sound;
  shut = gates_same base a b agree inodes_max (omega arith) ∙ has.shut;
}

pub new_first : (nth : ℕ) (c : Config) (site group : ℕ) (groups mid new : List ℕ) → HasRootAlone (area_at nth) group site (pack_sites c group) mid
    → Torn (area_at (nth + 1)) (area_length * length groups) mid new → AreNew (nth + 1) c site groups new → AreNew nth c site (group ∷ groups) new
new_first nth c site group groups mid new has torn rest =
    let here = root_same (area_at nth) group site (pack_sites c group) mid new (before_torn nth (length groups) mid new torn) has in
    let one = here.copies in
    let more = rest.copies in
    let a = here.shut in
    let b = rest.shut in
    record { copies = (λ i. one i ++ more i); sound = (here.sound, rest.sound); shut = (λ i. a i + b i) }

-- the first of these groups is stored, or it isn't
pub stored_first : (c : Config) (site group : ℕ) (groups : List ℕ) → has (pack_sites c group) site ≡ true → stored_among c site (group ∷ groups) ≡ group ∷ stored_among c site groups
stored_first c site group groups is = ap (λ (b : Bool). cond b (group ∷ stored_among c site groups) (stored_among c site groups)) is

-- ---- packs that stand ----

pub gates_shown : (nth least site : ℕ) (packs : List PackState) (image : List ℕ) → ArePacks nth least site packs → AreShown packs image → gates_behind nth (map pack_group packs) image ≡ 0
gates_shown nth least site [] image are shown = refl
gates_shown nth least site (pack ∷ packs) image are shown =
    let base = are.0.base in
    let one = none_lose (area_at nth) inodes_max (copy_of pack.copies) image (omega arith) (subst (λ (b : ℕ). ShowsCopies b image (copy_of pack.copies)) base shown.0.copies) in
    let rest = gates_shown (nth + 1) (pack.group + 1) site packs image are.1 shown.1 in
    (λ i. one i + rest i)

no_files : (files : List FileId) → 2 * length files ≡ 0 → files ≡ []
no_files [] none = refl
no_files (file ∷ files) none = absurd (omega arith)

pub none_shown : (site : ℕ) (packs : List PackState) (image : List ℕ) → ArePacks 0 0 site packs → AreShown packs image → both_open_on (map pack_group packs) image ≡ []
none_shown site packs image are shown = no_files (both_open_on (map pack_group packs) image) (sym (mount_calls_are (map pack_group packs) image) ∙ ap (λ (n : ℕ). 2 * n) (gates_shown 0 0 site packs image are shown))
