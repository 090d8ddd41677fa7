-- The version that a commit makes: its content is the shadow's over what the inode had.
use Rattle.std.proofs.Common.{◌≡◌, ℕ, ◌+◌, ◌*◌, ◌/◌, ◌%◌, ◌<◌, Bool, false, List, length, get_or, Option, None, Some, refl, sym, ap, subst, ◌∙◌, arith, cond}
use Rattle.std.specs.Prelude.{is_some}
use Rattle.std.proofs.lemmas.Bool.{lt-ltb}
use Rattle.std.proofs.lemmas.List.{same_lists, get_or_default}
use Rattle.locus_ids.specs.Sizes.{page_bytes}
use Rattle.pack_layout.specs.Layout.{slot_at, page_at}
use Rattle.pack_layout.specs.SlotFields.{fields_of}
use Rattle.new_contents.specs.of_shadow_pages.Working.{Working, page_at as shadow_page, byte_in, byte_at, content}
use Rattle.new_contents.proofs.of_shadow_pages.Bytes.{length_below, below_at}
use Rattle.inode_switch.specs.Slots.{Holds}
use Rattle.inode_switch.specs.View.{Version, version, version_in, view}
use Rattle.inode_switch.specs.Replace.{made_version, made_bytes}
use Rattle.inode_switch.proofs.VersionBytes.{content_length, content_byte}
use Rattle.pack_slots.specs.declared.inode_copy.InodeCopy.{InodeCopy}
use Rattle.stored_versions.specs.declared.new_version.NewVersion.{NewVersion}
use Rattle.inode_pack.specs.Pack.{PackState, number_in, Shows}
use Rattle.pack_slots.specs.Copies.{numbers_in, copy_of, ShowsCopy}
use Rattle.pack_slots.specs.Slots.{IsFound}
use Rattle.inode_pack.specs.Committing.{Makes, is_free, is_free_table, size_of, content_of, new_version}
use Rattle.pack_slots.proofs.Counting.{found_counts}
use Rattle.inode_pack.proofs.Setup.{Setup, copy_is, held_page, page_named}
use Rattle.inode_pack.proofs.Making.{pieces, copy_says, copy_numbers, new_says, new_numbers, new_area, kept_byte, changed_byte}

-- what the view has of an inode with a copy
pub view_of : (pack : PackState) (ino : ℕ) (w : Working) (made : InodeCopy) (s : Setup pack ino w made) (old : List ℕ) (shows : Shows pack old) (copy : InodeCopy) → copy_of pack.copies ino ≡ Some copy
    → (Holds old (slot_at pack.base ino copy.half) copy.slot) × (view old pack.base ino ≡ Some (version old pack.base (slot_at pack.base ino copy.half)))
view_of pack ino w made s old shows copy held =
    let shown = subst (λ (o : Option InodeCopy). ShowsCopy pack.base ino old o) held (shows.copies ino s.low s.high) in
    let found : IsFound pack.base ino old (Some copy) false = record { says = shown.0; own = copy_is pack.copies ino copy s.are held; tables = shown.1 } in
    let counts = found_counts pack.base ino old (Some copy) false found in
    (shown.0.bytes, ap (λ (o : Option ℕ). version_in old pack.base o) counts.place)

module _ (pack : PackState) (ino : ℕ) (w : Working) (made : InodeCopy) (s : Setup pack ino w made) (old : List ℕ) (shows : Shows pack old) where
  abbrev gate : ℕ
  gate = slot_at pack.base ino made.half

  abbrev new : List ℕ
  new = made_bytes pack.base ino made.half (pieces pack ino w made s) old

  abbrev base_content : List ℕ
  base_content = content_of (view old pack.base ino)

  new_length : length (version new pack.base gate).content ≡ w.size
  new_length = content_length new pack.base gate made.slot (numbers_in made) s.slot (new_says pack ino w made s old shows) s.names (new_numbers pack ino w made s old shows) (new_area pack ino w made s old shows) ∙ s.size

  new_byte : (k : ℕ) → k < w.size → get_or (version new pack.base gate).content k 0 ≡ get_or new (page_at pack.base (get_or (numbers_in made) (k / page_bytes) 0) + k % page_bytes) 0
  new_byte k lt = let e = s.size in content_byte new pack.base gate made.slot (numbers_in made) s.slot (new_says pack ino w made s old shows) s.names (new_numbers pack ino w made s old shows) (new_area pack ino w made s old shows) k (omega arith)

  -- the byte that the shadow has
  right : (k : ℕ) → k < w.size → (o : Option (List ℕ)) → o ≡ shadow_page w.pages (k / page_bytes) → get_or new (page_at pack.base (get_or (numbers_in made) (k / page_bytes) 0) + k % page_bytes) 0 ≡ byte_in o (k % page_bytes) (get_or base_content k 0)
  right k lt (Some page) is = changed_byte pack ino w made s old shows (k / page_bytes) (k % page_bytes) page (omega arith) (sym is) (omega arith)
  right k lt None is =
      let i = k / page_bytes in
      let r = k % page_bytes in
      let parts : k ≡ page_bytes * (k / page_bytes) + k % page_bytes = omega arith in
      let small : k < size_of (copy_of pack.copies ino) = s.rests k lt (sym is) in
      let h = held_page (copy_of pack.copies ino) i (omega arith) in
      let copy = h.0 in
      let v = view_of pack ino w made s old shows copy h.1 in
      let c = copy_is pack.copies ino copy s.are h.1 in
      let unchanged : get_or (numbers_in made) i 0 ≡ get_or (numbers_in copy) i 0 = s.takes.stays i (omega arith) (ap (λ (o : Option (List ℕ)). is_some o) (sym is)) ∙ ap (λ (o : Option InodeCopy). number_in o i) h.1 in
      let fits : k < copy.slot.size = (let e = ap size_of h.1 in omega arith) in
      ap (λ (p : ℕ). get_or new (page_at pack.base p + r) 0) unchanged
      ∙ kept_byte pack ino w made s old shows (get_or (numbers_in copy) i 0) r (omega arith) (page_named pack.copies ino i copy s.are h.1 h.2)
      ∙ sym (content_byte old pack.base (slot_at pack.base ino copy.half) copy.slot (numbers_in copy) c.slot (copy_says pack ino w made s old shows ino copy.half copy h.1 v.0) c.pages (copy_numbers pack ino w made s old shows ino copy.half copy s.low s.high h.1 v.0) shows.area k fits)
      ∙ ap (λ (o : Option Version). get_or (content_of o) k 0) (sym v.1)

  same_content : (version new pack.base gate).content ≡ content base_content w
  same_content =
      let long = new_length in
      let count : length (version new pack.base gate).content ≡ length (content base_content w) = long ∙ sym (length_below (byte_at base_content w) w.size) in
      same_lists (version new pack.base gate).content (content base_content w) count (λ k d lt.
      let less : k < w.size = omega arith in
      get_or_default (version new pack.base gate).content k d 0 lt
      ∙ new_byte k less ∙ right k less (shadow_page w.pages (k / page_bytes)) refl
      ∙ sym (below_at (byte_at base_content w) w.size k ∙ ap (λ (b : Bool). cond b (byte_at base_content w k) 0) (lt-ltb k w.size less))
      ∙ get_or_default (content base_content w) k 0 d (omega arith))

  pub version_made : (given : NewVersion) → Makes (is_free pack.copies) (is_free_table pack.copies) (copy_of pack.copies ino) ino given w made
      → made_version pack.base ino made.half (pieces pack ino w made s) old ≡ new_version pack.base ino given w old
  version_made given makes =
      let fields = (new_says pack ino w made s old shows).fields ∙ ap fields_of makes.says in
      let all = same_content in
      (λ i. record { fields = fields i; content = all i })
