-- A content whose unmarked pages are those of the copy so far is what storing its marked pages makes.
use Rattle.std.proofs.Common.{◌≡◌, ℕ, ◌+◌, ◌*◌, ◌/◌, ◌%◌, ◌≤◌, ◌<◌, Bool, true, false, cond, List, [], length, drop, get_or, Option, None, Some, refl, sym, ap, subst, ◌∙◌, arith, length-take, length-drop}
use Rattle.std.specs.Prelude.{is_some, slice_get}
use Rattle.std.proofs.lemmas.Bool.{lt-ltb, false≢true}
use Rattle.std.proofs.lemmas.List.{same_lists, get_or_default, get_or-take, get_or-drop}
use Rattle.locus_ids.specs.Sizes.{inodes_max, page_bytes}
use Rattle.file_content.specs.Pages.{pages_of, page_of}
use Rattle.inode_pack.specs.of_shadow_pages.Working.{byte_in, byte_at, content}
use Rattle.inode_pack.proofs.of_shadow_pages.Bytes.{length_below, below_at}
use Rattle.pack_slots.specs.of_inode_switch.View.{Version, view}
use Rattle.pack_slots.specs.declared.inode_copy.InodeCopy.{InodeCopy}
use Rattle.inode_pack.specs.Pack.{PackState, Shows}
use Rattle.pack_slots.specs.Copies.{AreCopies, copy_of}
use Rattle.inode_pack.specs.of_new_contents.Whole.{full_page}
use Rattle.inode_pack.specs.of_new_contents.Marked.{is_marked, page_if, marked}
use Rattle.inode_pack.specs.Committing.{size_of, content_of}
use Rattle.inode_pack.proofs.of_new_contents.Whole.{page_byte}
use Rattle.inode_pack.proofs.of_new_contents.Marked.{page_here}
use Rattle.pack_layout.specs.of_stored_versions.Changes.{IsKept}
use Rattle.site_packs.specs.Marking.{Fills, FillsAt, KeepsRest}
use Rattle.locus_ids.specs.declared.ids.FileId.{FileId}
use Rattle.role_steps.specs.Storage.{content_of as content_at_site}
use Rattle.site_packs.specs.Packs.{PacksState, ArePacks, AreShown, pack_in, copy_at}
use Rattle.site_packs.proofs.Behind.{some_at}
use Rattle.site_packs.proofs.Reports.{found_pack}
use Rattle.site_packs.proofs.Contents.{content_at}
use Rattle.site_packs.proofs.Seen.{held_none, held_some}

pub size_by : (pack : PackState) (ino : ℕ) (image : List ℕ) (o : Option InodeCopy) → AreCopies pack.copies → Shows pack image → 1 ≤ ino → ino ≤ inodes_max → copy_of pack.copies ino ≡ o → size_of o ≡ length (content_of (view image pack.base ino))
size_by pack ino image None are shows low high is = sym (ap (λ (o : Option Version). length (content_of o)) (held_none pack ino image are shows low high is))
size_by pack ino image (Some copy) are shows low high is =
    let held = held_some pack ino image copy are shows low high is in
    sym (ap (λ (o : Option Version). length (content_of o)) held.seen ∙ held.size)

not_none : (b : Bool) (page : List ℕ) → page_if b page ≡ None → b ≡ false
not_none true page is = absurd (let e : Some page ≡ None = is in cc)
not_none false page is = refl

module _ (pack : PackState) (ino : ℕ) (image new : List ℕ) (marks : List Bool) (are : AreCopies pack.copies) (shows : Shows pack image) (low : 1 ≤ ino) (high : ino ≤ inodes_max) where
  abbrev old : List ℕ
  old = content_of (view image pack.base ino)

  module _ (kept : KeepsRest (content_of (view image pack.base ino)) new marks) where
    -- the bytes of an unmarked page
    kept_long : (page k : ℕ) → page_bytes * page + k < length new → k < page_bytes → is_marked marks page ≡ false → page_bytes * page + k < length old
    kept_long page k lt small unmarked =
        let e = ap (λ (l : List ℕ). length l) (kept page (omega arith) unmarked) in
        omega (arith, length-take (length (page_of new page)) (page_of old page), length-take page_bytes (drop (page_bytes * page) new), length-drop (page_bytes * page) new, length-take page_bytes (drop (page_bytes * page) old), length-drop (page_bytes * page) old)

    kept_byte : (page k : ℕ) → page_bytes * page + k < length new → k < page_bytes → is_marked marks page ≡ false → get_or old (page_bytes * page + k) 0 ≡ get_or new (page_bytes * page + k) 0
    kept_byte page k lt small unmarked =
        let n = length (page_of new page) in
        let e = kept page (omega arith) unmarked in
        let within : k < n = omega (arith, length-take page_bytes (drop (page_bytes * page) new), length-drop (page_bytes * page) new) in
        sym (get_or-drop (page_bytes * page) old k 0) ∙ sym (get_or-take page_bytes (drop (page_bytes * page) old) k 0 small) ∙ sym (get_or-take n (page_of old page) k 0 within)
        ∙ ap (λ (l : List ℕ). get_or l k 0) e
        ∙ get_or-take page_bytes (drop (page_bytes * page) new) k 0 small ∙ get_or-drop (page_bytes * page) new k 0

    byte_by : (page k : ℕ) → page_bytes * page + k < length new → k < page_bytes → (b : Bool) → is_marked marks page ≡ b → byte_in (page_if b (full_page new page)) k (get_or old (page_bytes * page + k) 0) ≡ get_or new (page_bytes * page + k) 0
    byte_by page k lt small true is = page_byte new page k small
    byte_by page k lt small false is = kept_byte page k lt small is

    pub fills_kept : Fills pack ino new (marked new marks) image
    fills_kept = record {
      rests = λ k lt none.
          let i = k / page_bytes in
          let parts : page_bytes * (k / page_bytes) + k % page_bytes ≡ k = omega arith in
          let unmarked = not_none (is_marked marks i) (full_page new i) (sym (page_here new marks i (omega arith)) ∙ none) in
          let inside = kept_long i (k % page_bytes) (omega arith) (omega arith) unmarked in
          let size = size_by pack ino image (copy_of pack.copies ino) are shows low high refl in
          omega arith;
      is =
          let w = marked new marks in
          let n = length new in
          let long = length_below (byte_at old w) n in
          same_lists (content old w) new long (λ k d lt.
          let less : k < n = omega (arith, long) in
          let i = k / page_bytes in
          let r = k % page_bytes in
          let parts : page_bytes * (k / page_bytes) + k % page_bytes ≡ k = omega arith in
          get_or_default (content old w) k d 0 lt
          ∙ below_at (byte_at old w) n k ∙ ap (λ (b : Bool). cond b (byte_at old w k) 0) (lt-ltb k n less)
          ∙ ap (λ (o : Option (List ℕ)). byte_in o r (get_or old k 0)) (page_here new marks i (omega arith))
          ∙ ap (λ (m : ℕ). byte_in (page_if (is_marked marks i) (full_page new i)) r (get_or old m 0)) (sym parts)
          ∙ byte_by i r (omega arith) (omega arith) (is_marked marks i) refl
          ∙ ap (λ (m : ℕ). get_or new m 0) parts
          ∙ get_or_default new k 0 d less);
    }

-- nothing of an empty content is kept
pub none_kept : (new : List ℕ) (page : ℕ) → page < pages_of (length new) → IsKept [] new page → ⊥
none_kept new page lt kept =
    let e = ap (λ (l : List ℕ). length l) kept in
    let none : List ℕ = [] in
    omega (arith, length-take (length (page_of new page)) (page_of none page), length-take page_bytes (drop (page_bytes * page) new), length-drop (page_bytes * page) new, length-take page_bytes (drop (page_bytes * page) none), length-drop (page_bytes * page) none)

fills_by : (p : PacksState) (image : List ℕ) (file : FileId) (new : List ℕ) (marks : List Bool) (o : Option PackState) → ArePacks 0 0 p.site p.packs → AreShown p.packs image → pack_in file.group p.packs ≡ o → is_some o ≡ true → 1 ≤ file.ino → file.ino ≤ inodes_max
    → KeepsRest (content_at_site (copy_at p image file)) new marks → FillsAt o file.ino new (marked new marks) image
fills_by p image file new marks None are shown is some low high keeps = absurd (false≢true some)
fills_by p image file new marks (Some pack) are shown is some low high keeps =
    let f = found_pack p.site file.group p.packs image pack are shown is in
    fills_kept pack file.ino image new marks f.here.copies f.shows low high
    (subst (λ (l : List ℕ). KeepsRest l new marks) (content_at p image file are shown (omega arith) pack is low high) keeps)

-- the marked pages make the content in the pack of the group
pub fills_at : (p : PacksState) (image : List ℕ) (file : FileId) (at ino : ℕ) (new : List ℕ) (marks : List Bool) → ArePacks 0 0 p.site p.packs → AreShown p.packs image → at < length p.packs → slice_get p.packs at ≡ pack_in file.group p.packs → ino ≡ file.ino → 1 ≤ file.ino → file.ino ≤ inodes_max
    → KeepsRest (content_at_site (copy_at p image file)) new marks → FillsAt (pack_in file.group p.packs) ino new (marked new marks) image
fills_at p image file at ino new marks are shown inside place own low high keeps =
    subst (λ (n : ℕ). FillsAt (pack_in file.group p.packs) n new (marked new marks) image) (sym own)
    (fills_by p image file new marks (pack_in file.group p.packs) are shown refl (sym (ap (λ (o : Option PackState). is_some o) place) ∙ some_at p.packs at inside) low high keeps)
