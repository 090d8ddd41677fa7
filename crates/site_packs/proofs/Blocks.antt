-- A pack writes as many pages and tables as the site's copies tell.
use Rattle.std.proofs.Common.{◌≡◌, ℕ, ◌+◌, ◌≤◌, ◌<◌, Bool, true, List, [], length, Option, None, Some, refl, sym, ap, ◌∙◌, arith}
use Rattle.std.specs.Prelude.{is_some, slice_get}
use Rattle.std.specs.Option.{option_map}
use Rattle.std.proofs.lemmas.Bool.{false≢true}
use Rattle.locus_ids.specs.Sizes.{inodes_max}
use Rattle.locus_ids.specs.declared.ids.FileId.{FileId}
use Rattle.file_content.specs.Pages.{pages_of, has_page, tables_written, ascending}
use Rattle.file_content.proofs.Paging.{length_ascending}
use Rattle.inode_pack.specs.Pack.{PackState}
use Rattle.pack_slots.specs.Copies.{copy_of}
use Rattle.inode_pack.specs.of_shadow_pages.Working.{Working}
use Rattle.inode_pack.specs.of_new_contents.declared.laid_pages.LaidPages.{LaidPages}
use Rattle.inode_pack.specs.of_new_contents.Laid.{working_of}
use Rattle.inode_pack.specs.of_new_contents.Marked.{marked}
use Rattle.inode_pack.specs.of_new_contents.Changed.{needed}
use Rattle.inode_pack.specs.Committing.{size_of, changed_below}
use Rattle.inode_pack.proofs.of_new_contents.Marked.{needed_marked}
use Rattle.pack_layout.specs.of_stored_versions.declared.new_version.NewVersion.{NewVersion}
use Rattle.wire_messages.specs.declared.body.ReportedCopy.{ReportedCopy}
use Rattle.role_steps.specs.Storage.{content_of, reported}
use Rattle.role_steps.specs.declared.copies.FileCopy.{FileCopy}
use Rattle.site_packs.specs.Packs.{PacksState, ArePacks, AreShown, pack_in, copy_at}
use Rattle.site_packs.specs.Committing.{blocks_over}
use Rattle.page_marks.specs.Laying.{AreLaid}
use Rattle.site_packs.specs.Laying.{content_over}
use Rattle.page_marks.specs.Marking.{AreMarks, AreMarked}
use Rattle.site_packs.specs.Marking.{blocks_at}
use Rattle.site_packs.specs.declared.admitting.Admitted.{Admitted}
use Rattle.site_packs.specs.Planning.{IsAdmitted}
use Rattle.site_packs.proofs.Behind.{some_at}
use Rattle.site_packs.proofs.Reports.{found_pack}
use Rattle.site_packs.proofs.Contents.{content_at}
use Rattle.site_packs.proofs.Fills.{size_by}
use Rattle.site_packs.proofs.Laid.{laid_long}
use Rattle.page_marks.proofs.WrittenTables.{tables_same, tables_ascending, are_marked}
use Rattle.site_packs.proofs.WrittenTables.{has_marked, has_laid, needed_laid}

blocks_by : (p : PacksState) (image : List ℕ) (file : FileId) (new changed : List ℕ) (w : Working) (o : Option PackState) → ArePacks 0 0 p.site p.packs → AreShown p.packs image → pack_in file.group p.packs ≡ o → is_some o ≡ true → 1 ≤ file.ino → file.ino ≤ inodes_max
    → w.size ≡ length new → needed w ≡ length changed → ((i : ℕ) → has_page (changed_below w (pages_of w.size)) i ≡ has_page changed i) → blocks_at o file.ino w ≡ blocks_over (copy_at p image file) new changed
blocks_by p image file new changed w None are shown is some low high long need these = absurd (false≢true some)
blocks_by p image file new changed w (Some pack) are shown is some low high long need these =
    let f = found_pack p.site file.group p.packs image pack are shown is in
    let held = copy_at p image file in
    let n = pages_of w.size in
    let before = pages_of (length (content_of held)) in
    let size : size_of (copy_of pack.copies file.ino) ≡ length (content_of held) = size_by pack file.ino image (copy_of pack.copies file.ino) f.here.copies f.shows low high refl ∙ sym (ap (λ (l : List ℕ). length l) (content_at p image file are shown (omega arith) pack is low high)) in
    let tables = ap (λ (k : ℕ). tables_written (pages_of k) n (changed_below w n)) size ∙ tables_same before n (changed_below w n) changed these ∙ ap (λ (k : ℕ). tables_written before (pages_of k) changed) long in
    (λ i. need i + length (tables i))

module _ (p : PacksState) (image : List ℕ) (file : FileId) (at ino : ℕ) (are : ArePacks 0 0 p.site p.packs) (shown : AreShown p.packs image) (inside : at < length p.packs) (place : slice_get p.packs at ≡ pack_in file.group p.packs) (own : ino ≡ file.ino) (low : 1 ≤ file.ino) (high : file.ino ≤ inodes_max) where
  blocks_in : (new changed : List ℕ) (w : Working) → w.size ≡ length new → needed w ≡ length changed → ((i : ℕ) → has_page (changed_below w (pages_of w.size)) i ≡ has_page changed i) → blocks_at (pack_in file.group p.packs) ino w ≡ blocks_over (copy_at p image file) new changed
  blocks_in new changed w long need these =
      ap (λ (n : ℕ). blocks_at (pack_in file.group p.packs) n w) own
      ∙ blocks_by p image file new changed w (pack_in file.group p.packs) are shown refl (sym (ap (λ (o : Option PackState). is_some o) place) ∙ some_at p.packs at inside) low high long need these

  -- the blocks of a commit
  blocks_changed : (new changed : List ℕ) (marks : List Bool) → needed (marked new marks) ≡ length changed → AreMarked (pages_of (length new)) changed marks → blocks_at (pack_in file.group p.packs) ino (marked new marks) ≡ blocks_over (copy_at p image file) new changed
  blocks_changed new changed marks need these = blocks_in new changed (marked new marks) refl need (has_marked new changed marks these)

  -- those of an adoption
  pub blocks_laid : (came : LaidPages) (marks : List Bool) → AreMarks (pages_of came.size) came.numbers.now marks → AreLaid (length (content_of (copy_at p image file))) came
      → blocks_at (pack_in file.group p.packs) ino (working_of came) ≡ blocks_over (copy_at p image file) (content_over p image file came) came.numbers.now
  blocks_laid came marks these fit =
      blocks_in (content_over p image file came) came.numbers.now (working_of came) (sym (laid_long came.size came.numbers.now came.bytes.now (content_of (copy_at p image file)) fit.bytes fit.kept))
      (needed_laid came.size came.numbers.now came.bytes.now marks these) (has_laid came.size came.numbers.now came.bytes.now marks these)

-- those of a commit that was admitted
pub admitted_blocks : (p : PacksState) (image : List ℕ) (file : FileId) (given : NewVersion) (content changed : List ℕ) (admitted : Admitted) → ArePacks 0 0 p.site p.packs → AreShown p.packs image → IsAdmitted p image file given content changed admitted
    → blocks_at (pack_in file.group p.packs) admitted.plan.ino (marked content admitted.marks) ≡ blocks_over (copy_at p image file) content changed
admitted_blocks p image file given content changed admitted are shown is =
    let plan = is.plan in
    blocks_changed p image file admitted.plan.at admitted.plan.ino are shown plan.inside plan.place plan.own plan.whole.low plan.whole.high content changed admitted.marks (needed_marked content admitted.marks ∙ is.marks.number) (are_marked (pages_of (length content)) changed admitted.marks is.marks)

-- ---- in ascending order ----

pub blocks_ascending : (held : Option FileCopy) (content changed : List ℕ) → blocks_over held content changed ≡ blocks_over held content (ascending changed)
blocks_ascending held content changed =
    let many = sym (length_ascending changed) in
    let tables = sym (tables_ascending (pages_of (length (content_of held))) (pages_of (length content)) changed) in
    (λ i. many i + length (tables i))

-- ---- what is told of a copy ----

pub some_reported : (held : Option FileCopy) → is_some (option_map reported held) ≡ is_some held
some_reported None = refl
some_reported (Some x) = refl

-- what is told of a write that was cut off
pub written_size : (held : Option FileCopy) (content changed : List ℕ) (before tables : ℕ) (head : Option ReportedCopy) → head ≡ option_map reported held → before ≡ pages_of (length (content_of held)) → tables ≡ length (tables_written before (pages_of (length content)) changed)
    → (length changed + tables ≡ blocks_over held content changed) × (is_some head ≡ is_some held)
written_size held content changed before tables head is pages counted = (
  ap (λ (n : ℕ). length changed + n) (counted ∙ ap (λ (n : ℕ). length (tables_written n (pages_of (length content)) changed)) pages),
  ap (λ (o : Option ReportedCopy). is_some o) is ∙ some_reported held,
)
