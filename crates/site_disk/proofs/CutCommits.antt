-- What the run has left of a commit or an adoption that is cut off.
use Rattle.std.proofs.Common.{◌≡◌, ℕ, ◌+◌, ◌==◌, Bool, true, false, cond, List, [], ◌∷◌, length, sym, ◌∙◌, ap, subst, arith}
use Rattle.std.specs.Prelude.{nat_lt, is_some, ◌&&◌}
use Rattle.gate_switch.specs.Gates.{new_gate as new_gate_left, old_gate as old_gate_left}
use Rattle.role_steps.specs.Tables.{row, with_row}
use Rattle.role_steps.specs.Storage.{copy_key, copy_of}
use Rattle.role_steps.specs.Views.{Store, DiskWrite, file_key}
use Rattle.role_steps.specs.declared.copies.FileCopy.{FileCopy}
use Rattle.locus_ids.specs.declared.ids.FileId.{FileId}
use Rattle.the_run.specs.Disks.{Disk, Cut, new_gate, old_gate, both_gates, is_on_disk, cut_disk, writing_of, blocks, blocks_of}
use Rattle.site_packs.specs.Copies.{copies_on}
use Rattle.site_packs.specs.Committing.{blocks_over}
use Rattle.site_packs.specs.Cutting.{IsCut, both_open_on}
use Rattle.site_packs.specs.Packs.{PacksState, groups_of}
use Rattle.site_label.specs.Cutting.{LabelState}
use Rattle.site_disk.specs.Image.{label_on, one_half}
use Rattle.site_disk.specs.Run.{as_label, as_cut, disk_on}
use Rattle.site_disk.proofs.CutRuns.{gate_same}

pub new_same : (pages : ℕ) (how : Cut) (passed : ℕ) → new_gate pages how passed ≡ new_gate_left pages (as_cut how) passed
new_same pages how passed =
    ap (λ (b : Bool). cond (nat_lt passed (pages + 2)) false (cond (nat_lt passed (pages + 4)) b true)) (gate_same how (passed == pages + 2) false true)

pub old_same : (pages : ℕ) (how : Cut) (passed : ℕ) → old_gate pages how passed ≡ old_gate_left pages (as_cut how) passed
old_same pages how passed = ap (λ (b : Bool). cond (nat_lt passed (pages + 4)) true b) (gate_same how (passed == pages + 4) true false)

abbrev copies_with : FileCopy → Bool → List FileCopy → List FileCopy
copies_with made open_now copies = cond open_now (with_row copy_key made copies) copies

abbrev files_with : FileCopy → Bool → Bool → List FileCopy → List FileId
files_with made newer older copies = cond (is_some (row copy_key (file_key made.file) copies) && (newer && older)) (made.file ∷ []) []

-- a block is a page or a table
blocks_are : (pages tables : List ℕ) → blocks_of pages tables ≡ length pages + length tables
blocks_are pages [] = omega arith
blocks_are pages (table ∷ tables) = omega (arith, blocks_are pages tables)

-- the run counts the same blocks
pub same_blocks : (before : Store) (w : DiskWrite) → blocks_over (copy_of before w.copy.file) w.copy.content w.pages ≡ blocks (writing_of before w)
same_blocks before w = sym (blocks_are w.pages (writing_of before w).tables)

cut_counted : (p : PacksState) (boot : ℕ) (before : Store) (w : DiskWrite) (how : Cut) (passed : ℕ) (image after : List ℕ) → IsCut p w.copy (blocks (writing_of before w)) (as_cut how) passed image after
    → copies_on (groups_of p) image ≡ before.copies → label_on after ≡ one_half boot → disk_on (groups_of p) after ≡ cut_disk boot before w how passed
cut_counted p boot before w how passed image after h same label =
    let newer : new_gate_left (blocks (writing_of before w)) (as_cut how) passed ≡ new_gate (blocks (writing_of before w)) how passed = sym (new_same (blocks (writing_of before w)) how passed) in
    let older : old_gate_left (blocks (writing_of before w)) (as_cut how) passed ≡ old_gate (blocks (writing_of before w)) how passed = sym (old_same (blocks (writing_of before w)) how passed) in
    let copies : copies_on (groups_of p) after ≡ copies_with w.copy (new_gate (blocks (writing_of before w)) how passed) before.copies =
    h.copies ∙ (ap (λ (b : Bool). copies_with w.copy b (copies_on (groups_of p) image)) newer ∙ ap (λ (l : List FileCopy). copies_with w.copy (new_gate (blocks (writing_of before w)) how passed) l) same) in
    let both : both_open_on (groups_of p) after ≡ files_with w.copy (new_gate (blocks (writing_of before w)) how passed) (old_gate (blocks (writing_of before w)) how passed) before.copies =
    h.both
    ∙ (ap (λ (b : Bool). files_with w.copy b (old_gate_left (blocks (writing_of before w)) (as_cut how) passed) (copies_on (groups_of p) image)) newer
    ∙ (ap (λ (b : Bool). files_with w.copy (new_gate (blocks (writing_of before w)) how passed) b (copies_on (groups_of p) image)) older
    ∙ ap (λ (l : List FileCopy). files_with w.copy (new_gate (blocks (writing_of before w)) how passed) (old_gate (blocks (writing_of before w)) how passed) l) same)) in
    (λ i. record { copies = copies i; both_open = both i; label = as_label (label i) })

pub cut_commits : (p : PacksState) (boot : ℕ) (before : Store) (w : DiskWrite) (how : Cut) (passed : ℕ) (image after : List ℕ) → IsCut p w.copy (blocks_over (copy_of before w.copy.file) w.copy.content w.pages) (as_cut how) passed image after
    → copies_on (groups_of p) image ≡ before.copies → label_on after ≡ one_half boot → disk_on (groups_of p) after ≡ cut_disk boot before w how passed
cut_commits p boot before w how passed image after h same label = cut_counted p boot before w how passed image after (subst (λ (n : ℕ). IsCut p w.copy n (as_cut how) passed image after) (same_blocks before w) h) same label
