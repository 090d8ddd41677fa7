-- Disks: how many calls an event makes, and what is left where one of them stops the site or fails.
use Rattle.std.specs.Prelude.{ℕ, zero, suc, ◌+◌, Bool, true, false, not, cond, List, [], ◌∷◌, ◌++◌, length, map, Option, Some, None}
use Rattle.std.specs.Option.{is_some}
use Rattle.locus_ids.specs.declared.ids.FileId.{FileId}
use Rattle.disk_calls.specs.of_file_content.Pages.{pages_of}
use Rattle.disk_calls.specs.Versions.{Writing, writing, calls_of_writing, is_written, are_both_open}
use Rattle.role_steps.specs.Tables.{with_row, without_row}
use Rattle.role_steps.specs.Views.{Store, DiskWrite, file_key}
use Rattle.role_steps.specs.Storage.{copy_key, copy_of, content_of}
use Rattle.role_steps.specs.declared.copies.FileCopy.{FileCopy}
pub use Rattle.disk_calls.specs.Gates.{Cut, Stops, Fails, gate_left}
pub use Rattle.disk_calls.specs.Versions.{new_gate, old_gate, blocks, blocks_of}

-- the label: the boot number that counts, and whether both halves have an open gate
pub record Label : Type 0 where
  pub boot : ℕ
  pub both_open : Bool

-- what a stopped site's disk holds: the copies that count, the files of which both gates are open, and the label
pub record Disk : Type 0 where
  pub copies : List FileCopy
  pub both_open : List FileId
  pub label : Label

-- so many calls pass, and the next one is cut off
pub record Armed : Type 0 where
  pub site : ℕ
  pub left : ℕ
  pub how : Cut

-- ---- a commit or an adoption ----

abbrev pub has_older : Store → DiskWrite → Bool
has_older before w = is_some (copy_of before w.copy.file)

-- what is written, over the copy that the site has, if it has one
abbrev pub writing_of : Store → DiskWrite → Writing
writing_of before w = writing (has_older before w) (pages_of (length (content_of (copy_of before w.copy.file)))) (pages_of (length w.copy.content)) w.pages

abbrev pub write_calls : Store → DiskWrite → ℕ
write_calls before w = calls_of_writing (writing_of before w)

abbrev pub file_number : FileId → ℕ
file_number file = file_key file

-- the version is on the disk
abbrev pub is_on_disk : Store → DiskWrite → Cut → ℕ → Bool
is_on_disk before w how passed = is_written (writing_of before w) how passed

abbrev pub both_gates : Store → DiskWrite → Cut → ℕ → List FileId
both_gates before w how passed = cond (are_both_open (writing_of before w) how passed) (w.copy.file ∷ []) []

abbrev pub one_label : ℕ → Label
one_label boot = record { boot = boot; both_open = false }

-- the disk that an event leaves which was cut off in its commit or adoption
abbrev pub cut_disk : ℕ → Store → DiskWrite → Cut → ℕ → Disk
cut_disk boot before w how passed = record {
  copies = cond (is_on_disk before w how passed) (with_row copy_key w.copy before.copies) before.copies;
  both_open = both_gates before w how passed;
  label = one_label boot;
}

-- ---- a boot ----

-- what a boot writes, each followed by a sync
pub data BootWrite : Type 0 where
  -- of two open halves the losing one is closed
  ClosesLosing : BootWrite
  WritesBody : BootWrite
  OpensHalf : BootWrite
  ClosesOther : BootWrite
  -- of two open gates of a file the losing one is closed
  ClosesGate : FileId → BootWrite

abbrev pub boot_writes : Disk → List BootWrite
boot_writes d = cond d.label.both_open (ClosesLosing ∷ []) [] ++ (WritesBody ∷ OpensHalf ∷ ClosesOther ∷ map ClosesGate d.both_open)

abbrev pub written : BootWrite → Disk → Disk
written ClosesLosing d = record d { label = one_label d.label.boot }
written WritesBody d = d
written OpensHalf d = record d { label = record { boot = d.label.boot + 1; both_open = true } }
written ClosesOther d = record d { label = one_label d.label.boot }
written (ClosesGate file) d = record d { both_open = without_row file_number (file_key file) d.both_open }

-- a write that was cut off, or whose sync was, is on the disk
abbrev pub is_left_written : Cut → Bool → BootWrite → Bool
is_left_written how writing WritesBody = false
is_left_written how writing OpensHalf = gate_left how writing false true
is_left_written how writing _ = not (gate_left how writing true false)

pub data Booted : Type 0 where
  -- the disk after a boot, and how many calls still pass, where a script is armed
  Whole : Disk → Option Armed → Booted
  CutOff : Disk → Cut → Booted

abbrev pub cut_off : Cut → Bool → BootWrite → Disk → Booted
cut_off how writing x d = CutOff (cond (is_left_written how writing x) (written x d) d) how

abbrev pub boots_armed : Armed → ℕ → List BootWrite → Disk → Booted
boots_armed a left [] d = Whole d (Some (record a { left = left }))
boots_armed a zero (x ∷ xs) d = cut_off a.how true x d
boots_armed a (suc zero) (x ∷ xs) d = cut_off a.how false x d
boots_armed a (suc (suc left)) (x ∷ xs) d = boots_armed a left xs (written x d)

abbrev pub boots_freely : List BootWrite → Disk → Disk
boots_freely [] d = d
boots_freely (x ∷ xs) d = boots_freely xs (written x d)

abbrev pub boots : Option Armed → Disk → Booted
boots None d = Whole (boots_freely (boot_writes d) d) None
boots (Some a) d = boots_armed a a.left (boot_writes d) d
