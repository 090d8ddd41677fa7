-- Known versions, file by file.
use Rattle.std.specs.Prelude.{◌≡◌, ℕ, zero, suc, Bool, true, false, cond, List, [], ◌∷◌, ◌++◌}
use Rattle.std.specs.List.{list_all}
use Rattle.locus_ids.specs.declared.ids.FileId.{FileId}
use Rattle.commit_graph.specs.Versions.{same_file}
use Rattle.past_laws.specs.of_promises.Past.{Copy}
use Rattle.past_laws.specs.of_promises.After.{is_copy_below, with_known}
use Rattle.past_laws.specs.Agreement.{ascends}
use Rattle.audit_copies.specs.Below.{is_file_below}

-- the known versions of one file
pub record FileCopies : Type 0 where
  pub file : FileId
  pub copies : List Copy

-- all of them
abbrev pub all_copies : List FileCopies → List Copy
all_copies [] = []
all_copies (f ∷ fs) = f.copies ++ all_copies fs

-- they are of this file, and ascend
pub record IsOfFile (f : FileCopies) : Type 0 where
  pub own : list_all (λ (v : Copy). same_file v.file f.file) f.copies ≡ true
  pub up : ascends is_copy_below f.copies ≡ true

-- so is each file's, and the files ascend
abbrev pub AreByFile : List FileCopies → Type 0
AreByFile [] = Unit {0}
AreByFile (f ∷ fs) = IsOfFile f × ((list_all (λ (g : FileCopies). is_file_below f.file g.file) fs ≡ true) × AreByFile fs)

-- the versions of a file
abbrev pub copies_of : FileId → List FileCopies → List Copy
copies_of file [] = []
copies_of file (f ∷ fs) = cond (same_file f.file file) f.copies (copies_of file fs)

-- one more version is known
abbrev pub with_copy : Copy → List FileCopies → List FileCopies
with_copy v [] = record { file = v.file; copies = v ∷ [] } ∷ []
with_copy v (f ∷ fs) =
    cond (is_file_below f.file v.file) (f ∷ with_copy v fs) (
    cond (same_file f.file v.file) (record f { copies = with_known v f.copies } ∷ fs) (
    record { file = v.file; copies = v ∷ [] } ∷ f ∷ fs))

-- how many files are below this one
abbrev pub file_count : FileId → List FileCopies → ℕ
file_count file [] = 0
file_count file (f ∷ fs) = cond (is_file_below f.file file) (suc (file_count file fs)) 0

-- the file stands at this place
abbrev pub is_file_at : List FileCopies → ℕ → FileId → Bool
is_file_at [] k file = false
is_file_at (f ∷ fs) zero file = same_file f.file file
is_file_at (f ∷ fs) (suc k) file = is_file_at fs k file
