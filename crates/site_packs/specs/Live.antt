-- Which copies are known to have no removed entry.
use Rattle.std.specs.Prelude.{◌≡◌, ◌≢◌, ◌⊎◌, ℕ, ◌+◌, ◌*◌, Bool, true, false, ◌&&◌, nat_le, List, ◌∷◌, length, drop, slice_index_or}
use Rattle.std.specs.List.{list_all}
use Rattle.locus_ids.specs.Sizes.{inodes_max}
use Rattle.locus_ids.specs.declared.ids.FileId.{FileId}
use Rattle.role_steps.specs.of_dir_format.Contents.{entries_from, is_odd, count_at}
use Rattle.role_steps.specs.of_dir_format.Entries.{is_live}
use Rattle.role_steps.specs.Views.{file_key}

-- a walk over the bytes of a content finds live entries alone
abbrev pub is_all_live : List ℕ → Bool
is_all_live content = list_all is_live (entries_from (length content) content)

-- the bytes begin with a live entry, and these follow it
pub record IsBehindLive (bytes after : List ℕ) : Type 0 where
  pub named : ℕ
  pub rest : List ℕ
  pub split : bytes ≡ named ∷ rest
  pub live : is_odd (count_at named rest) ≡ true
  pub behind : after ≡ drop (named + 7) rest

-- the place of a file among the marks: each group has one for each inode
abbrev pub mark_place : FileId → ℕ
mark_place file = file.group * (inodes_max + 1) + file.ino

-- the copy of the file is known to have no removed entry
abbrev pub is_marked : List Bool → FileId → Bool
is_marked marks file = nat_le file.ino inodes_max && slice_index_or marks (mark_place file) false

-- after a mark was set for a file, another has the one it had
abbrev pub MarkedBy : List Bool → FileId → Bool → FileId → Type 0
MarkedBy old file mark other = ((file_key file ≡ file_key other) × (mark ≡ true)) ⊎ ((file_key file ≢ file_key other) × (is_marked old other ≡ true))

-- after the copy of a file got this content, what is marked of another one was marked before, and of the file itself is so
abbrev pub IsNoted : List Bool → FileId → List ℕ → FileId → Type 0
IsNoted old file content other = ((file_key file ≡ file_key other) × (is_all_live content ≡ true)) ⊎ ((file_key file ≢ file_key other) × (is_marked old other ≡ true))
