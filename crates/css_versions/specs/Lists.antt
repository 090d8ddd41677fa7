-- Which files have a member that lags, among the members of an epoch, which are directories, and lists of files by their inodes.
use Rattle.std.specs.Prelude.{ℕ, Bool, true, false, not, List, [], ◌∷◌, filter, map, Option, Some, None}
use Rattle.std.specs.List.{list_any}
use Rattle.locus_ids.specs.declared.ids.Stamp.{Stamp}
use Rattle.locus_ids.specs.declared.sites.Members.{Members}
use Rattle.role_steps.specs.Tables.{row, with_row, without_row}
use Rattle.role_steps.specs.Mends.{is_dir}
use Rattle.role_steps.specs.Versions.{row_ino, is_among, holders_of}
use Rattle.role_steps.specs.Views.{members_of}
use Rattle.role_steps.specs.declared.synchronizing.FileRow.{FileRow}
use Rattle.role_steps.specs.declared.synchronizing.VersionRow.{VersionRow}
use Rattle.css_versions.specs.declared.lists.Listed.{Listed}
use Rattle.css_versions.specs.declared.lists.Lists.{Lists}

-- a member of the file's set doesn't hold this version
abbrev pub is_lacked : Members → FileRow → Stamp → Bool
is_lacked members r stamp = list_any (λ s. not (is_among s (holders_of r stamp))) (members_of members r.set)

abbrev pub lags_by : Members → FileRow → List VersionRow → Bool
lags_by members r [] = false
lags_by members r (v ∷ []) = is_lacked members r v.stamp
lags_by members r (v ∷ w ∷ others) = false

-- a member of the file's set doesn't hold its only kept version
abbrev pub lags : Members → FileRow → Bool
lags members r = lags_by members r r.kept

-- ---- lists of files ----

abbrev pub listed : FileRow → Listed
listed r = record { ino = r.ino }

abbrev pub listed_ino : Listed → ℕ
listed_ino l = l.ino

-- the files that have a member that lags
abbrev pub late_of : Members → List FileRow → List Listed
late_of members rows = map listed (filter (lags members) rows)

-- the directories
abbrev pub directories_of : List FileRow → List Listed
directories_of rows = map listed (filter (λ (r : FileRow). is_dir r.kind) rows)

-- the file is listed, or it isn't
abbrev pub marked : Bool → FileRow → List Listed → List Listed
marked true r late = with_row listed_ino (listed r) late
marked false r late = without_row listed_ino r.ino late

-- the lists once this file was changed
abbrev pub settled : FileRow → Lists → Lists
settled r lists = record lists { late = marked (lags lists.members r) r lists.late }

-- the lists once this file came
abbrev pub joined : FileRow → Lists → Lists
joined r lists = record lists { late = marked (lags lists.members r) r lists.late; directories = marked (is_dir r.kind) r lists.directories }

abbrev pub found_first : Option FileRow → List FileRow → List FileRow
found_first None rows = rows
found_first (Some r) rows = r ∷ rows

-- the rows of the files that are listed
abbrev pub found_rows : List FileRow → List Listed → List FileRow
found_rows rows [] = []
found_rows rows (l ∷ ls) = found_first (row row_ino l.ino rows) (found_rows rows ls)
