-- How versions stand to each other. A history is a list of versions, the newest first.
use Rattle.std.specs.Prelude.{ℕ, ◌==◌, Bool, not, ◌&&◌, ◌||◌, cond, List, [], ◌∷◌, filter, nat_lt}
use Rattle.std.specs.List.{list_any}
use Rattle.locus_ids.specs.declared.ids.FileId.{FileId}
use Rattle.locus_ids.specs.declared.ids.Stamp.{Stamp}
use Rattle.commit_graph.specs.declared.history.Version.{Version}

abbrev pub same_file : FileId → FileId → Bool
same_file a b = (a.group == b.group) && (a.ino == b.ino)

abbrev pub same_stamp : Stamp → Stamp → Bool
same_stamp a b = (a.site == b.site) && (a.n == b.n)

-- the version of this file with this stamp
abbrev pub is_version : FileId → Stamp → Version → Bool
is_version file stamp v = same_file v.file file && same_stamp v.stamp stamp

-- the file has a version with this stamp
abbrev pub is_in : List Version → FileId → Stamp → Bool
is_in history file stamp = list_any (is_version file stamp) history

-- a is b, or an ancestor of a parent of b by the versions that stand before b
abbrev pub is_ancestor : List Version → FileId → Stamp → Stamp → Bool
is_ancestor [] file a b = same_stamp a b
is_ancestor (v ∷ older) file a b = cond (is_version file b v)
    (same_stamp a b || list_any (is_ancestor older file a) v.parents)
    (is_ancestor older file a b)

-- an ancestor, and another version
abbrev pub is_proper_ancestor : List Version → FileId → Stamp → Stamp → Bool
is_proper_ancestor history file a b = not (same_stamp a b) && is_ancestor history file a b

-- the stamp is a proper ancestor of one of these
abbrev pub is_covered : List Version → FileId → List Stamp → Stamp → Bool
is_covered history file brought a = list_any (is_proper_ancestor history file a) brought

-- those of the stamps that are no proper ancestor of another of them, in their order
abbrev pub kept : List Version → FileId → List Stamp → List Stamp
kept history file brought = filter (λ a. not (is_covered history file brought a)) brought

-- the content of the version with this stamp, or no bytes
abbrev pub content_of : List Version → FileId → Stamp → List ℕ
content_of [] file stamp = []
content_of (v ∷ older) file stamp = cond (is_version file stamp v) v.content (content_of older file stamp)

-- stamps are ordered by site, then by number
abbrev pub is_stamp_below : Stamp → Stamp → Bool
is_stamp_below a b = nat_lt a.site b.site || ((a.site == b.site) && nat_lt a.n b.n)

-- a stamp at its place in an ascending list, which has each stamp once
abbrev pub with_stamp : Stamp → List Stamp → List Stamp
with_stamp s [] = s ∷ []
with_stamp s (t ∷ ts) = cond (is_stamp_below s t) (s ∷ t ∷ ts) (cond (same_stamp s t) (t ∷ ts) (t ∷ with_stamp s ts))
