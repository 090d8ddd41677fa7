-- Regular histories, in which written vectors tell ancestors. A history is a list of versions, the newest first.
use Rattle.std.specs.Prelude.{◌==◌, ◌≤◌, Bool, true, false, not, ◌&&◌, ◌||◌, cond, nat_le, List, [], ◌∷◌, length}
use Rattle.std.specs.List.{list_all, list_any}
use Rattle.locus_ids.specs.Sizes.{sites_max, file_bytes_max}
use Rattle.locus_ids.specs.declared.ids.FileId.{FileId}
use Rattle.commit_graph.specs.declared.history.Version.{Version}
use Rattle.commit_graph.specs.Versions.{same_file, is_in}
use Rattle.commit_graph.specs.Counters.{next_number}

-- the file has a version
abbrev pub has_file : List Version → FileId → Bool
has_file history file = list_any (λ (v : Version). same_file v.file file) history

abbrev pub is_none_of : {X : Type 0} → List X → Bool
is_none_of [] = true
is_none_of (x ∷ xs) = false

-- a version that no site committed, as the format makes them: it has no number and no parents
abbrev pub is_formatted : Version → Bool
is_formatted v = (v.site == 0) && ((v.stamp.n == 0) && is_none_of v.parents)

-- a site committed the version, with its next number on top of these parents
abbrev pub is_numbered : List Version → Version → Bool
is_numbered older v = nat_le 1 v.site && (nat_le v.site sites_max && (v.stamp.n == next_number older v.file v.parents v.site))

-- the first version of a file has no parents, and each later one has some
abbrev pub is_rooted : List Version → Version → Bool
is_rooted older v = cond (has_file older v.file) (not (is_none_of v.parents)) (is_none_of v.parents)

-- A version stands on these as it should: its parents are among them, its stamp is new and names its site, and it has that
-- site's next number.
abbrev pub stands_on : List Version → Version → Bool
stands_on older v =
    list_all (is_in older v.file) v.parents
    && (is_rooted older v
    && (not (is_in older v.file v.stamp)
    && ((v.stamp.site == v.site)
    && (is_formatted v || is_numbered older v))))

-- each version stands on those before it as it should
abbrev pub is_regular : List Version → Bool
is_regular [] = true
is_regular (v ∷ older) = is_regular older && stands_on older v

-- What is asked of every history that is kept.

-- each version is of a site that there may be, or of none
abbrev pub AllSited : List Version → Type 0
AllSited [] = Unit {0}
AllSited (v ∷ older) = (v.site ≤ sites_max) × AllSited older

-- no content is longer than a content may be
abbrev pub AllShort : List Version → Type 0
AllShort [] = Unit {0}
AllShort (v ∷ older) = (length v.content ≤ file_bytes_max) × AllShort older
