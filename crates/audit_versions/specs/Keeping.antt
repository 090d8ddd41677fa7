-- The kept ones of some versions of a file, when one more comes.
use Rattle.std.specs.Prelude.{◌≡◌, ◌==◌, Bool, true, not, ◌&&◌, ◌||◌, cond, List, [], ◌∷◌, filter, Option, None, Some}
use Rattle.locus_ids.specs.declared.ids.FileId.{FileId}
use Rattle.locus_ids.specs.declared.ids.Stamp.{Stamp}
use Rattle.commit_graph.specs.declared.history.Version.{Version}
use Rattle.commit_graph.specs.Versions.{is_in, is_covered, is_proper_ancestor, is_stamp_below, with_stamp}

-- one more among the kept ones, by tests against these alone: it is covered and nothing changes, or it comes in and those that
-- it covers go
abbrev pub kept_with : List Version → FileId → List Stamp → Stamp → List Stamp
kept_with history file kept new = cond (is_covered history file kept new)
    kept
    (with_stamp new (filter (λ k. not (is_proper_ancestor history file k new)) kept))

-- each is a version of the file
abbrev pub AllIn : List Version → FileId → List Stamp → Type 0
AllIn history file [] = Unit {0}
AllIn history file (s ∷ ss) = (is_in history file s ≡ true) × AllIn history file ss

-- stamps ascend, and each stands once
abbrev pub AllAbove : Stamp → List Stamp → Type 0
AllAbove s [] = Unit {0}
AllAbove s (t ∷ ts) = (is_stamp_below s t ≡ true) × AllAbove s ts

abbrev pub Ascending : List Stamp → Type 0
Ascending [] = Unit {0}
Ascending (s ∷ ss) = AllAbove s ss × Ascending ss

-- the same as a test
abbrev pub ascend : List Stamp → Bool
ascend [] = true
ascend (s ∷ []) = true
ascend (s ∷ t ∷ ts) = is_stamp_below s t && ascend (t ∷ ts)

-- a site's stamps are numbered from 1 on
abbrev pub has_number : Stamp → Bool
has_number s = (s.site == 0) || not (s.n == 0)

-- of stamps in order the last of each site
abbrev pub tops : List Stamp → List Stamp
tops [] = []
tops (s ∷ []) = s ∷ []
tops (s ∷ t ∷ ts) = cond (s.site == t.site) (tops (t ∷ ts)) (s ∷ tops (t ∷ ts))

-- stamps behind a last one, if there is one
abbrev pub with_last : Option Stamp → List Stamp → List Stamp
with_last None ss = ss
with_last (Some s) ss = s ∷ ss
