-- The vector that each version is written with, as the join of its parents' vectors. The laws show that it has the same
-- counters as the written vector of the history alone. A history is a list of versions, the newest first. The counter of
-- site s stands at place s - 1.
use Rattle.std.specs.Prelude.{◌+◌, length, filter, ◌≡◌, ℕ, ◌-◌, ◌==◌, Bool, false, cond, ◌&&◌, List, [], ◌∷◌, replicate}
use Rattle.locus_ids.specs.Sizes.{sites_max}
use Rattle.locus_ids.specs.declared.ids.FileId.{FileId}
use Rattle.locus_ids.specs.declared.ids.Stamp.{Stamp}
use Rattle.version_vector.specs.Counters.{joined, raised}
use Rattle.commit_graph.specs.declared.history.Version.{Version}
use Rattle.commit_graph.specs.Versions.{same_file, is_version, is_in, is_ancestor}

-- no commits
abbrev pub zeros : List ℕ
zeros = replicate sites_max 0

-- the join of what each has
abbrev pub joined_all : {X : Type 0} → (X → List ℕ) → List X → List ℕ
joined_all f [] = zeros
joined_all f (x ∷ xs) = joined (f x) (joined_all f xs)

-- the stamp of the version that a group is formatted with, which no site committed
abbrev pub is_format : Stamp → Bool
is_format s = (s.site == 0) && (s.n == 0)

-- The written vector of the version with this stamp: the join of those of its parents, as far as they stand before
-- it, with the counter of the committing site raised. That of a format version is zero.
abbrev pub written : List Version → FileId → Stamp → List ℕ
written [] file b = zeros
written (v ∷ older) file b = cond (is_version file b v)
    (cond (is_format v.stamp) zeros (raised (joined_all (written older file) v.parents) (v.stamp.site - 1)))
    (written older file b)

-- no file has a stamp twice
abbrev pub NoneTwice : List Version → Type 0
NoneTwice [] = Unit {0}
NoneTwice (v ∷ older) = (is_in older v.file v.stamp ≡ false) × NoneTwice older

-- the version is of this file, and this site committed it
abbrev pub is_made_at : FileId → ℕ → Version → Bool
is_made_at file site v = same_file v.file file && (v.stamp.site == site)

-- how many versions of the file the site committed
abbrev pub made_at : List Version → FileId → ℕ → ℕ
made_at [] file site = 0
made_at (v ∷ older) file site = cond (is_made_at file site v) (made_at older file site + 1) (made_at older file site)

-- each number is that of the site's commits of the file up to this one
abbrev pub Numbered : List Version → Type 0
Numbered [] = Unit {0}
Numbered (v ∷ older) = (v.stamp.n ≡ made_at older v.file v.stamp.site + 1) × Numbered older

-- the counted vector: how many ancestors of a version, itself included, each site committed
abbrev pub ancestors_made_at : List Version → FileId → Stamp → ℕ → ℕ
ancestors_made_at history file b site = length (filter (λ v. is_made_at file site v && is_ancestor history file v.stamp b) history)
