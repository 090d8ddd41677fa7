-- The counters of the written vectors of versions, one site at a time.
use Rattle.std.specs.Prelude.{ℕ, ◌+◌, ◌==◌, max, cond, List, [], ◌∷◌}
use Rattle.locus_ids.specs.declared.ids.FileId.{FileId}
use Rattle.locus_ids.specs.declared.ids.Stamp.{Stamp}
use Rattle.commit_graph.specs.declared.history.Version.{Version}
use Rattle.commit_graph.specs.Versions.{is_version}

-- the greatest number that some stamps have
abbrev pub greatest : (Stamp → ℕ) → List Stamp → ℕ
greatest f [] = 0
greatest f (s ∷ ss) = max (f s) (greatest f ss)

-- the counter of a site in the written vector of a version: the greatest of its parents', and one more where that site
-- committed it
abbrev pub counter : List Version → FileId → Stamp → ℕ → ℕ
counter [] file b site = 0
counter (v ∷ older) file b site = cond (is_version file b v)
    (greatest (λ p. counter older file p site) v.parents + cond (v.site == site) 1 0)
    (counter older file b site)

-- the number of the stamp of a version that the site commits on top of these parents
abbrev pub next_number : List Version → FileId → List Stamp → ℕ → ℕ
next_number history file parents site = greatest (λ p. counter history file p site) parents + 1
