-- The written vector of a version, by the history alone: the counter of site s stands at place s - 1.
use Rattle.std.specs.Prelude.{ℕ, zero, suc, ◌+◌, List, [], ◌∷◌, map}
use Rattle.locus_ids.specs.Sizes.{sites_max}
use Rattle.locus_ids.specs.declared.ids.FileId.{FileId}
use Rattle.locus_ids.specs.declared.ids.Stamp.{Stamp}
use Rattle.commit_graph.specs.declared.history.Version.{Version}
use Rattle.commit_graph.specs.Counters.{counter}

-- so many numbers, from this one on
abbrev pub numbers_from : ℕ → ℕ → List ℕ
numbers_from first zero = []
numbers_from first (suc more) = first ∷ numbers_from (first + 1) more

-- the numbers up to this one, ascending, in front of others
abbrev pub numbers_onto : ℕ → List ℕ → List ℕ
numbers_onto zero others = others
numbers_onto (suc number) others = numbers_onto number (suc number ∷ others)

-- the numbers of all sites that there may be, ascending. They are put together from the last one, so that whatever computes
-- with them has the list whole
abbrev pub all_sites : List ℕ
all_sites = numbers_onto sites_max []

-- the written vector of the version of the file with this stamp, and zeros where there is none: for each of the sixteen
-- sites the greatest counter of its parents, with that of the committing site raised by one
abbrev pub vector_of : List Version → FileId → Stamp → List ℕ
vector_of history file stamp = map (counter history file stamp) (numbers_from 1 sites_max)
