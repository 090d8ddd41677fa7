-- The counters of the versions of a file at one site, each computed once.
use Rattle.std.specs.Prelude.{ℕ, ◌+◌, ◌==◌, cond, List, [], ◌∷◌}
use Rattle.locus_ids.specs.declared.ids.FileId.{FileId}
use Rattle.locus_ids.specs.declared.ids.Stamp.{Stamp}
use Rattle.commit_graph.specs.declared.history.Version.{Version}
use Rattle.commit_graph.specs.Versions.{is_version, same_file}
use Rattle.commit_graph.specs.Counters.{counter, greatest}

-- the counter of a version that stands on these
abbrev pub counter_on : List Version → FileId → ℕ → Version → ℕ
counter_on older file site v = greatest (λ p. counter older file p site) v.parents + cond (v.site == site) 1 0

-- the counters of the versions of a file, and 0 for each version of another; in the order of the history
abbrev pub counters_of : FileId → ℕ → List Version → List ℕ
counters_of file site [] = []
counters_of file site (v ∷ older) = cond (same_file v.file file) (counter_on older file site v) 0 ∷ counters_of file site older

-- the number beside the version of the file with this stamp, and 0 where there is none
abbrev pub counter_in : List ℕ → List Version → FileId → Stamp → ℕ
counter_in [] versions file b = 0
counter_in (n ∷ ns) [] file b = 0
counter_in (n ∷ ns) (v ∷ older) file b = cond (is_version file b v) n (counter_in ns older file b)
