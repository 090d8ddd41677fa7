-- What stands beside a history: the names of its versions and files, and the counters of each version.
use Rattle.std.specs.Prelude.{ℕ, ◌≡◌, ◌<◌, Bool, List, [], ◌∷◌, map, length, reverse}
use Rattle.commit_graph.specs.declared.history.Version.{Version}
use Rattle.commit_graph.specs.Vectors.{numbers_from}
use Rattle.written_vectors.specs.Counting.{counter_on}
use Rattle.key_places.specs.declared.key.Key.{Key}
use Rattle.key_places.specs.Keys.{file_key, version_key}
use Rattle.audit_versions.specs.Regular.{is_regular, AllSited, AllShort}

abbrev pub name_of : Version → Key
name_of v = version_key v.file v.stamp

abbrev pub file_of : Version → Key
file_of v = file_key v.file

-- no site, and all sites that there may be
abbrev pub counted_sites : List ℕ
counted_sites = numbers_from 0 17

-- the counters of a version that stands on these, that of no site first
abbrev pub counts_on : List Version → Version → List ℕ
counts_on older v = map (λ site. counter_on older v.file site v) counted_sites

abbrev pub counts_of : List Version → List (List ℕ)
counts_of [] = []
counts_of (v ∷ older) = counts_on older v ∷ counts_of older

-- the tables are those of the history
pub record Agree (history : List Version) (counts : List (List ℕ)) (names files : List Key) (regular : Bool) : Type 0 where
  pub names_are : names ≡ map name_of history
  pub files_are : files ≡ map file_of history
  pub counts_are : reverse counts ≡ counts_of history
  pub told : regular ≡ is_regular history
  pub few : length history < 4294967295
  pub sited : AllSited history
  pub short : AllShort history
