-- What the versions kept in an epoch have among their ancestors.
use Rattle.std.specs.Prelude.{◌≡◌, true, List}
use Rattle.locus_ids.specs.declared.config.Config.{Config}
use Rattle.locus_ids.specs.declared.ids.EpochId.{EpochId}
use Rattle.locus_ids.specs.declared.ids.FileId.{FileId}
use Rattle.locus_ids.specs.declared.ids.Stamp.{Stamp}
use Rattle.commit_graph.specs.declared.history.Version.{Version}
use Rattle.commit_graph.specs.Versions.{is_ancestor}
use Rattle.tree_model.specs.State.{has_stamp}
use Rattle.the_run.specs.Worlds.{World}
use Rattle.site_laws.specs.Kept.Printed.{versions_of, known_in, kept_of}

-- ---- ancestors ----

-- ancestors of ancestors are ancestors, and of two versions not each is an ancestor of the other
pub record AreOrdered (history : List Version) (file : FileId) : Type 0 where
  pub through : (a b c : Stamp) → is_ancestor history file a b ≡ true → is_ancestor history file b c ≡ true → is_ancestor history file a c ≡ true
  pub apart : (a b : Stamp) → is_ancestor history file a b ≡ true → is_ancestor history file b a ≡ true → a ≡ b

-- so it is with the versions of a run
abbrev pub VersionsAreOrdered : Config → World → Type 0
VersionsAreOrdered c w = (file : FileId) → AreOrdered (versions_of c w) file

-- ---- kept versions ----

-- one of the kept versions has it among its ancestors
pub record IsUnderKept (history : List Version) (file : FileId) (kept : List Stamp) (a : Stamp) : Type 0 where
  pub version : Stamp
  pub is_kept : has_stamp kept version ≡ true
  pub ancestor : is_ancestor history file a version ≡ true

-- Each version, and so each commit, is an ancestor of a kept version in each epoch in which a member brought or published it, or
-- a version that has it among its ancestors.
abbrev pub CommitsAreKept : Config → World → Type 0
CommitsAreKept c w = (e : EpochId) (file : FileId) (known a : Stamp) → has_stamp (known_in c w e file) known ≡ true → is_ancestor (versions_of c w) file a known ≡ true → IsUnderKept (versions_of c w) file (kept_of c w e file) a
