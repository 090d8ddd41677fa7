-- What holds of the versions of files in a run, and of what each epoch keeps of them.
use Rattle.locus_ids.specs.declared.config.Config.{Config}
use Rattle.the_run.specs.Worlds.{World}
use Rattle.site_laws.specs.Kept.VersionVersions.{VersionsHold}
use Rattle.site_laws.specs.Kept.Keeping.{VersionsAreOrdered, CommitsAreKept}
use Rattle.site_laws.specs.Kept.Vectors.{VectorsKeepTheSame}

pub record KeptVersionsHold (c : Config) (w : World) : Type 0 where
  -- what holds of versions and copies
  pub versions : VersionsHold w
  -- ancestors of ancestors are ancestors, and no two versions are ancestors of each other
  pub ordered : VersionsAreOrdered c w
  -- each commit is an ancestor of a kept version in each epoch in which a member brought or published it or one that follows it
  pub kept : CommitsAreKept c w
  -- what is kept by ancestors is what is kept by written vectors
  pub same : VectorsKeepTheSame c w
