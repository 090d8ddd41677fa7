-- What holds of the versions of files in a run, of what each epoch keeps of them, and of the copies on disks.
use Rattle.locus_ids.specs.declared.config.Config.{Config}
use Rattle.the_run.specs.Worlds.{World}
use Rattle.site_laws.specs.Vectors.Held.{CopiesAreTold}
use Rattle.site_laws.specs.Vectors.Written.{past_of, CommitsAreNumbered}
use Rattle.site_laws.specs.Vectors.HistoryCommits.{NumbersFit}
use Rattle.site_laws.specs.Kept.Known.{NamesAreVersions}
use Rattle.site_laws.specs.Kept.Roots.{RootsFollow}
use Rattle.site_laws.specs.Kept.Kept.{KeptVersionsHold}
use Rattle.rest_laws.specs.CopiesKept.Contents.{CopiesHaveContents}

pub record VersionsStand (c : Config) (w : World) : Type 0 where
  -- what holds of versions, of the copies' stamps and vectors, and of what epochs keep
  pub kept : KeptVersionsHold c w
  -- a commit's stamp names its site, and its parents were told before it, or are the format's
  pub numbered : CommitsAreNumbered (past_of w.trace)
  -- a commit of a root directory has parents, so that the format's version is an ancestor of all
  pub roots : RootsFollow (past_of w.trace)
  -- what a record adopts or publishes is a version by then
  pub named : NamesAreVersions (past_of w.trace)
  -- inode numbers have 16 bits, so that a disk tells all files apart
  pub fit : NumbersFit (past_of w.trace)
  -- of each file a disk holds the version that its site committed or adopted last, and where none was told what the format wrote
  pub told : CopiesAreTold c w

pub record VersionsAndCopiesHold (c : Config) (w : World) : Type 0 where
  pub versions : VersionsStand c w
  -- each copy has the bytes that its version was committed with, and the format's has none
  pub contents : CopiesHaveContents w
