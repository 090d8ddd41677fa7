-- What holds of the versions of files in a run.
use Rattle.locus_ids.specs.declared.ids.FileId.{FileId}
use Rattle.the_run.specs.Worlds.{World}
use Rattle.site_laws.specs.Vectors.Written.{past_of, VectorsAreWritten}
use Rattle.site_laws.specs.Vectors.HistoryCommits.{commits_of, StampsAreOnce, VectorsTell, CopiesAreTrue, CommitsAreHeld}

pub record VersionsHold (w : World) : Type 0 where
  -- no file has two commits with one stamp
  pub once : StampsAreOnce (past_of w.trace)
  -- of each file a commit's number counts the commits at its site, which form a chain, and of two versions one is an ancestor of the
  -- other exactly where its vector is at most the other's
  pub tell : (file : FileId) → VectorsTell file (commits_of file (past_of w.trace))
  -- each copy, of a running site or a stopped one, is the format's or of a version told, and has its written vector
  pub written : VectorsAreWritten w
  pub copies : CopiesAreTrue w
  -- a site that has committed a file holds a copy that has all those commits among its ancestors
  pub held : CommitsAreHeld w
