-- The promise of commits: when they come, what they keep, and what they leave out.
use Rattle.std.specs.Prelude.{List}
use Rattle.schedule_lines.specs.Cluster.{config_of}
use Rattle.schedule_lines.specs.declared.line.ScheduleLine.{ScheduleLine}
use Rattle.tree_model.specs.Folds.{Trace}
use Rattle.headline_laws.specs.Promises.Acknowledged.{NewOnceAcknowledged}
use Rattle.headline_laws.specs.Promises.Committing.{AbortsDropUncommitted, CommitsAreAsked}
use Rattle.headline_laws.specs.Promises.Moments.{VersionsHoldThroughout}

pub record CommitsHold (lines : List ScheduleLine) (trace : Trace) : Type 0 where
  -- a version is committed only in a step of a call that commits
  pub asked : CommitsAreAsked (config_of lines) trace
  -- so what is aborted was never committed
  pub dropped : AbortsDropUncommitted (config_of lines) trace
  -- what a commit or a close is answered with is new, and its site has it or a version above it from then on
  pub new : NewOnceAcknowledged (config_of lines) trace
  -- after each record each commit is an ancestor of a version that is kept, or kept itself, in each epoch that knows it
  pub kept : VersionsHoldThroughout (config_of lines) trace
