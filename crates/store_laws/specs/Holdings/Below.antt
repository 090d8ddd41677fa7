-- The laws of every run on which these rest, as premises on a trace.
use Rattle.std.specs.Prelude.{List}
use Rattle.locus_ids.specs.declared.config.Config.{Config}
use Rattle.site_laws.specs.of_role_steps.Own.{Every}
use Rattle.tree_laws.specs.of_the_run.Worlds.{Line}
use Rattle.site_laws.specs.Vectors.Written.{past_of}
use Rattle.site_laws.specs.Vectors.HistoryCommits.{StampsAreOnce}
use Rattle.site_laws.specs.Packs.Packs.{ToldPacked}
use Rattle.tree_laws.specs.Orders.Joining.{PacksAreOfSites}

pub record LawsBelow (c : Config) (trace : List Line) : Type 0 where
  -- no file has two commits with one stamp
  pub once : StampsAreOnce (past_of trace)
  -- versions are made, adopted and granted where a pack is
  pub packed : Every (ToldPacked c) (past_of trace)
  -- the packs of each group are at some of the sixteen sites
  pub packs : PacksAreOfSites c
