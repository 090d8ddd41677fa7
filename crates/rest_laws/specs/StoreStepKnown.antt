-- What is known of a call by the ranges of what was told.
use Rattle.std.specs.Prelude.{◌≡◌, ◌<◌}
use Rattle.locus_ids.specs.declared.config.Config.{Config}
use Rattle.locus_ids.specs.declared.ids.CallId.{CallId}
use Rattle.store_laws.specs.of_site_laws.Vectors.HistoryCommits.{IsSite}
use Rattle.tree_model.specs.declared.accepted.Waiting.{Waiting}
use Rattle.tree_laws.specs.Processes.{IsMend}
use Rattle.store_laws.specs.OneTree.Rest.{IsNumberedLow, RangeCall}

-- the call is of one of the sites, and of a process of one byte, of which 0 makes mends alone; where a line asked it, it is in range, and its name
-- has numbers of 32 bits
pub record IsKnownCall (c : Config) (d : CallId) (w : Waiting) : Type 0 where
  pub site : IsSite d.site
  pub small : w.process < 256
  pub only : w.process ≡ 0 → IsMend w.words
  pub range : RangeCall c d.site w.process w.words
  pub name : IsNumberedLow d w.words
