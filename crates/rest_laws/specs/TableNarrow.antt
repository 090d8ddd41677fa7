-- What the laws of calls give: each call is of one of the sixteen sites.
use Rattle.std.specs.Prelude.{◌≡◌, ◌≤◌, List, Some}
use Rattle.locus_ids.specs.declared.config.Config.{Config}
use Rattle.locus_ids.specs.declared.ids.CallId.{CallId}
use Rattle.locus_ids.specs.Sizes.{sites_max}
use Rattle.the_run.specs.Worlds.{Line}
use Rattle.tree_model.specs.declared.accepted.Waiting.{Waiting}
use Rattle.tree_model.specs.Calls.{call_named}
use Rattle.tree_laws.specs.Printed.{entries}
use Rattle.store_laws.specs.OneTree.Rest.{Past}

pub record CallsAreNarrow (c : Config) : Type 0 where
  pub sites : (trace : List Line) → Past c trace → (d : CallId) (w : Waiting) → call_named (entries trace) d ≡ Some w → d.site ≤ sites_max
