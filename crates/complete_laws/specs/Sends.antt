-- What the events of a line send is of the format.
use Rattle.std.specs.Prelude.{ℕ, ◌≡◌, Some}
use Rattle.std.specs.List.{AllByRecursion}
use Rattle.locus_ids.specs.declared.config.Config.{Config}
use Rattle.role_steps.specs.Views.{Event, SiteView}
use Rattle.the_run.specs.Steps.{step}
use Rattle.the_run.specs.Worlds.{World, Running, links_of, place_at}
use Rattle.site_node.specs.of_packet_order.Counts.{FitsIfCounted}

-- all that the event sends is of the format, where its counts are of their sizes
abbrev pub SendsFit : Config → ℕ → Event → World → Type 0
SendsFit c s e w = (v : SiteView) → place_at w s ≡ Some (Running v) → AllByRecursion FitsIfCounted (step c s (links_of w s) v e).sent
