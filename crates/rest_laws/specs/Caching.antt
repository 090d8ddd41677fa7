-- Pages of versions in the memory of sites.
use Rattle.std.specs.Prelude.{ℕ, ◌≡◌, Some}
use Rattle.locus_ids.specs.declared.config.Config.{Config}
use Rattle.role_steps.specs.Views.{SiteView}
use Rattle.the_run.specs.Worlds.{World, Running, place_at}
use Rattle.tree_laws.specs.Caches.Right.{AreRight}
use Rattle.tree_laws.specs.Users.{contents_in}

-- each page that a running site has in memory is that page of its version: of the content that the commit of this stamp tells, or the format
abbrev pub CachedPagesAreRight : Config → World → Type 0
CachedPagesAreRight c w = (s : ℕ) (v : SiteView) → place_at w s ≡ Some (Running v) → AreRight (contents_in c w.trace) v.users.cache
