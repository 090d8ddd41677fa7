-- In which order a site keeps what it pulls.
use Rattle.std.specs.Prelude.{ℕ, ◌≡◌, Some}
use Rattle.role_steps.specs.Pulling.{pull_key}
use Rattle.role_steps.specs.Views.{SiteView}
use Rattle.the_run.specs.Worlds.{World, Running, place_at}
use Rattle.tree_laws.specs.Stores.{Ascends}

-- by ascending files, each once
abbrev pub OwnPullsAscend : SiteView → Type 0
OwnPullsAscend v = Ascends pull_key v.pulls

-- so does each site that runs
abbrev pub PullsAscend : World → Type 0
PullsAscend w = (s : ℕ) (v : SiteView) → place_at w s ≡ Some (Running v) → OwnPullsAscend v
