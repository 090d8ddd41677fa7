-- How many calls and opens a using site has counted.
use Rattle.std.specs.Prelude.{ℕ, ◌≡◌, ◌≤◌, Some}
use Rattle.role_steps.specs.Views.{SiteView}
use Rattle.the_run.specs.Worlds.{World, Running, place_at}

-- the calls that the site has accepted since its boot, and the serial numbers that it has given
pub record IsCountedLow (v : SiteView) : Type 0 where
  pub calls : v.users.calls ≤ 134479872
  pub serials : v.users.serials ≤ 134479872

abbrev pub CountsAreLow : World → Type 0
CountsAreLow w = (s : ℕ) (v : SiteView) → place_at w s ≡ Some (Running v) → IsCountedLow v
