-- The sites by their numbers, and what is known of the circuits that are up.
use Rattle.std.specs.Prelude.{◌≡◌, ℕ, zero, suc, ◌-◌, ◌<◌, ◌≤◌, List, length, Option, None, Some, slice_get, slice_index, map}
use Rattle.locus_ids.specs.Sizes.{sites_max}
use Rattle.locus_ids.specs.declared.sites.Links.{Links}
use Rattle.role_steps.specs.Views.{all_sites}
use Rattle.the_run.specs.Worlds.{Place, CutCircuit, boot_of}
use Rattle.circuits.specs.Circuits.{reached_boots}
use Rattle.site_place.specs.Places.{PlaceState}

-- how a site stands, if it is there
abbrev pub state_at : List PlaceState → ℕ → Option PlaceState
state_at places zero = None
state_at places (suc k) = slice_get places k

abbrev pub place_of : Option PlaceState → Option Place
place_of None = None
place_of (Some p) = Some p.place

-- the boot number of a site that runs, else 0
abbrev pub boot_at : List PlaceState → ℕ → ℕ
boot_at places s = boot_of (place_of (state_at places s))

abbrev pub boots_of : List PlaceState → List ℕ
boots_of places = map (boot_at places) all_sites

-- a table that tells of each site what it reaches at these boots
pub record TellsLinks (links : List Links) (cuts : List CutCircuit) (boots : List ℕ) : Type 0 where
  pub room : length links ≡ sites_max
  pub each : (s : ℕ) → 1 ≤ s → s ≤ sites_max → slice_get links (s - 1) ≡ Some (reached_boots cuts boots s)

-- the boots of so many sites, with 0 behind them
pub record AreOf (sites : ℕ) (boots : List ℕ) : Type 0 where
  pub few : sites ≤ sites_max
  pub none : (s : ℕ) → sites < s → s ≤ sites_max → slice_index boots (s - 1) ≡ 0
