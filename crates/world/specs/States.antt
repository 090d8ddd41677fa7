-- What the world in code keeps.
use Rattle.std.specs.Prelude.{◌≡◌, ℕ, ◌+◌, ◌<◌, List, length, None, Some, slice_get}
use Rattle.locus_ids.specs.declared.config.Config.{Config}
use Rattle.the_run.specs.Worlds.{Running, CutCircuit, fresh, formatted}
use Rattle.site_place.specs.Places.{PlaceState}
use Rattle.run_book.specs.Ledgers.{Ledger}
pub use Rattle.world.specs.Reached.{state_at, place_of, boot_at, boots_of}
use Rattle.world.specs.declared.world.World.{World}

-- the cluster, its sites from 1 on, the circuits that are cut, and the book
pub record WorldState : Type 0 where
  pub config : Config
  pub places : List PlaceState
  pub circuits : List CutCircuit
  pub book : Ledger

abbrev pub state_of : World → WorldState
state_of x = record { config = x.config; places = x.places.items; circuits = x.cuts; book = x.book }

-- a site of the first world
abbrev pub first_state : Config → ℕ → PlaceState
first_state c s = record { config = c; site = s; place = Running (fresh 1 (formatted c s)); armed = None }

-- so many sites, as in the first world
pub record AreFirst (c : Config) (count : ℕ) (places : List PlaceState) : Type 0 where
  pub size : length places ≡ count
  pub each : (k : ℕ) → k < count → slice_get places k ≡ Some (first_state c (k + 1))
