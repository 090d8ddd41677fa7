-- Circuits by number, and which are up.
use Rattle.std.specs.Prelude.{ℕ, ◌≡◌, ◌+◌, ◌-◌, ◌*◌, ◌/◌, ◌%◌, ◌≤◌, ◌==◌, Bool, false, not, ◌&&◌, cond, List, map, length, slice_index, slice_index_or, slice_set}
use Rattle.std.specs.List.{list_any}
use Rattle.locus_ids.specs.Sizes.{sites_max}
use Rattle.locus_ids.specs.declared.sites.Links.{Links}
use Rattle.the_run.specs.of_role_steps.Views.{all_sites}
use Rattle.the_run.specs.Worlds.{CutCircuit, is_between}

-- the number of the circuit from one site to another, each from 1 to 16
abbrev pub circuit_of : ℕ → ℕ → ℕ
circuit_of from to = sites_max * (from - 1) + (to - 1)

abbrev pub sender_on : ℕ → ℕ
sender_on circuit = circuit / sites_max + 1

abbrev pub receiver_on : ℕ → ℕ
receiver_on circuit = circuit % sites_max + 1

-- the circuit between two sites is among those that are cut
abbrev pub is_cut_among : List CutCircuit → ℕ → ℕ → Bool
is_cut_among cuts a b = list_any (is_between a b) cuts

-- a table that tells of each circuit whether it is cut
pub record TellsCuts (table : List Bool) (cuts : List CutCircuit) : Type 0 where
  pub room : length table ≡ 256
  pub each : (a b : ℕ) → 1 ≤ a → a ≤ sites_max → 1 ≤ b → b ≤ sites_max → slice_index_or table (circuit_of a b) false ≡ is_cut_among cuts a b

-- the boot number of a site that is reached from another, by the boots of those that run, site 1 first; else 0
abbrev pub reached_boot : List CutCircuit → List ℕ → ℕ → ℕ → ℕ
reached_boot cuts boots s t = cond (is_cut_among cuts s t) 0 (slice_index boots (t - 1))

abbrev pub reached_boots : List CutCircuit → List ℕ → ℕ → Links
reached_boots cuts boots s = record { boot = map (reached_boot cuts boots s) all_sites }

abbrev pub boot_in : List ℕ → ℕ → ℕ
boot_in boots s = slice_index boots (s - 1)

-- the circuit is up where both sites run and it isn't cut
abbrev pub is_up_among : List CutCircuit → List ℕ → ℕ → ℕ → Bool
is_up_among cuts boots a b = not (boot_in boots a == 0) && (not (boot_in boots b == 0) && not (is_cut_among cuts a b))

-- a table that tells of each circuit whether it is up
pub record TellsUp (table : List Bool) (cuts : List CutCircuit) (boots : List ℕ) : Type 0 where
  pub room : length table ≡ 256
  pub each : (a b : ℕ) → 1 ≤ a → a ≤ sites_max → 1 ≤ b → b ≤ sites_max → slice_index_or table (circuit_of a b) false ≡ is_up_among cuts boots a b

-- a table with the circuits of both directions marked
abbrev pub both_marked : List Bool → ℕ → ℕ → Bool → List Bool
both_marked table a b is_cut = slice_set (slice_set table (circuit_of a b) is_cut) (circuit_of b a) is_cut
