-- Lines that name sites of their cluster alone, as every schedule that is read does.
use Rattle.std.specs.Prelude.{ℕ, ◌≡◌, ◌≤◌, true, List}
use Rattle.locus_ids.specs.Sizes.{sites_max}
use Rattle.schedule_lines.specs.Cluster.{config_of}
use Rattle.schedule_lines.specs.Ranges.{fits_event}
use Rattle.schedule_lines.specs.declared.line.ScheduleLine.{ScheduleLine}
use Rattle.schedule_lines.specs.declared.line.ScheduleLine.TheVariants.{Event}
use Rattle.role_steps.specs.Own.{Every}

-- an event line names sites of a cluster of so many, and a circuit between two of them
abbrev pub FitsCluster : ℕ → ScheduleLine → Type 0
FitsCluster sites (Event e) = fits_event sites e ≡ true
FitsCluster sites _ = Unit {0}

abbrev pub EachFits : List ScheduleLine → Type 0
EachFits lines = Every (FitsCluster (config_of lines).sites) lines

-- the cluster has no more sites than there may be
abbrev pub IsCluster : List ScheduleLine → Type 0
IsCluster lines = (config_of lines).sites ≤ sites_max
