-- Which call a line of the input of a tree asks.
use Rattle.std.specs.Prelude.{ℕ, ◌≡◌, true, List, ◌++◌, Option, None, Some, codes}
use Rattle.locus_ids.specs.declared.config.Config.{Config}
use Rattle.disk_calls.specs.of_schedule_lines.Cluster.{config_of}
use Rattle.disk_calls.specs.of_schedule_lines.Ranges.{fits_event}
use Rattle.disk_calls.specs.of_schedule_lines.Spelling.{event_spelling, is_passed}
use Rattle.disk_calls.specs.of_schedule_lines.declared.line.Line.{Line}
use Rattle.disk_calls.specs.of_schedule_lines.declared.line.Line.TheVariants as line
use Rattle.the_run.specs.Commands.{Asked, opening_lines}

-- the cluster of every tree
abbrev pub tree_cluster : Config
tree_cluster = config_of (opening_lines 100000)

abbrev pub call_line : Asked → Line
call_line a = line.Call a.site a.process a.words

-- the bytes ask this call, which is spelled without its first word; or, empty or a comment, nothing
abbrev pub Asks : List ℕ → Option Asked → Type 0
Asks bytes None = is_passed bytes ≡ true
Asks bytes (Some a) = (codes "call " ++ bytes ≡ event_spelling (call_line a)) × (fits_event tree_cluster.sites (call_line a) ≡ true)

-- the bytes ask some call
pub record MayAsk (bytes : List ℕ) : Type 0 where
  pub asked : Asked
  pub asks : Asks bytes (Some asked)
