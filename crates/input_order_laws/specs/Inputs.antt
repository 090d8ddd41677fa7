-- What lines come from: bytes that spell them, calls on the fixed cluster, and draws.
use Rattle.std.specs.Prelude.{ℕ, ◌≡◌, ◌<◌, true, List, []}
use Rattle.schedule_lines.specs.Ranges.{fits_event, is_site}
use Rattle.schedule_lines.specs.Spelling.{header_spelling, event_spelling}
use Rattle.schedule_lines.specs.declared.line.Line.TheVariants as line
use Rattle.schedule_lines.specs.declared.line.ScheduleLine.{ScheduleLine}
use Rattle.schedule_lines.specs.declared.line.ScheduleLine.TheVariants.{Passed, Header, Event}
use Rattle.the_run.specs.Commands.{Asked, Drawn}
use Rattle.the_run.specs.Asking.{tree_cluster, call_line}

-- the bytes of a line; one that is passed over has none
abbrev pub spelling : ScheduleLine → List ℕ
spelling Passed = []
spelling (Header h) = header_spelling h
spelling (Event e) = event_spelling e

-- a round may deliver so many packets
abbrev pub IsSettled : ℕ → Type 0
IsSettled budget = fits_event tree_cluster.sites (line.Settle budget) ≡ true

-- the call is in range for the cluster
abbrev pub IsOnCluster : Asked → Type 0
IsOnCluster a = fits_event tree_cluster.sites (call_line a) ≡ true

-- one of the sites of the cluster, and one of eight names
pub record IsDrawn (d : Drawn) : Type 0 where
  pub site : is_site tree_cluster.sites d.site ≡ true
  pub name : d.name < 8
