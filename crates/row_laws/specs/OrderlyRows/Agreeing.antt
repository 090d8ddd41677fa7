-- What an orderly schedule comes to: each line by which a site starts has its epoch by the end of its block's round.
use Rattle.std.specs.Prelude.{ℕ, ◌≡◌, ◌-◌, List, take, Some, None}
use Rattle.locus_ids.specs.declared.sites.Links.{Links}
use Rattle.schedule_lines.specs.Cluster.{config_of}
use Rattle.schedule_lines.specs.declared.line.ScheduleLine.{ScheduleLine}
use Rattle.tree_model.specs.Folds.{Trace}
use Rattle.lawful_trace.specs.Places.{line_at, initiator}
use Rattle.lawful_trace.specs.Orderly.{IsBlock, IsOrderly}
use Rattle.the_run.specs.Worlds.{World}
use Rattle.the_run.specs.Runs.{run_in, run}
use Rattle.row_laws.specs.Shown.{trace_of}
use Rattle.row_laws.specs.Orderly.Agreeing.{Agrees}
use Rattle.row_laws.specs.Orderly.Blocks.{StartsBy}
use Rattle.row_laws.specs.Orderly.Quiet.{IsQuiet}

-- the run of the lines passes no limit
abbrev pub IsWithin : List ScheduleLine → Type 0
IsWithin lines = (run lines).over ≡ None

-- the world after so many lines
abbrev pub world_at : List ScheduleLine → ℕ → World
world_at lines k = run_in (config_of lines) (take k lines)

-- the trace of the whole run
abbrev pub trace_at_end : List ScheduleLine → Trace
trace_at_end lines = trace_of (run lines)

-- The site starts by line n, and asks these. By the end of the round the chosen set, as the line finds the world, is in one epoch
-- of the site, whose members are exactly these with their boots; the others that it asked are in none; and all is quiet.
pub record BlockAgrees (lines : List ScheduleLine) (n site settle : ℕ) : Type 0 where
  pub polled : Links
  pub starts : StartsBy (line_at lines n) (world_at lines (n - 1)) site polled
  pub agrees : Agrees (world_at lines (n - 1)) (world_at lines settle) site polled
  pub quiet : IsQuiet (world_at lines settle)

abbrev pub OrderlyBlocksAgree : List ScheduleLine → Type 0
OrderlyBlocksAgree lines = (n site settle : ℕ) → initiator lines (trace_at_end lines) n ≡ Some site → IsBlock lines (trace_at_end lines) n settle → IsOrderly lines (trace_at_end lines) settle → BlockAgrees lines n site settle
