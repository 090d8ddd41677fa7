-- Rounds that end by their budget.
use Rattle.std.specs.Prelude.{ℕ, ◌≡◌, ◌<◌, true, List, take}
use Rattle.std.specs.List.{list_any}
use Rattle.locus_ids.specs.declared.config.Config.{Config}
use Rattle.schedule_lines.specs.declared.line.Line.TheVariants as line
use Rattle.schedule_lines.specs.declared.line.ScheduleLine.{ScheduleLine}
use Rattle.schedule_lines.specs.declared.line.ScheduleLine.TheVariants.{Event}
use Rattle.the_run.specs.Runs.{run_in}
use Rattle.lawful_trace.specs.Calm.{tells_budget}
use Rattle.lawful_trace.specs.Places.{line_at}
use Rattle.row_laws.specs.Shown.{trace_of}

-- When a round tells that it ended by its budget, more packets than its budget have been sent in the run so far, those of the round
-- among them: packets that were left from before it and those that were dropped count.
abbrev pub BudgetsWerePassed : Config → List ScheduleLine → Type 0
BudgetsWerePassed c lines = (n most : ℕ) → line_at lines n ≡ Event (line.Settle most) → list_any (tells_budget n) (trace_of (run_in c lines)) ≡ true → most < (run_in c (take n lines)).packets
