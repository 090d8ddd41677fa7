-- Lines that have told what came of them.
use Rattle.std.specs.Prelude.{ℕ, ◌≡◌, ◌≤◌, true, false, List, None}
use Rattle.schedule_lines.specs.declared.line.ScheduleLine.{ScheduleLine}
use Rattle.lawful_trace.specs.of_tree_model.Folds.{Trace}
use Rattle.site_laws.specs.of_the_run.Worlds.{World}
use Rattle.lawful_trace.specs.Places.{line_at}
use Rattle.lawful_trace.specs.LineRows.{is_told}
use Rattle.row_laws.specs.Shown.{trace_of}
use Rattle.row_laws.specs.Voids.{is_call}

-- the line with this number is told, where it isn't a call
abbrev pub LineTold : List ScheduleLine → Trace → ℕ → Type 0
LineTold lines now m = is_call (line_at lines m) ≡ false → is_told lines now m ≡ true

-- so is each line up to this number
abbrev pub ToldTo : List ScheduleLine → ℕ → Trace → Type 0
ToldTo lines n now = (m : ℕ) → 1 ≤ m → m ≤ n → LineTold lines now m

-- so it is in a world that has passed no limit
abbrev pub TalesTold : List ScheduleLine → ℕ → World → Type 0
TalesTold lines n w = w.over ≡ None → ToldTo lines n (trace_of w)
