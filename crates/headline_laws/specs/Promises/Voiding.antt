-- Lines that are void.
use Rattle.std.specs.Prelude.{ℕ, ◌≡◌, ◌==◌, Bool, true, ◌&&◌, List, ◌∷◌, take}
use Rattle.std.specs.List.{list_any}
use Rattle.locus_ids.specs.declared.config.Config.{Config}
use Rattle.trace_book.specs.declared.entry.Entry.{Entry}
use Rattle.trace_book.specs.declared.record.Record.TheVariants.{Void}
use Rattle.schedule_lines.specs.declared.line.ScheduleLine.{ScheduleLine}
use Rattle.the_run.specs.Runs.{run_in}
use Rattle.the_run.specs.Worlds.{World}
use Rattle.lawful_trace.specs.LineRows.{is_void}
use Rattle.lawful_trace.specs.Places.{lines_before}
use Rattle.row_laws.specs.Shown.{trace_of}

-- the line tells that it is void
abbrev pub tells_void : ℕ → Entry → Bool
tells_void n r = is_void r.what && (r.line == n)

-- The line tells that alone, and leaves sites with their disks, armed disks, circuits and packets as it found them.
pub record ChangesNothing (n : ℕ) (found left : World) : Type 0 where
  pub told : trace_of left ≡ record { line = n; what = Void } ∷ trace_of found
  pub places : left.places ≡ found.places
  pub armed : left.armed ≡ found.armed
  pub circuits : left.circuits ≡ found.circuits
  pub sent : left.sent ≡ found.sent
  pub underway : left.underway ≡ found.underway
  pub lost : left.lost ≡ found.lost

-- A void line changes nothing.
abbrev pub VoidLinesChangeNothing : Config → List ScheduleLine → Type 0
VoidLinesChangeNothing c lines = (n : ℕ) → list_any (tells_void n) (trace_of (run_in c lines)) ≡ true → ChangesNothing n (run_in c (lines_before lines n)) (run_in c (take n lines))
