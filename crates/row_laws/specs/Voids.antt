-- Which lines are void, by the world and by the trace.
use Rattle.std.specs.Prelude.{ℕ, ◌≡◌, Bool, true, false, List, take, Some}
use Rattle.locus_ids.specs.declared.config.Config.{Config}
use Rattle.schedule_lines.specs.Ranges.{is_site, fits_event}
use Rattle.schedule_lines.specs.declared.line.Line.{Line as LineWords}
use Rattle.schedule_lines.specs.declared.line.Line.TheVariants as line
use Rattle.schedule_lines.specs.declared.line.ScheduleLine.{ScheduleLine}
use Rattle.schedule_lines.specs.declared.line.ScheduleLine.TheVariants.{Event as EventLine}
use Rattle.trace_book.specs.declared.entry.Entry.{Entry}
use Rattle.trace_book.specs.declared.record.Record.{Record}
use Rattle.trace_book.specs.declared.record.Record.TheVariants as says
use Rattle.lawful_trace.specs.of_tree_model.Folds.{Trace}
use Rattle.site_laws.specs.of_the_run.Worlds.{World, Place, place_at, is_cut}
use Rattle.lawful_trace.specs.Places.{line_at}
use Rattle.lawful_trace.specs.Places as lawful
use Rattle.lawful_trace.specs.LineRows.{IsVoidAsked}
use Rattle.row_laws.specs.Shown.{trace_of, EachRecord}

-- each event line is in range for the cluster, as the reader of schedules has it
abbrev pub LinesFit : Config → List ScheduleLine → Type 0
LinesFit c lines = (n : ℕ) (l : LineWords) → line_at lines n ≡ EventLine l → fits_event c.sites l ≡ true

-- no line cuts a site off from itself
abbrev pub CutsNoSelf : List ScheduleLine → Type 0
CutsNoSelf lines = (n site : ℕ) → line_at lines n ≡ EventLine (line.Down site site) → ⊥

abbrev pub is_call : ScheduleLine → Bool
is_call (EventLine (line.Call site process words)) = true
is_call _ = false

abbrev pub VoidRecord : List ScheduleLine → ℕ → Trace → Record → Type 0
VoidRecord lines n before says.Void = is_call (line_at lines n) ≡ false → IsVoidAsked lines n before
VoidRecord lines n before _ = Unit {0}

-- a line that tells that it is void is so, where it isn't a call
abbrev pub IsVoidRow : List ScheduleLine → Trace → Entry → Type 0
IsVoidRow lines before r = VoidRecord lines r.line before r.what

-- each site of the cluster has its place
abbrev pub HasPlaces : Config → World → Type 0
HasPlaces c w = (s : ℕ) → is_site c.sites s ≡ true → (p : Place) × (place_at w s ≡ Some p)

-- circuits are cut as the lines up to this one have it
abbrev pub CircuitsAs : List ScheduleLine → ℕ → World → Type 0
CircuitsAs lines n w = (a b : ℕ) → is_cut w a b ≡ lawful.is_cut (take n lines) a b

pub record VoidsInCourse (c : Config) (lines : List ScheduleLine) (n : ℕ) (w : World) : Type 0 where
  pub places : HasPlaces c w
  pub circuits : CircuitsAs lines n w
  pub rows : EachRecord (IsVoidRow lines) (trace_of w)
