-- What the lawful trace wants of a run's records beside their rows.
use Rattle.std.specs.Prelude.{ℕ, List}
use Rattle.locus_ids.specs.declared.config.Config.{Config}
use Rattle.schedule_lines.specs.declared.line.ScheduleLine.{ScheduleLine}
use Rattle.trace_book.specs.declared.entry.Entry.{Entry}
use Rattle.trace_book.specs.declared.record.Record.{Record}
use Rattle.trace_book.specs.declared.record.Record.TheVariants as says
use Rattle.tree_model.specs.Folds.{Trace}
use Rattle.store_laws.specs.of_row_laws.Rest.{IsCounted}

-- a site that is stopped within a disk call is so at a call that counts
abbrev pub CountedRecord : Config → List ScheduleLine → ℕ → Trace → Record → Type 0
CountedRecord c lines n before (says.Stopped site why) = IsCounted c lines n before site why
CountedRecord c lines n before _ = Unit {0}

abbrev pub IsCountedRow : Config → List ScheduleLine → Trace → Entry → Type 0
IsCountedRow c lines before r = CountedRecord c lines r.line before r.what
