-- A site whose disk made more calls than pass stops.
use Rattle.std.specs.Prelude.{◌≡◌, true, List}
use Rattle.locus_ids.specs.declared.config.Config.{Config}
use Rattle.trace_book.specs.declared.entry.Entry.{Entry}
use Rattle.schedule_lines.specs.declared.line.ScheduleLine.{ScheduleLine}
use Rattle.tree_model.specs.Folds.{Trace}
use Rattle.lawful_trace.specs.Prompt.{is_cut_heeded_by, last_writer}

-- Where the record before is of a version on the disk of a site, and that disk has made more calls than pass, the record is of that
-- site's stop.
abbrev pub HeedsItsDisk : Config → List ScheduleLine → Trace → Entry → Type 0
HeedsItsDisk c lines before r = is_cut_heeded_by c lines before r (last_writer before) ≡ true
