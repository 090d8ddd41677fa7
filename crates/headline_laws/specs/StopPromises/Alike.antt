-- The disk of a site by the folds over a trace, as the promise of stops has it; and traces along which the past and the folds agree.
use Rattle.std.specs.Prelude.{List, [], ◌∷◌, Option, None, Some}
use Rattle.locus_ids.specs.declared.config.Config.{Config}
use Rattle.trace_book.specs.declared.entry.Entry.{Entry}
use Rattle.schedule_lines.specs.declared.line.Leave.{Leave}
use Rattle.tree_model.specs.Folds.{Trace}
use Rattle.lawful_trace.specs.Disks.{Arming as FoldArming, Stops, Fails, Armed, calls_of}
use Rattle.headline_laws.specs.WholeRuns.Wrote.{Disk as FoldDisk}
use Rattle.promises.specs.Stops.{Arming, Disk}
use Rattle.past_laws.specs.Agreement.{Agrees, past}
use Rattle.past_laws.specs.Along.{ComesSo}

-- how unsynced bytes are left, where a stop and not a fault was armed
abbrev pub leaves_of : FoldArming → Option Leave
leaves_of (Stops calls leave) = Some leave
leaves_of (Fails calls) = None

abbrev pub armed_as : Option Armed → List Arming
armed_as None = []
armed_as (Some a) = record { calls = calls_of a.arming; leaves = leaves_of a.arming; used = a.used } ∷ []

abbrev pub disk_as : FoldDisk → Disk
disk_as d = record { armed = armed_as d.rest.armed; halves = d.rest.halves; slots = d.slots }

-- The record comes as those of every run do, and before it both formulations agree.
pub record ComesAgreed (c : Config) (before : Trace) (r : Entry) : Type 0 where
  pub comes : ComesSo c before r
  pub agrees : Agrees c before (past c before)

-- each record does
abbrev pub EachAgreed : Config → Trace → Type 0
EachAgreed c [] = Unit {0}
EachAgreed c (r ∷ before) = ComesAgreed c before r × EachAgreed c before
