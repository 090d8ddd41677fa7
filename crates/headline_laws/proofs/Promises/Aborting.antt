-- What an abort drops is in no version.
use Rattle.std.proofs.Common.{List, [], ◌∷◌, sym, subst}
use Rattle.locus_ids.specs.declared.config.Config.{Config}
use Rattle.schedule_lines.specs.Cluster.{config_of}
use Rattle.schedule_lines.specs.Schedule.{AreInOrder}
use Rattle.schedule_lines.specs.declared.line.ScheduleLine.{ScheduleLine}
use Rattle.trace_book.specs.declared.operation.Op.TheVariants as op
use Rattle.trace_book.specs.declared.record.Record.{Record}
use Rattle.trace_book.specs.declared.record.Record.TheVariants as says
use Rattle.role_steps.specs.Views.{Told, Shown}
use Rattle.the_run.specs.Runs.{run}
use Rattle.the_run.specs.Worlds.{Line}
use Rattle.row_laws.specs.Shown.{trace_of}
use Rattle.tree_laws.specs.Following.{IsFollowed, MayTell}
use Rattle.tree_laws.specs.Printed.{entries, onto_entries}
use Rattle.calm_laws.proofs.of_store_laws.Holdings.Holding.{stands_on_held}
use Rattle.rest_laws.proofs.Shown.{shown_entries}
use Rattle.headline_laws.specs.Promises.Committing.{AbortsDropUncommitted, IsUncommitted}
use Rattle.headline_laws.proofs.Promises.RunsHold.{schedule_followed}

-- an open instance stands on what its storage site has
record_drops : (c : Config) (older : List Line) → IsFollowed c older → (r : Record) → MayTell c older (Shown r) → IsUncommitted c (entries older) r
record_drops c older h (says.Act e i n op.Abort result) may = record {
  instance = may.in_time.at;
  found = may.in_time.open_at.found;
  last_is = sym (stands_on_held c older h e i may.in_time.at may.in_time.open_at.found).last_is;
}
record_drops c older h _ may = tt

all_drop : (c : Config) (trace : List Line) → IsFollowed c trace → AbortsDropUncommitted c (entries trace)
all_drop c [] h = tt
all_drop c (x ∷ older) h = over x.told h.0 (all_drop c older h.1)
  where
    over : (y : Told) → MayTell c older y → AbortsDropUncommitted c (entries older) → AbortsDropUncommitted c (onto_entries x.number y (entries older))
    over (Shown r) may old = (record_drops c older h.1 r may, old)
    over _ may old = old

pub aborts_drop : (lines : List ScheduleLine) → AreInOrder lines → AbortsDropUncommitted (config_of lines) (trace_of (run lines))
aborts_drop lines order = subst (AbortsDropUncommitted (config_of lines)) (sym (shown_entries (run lines).trace)) (all_drop (config_of lines) (run lines).trace (schedule_followed lines order))
