-- The promise that the program's trace is that of the run, and what of a run isn't said by its records: the one file in which promises name
-- the run's definition.
use Rattle.std.specs.Prelude.{◌≡◌, List, None}
use Rattle.schedule_lines.specs.Cluster.{config_of}
use Rattle.schedule_lines.specs.declared.line.ScheduleLine.{ScheduleLine}
use Rattle.the_run.specs.Runs.{run}
use Rattle.headline_laws.specs.Promises.Budgets.{BudgetsWerePassed}
use Rattle.headline_laws.specs.Promises.Delivering.{CalmRoundsDeliverAll}
use Rattle.headline_laws.specs.Promises.Moments.{HoldsAfterEvents}
use Rattle.headline_laws.specs.Promises.OneTrace.{TraceIsOne}
use Rattle.headline_laws.specs.Promises.Steady.{SteadyRoundsAreCalm, TogetherIsTold}
use Rattle.headline_laws.specs.Promises.Voiding.{VoidLinesChangeNothing}
use Rattle.rest_laws.specs.Caching.{CachedPagesAreRight}
use Rattle.row_laws.specs.Shown.{trace_of}
use Rattle.tree_model.specs.Folds.{Trace}
use Rattle.headline_laws.specs.Carried.{CalmRoundsCarry}

pub record TheRun (lines : List ScheduleLine) : Type 0 where
  -- all that is printed of it is of one trace
  pub trace : TraceIsOne (run lines)
  -- after each event, and so at the end, each disk holds of each file just the version that its site has by the trace, whole; versions, by
  -- whichever name, are of one history, have written vectors that tell ancestors, and each copy is a version whole; no call but a mend asks
  -- more than the components of its path and six, or seven for a mail; and a delivery, unless of a report, sends at most one packet that
  -- serves a call, besides opens of mends
  pub events : HoldsAfterEvents (config_of lines) lines
  -- each page that a site has in memory is that page of its version, by the content that the version's commit told
  pub cached : CachedPagesAreRight (config_of lines) (run lines)
  -- a void line changes nothing
  pub voids : VoidLinesChangeNothing (config_of lines) lines
  -- a round ends by its budget only where more packets have been sent in the run
  pub budgets : BudgetsWerePassed (config_of lines) lines
  -- in a calm round all that waits is carried, and where no limit is passed it leaves no packet of its epoch under way
  pub carried : CalmRoundsCarry lines
  pub delivered : (run lines).over ≡ None → CalmRoundsDeliverAll (config_of lines) lines
  -- a round with a budget as large as the packets that there may be is calm by its records where it starts calm; and being together in the
  -- world is being together by the records
  pub steady : SteadyRoundsAreCalm lines
  pub together : TogetherIsTold lines

-- the trace is that of the run of these lines
abbrev pub IsOfRun : List ScheduleLine → Trace → Type 0
IsOfRun lines trace = trace ≡ trace_of (run lines)
