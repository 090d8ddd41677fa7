-- What is promised of the lines and of the trace of which a command writes: all of it of one trace.
use Rattle.std.specs.Prelude.{◌≡◌, true, List, reverse}
use Rattle.schedule_lines.specs.declared.line.ScheduleLine.{ScheduleLine}
use Rattle.audited_runs.specs.of_headline_laws.Commits.{CommitsHold}
use Rattle.audited_runs.specs.of_headline_laws.Replies.{RepliesHold}
use Rattle.audited_runs.specs.of_headline_laws.Rows.{RowsHold}
use Rattle.headline_laws.specs.of_promises.Beside.{comes_promptly, commits_when_asked, refusals_change_nothing}
use Rattle.headline_laws.specs.of_promises.Headline.{Headline}
use Rattle.headline_laws.specs.of_promises.Past.{nothing_yet}
use Rattle.headline_laws.specs.of_promises.Traces.{each}
use Rattle.headline_laws.specs.of_promises.Lines.{IsAskedFor}
use Rattle.headline_laws.specs.of_promises.Stops.{Stops}
use Rattle.schedule_lines.specs.Cluster.{config_of}
use Rattle.audited_runs.specs.of_headline_laws.TheRun.{IsOfRun}
use Rattle.headline_laws.specs.of_lawful_trace.Lawful.{IsLawful}
use Rattle.headline_laws.specs.of_promises.Convergence.{Convergence}
use Rattle.headline_laws.specs.of_promises.Progress.{Progress}
use Rattle.headline_laws.specs.of_tree_model.Folds.{Trace}
use Rattle.audited_runs.specs.Answered.{IsAuditedWell}
use Rattle.headline_laws.specs.Boxes.Boxes.{Boxed}
use Rattle.steady_laws.specs.OneVersion.{ReadsOneVersion}

-- however the command ends
pub record Holds (lines : List ScheduleLine) (trace : Trace) : Type 0 where
  -- it is the trace of which the_run speaks
  pub own : IsOfRun lines trace
  -- the headline, and its stops within disk calls: of the trace as it is printed, the earliest record first
  pub headline : Headline lines (reverse trace)
  pub stops : Stops lines (reverse trace)
  -- and a call that is refused, for another cause than that its epoch has changed, changes no named file
  pub refused : each refusals_change_nothing (config_of lines) (nothing_yet (config_of lines)) (reverse trace) ≡ true
  -- a version is committed only where a call asks for it, and while a reply is owed at once only such replies come
  pub committed : each (commits_when_asked (config_of lines)) (config_of lines) (nothing_yet (config_of lines)) (reverse trace) ≡ true
  pub prompt : each (comes_promptly (config_of lines)) (config_of lines) (nothing_yet (config_of lines)) (reverse trace) ≡ true
  -- the same tree by folds of the trace, and what stands beside the headline
  pub rows : RowsHold lines trace
  pub replies : RepliesHold lines trace
  pub commits : CommitsHold lines trace
  -- and where messages are put into directories by mail alone, boxes merge by themselves
  pub boxes : Boxed (config_of lines) trace
  -- and each read of a steady descriptor is of the version on which that was opened
  pub one_version : ReadsOneVersion (config_of lines) trace

-- and where its input ends it, so where its run has passed no limit
pub record HoldsWithin (lines : List ScheduleLine) (trace : Trace) : Type 0 where
  -- its lines ask for the records, and each line tells what it must
  pub asked : IsAskedFor (config_of lines) lines (reverse trace)
  pub lawful : IsLawful lines trace
  pub progress : Progress lines trace
  pub convergence : Convergence lines trace
  -- and the audit answers it with yes
  pub audited : IsAuditedWell lines trace
