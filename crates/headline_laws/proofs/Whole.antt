-- The rows of the tree and all other rows, together; and all that holds of a run.
use Rattle.std.proofs.Common.{◌≡◌, List, None, sym, subst}
use Rattle.schedule_lines.specs.Cluster.{config_of}
use Rattle.schedule_lines.specs.Schedule.{AreInOrder}
use Rattle.schedule_lines.specs.declared.line.ScheduleLine.{ScheduleLine}
use Rattle.the_run.specs.Runs.{run}
use Rattle.lawful_trace.specs.Lawful.{IsLawful}
use Rattle.row_laws.specs.Shown.{trace_of}
use Rattle.row_laws.proofs.CallRows.TreeSum.{tree_lawful}
use Rattle.row_laws.proofs.OrderlyRows.Forms.{blocks_form}
use Rattle.row_laws.proofs.OrderlyRows.OwnLeaves.{leaves_are_own}
use Rattle.tree_laws.specs.Following.{RowsAreLawful}
use Rattle.rest_laws.proofs.Caching.{schedule_pages}
use Rattle.rest_laws.proofs.MendStepMeeting.{rows_meet}
use Rattle.rest_laws.proofs.Run.{schedule_rows}
use Rattle.rest_laws.proofs.Shown.{shown_entries}
use Rattle.headline_laws.proofs.WholeRuns.CutRun.{schedule_counted}
use Rattle.row_laws.proofs.ArmsKept.{run_keeps_calls}
use Rattle.calm_laws.proofs.Calm.{round_carries}
use Rattle.calm_laws.proofs.CalmAnswerAnswered.{calm_left, rounds_answer}
use Rattle.calm_laws.proofs.Convergence.DirectoriesRescued.{rescued, rescued_in_three}
use Rattle.calm_laws.proofs.Convergence.TraceConverging.{converging}
use Rattle.calm_laws.proofs.Convergence.TraceFlagged.{none_flagged}
use Rattle.calm_laws.proofs.Convergence.TraceRescued.{undisturbed_by_trace, rescue_by_trace}
use Rattle.headline_laws.proofs.WholeRuns.Rounds.{large_rounds}
use Rattle.headline_laws.specs.TheRun.{TheRun}
use Rattle.headline_laws.specs.Rows.{RowsHold}
use Rattle.headline_laws.specs.Replies.{RepliesHold}
use Rattle.headline_laws.specs.Commits.{CommitsHold}
use Rattle.promises.specs.Progress.{Progress}
use Rattle.promises.specs.Convergence.{Convergence}
use Rattle.headline_laws.proofs.Promises.Aborting.{aborts_drop}
use Rattle.headline_laws.proofs.Promises.AcknowledgedRuns.{acknowledged_new}
use Rattle.headline_laws.proofs.Promises.BudgetsPassed.{budgets_passed}
use Rattle.headline_laws.proofs.Promises.CommitsAsked.{commits_asked}
use Rattle.headline_laws.proofs.Promises.Delivered.{calm_rounds_deliver}
use Rattle.headline_laws.proofs.Promises.MomentsHold.{after_events}
use Rattle.headline_laws.proofs.Promises.OneTrace.{trace_is_one}
use Rattle.headline_laws.proofs.Promises.Steadying.{steady_rounds, together_is_told}
use Rattle.headline_laws.proofs.Promises.VersionsNow.{versions_throughout}
use Rattle.headline_laws.proofs.Promises.VoidLines.{voids_change_nothing}
use Rattle.headline_laws.proofs.Prompting.Lines.{run_stands}
use Rattle.headline_laws.proofs.Prompting.RunDue.{replies_next}
use Rattle.headline_laws.proofs.Prompting.RunPlaces.{records_stand}
use Rattle.headline_laws.proofs.Prompting.RunSpeaks.{records_speak}
use Rattle.headline_laws.proofs.Prompting.RunReplies.{replies_given, replies_direct}
use Rattle.headline_laws.proofs.Comes.{run_comes}

shown_rows : (lines : List ScheduleLine) → AreInOrder lines → RowsAreLawful (config_of lines) (trace_of (run lines))
shown_rows lines order = subst (RowsAreLawful (config_of lines)) (sym (shown_entries (run lines).trace)) (schedule_rows lines order)

pub run_lawful : (lines : List ScheduleLine) → AreInOrder lines → (run lines).over ≡ None → IsLawful lines (trace_of (run lines))
run_lawful lines order none = tree_lawful lines none (record {
  order = order;
  each = rows_meet (config_of lines) lines (trace_of (run lines)) (shown_rows lines order) (schedule_counted lines order);
})

pub the_run : (lines : List ScheduleLine) → AreInOrder lines → TheRun lines
the_run lines order = record {
  trace = trace_is_one (run lines);
  events = after_events lines order;
  cached = schedule_pages lines order;
  voids = voids_change_nothing lines order;
  budgets = budgets_passed (config_of lines) lines;
  carried = round_carries (config_of lines) (calm_left (config_of lines)) lines;
  delivered = λ none. calm_rounds_deliver lines order none;
  steady = steady_rounds lines order;
  together = together_is_told lines order;
}

pub rows_hold : (lines : List ScheduleLine) → AreInOrder lines → RowsHold lines (trace_of (run lines))
rows_hold lines order = record {
  comes = run_comes lines order (shown_rows lines order);
  places = records_stand lines order;
  speaks = records_speak lines order;
  calls = run_keeps_calls (config_of lines) lines;
}

pub replies_hold : (lines : List ScheduleLine) → AreInOrder lines → RepliesHold lines (trace_of (run lines))
replies_hold lines order = record {
  given = replies_given lines order;
  directly = replies_direct lines order;
  next = replies_next lines order;
  alone = run_stands (config_of lines) lines;
}

pub commits_hold : (lines : List ScheduleLine) → AreInOrder lines → CommitsHold lines (trace_of (run lines))
commits_hold lines order = record {
  asked = commits_asked lines order;
  dropped = aborts_drop lines order;
  new = acknowledged_new lines order;
  kept = versions_throughout lines order;
}

pub progress : (lines : List ScheduleLine) → AreInOrder lines → (run lines).over ≡ None → Progress lines (trace_of (run lines))
progress lines order none = record {
  formed = blocks_form lines order none;
  leaves = leaves_are_own lines order none;
  answers = rounds_answer lines order none;
  rounds = large_rounds (config_of lines) lines;
}

pub convergence : (lines : List ScheduleLine) → AreInOrder lines → (run lines).over ≡ None → Convergence lines (trace_of (run lines))
convergence lines order none = record {
  alike = converging lines order none (calm_left (config_of lines));
  mended = none_flagged lines order none (calm_left (config_of lines));
  shut = undisturbed_by_trace lines order none (calm_left (config_of lines)) (rescued (config_of lines) (calm_left (config_of lines)));
  rescued = rescue_by_trace lines order none (calm_left (config_of lines)) (rescued_in_three (config_of lines) (calm_left (config_of lines)));
}
