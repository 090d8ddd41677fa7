-- A report, and the start of the group that it may be the last one of.
use Rattle.std.specs.Prelude.{ℕ, Bool, true, false, List, [], ◌∷◌}
use Rattle.locus_ids.specs.Sites.{has}
use Rattle.wire_messages.specs.declared.body.Body.TheVariants as body
use Rattle.wire_messages.specs.declared.body.ReportedCopy.{ReportedCopy}
use Rattle.role_steps.specs.Views.{Frame, Outcome, quiet, sends, and_then, packet}
use Rattle.role_steps.specs.Reports.{have_all_reported, starts, with_report}
use Rattle.role_steps.specs.declared.synchronizing.SyncTable.{SyncTable}

-- each member that has a pack of the group has reported
unfoldable pub all_in : Frame → SyncTable → Bool
all_in f t = have_all_reported f t

unfoldable pub started_by : Frame → SyncTable → Outcome SyncTable
started_by f t = starts f t

abbrev pub starts_once : Bool → Frame → SyncTable → Outcome SyncTable
starts_once true f t = started_by f t
starts_once false f t = quiet t

unfoldable pub starts_where : Frame → SyncTable → Outcome SyncTable
starts_where f t = starts_once (all_in f t) f t

abbrev pub counts_once : Bool → Frame → ℕ → List ReportedCopy → SyncTable → Outcome SyncTable
counts_once true f from xs t = quiet t
counts_once false f from xs t = starts_where f (with_report from xs t)

-- the first report of a member counts
unfoldable pub counted : Frame → ℕ → List ReportedCopy → SyncTable → Outcome SyncTable
counted f from xs t = counts_once (has t.reported from) f from xs t

-- each report is answered
abbrev pub reported_by : Frame → ℕ → List ReportedCopy → SyncTable → Outcome SyncTable
reported_by f from xs t = and_then (sends (packet f from (body.ReportOk t.group) ∷ []) t) (counted f from xs)
