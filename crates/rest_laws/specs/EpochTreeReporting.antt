-- What a table still has to have where a report counts, beside what it has of the trace at all times.
use Rattle.std.specs.Prelude.{ℕ, ◌≡◌, true, false, List}
use Rattle.locus_ids.specs.Sites.{has}
use Rattle.locus_ids.specs.declared.config.Config.{Config}
use Rattle.wire_messages.specs.declared.body.ReportedCopy.{ReportedCopy}
use Rattle.role_steps.specs.Reports.{have_all_reported, with_report}
use Rattle.role_steps.specs.Views.{Frame}
use Rattle.role_steps.specs.declared.synchronizing.SyncTable.{SyncTable}
use Rattle.the_run.specs.Worlds.{Line}
use Rattle.tree_laws.specs.Tables.{TableFact}
use Rattle.rest_laws.specs.EpochTreeStarting.{BroughtFiles}

pub record MayCount (c : Config) (trace : List Line) (f : Frame) (from : ℕ) (xs : List ReportedCopy) (t : SyncTable) : Type 0 where
  -- with the first report of a member the table is what the reports so far have told
  pub counts : t.started ≡ false → has t.reported from ≡ false → TableFact c trace f (with_report from xs t)
  -- and with the last one it is what was brought
  pub brought : t.started ≡ false → have_all_reported f (with_report from xs t) ≡ true → BroughtFiles c trace f (with_report from xs t)
