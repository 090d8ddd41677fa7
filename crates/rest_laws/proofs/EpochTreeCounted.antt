-- A report that counts: the table with it is so by the trace, where its files are what the reports so far have told.
use Rattle.std.proofs.Common.{◌≡◌, ℕ, false, List, [], ◌∷◌, refl, sym, ◌∙◌, subst}
use Rattle.role_steps.proofs.of_plain_facts.Tests.{true_false}
use Rattle.locus_ids.specs.Sites.{with_site}
use Rattle.locus_ids.specs.declared.config.Config.{Config}
use Rattle.wire_messages.specs.declared.body.ReportedCopy.{ReportedCopy}
use Rattle.role_steps.specs.Own.{Every}
use Rattle.role_steps.specs.Reports.{with_all_reported, with_report, with_reported}
use Rattle.role_steps.specs.Views.{Frame}
use Rattle.role_steps.specs.declared.synchronizing.SyncTable.{SyncTable}
use Rattle.the_run.specs.Worlds.{Line}
use Rattle.tree_laws.specs.Packets.{ReportedNow}
use Rattle.store_laws.specs.OneTree.Rest.{Past}
use Rattle.tree_laws.specs.Tables.{FilesFact, ReportedFiles, TableFact}
use Rattle.rest_laws.specs.EpochTreeCounting.{IsNotedRight, RowsSo}
use Rattle.rest_laws.proofs.EpochTreeCounting.{report_rows}

-- a report changes nothing but the files and who has reported
all_is : (from : ℕ) (xs : List ReportedCopy) (t : SyncTable) → with_all_reported from xs t ≡ record t { files = (with_all_reported from xs t).files }
all_is from [] t = refl
all_is from (x ∷ xs) t = all_is from xs (with_reported from x t)

pub report_is : (from : ℕ) (xs : List ReportedCopy) (t : SyncTable) → with_report from xs t ≡ record t { reported = with_site t.reported from; files = (with_report from xs t).files }
report_is from xs t = all_is from xs (record t { reported = with_site t.reported from })

pub report_table : (c : Config) (trace : List Line) (f : Frame) (from : ℕ) (xs : List ReportedCopy) (t : SyncTable) → Past c trace → t.started ≡ false → TableFact c trace f t → Every (IsNotedRight c trace f.epoch t.group from) t.files → Every (ReportedNow c trace f.epoch from t.group) xs → ReportedFiles c trace f (with_report from xs t) → TableFact c trace f (with_report from xs t)
report_table c trace f from xs t past waits k right told files =
    let rows : RowsSo c trace f.epoch t.group from (with_report from xs t) = report_rows c trace f.epoch t.group from past xs told t (record { rows = k.rows; right = right; rise = k.rise }) in
    subst (TableFact c trace f) (sym (report_is from xs t)) (record {
      started = k.started;
      early = k.early;
      early_here = k.early_here;
      early_only = k.early_only;
      all = λ q. absurd (true_false (sym q ∙ waits));
      rows = rows.rows;
      rise = rows.rise;
      files = subst (FilesFact c trace f (record t { reported = with_site t.reported from; files = (with_report from xs t).files })) (sym waits) (subst (ReportedFiles c trace f) (report_is from xs t) files);
      opens = k.opens;
      apart = k.apart;
      has = k.has;
      openers_are = k.openers_are;
      turns = k.turns;
      looks = k.looks;
    })
