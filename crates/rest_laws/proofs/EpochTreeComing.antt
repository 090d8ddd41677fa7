-- A report comes as it may: it is answered; the first of a member counts; and with the last one the group starts with all that was
-- brought.
use Rattle.std.proofs.Common.{◌≡◌, ℕ, true, false, List, Some, sym, ◌∙◌, subst, ◌⊎◌, inl, inr}
use Rattle.role_steps.proofs.of_plain_facts.Tests.{true_false}
use Rattle.locus_ids.specs.declared.config.Config.{Config}
use Rattle.locus_ids.specs.declared.ids.EpochId.{EpochId}
use Rattle.wire_messages.specs.declared.body.Body.TheVariants as body
use Rattle.wire_messages.specs.declared.body.ReportedCopy.{ReportedCopy}
use Rattle.wire_messages.specs.declared.packet.Packet.{Packet}
use Rattle.role_steps.specs.Own.{Every}
use Rattle.role_steps.specs.Reports.{have_all_reported, on_report, with_report}
use Rattle.role_steps.specs.Views.{Frame}
use Rattle.role_steps.specs.declared.synchronizing.FileRow.{FileRow}
use Rattle.role_steps.specs.declared.synchronizing.Holding.{Holding}
use Rattle.role_steps.specs.declared.synchronizing.SyncTable.{SyncTable}
use Rattle.the_run.specs.Worlds.{Line}
use Rattle.tree_laws.specs.Doing.{TableFine}
use Rattle.tree_laws.specs.Instances.{IsStarted, held_in}
use Rattle.tree_laws.specs.Packets.{BodyFact, IsReporter, ReportFact, ReportsNow, file_in}
use Rattle.tree_laws.specs.Printed.{entries}
use Rattle.tree_laws.specs.Tables.{FilesFact, HoldsJust, ReportedFiles, TableFact}
use Rattle.tree_laws.proofs.Boots.{every_both}
use Rattle.store_laws.specs.OneTree.Rest.{AllRest}
use Rattle.store_laws.specs.OneTree.Roles.{Came, Ready, TableHere}
use Rattle.rest_laws.specs.EpochTreeCounting.{IsNotedRight}
use Rattle.rest_laws.specs.EpochTreeStarting.{BroughtFiles}
use Rattle.rest_laws.specs.EpochTreeWaiting.{RequestsDo}
use Rattle.rest_laws.proofs.EpochTreeCounted.{report_table}
use Rattle.rest_laws.proofs.EpochTreeKnown.{brought_files_are}
use Rattle.rest_laws.proofs.EpochTreeMembers.{reporter_counts, reporter_low}
use Rattle.rest_laws.proofs.EpochTreeNoting.{report_files}
use Rattle.rest_laws.proofs.EpochTreeReporting.{IsLike, report_fine, report_like}

module _ (c : Config) (trace : List Line) (f : Frame) (from : ℕ) (xs : List ReportedCopy) (t : SyncTable) (ready : Ready c trace f) (here : TableHere c trace f t) (reporter : IsReporter c trace f.epoch from t.group) (told : ReportFact c trace f.epoch from t.group xs) where
  -- with the first report of a member the table is what the reports so far have told
  counted : t.started ≡ false → TableFact c trace f (with_report from xs t)
  counted waits = now told
    where
      files : ReportedFiles c trace f t
      files = subst (FilesFact c trace f t) waits here.fact.files

      right : (r : FileRow) → Every (HoldsJust c trace f t r) r.holders → IsNotedRight c trace f.epoch t.group from r
      right r h = every_both (HoldsJust c trace f t r) (λ (q : Holding). q.site ≡ from → held_in c (entries trace) f.epoch from (file_in t.group r.ino) ≡ Some q.stamp) r.holders (λ q k e. subst (λ (s : ℕ). held_in c (entries trace) f.epoch s (file_in t.group r.ino) ≡ Some q.stamp) e k.1) h

      now : IsStarted c trace f.epoch t.group ⊎ ReportsNow c trace f.epoch from t.group xs → TableFact c trace f (with_report from xs t)
      now (inl s) = absurd (true_false (sym (here.fact.started ∙ s) ∙ waits))
      now (inr k) = report_table c trace f from xs t ready.past waits here.fact (every_both (λ (r : FileRow). Every (HoldsJust c trace f t r) r.holders) (IsNotedRight c trace f.epoch t.group from) t.files right files.holds) k.each
          (report_files c trace f from xs t (reporter_low c trace f.epoch from t.group ready.past reporter) files k)

  brought : t.started ≡ false → have_all_reported f (with_report from xs t) ≡ true → BroughtFiles c trace f (with_report from xs t)
  brought waits all = (let like : IsLike (with_report from xs t) t = report_like from xs t in brought_files_are c trace f (with_report from xs t) ready.past ready.frame (counted waits) (like.started ∙ waits) all)

  pub comes_fine : RequestsDo c → (n : ℕ) → AllRest c n trace (on_report f from xs t).told → TableFine c n trace f t.group (on_report f from xs t)
  comes_fine does n fresh = report_fine c does n trace f from xs t ready here (λ s. (reporter_counts c trace f from t ready.past ready.frame reporter (here.fact.all s)).1) (record { counts = λ waits new. counted waits; brought = brought }) fresh

-- the step as the induction over a run asks for it
pub reports_come : (c : Config) → RequestsDo c → (n : ℕ) (trace : List Line) (f : Frame) (p : Packet) (group : ℕ) (copies : List ReportedCopy) (t : SyncTable) → Ready c trace f → TableHere c trace f t → Came c trace f p (body.Report group copies) → t.group ≡ group → AllRest c n trace (on_report f p.from copies t).told →
    TableFine c n trace f group (on_report f p.from copies t)
reports_come c does n trace f p group copies t ready here came is fresh = subst (λ (g : ℕ). TableFine c n trace f g (on_report f p.from copies t)) is (comes_fine c trace f p.from copies t ready here fact.0 fact.1 does n fresh)
  where
    fact : IsReporter c trace f.epoch p.from t.group × ReportFact c trace f.epoch p.from t.group copies
    fact = subst (λ (g : ℕ). IsReporter c trace f.epoch p.from g × ReportFact c trace f.epoch p.from g copies) (sym is)
        (subst (λ (e : EpochId). IsReporter c trace e p.from group × ReportFact c trace e p.from group copies) came.received.epoch_is (subst (BodyFact c trace p) came.body_is came.fact))
