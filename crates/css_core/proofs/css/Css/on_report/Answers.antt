use Rattle.std.proofs.Common.{◌≡◌, ◌++◌, OnOk, subst}
use Rattle.site_frame.specs.Printed.{printed}
use Rattle.role_steps.specs.Views.{Outcome}
use Rattle.role_steps.specs.declared.synchronizing.SyncTable.{SyncTable}
use Rattle.css_core.proofs.Reported.{reported_as}
use Rattle.css_core.proofs.css.Css.on_report.Goals as goal

pub returns-clause-view : goal.returns-clause-view
returns-clause-view c =
    subst (λ (o : Outcome SyncTable). OnOk c.answers_report.result (c.answers_report.new.self ≡ o.view)) (reported_as c.args.frame.now c.args.from c.args.copies.now c.args.self.now) c.answers_report.ensures.view

pub returns-clause-packets : goal.returns-clause-packets
returns-clause-packets c =
    subst (λ (o : Outcome SyncTable). OnOk c.answers_report.result (c.answers_report.new.out.packets ≡ c.args.out.now.packets ++ o.sent)) (reported_as c.args.frame.now c.args.from c.args.copies.now c.args.self.now) c.answers_report.ensures.packets

pub returns-clause-records : goal.returns-clause-records
returns-clause-records c =
    subst (λ (o : Outcome SyncTable). OnOk c.answers_report.result (c.answers_report.new.out.records ≡ c.args.out.now.records ++ printed o.told)) (reported_as c.args.frame.now c.args.from c.args.copies.now c.args.self.now) c.answers_report.ensures.records
