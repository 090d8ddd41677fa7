use Rattle.std.proofs.Common.{List, ◌++◌, sym, ap, ◌∙◌}
use Rattle.wire_messages.specs.declared.body.Body.TheVariants as body
use Rattle.wire_messages.specs.declared.body.ReportedCopy.{ReportedCopy}
use Rattle.role_steps.specs.Views.{to_sync}
use Rattle.role_steps.specs.Storage.{report_of}
use Rattle.role_steps.specs.declared.copies.FileCopy.{FileCopy}
use Rattle.storage_site.proofs.store.Store.report.Goals as goal

pub returns-clause-packets : goal.returns-clause-packets
returns-clause-packets c v image shown same =
    c.in_ok-send_to_sync.ensures.packets
    ∙ ap (λ (copies : List ReportedCopy). c.args.out.now.packets ++ to_sync c.args.frame.now c.args.group (body.Report c.args.group copies))
    (c.in_ok-copies.ensures image shown ∙ ap (λ (copies : List FileCopy). report_of c.args.group copies) (sym same))
