use Rattle.std.proofs.Common.{◌∙◌, sym, ap, subst, List, ◌++◌}
use Rattle.wire_messages.specs.declared.body.ReportedCopy.{ReportedCopy}
use Rattle.site_packs.specs.Packs.{PacksState, ArePacks, pack_in, pack_reported}
use Rattle.site_packs.proofs.Reports.{report_is}
use Rattle.site_packs.proofs.packs.SitePacks.report.Goals as goal

pub returns : goal.returns
returns c image shown =
    let are = subst (λ (p : PacksState). ArePacks 0 0 p.site p.packs) c.self.view_is c.self.invariant in
    c.in_ok-report_group.ensures
    ∙ ap (λ (l : List ReportedCopy). l ++ pack_reported (pack_in c.args.group c.args.self.now.packs)) c.new-copies.ensures
    ∙ sym (report_is 0 0 c.args.self.now.site c.args.group c.args.self.now.packs image are shown)
