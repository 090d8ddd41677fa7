use Rattle.site_node.proofs.Ticks.{adds_then}
use Rattle.site_node.proofs.Again.{order_at}
use Rattle.std.specs.List.{AllByRecursion}
use Rattle.packet_order.specs.Counts.{FitsIfCounted}
use Rattle.the_run.specs.Steps.{repeats_inside}
use Rattle.site_node.specs.Views.{view_of}
use Rattle.site_node.proofs.Fitted.{fit_again}
use Rattle.site_node.proofs.node.SiteNode.repeat_inside.Goals as goal

pub returns-clause-adds : goal.returns-clause-adds
returns-clause-adds c = λ image e h. adds_then _ _ _ _ _ (c.in_ok-repeat_reports.ensures.adds image h) (adds_then _ _ _ _ _ c.in_ok-repeat_requests.ensures.adds (adds_then _ _ _ _ _ (c.in_ok-repeat_closes.ensures.adds image) (adds_then _ _ _ _ _ c.in_ok-repeat_pulls.ensures.adds c.in_ok-repeat_notices.ensures.adds)))

pub returns-in_err-repeat_reports-clause-unfit : goal.returns-in_err-repeat_reports-clause-unfit
returns-in_err-repeat_reports-clause-unfit c so image e shown fit = order_at {S = Unit {0}} (AllByRecursion FitsIfCounted (repeats_inside c.args.self.now.frame e (view_of c.args.self.now image))) c.from_residual.result c.in_err-repeat_reports.field-0.0 c.from_residual.ensures.1
    (λ is all. c.in_err-repeat_reports.ensures.unfit is image shown (fit_again c.args.self.now.frame e (view_of c.args.self.now image) all).reports) so fit

pub returns-in_err-repeat_requests-clause-unfit : goal.returns-in_err-repeat_requests-clause-unfit
returns-in_err-repeat_requests-clause-unfit c so image e shown fit = order_at {S = Unit {0}} (AllByRecursion FitsIfCounted (repeats_inside c.args.self.now.frame e (view_of c.args.self.now image))) c.from_residual-in_err-repeat_requests.result c.in_err-repeat_requests.field-0.0 c.from_residual-in_err-repeat_requests.ensures.1
    (λ is all. c.in_err-repeat_requests.ensures.fit is) so fit

pub returns-in_err-repeat_closes-clause-unfit : goal.returns-in_err-repeat_closes-clause-unfit
returns-in_err-repeat_closes-clause-unfit c so image e shown fit = order_at {S = Unit {0}} (AllByRecursion FitsIfCounted (repeats_inside c.args.self.now.frame e (view_of c.args.self.now image))) c.from_residual-in_err-repeat_closes.result c.in_err-repeat_closes.field-0.0 c.from_residual-in_err-repeat_closes.ensures.1
    (λ is all. c.in_err-repeat_closes.ensures.unfit is image (fit_again c.args.self.now.frame e (view_of c.args.self.now image) all).closes) so fit

pub returns-in_err-repeat_pulls-clause-unfit : goal.returns-in_err-repeat_pulls-clause-unfit
returns-in_err-repeat_pulls-clause-unfit c so image e shown fit = order_at {S = Unit {0}} (AllByRecursion FitsIfCounted (repeats_inside c.args.self.now.frame e (view_of c.args.self.now image))) c.from_residual-in_err-repeat_pulls.result c.in_err-repeat_pulls.field-0.0 c.from_residual-in_err-repeat_pulls.ensures.1
    (λ is all. c.in_err-repeat_pulls.ensures.unfit is (fit_again c.args.self.now.frame e (view_of c.args.self.now image) all).pulls) so fit

pub returns-in_err-repeat_notices-clause-unfit : goal.returns-in_err-repeat_notices-clause-unfit
returns-in_err-repeat_notices-clause-unfit c so image e shown fit = order_at {S = Unit {0}} (AllByRecursion FitsIfCounted (repeats_inside c.args.self.now.frame e (view_of c.args.self.now image))) c.from_residual-in_err-repeat_notices.result c.in_err-repeat_notices.field-0.0 c.from_residual-in_err-repeat_notices.ensures.1
    (λ is all. c.in_err-repeat_notices.ensures.unfit is (fit_again c.args.self.now.frame e (view_of c.args.self.now image) all).notices) so fit
