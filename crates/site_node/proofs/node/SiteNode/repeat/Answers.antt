use Rattle.site_node.proofs.Starts.{entered_frame}
use Rattle.site_node.proofs.Ticks.{repeats_outside, repeats_within}
use Rattle.site_node.proofs.Again.{again_inside, order_at}
use Rattle.std.specs.List.{AllByRecursion}
use Rattle.packet_order.specs.Counts.{FitsIfCounted}
use Rattle.std.proofs.Common.{sym}
use Rattle.the_run.specs.Steps.{repeats}
use Rattle.site_node.specs.Views.{view_of}
use Rattle.site_node.proofs.Fitted.{forming_fit}
use Rattle.site_node.proofs.node.SiteNode.repeat.Goals as goal

pub returns-in_default-clause-adds : goal.returns-in_default-clause-adds
returns-in_default-clause-adds c = repeats_outside c.epoch-epoch.result c.args.self.now c.args.out.now c.repeat_forming.new.out c.epoch-epoch.ensures c.in_default.is c.in_ok-repeat_forming.ensures.adds

pub returns-clause-adds : goal.returns-clause-adds
returns-clause-adds c = repeats_within c.epoch-epoch.result c.in-Some.epoch c.args.self.now c.enter.new.frame c.args.out.now c.repeat_forming.new.out c.repeat_inside.new.out c.epoch-epoch.ensures c.in-Some.is (entered_frame c.args.self.now c.enter.new.frame c.boot.result c.in-Some.epoch c.enter.ensures c.boot.ensures) c.in_ok-repeat_forming.ensures.adds c.in_ok-repeat_inside.ensures.adds

pub returns-in_err-repeat_forming-clause-unfit : goal.returns-in_err-repeat_forming-clause-unfit
returns-in_err-repeat_forming-clause-unfit c so image shown fit = order_at {S = Unit {0}} (AllByRecursion FitsIfCounted (repeats c.args.self.now.frame.config c.args.self.now.frame.me (view_of c.args.self.now image))) c.from_residual.result c.in_err-repeat_forming.field-0.0 c.from_residual.ensures.1
    (λ is all. c.in_err-repeat_forming.ensures.unfit is image (forming_fit c.args.self.now.frame.config c.args.self.now.frame.me (view_of c.args.self.now image) c.epoch-epoch.result (sym c.epoch-epoch.ensures) all)) so fit

pub returns-in_err-repeat_inside-clause-unfit : goal.returns-in_err-repeat_inside-clause-unfit
returns-in_err-repeat_inside-clause-unfit c so image shown fit = order_at {S = Unit {0}} (AllByRecursion FitsIfCounted (repeats c.args.self.now.frame.config c.args.self.now.frame.me (view_of c.args.self.now image))) c.from_residual-in_err-repeat_inside.result c.in_err-repeat_inside.field-0.0 c.from_residual-in_err-repeat_inside.ensures.1
    (λ is all. c.in_err-repeat_inside.ensures.unfit is image c.in-Some.epoch shown (again_inside c.args.self.now c.enter.new.frame c.epoch-epoch.result c.in-Some.epoch image c.epoch-epoch.ensures c.in-Some.is (entered_frame c.args.self.now c.enter.new.frame c.boot.result c.in-Some.epoch c.enter.ensures c.boot.ensures) all)) so fit
