use Rattle.std.proofs.Common.{◌∙◌, ◌++◌, ap}
use Rattle.site_frame.specs.Printed.{printed}
use Rattle.role_steps.specs.Views.{Outcome, SiteView}
use Rattle.merge_protocol.proofs.Leaving.{refuse_is}
use Rattle.merge_protocol.proofs.state.EpochState.on_refuse.Goals as goal

pub returns-clause-packets : goal.returns-clause-packets
returns-clause-packets c = c.in_ok-left.ensures.packets ∙ ap (λ (o : Outcome SiteView). c.args.out.now.packets ++ o.sent) (refuse_is c.args.me c.args.links.now c.args.id c.args.promised c.in-Some-next_number.number c.in-Some.polled c.args.self.now c.in-Some.ensures c.in-Some-next_number.ensures.value)

pub returns-clause-records : goal.returns-clause-records
returns-clause-records c = c.in_ok-left.ensures.records ∙ ap (λ (o : Outcome SiteView). c.args.out.now.records ++ printed o.told) (refuse_is c.args.me c.args.links.now c.args.id c.args.promised c.in-Some-next_number.number c.in-Some.polled c.args.self.now c.in-Some.ensures c.in-Some-next_number.ensures.value)
