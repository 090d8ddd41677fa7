use Rattle.std.proofs.Common.{◌∙◌, ◌++◌, ap}
use Rattle.site_frame.specs.Printed.{printed}
use Rattle.role_steps.specs.Views.{Outcome, SiteView}
use Rattle.merge_protocol.proofs.Leaving.{merge_is}
use Rattle.merge_protocol.proofs.state.EpochState.start_merge.Goals as goal

pub returns-clause-packets : goal.returns-clause-packets
returns-clause-packets c = c.in_ok-left.ensures.packets ∙ ap (λ (o : Outcome SiteView). c.args.out.now.packets ++ o.sent) (merge_is c.args.me c.args.links.now c.in-Some.number c.polled_merge.result c.args.self.now c.in-Some.ensures.value c.polled_merge.ensures)

pub returns-clause-records : goal.returns-clause-records
returns-clause-records c = c.in_ok-left.ensures.records ∙ ap (λ (o : Outcome SiteView). c.args.out.now.records ++ printed o.told) (merge_is c.args.me c.args.links.now c.in-Some.number c.polled_merge.result c.args.self.now c.in-Some.ensures.value c.polled_merge.ensures)
