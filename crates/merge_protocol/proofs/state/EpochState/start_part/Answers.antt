use Rattle.std.proofs.Common.{◌∙◌, ◌++◌, ap, sym}
use Rattle.site_frame.specs.Printed.{printed}
use Rattle.role_steps.specs.Views.{Outcome, SiteView}
use Rattle.merge_protocol.proofs.Leaving.{part_is}
use Rattle.merge_protocol.proofs.state.EpochState.start_part.Goals as goal

pub returns-clause-packets : goal.returns-clause-packets
returns-clause-packets c = c.in_ok-left.ensures.packets ∙ ap (λ (o : Outcome SiteView). c.args.out.now.packets ++ o.sent) (part_is c.args.me c.args.links.now c.in-Some-next_number.number c.polled_part-polled.result c.args.self.now c.in-Some.epoch (sym c.in-Some.ensures) c.in-Some-next_number.ensures.value c.polled_part-polled.ensures)

pub returns-clause-records : goal.returns-clause-records
returns-clause-records c = c.in_ok-left.ensures.records ∙ ap (λ (o : Outcome SiteView). c.args.out.now.records ++ printed o.told) (part_is c.args.me c.args.links.now c.in-Some-next_number.number c.polled_part-polled.result c.args.self.now c.in-Some.epoch (sym c.in-Some.ensures) c.in-Some-next_number.ensures.value c.polled_part-polled.ensures)
