use Rattle.std.proofs.Common.{◌∙◌, take}
use Rattle.audit_told_calls.proofs.Found.{asked_of_home, if_ok}
use Rattle.audit_told_calls.proofs.asked.asks_after.Goals as goal

pub returns : goal.returns
returns c = if_ok c.asks_after.result c.asks_after.ensures (λ w e. e ∙ asked_of_home c.args.config.now c.args.told.now c.args.row.now c.members_of-members.result c.epoch.result c.requires c.epoch.ensures c.members_of-members.ensures (take c.args.count c.args.row.now.answers))
