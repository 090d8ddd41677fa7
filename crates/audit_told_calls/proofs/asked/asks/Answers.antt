use Rattle.std.proofs.Common.{◌∙◌}
use Rattle.audit_told_calls.proofs.Found.{asked_of_home, if_ok}
use Rattle.audit_told_calls.proofs.asked.asks.Goals as goal

pub returns : goal.returns
returns c = if_ok c.asks.result c.asks.ensures (λ w e. e ∙ asked_of_home c.args.config.now c.args.told.now c.args.row.now c.members_of-members.result c.epoch.result c.requires c.epoch.ensures c.members_of-members.ensures c.args.row.now.answers)
