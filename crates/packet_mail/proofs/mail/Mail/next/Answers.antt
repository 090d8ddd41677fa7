use Rattle.std.proofs.Common.{◌∙◌}
use Rattle.packet_mail.proofs.Calls.{next_is}
use Rattle.packet_mail.proofs.Known.{underway_known}
use Rattle.packet_mail.proofs.mail.Mail.next.Goals as goal

pub returns-clause-value : goal.returns-clause-value
returns-clause-value c = let i = c.self.inside in c.next.ensures ∙ next_is i.queue i.ends.items i.log i.lost.items c.args.self.now c.self.invariant.0 c.self.view_is c.args.up.now

pub returns-clause-known : goal.returns-clause-known
returns-clause-known c = let i = c.self.inside in underway_known i.queue i.ends.items i.log i.lost.items c.args.self.now c.self.invariant.0 c.self.view_is
