use Rattle.std.proofs.Common.{arith}
use Rattle.packet_mail.proofs.Calls.{pass_is, pass_none}
use Rattle.packet_mail.proofs.mail.Mail.pass.Goals as goal

pub returns-then-number-len : goal.returns-then-number-len
returns-then-number-len c = let i = c.self.inside in pass_is i.queue i.ends.items i.log i.lost.items c.args.self.now c.self.invariant.0 c.self.view_is _ c.args.number c.take.ensures.circuits c.take.ensures.underway

pub returns-else-number-len : goal.returns-else-number-len
returns-else-number-len c = let i = c.self.inside in pass_none i.queue i.ends.items i.log i.lost.items c.args.self.now c.self.invariant.0 c.self.view_is c.args.number (omega arith)
