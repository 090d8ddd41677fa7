use Rattle.packet_mail.specs.Posts.{sent_at}
use Rattle.packet_mail.proofs.Calls.{kind_is}
use Rattle.packet_mail.proofs.mail.Mail.kind.Goals as goal

pub returns : goal.returns
returns c = kind_is c.letter.result.now c.kind_of_letter.result (sent_at c.args.number c.args.self.now) c.letter.ensures.bytes c.kind_of_letter.ensures
