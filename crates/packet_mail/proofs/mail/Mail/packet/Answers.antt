use Rattle.packet_mail.specs.Posts.{sent_at}
use Rattle.packet_mail.proofs.Calls.{packet_told, only_memory}
use Rattle.packet_mail.proofs.mail.Mail.packet.Goals as goal

pub returns-clause-found : goal.returns-clause-found
returns-clause-found c = packet_told c.letter.result.now c.decode.result (sent_at c.args.number c.args.self.now) c.requires c.letter.ensures.bytes c.decode.ensures.found

pub returns-clause-memory : goal.returns-clause-memory
returns-clause-memory c = only_memory c.letter.result.now c.decode.result (sent_at c.args.number c.args.self.now) c.requires c.letter.ensures.bytes c.decode.ensures.only
