use Rattle.std.proofs.Common.{◌∙◌, sym}
use Rattle.packet_mail.proofs.Listing.{listed_is}
use Rattle.packet_mail.proofs.mail.Mail.listed.Goals as goal

pub returns : goal.returns
returns c = listed_is c.args.number c.in-Some-Some.from c.in-Some-Some.to c.kind-kind.result c.args.self.now (sym c.in-Some-Some.is-0 ∙ c.sender.ensures) (sym c.in-Some-Some.is-1 ∙ c.receiver.ensures) c.kind-kind.ensures
