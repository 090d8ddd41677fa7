use Rattle.std.proofs.Common.{sym, ap, ◌∙◌}
use Rattle.packet_mail.specs.Posts.{Post, sent_at, sender_in, receiver_in, is_lost}
use Rattle.world.specs.States.{state_of}
use Rattle.world.proofs.Letters.{without_sender, without_receiver, come_lost, come_up}
use Rattle.world.proofs.world.World.may_come.Goals as goal

pub returns-in_default : goal.returns-in_default
returns-in_default c = without_sender (state_of c.args.self.now) c.args.number (sym c.in_default.is ∙ (c.sender.ensures ∙ ap (λ (m : Post). sender_in (sent_at c.args.number m)) c.mail-mail.ensures))

pub returns-in_default-receiver : goal.returns-in_default-receiver
returns-in_default-receiver c = without_receiver (state_of c.args.self.now) c.args.number (sym c.in_default-receiver.is ∙ (c.receiver.ensures ∙ ap (λ (m : Post). receiver_in (sent_at c.args.number m)) c.mail-mail.ensures))

pub returns-then-is_lost : goal.returns-then-is_lost
returns-then-is_lost c =
    come_lost (state_of c.args.self.now) c.args.number c.in-Some.from c.in-Some-receiver.to c.is_lost.result
    (sym c.in-Some.is ∙ (c.sender.ensures ∙ ap (λ (m : Post). sender_in (sent_at c.args.number m)) c.mail-mail.ensures))
    (sym c.in-Some-receiver.is ∙ (c.receiver.ensures ∙ ap (λ (m : Post). receiver_in (sent_at c.args.number m)) c.mail-mail.ensures))
    (c.is_lost.ensures ∙ ap (λ (m : Post). is_lost c.args.number m) c.mail-mail.ensures)
    c.if-is_lost.true

pub returns : goal.returns
returns c =
    come_up (state_of c.args.self.now) c.args.number c.in-Some.from c.in-Some-receiver.to c.is_lost.result
    (sym c.in-Some.is ∙ (c.sender.ensures ∙ ap (λ (m : Post). sender_in (sent_at c.args.number m)) c.mail-mail.ensures))
    (sym c.in-Some-receiver.is ∙ (c.receiver.ensures ∙ ap (λ (m : Post). receiver_in (sent_at c.args.number m)) c.mail-mail.ensures))
    (c.is_lost.ensures ∙ ap (λ (m : Post). is_lost c.args.number m) c.mail-mail.ensures)
    c.is_up.result c.if-is_lost.false c.is_up.ensures
