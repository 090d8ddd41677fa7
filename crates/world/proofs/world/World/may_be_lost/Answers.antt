use Rattle.world.specs.States.{state_of}
use Rattle.std.proofs.Common.{sym, ap, ◌∙◌}
use Rattle.packet_mail.specs.Posts.{Post, is_sent, is_lost}
use Rattle.world.proofs.Letters.{lost_sent, lost_unsent}
use Rattle.world.proofs.world.World.may_be_lost.Goals as goal

pub returns-clause-value : goal.returns-clause-value
returns-clause-value c = lost_sent (state_of c.args.self.now) c.args.number c.is_lost.result (sym (c.is_sent.ensures ∙ ap (λ (m : Post). is_sent c.args.number m) c.mail-mail.ensures) ∙ c.if-not-is_sent.false) (c.is_lost.ensures ∙ ap (λ (m : Post). is_lost c.args.number m) c.mail-mail.ensures)

pub returns-then-not-is_sent-clause-value : goal.returns-then-not-is_sent-clause-value
returns-then-not-is_sent-clause-value c = lost_unsent (state_of c.args.self.now) c.args.number (sym (c.is_sent.ensures ∙ ap (λ (m : Post). is_sent c.args.number m) c.mail-mail.ensures) ∙ c.if-not-is_sent.true)
