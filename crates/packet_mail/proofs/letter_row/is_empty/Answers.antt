use Rattle.std.proofs.Common.{ap}
use Rattle.wire_messages.specs.Bodies.{body_bytes}
use Rattle.packet_mail.proofs.letter_row.is_empty.Goals as goal

pub returns-in-Poll : goal.returns-in-Poll
returns-in-Poll c = λ _. ap body_bytes c.in-Poll.is

pub returns-in-Joined : goal.returns-in-Joined
returns-in-Joined c = λ _. ap body_bytes c.in-Joined.is
