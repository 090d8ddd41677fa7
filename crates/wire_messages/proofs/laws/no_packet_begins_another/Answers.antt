use Rattle.wire_messages.proofs.PacketLaws.{begins_no_other}
use Rattle.wire_messages.proofs.laws.no_packet_begins_another.Goals as goal

pub returns : goal.returns
returns c = begins_no_other
