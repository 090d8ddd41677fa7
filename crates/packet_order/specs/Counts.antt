-- The counts in a packet, whose types say how great they may be.
use Rattle.std.specs.Prelude.{◌<◌, ◌^◌}
use Rattle.wire_messages.specs.Packets.{FitsPacket}
use Rattle.wire_messages.specs.declared.body.Body.{Body}
use Rattle.wire_messages.specs.declared.body.Body.TheVariants as body
use Rattle.wire_messages.specs.declared.packet.Packet.{Packet}

-- each count in the body has a number of its size
abbrev pub IsCounted : Body → Type 0
IsCounted (body.Open serial call process request file how) = (serial < 2 ^ 32) × (call < 2 ^ 32) × (request < 2 ^ 16)
IsCounted (body.OpenSs inst file mode set k base vector parents) = inst.serial < 2 ^ 32
IsCounted (body.Opened inst answer) = inst.serial < 2 ^ 32
IsCounted (body.OpenDone serial answer) = serial < 2 ^ 32
IsCounted (body.Op serial number op seen) = (serial < 2 ^ 32) × (number < 2 ^ 32)
IsCounted (body.OpDone serial number outcome) = (serial < 2 ^ 32) × (number < 2 ^ 32)
IsCounted (body.ReadHeld serial number at len) = (serial < 2 ^ 32) × (number < 2 ^ 32)
IsCounted (body.AsHeld serial number len) = (serial < 2 ^ 32) × (number < 2 ^ 32)
IsCounted (body.Close serial) = serial < 2 ^ 32
IsCounted (body.Closed inst version) = inst.serial < 2 ^ 32
IsCounted (body.ClosedOk inst) = inst.serial < 2 ^ 32
IsCounted (body.CloseDone serial answer) = serial < 2 ^ 32
IsCounted (body.Look call process request take file what) = (call < 2 ^ 32) × (request < 2 ^ 16) × (take < 2 ^ 32)
IsCounted (body.LookSs us call process request take file what serve) = (call < 2 ^ 32) × (request < 2 ^ 16) × (take < 2 ^ 32)
IsCounted (body.LookDone call request take answer) = (call < 2 ^ 32) × (request < 2 ^ 16) × (take < 2 ^ 32)
IsCounted _ = Unit {0}

-- the packet is of the format, where its counts are of their sizes
abbrev pub FitsIfCounted : Packet → Type 0
FitsIfCounted p = IsCounted p.body → FitsPacket p
