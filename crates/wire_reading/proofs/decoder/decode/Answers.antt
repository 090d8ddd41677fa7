use Rattle.std.proofs.Common.{arith}
use Rattle.wire_reading.proofs.Decoded.{found, only}
use Rattle.wire_reading.proofs.decoder.decode.Goals as goal

pub returns-clause-found : goal.returns-clause-found
returns-clause-found c = found c.args.bytes.now c.read_whole.result (λ i. omega (arith, c.type_inv.bytes i)) c.read_whole.ensures

pub returns-clause-only : goal.returns-clause-only
returns-clause-only c = only c.args.bytes.now c.read_whole.result c.read_whole.ensures
