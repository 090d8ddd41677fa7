use Rattle.std.proofs.Common.{arith}
use Rattle.pack_layout.proofs.Slots.{found_in}
use Rattle.pack_layout.proofs.read.read_whole.Goals as goal

pub returns-clause-found : goal.returns-clause-found
returns-clause-found c = found_in c.args.bytes.now c.read_all.result (λ i. omega (arith, c.type_inv.bytes i)) c.read_all.ensures
