use Rattle.std.proofs.Common.{arith}
use Rattle.partition_protocol.proofs.Rows.{left_is}
use Rattle.partition_protocol.proofs.chosen.fully_connected.Goals as goal

pub returns-clause-connected : goal.returns-clause-connected
returns-clause-connected c = λ a b reach e h g. left_is c.loop-place.left c.args.set c.args.promises.now c.loop-place.place (omega arith) (omega arith) c.told-promises c.loop-place.invariant a b reach e h g
