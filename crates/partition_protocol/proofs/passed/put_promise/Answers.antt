use Rattle.std.proofs.Common.{◌-◌, arith}
use Rattle.partition_protocol.proofs.Rows.{put_at}
use Rattle.partition_protocol.proofs.passed.put_promise.Goals as goal

pub returns : goal.returns
returns c = put_at 1 c.args.site c.args.reach c.args.promises.now (c.from.result - 1) (omega (arith, c.told-promises)) (omega arith)
