use Rattle.std.proofs.Common.{◌-◌, sym, arith}
use Rattle.partition_protocol.proofs.Rows.{some_at, none_at}
use Rattle.partition_protocol.proofs.passed.has_promised.Goals as goal

pub returns-in-Some : goal.returns-in-Some
returns-in-Some c = sym (some_at 1 c.args.site c.in-Some.field-0 c.args.promises.now (c.from.result - 1) (omega (arith, c.told-promises)) (omega arith) c.in-Some.is)

pub returns-in-None : goal.returns-in-None
returns-in-None c = sym (none_at 1 c.args.site c.args.promises.now (c.from.result - 1) (omega (arith, c.told-promises)) (omega arith) c.in-None.is)
