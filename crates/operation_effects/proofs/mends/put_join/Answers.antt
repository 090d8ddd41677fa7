use Rattle.std.proofs.Common.{arith}
use Rattle.operation_effects.proofs.Mended.{too_long_so}
use Rattle.operation_effects.proofs.mends.put_join.Goals as goal

pub returns-then-len-gt-DIRECTORY_BYTES-clause-value : goal.returns-then-len-gt-DIRECTORY_BYTES-clause-value
returns-then-len-gt-DIRECTORY_BYTES-clause-value c = too_long_so c.args.content.now c.args.joined c.args.several (omega arith)
