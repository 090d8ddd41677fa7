use Rattle.std.proofs.Common.{arith}
use Rattle.dir_format.proofs.Following.{each_counter}
use Rattle.dir_operations.proofs.effects.are_counters.Goals as goal

pub returns : goal.returns
returns c = record { sites = c.requires; counters = each_counter c.args.parts.now (λ i. omega (arith, c.type_inv.parts i)) }
