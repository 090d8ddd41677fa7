use Rattle.std.proofs.Common.{ap, arith}
use Rattle.circuits.specs.Circuits.{reached_boot}
use Rattle.circuits.proofs.Cuts.{of_all_sites}
use Rattle.circuits.proofs.cut.CutCircuits.links_of.Goals as goal

pub returns : goal.returns
returns c = ap (λ b. record { boot = b }) (of_all_sites (reached_boot c.args.self.now c.args.boots.now c.args.from) c.loop-to.boot c.loop-to.invariant.room (λ t l m. c.loop-to.invariant.each t l (omega arith)))
