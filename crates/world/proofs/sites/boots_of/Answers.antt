use Rattle.std.proofs.Common.{arith}
use Rattle.circuits.proofs.Cuts.{of_all_sites}
use Rattle.world.specs.States.{boot_at}
use Rattle.world.proofs.sites.boots_of.Goals as goal

pub returns : goal.returns
returns c = of_all_sites (boot_at c.args.places.now) c.loop-site.boots c.loop-site.invariant.room (λ t l m. c.loop-site.invariant.each t l (omega arith))
