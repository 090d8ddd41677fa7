use Rattle.std.proofs.Common.{◌≡◌, length, arith}
use Rattle.std.proofs.lemmas.Bool.Decides.{nat_tests}
use Rattle.locus_ids.specs.Sizes.{sites_max}
use Rattle.packet_fit.proofs.Vectors.{vector_fits}
use Rattle.packet_fit.proofs.fields.are_counters.Goals as goal

pub returns : goal.returns
returns c = (
  λ e. vector_fits c.args.counters.now (grind (arith, nat_tests)) (λ k. (c.type_inv.counters k).fits),
  λ f. (let l : sites_max ≡ length c.args.counters.now = f.0.0 in grind (arith, nat_tests)),
)
