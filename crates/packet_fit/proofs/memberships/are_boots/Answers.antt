use Rattle.std.proofs.Common.{◌≡◌, length, arith}
use Rattle.std.proofs.lemmas.Bool.Decides.{nat_tests}
use Rattle.locus_ids.specs.Sizes.{sites_max}
use Rattle.packet_fit.proofs.Boots.{boots_fit}
use Rattle.packet_fit.proofs.memberships.are_boots.Goals as goal

pub returns : goal.returns
returns c = (
  λ e. boots_fit c.args.boots.now c.requires (λ k. (c.type_inv.boots k).fits),
  λ f. (let l : length c.args.boots.now ≡ sites_max = c.requires in grind (arith, nat_tests)),
)
