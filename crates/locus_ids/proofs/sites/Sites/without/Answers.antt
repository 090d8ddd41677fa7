use Rattle.std.proofs.Common.{◌<◌, arith}
use Rattle.locus_ids.specs.Sizes.{set_span}
use Rattle.locus_ids.proofs.Sets.{has-without}
use Rattle.locus_ids.proofs.sites.Sites.without.Goals as goal

pub returns-clause-members : goal.returns-clause-members
returns-clause-members c =
    let fits : c.args.self.0 < set_span = omega arith in
    rw c.bit.ensures.power (λ other h. has-without c.args.self c.args.site other fits c.bit.ensures.low c.bit.ensures.high h)
