use Rattle.locus_ids.proofs.Sets.{has-with}
use Rattle.locus_ids.proofs.sites.Sites.with.Goals as goal

pub returns-clause-members : goal.returns-clause-members
returns-clause-members c = rw c.bit.ensures.power (λ other h. has-with c.args.self c.args.site other c.bit.ensures.low h)
