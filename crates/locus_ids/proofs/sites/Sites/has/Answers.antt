use Rattle.std.proofs.Common.{◌-◌}
use Rattle.locus_ids.proofs.Sets.{masked}
use Rattle.locus_ids.proofs.sites.Sites.has.Goals as goal

pub returns : goal.returns
returns c = rw c.bit.ensures.power (masked c.args.self.0 (c.args.site - 1))
