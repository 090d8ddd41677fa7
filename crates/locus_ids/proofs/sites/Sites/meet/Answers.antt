use Rattle.locus_ids.proofs.Sets.{has-both}
use Rattle.locus_ids.proofs.sites.Sites.meet.Goals as goal

pub returns-clause-members : goal.returns-clause-members
returns-clause-members c = has-both c.args.self c.args.other
