use Rattle.std.proofs.Common.{arith}
use Rattle.site_disk.proofs.Counts.{groups_counted}
use Rattle.site_disk.proofs.places.count_groups.Goals as goal

pub returns-clause-groups : goal.returns-clause-groups
returns-clause-groups c = let all = groups_counted c.args.config.now c.args.site in omega arith
