use Rattle.tree_laws.specs.Printed.{entries}
use Rattle.tree_laws.proofs.Rows.{followed_rows}
use Rattle.store_laws.proofs.Holdings.Below.{commits_new}
use Rattle.store_laws.proofs.Holdings.Holding.{below_kept}
use Rattle.store_laws.proofs.holding_laws.known_versions_are_below_kept_ones.Goals as goal

pub returns : goal.returns
returns c = λ config trace e f stamp followed laws k. below_kept config (entries trace) (followed_rows config trace followed) (commits_new config trace followed laws.once) e f stamp k
