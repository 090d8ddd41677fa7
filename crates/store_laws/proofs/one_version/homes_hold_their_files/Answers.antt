use Rattle.tree_laws.specs.Printed.{entries}
use Rattle.tree_laws.proofs.Rows.{followed_rows}
use Rattle.store_laws.proofs.Holdings.OneVersionHomes.{home_holds}
use Rattle.store_laws.proofs.one_version.homes_hold_their_files.Goals as goal

pub returns : goal.returns
returns c = λ config trace followed f stamp home given stands. home_holds config (entries trace) (followed_rows config trace followed) f stamp home given stands
