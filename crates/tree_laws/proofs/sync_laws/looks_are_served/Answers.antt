use Rattle.tree_laws.proofs.Syncs.Looks.{look_fine}
use Rattle.tree_laws.proofs.sync_laws.looks_are_served.Goals as goal

pub returns : goal.returns
returns c = λ config n trace f t us l serving group_is k. look_fine config n trace f t serving us l group_is k
