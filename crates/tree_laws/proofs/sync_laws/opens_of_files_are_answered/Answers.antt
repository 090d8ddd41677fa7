use Rattle.tree_laws.proofs.Syncs.Opens.{open_fine}
use Rattle.tree_laws.proofs.sync_laws.opens_of_files_are_answered.Goals as goal

pub returns : goal.returns
returns c = λ config n trace f t us o serving order plain group_is k. open_fine config n trace f t serving order us o plain group_is k
