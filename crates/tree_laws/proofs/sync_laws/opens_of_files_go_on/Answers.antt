use Rattle.tree_laws.proofs.Syncs.Answering.{answered_fine}
use Rattle.tree_laws.proofs.sync_laws.opens_of_files_go_on.Goals as goal

pub returns : goal.returns
returns c = λ config n trace f t from inst a serving low k plain. answered_fine config n trace f t serving from inst low a k plain
