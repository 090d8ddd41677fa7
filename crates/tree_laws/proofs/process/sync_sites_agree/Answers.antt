use Rattle.tree_laws.proofs.Orders.ProcessSynchronizing.{sync_same}
use Rattle.tree_laws.proofs.process.sync_sites_agree.Goals as goal

pub returns : goal.returns
returns c = λ config m group. sync_same config m group
