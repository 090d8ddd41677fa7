use Rattle.tree_laws.proofs.Orders.ProcessOperationsRun.{operations_counted}
use Rattle.tree_laws.proofs.process.operations_are_counted.Goals as goal

pub returns : goal.returns
returns c = λ config trace e i g at h granted now live found. operations_counted config trace h e i g granted now live at found
