use Rattle.store_laws.proofs.OneTree.Staying.{stays}
use Rattle.store_laws.proofs.OneTree.Steps.{step_fine}
use Rattle.store_laws.proofs.one_tree_laws.sites_do_as_they_may.Goals as goal

pub returns : goal.returns
returns c = λ config n me links trace v e roles past h fact rest. step_fine config roles (stays config) n me links trace v e past h fact rest
