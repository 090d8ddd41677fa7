use Rattle.rest_laws.proofs.EpochTreeJoins.{joins_fine}
use Rattle.rest_laws.proofs.epoch_tree.sites_join_with_nothing.Goals as goal

pub returns : goal.returns
returns c = λ config n trace me e members v past outside fresh. joins_fine config n trace me e members v past outside fresh
