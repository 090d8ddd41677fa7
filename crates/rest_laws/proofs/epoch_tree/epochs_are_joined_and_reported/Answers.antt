use Rattle.rest_laws.proofs.EpochTreeJoins.{epochs_do}
use Rattle.rest_laws.proofs.epoch_tree.epochs_are_joined_and_reported.Goals as goal

pub returns : goal.returns
returns c = λ config. epochs_do config
