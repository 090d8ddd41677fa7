use Rattle.tree_laws.proofs.Syncs.Makes.{make_fine}
use Rattle.tree_laws.proofs.sync_laws.makes_are_asked_of_their_sites.Goals as goal

pub returns : goal.returns
returns c = λ config n trace f t us serial number process request file set k serving said group_is fact. make_fine config n trace f t serving said us serial number process request file set k group_is fact
