use Rattle.tree_laws.proofs.Orders.ProcessOwner.{owner_act, owner_release}
use Rattle.tree_laws.proofs.process.askers_own_their_steps.Goals as goal

pub returns : goal.returns
returns c = record {
  acts = λ config trace e d i o h inside asks. owner_act config trace e d i o h inside asks;
  releases = λ config trace e d i h inside asks. owner_release config trace e d i h inside asks;
}
