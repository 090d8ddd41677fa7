use Rattle.tree_laws.proofs.Orders.ProcessOpen.{asked_open}
use Rattle.tree_laws.proofs.Orders.ProcessUnreleased.{descriptors_stand}
use Rattle.tree_laws.proofs.process.what_is_asked_is_open.Goals as goal

pub returns : goal.returns
returns c = record {
  asked = λ config trace e d i h inside asks. asked_open config trace e d i h inside asks;
  described = λ config trace s process fd x h stands was. descriptors_stand config trace h s process fd x stands was;
}
