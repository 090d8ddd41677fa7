use Rattle.tree_laws.proofs.Orders.ProcessTaken.{asked_had, described_had}
use Rattle.tree_laws.proofs.process.what_is_asked_is_had.Goals as goal

pub returns : goal.returns
returns c = record {
  asked = λ config trace e d i h inside at asks. asked_had config trace e d i h inside at asks;
  described = λ config trace s process fd x h stands at. described_had config trace h s process fd x stands at;
}
