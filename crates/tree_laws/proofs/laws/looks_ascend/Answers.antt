use Rattle.tree_laws.proofs.Looking.{looked_low}
use Rattle.tree_laws.proofs.laws.looks_ascend.Goals as goal

pub returns : goal.returns
returns c = λ config trace e d request times f what result h only was. looked_low config trace h only e d request times f what result was
