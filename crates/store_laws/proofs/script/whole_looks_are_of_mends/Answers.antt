use Rattle.store_laws.proofs.ScriptWholes.{whole_served, wholes_brought}
use Rattle.store_laws.proofs.script.whole_looks_are_of_mends.Goals as goal

pub returns : goal.returns
returns c = record {
  whole = λ config trace e d request times f asked s h was. whole_served config trace e d request times f asked s h was;
  wholes = λ config trace d caller file stamp h named asked. wholes_brought config trace d caller file stamp named asked;
}
