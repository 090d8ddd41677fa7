use Rattle.tree_laws.proofs.Orders.ProcessCurrentOpens.{granted_waits, refused_waits}
use Rattle.tree_laws.proofs.process.answered_opens_wait.Goals as goal

pub returns : goal.returns
returns c = record {
  granted = λ config trace e d request i m f stamp ss kept h plain was same. granted_waits config trace h e d request i m f stamp ss kept plain was same;
  refused = λ config trace e d request i m why h was same. refused_waits config trace h e d request i m why was same;
}
