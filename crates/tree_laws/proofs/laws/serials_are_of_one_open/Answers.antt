use Rattle.tree_laws.proofs.Serials.{one_open, unnamed}
use Rattle.tree_laws.proofs.laws.serials_are_of_one_open.Goals as goal

pub returns : goal.returns
returns c = record {
  one = λ config trace e d other request number serial f g it how h a b site. one_open config trace e d other request number serial f g it how h a b site;
  unnamed = λ config trace e d request i f it h k site named. unnamed config trace e d request i f it h k site named;
}
