use Rattle.tree_laws.proofs.Hearing.{asks_next, asks_look}
use Rattle.tree_laws.proofs.laws.requests_are_next.Goals as goal

pub returns : goal.returns
returns c = record {
  next = λ config trace d w h k other. asks_next config trace d w h k other;
  looks = λ config trace d f what h k. asks_look config trace d f what h k;
}
