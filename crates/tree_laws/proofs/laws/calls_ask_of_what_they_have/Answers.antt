use Rattle.tree_laws.proofs.OfOwn.{asks_of_own}
use Rattle.tree_laws.proofs.laws.calls_ask_of_what_they_have.Goals as goal

pub returns : goal.returns
returns c = λ config trace d w h named. asks_of_own config trace d h (w, named)
