use Rattle.tree_laws.proofs.Rows.{followed_rows}
use Rattle.tree_laws.proofs.laws.followed_traces_are_lawful.Goals as goal

pub returns : goal.returns
returns c = λ config trace h. followed_rows config trace h
