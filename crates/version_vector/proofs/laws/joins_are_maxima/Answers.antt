use Rattle.version_vector.proofs.Counting.{joined-commutes, joined-associates, joined-again}
use Rattle.version_vector.proofs.laws.joins_are_maxima.Goals as goal

pub returns-clause-commutative : goal.returns-clause-commutative
returns-clause-commutative g c = joined-commutes c.args.a.now c.args.b.now

pub returns-clause-associative : goal.returns-clause-associative
returns-clause-associative g c = joined-associates c.args.a.now c.args.b.now c.args.c.now

pub returns-clause-idempotent : goal.returns-clause-idempotent
returns-clause-idempotent g c = joined-again c.args.a.now
