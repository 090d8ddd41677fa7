use Rattle.audit_laws.proofs.Turns.Turns.{in_turn}
use Rattle.audit_laws.proofs.turn_laws.changed_comes_in_turn.Goals as goal

pub returns : goal.returns
returns g c named r before each due = in_turn c named r before each due
