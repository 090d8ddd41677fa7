use Rattle.tree_laws.specs.Printed.{entries}
use Rattle.tree_laws.proofs.Rows.{followed_rows}
use Rattle.rest_laws.proofs.MendStepNumbered.{files_numbered}
use Rattle.rest_laws.proofs.mend_step.files_are_numbered.Goals as goal

pub returns : goal.returns
returns c = λ config trace followed f stamp stands. (files_numbered config (entries trace) (followed_rows config trace followed)).stand f stamp stands
