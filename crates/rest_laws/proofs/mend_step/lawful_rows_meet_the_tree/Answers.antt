use Rattle.rest_laws.proofs.MendStepMeeting.{rows_meet}
use Rattle.rest_laws.proofs.mend_step.lawful_rows_meet_the_tree.Goals as goal

pub returns : goal.returns
returns c = λ config lines trace rows counted. rows_meet config lines trace rows counted
