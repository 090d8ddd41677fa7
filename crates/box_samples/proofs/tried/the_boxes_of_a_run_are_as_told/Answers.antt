use Rattle.std.specs.Prelude.{refl}
use Rattle.std.specs.Fmt.{digits}
use Rattle.box_samples.proofs.tried.the_boxes_of_a_run_are_as_told.Goals as goal

-- names of messages tell numbers
pub returns-clause-mailed : goal.returns-clause-mailed
unfolding digits
returns-clause-mailed c = (refl, refl)

pub returns-clause-met : goal.returns-clause-met
unfolding digits
returns-clause-met c = (refl, refl)

pub returns-clause-removed : goal.returns-clause-removed
unfolding digits
returns-clause-removed c = (refl, refl)

pub returns-clause-mailed_beside : goal.returns-clause-mailed_beside
unfolding digits
returns-clause-mailed_beside c = (refl, refl)

pub returns-clause-met_again : goal.returns-clause-met_again
unfolding digits
returns-clause-met_again c = (refl, refl)
