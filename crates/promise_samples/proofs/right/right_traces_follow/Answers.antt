use Rattle.std.specs.Prelude.{refl}
use Rattle.std.specs.Fmt.{digits}
use Rattle.promise_samples.proofs.right.right_traces_follow.Goals as goal

-- names that are shown with their numbers, and names of messages, which tell numbers
pub returns-clause-directories_meet : goal.returns-clause-directories_meet
unfolding digits
returns-clause-directories_meet c = refl

pub returns-clause-boxes_meet : goal.returns-clause-boxes_meet
unfolding digits
returns-clause-boxes_meet c = refl
