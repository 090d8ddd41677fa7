use Rattle.past_laws.proofs.Converse.{judged_alike}
use Rattle.past_laws.proofs.laws.what_may_follow_comes_so.Goals as goal

pub returns : goal.returns
returns k c named r before each alike ours h = judged_alike c named r before each alike ours h
