use Rattle.past_laws.proofs.Agreeing.{may_follow_all, one_tree}
use Rattle.past_laws.proofs.laws.lawful_traces_are_one_tree.Goals as goal

pub returns-clause-next : goal.returns-clause-next
returns-clause-next g c named r before each = may_follow_all c named r before each

pub returns-clause-whole : goal.returns-clause-whole
returns-clause-whole g c named trace each = one_tree c named trace each
