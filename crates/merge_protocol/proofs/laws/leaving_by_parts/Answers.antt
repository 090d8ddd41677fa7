use Rattle.merge_protocol.proofs.Leaving.{merge_leaves, part_leaves, poll_leaves, refuse_leaves}
use Rattle.merge_protocol.proofs.laws.leaving_by_parts.Goals as goal

pub returns-clause-merge : goal.returns-clause-merge
returns-clause-merge c = merge_leaves

pub returns-clause-part : goal.returns-clause-part
returns-clause-part c = part_leaves

pub returns-clause-poll : goal.returns-clause-poll
returns-clause-poll c = poll_leaves

pub returns-clause-refuse : goal.returns-clause-refuse
returns-clause-refuse c = refuse_leaves
