use Rattle.merge_protocol.proofs.Leaving.{passes_round}
use Rattle.merge_protocol.proofs.laws.passing_by_parts.Goals as goal

pub returns : goal.returns
returns c = passes_round
